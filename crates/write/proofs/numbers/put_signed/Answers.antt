use Rattle.write.proofs.Signed.{signed_low, signed_high}
use Rattle.write.proofs.numbers.put_signed.Goals as goal

pub returns-then-z-lt0 : goal.returns-then-z-lt0
returns-then-z-lt0 c = let u = c.unsigned_abs-size.ensures.value in search signed_low

pub returns : goal.returns
returns c = let u = c.unsigned_abs-size.ensures.value in search signed_high
