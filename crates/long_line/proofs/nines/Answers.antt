-- The length by a lemma, since it is too large to be counted out.
use Rattle.std.proofs.Common.{ℕ, sym}
use Rattle.std.proofs.lemmas.List.{length-replicate}
use Rattle.long_line.proofs.nines.Goals as goal

pub returns : goal.returns
returns c = sym (length-replicate {0} {A = ℕ} 1000001 57)
