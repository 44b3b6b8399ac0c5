use Rattle.write.proofs.Digits.{number_small, number_more}
use Rattle.write.proofs.numbers.+put_number.Goals as goal

pub returns-then-n-lt10 : goal.returns-then-n-lt10
returns-then-n-lt10 t c = search number_small

pub returns : goal.returns
returns t c = search number_more
