use borrow.Author.Rules.{rules}
use Rattle.matching.proofs.coefficients.measured.Goals as goal

pub returns : goal.returns
returns c = search rules
