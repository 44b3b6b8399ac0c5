use borrow.Author.Rules.{rules}
use mathlib.Core.Path.{refl}
use Rattle.sssp.proofs.search.serve.Goals as goal

pub returns : goal.returns
returns c = (refl, search rules)
