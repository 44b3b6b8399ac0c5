use mathlib.Core.Path.{◌∙◌}
use native.Mathlib.Omega.{arith}
use borrow.Author.Rules.{rules}
use borrow.Author.Tests.{tests}
use Rattle.std.proofs.lemmas.Iterator.{YieldsList-from_range}
use Rattle.std.proofs.lemmas.Iterator.Search.{all_from_yields_List}
use Rattle.graph.specs.Weights.{weighing_of, in_legs, out_legs, legs_answered}
use Rattle.graph.proofs.Runs.{all-below}
use Rattle.graph.proofs.Weighings.{search-is}
use Rattle.graph.proofs.weights.legs_searched.Goals as goal

pub returns : goal.returns
returns c =
    all_from_yields_List (λ u. legs_answered (in_legs (weighing_of c.args.g)) u (out_legs (weighing_of c.args.g) u)) _ _ _
    c.all.ensures.ran (YieldsList-from_range 0 c.args.g.graph.size.vertices c.args.g.graph.size.vertices (cc) (omega arith))
    (λ x b q k. search (rules, tests)) ∙ all-below _ _ ∙ search-is _ _ _
