use mathlib.Core.Path.{◌∙◌, ap₂}
use borrow.Author.Rules.{rules}
use borrow.Author.Tests.{tests}
use Rattle.std.proofs.lemmas.Iterator.{YieldsList-from_slice, YieldsList-from_zip}
use Rattle.std.proofs.lemmas.Iterator.Search.{all_from_yields_List}
use Rattle.graph.specs.Weights.{Leg, legs, has_leg, weighing_of, in_legs, legs_answered}
use Rattle.graph.proofs.Weighings.{answered-is}
use Rattle.graph.proofs.weights.legs_answered.Goals as goal

pub returns : goal.returns
returns c =
    all_from_yields_List (λ (a : Leg). has_leg c.args.u a.1 (in_legs (weighing_of c.args.g) a.0)) c.all.new.self _ _ c.all.ensures.ran
    (YieldsList-from_zip (YieldsList-from_slice c.part.result.now cc) (YieldsList-from_slice c.part-weights.result.now cc))
    (λ x b q k. search (rules, tests)) ∙ answered-is _ _ _ _
    ∙ ap₂ (λ a b. legs_answered (in_legs (weighing_of c.args.g)) c.args.u (legs a b)) c.part.ensures c.part-weights.ensures
