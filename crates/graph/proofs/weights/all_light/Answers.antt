use mathlib.Core.Path.{◌∙◌}
use borrow.Author.Rules.{rules}
use borrow.Author.Tests.{tests}
use lib.Dec.{leb}
use lib.ListN.{take}
use Rattle.std.proofs.lemmas.Iterator.{YieldsList-from_slice}
use Rattle.std.proofs.lemmas.Iterator.Search.{all_from_yields_List}
use Rattle.basis.specs.Limits.{most_weight}
use Rattle.graph.proofs.Runs.{all-first}
use Rattle.graph.proofs.weights.all_light.Goals as goal

pub returns : goal.returns
returns c =
    all_from_yields_List (λ w. leb w most_weight) _ _ _ c.all.ensures.ran (YieldsList-from_slice (take c.args.m c.args.weights.now) cc)
    (λ x b q k. search (rules, tests)) ∙ all-first _ 0 _ _ c.requires
