use mathlib.Core.Path.{◌∙◌}
use native.Mathlib.Omega.{arith}
use borrow.Author.Rules.{rules}
use borrow.Author.Tests.{tests}
use Rattle.std.proofs.lemmas.Iterator.{YieldsList-from_range}
use Rattle.std.proofs.lemmas.Iterator.Search.{all_from_yields_List}
use Rattle.graph.specs.Part.{part_of}
use Rattle.graph.specs.Steps.{answered}
use Rattle.graph.proofs.Runs.{all-below}
use Rattle.graph.proofs.Steps.{mirrored-is}
use Rattle.graph.proofs.sound.side_answered.Goals as goal

pub returns : goal.returns
returns c =
    all_from_yields_List (λ u. answered c.args.n c.args.back.offsets.now c.args.back.targets.now u
    (part_of c.args.n c.args.from.offsets.now c.args.from.targets.now u)) _ _ _
    c.all.ensures.ran (YieldsList-from_range 0 c.args.n c.args.n (cc) (omega arith)) (λ x b q k. search (rules, tests))
    ∙ all-below _ _ ∙ mirrored-is _ _ _ _ _
