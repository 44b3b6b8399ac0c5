use mathlib.Core.Path.{◌∙◌}
use native.Mathlib.Omega.{arith}
use borrow.Author.Rules.{rules}
use borrow.Author.Tests.{tests}
use Rattle.std.proofs.lemmas.Iterator.{YieldsList-from_range}
use Rattle.std.proofs.lemmas.Iterator.Search.{all_from_yields_List}
use Rattle.graph.specs.Part.{part_of}
use Rattle.graph.specs.Sound.{sound_part}
use Rattle.graph.proofs.Runs.{all-below}
use Rattle.graph.proofs.sound.parts_sound.Goals as goal

pub returns : goal.returns
returns c =
    all_from_yields_List (λ v. sound_part c.args.n v (part_of c.args.n c.args.way.offsets.now c.args.way.targets.now v)) _ _ _
    c.all.ensures.ran (YieldsList-from_range 0 c.args.n c.args.n (cc) (omega arith)) (λ x b q k. search (rules, tests)) ∙ all-below _ _
