use mathlib.Core.Path.{◌∙◌}
use borrow.Author.Rules.{rules}
use borrow.Author.Tests.{tests}
use Rattle.std.proofs.lemmas.Iterator.{YieldsList-from_slice}
use Rattle.std.proofs.lemmas.Iterator.Search.{all_from_yields_List}
use Rattle.basis.specs.Scan.{mem}
use Rattle.graph.specs.Part.{part_of}
use Rattle.graph.proofs.Runs.{all-each}
use Rattle.graph.proofs.Steps.{found_member}
use Rattle.graph.proofs.sound.part_answered.Goals as goal

pub returns : goal.returns
returns c =
    all_from_yields_List (λ w. mem c.args.u (part_of c.args.n c.args.back.offsets.now c.args.back.targets.now w)) _ _ _
    c.all.ensures.ran (YieldsList-from_slice c.args.members.now cc) (λ x b q k. search (rules, tests, found_member)) ∙ all-each _ _
