use mathlib.Core.Path.{◌∙◌, sym, ap}
use mathlib.Core.Bool.{Bool, ◌&&◌}
use Rattle.std.proofs.lemmas.Fn.{always_returns_same}
use borrow.Author.Rules.{rules}
use borrow.Author.Tests.{tests, le-leb}
use lib.IntN.{pos}
use lib.Signed.{lt_z}
use lib.ListN.{take, length}
use Rattle.basis.specs.Order.{rising_z}
use Rattle.graph.proofs.Runs.{rises-sorted}
use Rattle.graph.proofs.sound.ids_rise.Goals as goal

pub returns-then-n-ids : goal.returns-then-n-ids
returns-then-n-ids c =
    rises-sorted lt_z (pos 0) (take c.args.n c.args.ids.now) _
    (c.is_sorted_by.ensures.cases lt_z (always_returns_same _ _ _ (λ a r h k. search (rules, tests))))
    ∙ ap (λ (t : Bool). t && rising_z (take c.args.n c.args.ids.now)) (sym (le-leb c.args.n (length c.args.ids.now) c.if-n-ids.true))
