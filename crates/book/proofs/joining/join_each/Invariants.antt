use mathlib.Core.Path.{◌≡◌}
use Prim.Native.Nat.{◌≤◌}
use lib.ListN.{length, drop}
use Rattle.book.specs.Rules.{behind, join_each}
use Rattle.book.specs.One.{one_book}
use Rattle.book.specs.Steps.{Walking}
use Rattle.book.proofs.joining.join_each.Given as goal

abbrev pub invariant-loop-i : goal.invariant-loop-i
invariant-loop-i l =
    (l.i ≤ length l.others) × (l.merges ≤ l.i) × (length l.entries ≡ length l.initial.entries) × Walking l.entries l.u l.at
    × (behind l.i l.merges (join_each one_book l.entries l.u (drop l.i l.others)) ≡ join_each one_book l.initial.entries l.u l.others)
