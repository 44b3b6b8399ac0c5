use Rattle.book.proofs.walk.Given as goal
use mathlib.Core.Path.{◌≡◌}
use Prim.Native.Nat.{◌<◌, ◌-◌}
use lib.ListN.{length}
use Rattle.book.specs.Rules.{walk_from}
use Rattle.book.specs.One.{next_here}
use Rattle.book.proofs.Walked.{rest}

abbrev pub invariant-loop-moves : goal.invariant-loop-moves
invariant-loop-moves l =
    (l.at < length l.entries)
    × (walk_from (next_here l.entries) (length l.entries) l.v ≡ rest (next_here l.entries) (length l.entries) (17 - l.moves) l.moves l.at)
