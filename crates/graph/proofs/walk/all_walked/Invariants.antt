use Prim.Native.Nat.{◌≤◌}
use mathlib.Core.Path.{◌≡◌}
use mathlib.Core.Bool.{true}
use lib.ListN.{length}
use Rattle.graph.specs.Part.{part_of}
use Rattle.graph.specs.Walk.{arcs_checked, all_walked}
use Rattle.graph.proofs.walk.all_walked.Given as goal

abbrev pub invariant-loop-u : goal.invariant-loop-u
invariant-loop-u l =
    (l.u ≤ l.n) × (length l.cursors ≡ length l.initial.cursors)
    × (all_walked l.in_sources (part_of l.n l.out.offsets.now l.out.targets.now) l.u l.initial.cursors
    ≡ arcs_checked true l.cursors)
