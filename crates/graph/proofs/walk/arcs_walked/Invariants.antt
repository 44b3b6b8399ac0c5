use Prim.Native.Nat.{◌≤◌}
use mathlib.Core.Path.{◌≡◌}
use lib.ListN.{length, drop}
use Rattle.graph.specs.Walk.{arcs_walked}
use Rattle.graph.proofs.walk.arcs_walked.Given as goal

abbrev pub invariant-loop-w : goal.invariant-loop-w
invariant-loop-w l =
    (l.w-index ≤ length l.targets) × (length l.cursors ≡ length l.initial.cursors)
    × (arcs_walked l.in_sources l.u (drop l.w-index l.targets) l.cursors ≡ arcs_walked l.in_sources l.u l.targets l.initial.cursors)
