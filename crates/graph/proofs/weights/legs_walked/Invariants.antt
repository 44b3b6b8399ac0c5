use Prim.Native.Nat.{◌≤◌}
use mathlib.Core.Path.{◌≡◌}
use lib.ListN.{length}
use Rattle.graph.proofs.Weighings.{Walking}
use Rattle.graph.proofs.weights.legs_walked.Given as goal

abbrev pub invariant-loop-i : goal.invariant-loop-i
invariant-loop-i l =
    (length l.cursors ≡ length l.initial.cursors) × (l.i ≤ l.g.graph.size.arcs)
    × Walking l.g.graph.size.vertices l.g.graph.size.arcs l.g.graph.outward.offsets.now l.g.graph.outward.targets.now
    l.g.graph.inward.offsets.now l.g.graph.inward.targets.now l.g.out_weights.now l.g.in_weights.now l.i l.cursors
