use Rattle.lists.proofs.Runs.{Listing}
use Prim.Native.Nat.{◌-◌}
use lib.ListN.{length}
use Rattle.lists.proofs.vertices.scan_vertices.Given as goal

abbrev pub invariant-loop-z : goal.invariant-loop-z
invariant-loop-z l = Listing l.s l.most l.initial.ids l.lines l.ids

abbrev pub decreases-loop-z : goal.decreases-loop-z
decreases-loop-z l = length l.s - l.lines.at.at
