use mathlib.Core.Path.{◌≡◌}
use mathlib.Core.Bool.{true}
use Prim.Native.Nat.{◌-◌}
use lib.ListN.{length}
use Rattle.basis.specs.Scan.{every}
use Rattle.matching.specs.Cover.{failing_place}
use Rattle.matching.specs.Verdict.{same_kind, agrees, unlike_vertex}
use Rattle.matching.proofs.kinds.first_unlike.Given as goal

abbrev pub invariant-loop-j : goal.invariant-loop-j
invariant-loop-j l = every l.j (same_kind l.labels l.claims l.i) ≡ true

abbrev pub invariant-loop-i : goal.invariant-loop-i
invariant-loop-i l = unlike_vertex l.labels l.claims ≡ failing_place (agrees l.labels l.claims) (length l.labels - l.i) l.i
