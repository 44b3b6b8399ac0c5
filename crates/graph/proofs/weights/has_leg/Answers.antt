use native.Mathlib.Omega.{arith}
use Rattle.graph.proofs.Weighings.{leg-place, leg-here, leg-missing}
use Rattle.graph.proofs.weights.has_leg.Goals as goal

pub offset_bounds-weights-place : goal.offset_bounds-weights-place
offset_bounds-weights-place c =
    omega (arith, leg-place c.requires _ _ _ _ c.part.ensures c.part-weights.ensures _ c.bisect.ensures _ c.in-Some.is)

pub bounds-weights-place : goal.bounds-weights-place
bounds-weights-place c = leg-place c.requires _ _ _ _ c.part.ensures c.part-weights.ensures _ c.bisect.ensures _ c.in-Some.is

pub returns-in-Some : goal.returns-in-Some
returns-in-Some c = leg-here c.requires _ _ _ _ c.part.ensures c.part-weights.ensures _ c.bisect.ensures _ c.in-Some.is _

pub returns-in-None : goal.returns-in-None
returns-in-None c = leg-missing c.requires _ _ _ _ c.part.ensures c.part-weights.ensures _ c.bisect.ensures c.in-None.is _
