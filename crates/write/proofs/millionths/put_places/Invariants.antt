use Prim.Native.Nat.{◌-◌}
use Rattle.write.specs.Put.{put_at}
use Rattle.write.specs.Millionths.{places_text}
use Rattle.write.proofs.Places.{Placed}
use Rattle.write.proofs.millionths.put_places.Given as goal

abbrev pub invariant-loop-unit : goal.invariant-loop-unit
invariant-loop-unit l = Placed (put_at l.initial.out l.at (places_text 6 l.rest)) l.out l.next l.left (6 - l.unit-index)
