use Prim.Native.Nat.{◌≤◌}
use mathlib.Core.Path.{◌≡◌}
use lib.ListN.{length, drop}
use Rattle.graph.specs.Sound.{sound_part}
use Rattle.graph.proofs.Steps.{fitting}
use Rattle.graph.proofs.sound.part_sound.Given as goal

abbrev pub invariant-loop-w : goal.invariant-loop-w
invariant-loop-w l = (l.w-index ≤ length l.members) × (fitting l.n l.v l.least (drop l.w-index l.members) ≡ sound_part l.n l.v l.members)
