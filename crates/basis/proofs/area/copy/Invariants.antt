use mathlib.Core.Path.{◌≡◌}
use Rattle.basis.specs.Area.{copied}
use Rattle.basis.proofs.area.copy.Given as goal

abbrev pub invariant-loop-i : goal.invariant-loop-i
invariant-loop-i l = l.to ≡ copied l.i l.from l.initial.to
