use Rattle.std.proofs.Common.{◌≡◌, ◌++◌, drop}
use Rattle.basis.specs.Area.{column}
use Rattle.basis.proofs.area.fill.Given as goal

abbrev pub invariant-loop-place : goal.invariant-loop-place
invariant-loop-place g l = l.place-items ≡ column (λ k. l.value) 0 l.place-index ++ drop l.place-index l.fn.area
