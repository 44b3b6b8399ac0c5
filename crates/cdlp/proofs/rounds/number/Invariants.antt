use Prim.Native.Nat.{ℕ}
use mathlib.Core.List.{◌++◌}
use mathlib.Core.Path.{◌≡◌}
use lib.ListN.{drop}
use Rattle.basis.specs.Area.{column}
use Rattle.cdlp.proofs.rounds.number.Given as goal

-- a vertex's own number
abbrev pub own : ℕ → ℕ
own v = v

abbrev pub invariant-loop-v : goal.invariant-loop-v
invariant-loop-v l = l.labels ≡ column own 0 l.v ++ drop l.v l.initial.labels
