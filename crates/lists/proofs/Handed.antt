-- What `?` returns of a call that was refused: the same refusal. Assumes nothing.
use mathlib.Core.Path.{◌≡◌, refl, ap}
use Rattle.std.specs.Prelude.{Option, Some, None, Result, Ok, Err, IsErrAnd}
use Rattle.std.specs.Option.{ok_or}
use Rattle.basis.proofs.Tests.{no-case}
use Rattle.basis.specs.declared.refusal.Refusal.{Refusal}

pub handed_on : {A : Type 0} {e : Refusal} (r : Result A Refusal) → IsErrAnd r (λ x. x ≡ e) → r ≡ Err e
handed_on (Ok x) h = absurd h
handed_on (Err x) h = ap Err h

-- what `?` takes for none: the refusal that stands for it
pub none-found : {A : Type 0} (x : Option A) (r e : Refusal) → Err e ≡ ok_or x r → (x ≡ None) × (e ≡ r)
none-found None r e h = (refl, (cc))
none-found (Some a) r e h = no-case cc
