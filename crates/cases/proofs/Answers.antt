-- What an answer says determines it, of every answer that is a value or a refusal. The other answers have theirs. Assumes nothing.
use mathlib.Core.Path.{◌≡◌, refl}
use Rattle.std.specs.Prelude.{Result, Ok, Err}
use Rattle.basis.specs.declared.refusal.Refusal.{Refusal}
use Rattle.basis.specs.Refusal.{Said, gives, refuses, said}
use Rattle.basis.proofs.Saids.{one_of}

module _ {A : Type 0} where
  abbrev answered : Said A → Result A Refusal
  answered (gives x) = Ok x
  answered (refuses r) = Err r

  answered-back : (x : Result A Refusal) → answered (said x) ≡ x
  answered-back (Ok x) = refl
  answered-back (Err r) = refl

  pub one-said : (x y : Result A Refusal) → said x ≡ said y → x ≡ y
  one-said = one_of said answered answered-back
