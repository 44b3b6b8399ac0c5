-- Laws of the identifiers and the values in a claim's lines. Assumes nothing.
use mathlib.Core.Path.{◌≡◌, refl, ap}
use mathlib.Core.List.{List, [], ◌∷◌, ◌++◌}
use Prim.Native.Nat.{suc}
use lib.IntN.{ℤ}
use lib.ListN.{length}
use Rattle.matching.specs.Claim.{ids_of, claimed_of}

pub ids_more : {A : Type 0} (l : List (ℤ × A)) (x : ℤ × A) → ids_of (l ++ (x ∷ [])) ≡ ids_of l ++ (x.0 ∷ [])
ids_more [] x = refl
ids_more (y ∷ l) x = ap (λ t. y.0 ∷ t) (ids_more l x)

pub values-more : {A : Type 0} (l : List (ℤ × A)) (x : ℤ × A) → claimed_of (l ++ (x ∷ [])) ≡ claimed_of l ++ (x.1 ∷ [])
values-more [] x = refl
values-more (y ∷ l) x = ap (λ t. y.1 ∷ t) (values-more l x)

pub ids-length : {A : Type 0} (l : List (ℤ × A)) → length (ids_of l) ≡ length l
ids-length [] = refl
ids-length (x ∷ l) = ap suc (ids-length l)

pub claimed-length : {A : Type 0} (l : List (ℤ × A)) → length (claimed_of l) ≡ length l
claimed-length [] = refl
claimed-length (x ∷ l) = ap suc (claimed-length l)
