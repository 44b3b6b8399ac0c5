-- Laws of lists whose members all have a property. Assumes nothing.
use Prim.Native.Nat.{ℕ, zero, suc, ◌-◌}
use mathlib.Core.List.{List, [], ◌∷◌, ◌++◌}
use lib.ListN.{length, get_or, take, replicate}
use Rattle.basis.specs.Refusal.{Said, gives, refuses}
use Rattle.basis.specs.Area.{column, pad_with, leaves}

-- each member has P
abbrev pub All : {A : Type 0} → (A → Type 0) → List A → Type 0
All P [] = Unit {0}
All P (x ∷ l) = P x × All P l

pub all_map : {A : Type 0} {P Q : A → Type 0} → ((x : A) → P x → Q x) → (l : List A) → All P l → All Q l
all_map f [] h = tt
all_map f (x ∷ l) h = (f x h.0, all_map f l h.1)

module _ {A : Type 0} (P : A → Type 0) where
  pub all_append : (a b : List A) → All P a → All P b → All P (a ++ b)
  all_append [] b h g = g
  all_append (x ∷ a) b h g = (h.0, all_append a b h.1 g)

  pub all_same : (n : ℕ) (x : A) → P x → All P (replicate n x)
  all_same zero x h = tt
  all_same (suc n) x h = (h, all_same n x h)

  pub all_take : (n : ℕ) (l : List A) → All P l → All P (take n l)
  all_take zero l h = tt
  all_take (suc n) [] h = tt
  all_take (suc n) (x ∷ l) h = (h.0, all_take n l h.1)

  pub all-at : (l : List A) (i : ℕ) (d : A) → P d → All P l → P (get_or l i d)
  all-at [] i d g h = g
  all-at (x ∷ l) zero d g h = h.0
  all-at (x ∷ l) (suc i) d g h = all-at l i d g h.1

  pub all-column : (f : ℕ → A) → ((v : ℕ) → P (f v)) → (s n : ℕ) → All P (column f s n)
  unfolding column
  all-column f h s zero = tt
  all-column f h s (suc n) = (h s, all-column f h (suc s) n)

  pub all-pad : (z : A) (size : ℕ) (l : List A) → P z → All P l → All P (pad_with z size l)
  all-pad z size l g h = all_append l (replicate (size - length l) z) h (all_same (size - length l) z g)

  pub all_left : {B : Type 0} (said : Said B) (z : A) (size : ℕ) (l : List A) → P z → All P l → All P (leaves said z size l)
  all_left (gives x) z size l g h = all-pad z size l g h
  all_left (refuses r) z size l g h = all_same size z g
