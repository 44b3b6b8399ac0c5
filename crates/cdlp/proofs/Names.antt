-- Labels as vertex numbers and labels as names: rounds on the one are rounds on the other. Assumes nothing.
use Prim.Native.Nat.{ℕ, zero, suc, ◌+◌, ◌<◌, max}
use mathlib.Core.Path.{◌≡◌, refl, sym, ap, ap₂, ◌∙◌, subst}
use mathlib.Core.Bool.{Bool, true, false, cond}
use mathlib.Core.List.{List, [], ◌∷◌}
use native.Mathlib.Omega.{arith}
use lib.ListN.{length, get_or}
use lib.Dec.{eqb, ltb}
use Rattle.basis.specs.Area.{own_numbers}
use Rattle.basis.specs.Order.{rising_by}
use Rattle.basis.proofs.Areas.{column-length, column-is}
use Rattle.basis.proofs.Orders.{Order, less-places, same-places}
use Rattle.basis.specs.Scan.{all_below, bit}
use Rattle.basis.proofs.Scans.{below_at, below_none, below_more, below-first, below_rest}
use Rattle.cdlp.specs.Label.{times, most_times, standing, most_common, smallest, smallest_or, next_label}
use Rattle.cdlp.specs.Rounds.{labels_at, next_at, one_round, rounds}
use Rattle.cdlp.proofs.Lists.{labels-low, labels_at_lem, column-low, column-labels}

-- the next label of numbers below n is below n
standing-low : (n k : ℕ) (ls cs : List ℕ) → all_below n cs ≡ true → all_below n (standing eqb k ls cs) ≡ true
unfolding standing
standing-low n k ls [] h = below_none n
standing-low n k ls (c ∷ cs) h = go (eqb (times eqb c ls) k) (standing-low n k ls cs (below_rest n c cs h))
  where
    go : (t : Bool) → all_below n (standing eqb k ls cs) ≡ true
        → all_below n (cond t (c ∷ standing eqb k ls cs) (standing eqb k ls cs)) ≡ true
    go true l = below_more n c (standing eqb k ls cs) (below-first n c cs h) l
    go false l = l

smallest-low : (n a : ℕ) (cs : List ℕ) → a < n → all_below n cs ≡ true → smallest ltb a cs < n
unfolding smallest
smallest-low n a [] h g = h
smallest-low n a (c ∷ cs) h g = smallest-low n (cond (ltb c a) c a) cs (go (ltb c a)) (below_rest n c cs g)
  where
    go : (t : Bool) → cond t c a < n
    go true = below-first n c cs g
    go false = h

smallest_or-low : (n own : ℕ) (cs : List ℕ) → own < n → all_below n cs ≡ true → smallest_or ltb own cs < n
unfolding smallest_or
smallest_or-low n own [] h g = h
smallest_or-low n own (c ∷ cs) h g = smallest-low n c cs (below-first n c cs g) (below_rest n c cs g)

next_low : (n own : ℕ) (ls : List ℕ) → own < n → all_below n ls ≡ true → next_label eqb ltb own ls < n
unfolding next_label most_common
next_low n own ls h g = smallest_or-low n own (standing eqb (most_times eqb ls ls) ls ls) h (standing-low n (most_times eqb ls ls) ls ls g)

module _ (hears : ℕ → List ℕ) (n : ℕ) (inside : (v : ℕ) → v < n → all_below n (hears v) ≡ true) where
  round-low : (L : List ℕ) → length L ≡ n → all_below n L ≡ true → all_below n (one_round eqb ltb 0 hears n L) ≡ true
  unfolding one_round next_at
  round-low L e h =
      column-low (next_at eqb ltb 0 hears n L) n n
      (λ v l. next_low n (get_or L v 0) (labels_at 0 L (hears v)) (below_at n L h v (omega arith))
      (labels-low n L (hears v) (subst (λ (m : ℕ). all_below m (hears v) ≡ true) (sym e) (inside v l)) h))

  pub rounds-length : (L : List ℕ) (k : ℕ) → length L ≡ n → length (rounds eqb ltb 0 hears n L k) ≡ n
  unfolding rounds one_round
  rounds-length L zero e = e
  rounds-length L (suc k) e = column-length (next_at eqb ltb 0 hears n (rounds eqb ltb 0 hears n L k)) 0 n

  pub rounds-low : (L : List ℕ) (k : ℕ) → length L ≡ n → all_below n L ≡ true → all_below n (rounds eqb ltb 0 hears n L k) ≡ true
  unfolding rounds
  rounds-low L zero e h = h
  rounds-low L (suc k) e h = round-low (rounds eqb ltb 0 hears n L k) (rounds-length L k e) (rounds-low L k e h)

pub own-low : (n : ℕ) → all_below n (own_numbers n) ≡ true
own-low n = column-low (λ (v : ℕ). v) n n (λ v l. l)

-- names that rise: their tests are those of their places
module _ {B : Type 0} {same less : B → B → Bool} (order : Order same less) (z : B) (F : List B) (r : rising_by less F ≡ true) where
  abbrev n : ℕ
  n = length F

  times-named : (x : ℕ) (ls : List ℕ) → x < n → all_below n ls ≡ true → times same (get_or F x z) (labels_at z F ls) ≡ times eqb x ls
  unfolding times labels_at
  times-named x [] h g = refl
  times-named x (l ∷ ls) h g =
      ap₂ (λ t k. bit t + k) (same-places order z F r x l h (below-first n l ls g)) (times-named x ls h (below_rest n l ls g))

  most-named : (ls cs : List ℕ) → all_below n ls ≡ true → all_below n cs ≡ true
      → most_times same (labels_at z F ls) (labels_at z F cs) ≡ most_times eqb ls cs
  unfolding most_times labels_at
  most-named ls [] h g = refl
  most-named ls (c ∷ cs) h g = ap₂ max (times-named c ls (below-first n c cs g) h) (most-named ls cs h (below_rest n c cs g))

  standing-named : (k : ℕ) (ls cs : List ℕ) → all_below n ls ≡ true → all_below n cs ≡ true
      → standing same k (labels_at z F ls) (labels_at z F cs) ≡ labels_at z F (standing eqb k ls cs)
  unfolding standing labels_at
  standing-named k ls [] h g = refl
  standing-named k ls (c ∷ cs) h g =
      ap₂ (λ m t. cond (eqb m k) (get_or F c z ∷ t) t) (times-named c ls (below-first n c cs g) h)
      (standing-named k ls cs h (below_rest n c cs g))
      ∙ go (eqb (times eqb c ls) k)
    where
      go : (t : Bool) → cond t (get_or F c z ∷ labels_at z F (standing eqb k ls cs)) (labels_at z F (standing eqb k ls cs))
          ≡ labels_at z F (cond t (c ∷ standing eqb k ls cs) (standing eqb k ls cs))
      go true = refl
      go false = refl

  smallest-named : (a : ℕ) (cs : List ℕ) → a < n → all_below n cs ≡ true
      → smallest less (get_or F a z) (labels_at z F cs) ≡ get_or F (smallest ltb a cs) z
  unfolding smallest labels_at
  smallest-named a [] h g = refl
  smallest-named a (c ∷ cs) h g =
      ap (λ t. smallest less (cond t (get_or F c z) (get_or F a z)) (labels_at z F cs))
      (less-places order z F r c a (below-first n c cs g) h)
      ∙ go (ltb c a) (smallest-named (cond (ltb c a) c a) cs (low (ltb c a)) (below_rest n c cs g))
    where
      low : (t : Bool) → cond t c a < n
      low true = below-first n c cs g
      low false = h

      go : (t : Bool) → smallest less (get_or F (cond t c a) z) (labels_at z F cs) ≡ get_or F (smallest ltb (cond t c a) cs) z
          → smallest less (cond t (get_or F c z) (get_or F a z)) (labels_at z F cs) ≡ get_or F (smallest ltb (cond t c a) cs) z
      go true e = e
      go false e = e

  smallest_or-named : (own : ℕ) (cs : List ℕ) → own < n → all_below n cs ≡ true
      → smallest_or less (get_or F own z) (labels_at z F cs) ≡ get_or F (smallest_or ltb own cs) z
  unfolding smallest_or labels_at
  smallest_or-named own [] h g = refl
  smallest_or-named own (c ∷ cs) h g = smallest-named c cs (below-first n c cs g) (below_rest n c cs g)

  next-named : (own : ℕ) (ls : List ℕ) → own < n → all_below n ls ≡ true
      → next_label same less (get_or F own z) (labels_at z F ls) ≡ get_or F (next_label eqb ltb own ls) z
  unfolding next_label most_common
  next-named own ls h g =
      ap (λ k. smallest_or less (get_or F own z) (standing same k (labels_at z F ls) (labels_at z F ls))) (most-named ls ls g g)
      ∙ ap (smallest_or less (get_or F own z)) (standing-named (most_times eqb ls ls) ls ls g g)
      ∙ smallest_or-named own (standing eqb (most_times eqb ls ls) ls ls) h (standing-low n (most_times eqb ls ls) ls ls g)

  labels-named : (L us : List ℕ) → all_below (length L) us ≡ true → labels_at z (labels_at z F L) us ≡ labels_at z F (labels_at 0 L us)
  unfolding labels_at
  labels-named L [] h = refl
  labels-named L (u ∷ us) h =
      ap₂ (λ x t. x ∷ t) (labels_at_lem z F L u (below-first (length L) u us h)) (labels-named L us (below_rest (length L) u us h))

  module _ (hears : ℕ → List ℕ) (inside : (v : ℕ) → v < n → all_below n (hears v) ≡ true) where
    round-named : (L : List ℕ) → length L ≡ n → all_below n L ≡ true
        → one_round same less z hears n (labels_at z F L) ≡ labels_at z F (one_round eqb ltb 0 hears n L)
    unfolding one_round next_at
    round-named L e h =
        column-labels z F (next_at same less z hears n (labels_at z F L)) (next_at eqb ltb 0 hears n L) 0 n n (omega arith)
        (λ v l.
        let w : v < length L = omega arith in
        let m : all_below (length L) (hears v) ≡ true = subst (λ (k : ℕ). all_below k (hears v) ≡ true) (sym e) (inside v l) in
        ap₂ (next_label same less) (labels_at_lem z F L v w) (labels-named L (hears v) m)
        ∙ next-named (get_or L v 0) (labels_at 0 L (hears v)) (below_at n L h v w) (labels-low n L (hears v) m h))

    rounds-named : (L : List ℕ) (k : ℕ) → length L ≡ n → all_below n L ≡ true
        → rounds same less z hears n (labels_at z F L) k ≡ labels_at z F (rounds eqb ltb 0 hears n L k)
    unfolding rounds
    rounds-named L zero e h = refl
    rounds-named L (suc k) e h =
        ap (one_round same less z hears n) (rounds-named L k e h)
        ∙ round-named (rounds eqb ltb 0 hears n L k) (rounds-length hears n inside L k e) (rounds-low hears n inside L k e h)

    named-all : labels_at z F (own_numbers n) ≡ F
    named-all =
        sym (column-labels z F (λ i. get_or F i z) (λ (v : ℕ). v) 0 n n (omega arith) (λ v l. refl))
        ∙ column-is (λ i. get_or F i z) z F n refl (λ i h. refl)

    -- rounds on vertex numbers, named in the end, are rounds on names
    pub numbers-named : (k : ℕ) → labels_at z F (rounds eqb ltb 0 hears n (own_numbers n) k) ≡ rounds same less z hears n F k
    numbers-named k =
        sym (rounds-named (own_numbers n) k (column-length (λ (v : ℕ). v) 0 n) (own-low n))
        ∙ ap (λ L. rounds same less z hears n L k) named-all
