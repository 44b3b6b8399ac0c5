-- What the definition of the next label says: it is the chosen one, and there is only one. Assumes nothing.
use Prim.Native.Nat.{ℕ, zero, suc, ◌+◌, ◌≤◌, ◌<◌, max}
use mathlib.Core.Path.{◌≡◌, refl, sym, ◌∙◌, subst}
use mathlib.Core.Bool.{Bool, true, false, cond}
use mathlib.Core.List.{List, [], ◌∷◌, ◌++◌}
use native.Mathlib.Omega.{arith}
use native.Mathlib.Nat.{not-suc-le-zero, le-max_left, le-max_right}
use lib.Dec.{eqb, ltb}
use borrow.Author.Tests.{ltb-true, ltb-false, eqb-true, eq-eqb}
use Rattle.basis.specs.Scan.{bit}
use Rattle.basis.proofs.Orders.{Order}
use Rattle.cdlp.specs.Label.{times, most_times, standing, most_common, smallest, smallest_or, next_label}

-- what is chosen: a label that stands there, none stands there more often, and none that stands there as often is smaller
pub record Chosen {A : Type 0} (same less : A → A → Bool) (ls : List A) (w : A) : Type 0 where
  pub among : 0 < times same w ls
  pub most : (x : A) → times same x ls ≤ times same w ls
  pub least : (x : A) → times same x ls ≡ times same w ls → less x w ≡ false

module _ {A : Type 0} {same less : A → A → Bool} (order : Order same less) where
  times_none : (x : A) → 0 < times same x [] → ⊥
  unfolding times
  times_none x h = not-suc-le-zero h

  times-here : (x : A) (ls : List A) → 0 < times same x (x ∷ ls)
  unfolding times
  times-here x ls = rw (order.same_refl x) (omega arith)

  times-there : (x y : A) (ls : List A) → 0 < times same x ls → 0 < times same x (y ∷ ls)
  unfolding times
  times-there x y ls h = omega arith

  -- a label of c ∷ cs is c, or one of cs
  times-case : (P : A → Type 0) (x c : A) (cs : List A) → 0 < times same x (c ∷ cs) → P c → (0 < times same x cs → P x) → P x
  unfolding times
  times-case P x c cs h p q = go (same x c) refl h
    where
      go : (t : Bool) → same x c ≡ t → 0 < bit t + times same x cs → P x
      go true e l = subst P (sym (order.same-eq x c e)) p
      go false e l = q (omega arith)

  most-ge : (ls cs : List A) (x : A) → 0 < times same x cs → times same x ls ≤ most_times same ls cs
  unfolding most_times
  most-ge ls [] x h = absurd (times_none x h)
  most-ge ls (c ∷ cs) x h =
      times-case (λ y. times same y ls ≤ max (times same c ls) (most_times same ls cs)) x c cs h
      (le-max_left (times same c ls) (most_times same ls cs))
      (λ l. let a = most-ge ls cs x l in let b = le-max_right (times same c ls) (most_times same ls cs) in omega arith)

  most-bound : (ls : List A) (x : A) → times same x ls ≤ most_times same ls ls
  most-bound ls x = go (times same x ls) refl
    where
      go : (k : ℕ) → times same x ls ≡ k → k ≤ most_times same ls ls
      go zero e = omega arith
      go (suc k) e = subst (λ (j : ℕ). j ≤ most_times same ls ls) e (most-ge ls ls x (omega arith))

  attained : (ls cs : List A) → 0 < most_times same ls cs → (x : A) × (0 < times same x cs) × (times same x ls ≡ most_times same ls cs)
  unfolding most_times
  attained ls [] h = absurd (not-suc-le-zero h)
  attained ls (c ∷ cs) h = go (ltb (times same c ls) (most_times same ls cs)) refl (attained ls cs)
    where
      go : (t : Bool) → ltb (times same c ls) (most_times same ls cs) ≡ t
          → (0 < most_times same ls cs → (x : A) × (0 < times same x cs) × (times same x ls ≡ most_times same ls cs))
          → (x : A) × (0 < times same x (c ∷ cs)) × (times same x ls ≡ max (times same c ls) (most_times same ls cs))
      go true e r =
          let l = ltb-true (times same c ls) (most_times same ls cs) e in
          let s = r (omega arith) in
          let m : most_times same ls cs ≡ max (times same c ls) (most_times same ls cs) = omega arith in
          (s.0, times-there s.0 c cs s.1, s.2 ∙ m)
      go false e r =
          let l = ltb-false (times same c ls) (most_times same ls cs) e in
          let m : times same c ls ≡ max (times same c ls) (most_times same ls cs) = omega arith in
          (c, times-here c cs, m)

  standing-at : (k : ℕ) (ls cs : List A) (x : A) → 0 < times same x (standing same k ls cs) → (times same x ls ≡ k) × (0 < times same x cs)
  unfolding standing
  standing-at k ls [] x h = absurd (times_none x h)
  standing-at k ls (c ∷ cs) x h = go (eqb (times same c ls) k) refl h (standing-at k ls cs x)
    where
      go : (t : Bool) → eqb (times same c ls) k ≡ t → 0 < times same x (cond t (c ∷ standing same k ls cs) (standing same k ls cs))
          → (0 < times same x (standing same k ls cs) → (times same x ls ≡ k) × (0 < times same x cs))
          → (times same x ls ≡ k) × (0 < times same x (c ∷ cs))
      go true e l r =
          times-case (λ y. (times same y ls ≡ k) × (0 < times same y (c ∷ cs))) x c (standing same k ls cs) l
          (eqb-true (times same c ls) k e, times-here c cs)
          (λ m. ((r m).0, times-there x c cs (r m).1))
      go false e l r = ((r l).0, times-there x c cs (r l).1)

  standing-has : (k : ℕ) (ls cs : List A) (x : A) → times same x ls ≡ k → 0 < times same x cs → 0 < times same x (standing same k ls cs)
  unfolding standing
  standing-has k ls [] x e h = absurd (times_none x h)
  standing-has k ls (c ∷ cs) x e h =
      times-case (λ y. times same y ls ≡ k → 0 < times same y
      (cond (eqb (times same c ls) k) (c ∷ standing same k ls cs) (standing same k ls cs))) x c cs h
      (λ q. rw (eq-eqb (times same c ls) k q) (times-here c (standing same k ls cs)))
      (λ m q. go (eqb (times same c ls) k) (standing-has k ls cs x e m)) e
    where
      go : (t : Bool) → 0 < times same x (standing same k ls cs)
          → 0 < times same x (cond t (c ∷ standing same k ls cs) (standing same k ls cs))
      go true l = times-there x c (standing same k ls cs) l
      go false l = l

  -- the smallest is one of them, and none of them is smaller
  small-in : (a : A) (cs : List A) → 0 < times same (smallest less a cs) (a ∷ cs)
  unfolding smallest
  small-in a [] = times-here a []
  small-in a (c ∷ cs) = go (less c a) (small-in (cond (less c a) c a) cs)
    where
      go : (t : Bool) → 0 < times same (smallest less (cond t c a) cs) (cond t c a ∷ cs)
          → 0 < times same (smallest less (cond t c a) cs) (a ∷ c ∷ cs)
      go true h = times-there (smallest less c cs) a (c ∷ cs) h
      go false h =
          times-case (λ y. 0 < times same y (a ∷ c ∷ cs)) (smallest less a cs) a cs h (times-here a (c ∷ cs))
          (λ l. times-there (smallest less a cs) a (c ∷ cs) (times-there (smallest less a cs) c cs l))

  small_least : (a : A) (cs : List A) (x : A) → 0 < times same x (a ∷ cs) → less x (smallest less a cs) ≡ false
  unfolding smallest
  small_least a [] x h = times-case (λ y. less y a ≡ false) x a [] h (order.less-not a) (λ l. absurd (times_none x l))
  small_least a (c ∷ cs) x h = go (less c a) refl (small_least (cond (less c a) c a) cs)
    where
      go : (t : Bool) → less c a ≡ t → ((y : A) → 0 < times same y (cond t c a ∷ cs) → less y (smallest less (cond t c a) cs) ≡ false)
          → less x (smallest less (cond t c a) cs) ≡ false
      go true e r =
          let low = r c (times-here c cs) in
          times-case (λ y. less y (smallest less c cs) ≡ false) x a (c ∷ cs) h
          (order.less-down a c (smallest less c cs) (order.less-asym c a e) low)
          (λ l. r x l)
      go false e r =
          let low = r a (times-here a cs) in
          times-case (λ y. less y (smallest less a cs) ≡ false) x a (c ∷ cs) h low
          (λ l. times-case (λ y. less y (smallest less a cs) ≡ false) x c cs l (order.less-down c a (smallest less a cs) e low)
          (λ m. r x (times-there x a cs m)))

  -- the next label of a vertex with neighbours is the chosen one
  pub next-chosen : (own l : A) (ls : List A) → Chosen same less (l ∷ ls) (next_label same less own (l ∷ ls))
  unfolding next_label most_common smallest_or
  next-chosen own l ls =
      let top : 0 < most_times same (l ∷ ls) (l ∷ ls) = let a = most-bound (l ∷ ls) l in let b = times-here l ls in omega arith in
      let r = attained (l ∷ ls) (l ∷ ls) top in
      go (standing same (most_times same (l ∷ ls) (l ∷ ls)) (l ∷ ls) (l ∷ ls)) top
      (standing-at (most_times same (l ∷ ls) (l ∷ ls)) (l ∷ ls) (l ∷ ls))
      (standing-has (most_times same (l ∷ ls) (l ∷ ls)) (l ∷ ls) (l ∷ ls))
      r.0 (standing-has (most_times same (l ∷ ls) (l ∷ ls)) (l ∷ ls) (l ∷ ls) r.0 r.2 r.1)
    where
      go : (S : List A) → 0 < most_times same (l ∷ ls) (l ∷ ls)
          → ((x : A) → 0 < times same x S → (times same x (l ∷ ls) ≡ most_times same (l ∷ ls) (l ∷ ls)) × (0 < times same x (l ∷ ls)))
          → ((x : A) → times same x (l ∷ ls) ≡ most_times same (l ∷ ls) (l ∷ ls) → 0 < times same x (l ∷ ls) → 0 < times same x S)
          → (y : A) → 0 < times same y S → Chosen same less (l ∷ ls) (smallest_or less own S)
      go [] top at has y h = absurd (times_none y h)
      go (c ∷ cs) top at has y h =
          let m = at (smallest less c cs) (small-in c cs) in
          record {
            among = m.1;
            most = λ x. let b = most-bound (l ∷ ls) x in let e = m.0 in omega arith;
            least = λ x q. small_least c cs x (has x (q ∙ m.0) (let e = m.0 in omega arith));
          }

  -- there is only one
  pub chosen-one : (ls : List A) (w x : A) → Chosen same less ls w → Chosen same less ls x → w ≡ x
  chosen-one ls w x a b =
      let e : times same w ls ≡ times same x ls = let p = a.most x in let q = b.most w in omega arith in
      order.less-eq w x (b.least w e) (a.least x (sym e))

-- how often a label stands in two lists
pub times-append : {A : Type 0} (same : A → A → Bool) (x : A) (s t : List A) → times same x (s ++ t) ≡ times same x s + times same x t
unfolding times
times-append same x [] t = omega arith
times-append same x (y ∷ s) t = let r = times-append same x s t in omega arith

-- ---- labels that are heard twice each
module _ {A : Type 0} {same less : A → A → Bool} (order : Order same less) where
  twice-chosen : (ls : List A) (w : A) → Chosen same less (ls ++ ls) w → Chosen same less ls w
  twice-chosen ls w c =
      let two : (x : A) → times same x (ls ++ ls) ≡ times same x ls + times same x ls = λ x. times-append same x ls ls in
      record {
        among = omega (arith, c.among, two w);
        most = λ x. omega (arith, c.most x, two x, two w);
        least = λ x e. c.least x (omega (arith, e, two x, two w));
      }

  -- the same label is chosen from labels that are heard twice each as from those that are heard once
  pub next-twice : (own : A) (ls : List A) → next_label same less own (ls ++ ls) ≡ next_label same less own ls
  next-twice own [] = refl
  next-twice own (l ∷ ls) =
      chosen-one order (l ∷ ls) _ _ (twice-chosen (l ∷ ls) (next_label same less own (l ∷ ls ++ l ∷ ls))
      (next-chosen order own l (ls ++ l ∷ ls))) (next-chosen order own l ls)
