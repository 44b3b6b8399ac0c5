-- Writing each group's smallest identifier at its head, and taking it over from there, gives the labels. Assumes nothing.
use Prim.Native.Nat.{ℕ, zero, suc, ◌≤◌, ◌<◌}
use mathlib.Core.Path.{◌≡◌, refl, sym, ap, ◌∙◌}
use mathlib.Core.Logic.{◌↔◌, ⊎_elim}
use mathlib.Core.List.{List}
use native.Mathlib.Nat.{not-suc-le-zero, le_of_suc-le-suc, eq-or-lt_of_le}
use native.Mathlib.Decide.{ℕ_discrete}
use native.Mathlib.Omega.{arith}
use lib.IntN.{ℤ, pos}
use lib.ListN.{length, get_or, set, length-set}
use lib.Seq.{get_or-set_same, get_or-set_other}
use Rattle.basis.specs.Scan.{Inside}
use Rattle.basis.proofs.Areas.{column-is}
use Rattle.wcc.specs.Component.{LinkedAmong, first, label_of, labels}
use Rattle.wcc.specs.Steps.{marked, taken_over, Within}
use Rattle.wcc.proofs.Firsts.{first_below, first-linked, first-least}

-- ---- the two passes
module _ (g : ℕ → ℕ) where
  module _ (ids : List ℤ) where
    length_marked : (k : ℕ) (R : List ℤ) → length (marked g ids k R) ≡ length R
    unfolding marked
    length_marked zero R = refl
    length_marked (suc v) R = length_marked v (set R (g v) (get_or ids v (pos 0))) ∙ length-set R (g v) (get_or ids v (pos 0))

    -- a place that is no head of the first k keeps what it has
    mark-other : (k : ℕ) (R : List ℤ) (h : ℕ) → ((i : ℕ) → i < k → g i ≡ h → ⊥) → get_or (marked g ids k R) h (pos 0) ≡ get_or R h (pos 0)
    unfolding marked
    mark-other zero R h none = refl
    mark-other (suc v) R h none =
        mark-other v (set R (g v) (get_or ids v (pos 0))) h (λ i l. none i (omega arith))
        ∙ get_or-set_other R (g v) h (get_or ids v (pos 0)) (pos 0) (λ e. none v (omega arith) (sym e))

    -- a head gets the identifier of its first vertex
    mark-first : (k : ℕ) (R : List ℤ) (h u : ℕ) → h < length R → u < k → g u ≡ h → ((i : ℕ) → i < u → g i ≡ h → ⊥)
        → get_or (marked g ids k R) h (pos 0) ≡ get_or ids u (pos 0)
    unfolding marked
    mark-first zero R h u b l e none = absurd (not-suc-le-zero l)
    mark-first (suc v) R h u b l e none =
        ⊎_elim
        (λ q.
        mark-other v (set R (g v) (get_or ids v (pos 0))) h (λ i a. none i (omega arith))
        ∙ ap (λ (x : ℕ). get_or (set R x (get_or ids v (pos 0))) h (pos 0)) (ap g (sym q) ∙ e)
        ∙ get_or-set_same R h (get_or ids v (pos 0)) (pos 0) b ∙ ap (λ (x : ℕ). get_or ids x (pos 0)) (sym q))
        (λ a. mark-first v (set R (g v) (get_or ids v (pos 0))) h u (rw length-set b) a e none)
        (eq-or-lt_of_le (le_of_suc-le-suc l))

  length_taken : (k : ℕ) (R : List ℤ) → length (taken_over g k R) ≡ length R
  unfolding taken_over
  length_taken zero R = refl
  length_taken (suc v) R = length-set (taken_over g v R) v _ ∙ length_taken v R

  take_same : (k : ℕ) (R : List ℤ) → k < length R → get_or (taken_over g (suc k) R) k (pos 0) ≡ get_or (taken_over g k R) (g k) (pos 0)
  unfolding taken_over
  take_same k R l = get_or-set_same (taken_over g k R) k _ (pos 0) (rw (length_taken k R) l)

  take-other : (k : ℕ) (R : List ℤ) (v : ℕ) → (v ≡ k → ⊥) → get_or (taken_over g (suc k) R) v (pos 0) ≡ get_or (taken_over g k R) v (pos 0)
  unfolding taken_over
  take-other k R v q = get_or-set_other (taken_over g k R) k v _ (pos 0) q

  -- a head keeps its label
  take_head : (k : ℕ) (R : List ℤ) (h : ℕ) → k ≤ length R → g h ≡ h → get_or (taken_over g k R) h (pos 0) ≡ get_or R h (pos 0)
  take_head zero R h l e = unfold taken_over in refl
  take_head (suc k) R h l e =
      let r = take_head k R h (omega arith) e in
      elim (ℕ_discrete h k) as (λ _. get_or (taken_over g (suc k) R) h (pos 0) ≡ get_or R h (pos 0)) [
        | yes q ↦
            ap (λ (x : ℕ). get_or (taken_over g (suc k) R) x (pos 0)) q ∙ take_same k R l
            ∙ ap (λ (x : ℕ). get_or (taken_over g k R) x (pos 0)) (ap g (sym q) ∙ e) ∙ r
        | no q ↦ take-other k R h q ∙ r
      ]

  take_at : (k : ℕ) (R : List ℤ) (v : ℕ) → k ≤ length R → v < k → g (g v) ≡ g v → get_or (taken_over g k R) v (pos 0)
      ≡ get_or R (g v) (pos 0)
  take_at zero R v l b e = absurd (not-suc-le-zero b)
  take_at (suc k) R v l b e =
      ⊎_elim
      (λ q. ap (λ (x : ℕ). get_or (taken_over g (suc k) R) x (pos 0)) q ∙ take_same k R l
      ∙ ap (λ (x : ℕ). get_or (taken_over g k R) (g x) (pos 0)) (sym q) ∙ take_head k R (g v) (omega arith) e)
      (λ a. take-other k R v (λ q. omega arith) ∙ take_at k R v (omega arith) a e)
      (eq-or-lt_of_le (le_of_suc-le-suc b))

-- ---- the labels

-- g gives each vertex a head of its component
pub record Heads (n : ℕ) (out : ℕ → List ℕ) (g : ℕ → ℕ) : Type 0 where
  pub within : Within n g
  pub settled : (v : ℕ) → v < n → g (g v) ≡ g v
  pub same : (u v : ℕ) → u < n → v < n → (g u ≡ g v) ↔ LinkedAmong n out u v

module _ (n : ℕ) (out : ℕ → List ℕ) (inside : Inside n out) (g : ℕ → ℕ) (H : Heads n out g) (ids R : List ℤ)
    (e : length R ≡ n) where
  label_at : (v : ℕ) → v < n → get_or (taken_over g n (marked g ids n R)) v (pos 0) ≡ label_of n out ids v
  unfolding label_of
  label_at v l =
      let u : ℕ = first n out v in
      let b : u < n = first_below n out inside v l in
      take_at g n (marked g ids n R) v (omega (arith, length_marked g ids n R)) l (H.settled v l)
      ∙ mark-first g ids n R (g v) u (omega (arith, H.within v l)) b ((H.same u v b l).1 (first-linked n out inside v l))
      (λ i a q. omega (arith, first-least n out inside i v (omega arith) l ((H.same i v (omega arith) l).0 q)))

  pub labels-are : taken_over g n (marked g ids n R) ≡ labels n out ids
  labels-are =
      sym (column-is (label_of n out ids) (pos 0) (taken_over g n (marked g ids n R)) n
      (length_taken g n (marked g ids n R) ∙ length_marked g ids n R ∙ e) label_at)
