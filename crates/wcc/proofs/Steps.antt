-- The kernel's loops, a turn at a time. Assumes nothing.
use Prim.Native.Nat.{ℕ, suc, ◌+◌, ◌-◌, ◌≤◌, ◌<◌}
use mathlib.Core.Path.{◌≡◌, refl, sym, ap, ap₂, ◌∙◌}
use mathlib.Core.List.{List}
use native.Mathlib.Omega.{arith}
use native.Mathlib.Numerals.{add-one}
use lib.IntN.{ℤ, pos}
use lib.ListN.{get_or, set}
use Rattle.std.specs.Prelude.{Result, Ok, Err}
use Rattle.basis.specs.declared.refusal.Refusal.{Refusal}
use Rattle.basis.specs.Refusal.{Said}
use Rattle.basis.specs.Area.{column}
use Rattle.book.specs.declared.Head.{Head}
use Rattle.book.specs.Rules.{Outcome, outcome, head_of, open_book, Each, EachOutcome, each_outcome, join_each}
use Rattle.book.specs.One.{one, one_book}
use Rattle.book.specs.Says.{says_headed}
use Rattle.book.specs.Series.{head_in}
use Rattle.wcc.specs.Steps.{head_here, join_arcs, grouped, marked, taken_over, Within}

-- ---- the head that a call gives
module _ (xs : List ℤ) (v : ℕ) (r : Result Head Refusal) (e : says_headed r ≡ head_of (one xs) v) where
  pub head-given : (h : Head) → r ≡ Ok h → h.head ≡ head_here xs v
  unfolding head_here
  head-given h f = ap (λ (x : Result Head Refusal). head_in (says_headed x)) (sym f) ∙ ap head_in e

  pub head-refused : (q : Refusal) → r ≡ Err q → 0 ≡ head_here xs v
  unfolding head_here
  head-refused q f = ap (λ (x : Result Head Refusal). head_in (says_headed x)) (sym f) ∙ ap head_in e

-- ---- joins
module _ (out : ℕ → List ℕ) (a : List ℤ) where
  pub arcs-none : a ≡ join_arcs out 0 a
  unfolding join_arcs
  arcs-none = refl

  pub arcs-more : (b c : List ℤ) (u : ℕ) (ws : List ℕ) (e : Each) → b ≡ join_arcs out u a → ws ≡ out u
      → each_outcome e c ≡ join_each one_book b u ws → c ≡ join_arcs out (u + 1) a
  unfolding join_arcs
  arcs-more b c u ws s e q f =
      rw add-one (ap (λ (d : EachOutcome (List ℤ)). d.area) f ∙ ap₂ (λ (x : List ℤ) (l : List ℕ). (join_each one_book x u l).area) e q)

  pub arcs-end : (b : List ℤ) (u n : ℕ) → u ≤ n → n ≤ u → b ≡ join_arcs out u a → b ≡ join_arcs out n a
  arcs-end b u n l k e = let q : u ≡ n = omega arith in e ∙ ap (λ (x : ℕ). join_arcs out x a) q

-- ---- the heads that are found: the book is opened, joined along the arcs, and read
pub heads-found : (n m : ℕ) (out : ℕ → List ℕ) (a b c : List ℤ) (d : Said (Unit {0})) (hs : List ℕ) → outcome d b ≡ open_book one_book a
    → c ≡ join_arcs out n b → hs ≡ column (head_here c) 0 m
    → hs ≡ column (head_here (grouped out n a)) 0 m
unfolding grouped
heads-found n m out a b c d hs o j h =
    h ∙ ap (λ (x : List ℤ). column (head_here x) 0 m)
    (j ∙ ap (λ (x : Outcome (Unit {0}) (List ℤ)). join_arcs out n x.area) o)

-- ---- labels
module _ (g : ℕ → ℕ) where
  -- a vertex's head has a place in an area of n places
  pub head-below : (n m v : ℕ) → Within n g → m ≡ n → v < n → g v < m
  head-below n m v w e l = let k = w v l in omega arith

  -- a turn marks the last of the vertices that are left
  pub mark-more : (ids R T : List ℤ) (n h : ℕ) (z : ℤ) → 0 < n → h ≡ g (n - 1) → z ≡ get_or ids (n - 1) (pos 0) → marked g ids n R ≡ T
      → marked g ids (n - 1) (set R h z) ≡ T
  unfolding marked
  mark-more ids R T n h z l q f e =
      let s : n ≡ suc (n - 1) = omega arith in
      ap (λ (x : List ℤ). marked g ids (n - 1) x) (ap₂ (set R) q f) ∙ ap (λ (k : ℕ). marked g ids k R) (sym s) ∙ e

  pub mark-end : (ids R T : List ℤ) (n : ℕ) → n ≤ 0 → marked g ids n R ≡ T → R ≡ T
  unfolding marked
  mark-end ids R T n l e = let q : 0 ≡ n = omega arith in ap (λ (k : ℕ). marked g ids k R) q ∙ e

  pub take_none : (R : List ℤ) → R ≡ taken_over g 0 R
  unfolding taken_over
  take_none R = refl

  pub take_more : (R S : List ℤ) (v : ℕ) (z : ℤ) → z ≡ get_or S (g v) (pos 0) → S ≡ taken_over g v R → set S v z ≡ taken_over g (v + 1) R
  unfolding taken_over
  take_more R S v z f e = rw add-one (ap (set S v) f ∙ ap (λ (X : List ℤ). set X v (get_or X (g v) (pos 0))) e)
