-- Laws of the functions that keep the record of claim lines and what stands on it: one for each way out. Assumes nothing.
use Rattle.std.specs.Prelude.{Option, Some, None}
use Rattle.std.specs.Option.{is_some}
use Rattle.std.specs.List.{list_any}
use Rattle.std.proofs.Math.Bool.{not-not}
use Rattle.std.proofs.lemmas.List.Folds.{list_any_more}
use mathlib.Core.Path.{◌≡◌, refl, sym, ap, ◌∙◌}
use mathlib.Core.Bool.{Bool, true, false, not, ◌&&◌, ◌||◌}
use mathlib.Core.List.{List}
use Prim.Native.Nat.{ℕ, zero, suc, ◌≤◌, ◌<◌}
use native.Mathlib.Numerals.{add-one}
use native.Mathlib.Omega.{arith}
use lib.Dec.{eqb}
use lib.IntN.{ℤ}
use lib.ListN.{length, get_or, take}
use Rattle.basis.specs.Scan.{every}
use Rattle.graph.specs.Find.{bisected, Searched}
use Rattle.graph.proofs.Finds.{searched-is, bisected-below}
use Rattle.matching.specs.Steps.{counted, is_recorded, end_line}

-- ---- a line's vertex, by what a search has found
module _ (ids : List ℤ) (lines : List ℕ) (id : ℤ) {sought : ℤ} (q : sought ≡ id) {f : Option ℕ} (e : Searched ids sought f) where
  found-is : bisected ids id ≡ f
  found-is = ap (bisected ids) (sym q) ∙ sym (searched-is e)

  pub found_below : {v : ℕ} → f ≡ Some v → length ids ≤ length lines → v < length lines
  found_below {v} h l = omega (arith, bisected-below ids id v (found-is ∙ h))

-- ---- the end of a claim
-- a vertex is missing exactly where one of the numbers in the record is 0
any-missing : (lines : List ℕ) (n : ℕ) → n ≤ length lines
    → list_any (λ y. eqb y 0) (take n lines) ≡ not (every n (is_recorded lines))
unfolding is_recorded every
any-missing lines zero h = refl
any-missing lines (suc n) h =
    let e = list_any_more (λ (y : ℕ). eqb y 0) lines n 0 (omega arith) in
    rw (rw add-one at e, any-missing lines n (omega arith)) (by (every n (is_recorded lines)) (eqb (get_or lines n 0) 0))
  where
    by : (a b : Bool) → (not a || b) ≡ not (a && not b)
    by true b = sym (not-not b)
    by false b = refl

module _ (lines : List ℕ) (n k : ℕ) where
  pub end-stray : (stray : Option ℕ) → is_some stray ≡ true → counted stray ≡ end_line lines n k (counted stray)
  unfolding end_line
  end-stray (Some i) h = refl
  end-stray None h = cc

  module _ (l : n ≤ length lines) {t : Bool} (e : t ≡ list_any (λ y. eqb y 0) (take n lines)) where
    told : every n (is_recorded lines) ≡ not t
    told = sym (ap not (e ∙ any-missing lines n l) ∙ not-not (every n (is_recorded lines)))

    -- m is the place that the code answers
    pub end-missing : (stray : Option ℕ) → is_some stray ≡ false → t ≡ true → (m : ℕ) → m ≡ k → suc m ≡ end_line lines n k (counted stray)
    unfolding end_line
    end-missing (Some i) h p m q = cc
    end-missing None h p m q = ap suc q ∙ rw (told, p) (sym (add-one k))

    pub end_whole : (stray : Option ℕ) → t ≡ false → counted stray ≡ end_line lines n k (counted stray)
    unfolding end_line
    end_whole (Some i) p = refl
    end_whole None p = rw (told, p)
