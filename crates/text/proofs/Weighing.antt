-- Laws of what the code reads of a weight and of an edge line with one: one law for each way the code leaves. Assumes nothing.
use Prim.Native.Nat.{ℕ, suc, ◌+◌, ◌-◌, ◌*◌, ◌^◌, ◌≤◌, ◌<◌, min}
use mathlib.Core.Path.{◌≡◌, refl, sym, ap, ◌∙◌}
use mathlib.Core.List.{List, [], ◌∷◌, append-nil}
use mathlib.Core.Bool.{Bool, true, false, cond, ◌&&◌}
use native.Mathlib.Omega.{arith}
use native.Mathlib.Nat.{add-zero, pow-le-pow_right}
use native.Mathlib.Numerals.{add-one}
use borrow.Author.Tests.{leb-true, ltb-true, ne_eqb, eqb-true}
use lib.Dec.{leb, ltb, eqb}
use lib.ListN.{length, get_or, take, drop, length-drop, drop_of_length-le}
use lib.Seq.{drop-cons, take_all}
use Rattle.basis.specs.Limits.{most_weight}
use Rattle.basis.specs.Scan.{each}
use Rattle.basis.proofs.Tests.{no-case, false_of, bool_cases, and_first, and_second}
use Rattle.text.specs.Word.{Word, malformed, value, within, is_digit, run_len, run_val, count_of}
use Rattle.text.specs.Grammar.{number_of}
use Rattle.text.specs.Stop.{count_stop}
use Rattle.text.specs.Weight.{most_places, million, with_fraction, behind_whole, carried, behind_stop}
use Rattle.text.specs.Weight.{millionths_of, weight_of, weight_stop}
use Rattle.text.specs.Scan.{Scanned, scanned, has_at, cut_number, cut_word, saturated, run_at, count_at, count_says, behind_at}
use Rattle.text.specs.declared.count.Scan.{Scan}
use Rattle.std.specs.Prelude.{Result, Ok, Err}
use Rattle.text.proofs.Bytes.{first-digit}
use Rattle.text.proofs.Runs.{front-len, len-digit, len-le, all_val}
use Rattle.text.proofs.Decimals.{run_small}
use Rattle.text.proofs.Grammars.{digits-front, front-number}
use Rattle.text.proofs.Words.{count_by}
use Rattle.text.proofs.Idents.{count-short}
use Rattle.text.proofs.Weights.{places_are, places-good, lt_of, count-said}

-- ---- what stands behind the whole part
places-are : (bs : List ℕ) → places_are bs ≡ true → (run_len bs ≡ length bs) × ((0 < length bs) × (length bs ≤ most_places))
unfolding within
places-are bs h =
    let k = and_second (each is_digit bs) (ltb 0 (length bs) && leb (length bs) most_places) h in (
      ap run_len (sym (append-nil bs))
          ∙ front-len bs [] (and_first (each is_digit bs) (ltb 0 (length bs) && leb (length bs) most_places) h) refl,
      (
        ltb-true 0 (length bs) (and_first (ltb 0 (length bs)) (leb (length bs) most_places) k),
        leb-true (length bs) most_places (and_second (ltb 0 (length bs)) (leb (length bs) most_places) k),
      ),
    )

-- what stands behind n wholes from p on: nothing, or something else than a point
module _ (s : List ℕ) (n p : ℕ) where
  pub behind-end : p ≡ length s → (r : ℕ) → r ≡ min (with_fraction n 0 0) 100000000001
      → scanned (value r) p ≡ behind_at s n p
  behind-end h r e =
      let q : r ≡ min (n * million) 100000000001 = omega (arith, e) in
      let d : drop p s ≡ [] = drop_of_length-le s (let k : length s ≤ p = omega arith in k) in
      rw (d, q, add-zero)

  module _ (l : p ≤ length s) (o : p ≡ length s → ⊥) where
    here : drop p s ≡ get_or s p 0 ∷ drop (p + 1) s
    here = rw add-one (drop-cons s p 0 (lt_of p (length s) l o))

    pub behind-other : (get_or s p 0 ≡ 46 → ⊥) → scanned malformed p ≡ behind_at s n p
    behind-other h = rw (here, ne_eqb (get_or s p 0) 46 h, add-zero)

    -- a point, and the digits behind it
    module _ (h : get_or s p 0 ≡ 46) (r : Scan ℕ) (e : r ≡ run_at s (p + 1) 0) where
      abbrev bs : List ℕ
      bs = drop (p + 1) s

      run-next : r.next ≡ p + 1 + run_len bs
      unfolding run_at
      run-next = ap (λ (x : Scan ℕ). x.next) e

      run-number : r.value ≡ cut_number (run_val 0 bs)
      unfolding run_at
      run-number = ap (λ (x : Scan ℕ). x.value) e

      pub behind-from : p + 1 ≤ r.next
      behind-from = omega (arith, run-next)

      by-places : (t : Bool) (k : ℕ) → places_are bs ≡ t → p + suc (min (run_len bs) most_places) ≡ k
          → scanned (cond t (value (min (with_fraction n (run_val 0 bs) (length bs)) 100000000001)) malformed) k
          ≡ behind_at s n p
      by-places true k f g = rw (here, h, f, g)
      by-places false k f g = rw (here, h, f, g)

      bad : (k : ℕ) → (places_are bs ≡ true → ⊥) → p + suc (min (run_len bs) most_places) ≡ k
          → scanned malformed k ≡ behind_at s n p
      bad k f g = by-places false k (false_of (places_are bs) f) g

      pub behind-none : r.next - (p + 1) ≡ 0 → scanned malformed r.next ≡ behind_at s n p
      behind-none z = bad r.next (λ f. omega (arith, places-are bs f, run-next)) (omega (arith, run-next))

      pub behind-long : 6 < r.next - (p + 1) → scanned malformed (p + 1 + 6) ≡ behind_at s n p
      behind-long z = bad (p + 1 + 6) (λ f. omega (arith, places-are bs f, run-next)) (omega (arith, run-next))

      module _ (z : r.next - (p + 1) ≡ 0 → ⊥) (y : r.next - (p + 1) ≤ 6) where
        pub behind-open : r.next < length s → scanned malformed r.next ≡ behind_at s n p
        behind-open k =
            bad r.next (λ f. omega (arith, places-are bs f, run-next, length-drop (p + 1) s)) (omega (arith, run-next))

        few : run_val 0 bs ≤ 999999
        few =
            let j : 10 ^ run_len bs ≤ 10 ^ 6 = pow-le-pow_right {n = 10} (omega arith) {i = run_len bs} {j = 6}
            (omega (arith, run-next)) in
            omega (arith, j, run_small 0 bs)

        pub behind-small : r.value ≤ 999999
        behind-small = omega (arith, few, run-number)

        pub behind-good : length s ≤ r.next → (m : ℕ) → m ≡ min (with_fraction n r.value (r.next - (p + 1))) 100000000001
            → scanned (value m) r.next ≡ behind_at s n p
        behind-good k m f =
            let q : run_len bs ≡ length bs = omega (arith, run-next, len-le bs, length-drop (p + 1) s) in
            let j : r.next - (p + 1) ≡ length bs = omega (arith, run-next, q) in
            let v : r.value ≡ run_val 0 bs = omega (arith, few, run-number) in
            let d : each is_digit bs ≡ true = sym (ap (each is_digit) (take_all (run_len bs) bs (omega arith)))
            ∙ digits-front bs in
            let g : places_are bs ≡ true = places-good bs d (lt_of 0 (length bs) (omega arith) (λ x. z (omega arith)))
            (omega arith) in
            ap (λ (x : ℕ). scanned (value x) r.next) (rw (v, j) at f) ∙ by-places true r.next g (omega (arith, run-next))

-- ---- a whole word: its whole part as the code counts it
count_at_lem : (s : List ℕ) → count_at s 0 ≡ scanned (count_of (take (count_stop s) s)) (count_stop s)
unfolding count_at has_at within
count_at_lem [] = refl
count_at_lem (b ∷ bs) = count_by (b ∷ bs) 0 b (omega arith) refl ∙ by (eqb b 48) (within 49 57 b) refl refl
  where
    by : (t u : Bool) → eqb b 48 ≡ t → within 49 57 b ≡ u
        → cond t (scanned (value 0) (0 + 1)) (cond u (scanned (value (run_val 0 (b ∷ bs))) (0 + run_len (b ∷ bs))) (scanned malformed 0))
        ≡ scanned (count_of (take (cond t 1 (cond u (suc (run_len bs)) 0)) (b ∷ bs))) (cond t 1 (cond u (suc (run_len bs)) 0))
    by true u f g = rw f
    by false true f g =
        let q : run_len (b ∷ bs) ≡ suc (run_len bs) = omega (arith, len-digit b bs (first-digit b g)) in
        let d : each is_digit (take (suc (run_len bs)) (b ∷ bs)) ≡ true = ap (λ (k : ℕ). each is_digit (take k (b ∷ bs))) (sym q)
        ∙ digits-front (b ∷ bs) in
        let v : run_val 0 (b ∷ bs) ≡ run_val 0 (take (suc (run_len bs)) (b ∷ bs)) = front-number 0 (b ∷ bs)
        ∙ ap (λ (k : ℕ). number_of 0 (take k (b ∷ bs))) q ∙ sym (all_val 0 (take (suc (run_len bs)) (b ∷ bs)) d) in
        rw (f, g, digits-front bs) (let z : 0 + run_len (b ∷ bs) ≡ suc (run_len bs) = omega (arith, q) in
        ap (λ (n : ℕ). scanned (value n) (0 + run_len (b ∷ bs))) v ∙ ap (scanned (value (run_val 0 (take (suc (run_len bs)) (b ∷ bs))))) z)
    by false false f g = refl

-- the cut of the whole part changes nothing of what is carried
behind-cut : (n : ℕ) (l : List ℕ) → carried (behind_whole (cut_number n) l) ≡ carried (behind_whole n l)
behind-cut n [] = ap value (let q : min (cut_number n * million) (most_weight + 1) ≡ min (n * million) (most_weight + 1) = omega arith in q)
behind-cut n (b ∷ bs) =
    let f : ℕ = run_val 0 bs * 10 ^ (most_places - length bs) in
    let q : min (cut_number n * million + f) (most_weight + 1) ≡ min (n * million + f) (most_weight + 1) = omega arith in
    bool_cases (eqb b 46 && places_are bs) _ (λ e. rw e (ap value q)) (λ e. rw e)

module _ (s : List ℕ) where
  counted : (x : Result (Scan ℕ) ℕ) → count_says x ≡ saturated (count_at s 0)
      → count_says x ≡ scanned (cut_word (count_of (take (count_stop s) s))) (count_stop s)
  counted x e = e ∙ ap saturated (count_at_lem s)

  -- without a whole part
  nothing : count_stop s ≡ 0 → count_of (take (count_stop s) s) ≡ malformed
  nothing z = ap (λ (k : ℕ). count_of (take k s)) z

  pub weight-none : (p : ℕ) → scanned malformed p ≡ saturated (count_at s 0) → scanned malformed p ≡ scanned (weight_of s) (weight_stop s)
  unfolding weight_of millionths_of weight_stop
  weight-none p e = by (eqb (count_stop s) 0) refl
    where
      k : scanned malformed p ≡ scanned (cut_word (count_of (take (count_stop s) s))) (count_stop s)
      k = counted (Err p) e

      said : malformed ≡ cut_word (count_of (take (count_stop s) s))
      said = ap (λ (y : Scanned ℕ). y.said) k

      by : (t : Bool) → eqb (count_stop s) 0 ≡ t → scanned malformed p ≡ scanned (weight_of s) (weight_stop s)
      by true z =
          let o : count_stop s ≡ 0 = eqb-true (count_stop s) 0 z in
          rw (z, nothing o) (ap (scanned malformed) (ap (λ (y : Scanned ℕ). y.next) k ∙ o))
      by false z = let m = count-said s z in no-case (let f = rw m.1 at said in cc)

  module _ (x : Scan ℕ) (e : scanned (value x.value) x.next ≡ saturated (count_at s 0)) where
    k : scanned (value x.value) x.next ≡ scanned (cut_word (count_of (take (count_stop s) s))) (count_stop s)
    k = counted (Ok x) e

    pub whole-inside : x.next ≤ length s
    whole-inside = omega (arith, ap (λ (y : Scanned ℕ). y.next) k, count-short s)

    pub weight-some : (r : Result (Scan ℕ) ℕ) → count_says r ≡ behind_at s x.value x.next
        → count_says r ≡ scanned (weight_of s) (weight_stop s)
    unfolding weight_of millionths_of weight_stop
    weight-some r g = by (eqb (count_stop s) 0) refl
      where
        said : value x.value ≡ cut_word (count_of (take (count_stop s) s))
        said = ap (λ (y : Scanned ℕ). y.said) k

        by : (t : Bool) → eqb (count_stop s) 0 ≡ t → count_says r ≡ scanned (weight_of s) (weight_stop s)
        by true z = no-case (let f = rw (nothing (eqb-true (count_stop s) 0 z)) at said in cc)
        by false z =
            let m = count-said s z in
            let f : value x.value ≡ value (cut_number m.0) = rw m.1 at said in
            let a : x.value ≡ cut_number m.0 = cc in
            let b : x.next ≡ count_stop s = ap (λ (y : Scanned ℕ). y.next) k in
            g ∙ ap (behind_at s x.value) b ∙ ap (λ (j : ℕ). behind_at s j (count_stop s)) a
            ∙ ap (λ (w : Word ℕ). scanned w (count_stop s + behind_stop (drop (count_stop s) s))) (behind-cut m.0 (drop (count_stop s) s))
            ∙ rw (z, m.1)
