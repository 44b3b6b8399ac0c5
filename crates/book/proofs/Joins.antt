-- Laws of a join: which head goes above, when two groups may merge, what a join merges, and for each `return` of the code what the join
-- does. Assumes nothing.
use mathlib.Core.Path.{◌≡◌, refl, sym, ap, ap₂, ◌∙◌}
use mathlib.Core.List.{List}
use mathlib.Core.Bool.{Bool, true, false, ◌&&◌}
use mathlib.Core.Logic.{inl, inr}
use Prim.Native.Nat.{ℕ, ◌+◌, ◌≤◌, ◌<◌, min}
use native.Mathlib.Omega.{arith}
use native.Mathlib.Decide.{ℕ_discrete}
use lib.IntN.{ℤ}
use lib.ListN.{length}
use lib.Dec.{leb, ltb}
use borrow.Author.Tests.{leb-true, ltb-true, lt-ltb, le-ltb, le-leb, lt-leb, eq-eqb, ne_eqb}
use Rattle.basis.proofs.Saids.{refused-given, given-one, check-on, check-off}
use Rattle.basis.specs.Limits.{most_vertices}
use Rattle.basis.specs.declared.refusal.Refusal.{Refusal}
use Rattle.basis.specs.Refusal.{gives, refuses, plain, unsound, check, onward}
use Rattle.basis.proofs.Tests.{no-case, and_first, and_both, and-off}
use Rattle.book.specs.Rules.{View, heads, Step, already, merge, Joining, same, Outcome, outcome, above}
use Rattle.book.specs.Rules.{mergeable, merge_heads, link_heads, heads_of, decide, write_book, join_book}
use Rattle.book.specs.One.{size_here, one, one_book}
use Rattle.book.specs.Steps.{AtHead, link_one, hang_one}
use Rattle.book.proofs.Calls.{heads-inside, heads-below}
use Rattle.book.proofs.Areas.{size-pos}
use Rattle.book.proofs.Faithful.{Mergeable}
use Rattle.book.proofs.Forest.{Whose}

-- ---- which head goes above
module _ (a b g h : ℕ) where
  pub above_equal : a ≡ b → ltb g h ≡ above a b g h
  unfolding above
  above_equal e = rw (le-ltb b a (omega arith), le-ltb a b (omega arith))

  pub above-larger : b < a → true ≡ above a b g h
  unfolding above
  above-larger l = rw (lt-ltb b a l)

  pub above-smaller : a ≤ b → (a ≡ b → ⊥) → false ≡ above a b g h
  unfolding above
  above-smaller k n = rw (le-ltb b a k, lt-ltb a b (omega (arith, n)))

  pub merge-above : above a b g h ≡ true → merge_heads a b g h ≡ merge g h (a + b)
  unfolding merge_heads
  merge-above e = simp e

  pub merge-below : above a b g h ≡ false → merge_heads a b g h ≡ merge h g (a + b)
  unfolding merge_heads
  merge-below e = simp e

-- ---- when two groups may merge
module _ (n a b : ℕ) where
  pub mergeable-over : n < a + b → mergeable n a b ≡ false
  unfolding mergeable
  mergeable-over l = and-off (ltb 0 a && ltb 0 b) _ (lt-leb (a + b) n l)

  pub mergeable-of : 0 < a → 0 < b → a + b ≤ n → mergeable n a b ≡ true
  unfolding mergeable
  mergeable-of p q l = and_both (and_both (lt-ltb 0 a p) (lt-ltb 0 b q)) (le-leb (a + b) n l)

  mergeable-pos : mergeable n a b ≡ true → 0 < a
  unfolding mergeable
  mergeable-pos e = ltb-true 0 a (and_first (ltb 0 a) (ltb 0 b) (and_first (ltb 0 a && ltb 0 b) (leb (a + b) n) e))

-- ---- two heads
module _ (w : View) (g h : ℕ) where
  pub link-already : g ≡ h → link_heads w (heads g h) ≡ gives already
  unfolding link_heads
  link-already e = simp (eq-eqb g h e)

  module _ (apart : g ≡ h → ⊥) where
    link_apart : link_heads w (heads g h) ≡ check (mergeable w.count (w.size g) (w.size h)) unsound
        (gives (merge_heads (w.size g) (w.size h) g h))
    unfolding link_heads
    link_apart = simp (ne_eqb g h apart)

    pub link-unsound : mergeable w.count (w.size g) (w.size h) ≡ false → link_heads w (heads g h) ≡ refuses (plain unsound)
    link-unsound e = link_apart ∙ check-off _ unsound _ e

    pub link-merges : mergeable w.count (w.size g) (w.size h) ≡ true
        → link_heads w (heads g h) ≡ gives (merge_heads (w.size g) (w.size h) g h)
    link-merges e = link_apart ∙ check-on _ unsound _ e

-- ---- what a join merges

module _ (w : View) (u v g h : ℕ) (both : heads_of w u v ≡ gives (heads g h)) where
  -- heads that are two and of which one has a size can be merged, either way round
  heads-mergeable : (g ≡ h → ⊥) → 0 < w.size g
      → Mergeable w g h (w.size g + w.size h) × Mergeable w h g (w.size g + w.size h)
  heads-mergeable apart pos =
      let b = heads-below w u v g h both in
      let f = (heads-inside w u v g h both).0 in
      let p : 0 < w.size g + w.size h = omega arith in (
        record { fit = f; top_in = b.0; under-in = b.2; apart = apart; top_head = b.1; under-head = b.3; total-pos = p },
        record { fit = f; top_in = b.2; under-in = b.0; apart = λ q. apart (sym q); top_head = b.3; under-head = b.1; total-pos = p },
      )

  -- top and under are g and h, or the other way round
  pub link-merged : (t d s : ℕ) → link_heads w (heads g h) ≡ gives (merge t d s) → Mergeable w t d s × Whose (λ x. x) g h t d
  link-merged t d s e = same? (ℕ_discrete g h)
    where
      a : ℕ
      a = w.size g

      b : ℕ
      b = w.size h

      Merged : Type 0
      Merged = Mergeable w t d s × Whose (λ x. x) g h t d

      above? : (g ≡ h → ⊥) → mergeable w.count a b ≡ true → (y : Bool) → above a b g h ≡ y → Merged
      above? n m true q =
          let z : merge g h (a + b) ≡ merge t d s = given-one (ap gives (sym (merge-above a b g h q)) ∙ sym (link-merges w g h n m) ∙ e) in
          let i : g ≡ t = cc in
          let j : h ≡ d = cc in
          let k : a + b ≡ s = cc in
          (rw (← i, ← j, ← k) (heads-mergeable n (mergeable-pos w.count a b m)).0, inl (i, j))
      above? n m false q =
          let z : merge h g (a + b) ≡ merge t d s = given-one (ap gives (sym (merge-below a b g h q)) ∙ sym (link-merges w g h n m) ∙ e) in
          let i : h ≡ t = cc in
          let j : g ≡ d = cc in
          let k : a + b ≡ s = cc in
          (rw (← i, ← j, ← k) (heads-mergeable n (mergeable-pos w.count a b m)).1, inr (j, i))

      may? : (g ≡ h → ⊥) → (y : Bool) → mergeable w.count a b ≡ y → Merged
      may? n true q = above? n q (above a b g h) refl
      may? n false q = refused-given (sym (link-unsound w g h n q) ∙ e)

      same? : Dec (g ≡ h) → Merged
      same? (yes q) = let z : already ≡ merge t d s = given-one (sym (link-already w g h q) ∙ e) in no-case cc
      same? (no n) = may? n (mergeable w.count a b) refl

-- ---- the code's `link`
module _ (xs : List ℤ) (g h : ℕ) where
  pub one-already : g ≡ h → outcome (gives same) xs ≡ link_one xs g h
  unfolding link_one write_book
  one-already e = rw (link-already (one xs) g h e)

  -- a and b are the sizes as they are read
  module _ (x : AtHead xs g) (y : AtHead xs h) (apart : g ≡ h → ⊥) (a b : ℕ) (p : a ≡ min (size_here xs g) (length xs + 1))
      (q : b ≡ min (size_here xs h) (length xs + 1)) where
    pub one-unsound : (r : Refusal) → length xs < a + b → r ≡ plain unsound → outcome (refuses r) xs ≡ link_one xs g h
    unfolding link_one write_book one
    one-unsound r l e =
        rw (link-unsound (one xs) g h apart (mergeable-over (length xs) (size_here xs g) (size_here xs h) (omega arith)), e)

    module _ (l : a + b ≤ length xs) where
      -- the sum is one of a group of the book
      pub one-positive : 0 < a + b
      one-positive = let z = size-pos xs g x in omega arith

      pub one-within : a + b ≤ most_vertices
      one-within = let z = x.lent in omega arith

      one-merges : (s : Step) → merge_heads a b g h ≡ s → write_book one_book (gives s) xs ≡ link_one xs g h
      unfolding link_one one
      one-merges s e =
          let i : a ≡ size_here xs g = omega arith in
          let j : b ≡ size_here xs h = omega arith in
          let m = mergeable-of (length xs) (size_here xs g) (size_here xs h) (size-pos xs g x) (size-pos xs h y) (omega arith) in
          sym (ap (λ d. write_book one_book d xs) (link-merges (one xs) g h apart m
          ∙ ap gives (ap₂ (λ (c d : ℕ). merge_heads c d g h) (sym i) (sym j) ∙ e)))

      module _ (k : Bool) (d : Outcome Joining (List ℤ)) (e : k ≡ above a b g h) where
        pub one-above : k ≡ true → d ≡ hang_one xs g h (a + b) → d ≡ link_one xs g h
        unfolding hang_one
        one-above f r = r ∙ one-merges _ (merge-above a b g h (sym e ∙ f))

        pub one_below : k ≡ false → d ≡ hang_one xs h g (a + b) → d ≡ link_one xs g h
        unfolding hang_one
        one_below f r = r ∙ one-merges _ (merge-below a b g h (sym e ∙ f))

-- ---- the code's `join`
module _ (xs : List ℤ) (u v : ℕ) where
  pub one-refused : (x : Refusal) → refuses x ≡ heads_of (one xs) u v → outcome (refuses x) xs ≡ join_book one_book xs u v
  unfolding join_book decide write_book
  one-refused x e = ap (λ s. write_book one_book (onward s (link_heads (one xs))) xs) e

  module _ (g h : ℕ) (e : gives (heads g h) ≡ heads_of (one xs) u v) where
    pub one-linked : (d : Outcome Joining (List ℤ)) → d ≡ link_one xs g h → d ≡ join_book one_book xs u v
    unfolding join_book link_one decide
    one-linked d a = a ∙ ap (λ s. write_book one_book (onward s (link_heads (one xs))) xs) e

    lent : length xs ≤ most_vertices
    unfolding one
    lent = leb-true (length xs) most_vertices (heads-inside (one xs) u v g h (sym e)).0

    pub one-first : AtHead xs g
    unfolding one
    one-first = let b = heads-below (one xs) u v g h (sym e) in record { lent = lent; inside = b.0; head = b.1 }

    pub one-second : AtHead xs h
    unfolding one
    one-second = let b = heads-below (one xs) u v g h (sym e) in record { lent = lent; inside = b.2; head = b.3 }
