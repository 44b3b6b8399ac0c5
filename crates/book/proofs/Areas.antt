-- Laws of the area: an opening, for each `return` of the code, and a head's size as the code reads it. Assumes nothing.
use mathlib.Core.Path.{◌≡◌, ap, ◌∙◌}
use mathlib.Core.List.{List}
use mathlib.Core.Bool.{Bool, true, false}
use Prim.Native.Nat.{ℕ, ◌+◌, ◌≤◌, ◌<◌, min}
use native.Mathlib.Omega.{arith}
use lib.IntN.{ℤ, pos, negsuc}
use lib.ListN.{length, get_or, replicate}
use lib.Dec.{leb}
use borrow.Author.Tests.{leb-true}
use Rattle.basis.specs.Limits.{most_vertices}
use Rattle.basis.proofs.Tests.{failed, held, no-case}
use Rattle.basis.specs.declared.refusal.Refusal.{Refusal}
use Rattle.basis.specs.Refusal.{gives, refuses, plain, no_room, unsound}
use Rattle.book.specs.Rules.{stop, walk_end, outcome, open_book, head_of, group_size}
use Rattle.book.specs.One.{next_of, size_of, next_here, size_here, one, one_book}
use Rattle.book.specs.Steps.{AtHead}
use Rattle.book.proofs.Calls.{size_below, size-large, size_is, limit-size}

-- ---- an opening
module _ (xs : List ℤ) (t : Bool) (e : t ≡ leb (length xs) most_vertices) where
  pub open-unlent : (x : Refusal) → t ≡ false → x ≡ plain no_room → outcome (refuses x) xs ≡ open_book one_book xs
  unfolding open_book one
  open-unlent x f p = rw (failed t _ e f, p)

  pub open-ready : (ys : List ℤ) → t ≡ true → ys ≡ replicate (length xs) (negsuc 0) → outcome (gives tt) ys ≡ open_book one_book xs
  unfolding open_book one
  open-ready ys f p = rw (held t _ e f, p)

-- ---- the size at a head, or one more than the length where it is above the length
pub size-pos : (xs : List ℤ) (h : ℕ) → AtHead xs h → 0 < size_here xs h
unfolding size_here next_here
size-pos xs h x = go (get_or xs h (pos 0)) x.head
  where
    go : (z : ℤ) → next_of z ≡ stop → 0 < size_of z
    go (pos p) e = no-case cc
    go (negsuc k) e = omega arith

module _ (xs : List ℤ) (v h k : ℕ) (e : gives (walk_end h k) ≡ head_of (one xs) v) where
  pub head_read : AtHead xs h
  unfolding one
  head_read =
      let t = size_below (one xs) v h k e in
      record { lent = leb-true (length xs) most_vertices t.0; inside = t.1; head = t.2 }

  module _ (s : ℕ) (q : s ≡ min (size_here xs h) (length xs + 1)) where
    pub read-large : (x : Refusal) → length xs < s → x ≡ plain unsound → refuses x ≡ group_size (one xs) v
    unfolding one
    read-large x l p = size-large (one xs) v h k e x (omega arith) p

    pub read_is : s ≤ length xs → gives s ≡ group_size (one xs) v
    unfolding one
    read_is l =
        let p : s ≡ size_here xs h = omega arith in
        let z = size-pos xs h head_read in
        ap gives p ∙ size_is (one xs) v h k e (λ y. omega arith) (omega arith)

-- the size that gives the step limit is above 0, and within the limit
module _ (xs : List ℤ) (v s : ℕ) (e : gives s ≡ group_size (one xs) v) where
  pub limit-positive : 0 < s
  limit-positive = (limit-size (one xs) v s e).1

  pub limit-within : s ≤ most_vertices
  unfolding one
  limit-within = let t = limit-size (one xs) v s e in omega (arith, t.2, leb-true (length xs) most_vertices t.0)
