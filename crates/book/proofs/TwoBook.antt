-- The book of two areas meets the equations. Assumes nothing.
use mathlib.Core.Path.{◌≡◌, sym, ap, ◌∙◌}
use mathlib.Core.List.{List}
use mathlib.Core.Bool.{true}
use Prim.Native.Nat.{ℕ, ◌≤◌}
use native.Mathlib.Omega.{arith}
use lib.ListN.{length, get_or, set, replicate, length-set, length-replicate, get_or-replicate}
use lib.Seq.{get_or-set_same, get_or-set_other}
use lib.Dec.{leb, eqb}
use borrow.Author.Tests.{leb-true, eqb-true, le-leb, eq-eqb, ne_eqb}
use Rattle.basis.specs.Limits.{most_vertices}
use Rattle.basis.proofs.Tests.{and_first, and_second, and_both, and-swap}
use Rattle.book.specs.Rules.{stop, to}
use Rattle.basis.specs.Area.{own_numbers}
use Rattle.basis.proofs.Areas.{column-length, column-at}
use Rattle.book.specs.Two.{next_in, fits, two, two_book}
use Rattle.book.proofs.Faithful.{Faithful}

-- ---- two areas that are well lent
module _ (ps ss : List ℕ) where
  fits-of : length ps ≤ most_vertices → length ss ≡ length ps → fits ps ss ≡ true
  unfolding fits
  fits-of h e = and_both (le-leb (length ps) most_vertices h) (eq-eqb (length ss) (length ps) e)

  -- of one length they are well lent as one area is
  pub fits-is : length ss ≡ length ps → fits ps ss ≡ leb (length ps) most_vertices
  unfolding fits
  fits-is e = rw (eq-eqb (length ss) (length ps) e) (and-swap (leb (length ps) most_vertices) true)

  fits-within : fits ps ss ≡ true → length ps ≤ most_vertices
  unfolding fits
  fits-within h = leb-true (length ps) most_vertices (and_first (leb (length ps) most_vertices) (eqb (length ss) (length ps)) h)

  fits-same : fits ps ss ≡ true → length ss ≡ length ps
  unfolding fits
  fits-same h = eqb-true (length ss) (length ps) (and_second (leb (length ps) most_vertices) (eqb (length ss) (length ps)) h)

-- ---- "A head is its own parent"
module _ (ps : List ℕ) (v : ℕ) where
  next-head : get_or ps v 0 ≡ v → next_in ps v ≡ stop
  unfolding next_in
  next-head e = simp (eq-eqb _ _ e)

  next-other : (get_or ps v 0 ≡ v → ⊥) → next_in ps v ≡ to (get_or ps v 0)
  unfolding next_in
  next-other d = simp (ne_eqb _ _ d)

pub faithful-two : Faithful two_book
unfolding two
faithful-two = record {
  fit-within = λ a f. fits-within a.parents a.sizes f;
  opened-fit = λ a f.
      let n = length a.parents in
      let e : length (own_numbers n) ≡ n = column-length (λ v. v) 0 n in
      fits-of (own_numbers n) (replicate n 1) (omega (arith, e, fits-within a.parents a.sizes f))
      (length-replicate {A = ℕ} n 1 ∙ sym e);
  opened-count = λ a. column-length (λ v. v) 0 (length a.parents);
  opened-next = λ a v l. next-head (own_numbers (length a.parents)) v (column-at (λ v. v) (length a.parents) v 0 l);
  opened-size = λ a v l. get_or-replicate {A = ℕ} (length a.parents) v 1 0 l;
  merged-fit = λ a t d s. unfold fits in simp length-set;
  merged-count = λ a t d s. length-set a.parents d t;
  merged-under = λ a t d s k.
      let e : get_or (set a.parents d t) d 0 ≡ t = get_or-set_same a.parents d t 0 k.under-in in
      next-other (set a.parents d t) d (λ q. k.apart (sym e ∙ q)) ∙ ap to e;
  merged-next = λ a t d s k x n. unfold next_in in simp (get_or-set_other a.parents d x t 0 n);
  merged-top = λ a t d s k. get_or-set_same a.sizes t s 0 (omega (arith, k.top_in, fits-same a.parents a.sizes k.fit));
  merged-size = λ a t d s k x n _. get_or-set_other a.sizes t x s 0 n;
}
