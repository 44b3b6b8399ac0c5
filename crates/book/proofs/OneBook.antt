-- The book of one area meets the equations, so demand 3 holds of it. Assumes nothing.
use mathlib.Core.Path.{◌≡◌, sym, ap, ◌∙◌}
use mathlib.Core.List.{List}
use Prim.Native.Nat.{ℕ}
use native.Mathlib.Omega.{arith}
use native.Mathlib.Decide.{ℕ_discrete}
use lib.IntN.{ℤ, pos, negsuc, neg_ℤ}
use lib.ListN.{length, get_or, set, replicate, length-set, length-replicate, get_or-replicate}
use lib.Seq.{get_or-set_same, get_or-set_other}
use borrow.Author.Tests.{leb-true, le-leb}
use Rattle.basis.specs.Limits.{most_vertices}
use Rattle.book.specs.One.{next_of, size_of, next_here, size_here, one, one_book}
use Rattle.book.specs.Series.{Demand3One}
use Rattle.book.proofs.Entries.{minus-head, minus-size}
use Rattle.book.proofs.Faithful.{Mergeable, Faithful}
use Rattle.book.proofs.Series.{demand3}

-- the entries after a merge
module _ (xs : List ℤ) (t d s : ℕ) (k : Mergeable (one xs) t d s) where
  abbrev after : List ℤ
  after = set (set xs d (pos t)) t (neg_ℤ (pos s))

  entry-under : get_or after d (pos 0) ≡ pos t
  unfolding one
  entry-under =
      get_or-set_other (set xs d (pos t)) t d (neg_ℤ (pos s)) (pos 0) (λ e. k.apart (sym e))
      ∙ get_or-set_same xs d (pos t) (pos 0) k.under-in

  entry_top : get_or after t (pos 0) ≡ neg_ℤ (pos s)
  unfolding one
  entry_top = get_or-set_same (set xs d (pos t)) t (neg_ℤ (pos s)) (pos 0) (rw length-set k.top_in)

  entry_other : (x : ℕ) → (x ≡ t → ⊥) → (x ≡ d → ⊥) → get_or after x (pos 0) ≡ get_or xs x (pos 0)
  entry_other x a b = get_or-set_other (set xs d (pos t)) t x (neg_ℤ (pos s)) (pos 0) a ∙ get_or-set_other xs d x (pos t) (pos 0) b

  next-kept : (x : ℕ) → (x ≡ d → ⊥) → next_here after x ≡ next_here xs x
  unfolding one next_here
  next-kept x b = go (ℕ_discrete x t)
    where
      go : Dec (x ≡ t) → next_of (get_or after x (pos 0)) ≡ next_of (get_or xs x (pos 0))
      go (yes q) = rw q (ap next_of entry_top ∙ minus-head s k.total-pos ∙ sym k.top_head)
      go (no q) = ap next_of (entry_other x q b)

pub faithful-one : Faithful one_book
unfolding one next_here size_here
faithful-one = record {
  fit-within = λ xs f. leb-true (length xs) most_vertices f;
  opened-fit = λ xs f.
      le-leb (length (replicate (length xs) (negsuc 0))) most_vertices
      (omega (arith, length-replicate (length xs) (negsuc 0), leb-true (length xs) most_vertices f));
  opened-count = λ xs. length-replicate (length xs) (negsuc 0);
  opened-next = λ xs v l. ap next_of (get_or-replicate (length xs) v (negsuc 0) (pos 0) l);
  opened-size = λ xs v l. ap size_of (get_or-replicate (length xs) v (negsuc 0) (pos 0) l);
  merged-fit = λ xs t d s. simp length-set;
  merged-count = λ xs t d s. simp length-set;
  merged-under = λ xs t d s k. ap next_of (entry-under xs t d s k);
  merged-next = λ xs t d s k x n. next-kept xs t d s k x n;
  merged-top = λ xs t d s k. ap size_of (entry_top xs t d s k) ∙ minus-size s;
  merged-size = λ xs t d s k x a b. ap size_of (entry_other xs t d s k x a b);
}

-- Demand 3 of the book of one area
pub demand3-one : Demand3One
unfolding one
demand3-one s l cs = demand3 one_book faithful-one s (le-leb (length s.area) most_vertices l) cs
