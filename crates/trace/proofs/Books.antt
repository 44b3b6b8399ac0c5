-- What the book's calls say fits a number. Assumes nothing.
use mathlib.Core.Path.{◌≡◌, refl, sym, ap}
use mathlib.Core.Bool.{Bool, true, false, cond, ◌&&◌}
use mathlib.Core.List.{List}
use Prim.Native.Nat.{ℕ, zero, suc, ◌+◌, ◌^◌, ◌≤◌, ◌<◌}
use native.Mathlib.Omega.{arith}
use lib.IntN.{ℤ}
use lib.ListN.{length}
use lib.Dec.{leb, ltb, eqb}
use borrow.Author.Tests.{ltb-true, leb-true}
use Rattle.basis.specs.Limits.{most_vertices}
use Rattle.basis.specs.Refusal.{Said, gives, refuses, plain, no_room, unsound, not_there, check}
use Rattle.book.specs.Rules.{Next, stop, to, WalkEnd, walk_end, follow, Heads, Step, already, merge, merged, same, Outcome, outcome}
use Rattle.book.specs.Rules.{most_moves, walk, walk_from, head_of, pair, heads_of, same_group, group_size, tally, is_stop, group_count}
use Rattle.book.specs.Rules.{largest, step_limit, mergeable, merge_heads, link_heads, decide, open_book, write_book, join_book}
use Rattle.book.specs.One.{next_here, one, one_book}
use Rattle.book.proofs.Calls.{size-inside}
use Rattle.book.proofs.Tally.{tally-le}
use Rattle.trace.specs.Code.{coded, wide, Readable, nothing}
use Rattle.trace.specs.Book.{join_value, head_value, same_value, reading_value, book_told, book_tells}
use Rattle.trace.proofs.Codes.{onward-readable, readable-by, readable-given, readable-refused, readable-plain}
use Rattle.trace.proofs.Codes.{readable-check, readable-values, readable-silent, readable-untold, untold}

pair_readable : (s t : Said WalkEnd) → Readable wide s untold → Readable wide t untold → Readable wide (pair s t) untold
pair_readable (gives f) (gives g) h k = readable-silent _ (omega arith)
pair_readable (gives f) (refuses r) h k = let t = k.refusals r refl in readable-refused r t.0 t.1
pair_readable (refuses r) t h k = let t = h.refusals r refl in readable-refused r t.0 t.1

largest-le : (k s : ℕ) → largest k s ≤ k
unfolding largest
largest-le zero s = omega arith
largest-le (suc k) s = go (leb (2 ^ suc k) s) (largest-le k s)
  where
    go : (t : Bool) → largest k s ≤ k → cond t (suc k) (largest k s) ≤ suc k
    go true h = omega arith
    go false h = omega arith

-- a check of the book
checked : {A : Type 0} {value : A → ℕ} (t : Bool) (number : ℕ) {s : Said A} → 0 < number → number ≤ 21 → (t ≡ true → Readable wide s value)
    → Readable wide (check t number s) value
checked t number p q h = readable-check t number (omega arith) p q h

-- a head is in the area, and so many moves as a walk may take reach it
module _ (next : ℕ → Next) (n : ℕ) (small : n ≤ most_vertices) where
  walk-readable : (left moves at : ℕ) → at < n → moves + left ≤ most_moves → Readable wide (walk next n left moves at) head_value
  unfolding walk
  walk-readable zero moves at l m = go (next at)
    where
      go : (x : Next) → Readable wide (follow x (gives (walk_end at moves)) (λ p. refuses (plain unsound))) head_value
      go stop = readable-given (walk_end at moves) (omega arith)
      go (to p) = readable-plain unsound (omega arith) (omega arith) (omega arith)
  walk-readable (suc left) moves at l m = go (next at) (λ p k. walk-readable left (moves + 1) p k (omega arith))
    where
      go : (x : Next) → ((p : ℕ) → p < n → Readable wide (walk next n left (moves + 1) p) head_value)
          → Readable wide (follow x (gives (walk_end at moves)) (λ p. check (ltb p n) unsound (walk next n left (moves + 1) p))) head_value
      go stop ih = readable-given (walk_end at moves) (omega arith)
      go (to p) ih = checked (ltb p n) unsound (omega arith) (omega arith) (λ e. ih p (ltb-true p n e))

  walk_from-readable : (v : ℕ) → ltb v n ≡ true → Readable wide (walk_from next n v) head_value
  unfolding walk_from
  walk_from-readable v l = walk-readable most_moves 0 v (ltb-true v n l) (omega arith)

  walk_from-silent : (v : ℕ) → ltb v n ≡ true → Readable wide (walk_from next n v) untold
  walk_from-silent v l = readable-untold (walk_from-readable v l) (omega arith)

module _ (xs : List ℤ) where
  few : leb (length xs) most_vertices ≡ true → length xs ≤ most_vertices
  few f = leb-true (length xs) most_vertices f

  pub head-readable : (v : ℕ) → Readable wide (head_of (one xs) v) head_value
  unfolding head_of one
  head-readable v =
      checked _ no_room (omega arith) (omega arith)
      (λ f. checked _ not_there (omega arith) (omega arith) (λ l. walk_from-readable (next_here xs) (length xs) (few f) v l))

  heads-readable : (u v : ℕ) → Readable wide (heads_of (one xs) u v) untold
  unfolding heads_of one
  heads-readable u v =
      checked _ no_room (omega arith) (omega arith)
      (λ f. checked _ not_there (omega arith) (omega arith)
      (λ k. checked _ not_there (omega arith) (omega arith)
      (λ l. pair_readable _ _ (walk_from-silent (next_here xs) (length xs) (few f) u k)
      (walk_from-silent (next_here xs) (length xs) (few f) v l))))

  pub same-readable : (u v : ℕ) → Readable wide (same_group (one xs) u v) same_value
  unfolding same_group
  same-readable u v =
      onward-readable (heads_of (one xs) u v) (heads-readable u v)
      (λ p e. readable-given (eqb p.first p.second) (bit (eqb p.first p.second)))
    where
      bit : (t : Bool) → same_value t < wide
      bit true = omega arith
      bit false = omega arith

  size-checked : (v : ℕ) → Readable wide (group_size (one xs) v) untold
  unfolding group_size
  size-checked v =
      onward-readable (head_of (one xs) v) (readable-untold (head-readable v) (omega arith))
      (λ f e. let a = (one xs).size f.head in
      checked (ltb 0 a && leb a (one xs).count) unsound (omega arith) (omega arith) (λ t. readable-silent a (omega arith)))

  pub size-readable : (v : ℕ) → Readable wide (group_size (one xs) v) reading_value
  unfolding one
  size-readable v = readable-values (size-checked v) reading_value small
    where
      small : (s : ℕ) → group_size (one xs) v ≡ gives s → s < wide
      small s e = let t = size-inside (one xs) v s e in omega (arith, few t.0)

  pub count-readable : Readable wide (group_count (one xs)) reading_value
  unfolding group_count one
  count-readable = checked _ no_room (omega arith) (omega arith) (λ f. readable-given _ (small f))
    where
      small : leb (length xs) most_vertices ≡ true → tally (λ v. is_stop (next_here xs v)) (length xs) < wide
      small f = omega (arith, few f, tally-le (λ v. is_stop (next_here xs v)) (length xs))

  pub limit-readable : (v : ℕ) → Readable wide (step_limit (one xs) v) reading_value
  unfolding step_limit
  limit-readable v =
      onward-readable (group_size (one xs) v) (readable-untold (size-readable v) (omega arith))
      (λ s e. readable-given (largest most_moves s) (omega (arith, largest-le most_moves s)))

  pub open-readable : Readable wide (open_book one_book xs).said nothing
  unfolding open_book
  open-readable = go (one xs).fit
    where
      go : (t : Bool)
          → Readable wide (cond t (outcome (gives tt) (one_book.opened xs)) (outcome (refuses (plain no_room)) xs)
          ).said
          nothing
      go true = readable-given tt (omega arith)
      go false = readable-plain no_room (omega arith) (omega arith) (omega arith)

  link-readable : (p : Heads) → Readable wide (link_heads (one xs) p) untold
  unfolding link_heads
  link-readable p =
      let a = (one xs).size p.first in
      let b = (one xs).size p.second in
      go (eqb p.first p.second) (mergeable (one xs).count a b) (merge_heads a b p.first p.second)
    where
      go : (t m : Bool) (x : Step) → Readable wide (cond t (gives already) (check m unsound (gives x))) untold
      go true m x = readable-silent already (omega arith)
      go false m x = checked m unsound (omega arith) (omega arith) (λ e. readable-silent x (omega arith))

  written-readable : (s : Said Step) → Readable wide s untold → Readable wide (write_book one_book s xs).said join_value
  unfolding write_book
  written-readable (gives already) h = readable-given same (omega arith)
  written-readable (gives (merge top under total)) h = readable-given merged (omega arith)
  written-readable (refuses r) h = let t = h.refusals r refl in readable-refused r t.0 t.1

  pub join-readable : (u v : ℕ) → Readable wide (join_book one_book xs u v).said join_value
  unfolding join_book decide
  join-readable u v = written-readable _ (onward-readable (heads_of (one xs) u v) (heads-readable u v) (λ p e. link-readable p))

-- a call that may write tells its answer and the area
module _ {A : Type 0} (value : A → ℕ) (d : Outcome A (List ℤ)) (s : Said A) (xs : List ℤ) (e : outcome s xs ≡ d) where
  pub book-readable : Readable wide d.said value → Readable wide s value
  book-readable h = readable-by (ap (λ x. x.said) e) h

  pub book-told : (k : ℕ) → k ≡ coded s value → book_told k xs ≡ book_tells value d
  unfolding book_tells
  book-told k f = rw (f, sym e)
