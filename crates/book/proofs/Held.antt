-- For layers above: a book of n vertices that was opened and has accepted the joins js since.
-- Its areas stay shut; what is known of them is `Kept`.
-- Assumes nothing.
use mathlib.Core.Path.{◌≡◌, refl, sym, ap, ◌∙◌, subst}
use mathlib.Core.List.{List, [], ◌∷◌, ◌++◌, Memᴰ}
use mathlib.Core.Bool.{true}
use Prim.Native.Nat.{ℕ, ◌+◌, ◌-◌, ◌≤◌, ◌<◌}
use lib.IntN.{ℤ}
use lib.ListN.{length}
use borrow.Author.Tests.{le-leb}
use Rattle.basis.specs.Limits.{most_vertices}
use Rattle.basis.specs.Refusal.{gives}
use Rattle.basis.specs.Scan.{all_below}
use Rattle.book.specs.Rules.{Machine, walk_end, Each, all, open_book, join_each, head_of}
use Rattle.book.specs.One.{one, one_book}
use Rattle.book.specs.Series.{Call, Answer, Slip, slip, State, state, Kept, put_each, after}
use Rattle.book.specs.Series.{after_each, joinings, answer, run, head_at, moves_at}
use Rattle.book.proofs.Faithful.{Faithful}
use Rattle.book.proofs.Series.{open_is, run-snoc, demand3}

-- joins that stood on the list stand there still
pub put-old : (u : ℕ) (ws : List ℕ) (js : List Slip) (s : Slip) → Memᴰ s js → Memᴰ s (put_each u ws js)
unfolding put_each
put-old u [] js s m = m
put-old u (w ∷ ws) js s m = put-old u ws (slip u w ∷ js) s (Memᴰ.tail m)

pub record Held (M : Machine) (n : ℕ) (a : M.Area) (js : List Slip) : Type 0 where
  pub start : State M.Area
  pub fit : (M.view start.area).fit ≡ true
  pub count : (M.view start.area).count ≡ n
  pub calls : List Call
  pub merges : ℕ
  pub now : run M start (Call.opening ∷ calls) ≡ state a (gives tt) js merges

-- a book just opened
pub held-open : (M : Machine) (a : M.Area) → (M.view a).fit ≡ true → Held M (M.view a).count (open_book M a).area []
held-open M a f = record {
  start = state a (gives tt) [] 0;
  fit = f;
  count = refl;
  calls = [];
  merges = 0;
  now = unfold run after in rw (open_is M a f);
}

-- the same of one area
pub one-open : (xs : List ℤ) (n : ℕ) → n ≤ most_vertices → length xs ≡ n → Held one_book n (open_book one_book xs).area []
one-open xs n l e =
    let c : (one xs).count ≡ n = unfold one in e in
    let f : (one xs).fit ≡ true = unfold one in le-leb (length xs) most_vertices (subst (λ (k : ℕ). k ≤ most_vertices) (sym e) l) in
    subst (λ (k : ℕ). Held one_book k (open_book one_book xs).area []) c (held-open one_book xs f)

module _ (M : Machine) (L : Faithful M) (n : ℕ) (a : M.Area) (js : List Slip) (H : Held M n a js) where
  pub held_kept : Kept M n (state a (gives tt) js H.merges)
  held_kept =
      subst (Kept M n) H.now (subst (λ (k : ℕ). Kept M k (run M H.start (Call.opening ∷ H.calls))) H.count
      (demand3 M L H.start H.fit H.calls))

  pub held-head : (v : ℕ) → v < n → head_of (M.view a) v ≡ gives (walk_end (head_at (M.view a) v) (moves_at (M.view a) v))
  unfolding answer
  held-head v l =
      let e : Answer.heads (head_of (M.view a) v) ≡ Answer.heads
      (gives (walk_end (head_at (M.view a) v) (moves_at (M.view a) v))) = held_kept.headed v l in cc

  -- joins of a vertex of the book with others are accepted
  pub held_all : (u : ℕ) (ws : List ℕ) → u < n → all_below n ws ≡ true → (m : ℕ) × ((join_each M a u ws).said ≡ all m)
  unfolding answer
  held_all u ws k b =
      let s = state a (gives tt) js H.merges in
      let m = (run M s (joinings u ws)).merges - H.merges in
      let e : Answer.joins_each (join_each M a u ws).said ≡ Answer.joins_each (all m) = (held_kept.all_accepted u ws k b).0 in
      (m, cc)

  -- so they are of the series
  pub held-each : (u : ℕ) (ws : List ℕ) → u < n → all_below n ws ≡ true → Held M n (join_each M a u ws).area (put_each u ws js)
  held-each u ws k b = record {
    start = H.start;
    fit = H.fit;
    count = H.count;
    calls = H.calls ++ (c ∷ []);
    merges = H.merges + t.0;
    now = run-snoc M H.start (Call.opening ∷ H.calls) c ∙ ap (λ (s : State M.Area). after M s c) H.now ∙ last;
  }
    where
      c : Call
      c = Call.joining_each u ws

      t : (m : ℕ) × ((join_each M a u ws).said ≡ all m)
      t = held_all u ws k b

      last : after M (state a (gives tt) js H.merges) c ≡ state (join_each M a u ws).area (gives tt) (put_each u ws js) (H.merges + t.0)
      last = unfold after in ap (λ (x : Each). after_each u ws x (join_each M a u ws).area (state a (gives tt) js H.merges)) t.1
