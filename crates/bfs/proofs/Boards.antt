-- Laws of the board: how many vertices are seen, and that a step keeps the board ready. Assumes nothing.
use Prim.Native.Nat.{ℕ, zero, suc, ◌+◌, ◌≤◌, ◌<◌}
use mathlib.Core.Path.{◌≡◌, refl, sym, ap, ◌∙◌, subst}
use mathlib.Core.Bool.{Bool, true, false, cond}
use mathlib.Core.List.{List, [], ◌∷◌}
use native.Mathlib.Nat.{not-suc-le-zero, le_of_suc-le-suc}
use native.Mathlib.Numerals.{add-one}
use native.Mathlib.Omega.{arith}
use mir.Syntax.{w64}
use mir.Val.{to_z, of_z, SFits}
use mir.Facts.{to_z-of_z, to_z_pos}
use lib.IntN.{ℤ, pos}
use lib.ListN.{length, get_or, set, drop, replicate, length-set, drop_of_length-le}
use lib.Seq.{drop-cons}
use borrow.Author.Tests.{ne_eqb}
use Rattle.basis.specs.Scan.{all_below}
use Rattle.basis.proofs.Tests.{bool_cases}
use Rattle.basis.proofs.Scans.{below_at}
use Rattle.basis.proofs.Orders.{signed-order}
use Rattle.basis.specs.Area.{infinity, unreachable}
use Rattle.bfs.specs.Steps.{Board, board, is_far, entered, relaxed, relaxed_all, seen, Queued}

-- ---- how many vertices are seen
more-le : (t : Bool) (k : ℕ) → cond t k (suc k) ≤ suc k
more-le true k = omega arith
more-le false k = omega arith

more-suc : (t : Bool) (k : ℕ) → cond t (suc k) (suc (suc k)) ≡ suc (cond t k (suc k))
more-suc true k = refl
more-suc false k = refl

pub seen-le : (l : List ℤ) → seen l ≤ length l
unfolding seen
seen-le [] = omega arith
seen-le (z ∷ l) = omega (arith, more-le (is_far z) (seen l), seen-le l)

pub seen-lt : (l : List ℤ) (w : ℕ) → w < length l → is_far (get_or l w (pos 0)) ≡ true → seen l < length l
unfolding seen
seen-lt [] w h e = absurd (not-suc-le-zero h)
seen-lt (z ∷ l) zero h e = rw e (omega (arith, seen-le l))
seen-lt (z ∷ l) (suc w) h e = omega (arith, more-le (is_far z) (seen l), seen-lt l w (le_of_suc-le-suc h) e)

seen-set : (l : List ℤ) (w : ℕ) (y : ℤ) → w < length l → is_far (get_or l w (pos 0)) ≡ true → is_far y ≡ false → seen (set l w y)
    ≡ suc (seen l)
unfolding seen
seen-set [] w y h e f = absurd (not-suc-le-zero h)
seen-set (z ∷ l) zero y h e f = rw (e, f)
seen-set (z ∷ l) (suc w) y h e f = rw (seen-set l w y (le_of_suc-le-suc h) e f) (more-suc (is_far z) (seen l))

pub seen_none : (n : ℕ) → seen (replicate n unreachable) ≡ 0
unfolding seen
seen_none zero = refl
seen_none (suc n) = seen_none n

-- ---- the far mark
near-mark : (d : ℕ) → d < infinity → is_far (pos d) ≡ false
near-mark d h = ne_eqb d infinity (λ e. omega arith)

pub far-mark : (z : ℤ) → z ≡ unreachable → is_far z ≡ true
far-mark z e = ap is_far e

pub mark-far : (z : ℤ) → is_far z ≡ true → z ≡ unreachable
mark-far z e = signed-order.same-eq z unreachable e

no_far-mark : (z : ℤ) → (z ≡ unreachable → ⊥) → is_far z ≡ false
no_far-mark z h = bool_cases (is_far z) (is_far z ≡ false) (λ e. absurd (h (mark-far z e))) (λ e. e)

-- ---- the two cases of a step
pub relaxed-new : (d w : ℕ) (S : Board) → is_far (get_or S.depth w (pos 0)) ≡ true → relaxed d w S ≡ entered d w S
unfolding relaxed
relaxed-new d w S e = rw e

pub relaxed-old : (d w : ℕ) (S : Board) → is_far (get_or S.depth w (pos 0)) ≡ false → relaxed d w S ≡ S
unfolding relaxed
relaxed-old d w S e = rw e

-- there is room for one vertex more where one is not seen
pub room-more : (S : Board) (w : ℕ) → Queued S → w < length S.depth → is_far (get_or S.depth w (pos 0)) ≡ true
    → S.tail < length S.queue
room-more S w r l e = omega (arith, seen-lt S.depth w l e, r.filled, r.room)

-- ---- the same of areas, by the code's test: z is a depth, as the bits of a signed number
marked : {z : ℤ} → SFits w64 z → of_z w64 z ≡ infinity → z ≡ unreachable
marked f e = sym (to_z-of_z f) ∙ ap (to_z w64) e

module _ (D : List ℤ) (Q : List ℕ) (t w : ℕ) where
  -- the queue has a place for a vertex that has no depth
  pub free_place : Queued (board D Q t) → w < length D → SFits w64 (get_or D w (pos 0)) → of_z w64 (get_or D w (pos 0)) ≡ infinity
      → t < length Q
  free_place q l f e = room-more (board D Q t) w q l (far-mark (get_or D w (pos 0)) (marked f e))

  pub step-new : (d : ℕ) → d < infinity → SFits w64 (get_or D w (pos 0)) → of_z w64 (get_or D w (pos 0)) ≡ infinity
      → board (set D w (to_z w64 d)) (set Q t w) (t + 1) ≡ relaxed d w (board D Q t)
  step-new d h f e =
      ap (λ (z : ℤ). board (set D w z) (set Q t w) (t + 1)) (to_z_pos w64 (omega arith))
      ∙ sym (relaxed-new d w (board D Q t) (far-mark (get_or D w (pos 0)) (marked f e)))

  pub step-old : (d : ℕ) → (of_z w64 (get_or D w (pos 0)) ≡ infinity → ⊥) → board D Q t ≡ relaxed d w (board D Q t)
  step-old d h = sym (relaxed-old d w (board D Q t) (no_far-mark (get_or D w (pos 0)) (λ e. h (ap (of_z w64) e))))

-- what a step keeps: the queue is filled as far as vertices are seen, and the areas keep their lengths
record Kept (S R : Board) : Type 0 where
  depth_len : length R.depth ≡ length S.depth
  queue_len : length R.queue ≡ length S.queue
  queued : Queued R

relaxed-kept : (d w : ℕ) (S : Board) → Queued S → w < length S.depth → d < infinity → Kept S (relaxed d w S)
relaxed-kept d w S r l h =
    bool_cases (is_far (get_or S.depth w (pos 0))) (Kept S (relaxed d w S))
    (λ e.
    subst (Kept S) (sym (relaxed-new d w S e))
    (record {
      depth_len = length-set S.depth w (pos d);
      queue_len = length-set S.queue S.tail w;
      queued =
          record {
            filled = seen-set S.depth w (pos d) l e (near-mark d h) ∙ ap suc r.filled ∙ sym (add-one S.tail);
            room = length-set S.queue S.tail w ∙ r.room ∙ sym (length-set S.depth w (pos d));
          };
    }))
    (λ e. subst (Kept S) (sym (relaxed-old d w S e)) (record { depth_len = refl; queue_len = refl; queued = r }))

pub queued-relaxed : (d w : ℕ) (S : Board) → Queued S → w < length S.depth → d < infinity → Queued (relaxed d w S)
queued-relaxed d w S r l h = (relaxed-kept d w S r l h).queued

-- ---- the walk over a part, i of its vertices met
pub record Walking (d : ℕ) (l : List ℕ) (S₀ S : Board) (i : ℕ) : Type 0 where
  pub queued : Queued S
  pub depth_len : length S.depth ≡ length S₀.depth
  pub queue_len : length S.queue ≡ length S₀.queue
  pub rest : relaxed_all d (drop i l) S ≡ relaxed_all d l S₀

walk_step : (d : ℕ) (l : List ℕ) (S : Board) (i : ℕ) → i < length l
    → relaxed_all d (drop i l) S ≡ relaxed_all d (drop (i + 1) l) (relaxed d (get_or l i 0) S)
unfolding relaxed_all
walk_step d l S i h = ap (λ (t : List ℕ). relaxed_all d t S) (drop-cons l i 0 h) ∙ rw add-one refl

module _ (d : ℕ) (l : List ℕ) (S₀ S : Board) (i : ℕ) (k : Walking d l S₀ S i) where
  -- the next vertex of the part is one of the graph's
  pub walking-low : all_below (length S₀.depth) l ≡ true → i < length l → get_or l i 0 < length S.depth
  walking-low b h = omega (arith, below_at (length S₀.depth) l b i h, k.depth_len)

  pub walking-more : (R : Board) → all_below (length S₀.depth) l ≡ true → d < infinity → i < length l → R ≡ relaxed d (get_or l i 0) S
      → Walking d l S₀ R (i + 1)
  walking-more R b f h e =
      let m = relaxed-kept d (get_or l i 0) S k.queued (walking-low b h) f in
      subst (λ (B : Board). Walking d l S₀ B (i + 1)) (sym e)
      (record {
        queued = m.queued;
        depth_len = m.depth_len ∙ k.depth_len;
        queue_len = m.queue_len ∙ k.queue_len;
        rest = sym (walk_step d l S i h) ∙ k.rest;
      })

  pub walking-end : length l ≤ i → S ≡ relaxed_all d l S₀
  unfolding relaxed_all
  walking-end h = ap (λ (t : List ℕ). relaxed_all d t S) (sym (drop_of_length-le l h)) ∙ k.rest
