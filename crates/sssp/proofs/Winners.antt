-- Laws of the tree of winners: what a node says, a node that is played again, a key that changes, and that the top is the least.
-- Assumes nothing.
use Prim.Native.Nat.{ℕ, zero, suc, ◌+◌, ◌-◌, ◌*◌, ◌/◌, ◌≤◌, ◌<◌}
use mathlib.Core.Path.{◌≡◌, refl, sym, ap, ap₂, ◌∙◌, subst}
use mathlib.Core.Logic.{◌⊎◌, inl, inr, ⊎_elim}
use mathlib.Core.List.{List}
use native.Mathlib.Decide.{ℕ_discrete, dec_lt}
use native.Mathlib.Nat.{eq-or-lt_of_le}
use native.Mathlib.Omega.{arith}
use lib.ListN.{length, get_or, set, length-set}
use lib.Seq.{get_or-set_same, get_or-set_other}
use borrow.Author.Tests.{lt-ltb, le-ltb}
use Rattle.sssp.specs.Tree.{won, nearer, winner_at, Nodes, Played, None, Spoiled}

-- ---- who wins
pub won-node : (tree : List ℕ) (k : ℕ) → k < length tree → get_or tree k 0 ≡ won tree k
unfolding won
won-node tree k h = rw (lt-ltb k (length tree) h)

pub won-leaf : (tree : List ℕ) (k : ℕ) → length tree ≤ k → k - length tree ≡ won tree k
unfolding won
won-leaf tree k h = rw (le-ltb k (length tree) h)

pub nearer-second : (key : List ℕ) (a b : ℕ) → get_or key b 0 < get_or key a 0 → b ≡ nearer key a b
unfolding nearer
nearer-second key a b h = rw (lt-ltb (get_or key b 0) (get_or key a 0) h)

pub nearer-first : (key : List ℕ) (a b : ℕ) → get_or key a 0 ≤ get_or key b 0 → a ≡ nearer key a b
unfolding nearer
nearer-first key a b h = rw (le-ltb (get_or key b 0) (get_or key a 0) h)

-- the nearer of two is one of them, and its key is at most both
record Nearer (key : List ℕ) (a b x : ℕ) : Type 0 where
  either : (x ≡ a) ⊎ (x ≡ b)
  first : get_or key x 0 ≤ get_or key a 0
  second : get_or key x 0 ≤ get_or key b 0

nearer-is : (key : List ℕ) (a b : ℕ) → Nearer key a b (nearer key a b)
nearer-is key a b =
    elim (dec_lt (get_or key b 0) (get_or key a 0)) as (λ _. Nearer key a b (nearer key a b)) [
      | yes h ↦ subst (Nearer key a b) (nearer-second key a b h) (record { either = inr refl; first = omega arith; second = omega arith })
      | no h ↦ subst (Nearer key a b) (nearer-first key a b (omega arith))
          (record { either = inl refl; first = omega arith; second = omega arith })
    ]

pub won-low : (key tree : List ℕ) → Nodes key tree → (k : ℕ) → k < 2 * length tree → won tree k < length tree
won-low key tree r k h =
    elim (dec_lt k (length tree)) as (λ _. won tree k < length tree) [
      | yes g ↦ rw (← won-node tree k g) (r.low k g)
      | no g ↦ rw (← won-leaf tree k (omega arith)) (omega arith)
    ]

winner-low : (key tree : List ℕ) → Nodes key tree → (k : ℕ) → k < length tree → winner_at key tree k < length tree
winner-low key tree r k h =
    ⊎_elim (λ e. rw e (won-low key tree r (2 * k) (omega arith))) (λ e. rw e (won-low key tree r (2 * k + 1) (omega arith)))
    (nearer-is key (won tree (2 * k)) (won tree (2 * k + 1))).either

-- ---- a node that is played again changes no other
won-other : (tree : List ℕ) (k x j : ℕ) → (j ≡ k → ⊥) → won (set tree k x) j ≡ won tree j
unfolding won
won-other tree k x j d = rw (length-set tree k x, get_or-set_other tree k j x 0 d)

winner-other : (key tree : List ℕ) (k x i : ℕ) → (2 * i ≡ k → ⊥) → (2 * i + 1 ≡ k → ⊥) → winner_at key (set tree k x) i
    ≡ winner_at key tree i
winner-other key tree k x i d e = ap₂ (nearer key) (won-other tree k x (2 * i) d) (won-other tree k x (2 * i + 1) e)

ready-more : (key tree : List ℕ) (k : ℕ) → Nodes key tree → k < length tree → Nodes key (set tree k (winner_at key tree k))
ready-more key tree k r h =
    record {
      long = length-set tree k (winner_at key tree k) ∙ r.long;
      low = λ i g. rw (length-set tree k (winner_at key tree k))
          (at i (rw (length-set tree k (winner_at key tree k)) at g) (ℕ_discrete i k));
    }
  where
    at : (i : ℕ) → i < length tree → Dec (i ≡ k) → get_or (set tree k (winner_at key tree k)) i 0 < length tree
    at i g (yes e) = rw (e, get_or-set_same tree k (winner_at key tree k) 0 h) (winner-low key tree r k h)
    at i g (no d) = rw (get_or-set_other tree k i (winner_at key tree k) 0 d) (r.low i g)

-- node k is played: what was left out is k or still left out, and so is what stands over k
module _ (E F : ℕ → Type 0) (key tree : List ℕ) (k : ℕ) (p : Played E key tree) (h : k < length tree) where
  abbrev after : List ℕ
  after = set tree k (winner_at key tree k)

  abbrev Right : ℕ → Type 0
  Right i = F i ⊎ (get_or after i 0 ≡ winner_at key after i)

  played-here : (i : ℕ) → 0 < i → i ≡ k → Right i
  played-here i z e =
      inr
      (rw e
      (get_or-set_same tree k (winner_at key tree k) 0 h ∙ sym (winner-other key tree k (winner_at key tree k) k (λ o. omega arith)
      (λ o. omega arith))))

  played-other : F (k / 2) → (i : ℕ) → (i ≡ k → ⊥) → get_or tree i 0 ≡ winner_at key tree i → Dec (i ≡ k / 2) → Right i
  played-other over i d e (yes q) = inl (subst F (sym q) over)
  played-other over i d e (no q) =
      inr
      (get_or-set_other tree k i (winner_at key tree k) 0 d ∙ e
      ∙ sym (winner-other key tree k (winner_at key tree k) i (λ o. q (omega arith)) (λ o. q (omega arith))))

  played-more : ((i : ℕ) → 0 < i → E i → (i ≡ k) ⊎ F i) → F (k / 2) → Played F key (set tree k (winner_at key tree k))
  played-more keeps over =
      record {
        ready = ready-more key tree k p.ready h;
        right = λ i z g. at i z (rw (length-set tree k (winner_at key tree k)) at g)
            (ℕ_discrete i k);
      }
    where
      at : (i : ℕ) → 0 < i → i < length tree → Dec (i ≡ k) → Right i
      at i z g (yes e) = played-here i z e
      at i z g (no d) =
          ⊎_elim (λ o. ⊎_elim (λ e. absurd (d e)) (λ f. inl f) (keeps i z o)) (λ e. played-other over i d e (ℕ_discrete i (k / 2)))
          (p.right i z g)

-- ---- every node is played, from the last one
pub build-more : (key tree tree' : List ℕ) (k : ℕ) → Played (λ i. i < k) key tree → k ≤ length tree → 1 < k
    → tree' ≡ set tree (k - 1) (winner_at key tree (k - 1)) → Played (λ i. i < k - 1) key tree'
build-more key tree tree' k p l h e =
    rw e
    (played-more (λ i. i < k) (λ i. i < k - 1) key tree (k - 1) p (omega arith)
    (λ i z g. ⊎_elim (λ q. inl (omega arith)) (λ q. inr q) (eq-or-lt_of_le (let y : i ≤ k - 1 = omega arith in y))) (omega arith))

-- ---- the way up from a node
-- t steps up from node k
unfoldable pub up : ℕ → ℕ → ℕ
up zero k = k
up (suc t) k = up t (k / 2)

-- the nodes from k up to the top
abbrev pub Above : ℕ → ℕ → Type 0
Above k i = (t : ℕ) × (up t k ≡ i)

up-half : (t k : ℕ) → up t k / 2 ≡ up t (k / 2)
unfolding up
up-half zero k = refl
up-half (suc t) k = up-half t (k / 2)

up_top : (t : ℕ) → up t 0 ≡ 0
unfolding up
up_top zero = refl
up_top (suc t) = up_top t

above-here : (k : ℕ) → Above k k
unfolding up
above-here k = (0, refl)

above-next : (k i : ℕ) → Above k i → Above k (i / 2)
unfolding up
above-next k i (t, e) = (suc t, sym (up-half t k) ∙ ap (λ (x : ℕ). x / 2) e)

above_cases : (k i : ℕ) → Above k i → (i ≡ k) ⊎ Above (k / 2) i
unfolding up
above_cases k i (zero, e) = inl (sym e)
above_cases k i (suc t, e) = inr (t, e)

up_le : (t k : ℕ) → up t k ≤ k
unfolding up
up_le zero k = omega arith
up_le (suc t) k = let l : up t (k / 2) ≤ k / 2 = up_le t (k / 2) in omega arith

-- of the two nodes below one, one at most stands over a node
twin : (t s k : ℕ) → up t k / 2 ≡ up s k / 2 → 0 < up t k / 2 → up t k ≡ up s k
unfolding up
twin zero zero k q z = refl
twin zero (suc s) k q z = let l : up s (k / 2) ≤ k / 2 = up_le s (k / 2) in absurd (omega arith)
twin (suc t) zero k q z = let l : up t (k / 2) ≤ k / 2 = up_le t (k / 2) in absurd (omega arith)
twin (suc t) (suc s) k q z = twin t s (k / 2) q z

twins : (k a b : ℕ) → Above k a → Above k b → a / 2 ≡ b / 2 → 0 < a / 2 → a ≡ b
twins k a b (t, e) (s, f) q z = sym e ∙ twin t s k (rw (e, f) q) (rw e z) ∙ f

replay-more : (key tree tree' : List ℕ) (k : ℕ) → Played (Above k) key tree → k < length tree → tree' ≡ set tree k (winner_at key tree k)
    → Played (Above (k / 2)) key tree'
replay-more key tree tree' k p h e =
    rw e (played-more (Above k) (Above (k / 2)) key tree k p h (λ i z a. above_cases k i a) (above-here (k / 2)))

replay-end : (key tree : List ℕ) (k : ℕ) → k ≤ 0 → Played (Above k) key tree → Played None key tree
replay-end key tree k h p =
    record {
      ready = p.ready;
      right = λ i z g.
          ⊎_elim (λ a. absurd (let y : up a.0 k ≡ 0 = ap (up a.0) (let q : k ≡ 0 = omega arith in q)
          ∙ up_top a.0 in omega (arith, a.1))) (λ e. inr e)
          (p.right i z g);
    }

-- ---- a key changes
module _ (key tree : List ℕ) (p : Played None key tree) where
  right : (i : ℕ) → 0 < i → i < length tree → get_or tree i 0 ≡ winner_at key tree i
  right i z g = ⊎_elim (λ o. absurd o) (λ e. e) (p.right i z g)

  -- a vertex wins only on the way up from its own node
  way : (f v k : ℕ) → 2 * length tree ≤ k + f → 0 < k → won tree k ≡ v → v < length tree → Above (length tree + v) k
  way zero v k b z e h = let q : k - length tree ≡ won tree k = won-leaf tree k (omega arith) in absurd (omega arith)
  way (suc f) v k b z e h =
      elim (dec_lt k (length tree)) as (λ _. Above (length tree + v) k) [
        | yes g ↦
            let s : won tree k ≡ winner_at key tree k = sym (won-node tree k g) ∙ right k z g in
            ⊎_elim
            (λ q. let a = above-next (length tree + v) (2 * k) (way f v (2 * k) (omega arith) (omega arith) (sym q ∙ sym s
            ∙ e) h) in let y : 2 * k / 2 ≡ k = omega arith in rw y at a)
            (λ q. let a = above-next (length tree + v) (2 * k + 1) (way f v (2 * k + 1) (omega arith) (omega arith) (sym q ∙ sym s
            ∙ e) h) in let y : (2 * k + 1) / 2 ≡ k = omega arith in rw y at a)
            (nearer-is key (won tree (2 * k)) (won tree (2 * k + 1))).either
        | no g ↦
            let y : length tree + v ≡ k = let q : k - length tree ≡ won tree k = won-leaf tree k (omega arith) in omega arith in
            rw y (above-here k)
      ]

  nearer-key : (v x a b : ℕ) → (a ≡ v → ⊥) → (b ≡ v → ⊥) → nearer (set key v x) a b ≡ nearer key a b
  unfolding nearer
  nearer-key v x a b d e = rw (get_or-set_other key v a x 0 d, get_or-set_other key v b x 0 e)

  -- node i stands over a node that v wins
  over : (v i j : ℕ) → v < length tree → 0 < j → j / 2 ≡ i → i < length tree → won tree j ≡ v → Above ((length tree + v) / 2) i
  over v i j h z q l e =
      let a = above-next (length tree + v) j (way (2 * length tree) v j (omega arith) z e h) in
      ⊎_elim (λ o. absurd (omega arith)) (λ o. o) (above_cases (length tree + v) i (rw q at a))

  -- v gets key x: only nodes over v may be wrong now
  rekey-first : (v x : ℕ) → v < length key → Played (Above ((length tree + v) / 2)) (set key v x) tree
  rekey-first v x h =
      record {
        ready = record { long = p.ready.long ∙ sym (length-set key v x); low = p.ready.low };
        right = λ i z g. at i z g (ℕ_discrete (won tree (2 * i)) v) (ℕ_discrete (won tree (2 * i + 1)) v);
      }
    where
      l : v < length tree
      l = omega (arith, p.ready.long)

      at : (i : ℕ) → 0 < i → i < length tree → Dec (won tree (2 * i) ≡ v) → Dec (won tree (2 * i + 1) ≡ v)
          → Above ((length tree + v) / 2) i ⊎ (get_or tree i 0 ≡ winner_at (set key v x) tree i)
      at i z g (yes d) e = inl (over v i (2 * i) l (omega arith) (omega arith) g d)
      at i z g (no d) (yes e) = inl (over v i (2 * i + 1) l (omega arith) (omega arith) g e)
      at i z g (no d) (no e) = inr (right i z g ∙ sym (nearer-key v x (won tree (2 * i)) (won tree (2 * i + 1)) d e))

  -- k stands over v: v does not win beside k
  twin-wins : (v k j : ℕ) → v < length tree → Above (length tree + v) k → 0 < k / 2 → j / 2 ≡ k / 2 → won tree j ≡ v → won tree k ≡ v
  twin-wins v k j h a z q e =
      let w = way (2 * length tree) v j (omega arith) (omega arith) e h in
      let y : k ≡ j = sym (twins (length tree + v) j k w a q (omega arith)) in
      ap (won tree) y ∙ e

  -- k stands over v: v, where it wins at a node beside the way up from k or on it, wins at k
  wins-below : (t v k j : ℕ) → v < length tree → k < length tree → Above (length tree + v) k → 0 < j / 2 → up t (k / 2) ≡ j / 2
      → won tree j ≡ v → won tree k ≡ v
  unfolding up
  wins-below zero v k j h l a z q e = twin-wins v k j h a (omega arith) (sym q) e
  wins-below (suc t) v k j h l a z q e =
      let y : up t (k / 2 / 2) ≤ k / 2 / 2 = up_le t (k / 2 / 2) in
      let b : won tree (k / 2) ≡ v = wins-below t v (k / 2) j h (omega arith) (above-next (length tree + v) k a) z q e in
      let s : won tree (k / 2) ≡ winner_at key tree (k / 2) = sym (won-node tree (k / 2) (omega arith))
      ∙ right (k / 2) (omega arith) (omega arith) in
      ⊎_elim (λ w. twin-wins v k (2 * (k / 2)) h a (omega arith) (omega arith) (sym w ∙ sym s ∙ b))
      (λ w. twin-wins v k (2 * (k / 2) + 1) h a (omega arith) (omega arith) (sym w ∙ sym s ∙ b))
      (nearer-is key (won tree (2 * (k / 2))) (won tree (2 * (k / 2) + 1))).either

  -- v does not win at k: the nodes over k are right by the new keys too
  right-over : (v x k i : ℕ) → v < length tree → k < length tree → Above (length tree + v) k → (won tree k ≡ v → ⊥)
      → 0 < i → i < length tree → Above (k / 2) i → get_or tree i 0 ≡ winner_at (set key v x) tree i
  right-over v x k i h l a d z g (t, e) =
      right i z g
      ∙ sym (nearer-key v x (won tree (2 * i)) (won tree (2 * i + 1))
      (λ w. d (wins-below t v k (2 * i) h l a (omega arith) (e ∙ omega arith) w))
      (λ w. d (wins-below t v k (2 * i + 1) h l a (omega arith) (e ∙ omega arith) w)))

  -- ---- the top is the least
  half_le : (k : ℕ) → 1 < k → k < 2 * length tree → get_or key (won tree (k / 2)) 0 ≤ get_or key (won tree k) 0
  half_le k z h =
      let s : won tree (k / 2) ≡ winner_at key tree (k / 2) = sym (won-node tree (k / 2) (omega arith))
      ∙ right (k / 2) (omega arith) (omega arith) in
      let w = nearer-is key (won tree (2 * (k / 2))) (won tree (2 * (k / 2) + 1)) in
      rw s
      (elim (ℕ_discrete k (2 * (k / 2))) as (λ _. get_or key (winner_at key tree (k / 2)) 0 ≤ get_or key (won tree k) 0) [
        | yes e ↦ let y : won tree k ≡ won tree (2 * (k / 2)) = ap (won tree) e in rw y w.first
        | no e ↦ let y : won tree k ≡ won tree (2 * (k / 2) + 1) = ap (won tree) (let q : k ≡ 2 * (k / 2) + 1 = omega arith in q) in rw y
            w.second
      ])

  least : (f k : ℕ) → k ≤ f → 0 < k → k < 2 * length tree → get_or key (won tree 1) 0 ≤ get_or key (won tree k) 0
  least zero k b z h = absurd (omega arith)
  least (suc f) k b z h =
      elim (ℕ_discrete k 1) as (λ _. get_or key (won tree 1) 0 ≤ get_or key (won tree k) 0) [
        | yes e ↦ rw e (omega arith)
        | no d ↦ let a = least f (k / 2) (omega arith) (omega arith) (omega arith) in let b = half_le k (omega arith) h in omega arith
      ]

  pub top_least : (v : ℕ) → v < length key → get_or key (won tree 1) 0 ≤ get_or key v 0
  top_least v h =
      let l : v < length tree = omega (arith, p.ready.long) in
      let q : won tree (length tree + v) ≡ v = sym (won-leaf tree (length tree + v) (omega arith)) ∙ omega arith in
      rw q at (least (length tree + v) (length tree + v) (omega arith) (omega arith) (omega arith))

  pub top-low : 0 < length key → won tree 1 < length key
  top-low z = let g = p.ready.long in let a = won-low key tree p.ready 1 (omega arith) in omega arith

-- ---- the nodes over v, whose key changed, are played again: those below k are done, those before 2 k are as they were
pub record Playing (v : ℕ) (key tree₀ tree : List ℕ) (k : ℕ) : Type 0 where
  pub from : Spoiled v key tree₀
  pub long : length tree ≡ length tree₀
  pub way : Above (length tree₀ + v) k
  pub low : k < length tree
  pub played : Played (Above k) key tree
  pub kept : (j : ℕ) → j < 2 * k → get_or tree j 0 ≡ get_or tree₀ j 0

pub playing-first : (v : ℕ) (key tree : List ℕ) → Spoiled v key tree → Playing v key tree tree ((length tree + v) / 2)
playing-first v key tree s =
    record {
      from = s;
      long = refl;
      way = above-next (length tree + v) (length tree + v) (above-here (length tree + v));
      low = omega (arith, s.low, s.played.ready.long);
      played = rw s.same (rekey-first s.old tree s.played v s.given s.low);
      kept = λ j h. refl;
    }

module _ (v : ℕ) (key tree₀ tree tree' : List ℕ) (k : ℕ) (p : Playing v key tree₀ tree k)
    (e : tree' ≡ set tree k (winner_at key tree k)) where
  long-more : length tree' ≡ length tree₀
  long-more = ap length e ∙ length-set tree k (winner_at key tree k) ∙ p.long

  kept-other : (j : ℕ) → j < 2 * k → (j ≡ k → ⊥) → get_or tree' j 0 ≡ get_or tree₀ j 0
  kept-other j h d = ap (λ l. get_or l j 0) e ∙ get_or-set_other tree k j (winner_at key tree k) 0 d ∙ p.kept j h

  pub playing-more : Playing v key tree₀ tree' (k / 2)
  playing-more =
      record {
        from = p.from;
        long = long-more;
        way = above-next (length tree₀ + v) k p.way;
        low = omega (arith, long-more, p.long, p.low);
        played = replay-more key tree tree' k p.played p.low e;
        kept = λ j h. kept-other j (omega arith) (λ q. omega arith);
      }

  -- node k came out as it was, and v does not win there
  module _ (z : 0 < k) (same : get_or tree' k 0 ≡ get_or tree k 0) (d : get_or tree' k 0 ≡ v → ⊥) where
    kept-all : (j : ℕ) → j < 2 * k → get_or tree' j 0 ≡ get_or tree₀ j 0
    kept-all j h =
        elim (ℕ_discrete j k) as (λ _. get_or tree' j 0 ≡ get_or tree₀ j 0) [
          | yes q ↦ rw q (same ∙ p.kept k (omega arith))
          | no q ↦ kept-other j h q
        ]

    won-kept : (j : ℕ) → j < 2 * k → won tree₀ j ≡ won tree' j
    unfolding won
    won-kept j h = rw (long-more, kept-all j h)

    stop-right : (i : ℕ) → 0 < i → i < length tree' → Above (k / 2) i → get_or tree' i 0 ≡ winner_at key tree' i
    stop-right i y g a =
        let s = p.from in
        let b : up a.0 (k / 2) ≤ k / 2 = up_le a.0 (k / 2) in
        let q : i ≤ k / 2 = omega (arith, a.1) in
        let l : k < length tree₀ = omega (arith, p.long, p.low) in
        let r = right-over s.old tree₀ s.played v s.given k i (omega (arith, s.low, s.played.ready.long)) l p.way
        (λ w. d (kept-all k (omega arith) ∙ won-node tree₀ k l ∙ w)) y (omega (arith, long-more)) a in
        kept-all i (omega arith) ∙ r ∙ ap (λ l. winner_at l tree₀ i) (sym s.same)
        ∙ ap₂ (nearer key) (won-kept (2 * i) (omega arith)) (won-kept (2 * i + 1) (omega arith))

    pub playing-stop : Played None key tree'
    playing-stop =
        let m = playing-more.played in
        record { ready = m.ready; right = λ i y g. ⊎_elim (λ a. inr (stop-right i y g a)) (λ r. inr r) (m.right i y g) }

pub playing-end : (v : ℕ) (key tree₀ tree : List ℕ) (k : ℕ) → Playing v key tree₀ tree k → k ≤ 0 → Played None key tree
playing-end v key tree₀ tree k p h = replay-end key tree k h p.played
