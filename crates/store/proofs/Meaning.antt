-- The graph that is stored from a valid edge list is sound, and its parts are the list's arcs. Assumes nothing.
use mathlib.Core.Path.{◌≡◌, refl, sym, ap, ◌∙◌, subst}
use mathlib.Core.Bool.{Bool, true, false, cond, ◌&&◌, ◌||◌}
use mathlib.Core.List.{List, [], ◌∷◌}
use Prim.Native.Nat.{ℕ, ◌+◌, ◌≤◌, ◌<◌}
use native.Mathlib.Omega.{arith}
use native.Mathlib.Decide.{ℕ_discrete}
use native.Mathlib.Numerals.{add-one}
use lib.ListN.{length, get_or}
use lib.Dec.{eqb, leb}
use lib.IntN.{ℤ}
use borrow.Author.Tests.{eq-eqb, ne_eqb, lt-ltb, le-leb}
use Rattle.basis.specs.Area.{pad}
use Rattle.basis.specs.Limits.{most_vertices, most_arcs}
use Rattle.basis.specs.Scan.{each, mem}
use Rattle.basis.proofs.Tests.{clash, and_both, and-swap, eqb_swap}
use Rattle.basis.proofs.Scans.{every_of, each_of, mem_index}
use Rattle.basis.proofs.Areas.{pad-length}
use Rattle.basis.proofs.Alls.{All}
use Rattle.graph.specs.Arcs.{Arc, arcs, targets_of, parts, start, offsets, backward}
use Rattle.graph.specs.Part.{part_of}
use Rattle.graph.specs.Sound.{
  Graph,
  outward,
  inward,
  sound_ids,
  sound_offsets,
  other,
  sound_part,
  sound_side,
  mirrored,
  sound_sides,
  sound_graph,
}
use Rattle.store.specs.Steps.{Below}
use Rattle.store.proofs.Arcs.{start-suc, start-length}
use Rattle.store.proofs.Passes.{length-backward}
use Rattle.store.proofs.Order.{Fine, Valid, Ordered, rising_part, ordered-out, ordered-in, arcs-join, join-backward}
use Rattle.store.proofs.Built.{offset_at, offsets-length, part-built}

each_member : (p : ℕ → Bool) (l : List ℕ) → ((x : ℕ) → mem x l ≡ true → p x ≡ true) → each p l ≡ true
each_member p l h = each_of p 0 l (λ i g. h (get_or l i 0) (mem_index (get_or l i 0) l i g refl))

-- ---- who stands in a vertex's targets
-- an arc of the list, as a test
unfoldable pub has_arc : List Arc → ℕ → ℕ → Bool
has_arc [] u w = false
has_arc (a ∷ l) u w = (eqb a.0 u && eqb w a.1) || has_arc l u w

pub mem-targets : (l : List Arc) (u w : ℕ) → mem w (targets_of l u) ≡ has_arc l u w
unfolding mem has_arc
mem-targets [] u w = refl
mem-targets (a ∷ l) u w = cases (eqb a.0 u) (mem-targets l u w)
  where
    cases : (p : Bool) → mem w (targets_of l u) ≡ has_arc l u w
        → mem w (cond p (a.1 ∷ targets_of l u) (targets_of l u)) ≡ ((p && eqb w a.1) || has_arc l u w)
    cases true e = ap (λ (t : Bool). eqb w a.1 || t) e
    cases false e = e

has-backward : (l : List Arc) (u w : ℕ) → has_arc l u w ≡ has_arc (backward l) w u
unfolding has_arc
has-backward [] u w = refl
has-backward (a ∷ l) u w = rw (has-backward l u w, eqb_swap a.1 w, eqb_swap u a.0, and-swap (eqb w a.1) (eqb a.0 u))

pub mirror-targets : (l : List Arc) (u w : ℕ) → mem w (targets_of l u) ≡ mem u (targets_of (backward l) w)
mirror-targets l u w = mem-targets l u w ∙ has-backward l u w ∙ sym (mem-targets (backward l) w u)

fine_of : (n : ℕ) (l : List Arc) (u w : ℕ) → All (Fine n) l → has_arc l u w ≡ true → Fine n (u, w)
unfolding has_arc
fine_of n [] u w h m = clash m refl
fine_of n (a ∷ l) u w h m =
    elim (ℕ_discrete a.0 u) as (λ _. Fine n (u, w)) [
      | yes q ↦
          elim (ℕ_discrete w a.1) as (λ _. Fine n (u, w)) [
            | yes r ↦ subst (λ (k : ℕ). Fine n (k, w)) q (subst (λ (k : ℕ). Fine n (a.0, k)) (sym r) h.0)
            | no d ↦ fine_of n l u w h.1 (rw (eq-eqb a.0 u q, ne_eqb w a.1 d) at m)
          ]
      | no d ↦ fine_of n l u w h.1 (rw (ne_eqb a.0 u d) at m)
    ]

below_of : (n : ℕ) (l : List Arc) → All (Fine n) l → Below n l
below_of n [] h = tt
below_of n (a ∷ l) h = (h.0.source, below_of n l h.1)

-- ---- one way
module _ (n s t : ℕ) (l : List Arc) (h : All (Fine n) l) (f : n < s) (g : length l ≤ t) where
  pub start-all : start l n ≡ length l
  start-all = start-length l n (below_of n l h)

  pub part-stored : (v : ℕ) → v < n → part_of n (pad s (offsets l n)) (pad t (parts l n)) v ≡ targets_of l v
  part-stored v k = part-built l n s t f (let e = start-all in omega arith) v k

  others : (v x : ℕ) → Fine n (v, x) → other n v x ≡ true
  others v x j = and_both (lt-ltb x n j.target) (rw (ne_eqb x v (λ q. j.apart (sym q))))

  good : Ordered l → (v : ℕ) → v < n → sound_part n v (part_of n (pad s (offsets l n)) (pad t (parts l n)) v) ≡ true
  good o v k =
      rw (part-stored v k)
      (and_both (rising_part l v o) (each_member (other n v) (targets_of l v)
      (λ x m. others v x (fine_of n l v x h (sym (mem-targets l v x) ∙ m)))))

  pub side-sound : Ordered l → sound_side n (length l) (pad s (offsets l n)) (pad t (parts l n)) ≡ true
  unfolding sound_side sound_offsets
  side-sound o =
      let off = pad s (offsets l n) in
      let lo : length off ≡ s = pad-length 0 s (offsets l n) (let k = offsets-length l n in omega arith) in
      let lt : length (pad t (parts l n)) ≡ t = pad-length 0 t (parts l n) (let e = start-all in omega arith) in
      and_both (and_both
      (and_both (lt-ltb n (length off) (rw lo f)) (le-leb (length l) (length (pad t (parts l n))) (rw lt g)))
      (and_both (and_both (eq-eqb (get_or off 0 0) 0 (offset_at l n s 0 (omega arith)))
      (eq-eqb (get_or off n 0) (length l) (offset_at l n s n (omega arith) ∙ start-all)))
      (every_of (λ v. leb (get_or off v 0) (get_or off (v + 1) 0)) n
      (λ v q. le-leb (get_or off v 0) (get_or off (v + 1) 0)
      (let a = offset_at l n s v (omega arith) in let b = offset_at l n s (v + 1) (omega arith) ∙ ap (start l) (add-one v) in
      let z = start-suc l v in omega arith)))))
      (every_of (λ v. sound_part n v (part_of n off (pad t (parts l n)) v)) n (good o))

-- ---- both ways
module _ (n s t s' t' : ℕ) (l : List Arc) (h : All (Fine n) l) (f : n < s) (g : length l ≤ t) (f' : n < s') (g' : length l ≤ t') where
  pub mirror-built : mirrored n (part_of n (pad s (offsets l n)) (pad t (parts l n)))
      (part_of n (pad s' (offsets (backward l) n)) (pad t' (parts (backward l) n))) ≡ true
  unfolding mirrored
  mirror-built =
      every_of
      (λ u. each (λ w. mem u (part_of n (pad s' (offsets (backward l) n)) (pad t' (parts (backward l) n)) w))
      (part_of n (pad s (offsets l n)) (pad t (parts l n)) u)) n
      (λ u k. rw (part-stored n s t l h f g u k)
      (each_member (λ w. mem u (part_of n (pad s' (offsets (backward l) n)) (pad t' (parts (backward l) n)) w)) (targets_of l u)
      (λ w m. let j = fine_of n l u w h (sym (mem-targets l u w) ∙ m) in
      rw (part-stored n s' t' (backward l) (join-backward n l h) f' (rw (length-backward l) g') w j.target, ← mirror-targets l u w) m)))

backward-twice : (l : List Arc) → backward (backward l) ≡ l
backward-twice [] = refl
backward-twice (a ∷ l) = ap (λ (x : List Arc). a ∷ x) (backward-twice l)

-- ---- the stored graph of a valid edge list, in areas of given sizes
abbrev pub stored_graph : ℕ → List Arc → List ℤ → ℕ → ℕ → ℕ → ℕ → Graph
stored_graph n l ids oo ot io is =
    record {
      vertices = n;
      arcs = length l;
      ids = ids;
      out_offsets = pad oo (offsets l n);
      out_targets = pad ot (parts l n);
      in_offsets = pad io (offsets (backward l) n);
      in_sources = pad is (parts (backward l) n);
    }

module _ (undirected : Bool) (n : ℕ) (es : List Arc) (valid : Valid undirected n es) (ids : List ℤ) (oo ot io is : ℕ)
    (a : n < oo) (b : length (arcs undirected es) ≤ ot) (c : n < io) (d : length (arcs undirected es) ≤ is) where
  joins : All (Fine n) (arcs undirected es)
  joins = arcs-join undirected n es valid.fine

  -- it is sound, where its identifiers are and the limits are kept
  pub stored-sound : sound_ids (stored_graph n (arcs undirected es) ids oo ot io is) ≡ true → n ≤ most_vertices
      → length (arcs undirected es) ≤ most_arcs
      → sound_graph (stored_graph n (arcs undirected es) ids oo ot io is) ≡ true
  unfolding sound_sides sound_graph
  stored-sound i ln lm =
      let l = arcs undirected es in
      let k = length-backward l in
      and_both (and_both (and_both (and_both (le-leb n most_vertices ln) (le-leb (length l) most_arcs lm)) i)
      (and_both (side-sound n oo ot l joins a b (ordered-out undirected n es valid))
      (rw k at (side-sound n io is (backward l) (join-backward n l joins) c (rw k d) (ordered-in undirected n es valid)))))
      (and_both (mirror-built n oo ot io is l joins a b c d)
      (rw (backward-twice l) at (mirror-built n io is oo ot (backward l) (join-backward n l joins) c (rw k d) a (rw k b))))

  -- w is in u's outward part exactly where the edge file has that arc
  pub stored-outward : (u w : ℕ) → u < n → mem w (outward (stored_graph n (arcs undirected es) ids oo ot io is) u)
      ≡ has_arc (arcs undirected es) u w
  stored-outward u w h = ap (mem w) (part-stored n oo ot (arcs undirected es) joins a b u h) ∙ mem-targets (arcs undirected es) u w

  pub stored-inward : (u w : ℕ) → w < n → mem u (inward (stored_graph n (arcs undirected es) ids oo ot io is) w)
      ≡ has_arc (arcs undirected es) u w
  stored-inward u w h =
      let k = length-backward (arcs undirected es) in
      ap (mem u) (part-stored n io is (backward (arcs undirected es)) (join-backward n (arcs undirected es) joins) c (rw k d) w h)
      ∙ sym (mirror-targets (arcs undirected es) u w) ∙ mem-targets (arcs undirected es) u w
