-- A graph is sound, as the test `sound_graph` says it, exactly where it has the parts of `Sound`; and what they say of its vertices.
-- Assumes nothing.
use Prim.Native.Nat.{ℕ, zero, suc, ◌+◌, ◌-◌, ◌≤◌, ◌<◌}
use mathlib.Core.Path.{◌≡◌, refl, sym, ◌∙◌}
use mathlib.Core.Logic.{◌↔◌}
use mathlib.Core.Bool.{true, not, ◌&&◌}
use mathlib.Core.List.{List, [], ◌∷◌}
use native.Mathlib.Omega.{arith}
use native.Mathlib.Numerals.{add-one}
use native.Mathlib.Decide.{ℕ_discrete, dec_lt}
use lib.IntN.{ℤ}
use lib.ListN.{length, get_or, take, drop, length-take}
use lib.Dec.{eqb, leb, ltb}
use borrow.Author.Tests.{ltb-true, leb-true, eqb-true, eqb-false, not-true, lt-ltb, le-leb, eq-eqb}
use Rattle.basis.specs.Limits.{most_vertices, most_arcs}
use Rattle.basis.specs.Order.{rising, rising_z}
use Rattle.basis.specs.Scan.{every, each, all_below, mem}
use Rattle.basis.proofs.Tests.{and_first, and_second, and_both, same_test}
use Rattle.basis.proofs.Scans.{every-at, every_of, each_at, each_of, mem_index, each-mem, below_of, below-mem}
use Rattle.basis.proofs.Sets.{rising-starts, starts-same}
use Rattle.basis.proofs.Orders.{rising-lt}
use Rattle.graph.specs.Part.{part_of}
use Rattle.graph.specs.Sound.{Graph, outward, inward, names, sound_ids, sound_offsets, other}
use Rattle.graph.specs.Sound.{sound_part, sound_side, mirrored, sound_sides, sound_graph, Side, Sound, Undirected}
use Rattle.graph.specs.Find.{place_in, bisected}
use Rattle.graph.proofs.Parts.{part-whole}
use Rattle.graph.proofs.Finds.{find-rising}

-- ---- one way of a sound graph
pub side-of : (n m : ℕ) (off tgt : List ℕ) → sound_side n m off tgt ≡ true → Side n m off tgt
unfolding sound_side sound_offsets
side-of n m off tgt h =
    let a = ltb n (length off) in let b = leb m (length tgt) in let c = eqb (get_or off 0 0) 0 in let d = eqb (get_or off n 0) m in
    let e = every n (λ v. leb (get_or off v 0) (get_or off (v + 1) 0)) in let f = every n (λ v. sound_part n v (part_of n off tgt v)) in
    let p = and_first ((a && b) && ((c && d) && e)) f h in
    let r = and_first (a && b) ((c && d) && e) p in
    let s = and_second (a && b) ((c && d) && e) p in
    let t = and_first (c && d) e s in
    record {
      offsets_room = ltb-true n (length off) (and_first a b r);
      targets_room = leb-true m (length tgt) (and_second a b r);
      begins = eqb-true (get_or off 0 0) 0 (and_first c d t);
      ends = eqb-true (get_or off n 0) m (and_second c d t);
      grows = λ v l. leb-true (get_or off v 0) (get_or off (v + 1) 0)
          (every-at (λ v. leb (get_or off v 0) (get_or off (v + 1) 0)) n v l (and_second (c && d) e s));
      good = λ v l. every-at (λ v. sound_part n v (part_of n off tgt v)) n v l (and_second ((a && b) && ((c && d) && e)) f h);
    }

pub part-rises : (n v : ℕ) (l : List ℕ) → sound_part n v l ≡ true → rising l ≡ true
part-rises n v l h = and_first (rising l) (each (other n v) l) h

pub part-others : (n v : ℕ) (l : List ℕ) → sound_part n v l ≡ true → each (other n v) l ≡ true
part-others n v l h = and_second (rising l) (each (other n v) l) h

pub other-below : (n v w : ℕ) → other n v w ≡ true → w < n
other-below n v w h = ltb-true w n (and_first (ltb w n) (not (eqb w v)) h)

pub other_differs : (n v w : ℕ) → other n v w ≡ true → w ≡ v → ⊥
other_differs n v w h = eqb-false w v (not-true (eqb w v) (and_second (ltb w n) (not (eqb w v)) h))

others_below : (n v : ℕ) (l : List ℕ) → each (other n v) l ≡ true → all_below n l ≡ true
others_below n v l h = below_of n l (λ i g. other-below n v (get_or l i 0) (each_at (other n v) 0 l h i g))

-- ---- the whole graph
pub sound-of : (g : Graph) → sound_graph g ≡ true → Sound g
unfolding sound_sides sound_graph sound_ids
sound-of g h =
    let a = leb g.vertices most_vertices in let b = leb g.arcs most_arcs in
    let i = leb g.vertices (length g.ids) in let j = rising_z (names g) in
    let c = sound_side g.vertices g.arcs g.out_offsets g.out_targets in
    let d = sound_side g.vertices g.arcs g.in_offsets g.in_sources in
    let e = mirrored g.vertices (outward g) (inward g) in let f = mirrored g.vertices (inward g) (outward g) in
    let p = and_first (((a && b) && (i && j)) && (c && d)) (e && f) h in
    let q = and_second (((a && b) && (i && j)) && (c && d)) (e && f) h in
    let r = and_first ((a && b) && (i && j)) (c && d) p in
    let s = and_second ((a && b) && (i && j)) (c && d) p in
    let t = and_first (a && b) (i && j) r in
    let u = and_second (a && b) (i && j) r in
    record {
      few_vertices = leb-true g.vertices most_vertices (and_first a b t);
      few_arcs = leb-true g.arcs most_arcs (and_second a b t);
      ids_room = leb-true g.vertices (length g.ids) (and_first i j u);
      ids_rise = and_second i j u;
      outward_side = side-of g.vertices g.arcs g.out_offsets g.out_targets (and_first c d s);
      inward_side = side-of g.vertices g.arcs g.in_offsets g.in_sources (and_second c d s);
      back = and_first e f q;
      forth = and_second e f q;
    }

-- ---- each arc stands at its other end
pub mirrored-at : (n : ℕ) (from back : ℕ → List ℕ) → mirrored n from back ≡ true → (u w : ℕ) → u < n → mem w (from u) ≡ true
    → mem u (back w) ≡ true
unfolding mirrored
mirrored-at n from back h u w l m =
    each-mem (λ w. mem u (back w)) (from u) (every-at (λ u. each (λ w. mem u (back w)) (from u)) n u l h) w m

pub mirrored-of : (n : ℕ) (from back : ℕ → List ℕ) → ((u w : ℕ) → u < n → mem w (from u) ≡ true → mem u (back w) ≡ true)
    → mirrored n from back ≡ true
unfolding mirrored
mirrored-of n from back h =
    every_of (λ u. each (λ w. mem u (back w)) (from u)) n
    (λ u l. each_of (λ w. mem u (back w)) 0 (from u)
    (λ i k. h u (get_or (from u) i 0) l (mem_index (get_or (from u) i 0) (from u) i k refl)))

-- ---- what the parts of a sound graph are
module _ (g : Graph) (s : Sound g) where
  pub names-length : length (names g) ≡ g.vertices
  names-length = let e = length-take g.vertices g.ids in let h = s.ids_room in omega arith

  module _ (v : ℕ) (l : v < g.vertices) where
    pub outward-rises : rising (outward g v) ≡ true
    outward-rises = part-rises g.vertices v (outward g v) (s.outward_side.good v l)

    pub outward-others : each (other g.vertices v) (outward g v) ≡ true
    outward-others = part-others g.vertices v (outward g v) (s.outward_side.good v l)

    pub outward-below : all_below g.vertices (outward g v) ≡ true
    outward-below = others_below g.vertices v (outward g v) outward-others

    pub inward-rises : rising (inward g v) ≡ true
    inward-rises = part-rises g.vertices v (inward g v) (s.inward_side.good v l)

    pub inward-others : each (other g.vertices v) (inward g v) ≡ true
    inward-others = part-others g.vertices v (inward g v) (s.inward_side.good v l)

    pub inward-below : all_below g.vertices (inward g v) ≡ true
    inward-below = others_below g.vertices v (inward g v) inward-others

  -- an arc stands outward exactly where it stands inward
  pub arcs-agree : (u w : ℕ) → u < g.vertices → w < g.vertices → (mem w (outward g u) ≡ true) ↔ (mem u (inward g w) ≡ true)
  arcs-agree u w lu lw = (
    mirrored-at g.vertices (outward g) (inward g) s.back u w lu,
    mirrored-at g.vertices (inward g) (outward g) s.forth w u lw,
  )

  -- of an undirected graph, where "each edge is bidirectional", the incoming neighbours are the outgoing ones
  pub same-neighbours : Undirected g → (v : ℕ) → v < g.vertices → inward g v ≡ outward g v
  same-neighbours both v l =
      let i = inward g v in let o = outward g v in
      starts-same (λ j. true) (λ j. true) i o (sym (rising-starts i) ∙ inward-rises v l) (sym (rising-starts o) ∙ outward-rises v l)
      (λ w.
      same_test (mem w i) (mem w o)
      (λ m. let h = below-mem g.vertices i (inward-below v l) w m in both w v h l ((arcs-agree w v h l).1 m))
      (λ m. let h = below-mem g.vertices o (outward-below v l) w m in (arcs-agree w v h l).0 (both v w l h m)))

-- ---- the reverse: a graph with these properties is sound
pub side-from : {n m : ℕ} {off tgt : List ℕ} → Side n m off tgt → sound_side n m off tgt ≡ true
unfolding sound_side sound_offsets
side-from {n} {m} {off} {tgt} s =
    and_both
    (and_both (and_both (lt-ltb n (length off) s.offsets_room) (le-leb m (length tgt) s.targets_room))
    (and_both (and_both (eq-eqb (get_or off 0 0) 0 s.begins) (eq-eqb (get_or off n 0) m s.ends))
    (every_of (λ v. leb (get_or off v 0) (get_or off (v + 1) 0)) n (λ v l. le-leb (get_or off v 0) (get_or off (v + 1) 0) (s.grows v l)))))
    (every_of (λ v. sound_part n v (part_of n off tgt v)) n s.good)

pub sound-from : {g : Graph} → Sound g → sound_graph g ≡ true
unfolding sound_sides sound_graph sound_ids
sound-from {g} s =
    and_both
    (and_both
    (and_both (and_both (le-leb g.vertices most_vertices s.few_vertices) (le-leb g.arcs most_arcs s.few_arcs))
    (and_both (le-leb g.vertices (length g.ids) s.ids_room) s.ids_rise))
    (and_both (side-from s.outward_side) (side-from s.inward_side)))
    (and_both s.back s.forth)

-- ---- the parts of one way
module _ {n m : ℕ} {off tgt : List ℕ} (s : Side n m off tgt) where
  pub offset-le : (i j : ℕ) → i ≤ j → j ≤ n → get_or off i 0 ≤ get_or off j 0
  offset-le i zero a b = let e : i ≡ 0 = omega arith in rw e (omega arith)
  offset-le i (suc j) a b =
      elim (ℕ_discrete i (suc j)) as (λ _. get_or off i 0 ≤ get_or off (suc j) 0) [
        | yes q ↦ rw q (omega arith)
        | no d ↦ let x = offset-le i j (omega arith) (omega arith) in let y = rw add-one at (s.grows j (omega arith)) in omega arith
      ]

  pub offset-most : (i : ℕ) → i ≤ n → get_or off i 0 ≤ m
  offset-most i h = let x = offset-le i n h (omega arith) in let e = s.ends in omega arith

  -- v's part is the targets from its offset to the next
  pub part_slice : (v : ℕ) → v < n → part_of n off tgt v ≡ take (get_or off (v + 1) 0 - get_or off v 0) (drop (get_or off v 0) tgt)
  part_slice v h =
      let x = offset-most (v + 1) (omega arith) in
      let y = s.targets_room in
      let z = s.offsets_room in
      sym (part-whole n off tgt v h (omega arith) (s.grows v h) (omega arith))

-- a search of the vertices' identifiers answers the vertex's number
pub vertex-found : (g : Graph) → Sound g → (id : ℤ) → bisected (names g) id ≡ place_in (names g) id
vertex-found g s id = find-rising (names g) id s.ids_rise

-- ---- how many members a part has
-- a rising list that leaves v out runs ahead of its places by one behind v
ahead : (n v : ℕ) (l : List ℕ) → rising l ≡ true → each (other n v) l ≡ true → (i : ℕ) → i < length l
    → (i ≤ get_or l i 0) × (v < get_or l i 0 → i < get_or l i 0)
ahead n v l r o zero h = (omega arith, λ a. omega arith)
ahead n v l r o (suc i) h =
    let b = ahead n v l r o i (omega arith) in
    let s = rising-lt l r i (suc i) (omega arith) h in (
      let c = b.0 in omega arith,
      λ a.
          elim (dec_lt v (get_or l i 0)) as (λ _. suc i < get_or l (suc i) 0) [
            | yes k ↦ let c = b.1 k in omega arith
            | no k ↦ let c = b.0 in let d = other_differs n v (get_or l i 0) (each_at (other n v) 0 l o i (omega arith)) in omega arith
          ],
    )

-- "names only other vertices below n": at most n - 1 of them
others-few : (n v : ℕ) (l : List ℕ) → v < n → sound_part n v l ≡ true → length l < n
others-few n v [] h s = omega arith
others-few n v (x ∷ l) h s =
    let o = part-others n v (x ∷ l) s in
    let a = ahead n v (x ∷ l) (part-rises n v (x ∷ l) s) o (length l) (omega arith) in
    let t = each_at (other n v) 0 (x ∷ l) o (length l) (omega arith) in
    let b = other-below n v (get_or (x ∷ l) (length l) 0) t in
    elim (dec_lt v (get_or (x ∷ l) (length l) 0)) as (λ _. length (x ∷ l) < n) [
      | yes k ↦ let c = a.1 k in omega arith
      | no k ↦ let c = a.0 in let d = other_differs n v (get_or (x ∷ l) (length l) 0) t in omega arith
    ]

module _ (g : Graph) (s : Sound g) (v : ℕ) (l : v < g.vertices) where
  pub outward-few : length (outward g v) < g.vertices
  outward-few = others-few g.vertices v (outward g v) l (s.outward_side.good v l)

  pub inward-few : length (inward g v) < g.vertices
  inward-few = others-few g.vertices v (inward g v) l (s.inward_side.good v l)
