-- The distances of a sound weighted graph are the weights of lightest routes along outgoing arcs, unreachable stands exactly where there is
-- no route, and both stand in the result area of a call with the root's identifier. Assumes nothing.
use Prim.Native.Nat.{ℕ, zero, suc, ◌+◌, ◌-◌, ◌*◌, ◌≤◌, ◌<◌}
use mathlib.Core.Path.{◌≡◌, refl, sym, ap, ap₂, ◌∙◌, subst}
use mathlib.Core.Logic.{inl, inr, ⊎_elim}
use mathlib.Core.Bool.{Bool, true, false, ◌&&◌, ◌||◌}
use mathlib.Core.List.{List, [], ◌∷◌}
use native.Mathlib.Decide.{ℕ_discrete, dec_lt}
use native.Mathlib.Nat.{eq-or-lt_of_le}
use native.Mathlib.Omega.{arith}
use lib.IntN.{ℤ, pos}
use lib.ListN.{length, get_or}
use lib.Dec.{eqb}
use borrow.Author.Tests.{eq-eqb, eqb-true}
use Rattle.basis.specs.Area.{infinity, unreachable}
use Rattle.basis.specs.Limits.{most_weight}
use Rattle.basis.specs.Scan.{mem}
use Rattle.basis.proofs.Alls.{All}
use Rattle.basis.proofs.Areas.{column-length, column-at}
use Rattle.basis.proofs.Tests.{and_first, and_second, and_both, and-off, or-first, or-second, or_cases, clash, eqb_swap}
use Rattle.std.specs.Prelude.{Option, Some, None}
use Rattle.graph.specs.Find.{place_in}
use Rattle.graph.specs.Part.{part_of}
use Rattle.graph.specs.Sound.{outward, names, Sound}
use Rattle.graph.specs.Weights.{Weighted, Leg, is_weighted, legs, out_legs, has_leg, sound_weighted}
use Rattle.graph.proofs.Finds.{place_at}
use Rattle.graph.proofs.Parts.{part-far}
use Rattle.graph.proofs.Sounds.{sound-from, names-length}
use Rattle.graph.proofs.Weighings.{area-each, weights-long, weighted-of}
use Rattle.kernels.proofs.Results.{pad-value, pad-behind}
use Rattle.bfs.specs.Call.{bfs_call}
use Rattle.bfs.specs.Meaning.{Walk, stay, go, IsDepth, HasName}
use Rattle.bfs.proofs.Meaning.{bfs-call}
use Rattle.sssp.specs.Distance.{distances, distance_to, as_signed}
use Rattle.sssp.specs.Call.{room_for, left_by, sssp_says, sssp_call}
use Rattle.sssp.specs.Meaning.{Route, home, onto, Lightest, IsDistance, Done, Called, unit_weight, AllOne, Hops}
use Rattle.sssp.proofs.Rounds.{get_d_any, within-length, Has, near, near-root, near-other, near-most, near-arc, near-from}
use Rattle.sssp.proofs.Calls.{sound-inside, room-distance}
use Rattle.sssp.proofs.Serving.{seen, Base, Serving, weighed-good, all_two, serving-begin, serving-more, serving-less}
use Rattle.sssp.proofs.Serving.{serving-most, serving-no-less, serving-no-more, serving-reach}

-- ---- an arc of a list
leg-has : (x c : ℕ) (l : List Leg) → has_leg x c l ≡ true → Has (x, c) l
unfolding has_leg
leg-has x c [] h = clash h refl
leg-has x c (a ∷ l) h =
    ⊎_elim
    (λ e. inl (ap₂ (λ (y z : ℕ). (y, z)) (eqb-true a.0 x (and_first (eqb a.0 x) (eqb a.1 c) e))
    (eqb-true a.1 c (and_second (eqb a.0 x) (eqb a.1 c) e))))
    (λ t. inr (leg-has x c l t)) (or_cases (eqb a.0 x && eqb a.1 c) (has_leg x c l) h)

has-leg : (x c : ℕ) (l : List Leg) → Has (x, c) l → has_leg x c l ≡ true
unfolding has_leg
has-leg x c [] h = absurd h
has-leg x c (a ∷ l) h =
    ⊎_elim
    (λ e. or-first (eqb a.0 x && eqb a.1 c) (has_leg x c l)
    (and_both (eq-eqb a.0 x (ap (λ (b : Leg). b.0) e)) (eq-eqb a.1 c (ap (λ (b : Leg). b.1) e))))
    (λ t. or-second (eqb a.0 x && eqb a.1 c) (has_leg x c l) (has-leg x c l t)) h

all-has : (P : Leg → Type 0) (a : Leg) (l : List Leg) → All P l → Has a l → P a
all-has P a [] h g = absurd g
all-has P a (b ∷ l) h g = ⊎_elim (λ e. subst P e h.0) (λ t. all-has P a l h.1 t) g

-- the vertex with the least key, of the first m
Least : List ℕ → ℕ → ℕ → Type 0
Least key m u = (u < m) × ((v : ℕ) → v < m → get_or key u 0 ≤ get_or key v 0)

least-of : (key : List ℕ) (m : ℕ) → (u : ℕ) × Least key (suc m) u
unfolding Least
least-of key zero = (0, (omega arith, λ v g. let e : v ≡ 0 = omega arith in rw e (omega arith)))
least-of key (suc m) =
    let r = least-of key m in
    elim (dec_lt (get_or key (suc m) 0) (get_or key r.0 0)) as (λ _. (u : ℕ) × Least key (suc (suc m)) u) [
      | yes h ↦ (
        suc m,
        (
          omega arith,
          λ v g. ⊎_elim (λ e. rw e (omega arith)) (λ l. let a = r.1.1 v l in omega arith) (eq-or-lt_of_le
              (let y : v ≤ suc m = omega arith in y)),
        ),
      )
      | no h ↦ (
        r.0,
        (
          omega (arith, r.1.0),
          λ v g. ⊎_elim (λ e. rw e (omega arith)) (λ l. r.1.1 v l) (eq-or-lt_of_le
              (let y : v ≤ suc m = omega arith in y)),
        ),
      )
    ]

least-in : (key : List ℕ) (m : ℕ) → 0 < m → (u : ℕ) × Least key m u
least-in key zero h = absurd (omega arith)
least-in key (suc m) h = least-of key m

-- a sound weighted graph has such arcs
base-of : (g : Weighted) → sound_weighted g ≡ true → is_weighted g ≡ true → (root : ℕ) → root < g.graph.vertices
    → Base g.graph.vertices (out_legs g) root
base-of g h t root low =
    record {
      inside = λ u l.
          weighed-good g.graph.vertices (outward g.graph u)
          (part_of g.graph.vertices g.graph.out_offsets g.out_weights u) (sound-inside g h t u l);
      there = low;
      few = (weighted-of g h).graph.few_vertices;
    }

-- ---- arcs that stay among n vertices, and a root among them
module _ (n : ℕ) (out : ℕ → List Leg) (root : ℕ) (base : Base n out root) where
  -- n rounds are enough, n - 1 heaviest arcs bound what they give, and arcs lead from what is reached to what is reached
  record Final : Type 0 where
    enough : (j v : ℕ) → v < n → near n out root n v ≤ near n out root j v
    most : (v : ℕ) → v < n → near n out root n v < infinity → near n out root n v ≤ (n - 1) * most_weight
    reach : (u : ℕ) → u < n → near n out root n u < infinity → All (λ a. near n out root n a.0 < infinity) (out u)

  at-end : {dist key : List ℕ} → Serving n out root dist key → ((v : ℕ) → v < n → infinity ≤ get_or key v 0) → Final
  at-end k over =
      record {
        enough = λ j v h. let a = serving-no-less n out root k over j v h in let b = serving-no-more n out root k over v h in omega arith;
        most = λ v h g.
            let a = serving-no-less n out root k over n v h in let b = serving-no-more n out root k over v h in
            let c = serving-most n out root k over v h (omega arith) in omega arith;
        reach = λ u l h.
            all_two (λ a g f. let b = serving-no-more n out root k over a.0 g.0 in omega arith) (out u) (base.inside u l)
            (serving-reach n out root k over u l (let a = serving-no-less n out root k over n u l in omega arith));
      }

  -- the search ends, after at most n turns
  settle : (f : ℕ) {dist key : List ℕ} → Serving n out root dist key → n - seen dist ≤ f → Final
  unfolding Least
  settle zero {dist} {key} k b =
      let r = least-in key n (omega (arith, base.there)) in
      at-end k
      (λ v h.
      let a = r.1.1 v h in
      elim (dec_lt (get_or key r.0 0) infinity) as (λ _. infinity ≤ get_or key v 0) [
        | yes g ↦ absurd (let c = serving-less n out root k r.0 r.1.0 r.1.1 g in omega arith)
        | no g ↦ omega arith
      ])
  settle (suc f) {dist} {key} k b =
      let r = least-in key n (omega (arith, base.there)) in
      elim (dec_lt (get_or key r.0 0) infinity) as (λ _. Final) [
        | yes g ↦ settle f (serving-more n out root k r.0 r.1.0 r.1.1 g) (omega (
          arith,
          serving-less n out root k r.0
              r.1.0 r.1.1 g,
        ))
        | no g ↦ at-end k (λ v h. let a = r.1.1 v h in omega arith)
      ]

  final : Final
  final = settle n (serving-begin n out root base) (omega arith)

  -- walks of n arcs are enough
  pub rounds-enough : (j v : ℕ) → v < n → distance_to n out root v ≤ near n out root j v
  rounds-enough j v h = final.enough j v h

  -- ---- a route of k arcs weighs at least what k rounds give, and what a round gives is the weight of a route
  route-near : {k v x : ℕ} → Route out root k v x → (v < n) × (near n out root k v ≤ x)
  route-near home = (base.there, let a = near-root n out root base.there in omega arith)
  route-near (onto {k = k} {u = u} {x = x} {w = w} c p a) =
      let i = route-near p in
      let m = leg-has w c (out u) a in
      let g = all-has (λ a. (a.0 < n) × (a.1 ≤ most_weight)) (w, c) (out u) (base.inside u i.0) m in
      let h : near n out root (suc k) w ≤ near n out root k u + c =
      all-has (λ a. a.0 < n → near n out root (suc k) a.0 ≤ near n out root k u + a.1) (w, c) (out u) (near-arc n out root k u
      i.0) m
      g.0 in
      (g.0, omega (arith, i.1))

  route-reach : {k v x : ℕ} → Route out root k v x → distance_to n out root v < infinity
  route-reach home = let a = near-root n out root base.there in let b = final.enough 0 root base.there in omega arith
  route-reach (onto {u = u} {w = w} c p a) =
      all-has (λ a. near n out root n a.0 < infinity) (w, c) (out u) (final.reach u (route-near p).0 (route-reach p))
      (leg-has w c (out u) a)

  near-route : (k v : ℕ) → v < n → near n out root k v < infinity → (j : ℕ) × Route out root j v (near n out root k v)
  near-route zero v l h =
      elim (ℕ_discrete v root) as (λ _. (j : ℕ) × Route out root j v (near n out root 0 v)) [
        | yes e ↦ (0, rw (e, near-root n out root base.there) home)
        | no q ↦ absurd (let a = near-other n out root v l q in omega arith)
      ]
  near-route (suc k) v l h =
      ⊎_elim
      (λ e. let r = near-route k v l (omega arith) in (r.0, subst (Route out root r.0 v) (sym e) r.1))
      (λ q.
      let r = near-route k q.0 q.1 (omega (arith, q.2.2)) in (
        suc r.0,
        subst (Route out root (suc r.0) v) (sym q.2.2) (onto q.2.0 r.1 (has-leg v q.2.0 (out q.0)
            q.2.1)),
      ))
      (near-from n out root k v l h)

  route-least : (v k y : ℕ) → Route out root k v y → distance_to n out root v ≤ y
  route-least v k y p = let a = route-near p in let b = final.enough k v a.0 in omega (arith, a.1)

  lightest : (v : ℕ) → v < n → distance_to n out root v < infinity → Lightest out root v (distance_to n out root v)
  lightest v l h = let r = near-route n v l h in record { arcs = r.0; route = r.1; least = route-least v }

  -- ---- the distance is what it should be
  pub is-distance : (v : ℕ) → v < n → IsDistance out root v (pos (distance_to n out root v))
  is-distance v l =
      record {
        weight = λ x. (
          (λ e. let z : distance_to n out root v ≡ x = cc e.0 in subst (Lightest out root v) z (lightest v l (omega (arith, e.1)))),
          λ s.
              let b = route-reach s.route in
              let z : distance_to n out root v ≡ x =
              omega (arith, route-least v s.arcs x s.route, s.least (lightest v l b).arcs _ (lightest v l b).route) in
              (ap pos z, omega arith),
        );
        none = (
          (λ e k x p. let z : distance_to n out root v ≡ infinity = cc e in let a = route-reach p in omega arith),
          λ none.
              elim (dec_lt (distance_to n out root v) infinity) as (λ _. pos (distance_to n out root v) ≡ unreachable) [
                | yes h ↦ absurd (let r = lightest v l h in none r.arcs _ r.route)
                | no h ↦ let a = near-most n out root n v l in ap pos (let z : distance_to n out root v ≡ infinity = omega arith in z)
              ],
        );
      }

  -- the root's is 0
  pub distance-root : distance_to n out root root ≡ 0
  distance-root = let a = route-least root 0 0 home in omega arith

  -- a finite distance is at most 65,535 times the largest weight, and so far below infinity
  pub distance_most : (v : ℕ) → v < n → distance_to n out root v < infinity → distance_to n out root v ≤ 65535 * most_weight
  distance_most v l h = omega (arith, final.most v l h, base.few)

-- the largest sum, of 65,535 arcs of the largest weight, fits a result area and is not infinity
pub sums-fit : 65535 * most_weight < infinity
sums-fit = omega arith

-- ---- of a sound weighted graph
module _ (g : Weighted) (sound : sound_weighted g ≡ true) (weighted : is_weighted g ≡ true) (root : ℕ) (low : root < g.graph.vertices)
    (v : ℕ) (l : v < g.graph.vertices) where
  pub sound-distance : IsDistance (out_legs g) root v (pos (distance_to g.graph.vertices (out_legs g) root v))
  sound-distance = is-distance g.graph.vertices (out_legs g) root (base-of g sound weighted root low) v l

  pub sound-most : distance_to g.graph.vertices (out_legs g) root v < infinity
      → distance_to g.graph.vertices (out_legs g) root v ≤ 65535 * most_weight
  sound-most = distance_most g.graph.vertices (out_legs g) root (base-of g sound weighted root low) v l

-- ---- the call
module _ (g : Weighted) (root : ℤ) (sound : sound_weighted g ≡ true) where
  s : Sound g.graph
  s = (weighted-of g sound).graph

  -- where the root stands
  place : (v : ℕ) → HasName g.graph v root → place_in (names g.graph) root ≡ Some v
  place v h =
      (place_at (names g.graph) root s.ids_rise v).1 (let e = names-length g.graph s in let l = h.0 in omega arith, h.1)

  nowhere : ((v : ℕ) → HasName g.graph v root → ⊥) → place_in (names g.graph) root ≡ None
  nowhere none = by (place_in (names g.graph) root) refl
    where
      by : (f : Option ℕ) → place_in (names g.graph) root ≡ f → f ≡ None
      by (Some v) e =
          let p = (place_at (names g.graph) root s.ids_rise v).0 e in
          absurd (none v (let q = names-length g.graph s in let l = p.0 in omega arith, p.1))
      by None e = refl

  module _ (weighted : is_weighted g ≡ true) (D : List ℤ) (S W T : List ℕ) (v : ℕ) (h : HasName g.graph v root) where
    call-done : room_for g.graph.vertices D S W T ≡ true → Done g v D S W T (sssp_call g root D S W T)
    unfolding sssp_call sssp_says left_by
    call-done r =
        let n = g.graph.vertices in
        let l = distances n (out_legs g) v in
        let f : ℕ → ℤ = λ w. pos (get_or l w 0) in
        let room = room-distance n D S W T r in
        rw (sound, weighted, place v h, r)
        (record {
          answer = refl;
          distances = λ w b.
              rw (
                pad-value (pos 0) n (length D) (as_signed n l) (column-length f 0 n) room w b ∙ column-at f n w (pos 0) b,
                get_d_any l w 0 infinity (let z = within-length n (out_legs g) v n in omega arith),
              )
              (sound-distance g sound weighted v h.0 w b);
          behind = pad-behind (pos 0) n (length D) (as_signed n l) (column-length f 0 n) room;
          zeros = (refl, refl, refl);
        })

-- what the public call answers and leaves, from the root's identifier on, on every graph and every area
pub sssp-call : (g : Weighted) (root : ℤ) (D : List ℤ) (S W T : List ℕ) → Called g root D S W T (sssp_call g root D S W T)
unfolding sssp_call sssp_says left_by
sssp-call g root D S W T =
    record {
      not_sound = λ s. rw s;
      plain = λ s w. rw (s, w);
      missing = λ s w none. rw (s, w, nowhere g root s none);
      short = λ s w v h r. rw (s, w, place g root s v h, r);
      done = λ s w v h. call-done g root s w D S W T v h;
    }

-- ---- where all arcs weigh one
-- an arc stands in a list whose weights are all p exactly where its other end does and it weighs p
legs-alike : (p x c : ℕ) (ws cs : List ℕ) → length cs ≡ length ws → ((i : ℕ) → i < length cs → get_or cs i 0 ≡ p)
    → has_leg x c (legs ws cs) ≡ (mem x ws && eqb p c)
unfolding has_leg legs mem
legs-alike p x c [] cs e f = refl
legs-alike p x c (w ∷ ws) [] e f = absurd (omega arith)
legs-alike p x c (w ∷ ws) (d ∷ cs) e f =
    let q : d ≡ p = f 0 (omega arith) in
    rw (q, legs-alike p x c ws cs (omega arith) (λ i h. f (suc i) (omega arith)), eqb_swap w x) (out_of (eqb x w) (mem x ws) (eqb p c))
  where
    out_of : (a b t : Bool) → ((a && t) || (b && t)) ≡ ((a || b) && t)
    out_of true b true = refl
    out_of true b false = and-off b false refl
    out_of false b t = refl

module _ (g : Weighted) (sound : sound_weighted g ≡ true) (weighted : is_weighted g ≡ true) (ones : AllOne g) (root : ℕ) where
  abbrev cost : ℕ → List ℕ
  cost = part_of g.graph.vertices g.graph.out_offsets g.out_weights

  ones-of : (u i : ℕ) → i < length (cost u) → get_or (cost u) i 0 ≡ unit_weight
  ones-of u i h =
      let s = weighted-of g sound in
      elim (dec_lt u g.graph.vertices) as (λ _. get_or (cost u) i 0 ≡ unit_weight) [
        | yes l ↦ area-each s.graph.outward_side g.out_weights (s.weights weighted).out_room u (λ c. c ≡ unit_weight) ones l i h
        | no l ↦
            absurd (let z = ap length (part-far g.graph.vertices g.graph.out_offsets g.out_weights u (omega arith)) in omega arith)
      ]

  one : (u w c : ℕ) → has_leg w c (out_legs g u) ≡ (mem w (outward g.graph u) && eqb unit_weight c)
  one u w c =
      let s = weighted-of g sound in
      legs-alike unit_weight w c (outward g.graph u) (cost u)
      (weights-long s.graph.outward_side g.out_weights (s.weights weighted).out_room u) (ones-of u)

  -- each route of k arcs is a walk of k arcs, and weighs k
  route-walk : {k v x : ℕ} → Route (out_legs g) root k v x → Walk (outward g.graph) root k v × (x ≡ k * unit_weight)
  route-walk home = (stay, refl)
  route-walk (onto {k = k} {u = u} {w = w} c p a) =
      let r = route-walk p in
      let h = sym (one u w c) ∙ a in
      let e = eqb-true unit_weight c (and_second (mem w (outward g.graph u)) (eqb unit_weight c) h) in
      (go r.0 (and_first (mem w (outward g.graph u)) (eqb unit_weight c) h), omega (arith, r.1))

  walk-route : {k v : ℕ} → Walk (outward g.graph) root k v → Route (out_legs g) root k v (k * unit_weight)
  walk-route stay = home
  walk-route (go {k = k} {u = u} {w = w} p a) =
      let z : k * unit_weight + unit_weight ≡ suc k * unit_weight = omega arith in
      subst (Route (out_legs g) root (suc k) w) z
      (onto unit_weight (walk-route p) (one u w unit_weight ∙ and_both a (eq-eqb unit_weight unit_weight refl)))

  -- so each distance is a million times the depth
  pub ones-hops : (v : ℕ) (y z : ℤ) → IsDepth (outward g.graph) root v y → IsDistance (out_legs g) root v z → Hops y z
  ones-hops v y z d e =
      record {
        times = λ k h q.
            let s = (d.hops k).0 (q, h) in
            ((e.weight (k * unit_weight)).1
            (record {
              arcs = k;
              route = walk-route s.walk;
              least = λ j x p. let r = route-walk p in let b = s.least j r.0 in omega (arith, r.1);
            })
            ).0;
        far = λ q. e.none.1 (λ k x p. d.none.0 q k (route-walk p).0);
      }

-- the same of the two calls' results
pub ones-calls : (g : Weighted) → sound_weighted g ≡ true → is_weighted g ≡ true → AllOne g → (root : ℤ) (v : ℕ) → HasName g.graph v root
    → (B : List ℤ) (Q : List ℕ) → g.graph.vertices ≤ length B → g.graph.vertices ≤ length Q
    → (D : List ℤ) (S W T : List ℕ) → room_for g.graph.vertices D S W T ≡ true → (w : ℕ) → w < g.graph.vertices
    → Hops (get_or (bfs_call g.graph root B Q).depth w (pos 0)) (get_or (sssp_call g root D S W T).distance w (pos 0))
ones-calls g sound weighted ones root v h B Q b q D S W T r w l =
    ones-hops g sound weighted ones v w _ _
    (((bfs-call g.graph root B Q).done (sound-from (weighted-of g sound).graph) v h b q).depths w l)
    (((sssp-call g root D S W T).done sound weighted v h r).distances w l)
