-- Laws of the weights beside arcs: by the tests that the code makes, and what sound weights are. Assumes nothing.
use Prim.Native.Nat.{ℕ, zero, suc, ◌+◌, ◌-◌, ◌≤◌, ◌<◌}
use mathlib.Core.Path.{◌≡◌, refl, sym, ap, ap₂, ◌∙◌}
use mathlib.Core.Bool.{Bool, true, false, not, ◌&&◌, ◌||◌}
use mathlib.Core.Logic.{⊎_elim, ◌↔◌}
use mathlib.Core.List.{List, [], ◌∷◌}
use native.Mathlib.Decide.{ℕ_discrete, dec_lt}
use native.Mathlib.Nat.{eq-or-lt_of_le}
use native.Mathlib.Omega.{arith}
use lib.IntN.{ℤ}
use lib.ListN.{length, get_or, take, drop, set, length-take, length-drop, length-replicate}
use lib.Seq.{get_or-take, get_or-drop}
use lib.Dec.{eqb, leb}
use borrow.Author.Tests.{eq-eqb, ne_eqb, eqb-true, le-leb, lt-leb, leb-true}
use Rattle.basis.specs.Area.{cleared, copied}
use Rattle.basis.specs.Limits.{most_weight}
use Rattle.basis.specs.Order.{rising}
use Rattle.basis.specs.Scan.{every, mem}
use Rattle.basis.proofs.Tests.{and_first, and_second, and_both, or_cases, failed, held, clash, bool_cases}
use Rattle.basis.proofs.Scans.{every-at, every_of, every-fail, each_at, each_of, each-fail, mem_index, mem-none-of}
use Rattle.basis.proofs.Scans.{mem-cases}
use Rattle.basis.proofs.Orders.{number-order, rising-lt}
use Rattle.basis.proofs.Areas.{copied-length, copied_at}
use Rattle.graph.specs.declared.Size.{Size}
use Rattle.std.specs.Prelude.{Option, Some, None}
use Rattle.graph.specs.Part.{part_of}
use Rattle.graph.specs.Find.{bisect_by}
use Rattle.graph.specs.Sound.{Graph, lent, sound_part, mirrored, sound_graph, Side, Sound}
use Rattle.graph.specs.Walk.{Ways, arcs_checked}
use Rattle.graph.specs.Weights.{Weighted, weighing, counts_weighted, is_weighted, Leg, legs, legs_of, out_legs, in_legs, has_leg}
use Rattle.graph.specs.Weights.{legs_answered, legs_mirrored, all_light, sound_weights, sound_weighted, SoundWeights, SoundWeighted}
use Rattle.graph.specs.Weights.{Beside}
use Rattle.graph.proofs.Parts.{part-far, part-whole}
use Rattle.std.specs.List.{list_all, zip}
use Rattle.graph.proofs.Runs.{all-each}
use Rattle.graph.proofs.Finds.{Right, bisect-finds, below_n, bisect-numbers}
use Rattle.graph.proofs.Sounds.{side-of, side-from, sound-of, sound-from, part-rises, offset-le, offset-most, mirrored-at}
use Rattle.graph.proofs.Walks.{or-none, Cursors, out_below, walk_none, walk-on, walk_more, cursor-at}
use Rattle.graph.proofs.Walks.{check-told, check-area, checks-late}

-- ---- legs by their places
legs-length : (ws cs : List ℕ) → length cs ≡ length ws → length (legs ws cs) ≡ length ws
unfolding legs
legs-length [] cs e = refl
legs-length (w ∷ ws) [] e = absurd (omega arith)
legs-length (w ∷ ws) (c ∷ cs) e = ap suc (legs-length ws cs (omega arith))

legs-at : (ws cs : List ℕ) (i : ℕ) → length cs ≡ length ws → i < length ws → get_or (legs ws cs) i (0, 0) ≡ (get_or ws i 0, get_or cs i 0)
unfolding legs
legs-at [] cs i e h = absurd (omega arith)
legs-at (w ∷ ws) [] i e h = absurd (omega arith)
legs-at (w ∷ ws) (c ∷ cs) zero e h = refl
legs-at (w ∷ ws) (c ∷ cs) (suc i) e h = legs-at ws cs i (omega arith) (omega arith)

-- ---- where an arc to x is one of a list
leg-none : (x c : ℕ) (ws cs : List ℕ) → ((i : ℕ) → i < length ws → get_or ws i 0 ≡ x → ⊥) → has_leg x c (legs ws cs) ≡ false
unfolding legs has_leg
leg-none x c [] cs none = refl
leg-none x c (w ∷ ws) [] none = refl
leg-none x c (w ∷ ws) (d ∷ cs) none = rw (ne_eqb w x (none 0 (omega arith))) (leg-none x c ws cs (λ i g. none (suc i) (omega arith)))

leg-first : (x c : ℕ) (ws cs : List ℕ) (j : ℕ) → length cs ≡ length ws → j < length ws → get_or ws j 0 ≡ x
    → ((i : ℕ) → i < length ws → get_or ws i 0 ≡ x → i ≡ j) → has_leg x c (legs ws cs) ≡ eqb (get_or cs j 0) c
unfolding legs has_leg
leg-first x c [] cs j l h e one = absurd (omega arith)
leg-first x c (w ∷ ws) [] j l h e one = absurd (omega arith)
leg-first x c (w ∷ ws) (d ∷ cs) zero l h e one =
    rw (eq-eqb w x e, leg-none x c ws cs (λ i g q. absurd (let z = one (suc i) (omega arith) q in omega arith))) (or-none (eqb d c))
leg-first x c (w ∷ ws) (d ∷ cs) (suc j) l h e one =
    rw (ne_eqb w x (λ q. let z = one 0 (omega arith) q in omega arith))
    (leg-first x c ws cs j (omega arith) (omega arith) e (λ i g q. let z = one (suc i) (omega arith) q in omega arith))

-- in a list that rises an arc to x stands at one place
leg-is : (x c : ℕ) (ws cs : List ℕ) (j : ℕ) → rising ws ≡ true → length cs ≡ length ws → j < length ws → get_or ws j 0 ≡ x
    → has_leg x c (legs ws cs) ≡ eqb (get_or cs j 0) c
leg-is x c ws cs j r l h e =
    leg-first x c ws cs j l h e
    (λ i g q.
    elim (dec_lt i j) as (λ _. i ≡ j) [
      | yes a ↦ absurd (let z = rising-lt ws r i j a h in omega arith)
      | no a ↦ elim (dec_lt j i) as (λ _. i ≡ j) [ yes b ↦ absurd (let z = rising-lt ws r j i b g in omega arith) | no b ↦ omega arith ]
    ])

-- ---- two lists side by side
legs-zip : (ws cs : List ℕ) → zip ws cs ≡ legs ws cs
unfolding legs
legs-zip [] cs = refl
legs-zip (w ∷ ws) [] = refl
legs-zip (w ∷ ws) (c ∷ cs) = ap (λ (l : List Leg). (w, c) ∷ l) (legs-zip ws cs)

-- ---- an area with a place for each arc of one way
module _ {n m : ℕ} {off tgt : List ℕ} (s : Side n m off tgt) (l : List ℕ) (room : m ≤ length l) (v : ℕ) where
  area-slice : v < n → part_of n off l v ≡ take (get_or off (v + 1) 0 - get_or off v 0) (drop (get_or off v 0) l)
  area-slice h =
      sym (part-whole n off l v h (let z = s.offsets_room in omega arith) (s.grows v h)
      (let x = offset-most s (v + 1) (omega arith) in omega arith))

  area-length : v < n → length (part_of n off l v) ≡ get_or off (v + 1) 0 - get_or off v 0
  area-length h =
      let x = offset-most s (v + 1) (omega arith) in
      let y = s.grows v h in
      ap length (area-slice h) ∙ simp (length-take, length-drop) (omega arith)

  area-at : v < n → (i : ℕ) → i < get_or off (v + 1) 0 - get_or off v 0 → get_or (part_of n off l v) i 0 ≡ get_or l (get_or off v 0 + i) 0
  area-at h i g =
      ap (λ (t : List ℕ). get_or t i 0) (area-slice h) ∙ get_or-take (get_or off (v + 1) 0 - get_or off v 0) (drop (get_or off v 0) l) i 0 g
      ∙ get_or-drop (get_or off v 0) l i 0

  -- what holds of the numbers beside all arcs holds of those beside v's
  pub area-each : (P : ℕ → Type 0) → ((i : ℕ) → i < m → P (get_or l i 0)) → v < n → (i : ℕ) → i < length (part_of n off l v)
      → P (get_or (part_of n off l v) i 0)
  area-each P f h i g =
      let e = area-length h in
      let x = offset-most s (v + 1) (omega arith) in
      let y = s.grows v h in
      rw (area-at h i (omega arith)) (f (get_or off v 0 + i) (omega arith))

module _ {n m : ℕ} {off tgt : List ℕ} (s : Side n m off tgt) where
  ends-rise : (v : ℕ) → rising (part_of n off tgt v) ≡ true
  ends-rise v =
      elim (dec_lt v n) as (λ _. rising (part_of n off tgt v) ≡ true) [
        | yes h ↦ part-rises n v (part_of n off tgt v) (s.good v h)
        | no h ↦ rw (← part-far n off tgt v (omega arith))
      ]

  pub weights-long : (wgt : List ℕ) → m ≤ length wgt → (v : ℕ) → length (part_of n off wgt v) ≡ length (part_of n off tgt v)
  weights-long wgt room v =
      elim (dec_lt v n) as (λ _. length (part_of n off wgt v) ≡ length (part_of n off tgt v)) [
        | yes h ↦ area-length s wgt room v h ∙ sym (area-length s tgt s.targets_room v h)
        | no h ↦ rw (← part-far n off tgt v (omega arith), ← part-far n off wgt v (omega arith))
      ]

-- ---- arcs that are answered, by their places
-- arc i stands at its other end with the same weight
abbrev pub answered_at : (ℕ → List Leg) → ℕ → List ℕ → List ℕ → ℕ → Bool
answered_at back u ws cs i = has_leg u (get_or cs i 0) (back (get_or ws i 0))

module _ (back : ℕ → List Leg) (u : ℕ) (ws cs : List ℕ) (long : length cs ≡ length ws) where
  abbrev answers : Leg → Bool
  answers a = has_leg u a.1 (back a.0)

  answers_at : (i : ℕ) → i < length ws → answers (get_or (legs ws cs) i (0, 0)) ≡ answered_at back u ws cs i
  answers_at i h = ap answers (legs-at ws cs i long h)

  answered-fail : (i : ℕ) → i < length ws → answered_at back u ws cs i ≡ false → legs_answered back u (legs ws cs) ≡ false
  answered-fail i h e =
      each-fail answers (0, 0) (legs ws cs) i (let z = legs-length ws cs long in omega arith) (answers_at i h ∙ e)

  answered-of : ((i : ℕ) → i < length ws → answered_at back u ws cs i ≡ true) → legs_answered back u (legs ws cs) ≡ true
  answered-of f =
      each_of answers (0, 0) (legs ws cs)
      (λ i g. let h : i < length ws = let z = legs-length ws cs long in omega arith in answers_at i h ∙ f i h)

  answered-each : legs_answered back u (legs ws cs) ≡ true → (i : ℕ) → i < length ws → answered_at back u ws cs i ≡ true
  answered-each h i g =
      sym (answers_at i g) ∙ each_at answers (0, 0) (legs ws cs) h i (let z = legs-length ws cs long in omega arith)

mem-at : (x : ℕ) (l : List ℕ) → mem x l ≡ true → (i : ℕ) × (i < length l) × (get_or l i 0 ≡ x)
mem-at x [] h = absurd (mem-none-of x h)
mem-at x (y ∷ l) h =
    ⊎_elim (λ e. (0, omega arith, sym e)) (λ t. let r = mem-at x l t in (suc r.0, omega (arith, r.1), r.2)) (mem-cases x y l h)

module _ {n m : ℕ} {oo ot io is ow iw : List ℕ} (b : Beside n m oo ot io is ow iw) where
  abbrev out : ℕ → List ℕ
  out = part_of n oo ot

  abbrev cost : ℕ → List ℕ
  cost = part_of n oo ow

  abbrev into : ℕ → List ℕ
  into = part_of n io is

  abbrev paid : ℕ → List ℕ
  paid = part_of n io iw

  abbrev same : Bool
  same = legs_mirrored n (legs_of n oo ot ow) (legs_of n io is iw)

  out_side : Side n m oo ot
  out_side = side-of n m oo ot b.outward

  in_side : Side n m io is
  in_side = side-of n m io is b.inward

  out-long : (u : ℕ) → length (cost u) ≡ length (out u)
  out-long = weights-long out_side ow b.out_room

  in-long : (w : ℕ) → length (paid w) ≡ length (into w)
  in-long = weights-long in_side iw b.in_room

  -- arc i of u weighs the same at its other end
  abbrev Fine : ℕ → ℕ → Type 0
  Fine u i = answered_at (legs_of n io is iw) u (out u) (cost u) i ≡ true

  same-fail : (u i : ℕ) → u < n → i < length (out u) → has_leg u (get_or (cost u) i 0) (legs_of n io is iw (get_or (out u) i 0)) ≡ false
      → false ≡ same
  unfolding legs_mirrored
  same-fail u i l h e =
      sym (every-fail (λ u. legs_answered (legs_of n io is iw) u (legs_of n oo ot ow u)) n u l
      (answered-fail (legs_of n io is iw) u (out u) (cost u) (out-long u) i h e))

  same_of : ((u i : ℕ) → u < n → i < length (out u) → Fine u i) → true ≡ same
  unfolding legs_mirrored
  same_of f =
      sym (every_of (λ u. legs_answered (legs_of n io is iw) u (legs_of n oo ot ow u)) n
      (λ u l. answered-of (legs_of n io is iw) u (out u) (cost u) (out-long u) (λ i h. f u i l h)))

  -- ---- the search for an arc from u among those that lead to w, which are A and weigh B
  module _ (u w : ℕ) (A B : List ℕ) (p : A ≡ into w) (q : B ≡ paid w) (f : Option ℕ) (e : f ≡ bisect_by below_n u A u) where
    leg-rises : rising A ≡ true
    leg-rises = rw p (ends-rise in_side w)

    leg-beside : length B ≡ length A
    leg-beside = rw (p, q) (in-long w)

    leg-right : (g : Option ℕ) → f ≡ g → Right 0 A u g
    leg-right g s = rw (← s, e, bisect-numbers A u) (bisect-finds number-order 0 A leg-rises u)

    leg-told : (c : ℕ) → has_leg u c (legs A B) ≡ has_leg u c (legs_of n io is iw w)
    leg-told c = ap₂ (λ a b. has_leg u c (legs a b)) p q

    pub leg-place : (i : ℕ) → f ≡ Some i → i < length B
    leg-place i s = let r = leg-right (Some i) s in omega (arith, r.0, leg-beside)

    pub leg-here : (i : ℕ) → f ≡ Some i → (c : ℕ) → eqb (get_or B i 0) c ≡ has_leg u c (legs_of n io is iw w)
    leg-here i s c = let r = leg-right (Some i) s in sym (leg-is u c A B i leg-rises leg-beside r.0 r.1) ∙ leg-told c

    pub leg-missing : f ≡ None → (c : ℕ) → false ≡ has_leg u c (legs_of n io is iw w)
    leg-missing s c = sym (leg-none u c A B (leg-right None s)) ∙ leg-told c

pub answered-is : (back : ℕ → List Leg) (u : ℕ) (ws cs : List ℕ)
    → list_all (λ (a : Leg). has_leg u a.1 (back a.0)) (zip ws cs) ≡ legs_answered back u (legs ws cs)
answered-is back u ws cs = ap (list_all (λ (a : Leg). has_leg u a.1 (back a.0))) (legs-zip ws cs)
    ∙ all-each (λ (a : Leg). has_leg u a.1 (back a.0)) (legs ws cs)

-- ---- the arcs of every vertex
module _ (n : ℕ) (from back : ℕ → List Leg) where
  pub search-is : every n (λ u. legs_answered back u (from u)) ≡ legs_mirrored n from back
  unfolding legs_mirrored
  search-is = refl

-- ---- the walk, a arcs of it made: it stands at an arc of a vertex, as soundness walks; the arcs passed weigh the same at their other ends
pub record Walking (n m : ℕ) (oo ot io is ow iw : List ℕ) (a : ℕ) (cursors : List ℕ) : Type 0 where
  beside : Beside n m oo ot io is ow iw
  vertex : ℕ
  arc : ℕ
  few : vertex ≤ n
  upto : arc ≤ length (part_of n oo ot vertex)
  place : get_or oo vertex 0 + arc ≡ a
  stand : Cursors n (part_of n oo ot) io is vertex arc cursors
  before : (v j : ℕ) → v < vertex → j < length (part_of n oo ot v)
      → answered_at (legs_of n io is iw) v (part_of n oo ot v) (part_of n oo ow v) j ≡ true
  here : (j : ℕ) → j < arc → answered_at (legs_of n io is iw) vertex (part_of n oo ot vertex) (part_of n oo ow vertex) j ≡ true

module _ {n m : ℕ} {oo ot io is ow iw : List ℕ} (b : Beside n m oo ot io is ow iw) where
  abbrev Walk : ℕ → List ℕ → Type 0
  Walk = Walking n m oo ot io is ow iw

  ways : Ways n (out b) io is
  ways = record { arcs = m; outward = every_of (λ v. sound_part n v (out b v)) n (out_side b).good; inward = b.inward }

  pub legs-begin : (d cursors : List ℕ) → n ≤ length d → cursors ≡ copied n io d → Walking n m oo ot io is ow iw 0 cursors
  legs-begin d cursors room q =
      record {
        beside = b;
        vertex = 0;
        arc = 0;
        few = omega arith;
        upto = omega arith;
        place = let e = (out_side b).begins in omega arith;
        stand = walk_none ways cursors (let x = ap length q ∙ copied-length n io d in omega arith)
            (λ w l. ap (λ (x : List ℕ). get_or x w 0) q ∙ copied_at n io d w 0 l (let x = (in_side b).offsets_room in omega arith) room);
        before = λ v j h. absurd (omega arith);
        here = λ j h. absurd (omega arith);
      }

  -- the arc that comes next is one of a vertex's
  record Next (a : ℕ) (cursors : List ℕ) : Type 0 where
    walk : Walk a cursors
    low : walk.vertex < n
    more : walk.arc < length (out b walk.vertex)

  -- a vertex's arcs are all passed
  abbrev passed : (a : ℕ) (cursors : List ℕ) (k : Walk a cursors) → k.vertex < n → k.arc ≡ length (out b k.vertex) → Walk a cursors
  passed a cursors k l e =
      record {
        beside = b;
        vertex = k.vertex + 1;
        arc = 0;
        few = omega arith;
        upto = omega arith;
        place =
            let x = area-length (out_side b) ot (out_side b).targets_room k.vertex l in
            let y = (out_side b).grows k.vertex l in omega (arith, k.place);
        stand = walk-on ways k.vertex k.arc cursors (omega arith) k.stand;
        before = λ v j h g.
            ⊎_elim (λ q. rw q (k.here j (let z = ap (λ (v : ℕ). length (out b v)) q in omega arith))) (λ q. k.before v j q g)
            (eq-or-lt_of_le (let y : v ≤ k.vertex = omega arith in y));
        here = λ j h. absurd (omega arith);
      }

  vertex-low : (a : ℕ) (cursors : List ℕ) (k : Walk a cursors) → a < m → k.vertex < n
  vertex-low a cursors k g =
      elim (dec_lt k.vertex n) as (λ _. k.vertex < n) [
        | yes l ↦ l
        | no l ↦
            let e : k.vertex ≡ n = omega (arith, k.few) in
            let z : length (out b k.vertex) ≡ 0 = ap length (sym (part-far n oo ot k.vertex (omega arith))) in
            absurd (let x = (out_side b).ends in let y = ap (λ (v : ℕ). get_or oo v 0) e in omega (arith, k.upto, k.place))
      ]

  next : (f a : ℕ) (cursors : List ℕ) (k : Walk a cursors) → n ≤ k.vertex + f → a < m → Next a cursors
  next zero a cursors k h g = absurd (let l = vertex-low a cursors k g in omega arith)
  next (suc f) a cursors k h g =
      let l = vertex-low a cursors k g in
      elim (dec_lt k.arc (length (out b k.vertex))) as (λ _. Next a cursors) [
        | yes r ↦ record { walk = k; low = l; more = r }
        | no r ↦ next f a cursors (passed a cursors k l (omega (arith, k.upto))) (omega arith) g
      ]

  -- arc a leads from u to w, as u's arc i
  module _ (a : ℕ) (cursors : List ℕ) (x : Next a cursors) where
    abbrev u : ℕ
    u = x.walk.vertex

    abbrev i : ℕ
    i = x.walk.arc

    abbrev w : ℕ
    w = get_or ot a 0

    abbrev c : ℕ
    c = get_or cursors w 0

    place_of : (l : List ℕ) → m ≤ length l → get_or (part_of n oo l u) i 0 ≡ get_or l a 0
    place_of l room =
        area-at (out_side b) l room u x.low i
        (let e = area-length (out_side b) ot (out_side b).targets_room u x.low in omega (arith, x.more))
        ∙ ap (λ (j : ℕ). get_or l j 0) x.walk.place

    target : get_or (out b u) i 0 ≡ w
    target = place_of ot (out_side b).targets_room

    member : mem w (out b u) ≡ true
    member = mem_index w (out b u) i x.more target

    w-low : w < n
    w-low = out_below ways u w x.low member

    -- u stands at w's cursor
    record Reverse : Type 0 where
      at : ℕ
      within : at < length (into b w)
      stands : get_or (into b w) at 0 ≡ u
      cursor : get_or io w 0 + at ≡ c

    reverse : Reverse
    reverse =
        let r = mem-at u (into b w) (mirrored-at n (out b) (into b)
        (and_first (mirrored n (out b) (into b)) (mirrored n (into b) (out b)) b.both) u w x.low member) in
        let e = area-length (in_side b) is (in_side b).targets_room w w-low in
        let y = area-at (in_side b) is (in_side b).targets_room w w-low r.0 (omega (arith, r.1)) in
        record {
          at = r.0;
          within = r.1;
          stands = r.2;
          cursor =
              rw target at (cursor-at ways u i x.low x.more cursors x.walk.stand b.both (get_or io w 0 + r.0)
              (rw target (omega arith)) (rw target (omega (arith, r.1))) (sym y ∙ r.2));
        }

    inside : reverse.at < get_or io (w + 1) 0 - get_or io w 0
    inside = let e = area-length (in_side b) is (in_side b).targets_room w w-low in omega (arith, reverse.within)

    c-low : c < m
    c-low = let e = offset-most (in_side b) (w + 1) (let z = w-low in omega arith) in let h = inside in omega (arith, reverse.cursor)

    next-source : get_or is c 0 ≡ u
    next-source =
        ap (λ (j : ℕ). get_or is j 0) (sym reverse.cursor)
        ∙ sym (area-at (in_side b) is (in_side b).targets_room w w-low reverse.at inside) ∙ reverse.stands

    -- so the weight there is that of the inward arc that reverses arc a
    weight_is : has_leg u (get_or (cost b u) i 0) (legs_of n io is iw (get_or (out b u) i 0)) ≡ eqb (get_or iw c 0) (get_or ow a 0)
    weight_is =
        ap₂ (λ y z. has_leg u y (legs_of n io is iw z)) (place_of ow b.out_room) target
        ∙ leg-is u (get_or ow a 0) (into b w) (paid b w) reverse.at (ends-rise (in_side b) w) (in-long b w) reverse.within
        reverse.stands
        ∙ ap (λ (t : ℕ). eqb t (get_or ow a 0))
        (area-at (in_side b) iw b.in_room w w-low reverse.at inside ∙ ap (λ (j : ℕ). get_or iw j 0) reverse.cursor)

    moved : get_or iw c 0 ≡ get_or ow a 0 → Walk (a + 1) (set cursors w (c + 1))
    moved e =
        let k = x.walk in
        record {
          beside = b;
          vertex = u;
          arc = i + 1;
          few = k.few;
          upto = omega (arith, x.more);
          place = omega (arith, k.place);
          stand =
              rw target at (walk_more ways u i x.low x.more cursors k.stand
              (rw target (let z = c-low in let y = (in_side b).targets_room in omega arith)) (rw target next-source));
          before = k.before;
          here = λ j h.
              ⊎_elim (λ q. rw q (weight_is ∙ eq-eqb (get_or iw c 0) (get_or ow a 0) e)) (λ q. k.here j q)
              (eq-or-lt_of_le (let y : j ≤ i = omega arith in y));
        }

module _ {n m : ℕ} {oo ot io is ow iw : List ℕ} (a : ℕ) (cursors : List ℕ) (k : Walking n m oo ot io is ow iw a cursors) where
  abbrev b : Beside n m oo ot io is ow iw
  b = k.beside

  arc-of : a < m → Next b a cursors
  arc-of g = next b n a cursors k (omega arith) g

  pub legs-target : a < m → get_or ot a 0 < length cursors
  legs-target g = let z = w-low b a cursors (arc-of g) in omega (arith, k.stand.room)

  pub legs-cursor : a < m → get_or cursors (get_or ot a 0) 0 < m
  legs-cursor g = c-low b a cursors (arc-of g)

  pub legs-room : (m ≤ length ot) × (m ≤ length ow) × (m ≤ length iw)
  legs-room = ((out_side b).targets_room, b.out_room, b.in_room)

  pub legs-stop : a < m → (get_or iw (get_or cursors (get_or ot a 0) 0) 0 ≡ get_or ow a 0 → ⊥)
      → false ≡ legs_mirrored n (legs_of n oo ot ow) (legs_of n io is iw)
  legs-stop g h =
      let x = arc-of g in
      same-fail b x.walk.vertex x.walk.arc x.low x.more
      (weight_is b a cursors x ∙ ne_eqb (get_or iw (get_or cursors (get_or ot a 0) 0) 0) (get_or ow a 0) h)

  pub legs-more : a < m → get_or iw (get_or cursors (get_or ot a 0) 0) 0 ≡ get_or ow a 0
      → Walking n m oo ot io is ow iw (a + 1) (set cursors (get_or ot a 0) (get_or cursors (get_or ot a 0) 0 + 1))
  legs-more g e = moved b a cursors (arc-of g) e

  pub legs-end : m ≤ a → true ≡ legs_mirrored n (legs_of n oo ot ow) (legs_of n io is iw)
  legs-end g =
      same_of b
      (λ v j l h.
      let long = area-length (out_side b) ot (out_side b).targets_room in
      let e = long v l in
      let f = offset-most (out_side b) (v + 1) (omega arith) in
      elim (dec_lt v k.vertex) as (λ _. Fine b v j) [
        | yes d ↦ k.before v j d h
        | no d ↦
            elim (ℕ_discrete v k.vertex) as (λ _. Fine b v j) [
              | yes q ↦ rw q (k.here j (let z = ap (λ (v : ℕ). get_or oo v 0) q in omega (arith, k.place)))
              | no q ↦
                  absurd
                  (let x : k.vertex < n = omega arith in
                  let y = offset-le (out_side b) (k.vertex + 1) v (omega arith) (omega arith) in
                  let z = long k.vertex x in let w = (out_side b).grows k.vertex x in
                  omega (arith, k.place, k.upto))
            ]
      ])

-- a sound graph's two ways, with room for the weights
beside-of : (g : Weighted) → Sound g.graph → g.graph.arcs ≤ length g.out_weights → g.graph.arcs ≤ length g.in_weights
    → Beside g.graph.vertices g.graph.arcs g.graph.out_offsets g.graph.out_targets g.graph.in_offsets g.graph.in_sources
    g.out_weights g.in_weights
beside-of g s a b =
    record {
      outward = side-from s.outward_side;
      inward = side-from s.inward_side;
      both = and_both s.back s.forth;
      out_room = a;
      in_room = b;
    }

-- ---- the weights of a sound graph: a clause that fails, and all of them
module _ (size : Size) (ids : List ℤ) (oo ot io is ow iw : List ℕ) (weighted : Bool) where
  abbrev lit : Weighted
  lit = weighing (lent size ids oo ot io is) weighted ow iw

  pub weights-beside : sound_graph (lent size ids oo ot io is) ≡ true → size.arcs ≤ length ow → size.arcs ≤ length iw
      → Beside size.vertices size.arcs oo ot io is ow iw
  weights-beside h a b = beside-of lit (sound-of (lent size ids oo ot io is) h) a b

  pub weights-short : length ow < size.arcs → false ≡ sound_weights lit
  unfolding sound_weights
  weights-short h = rw (lt-leb size.arcs (length ow) h)

  module _ (a : size.arcs ≤ length ow) where
    pub weights-short-back : length iw < size.arcs → false ≡ sound_weights lit
    unfolding sound_weights
    weights-short-back h = rw (le-leb size.arcs (length ow) a, lt-leb size.arcs (length iw) h)

    module _ (b : size.arcs ≤ length iw) (t : Bool) (e : t ≡ all_light size.arcs ow) where
      pub weights-heavy : t ≡ false → false ≡ sound_weights lit
      unfolding sound_weights
      weights-heavy h =
          rw (le-leb size.arcs (length ow) a, le-leb size.arcs (length iw) b, failed t (all_light size.arcs ow) e h)

      module _ (f : t ≡ true) (r : Bool) (g : r ≡ all_light size.arcs iw) where
        pub weights-heavy-back : r ≡ false → false ≡ sound_weights lit
        unfolding sound_weights
        weights-heavy-back h =
            rw (
              le-leb size.arcs (length ow) a,
              le-leb size.arcs (length iw) b,
              held t (all_light size.arcs ow) e f,
              failed r (all_light size.arcs iw) g h,
            )

        pub weights-told : r ≡ true → (x : Bool)
            → x ≡ legs_mirrored size.vertices (legs_of size.vertices oo ot ow) (legs_of size.vertices io is iw) → x ≡ sound_weights lit
        unfolding sound_weights
        weights-told h x q =
            rw (
              le-leb size.arcs (length ow) a,
              le-leb size.arcs (length iw) b,
              held t (all_light size.arcs ow) e f,
              held r (all_light size.arcs iw) g h,
            ) q

-- ---- the whole check: s is what the check of the graph answered, which left zeros in the area
module _ (g : Graph) (weighted : Bool) (ow iw d e : List ℕ) (s : Bool) (told : arcs_checked s e ≡ arcs_checked (sound_graph g)
    (cleared d)) where
  checked-graph : s ≡ true → sound_graph g ≡ true
  checked-graph h = held s (sound_graph g) (check-told told) h

  pub checked-unsound : s ≡ false → arcs_checked false e ≡ arcs_checked (sound_weighted (weighing g weighted ow iw)) (cleared d)
  unfolding sound_weighted
  checked-unsound h = rw (failed s (sound_graph g) (check-told told) h, check-area told)

  module _ (h : s ≡ true) (t : Bool) (f : t ≡ counts_weighted weighted g.arcs) where
    pub checked-plain : t ≡ false → arcs_checked true e ≡ arcs_checked (sound_weighted (weighing g weighted ow iw)) (cleared d)
    unfolding sound_weighted
    checked-plain k = rw (checked-graph h, failed t (counts_weighted weighted g.arcs) f k, check-area told)

    -- r is what the check of the weights answered, x what it left in the area, y what stands there once that is cleared
    pub checked-weights : t ≡ true → (r : Bool) (x y : List ℕ) → r ≡ sound_weights (weighing g weighted ow iw) → length x ≡ length e
        → y ≡ cleared x → arcs_checked r y ≡ arcs_checked (sound_weighted (weighing g weighted ow iw)) (cleared d)
    unfolding sound_weighted sound_weights
    checked-weights k r x y q l c =
        checks-late d x (rw (checked-graph h, held t (counts_weighted weighted g.arcs) f k) q)
        (l ∙ ap length (check-area told) ∙ length-replicate {A = ℕ} (length d) 0) c

-- ---- what sound weights are, clause by clause
leg-find : (x c : ℕ) (ws cs : List ℕ) → has_leg x c (legs ws cs) ≡ true
    → (i : ℕ) × (i < length ws) × (get_or ws i 0 ≡ x) × (get_or cs i 0 ≡ c)
unfolding legs has_leg
leg-find x c [] cs h = clash h refl
leg-find x c (w ∷ ws) [] h = clash h refl
leg-find x c (w ∷ ws) (d ∷ cs) h =
    ⊎_elim (λ e. (0, omega arith, eqb-true w x (and_first (eqb w x) (eqb d c) e), eqb-true d c (and_second (eqb w x) (eqb d c) e)))
    (λ t. let r = leg-find x c ws cs t in (suc r.0, omega (arith, r.1), r.2, r.3))
    (or_cases (eqb w x && eqb d c) (has_leg x c (legs ws cs)) h)

module _ {n m : ℕ} {oo ot io is ow iw : List ℕ} (b : Beside n m oo ot io is ow iw) (u w c : ℕ) (lu : u < n) (lw : w < n) where
  -- an arc from u to w
  across : mem w (out b u) ≡ true → same b ≡ true → has_leg w c (legs_of n oo ot ow u) ≡ has_leg u c (legs_of n io is iw w)
  unfolding legs_mirrored
  across h s =
      let i = mem-at w (out b u) h in
      let j = mem-at u (into b w) (mirrored-at n (out b) (into b)
      (and_first (mirrored n (out b) (into b)) (mirrored n (into b) (out b)) b.both) u w lu h) in
      let here : (y : ℕ) → has_leg u y (legs_of n io is iw w) ≡ eqb (get_or (paid b w) j.0 0) y =
      λ y. leg-is u y (into b w) (paid b w) j.0 (ends-rise (in_side b) w) (in-long b w) j.1 j.2 in
      let e = answered-each (legs_of n io is iw) u (out b u) (cost b u) (out-long b u)
      (every-at (λ u. legs_answered (legs_of n io is iw) u (legs_of n oo ot ow u)) n u lu s) i.0 i.1 in
      let f = eqb-true (get_or (paid b w) j.0 0) (get_or (cost b u) i.0 0) (sym (here (get_or (cost b u) i.0 0)) ∙ rw i.2 at e) in
      leg-is w c (out b u) (cost b u) i.0 (ends-rise (out_side b) u) (out-long b u) i.1 i.2
      ∙ sym (here c ∙ ap (λ (y : ℕ). eqb y c) f)

  alike_of : same b ≡ true → (has_leg w c (legs_of n oo ot ow u) ≡ true) ↔ (has_leg u c (legs_of n io is iw w) ≡ true)
  alike_of s = (
    (λ h. let r = leg-find w c (out b u) (cost b u) h in sym (across (mem_index w (out b u) r.0 r.1 r.2) s) ∙ h),
    λ h.
        let r = leg-find u c (into b w) (paid b w) h in
        across (mirrored-at n (into b) (out b) (and_second (mirrored n (out b) (into b)) (mirrored n (into b) (out b)) b.both) w u lw
        (mem_index u (into b w) r.0 r.1 r.2)) s ∙ h,
  )

light-all : (m : ℕ) (l : List ℕ) → all_light m l ≡ true → (i : ℕ) → i < m → get_or l i 0 ≤ most_weight
light-all m l h i g = leb-true (get_or l i 0) most_weight (every-at (λ i. leb (get_or l i 0) most_weight) m i g h)

light-from : (m : ℕ) (l : List ℕ) → ((i : ℕ) → i < m → get_or l i 0 ≤ most_weight) → all_light m l ≡ true
light-from m l f = every_of (λ i. leb (get_or l i 0) most_weight) m (λ i g. le-leb (get_or l i 0) most_weight (f i g))

weights-of : (g : Weighted) → Sound g.graph → sound_weights g ≡ true → SoundWeights g
unfolding sound_weights
weights-of g s h =
    let m = g.graph.arcs in
    let a = leb m (length g.out_weights) in let b = leb m (length g.in_weights) in
    let c = all_light m g.out_weights in let d = all_light m g.in_weights in
    let e = legs_mirrored g.graph.vertices (out_legs g) (in_legs g) in
    let p = and_first ((a && b) && (c && d)) e h in
    let q = and_first (a && b) (c && d) p in
    let r = and_second (a && b) (c && d) p in
    let x = leb-true m (length g.out_weights) (and_first a b q) in
    let y = leb-true m (length g.in_weights) (and_second a b q) in
    record {
      out_room = x;
      in_room = y;
      out_light = light-all m g.out_weights (and_first c d r);
      in_light = light-all m g.in_weights (and_second c d r);
      reversed = λ u w v lu lw. alike_of (beside-of g s x y) u w v lu lw (and_second ((a && b) && (c && d)) e h);
    }

weights-from : (g : Weighted) → Sound g.graph → SoundWeights g → sound_weights g ≡ true
unfolding sound_weights
weights-from g s k =
    let m = g.graph.arcs in
    let b = beside-of g s k.out_room k.in_room in
    and_both
    (and_both (and_both (le-leb m (length g.out_weights) k.out_room) (le-leb m (length g.in_weights) k.in_room))
    (and_both (light-from m g.out_weights k.out_light) (light-from m g.in_weights k.in_light)))
    (sym (same_of b
    (λ u i l h.
    let w = get_or (out b u) i 0 in
    (k.reversed u w (get_or (cost b u) i 0) l (out_below (ways b) u w l (mem_index w (out b u) i h refl))).0
    (leg-is w (get_or (cost b u) i 0) (out b u) (cost b u) i (ends-rise (out_side b) u) (out-long b u) h refl
    ∙ eq-eqb (get_or (cost b u) i 0) (get_or (cost b u) i 0) refl))))

pub weighted-of : (g : Weighted) → sound_weighted g ≡ true → SoundWeighted g
unfolding sound_weighted
weighted-of g h =
    let s = sound-of g.graph (and_first (sound_graph g.graph) (not (is_weighted g) || sound_weights g) h) in
    record {
      graph = s;
      weights = λ t. weights-of g s (rw t at (and_second (sound_graph g.graph) (not (is_weighted g) || sound_weights g) h));
    }

pub weighted-from : (g : Weighted) → SoundWeighted g → sound_weighted g ≡ true
unfolding sound_weighted
weighted-from g s =
    and_both (sound-from s.graph)
    (bool_cases (is_weighted g) ((not (is_weighted g) || sound_weights g) ≡ true) (λ t. rw t (weights-from g s.graph (s.weights t)))
    (λ t. rw t))
