-- Laws of the walk over the outward arcs: where it begins, at an arc, where it breaks off, at a vertex's end and at its own.
-- Assumes nothing.
use Prim.Native.Nat.{ℕ, zero, suc, ◌+◌, ◌-◌, ◌≤◌, ◌<◌}
use mathlib.Core.Path.{◌≡◌, refl, sym, ap, ap₂, ◌∙◌}
use mathlib.Core.Bool.{Bool, true, false, ◌&&◌, ◌||◌}
use mathlib.Core.List.{List, [], ◌∷◌, ◌++◌}
use native.Mathlib.Omega.{arith}
use native.Mathlib.Nat.{add-zero, add-suc, sub_self}
use native.Mathlib.Numerals.{add-one}
use native.Mathlib.Decide.{ℕ_discrete, dec_lt}
use lib.ListN.{length, get_or, take, drop, set, replicate, length-append, length-take}
use lib.ListN.{length-drop, length-set, drop_of_length-le, get_or-append}
use lib.Seq.{get_or-take, get_or-drop, take-take, take-suc, take_all, drop-cons, get_or-set_same, get_or-set_other, get_or_at}
use lib.Dec.{eqb, ltb}
use borrow.Author.Tests.{lt-ltb, le-ltb, ltb-true, eq-eqb, ne_eqb, eqb-true}
use Rattle.basis.specs.Order.{rising}
use Rattle.basis.specs.Scan.{each, mem, all_below}
use Rattle.basis.specs.Area.{cleared, copied}
use Rattle.basis.proofs.Tests.{clash, false_of, bool_cases, same_test, and_first, and_second, and_both, and-off, or-first, or-second}
use Rattle.basis.proofs.Scans.{every-at, every_of, each-mem, mem_index}
use Rattle.basis.proofs.Scans.{mem-none, mem-head, mem-append, each_at, below_at, below_of}
use Rattle.basis.proofs.Orders.{rising-lt, rising_by-of}
use Rattle.basis.proofs.Areas.{copied-length, copied_at}
use Rattle.graph.specs.Part.{part_of}
use Rattle.graph.specs.Sound.{sound_part, other, sound_parts, mirrored, both_ways, Side}
use Rattle.graph.specs.Walk.{Ways, ArcsChecked, arcs_checked, is_next, arcs_walked, all_walked, at_ends}
use Rattle.graph.proofs.Sounds.{side-of, offset-most, part_slice, part-rises}
use Rattle.graph.proofs.Sounds.{part-others, other-below, mirrored-at, mirrored-of}

pub or-none : (t : Bool) → (t || false) ≡ t
or-none true = refl
or-none false = refl

and_none : (t : Bool) → (t && false) ≡ false
and_none true = refl
and_none false = refl

-- ---- one member more, at the end
mem-last : (x : ℕ) (l : List ℕ) → mem x (l ++ (x ∷ [])) ≡ true
mem-last x l = mem-append x l (x ∷ []) ∙ or-second (mem x l) (mem x (x ∷ [])) (mem-head x [])

mem-before : (x y : ℕ) (l : List ℕ) → (x ≡ y → ⊥) → mem x (l ++ (y ∷ [])) ≡ mem x l
mem-before x y l d =
    let e : mem x (y ∷ []) ≡ false = unfold mem in rw (ne_eqb x y d) in
    mem-append x l (y ∷ []) ∙ ap (λ (t : Bool). mem x l || t) e ∙ or-none (mem x l)

-- what stands at a place of a rising list does not stand before it
mem-new : (l : List ℕ) (c : ℕ) → rising l ≡ true → c < length l → mem (get_or l c 0) (take c l) ≡ false
mem-new l c r h =
    mem-none (get_or l c 0) (take c l)
    (λ j g e. let a = length-take c l in let b = rising-lt l r j c (omega arith) h in let d = get_or-take c l j 0 (omega arith) in
    omega arith)

-- one member more than all others
rising-last : (x : ℕ) (l : List ℕ) → rising l ≡ true → ((v : ℕ) → mem v l ≡ true → v < x) → rising (l ++ (x ∷ [])) ≡ true
rising-last x l r h =
    rising_by-of ltb 0 (l ++ (x ∷ []))
    (λ i g. lt-ltb (get_or (l ++ (x ∷ [])) i 0) (get_or (l ++ (x ∷ [])) (suc i) 0)
    (steps i (let e = length-append l (x ∷ []) in omega arith)))
  where
    steps : (i : ℕ) → i < length l → get_or (l ++ (x ∷ [])) i 0 < get_or (l ++ (x ∷ [])) (suc i) 0
    steps i g =
        rw (get_or-append l (x ∷ []) 0 i g)
        (elim (ℕ_discrete (suc i) (length l)) as (λ _. get_or l i 0 < get_or (l ++ (x ∷ [])) (suc i) 0) [
          | yes q ↦ rw (get_or_at l x [] 0 (suc i) (sym q)) (h (get_or l i 0) (mem_index (get_or l i 0) l i g refl))
          | no d ↦ rw (get_or-append l (x ∷ []) 0 (suc i) (omega arith)) (rising-lt l r i (suc i) (omega arith) (omega arith))
        ])

-- ---- the places of an area from a on up to c
unfoldable stretch : List ℕ → ℕ → ℕ → List ℕ
stretch src a c = take (c - a) (drop a src)

module _ (src : List ℕ) (a : ℕ) where
  stretch-none : stretch src a a ≡ []
  unfolding stretch
  stretch-none = rw (sub_self a)

  stretch-length : (c : ℕ) → a ≤ c → c ≤ length src → a + length (stretch src a c) ≡ c
  unfolding stretch
  stretch-length c h k = rw (length-take (c - a) (drop a src), length-drop a src) (omega arith)

  stretch-at : (c j : ℕ) → a + j < c → get_or (stretch src a c) j 0 ≡ get_or src (a + j) 0
  unfolding stretch
  stretch-at c j h = get_or-take (c - a) (drop a src) j 0 (omega arith) ∙ get_or-drop a src j 0

  stretch-place : (c d : ℕ) → a ≤ d → d < c → get_or (stretch src a c) (d - a) 0 ≡ get_or src d 0
  stretch-place c d h k = let e : a + (d - a) ≡ d = omega arith in stretch-at c (d - a) (omega arith) ∙ ap (λ (j : ℕ). get_or src j 0) e

  stretch-more : (c : ℕ) → a ≤ c → c < length src → stretch src a (c + 1) ≡ stretch src a c ++ (get_or src c 0 ∷ [])
  unfolding stretch
  stretch-more c h k =
      let e : c + 1 - a ≡ suc (c - a) = omega arith in
      let f : a + (c - a) ≡ c = omega arith in
      ap (λ (j : ℕ). take j (drop a src)) e ∙ take-suc (drop a src) (c - a) 0 (let z = length-drop a src in omega arith)
      ∙ ap (λ (x : ℕ). take (c - a) (drop a src) ++ (x ∷ [])) (get_or-drop a src (c - a) 0 ∙ ap (λ (j : ℕ). get_or src j 0) f)

  module _ (c d : ℕ) (h : a ≤ d) (k : d < c) (m : c ≤ length src) where
    inside : d - a < length (stretch src a c)
    inside = let e = stretch-length c (omega arith) m in omega arith

    stretch-front : take (d - a) (stretch src a c) ≡ stretch src a d
    unfolding stretch
    stretch-front = take-take (d - a) (c - a) (drop a src) (omega arith)

    stretch-mem : mem (get_or src d 0) (stretch src a c) ≡ true
    stretch-mem = mem_index (get_or src d 0) (stretch src a c) (d - a) inside (stretch-place c d h k)

    -- what stands at a place of a stretch that rises does not stand before it
    stretch-new : rising (stretch src a c) ≡ true → mem (get_or src d 0) (stretch src a d) ≡ false
    stretch-new r = rw (stretch-place c d h k, stretch-front) at (mem-new (stretch src a c) (d - a) r inside)

-- ---- the arcs passed
-- the arc from v to w is one of those passed: of the vertices below u, and the first i of u
abbrev passed : (ℕ → List ℕ) → ℕ → ℕ → ℕ → ℕ → Bool
passed out u i v w = (ltb v u && mem w (out v)) || (eqb v u && mem w (take i (out u)))

below_more : (u v : ℕ) → (v ≡ u → ⊥) → ltb v u ≡ ltb v (u + 1)
below_more u v d =
    elim (dec_lt v u) as (λ _. ltb v u ≡ ltb v (u + 1)) [
      | yes l ↦ rw (lt-ltb v u l, lt-ltb v (u + 1) (omega arith))
      | no l ↦ rw (le-ltb v u (omega arith), le-ltb v (u + 1) (omega arith))
    ]

module _ (out : ℕ → List ℕ) where
  passed-self : (u i w : ℕ) → passed out u i u w ≡ mem w (take i (out u))
  passed-self u i w = rw (le-ltb u u (omega arith), eq-eqb u u refl)

  passed-other : (u i v w : ℕ) → (v ≡ u → ⊥) → passed out u i v w ≡ (ltb v u && mem w (out v))
  passed-other u i v w d = rw (ne_eqb v u d) (or-none (ltb v u && mem w (out v)))

  passed-below : (u v w : ℕ) → passed out u 0 v w ≡ (ltb v u && mem w (out v))
  unfolding mem
  passed-below u v w = rw (and_none (eqb v u)) (or-none (ltb v u && mem w (out v)))

  passed-of : (u i v w : ℕ) → v < u → mem w (out v) ≡ true → passed out u i v w ≡ true
  passed-of u i v w l h = or-first (ltb v u && mem w (out v)) (eqb v u && mem w (take i (out u))) (and_both (lt-ltb v u l) h)

  -- all of u's arcs are passed
  passed_on : (u i v w : ℕ) → length (out u) ≤ i → passed out u i v w ≡ passed out (u + 1) 0 v w
  passed_on u i v w h =
      elim (ℕ_discrete v u) as (λ _. passed out u i v w ≡ passed out (u + 1) 0 v w) [
        | yes q ↦ rw (passed-below (u + 1) v w, q, passed-self u i w, take_all i (out u) h, lt-ltb u (u + 1) (omega arith))
        | no d ↦ passed-other u i v w d ∙ ap (λ (t : Bool). t && mem w (out v)) (below_more u v d) ∙ sym (passed-below (u + 1) v w)
      ]

  -- an arc of u's that is not passed stands behind all that are
  passed-less : (u i v w : ℕ) → passed out u i v w ≡ true → mem w (take i (out u)) ≡ false → v < u
  passed-less u i v w h f =
      elim (ℕ_discrete v u) as (λ _. v < u) [
        | yes q ↦ clash (sym (passed-self u i w) ∙ rw q at h) f
        | no d ↦ ltb-true v u (and_first (ltb v u) (mem w (out v)) (sym (passed-other u i v w d) ∙ h))
      ]

-- from the start of w's part up to its cursor stand exactly the vertices whose arcs to w are passed, and they rise
pub record Cursors (n : ℕ) (out : ℕ → List ℕ) (off src : List ℕ) (u i : ℕ) (cursors : List ℕ) : Type 0 where
  pub room : n ≤ length cursors
  from : (w : ℕ) → w < n → get_or off w 0 ≤ get_or cursors w 0
  upto : (w : ℕ) → w < n → get_or cursors w 0 ≤ length src
  exact : (w : ℕ) → w < n → (v : ℕ) → mem v (stretch src (get_or off w 0) (get_or cursors w 0)) ≡ passed out u i v w
  rises : (w : ℕ) → w < n → rising (stretch src (get_or off w 0) (get_or cursors w 0)) ≡ true

-- what a walk over the arcs of the vertices below u says: it came through, or the arcs are not each other's reversed
record Told (n : ℕ) (out : ℕ → List ℕ) (off src : List ℕ) (u : ℕ) (x : ArcsChecked) : Type 0 where
  came : x.sound ≡ true → Cursors n out off src u 0 x.cursors
  broke : x.sound ≡ false → both_ways n out (part_of n off src) ≡ false

-- where w's part starts and ends
abbrev start : List ℕ → ℕ → ℕ
start off w = get_or off w 0

abbrev end : List ℕ → ℕ → ℕ
end off w = get_or off (w + 1) 0

module _ {n : ℕ} {out : ℕ → List ℕ} {off src : List ℕ} (s : Ways n out off src) where
  side : Side n s.arcs off src
  side = side-of n s.arcs off src s.inward

  out-rises : (u : ℕ) → u < n → rising (out u) ≡ true
  out-rises u l = part-rises n u (out u) (every-at (λ v. sound_part n v (out v)) n u l s.outward)

  pub out_below : (u w : ℕ) → u < n → mem w (out u) ≡ true → w < n
  out_below u w l h =
      other-below n u w (each-mem (other n u) (out u) (part-others n u (out u) (every-at (λ v. sound_part n v (out v)) n u l s.outward)) w
      h)

  module _ (w : ℕ) (l : w < n) where
    into-is : part_of n off src w ≡ stretch src (start off w) (end off w)
    unfolding stretch
    into-is = part_slice side w l

    end_low : end off w ≤ length src
    end_low = let x = offset-most side (w + 1) (omega arith) in let y = side.targets_room in omega arith

    into-rises : rising (stretch src (start off w) (end off w)) ≡ true
    into-rises = rw (← into-is) (part-rises n w (part_of n off src w) (side.good w l))

    into-below : (v : ℕ) → mem v (part_of n off src w) ≡ true → v < n
    into-below v h =
        other-below n w v (each-mem (other n w) (part_of n off src w) (part-others n w (part_of n off src w) (side.good w l)) v h)

  -- the walk begins
  pub walk_none : (cursors : List ℕ) → n ≤ length cursors → ((w : ℕ) → w < n → get_or cursors w 0 ≡ start off w)
      → Cursors n out off src 0 0 cursors
  walk_none cursors h e =
      record {
        room = h;
        from = λ w l. let x = e w l in omega arith;
        upto = λ w l. let x = e w l in let y = side.grows w l in let z = end_low w l in omega arith;
        exact = λ w l v. rw (e w l, stretch-none src (start off w), passed-below out 0 v w, le-ltb v 0 (omega arith)) (unfold mem in refl);
        rises = λ w l. rw (e w l, stretch-none src (start off w));
      }

  -- a vertex's arcs are all passed
  pub walk-on : (u i : ℕ) (cursors : List ℕ) → length (out u) ≤ i → Cursors n out off src u i cursors
      → Cursors n out off src (u + 1) 0 cursors
  walk-on u i cursors h k =
      record { room = k.room; from = k.from; upto = k.upto; exact = λ w l v. k.exact w l v ∙ passed_on out u i v w h; rises = k.rises }

  -- u's arc i, to w
  module _ (u i : ℕ) (lu : u < n) (li : i < length (out u)) (cursors : List ℕ) (k : Cursors n out off src u i cursors) where
    abbrev w : ℕ
    w = get_or (out u) i 0

    abbrev c : ℕ
    c = get_or cursors w 0

    here : mem w (out u) ≡ true
    here = mem_index w (out u) i li refl

    lw : w < n
    lw = out_below u w lu here

    unpassed : mem w (take i (out u)) ≡ false
    unpassed = mem-new (out u) i (out-rises u lu) li

    -- it stands at its target's cursor
    pub walk_more : c < length src → get_or src c 0 ≡ u → Cursors n out off src u (i + 1) (set cursors w (c + 1))
    walk_more lc next =
        record {
          room = rw (length-set cursors w (c + 1)) k.room;
          from = moves (λ x y. start off x ≤ y) (let a = k.from w lw in omega arith) (λ x l f. k.from x l);
          upto = moves (λ x y. y ≤ length src) (omega arith) (λ x l f. k.upto x l);
          exact = moves (λ x y. (v : ℕ) → mem v (stretch src (start off x) y) ≡ passed out u (i + 1) v x) here-exact other-exact;
          rises = moves (λ x y. rising (stretch src (start off x) y) ≡ true)
              (rw moved (rising-last u (stretch src (start off w) c) (k.rises w lw)
              (λ v h. passed-less out u i v w (sym (k.exact w lw v) ∙ h) unpassed))) (λ x l f. k.rises x l);
        }
      where
        -- what holds of w at its new cursor, and of the others at theirs
        moves : (P : ℕ → ℕ → Type 0) → P w (c + 1) → ((x : ℕ) → x < n → (x ≡ w → ⊥) → P x (get_or cursors x 0)) → (x : ℕ) → x < n
            → P x (get_or (set cursors w (c + 1)) x 0)
        moves P a b x l =
            elim (ℕ_discrete x w) as (λ _. P x (get_or (set cursors w (c + 1)) x 0)) [
              | yes q ↦ rw (q, get_or-set_same cursors w (c + 1) 0 (let r = k.room in let g = lw in omega arith)) a
              | no f ↦ rw (get_or-set_other cursors w x (c + 1) 0 f) (b x l f)
            ]

        more : take (i + 1) (out u) ≡ take i (out u) ++ (w ∷ [])
        more = rw add-one (take-suc (out u) i 0 li)

        moved : stretch src (start off w) (c + 1) ≡ stretch src (start off w) c ++ (u ∷ [])
        moved = stretch-more src (start off w) c (k.from w lw) lc ∙ ap (λ (x : ℕ). stretch src (start off w) c ++ (x ∷ [])) next

        here-exact : (v : ℕ) → mem v (stretch src (start off w) (c + 1)) ≡ passed out u (i + 1) v w
        here-exact v =
            elim (ℕ_discrete v u) as (λ _. mem v (stretch src (start off w) (c + 1)) ≡ passed out u (i + 1) v w) [
              | yes e ↦ rw (e, passed-self out u (i + 1) w, moved, more)
                  (mem-last u (stretch src (start off w) c) ∙ sym (mem-last w (take i (out u))))
              | no d ↦
                  rw moved
                  (mem-before v u (stretch src (start off w) c) d ∙ k.exact w lw v ∙ passed-other out u i v w d
                  ∙ sym (passed-other out u (i + 1) v w d))
            ]

        other-exact : (x : ℕ) → x < n → (x ≡ w → ⊥) → (v : ℕ)
            → mem v (stretch src (start off x) (get_or cursors x 0)) ≡ passed out u (i + 1) v x
        other-exact x l f v =
            k.exact x l v
            ∙ elim (ℕ_discrete v u) as (λ _. passed out u i v x ≡ passed out u (i + 1) v x) [
              | yes e ↦ rw (e, passed-self out u i x, passed-self out u (i + 1) x, more) (sym (mem-before x w (take i (out u)) f))
              | no d ↦ passed-other out u i v x d ∙ sym (passed-other out u (i + 1) v x d)
            ]

    -- where the arcs are each other's reversed, u stands in w's part at the cursor: not before it, since its arc to w is not passed yet,
    -- nor behind it, since what is next is above all whose arcs are passed
    pub cursor-at : both_ways n out (part_of n off src) ≡ true → (a : ℕ) → start off w ≤ a → a < end off w → get_or src a 0 ≡ u → a ≡ c
    cursor-at h a g l y =
        elim (dec_lt a c) as (λ _. a ≡ c) [
          | yes x ↦
              let z : mem (get_or src a 0) (stretch src (start off w) c) ≡ true = stretch-mem src (start off w) c a g x (k.upto w lw) in
              clash (rw y at z) (k.exact w lw u ∙ passed-self out u i w ∙ unpassed)
          | no x ↦
              elim (ℕ_discrete c a) as (λ _. a ≡ c) [
                | yes q ↦ sym q
                | no d ↦
                    let f = end_low w lw in
                    let b = k.from w lw in
                    let lc : c < end off w = omega arith in
                    let p = stretch-place src (start off w) (end off w) c b lc in
                    let q = stretch-place src (start off w) (end off w) a g l in
                    let z = rising-lt (stretch src (start off w) (end off w)) (into-rises w lw) (c - start off w) (a - start off w)
                    (omega arith) (inside src (start off w) (end off w) a g l f) in
                    let o = mirrored-at n (part_of n off src) out
                    (and_second (mirrored n out (part_of n off src)) (mirrored n (part_of n off src) out) h) w (get_or src c 0) lw
                    (rw (into-is w lw) (stretch-mem src (start off w) (end off w) c b lc f)) in
                    clash (k.exact w lw (get_or src c 0) ∙ passed-of out u i (get_or src c 0) w (omega arith) o)
                    (stretch-new src (start off w) (end off w) c b lc f (into-rises w lw))
              ]
        ]

    -- it does not stand there: the arcs are not each other's reversed
    walk-breaks : (c < length src → get_or src c 0 ≡ u → ⊥) → both_ways n out (part_of n off src) ≡ false
    walk-breaks no-next =
        false_of (both_ways n out (part_of n off src))
        (λ h. clash (rw (into-is w lw) at (back h)) (mem-none u (stretch src (start off w) (end off w)) (stands h)))
      where
        back : both_ways n out (part_of n off src) ≡ true → mem u (part_of n off src w) ≡ true
        back h = mirrored-at n out (part_of n off src)
            (and_first (mirrored n out (part_of n off src)) (mirrored n (part_of n off src) out) h)
            u w lu here

        stands : both_ways n out (part_of n off src) ≡ true → (j : ℕ) → j < length (stretch src (start off w) (end off w))
            → get_or (stretch src (start off w) (end off w)) j 0 ≡ u → ⊥
        stands h j g e =
            let f = end_low w lw in
            let lj : start off w + j < end off w =
            (let x = stretch-length src (start off w) (end off w) (side.grows w lw) f in omega arith) in
            let y : get_or src (start off w + j) 0 ≡ u = sym (stretch-at src (start off w) (end off w) j lj) ∙ e in
            let q = cursor-at h (start off w + j) (omega arith) lj y in
            no-next (omega arith) (ap (λ (x : ℕ). get_or src x 0) (sym q) ∙ y)

  -- the walk is over: the arcs are each other's reversed exactly where every cursor stands at the end of its part
  walk_end : (cursors : List ℕ) → Cursors n out off src n 0 cursors → at_ends n off cursors ≡ both_ways n out (part_of n off src)
  walk_end cursors k = same_test (at_ends n off cursors) (both_ways n out (part_of n off src)) both ends
    where
      both : at_ends n off cursors ≡ true → both_ways n out (part_of n off src) ≡ true
      both h = and_both (mirrored-of n out (part_of n off src) (λ u w l m. told w u (out_below u w l m) ∙ and_both (lt-ltb u n l) m))
          (mirrored-of n (part_of n off src) out (λ w v l m. and_second (ltb v n) (mem w (out v)) (sym (told w v l) ∙ m)))
        where
          told : (w v : ℕ) → w < n → mem v (part_of n off src w) ≡ (ltb v n && mem w (out v))
          told w v l =
              let e = eqb-true (get_or cursors w 0) (end off w) (every-at (λ w. eqb (get_or cursors w 0) (get_or off (w + 1) 0)) n w l h) in
              rw (into-is w l, ← e) (k.exact w l v ∙ passed-below out n v w)

      ends : both_ways n out (part_of n off src) ≡ true → at_ends n off cursors ≡ true
      ends h = every_of (λ w. eqb (get_or cursors w 0) (get_or off (w + 1) 0)) n (λ w l.
          eq-eqb (get_or cursors w 0) (end off w)
          (elim (dec_lt (get_or cursors w 0) (end off w)) as (λ _. get_or cursors w 0 ≡ end off w) [
            | yes g ↦ early w l g
            | no g ↦ elim (dec_lt (end off w) (get_or cursors w 0)) as (λ _. get_or cursors w 0
                ≡ end off w) [ yes f ↦ late w l f | no f ↦ omega arith ]
          ]))
        where
          -- the source at a cursor that is before its part's end is one whose arc is passed
          early : (w : ℕ) → w < n → get_or cursors w 0 < end off w → get_or cursors w 0 ≡ end off w
          early w l g =
              let m : mem (get_or src (get_or cursors w 0) 0) (part_of n off src w)
              ≡ true = rw (into-is w l) (stretch-mem src (start off w) (end off w) (get_or cursors w 0) (k.from w l) g (end_low w l)) in
              let o = mirrored-at n (part_of n off src) out
              (and_second (mirrored n out (part_of n off src)) (mirrored n (part_of n off src) out) h) w (get_or src (get_or cursors w 0) 0)
              l
              m in
              clash (k.exact w l (get_or src (get_or cursors w 0) 0)
              ∙ passed-of out n 0 (get_or src (get_or cursors w 0) 0) w (into-below w l (get_or src (get_or cursors w 0) 0) m) o)
              (stretch-new src (start off w) (end off w) (get_or cursors w 0) (k.from w l) g (end_low w l) (into-rises w l))

          -- the first source behind the part's end, of a cursor that passed it, is one of the part's
          late : (w : ℕ) → w < n → end off w < get_or cursors w 0 → get_or cursors w 0 ≡ end off w
          late w l g =
              let p = sym (passed-below out n (get_or src (end off w) 0) w) ∙ sym (k.exact w l (get_or src (end off w) 0))
              ∙ stretch-mem src (start off w) (get_or cursors w 0) (end off w) (side.grows w l) g (k.upto w l) in
              let m = mirrored-at n out (part_of n off src)
              (and_first (mirrored n out (part_of n off src)) (mirrored n (part_of n off src) out) h) (get_or src (end off w) 0) w
              (ltb-true (get_or src (end off w) 0) n
              (and_first (ltb (get_or src (end off w) 0) n) (mem w (out (get_or src (end off w) 0))) p))
              (and_second (ltb (get_or src (end off w) 0) n) (mem w (out (get_or src (end off w) 0))) p) in
              clash (rw (into-is w l) at m) (stretch-new src (start off w) (get_or cursors w 0) (end off w) (side.grows w l) g (k.upto w l)
              (k.rises w l))

-- ---- the walk as the code makes it
module _ (src : List ℕ) (u : ℕ) (l : List ℕ) (i : ℕ) (cursors : List ℕ) where
  arcs-walked-end : length l ≤ i → arcs_walked src u (drop i l) cursors ≡ arcs_checked true cursors
  unfolding arcs_walked
  arcs-walked-end h = rw (drop_of_length-le l {i = i} h)

  module _ (h : i < length l) where
    arcs-walked-on : is_next src u cursors (get_or l i 0) ≡ true
        → arcs_walked src u (drop i l) cursors ≡ arcs_walked src u (drop (i + 1) l)
        (set cursors (get_or l i 0) (get_or cursors (get_or l i 0) 0 + 1))
    unfolding arcs_walked
    arcs-walked-on e = rw (drop-cons l i 0 h, arcs_walked, e, add-one i)

    arcs-walked-off : is_next src u cursors (get_or l i 0) ≡ false → arcs_walked src u (drop i l) cursors ≡ arcs_checked false cursors
    unfolding arcs_walked
    arcs-walked-off e = rw (drop-cons l i 0 h, arcs_walked, e)

    -- at u's arc i, by the code's tests
    module _ (whole : ArcsChecked) (k : arcs_walked src u (drop i l) cursors ≡ whole) where
      pub step-far : length src ≤ get_or cursors (get_or l i 0) 0 → arcs_checked false cursors ≡ whole
      step-far a = sym (arcs-walked-off (rw (le-ltb (get_or cursors (get_or l i 0) 0) (length src) a))) ∙ k

      pub step-differs : (get_or src (get_or cursors (get_or l i 0) 0) 0 ≡ u → ⊥) → arcs_checked false cursors ≡ whole
      step-differs d =
          sym (arcs-walked-off (and-off (ltb (get_or cursors (get_or l i 0) 0) (length src))
          (eqb (get_or src (get_or cursors (get_or l i 0) 0) 0) u)
          (ne_eqb (get_or src (get_or cursors (get_or l i 0) 0) 0) u d))) ∙ k

      pub step-more : get_or cursors (get_or l i 0) 0 < length src → get_or src (get_or cursors (get_or l i 0) 0) 0 ≡ u
          → arcs_walked src u (drop (i + 1) l) (set cursors (get_or l i 0) (get_or cursors (get_or l i 0) 0 + 1)) ≡ whole
      step-more a b =
          sym (arcs-walked-on (and_both (lt-ltb (get_or cursors (get_or l i 0) 0) (length src) a)
          (eq-eqb (get_or src (get_or cursors (get_or l i 0) 0) 0) u b))) ∙ k

  pub step_end : (whole : ArcsChecked) → arcs_walked src u (drop i l) cursors ≡ whole → length l ≤ i → arcs_checked true cursors ≡ whole
  step_end whole k h = sym (arcs-walked-end h) ∙ k

-- ---- the arcs of every vertex
module _ (src : List ℕ) (out : ℕ → List ℕ) (cursors : List ℕ) where
  all-walked-on : (u : ℕ) → (all_walked src out u cursors).sound ≡ true
      → all_walked src out (suc u) cursors ≡ arcs_walked src u (out u) (all_walked src out u cursors).cursors
  unfolding all_walked
  all-walked-on u h = rw h

  all-walked-off : (u : ℕ) → (all_walked src out u cursors).sound ≡ false → all_walked src out (suc u) cursors
      ≡ all_walked src out u cursors
  unfolding all_walked
  all-walked-off u h = rw h

  pub all-walked-none : all_walked src out 0 cursors ≡ arcs_checked true cursors
  unfolding all_walked
  all-walked-none = refl

  -- where it broke off, it stays
  broken : (u k : ℕ) → (all_walked src out u cursors).sound ≡ false → all_walked src out (u + k) cursors ≡ all_walked src out u cursors
  broken u zero h = ap (λ (j : ℕ). all_walked src out j cursors) (add-zero u)
  broken u (suc k) h =
      let e = broken u k h in
      ap (λ (j : ℕ). all_walked src out j cursors) (add-suc u k) ∙ all-walked-off (u + k) (ap (λ (x : ArcsChecked). x.sound) e ∙ h) ∙ e

  -- l is u's part
  module _ (u : ℕ) (here : List ℕ) (k : all_walked src out u cursors ≡ arcs_checked true here) (l : List ℕ) (q : l ≡ out u) (t : Bool)
      (after : List ℕ)
      (e : arcs_checked t after ≡ arcs_walked src u l here) where
    arcs-walked-to : all_walked src out (u + 1) cursors ≡ arcs_checked t after
    arcs-walked-to =
        rw add-one (all-walked-on u (ap (λ (x : ArcsChecked). x.sound) k)
        ∙ ap₂ (λ (p : List ℕ) (x : ArcsChecked). arcs_walked src u p x.cursors) (sym q) k ∙ sym e)

    pub all-walked-more : t ≡ true → all_walked src out (u + 1) cursors ≡ arcs_checked true after
    all-walked-more h = arcs-walked-to ∙ ap (λ (s : Bool). arcs_checked s after) h

    pub all-walked-stop : (n : ℕ) → u < n → t ≡ false → arcs_checked false after ≡ all_walked src out n cursors
    all-walked-stop n g h =
        let s = arcs-walked-to ∙ ap (λ (s : Bool). arcs_checked s after) h in
        let z : (u + 1) + (n - (u + 1)) ≡ n = omega arith in
        sym (ap (λ (j : ℕ). all_walked src out j cursors) (sym z) ∙ broken (u + 1) (n - (u + 1)) (ap (λ (x : ArcsChecked). x.sound) s) ∙ s)

  pub all-walked-end : (u n : ℕ) (here : List ℕ) → n ≤ u → u ≤ n → all_walked src out u cursors ≡ arcs_checked true here
      → arcs_checked true here ≡ all_walked src out n cursors
  all-walked-end u n here a b k = let e : u ≡ n = omega arith in sym k ∙ ap (λ (j : ℕ). all_walked src out j cursors) e

-- a target has a cursor
pub target-low : (d cursors l : List ℕ) (i : ℕ) → all_below (length d) l ≡ true → length cursors ≡ length d → i < length l
    → get_or l i 0 < length cursors
target-low d cursors l i h e g = let x = below_at (length d) l h i g in omega arith

-- all of them have; l is u's part
pub targets-low : (n : ℕ) (off tgt : List ℕ) (u : ℕ) (l d cursors : List ℕ) → sound_parts n off tgt ≡ true → u < n → l ≡ part_of n off tgt u
    → n ≤ length d → length cursors ≡ length d → all_below (length cursors) l ≡ true
targets-low n off tgt u l d cursors s h q r e =
    below_of (length cursors) l
    (λ i g. let o : each (other n u) l ≡ true = rw q
    (part-others n u (part_of n off tgt u) (every-at (λ v. sound_part n v (part_of n off tgt v)) n u h s)) in
    let x = other-below n u (get_or l i 0) (each_at (other n u) 0 l o i g) in omega arith)

-- ---- what the walk says
module _ {n : ℕ} {out : ℕ → List ℕ} {off src : List ℕ} (s : Ways n out off src) where
  told-step : (u : ℕ) → u < n → (left i : ℕ) → i + left ≡ length (out u) → (cursors : List ℕ) → Cursors n out off src u i cursors
      → Told n out off src (u + 1) (arcs_walked src u (drop i (out u)) cursors)
  told-step u lu zero i e cursors k =
      rw (arcs-walked-end src u (out u) i cursors (omega arith))
      (record { came = λ _. walk-on s u i cursors (omega arith) k; broke = λ h. clash refl h })
  told-step u lu (suc left) i e cursors k =
      let li : i < length (out u) = omega arith in
      let w = get_or (out u) i 0 in
      bool_cases (is_next src u cursors (get_or (out u) i 0)) (Told n out off src (u + 1) (arcs_walked src u (drop i (out u)) cursors))
      (λ h. rw (arcs-walked-on src u (out u) i cursors li h)
      (told-step u lu left (i + 1) (omega arith) (set cursors w (get_or cursors w 0 + 1))
      (walk_more s u i lu li cursors k (ltb-true (get_or cursors w 0) (length src)
      (and_first (ltb (get_or cursors w 0) (length src)) (eqb (get_or src (get_or cursors w 0) 0) u) h))
      (eqb-true (get_or src (get_or cursors w 0) 0) u
      (and_second (ltb (get_or cursors w 0) (length src)) (eqb (get_or src (get_or cursors w 0) 0) u)
      h)))))
      (λ h. rw (arcs-walked-off src u (out u) i cursors li h) (record {
        came = λ f. clash f refl;
        broke = λ _. walk-breaks s u i lu li cursors k
            (λ a b. clash (and_both (lt-ltb (get_or cursors w 0) (length src) a) (eq-eqb (get_or src (get_or cursors w 0) 0) u b)) h);
      }))

  told-walk : (cursors : List ℕ) → Cursors n out off src 0 0 cursors → (u : ℕ) → u ≤ n → Told n out off src u (all_walked src out u cursors)
  told-walk cursors k zero h = rw (all-walked-none src out cursors) (record { came = λ _. k; broke = λ h. clash refl h })
  told-walk cursors k (suc u) h =
      let b = told-walk cursors k u (omega arith) in
      bool_cases (all_walked src out u cursors).sound (Told n out off src (suc u) (all_walked src out (suc u) cursors))
      (λ t. rw (all-walked-on src out cursors u t, ← add-one u)
      (told-step u (omega arith) (length (out u)) 0 (omega arith) (all_walked src out u cursors).cursors (b.came t)))
      (λ f. rw (all-walked-off src out cursors u f) (record { came = λ t. clash t f; broke = λ _. b.broke f }))

module _ {n : ℕ} {out : ℕ → List ℕ} {off src : List ℕ} (s : Ways n out off src) where
  pub ways-room : n < length off
  ways-room = (side s).offsets_room

  -- d is what stood in the area, b and a stand there before and after the walk
  module _ (d b : List ℕ) (room : n ≤ length d) (q : b ≡ copied n off d) (t : Bool) (a : List ℕ)
      (e : arcs_checked t a ≡ all_walked src out n b) where
    told : Told n out off src n (arcs_checked t a)
    told =
        rw e (told-walk s b (walk_none s b (let x = ap length q ∙ copied-length n off d in omega arith)
        (λ w l. ap (λ (x : List ℕ). get_or x w 0) q ∙ copied_at n off d w 0 l (let x = ways-room in omega arith) room)) n (omega arith))

    pub ways-stop : t ≡ false → false ≡ both_ways n out (part_of n off src)
    ways-stop h = sym (told.broke h)

    pub ways-told : t ≡ true → (r : Bool) → r ≡ at_ends n off a → r ≡ both_ways n out (part_of n off src)
    ways-told h r f = f ∙ walk_end s a (told.came h)

-- ---- the answer and the area
pub checks : {r s : Bool} {a : List ℕ} (b : List ℕ) → r ≡ s → a ≡ cleared b → arcs_checked r a ≡ arcs_checked s (cleared b)
checks b p q = ap₂ arcs_checked p q

pub checks-late : {r s : Bool} {a : List ℕ} (b c : List ℕ) → r ≡ s → length c ≡ length b → a ≡ cleared c
    → arcs_checked r a ≡ arcs_checked s (cleared b)
checks-late b c p h q = ap₂ arcs_checked p (q ∙ ap (λ (k : ℕ). replicate k 0) h)

-- ---- for callers: what the check says of the graph, and of the area that it was lent
pub check-told : {s t : Bool} {a b : List ℕ} → arcs_checked s a ≡ arcs_checked t b → s ≡ t
check-told e = ap (λ (x : ArcsChecked). x.sound) e

pub check-area : {s t : Bool} {a b : List ℕ} → arcs_checked s a ≡ arcs_checked t b → a ≡ b
check-area e = ap (λ (x : ArcsChecked). x.cursors) e
