-- Laws of the steps of the soundness check: one for each answer that a step gives, by the tests that the code makes. Assumes nothing.
use Prim.Native.Nat.{ℕ, ◌+◌, ◌≤◌, ◌<◌}
use mathlib.Core.Path.{◌≡◌, refl, sym, ap, ◌∙◌}
use mathlib.Core.Bool.{Bool, true, false, ◌&&◌}
use mathlib.Core.List.{List, [], ◌∷◌}
use native.Mathlib.Omega.{arith}
use native.Mathlib.Numerals.{add-one}
use native.Mathlib.Decide.{dec_lt}
use lib.IntN.{ℤ}
use lib.ListN.{length, get_or, drop, drop_of_length-le}
use lib.Seq.{drop-cons}
use lib.Dec.{leb, ltb}
use borrow.Author.Tests.{lt-ltb, le-ltb, le-leb, lt-leb, eq-eqb, ne_eqb, leb-true, ltb-true}
use Rattle.basis.specs.Limits.{most_vertices, most_arcs}
use Rattle.basis.specs.Order.{above_by, rising}
use Rattle.basis.specs.Scan.{every, each, mem}
use Rattle.basis.proofs.Tests.{same_test, and_first, and_second, and-off}
use Rattle.basis.proofs.Scans.{every-at, mem_index, mem-none}
use Rattle.basis.proofs.Orders.{number-order}
use Rattle.graph.specs.declared.Size.{Size}
use Rattle.std.specs.Prelude.{Option, Some, None, is_some}
use Rattle.graph.specs.Part.{part_of}
use Rattle.graph.specs.Find.{bisect_by}
use Rattle.graph.specs.Sound.{Graph, outward, inward, lent, first_ids_rise, sound_ids, other, never_fall, sound_offsets}
use Rattle.graph.specs.Sound.{sound_part, sound_parts, sound_side, mirrored, both_ways, sound_sides, sound_graph}
use Rattle.graph.specs.Steps.{answered}
use Rattle.graph.specs.Walk.{Ways}
use Rattle.graph.proofs.Parts.{part-far}
use Rattle.graph.proofs.Sounds.{part-rises}
use Rattle.graph.proofs.Finds.{Right, bisect-finds, below_n, bisect-numbers}

-- the list rises, from a least number on
abbrev starts_at : ℕ → List ℕ → Bool
starts_at least [] = true
starts_at least (x ∷ l) = leb least x && above_by ltb x l

-- ---- a part, in one pass: what is left of it rises from a least number on and names others
abbrev pub fitting : ℕ → ℕ → ℕ → List ℕ → Bool
fitting n v least [] = true
fitting n v least (x ∷ l) = leb least x && other n v x && fitting n v (x + 1) l

next-above : (x : ℕ) (l : List ℕ) → starts_at (x + 1) l ≡ above_by ltb x l
next-above x [] = refl
next-above x (y ∷ l) =
    ap (λ (t : Bool). t && above_by ltb y l)
    (same_test (leb (x + 1) y) (ltb x y) (λ h. lt-ltb x y (let e = leb-true (x + 1) y h in omega arith))
    (λ h. le-leb (x + 1) y (let e = ltb-true x y h in omega arith)))

and-cross : (a b c d : Bool) → ((a && b) && (c && d)) ≡ ((a && c) && (b && d))
and-cross true true c d = refl
and-cross true false true d = refl
and-cross true false false d = refl
and-cross false b c d = refl

fitting-is : (n v least : ℕ) (l : List ℕ) → fitting n v least l ≡ (starts_at least l && each (other n v) l)
unfolding each
fitting-is n v least [] = refl
fitting-is n v least (x ∷ l) =
    ap (λ (t : Bool). (leb least x && other n v x) && t)
    (fitting-is n v (x + 1) l ∙ ap (λ (t : Bool). t && each (other n v) l) (next-above x l))
    ∙ and-cross (leb least x) (other n v x) (above_by ltb x l) (each (other n v) l)

pub part-begin : (n v : ℕ) (l : List ℕ) → fitting n v 0 (drop 0 l) ≡ sound_part n v l
part-begin n v [] = fitting-is n v 0 []
part-begin n v (x ∷ l) = fitting-is n v 0 (x ∷ l) ∙ rw (le-leb 0 x (omega arith))

module _ (n v least : ℕ) (l : List ℕ) (i : ℕ) (g : i < length l) (e : fitting n v least (drop i l) ≡ sound_part n v l) where
  left : (leb least (get_or l i 0) && other n v (get_or l i 0) && fitting n v (get_or l i 0 + 1) (drop (i + 1) l)) ≡ sound_part n v l
  left = ap (fitting n v least) (sym (drop-cons l i 0 g ∙ ap (λ (k : ℕ). get_or l i 0 ∷ drop k l) (sym (add-one i)))) ∙ e

  pub part_low : get_or l i 0 < least → false ≡ sound_part n v l
  part_low h = rw (lt-leb least (get_or l i 0) h) at left

  pub part-wide : n ≤ get_or l i 0 → false ≡ sound_part n v l
  part-wide h = rw (le-ltb (get_or l i 0) n h, and-off (leb least (get_or l i 0)) false refl) at left

  pub part-self : get_or l i 0 ≡ v → false ≡ sound_part n v l
  part-self h = rw (eq-eqb (get_or l i 0) v h, and-off (ltb (get_or l i 0) n) false refl, and-off (leb least (get_or l i 0)) false refl) at
      left

  pub part-more : least ≤ get_or l i 0 → get_or l i 0 < n → (get_or l i 0 ≡ v → ⊥)
      → fitting n v (get_or l i 0 + 1) (drop (i + 1) l) ≡ sound_part n v l
  part-more a b d = rw (le-leb least (get_or l i 0) a, lt-ltb (get_or l i 0) n b, ne_eqb (get_or l i 0) v d) at left

pub part_end : (n v least : ℕ) (l : List ℕ) (i : ℕ) → length l ≤ i → fitting n v least (drop i l) ≡ sound_part n v l → true
    ≡ sound_part n v l
part_end n v least l i h e = rw (drop_of_length-le l h) at e

-- ---- "Offsets begin at 0, never fall and end at the arc count"
module _ (n m : ℕ) (off : List ℕ) where
  pub offsets-begin : (get_or off 0 0 ≡ 0 → ⊥) → false ≡ sound_offsets n m off
  unfolding sound_offsets
  offsets-begin h = rw (ne_eqb (get_or off 0 0) 0 h)

  module _ (h : get_or off 0 0 ≡ 0) where
    pub offsets-end : (get_or off n 0 ≡ m → ⊥) → false ≡ sound_offsets n m off
    unfolding sound_offsets
    offsets-end g = rw (eq-eqb (get_or off 0 0) 0 h, ne_eqb (get_or off n 0) m g)

    pub offsets-rest : get_or off n 0 ≡ m → (t : Bool) → t ≡ never_fall n off → t ≡ sound_offsets n m off
    unfolding sound_offsets
    offsets-rest g t e = rw (eq-eqb (get_or off 0 0) 0 h, eq-eqb (get_or off n 0) m g) e

-- ---- one way of a graph
module _ (n m : ℕ) (off tgt : List ℕ) where
  pub side-offsets : length off ≤ n → false ≡ sound_side n m off tgt
  unfolding sound_side
  side-offsets h = rw (le-ltb n (length off) h)

  module _ (g : n < length off) where
    pub side-targets : length tgt < m → false ≡ sound_side n m off tgt
    unfolding sound_side
    side-targets h = rw (lt-ltb n (length off) g, lt-leb m (length tgt) h)

    module _ (h : m ≤ length tgt) where
      pub side-stop : sound_offsets n m off ≡ false → false ≡ sound_side n m off tgt
      unfolding sound_side
      side-stop k = rw (lt-ltb n (length off) g, le-leb m (length tgt) h, k)

      pub side-rest : sound_offsets n m off ≡ true → (t : Bool) → t ≡ sound_parts n off tgt → t ≡ sound_side n m off tgt
      unfolding sound_side
      side-rest k t e = rw (lt-ltb n (length off) g, le-leb m (length tgt) h, k) e

  side-parts : sound_side n m off tgt ≡ true → sound_parts n off tgt ≡ true
  unfolding sound_side
  side-parts h = and_second ((ltb n (length off) && leb m (length tgt)) && sound_offsets n m off) (sound_parts n off tgt) h

-- ---- "the inward arcs are exactly the outward ones reversed"
-- a part that rises has a member exactly where a bisection finds it
finds-member : (l : List ℕ) (x : ℕ) → rising l ≡ true → is_some (bisect_by ltb 0 l x) ≡ mem x l
finds-member l x r = by (bisect_by ltb 0 l x) (bisect-finds number-order 0 l r x)
  where
    by : (f : Option ℕ) → Right 0 l x f → is_some f ≡ mem x l
    by (Some i) (a, b) = sym (mem_index x l i a b)
    by None h = sym (mem-none x l h)

parts-rise : (n : ℕ) (off tgt : List ℕ) → sound_parts n off tgt ≡ true → (v : ℕ) → rising (part_of n off tgt v) ≡ true
parts-rise n off tgt s v =
    elim (dec_lt v n) as (λ _. rising (part_of n off tgt v) ≡ true) [
      | yes h ↦ part-rises n v (part_of n off tgt v) (every-at (λ v. sound_part n v (part_of n off tgt v)) n v h s)
      | no h ↦ rw (← part-far n off tgt v (omega arith))
    ]

-- u is one of w's part exactly where the bisection of that part ends at a place
pub found_member : (n : ℕ) (off tgt : List ℕ) (u : ℕ) → sound_parts n off tgt ≡ true → (w : ℕ) (l : List ℕ) → l ≡ part_of n off tgt w
    → (r : Option ℕ) → r ≡ bisect_by below_n u l u → is_some r ≡ mem u (part_of n off tgt w)
found_member n off tgt u s w l q r e =
    ap is_some (e ∙ bisect-numbers l u) ∙ finds-member l u (rw q (parts-rise n off tgt s w)) ∙ ap (mem u) q

pub mirrored-is : (n : ℕ) (from' from back' back : List ℕ)
    → every n (λ u. answered n back' back u (part_of n from' from u)) ≡ mirrored n (part_of n from' from) (part_of n back' back)
unfolding mirrored
mirrored-is n from' from back' back = refl

-- ---- the whole graph: a clause that fails, and all of them
graph_is : (g : Graph) → sound_graph g ≡ (sound_sides g && both_ways g.vertices (outward g) (inward g))
unfolding sound_graph
graph_is g = refl

module _ (size : Size) (ids : List ℤ) (oo ot io is : List ℕ) where
  pub sides-vertices : most_vertices < size.vertices → false ≡ sound_sides (lent size ids oo ot io is)
  unfolding sound_sides
  sides-vertices h = rw (lt-leb size.vertices most_vertices h)

  module _ (a : size.vertices ≤ most_vertices) where
    pub sides-arcs : most_arcs < size.arcs → false ≡ sound_sides (lent size ids oo ot io is)
    unfolding sound_sides
    sides-arcs h = rw (le-leb size.vertices most_vertices a, lt-leb size.arcs most_arcs h)

    module _ (b : size.arcs ≤ most_arcs) where
      pub sides-ids : first_ids_rise size.vertices ids ≡ false → false ≡ sound_sides (lent size ids oo ot io is)
      unfolding sound_sides sound_ids
      sides-ids h = rw (le-leb size.vertices most_vertices a, le-leb size.arcs most_arcs b, h)

      module _ (i : first_ids_rise size.vertices ids ≡ true) where
        pub sides-out : sound_side size.vertices size.arcs oo ot ≡ false → false ≡ sound_sides (lent size ids oo ot io is)
        unfolding sound_sides sound_ids
        sides-out h = rw (le-leb size.vertices most_vertices a, le-leb size.arcs most_arcs b, i, h)

        pub sides-in : sound_side size.vertices size.arcs oo ot ≡ true → (t : Bool) → t ≡ sound_side size.vertices size.arcs io is
            → t ≡ sound_sides (lent size ids oo ot io is)
        unfolding sound_sides sound_ids
        sides-in h t e = rw (le-leb size.vertices most_vertices a, le-leb size.arcs most_arcs b, i, h) e

  pub graph-sides : sound_sides (lent size ids oo ot io is) ≡ false → false ≡ sound_graph (lent size ids oo ot io is)
  graph-sides h = rw (graph_is (lent size ids oo ot io is), h)

  module _ (s : sound_sides (lent size ids oo ot io is) ≡ true) where
    pub graph-back : mirrored size.vertices (part_of size.vertices oo ot) (part_of size.vertices io is) ≡ false
        → false ≡ sound_graph (lent size ids oo ot io is)
    graph-back h = rw (graph_is (lent size ids oo ot io is), s, h)

    pub graph-forth : mirrored size.vertices (part_of size.vertices oo ot) (part_of size.vertices io is) ≡ true
        → (t : Bool) → t ≡ mirrored size.vertices (part_of size.vertices io is) (part_of size.vertices oo ot)
        → t ≡ sound_graph (lent size ids oo ot io is)
    graph-forth h t e = rw (graph_is (lent size ids oo ot io is), s, h) e

    sides-ways : (sound_side size.vertices size.arcs oo ot && sound_side size.vertices size.arcs io is) ≡ true
    sides-ways =
        and_second ((leb size.vertices most_vertices && leb size.arcs most_arcs) && sound_ids (lent size ids oo ot io is))
        (sound_side size.vertices size.arcs oo ot && sound_side size.vertices size.arcs io is) (unfold sound_sides in s)

    pub sides-outward : sound_parts size.vertices oo ot ≡ true
    sides-outward =
        side-parts size.vertices size.arcs oo ot
        (and_first (sound_side size.vertices size.arcs oo ot) (sound_side size.vertices size.arcs io is) sides-ways)

    pub sides-inward : sound_parts size.vertices io is ≡ true
    sides-inward =
        side-parts size.vertices size.arcs io is
        (and_second (sound_side size.vertices size.arcs oo ot) (sound_side size.vertices size.arcs io is) sides-ways)

    pub sides-told : Ways size.vertices (part_of size.vertices oo ot) io is
    sides-told =
        record {
          arcs = size.arcs;
          outward = sides-outward;
          inward = and_second (sound_side size.vertices size.arcs oo ot) (sound_side size.vertices size.arcs io is) sides-ways;
        }

    pub graph-ways : (t : Bool) → t ≡ both_ways size.vertices (part_of size.vertices oo ot) (part_of size.vertices io is)
        → t ≡ sound_graph (lent size ids oo ot io is)
    graph-ways t e = rw (graph_is (lent size ids oo ot io is), s) e
