-- The verdict on coefficients, from LCC's promise. Assumes nothing.
use Rattle.std.specs.Prelude.{Option}
use mathlib.Core.Path.{◌≡◌, refl, sym, ap, ap₂, ◌∙◌, subst}
use mathlib.Core.Bool.{Bool, true, cond}
use mathlib.Core.List.{List, [], ◌∷◌}
use Prim.Native.Nat.{ℕ, suc, ◌+◌, ◌^◌, ◌≤◌, ◌<◌}
use native.Mathlib.Omega.{arith}
use lib.Dec.{leb}
use lib.IntN.{ℤ}
use lib.ListN.{length, get_or, take}
use lib.Seq.{get_or-take}
use borrow.Author.Tests.{le-leb, leb-true, lt-ltb}
use Rattle.basis.specs.Refusal.{Said, gives, refuses, no_room, check}
use Rattle.basis.specs.Area.{column, cleared, leaves}
use Rattle.basis.proofs.Tests.{and_first, and_second, and_both}
use Rattle.basis.proofs.Areas.{column-at, column-is, column-length}
use Rattle.graph.specs.Find.{place_in, bisected}
use Rattle.graph.specs.Sound.{Graph, outward, inward, names, sound_graph}
use Rattle.graph.proofs.Sounds.{sound-of}
use Rattle.kernels.specs.Answer.{kernel_says}
use Rattle.lcc.specs.Lcc.{numerator, denominator, numerators, denominators}
use Rattle.lcc.specs.Call as lcc
use Rattle.lcc.proofs.Meaning.{coefficient-meaning}
use Rattle.text.specs.declared.decimal.Decimal.{Decimal}
use Rattle.matching.specs.Claim.{coefficient_lines, ids_of}
use Rattle.matching.specs.Cover.{incomplete_line, in_order, reported_line}
use Rattle.matching.specs.Verdict.{Verdict, Fraction, first_place, near, far_vertex, verdict_of, judged_by}
use Rattle.matching.specs.Calls.{near_within, far_within, fraction_in, fractions, no_decimal}
use Rattle.matching.proofs.Covers.{same-places}
use Rattle.verdicts.specs.Reference.{coefficient_at, coefficients, lcc_reference}
use Rattle.verdicts.specs.Call.{verdict_says}
use Rattle.verdicts.specs.Steps.{Known, Roomy, Terms, terms_says, terms_on, terms_verdict}
use Rattle.verdicts.proofs.Settling.{all-terms}
use Rattle.verdicts.proofs.Running.{Ran, ran-fine, ran-known, ran-roomy, ran-front, ran-leaves, then_same, says-rooms}

-- ---- two tests that agree on one list's members find the same place
first-same : {A B : Type 0} (p q : A → B → Bool) (z : A) (k : ℕ) (xs : List A) (ys : List B)
    → ((i : ℕ) → i < length xs → (y : B) → p (get_or xs i z) y ≡ q (get_or xs i z) y) → first_place p k xs ys ≡ first_place q k xs ys
unfolding first_place
first-same p q z k [] [] h = refl
first-same p q z k [] (y ∷ ys) h = refl
first-same p q z k (x ∷ xs) [] h = refl
first-same p q z k (x ∷ xs) (y ∷ ys) h =
    ap₂ (λ (t : Bool) (l : ℕ). cond t l k) (h 0 (omega arith) y) (first-same p q z (k + 1) xs ys (λ i l. h (suc i) (omega arith)))

judged-same : {A : Type 0} (place : ℤ → Option ℕ) (n : ℕ) (z : A) (f g : List A → ℕ) (x : Said (List (ℤ × A))) → ((l : List A) → f l ≡ g l)
    → judged_by place n z f x ≡ judged_by place n z g x
unfolding judged_by
judged-same place n z f g (gives l) h =
    ap (λ (m : ℕ). gives (verdict_of (incomplete_line place n (ids_of l)) (reported_line place (ids_of l) m))) (h (in_order place z n l))
judged-same place n z f g (refuses r) h = refl

-- ---- a sound graph's coefficients have terms of 32 bits
module _ (g : Graph) (sound : sound_graph g ≡ true) where
  near-coefficient : (v : ℕ) → v < g.vertices → (s : Decimal) → near_within (coefficient_at g v) s ≡ near (coefficient_at g v) s
  unfolding near_within numerator denominator
  near-coefficient v l s =
      let m = coefficient-meaning g sound v l in
      rw (lt-ltb (coefficient_at g v).0 (2 ^ 32) (omega (arith, m.within, m.small)), lt-ltb (coefficient_at g v).1 (2 ^ 32) m.small)

  far-coefficients : (l : List Decimal) → far_within (coefficients g) l ≡ far_vertex (coefficients g) l
  far-coefficients l =
      first-same near_within near (0, 0) 1 (coefficients g) l
      (λ i h s.
      let k : i < g.vertices = subst (λ (j : ℕ). i < j) (column-length (coefficient_at g) 0 g.vertices) h in
      rw (column-at (coefficient_at g) g.vertices i (0, 0) k) (near-coefficient i k s))

-- the fractions that stand in two areas with the coefficients at their front
fractions-are : (g : Graph) (F S : List ℕ) → take g.vertices F ≡ numerators g → take g.vertices S ≡ denominators g
    → fractions g.vertices F S ≡ coefficients g
fractions-are g F S p q =
    column-is (fraction_in F S) (0, 0) (coefficients g) g.vertices (column-length (coefficient_at g) 0 g.vertices)
    (λ i h. column-at (coefficient_at g) g.vertices i (0, 0) h
    ∙ ap₂ (λ (a b : ℕ). (a, b))
    (sym (column-at (numerator g.vertices (outward g) (inward g)) g.vertices i 0 h) ∙ ap (λ l. get_or l i 0) (sym p)
    ∙ get_or-take g.vertices F i 0 h)
    (sym (column-at (denominator g.vertices (outward g) (inward g)) g.vertices i 0 h) ∙ ap (λ l. get_or l i 0) (sym q)
    ∙ get_or-take g.vertices S i 0 h))

-- ---- LCC
module _ (g : Graph) (F S W : List ℕ) {a : Said (Unit {0})} {F' S' W' : List ℕ} (e : lcc.outcome a F' S' W' ≡ lcc.lcc_call g F S W) where
  -- in one of the two result areas
  abbrev RanIn : (ℕ → ℕ) → List ℕ → List ℕ → Type 0
  RanIn f l l' =
      Ran 0 true 0 (column f 0 g.vertices) g.vertices (length g.ids) (sound_graph g) (lcc.room_for g.vertices F S W) (length l) a
      l'

  ran-in : (f : ℕ → ℕ) (l l' : List ℕ) → l' ≡ leaves (kernel_says (sound_graph g) true 0 (lcc.room_for g.vertices F S W)) 0 (length l)
      (column f 0 g.vertices)
      → (lcc.room_for g.vertices F S W ≡ true → g.vertices ≤ length l) → RanIn f l l'
  unfolding lcc.lcc_call lcc.left_by
  ran-in f l l' p o =
      let q = ap (λ (o : lcc.Outcome). o.said) e in
      record {
        said = q;
        leaving = p ∙ rw q;
        whole = λ s t. column-length f 0 g.vertices;
        known = λ s. (sound-of g s).ids_room;
        own_room = o;
      }

  upper-ran : RanIn (numerator g.vertices (outward g) (inward g)) F F'
  unfolding lcc.lcc_call lcc.left_by lcc.room_for
  upper-ran =
      ran-in _ F F' (ap (λ (o : lcc.Outcome). o.numerators) e)
      (λ o. leb-true g.vertices (length F) (and_first (leb g.vertices (length F)) (leb g.vertices (length S))
      (and_first _ (leb g.vertices (length W)) o)))

  lower-ran : RanIn (denominator g.vertices (outward g) (inward g)) S S'
  unfolding lcc.lcc_call lcc.left_by lcc.room_for
  lower-ran =
      ran-in _ S S' (ap (λ (o : lcc.Outcome). o.denominators) e)
      (λ o. leb-true g.vertices (length S) (and_second (leb g.vertices (length F)) (leb g.vertices (length S))
      (and_first _ (leb g.vertices (length W)) o)))

  pub lcc-known : Known a g.vertices (length g.ids)
  lcc-known = ran-known upper-ran

  pub lcc-roomy : {room : Bool} → Roomy room g.vertices (length F) × Roomy room g.vertices (length S)
      → Roomy room g.vertices (length F') × Roomy room g.vertices (length S')
  lcc-roomy f = (ran-roomy upper-ran f.0, ran-roomy lower-ran f.1)

  pub lcc-cleared : W' ≡ cleared W
  unfolding lcc.lcc_call lcc.left_by
  lcc-cleared = ap (λ (o : lcc.Outcome). o.work) e

  module _ {room : Bool} (f : Roomy room g.vertices (length F)) (h : Roomy room g.vertices (length S))
      (i : Roomy room g.vertices (length W)) (most : ℕ) (s : List ℕ) (L : List ℕ) where
    says_same : terms_says a room most g.vertices g.ids s F' S' ≡ verdict_says (lcc_reference most g s) (sound_graph g) room
    unfolding terms_says verdict_says lcc.room_for
    says_same =
        then_same a
        (λ d. ap (λ (x : Said Verdict). check room no_room x)
        (ap₂ (λ (l : List Fraction) (f : ℤ → Option ℕ). judged_by f (length (names g)) no_decimal (far_within l) (coefficient_lines most s))
        (fractions-are g F' S' (ran-front upper-ran d) (ran-front lower-ran d))
        (same-places (names g) (sound-of g (ran-fine upper-ran d).is_sound).ids_rise)
        ∙ judged-same (place_in (names g)) (length (names g)) no_decimal (far_within (coefficients g)) (far_vertex (coefficients g))
        (coefficient_lines most s) (far-coefficients g (ran-fine upper-ran d).is_sound)))
        ∙ rw upper-ran.said
        (says-rooms (sound_graph g) true 0 (lcc.room_for g.vertices F S W) room (lcc_reference most g s).judged
        (λ t. and_both (and_both (le-leb g.vertices (length F) (f t)) (le-leb g.vertices (length S) (h t)))
        (le-leb g.vertices (length W) (i t))))

    pub lcc-verdict : {x : Terms} → x ≡ terms_on a room most g.vertices g.ids s F' S' L
        → x ≡ terms_verdict (lcc_reference most g s) (sound_graph g) room F S L
    unfolding terms_on terms_verdict terms_says
    lcc-verdict p =
        let x = check room no_room (judged_by (bisected (names g)) (length (names g)) no_decimal (far_within (fractions g.vertices F' S'))
        (coefficient_lines most s)) in
        p ∙ all-terms says_same (ran-leaves upper-ran x says_same) (ran-leaves lower-ran x says_same) refl
