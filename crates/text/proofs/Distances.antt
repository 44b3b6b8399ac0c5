-- The bytes of a distance: how much of `infinity` stands at the front of a word, and where a word breaks off. Assumes nothing.
use Prim.Native.Nat.{ℕ, suc, ◌≤◌, ◌<◌}
use mathlib.Core.Path.{◌≡◌, refl, sym, ap, ◌∙◌}
use mathlib.Core.List.{List, [], ◌∷◌, ◌++◌}
use mathlib.Core.Bool.{true, false, cond}
use mathlib.Core.Logic.{◌↔◌, ◌⊎◌, inl, inr}
use native.Mathlib.Omega.{arith}
use borrow.Author.Tests.{eq-eqb, eqb-true}
use lib.Dec.{eqb}
use lib.ListN.{length, get_or, take, drop, take-append-drop}
use lib.Seq.{take_all}
use Rattle.basis.specs.Scan.{mem}
use Rattle.basis.proofs.Tests.{clash, no-case, false_of, bool_cases, and_first, and_second, eqb_swap}
use Rattle.text.specs.Bytes.{lf}
use Rattle.text.specs.Word.{Word, malformed, outside, value, well_formed, within}
use Rattle.text.specs.Decimal.{past_point, whole_is_good, parts_of, fraction_of, decimal_of}
use Rattle.text.specs.Stop.{decimal_stop}
use Rattle.text.specs.Line.{up_to}
use Rattle.text.specs.Distance.{infinity_word, infinity_mark, same_bytes, shared_front, finite, distance_of, distance_stop, distance_form}
use Rattle.text.specs.Grammar.{DecimalForm}
use Rattle.text.specs.Column.{Formed, IsDistanceWord, file_end}
use Rattle.text.specs.declared.decimal.Decimal.{Decimal}
use Rattle.text.specs.declared.distance.Distance.TheVariants as D
use Rattle.text.proofs.Bytes.{up_to-stop, up_to-more, not-head, not-tail}
use Rattle.text.proofs.Stops.{stop_le, stop-good}
use Rattle.text.proofs.Goings.{Goes}
use Rattle.text.proofs.Grammars.{form_of, decimal-grammar}
use Rattle.text.proofs.Breaks.{RightStop, decimal-formed, decimal-right}

-- ---- the bytes of a word at the front of a list
pub same-is : (w l : List ℕ) → same_bytes w l ≡ true → l ≡ w
unfolding same_bytes
same-is [] [] h = refl
same-is [] (c ∷ l) h = clash h refl
same-is (b ∷ w) [] h = clash h refl
same-is (b ∷ w) (c ∷ l) h =
    let e : c ≡ b = eqb-true c b (and_first (eqb c b) (same_bytes w l) h) in
    let f : l ≡ w = same-is w l (and_second (eqb c b) (same_bytes w l) h) in
    cc

pub shared-most : (w l : List ℕ) → shared_front w l ≤ length w
unfolding shared_front
shared-most [] l = omega arith
shared-most (b ∷ w) [] = omega arith
shared-most (b ∷ w) (c ∷ l) =
    bool_cases (eqb c b) _ (λ e. rw e (omega (arith, shared-most w l))) (λ e. rw e (omega arith))

pub shared-short : (w l : List ℕ) → shared_front w l ≤ length l
unfolding shared_front
shared-short [] l = omega arith
shared-short (b ∷ w) [] = omega arith
shared-short (b ∷ w) (c ∷ l) =
    bool_cases (eqb c b) _ (λ e. rw e (omega (arith, shared-short w l))) (λ e. rw e (omega arith))

shared-takes : (w l : List ℕ) → take (shared_front w l) l ≡ take (shared_front w l) w
unfolding shared_front
shared-takes [] l = refl
shared-takes (b ∷ w) [] = refl
shared-takes (b ∷ w) (c ∷ l) =
    bool_cases (eqb c b) _
    (λ e. let q : c ≡ b = eqb-true c b e in let f : take (shared_front w l) l ≡ take (shared_front w l) w = shared-takes w l in rw e cc)
    (λ e. rw e)

pub shared-all : (w l : List ℕ) → shared_front w l ≡ length w → l ≡ w ++ drop (length w) l
shared-all w l e =
    sym (take-append-drop (length w) l)
    ∙ ap (λ (a : List ℕ). a ++ drop (length w) l) (rw e at (shared-takes w l) ∙ take_all (length w) w (omega arith))

pub shared-self : (w : List ℕ) → shared_front w w ≡ length w
unfolding shared_front
shared-self [] = refl
shared-self (b ∷ w) = rw (eq-eqb b b refl) (ap suc (shared-self w))

-- a byte that stands in no word cuts nothing off
pub shared-up_to : (c : ℕ) (w l : List ℕ) → mem c w ≡ false → shared_front w (up_to c l) ≡ shared_front w l
unfolding shared_front
shared-up_to c [] l n = refl
shared-up_to c (b ∷ w) [] n = refl
shared-up_to c (b ∷ w) (x ∷ l) n =
    bool_cases (eqb c x) _
    (λ e. rw (up_to-stop c x l e, ← eqb-true c x e, eqb_swap c b, not-head c b w n))
    (λ e. rw (up_to-more c x l e) (ap (λ (k : ℕ). cond (eqb x b) (suc k) 0) (shared-up_to c w l (not-tail c b w n))))

-- with the byte at which they part, no list is the word
shared-breaks : (w l t : List ℕ) → shared_front w l < length l → same_bytes w (take (suc (shared_front w l)) l ++ t) ≡ false
unfolding shared_front same_bytes
shared-breaks w [] t = λ h. absurd (omega arith)
shared-breaks [] (c ∷ l) t = λ h. refl
shared-breaks (b ∷ w) (c ∷ l) t =
    bool_cases (eqb c b) _ (λ e. rw e (λ h. shared-breaks w l t (omega arith))) (λ e. rw e (λ h. refl))

-- ---- a word that begins with `i`, and one that does not
letter-malformed : (l : List ℕ) → decimal_of (infinity_mark ∷ l) ≡ malformed
unfolding decimal_of fraction_of parts_of past_point whole_is_good within
letter-malformed l = refl

other-unlike : (b : ℕ) (l : List ℕ) → eqb b infinity_mark ≡ false → same_bytes infinity_word (b ∷ l) ≡ false
unfolding same_bytes
other-unlike b l e = rw e

finite-well : (w : Word Decimal) → well_formed (finite w) ≡ well_formed w
finite-well malformed = refl
finite-well outside = refl
finite-well (value d) = refl

distance-well : (w : List ℕ) → well_formed (decimal_of w) ≡ true → well_formed (distance_of w) ≡ true
unfolding distance_of
distance-well w h = bool_cases (same_bytes infinity_word w) _ (λ e. rw e) (λ e. rw e (finite-well (decimal_of w) ∙ h))

distance-bad : (w : List ℕ) → same_bytes infinity_word w ≡ false → well_formed (decimal_of w) ≡ false → well_formed (distance_of w) ≡ false
unfolding distance_of
distance-bad w e h = rw e (finite-well (decimal_of w) ∙ h)

pub distance-plain : (w : List ℕ) → eqb (get_or w 0 0) infinity_mark ≡ false → distance_of w ≡ finite (decimal_of w)
unfolding distance_of same_bytes
distance-plain [] e = refl
distance-plain (b ∷ l) e = rw (other-unlike b l e)

pub distance-letter : (w : List ℕ) → eqb (get_or w 0 0) infinity_mark ≡ true → same_bytes infinity_word w ≡ false → distance_of w
    ≡ malformed
unfolding distance_of
distance-letter [] e n = clash e refl
distance-letter (b ∷ l) e n =
    rw n (ap (λ (c : ℕ). finite (decimal_of (c ∷ l))) (eqb-true b infinity_mark e) ∙ ap finite (letter-malformed l))

-- a good word is `infinity` or a good decimal
distance_is : (w : List ℕ) → well_formed (distance_of w) ≡ true → (well_formed (decimal_of w) ≡ true) ⊎ (w ≡ infinity_word)
unfolding distance_of
distance_is w =
    bool_cases (same_bytes infinity_word w) _ (λ e _. inr (same-is infinity_word w e))
    (λ e. rw e (λ h. inl (sym (finite-well (decimal_of w)) ∙ h)))

infinity-said : well_formed (distance_of infinity_word) ≡ true
unfolding distance_of same_bytes
infinity-said = refl

pub distance-formed : (w : List ℕ) → Formed distance_of w ↔ IsDistanceWord w
distance-formed w = (λ h. to (distance_is w h), from)
  where
    to : (well_formed (decimal_of w) ≡ true) ⊎ (w ≡ infinity_word) → IsDistanceWord w
    to (inl h) = inl ((decimal-formed w).0 h)
    to (inr e) = inr e

    from : IsDistanceWord w → Formed distance_of w
    from (inl x) = distance-well w ((decimal-formed w).1 x)
    from (inr e) = rw e infinity-said

-- what a word says: a decimal by the decimal's grammar, or `infinity`
finite-only : (w : Word Decimal) (d : Decimal) → finite w ≡ value (D.Finite d) → w ≡ value d
finite-only malformed d h = no-case cc
finite-only outside d h = no-case cc
finite-only (value x) d h = cc

never-infinity : (w : Word Decimal) → finite w ≡ value D.Infinity → ⊥
never-infinity malformed h = no-case cc
never-infinity outside h = no-case cc
never-infinity (value x) h = no-case cc

pub distance-decimal-said : (w : List ℕ) (d : Decimal) → (distance_of w ≡ value (D.Finite d)) ↔ DecimalForm w d
unfolding distance_of
distance-decimal-said w d = (to, from)
  where
    to : distance_of w ≡ value (D.Finite d) → DecimalForm w d
    to =
        bool_cases (same_bytes infinity_word w) _ (λ e. rw e (λ h. no-case cc))
        (λ e. rw e (λ h. form_of w d (finite-only (decimal_of w) d h)))

    from : DecimalForm w d → distance_of w ≡ value (D.Finite d)
    from f =
        let q : decimal_of w ≡ value d = (decimal-grammar w d).1 f in
        bool_cases (same_bytes infinity_word w) _
        (λ e. clash (ap well_formed q)
        (ap (λ (l : List ℕ). well_formed (decimal_of l)) (same-is infinity_word w e)
        ∙ ap well_formed (letter-malformed (drop 1 infinity_word))))
        (λ e. rw (e, q))

pub distance-infinity-said : (w : List ℕ) → (distance_of w ≡ value D.Infinity) ↔ (w ≡ infinity_word)
unfolding distance_of same_bytes
distance-infinity-said w = (
  bool_cases (same_bytes infinity_word w) _ (λ e _. same-is infinity_word w e) (λ e. rw e (λ h. absurd (never-infinity (decimal_of w) h))),
  λ q. rw q,
)

-- ---- where it breaks off
module _ (w : List ℕ) where
  pub distance-short : distance_stop w ≤ length w
  unfolding distance_stop
  distance-short =
      bool_cases (eqb (get_or w 0 0) infinity_mark) _ (λ e. rw e (shared-short infinity_word w)) (λ e. rw e (stop_le w))

  pub distance-good : well_formed (distance_of w) ≡ true → distance_stop w ≡ length w
  unfolding distance_stop shared_front
  distance-good h = by w (distance_is w h)
    where
      by : (w : List ℕ) → (well_formed (decimal_of w) ≡ true) ⊎ (w ≡ infinity_word)
          → cond (eqb (get_or w 0 0) infinity_mark) (shared_front infinity_word w) (decimal_stop w) ≡ length w
      by w (inr e) = rw e
      by [] (inl g) = stop-good [] g
      by (b ∷ l) (inl g) =
          bool_cases (eqb b infinity_mark) _
          (λ e. clash g (ap (λ (c : ℕ). well_formed (decimal_of (c ∷ l))) (eqb-true b infinity_mark e)
          ∙ ap well_formed (letter-malformed l)))
          (λ e. rw e (stop-good (b ∷ l) g))

  distance-goes : Goes distance_of (take (distance_stop w) w)
  unfolding distance_stop
  distance-goes =
      bool_cases (eqb (get_or w 0 0) infinity_mark) _
      (λ e. let k : ℕ = shared_front infinity_word w in
      rw (e, shared-takes infinity_word w)
      (record { rest = drop k infinity_word; good = rw (take-append-drop k infinity_word) infinity-said }))
      (λ e. let g = decimal-right.goes w in
      rw e (record { rest = g.rest; good = distance-well (take (decimal_stop w) w ++ g.rest) g.good }))

distance-breaks : (w t : List ℕ) → distance_stop w < length w → well_formed (distance_of (take (suc (distance_stop w)) w ++ t)) ≡ false
unfolding distance_stop
distance-breaks [] t = λ h. absurd (omega arith)
distance-breaks (b ∷ l) t =
    bool_cases (eqb b infinity_mark) _
    (λ e. let k : ℕ = shared_front infinity_word (b ∷ l) in
    rw e
    (λ h. distance-bad (b ∷ (take k l ++ t)) (shared-breaks infinity_word (b ∷ l) t h)
    (ap (λ (c : ℕ). well_formed (decimal_of (c ∷ (take k l ++ t)))) (eqb-true b infinity_mark e)
    ∙ ap well_formed (letter-malformed (take k l ++ t)))))
    (λ e. rw e
    (λ h. distance-bad (b ∷ (take (decimal_stop (b ∷ l)) l ++ t)) (other-unlike b (take (decimal_stop (b ∷ l)) l ++ t) e)
    (decimal-right.breaks (b ∷ l) t h)))

distance-stray : (c : ℕ) → mem c infinity_word ≡ false → ((w : List ℕ) → mem c w ≡ true → well_formed (decimal_of w) ≡ false)
    → (w : List ℕ) → mem c w ≡ true → well_formed (distance_of w) ≡ false
distance-stray c n f w h =
    distance-bad w (false_of (same_bytes infinity_word w) (λ e. clash (ap (mem c) (sym (same-is infinity_word w e)) ∙ h) n)) (f w h)

pub distance-right : RightStop distance_form
unfolding mem
distance-right =
    record {
      short = distance-short;
      goes = distance-goes;
      breaks = distance-breaks;
      unbroken = distance-stray lf refl decimal-right.unbroken;
      unended = distance-stray file_end refl decimal-right.unended;
    }
