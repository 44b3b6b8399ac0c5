-- What the loop over a claim's decimals keeps, and how it ends. Assumes nothing.
use Rattle.std.specs.Prelude.{Option, Some, None, Result, Ok, Err}
use mathlib.Core.Path.{◌≡◌, refl, sym, ap, ap₂, ◌∙◌}
use mathlib.Core.Bool.{Bool, true, false, cond, ◌||◌}
use mathlib.Core.List.{List, [], ◌∷◌, ◌++◌}
use Prim.Native.Nat.{ℕ, zero, suc, ◌+◌, ◌-◌, ◌^◌, ◌≤◌, ◌<◌}
use native.Mathlib.Decide.{ℕ_discrete}
use native.Mathlib.Omega.{arith}
use lib.Dec.{ltb, eqb}
use lib.IntN.{ℤ}
use lib.ListN.{length, replicate, length-replicate}
use mir.Syntax.{w64}
use mir.Val.{to_z, of_z}
use borrow.Author.Tests.{lt-ltb, le-ltb, eq-eqb, ne_eqb}
use Rattle.basis.specs.Area.{cleared}
use Rattle.basis.specs.Refusal.{gives, refuses, at, plain, no_room, too_many, claim_file}
use Rattle.basis.specs.declared.refusal.Refusal.{Refusal}
use Rattle.basis.proofs.Tests.{failed, held, and-off}
use Rattle.text.specs.Line.{line, pair_form, decimal_form, coefficient_line, coefficient_says}
use Rattle.text.specs.declared.line.Cursor.{Cursor}
use Rattle.text.specs.declared.line.Fault.{Fault}
use Rattle.text.specs.File.{no_test}
use Rattle.text.specs.declared.decimal.Decimal.{Decimal}
use Rattle.text.proofs.Places.{coefficient-range, line-moves}
use Rattle.text.proofs.Files.{Passed, passed_none, passed-next, passed-end, passed-fault, passed-full, passed_over}
use Rattle.graph.specs.Find.{bisected}
use Rattle.matching.specs.declared.judged.Verdict as judged
use Rattle.matching.specs.Close.{is_close}
use Rattle.matching.specs.Claim.{coefficient_lines, ids_of}
use Rattle.matching.specs.Cover.{failing_place, its_line_from, its_line, incomplete_line, value_of, in_order, reported_line}
use Rattle.matching.specs.Verdict.{verdict_of, says, judged_by}
use Rattle.matching.specs.Calls.{near_within, far_within, fraction_in, fractions, no_decimal, room_in_three, told}
use Rattle.matching.specs.Calls.{coefficients_call}
use Rattle.matching.specs.Steps.{Found, new_in, set_at, stray_step, lesser_fault, far_step, end_line}
use Rattle.matching.specs.Steps.{counted, reported_in, Reportable, JudgedOf}
use Rattle.matching.proofs.FirstPlaces.{bits_back, failing-same, failing-bound, first-column}
use Rattle.matching.proofs.Leasts.{failing-now}
use Rattle.matching.proofs.Covering.{Grown, Recorded, recorded-none, grown, recorded-next, recorded-end, strays-bound, value-old, value-new}
use Rattle.matching.proofs.Covering.{maps-reported}
use Rattle.matching.proofs.Readings.{ids_more, ids-length}
use Rattle.matching.proofs.NumberLines.{found_within, end-zero, end-bound}

-- ---- one fraction and one decimal
module _ (a b : ℕ) (s : Decimal) where
  pub near-above : (a < 2 ^ 32 → ⊥) → false ≡ near_within (a, b) s
  unfolding near_within
  near-above h = rw (le-ltb a (2 ^ 32) (omega (arith, h)))

  pub near-below : (b < 2 ^ 32 → ⊥) → false ≡ near_within (a, b) s
  unfolding near_within
  near-below h = rw (le-ltb b (2 ^ 32) (omega (arith, h))) (sym (and-off (ltb a (2 ^ 32)) false refl))

  pub near_within_lem : a < 2 ^ 32 → b < 2 ^ 32 → (r : Bool) → r ≡ is_close a b s → r ≡ near_within (a, b) s
  unfolding near_within
  near_within_lem h g r e = rw (lt-ltb a (2 ^ 32) h, lt-ltb b (2 ^ 32) g) e

-- ---- the lines: k of them are done, up to a place
-- a vertex has no claim line yet, or its decimal is near
unfoldable pub near_yet : List ℤ → List ℕ → List ℕ → List (ℤ × Decimal) → ℕ → Bool
near_yet ids nums dens done v =
    eqb (its_line (bisected ids) (ids_of done) v) 0 || near_within (fraction_in nums dens v) (value_of (bisected ids) no_decimal done v)

pub record Decimals (most : ℕ) (ids : List ℤ) (nums dens s : List ℕ) (width : ℕ) (lines : List ℕ) (place k stray far : ℕ) : Type 0 where
  pub done : List (ℤ × Decimal)
  pub passed : Passed (pair_form decimal_form) claim_file most no_test s done place k
  pub short : k ≤ length s
  pub recorded : Recorded (bisected ids) (length ids) width (ids_of done) lines k stray
  pub fars : far ≡ failing_place (near_yet ids nums dens done) (length ids) 0

module _ (most : ℕ) (ids : List ℤ) (nums dens s : List ℕ) where
  none-far : (n i : ℕ) → 0 ≡ failing_place (near_yet ids nums dens []) n i
  unfolding failing_place near_yet its_line_from
  none-far zero i = refl
  none-far (suc n) i = none-far n (i + 1)

  pub decimals-none : (lines : List ℕ) → lines ≡ cleared lines → Decimals most ids nums dens s (length lines) lines 0 0 0 0
  decimals-none lines e =
      record {
        done = [];
        passed = passed_none (pair_form decimal_form) claim_file most no_test s;
        short = omega arith;
        recorded = recorded-none (bisected ids) (length ids) lines e;
        fars = none-far (length ids) 0;
      }

  module _ {width : ℕ} {lines : List ℕ} {place k stray far : ℕ} (h : Decimals most ids nums dens s width lines place k stray far) where
    far-bound : far ≤ length ids
    far-bound = let b = failing-bound (near_yet ids nums dens h.done) (length ids) 0 in omega (arith, h.fars)

    -- what is found at the end has its line
    pub decimals-reportable : length ids ≤ width → k < 2 ^ 64 - 1 → (m : ℕ) → m ≡ k
        → (i f : Option ℕ) → counted i ≡ end_line lines (length ids) m stray → counted f ≡ far → Reportable i f lines
    decimals-reportable room b m g (Some l) f q p =
        let a : stray ≤ m = rw g (strays-bound (bisected ids) h.recorded) in
        let e = end-bound lines (length ids) m stray a in omega (arith, q)
    decimals-reportable room b m g None None q p = tt
    decimals-reportable room b m g None (Some v) q p = (
      omega (arith, far-bound, p, h.recorded.wide),
      end-zero lines (length ids) m stray (sym q) v (omega (arith, far-bound, p)),
    )

    -- a claim that ends after k lines: where none is incomplete, none is missing
    ended : coefficient_lines most s ≡ gives h.done → (i : Option ℕ) → counted i ≡ end_line lines (length ids) k stray
        → (j : judged.Verdict) → says (Ok j) ≡ gives (verdict_of (counted i) (reported_in lines far))
        → JudgedOf most ids nums dens s width lines (says (Ok j))
    unfolding judged_by near_yet
    ended e i q j f =
        record { tells = f ∙ rw e (ap gives (by (counted i) q)); wide = h.recorded.wide }
      where
        covered : incomplete_line (bisected ids) (length ids) (ids_of h.done) ≡ end_line lines (length ids) k stray
        covered = sym (recorded-end (bisected ids) h.recorded)

        -- all vertices have their lines
        whole : end_line lines (length ids) k stray ≡ 0 → (v : ℕ) → v < length ids → its_line (bisected ids) (ids_of h.done) v ≡ 0 → ⊥
        whole z v m g = end-zero lines (length ids) k stray z v m (h.recorded.maps v m ∙ g)

        fault : end_line lines (length ids) k stray ≡ 0
            → far ≡ far_within (fractions (length ids) nums dens) (in_order (bisected ids) no_decimal (length ids) h.done)
        fault z =
            h.fars
            ∙ failing-same (near_yet ids nums dens h.done)
            (λ v. near_within (fraction_in nums dens v) (value_of (bisected ids) no_decimal h.done v)) (length ids) 0
            (λ v a b. rw (ne_eqb (its_line (bisected ids) (ids_of h.done) v) 0 (whole z v (omega arith))))
            ∙ sym (first-column near_within (fraction_in nums dens) (value_of (bisected ids) no_decimal h.done) (length ids) 0)

        by : (i : ℕ) → i ≡ end_line lines (length ids) k stray
            → verdict_of i (reported_in lines far) ≡ verdict_of (incomplete_line (bisected ids) (length ids) (ids_of h.done))
            (reported_line (bisected ids) (ids_of h.done)
            (far_within (fractions (length ids) nums dens) (in_order (bisected ids) no_decimal (length ids) h.done)))
        by zero q =
            rw (covered, ← q, ← fault (sym q)) (ap (verdict_of 0)
            (maps-reported (bisected ids) (length ids) (ids_of h.done) lines h.recorded.maps far far-bound))
        by (suc i) q = rw (covered, ← q)

    -- a vertex whose line is as before
    yet-same : (id : ℤ) (d : Decimal) (u : ℕ)
        → its_line (bisected ids) (ids_of (h.done ++ ((id, d) ∷ []))) u ≡ its_line (bisected ids) (ids_of h.done) u
        → near_yet ids nums dens (h.done ++ ((id, d) ∷ [])) u ≡ near_yet ids nums dens h.done u
    unfolding near_yet
    yet-same id d u e = rw (e, value-old (bisected ids) no_decimal h.done (id, d) u e)

    -- the smallest vertex at fault, after a line that names a new vertex or none
    far-next : (id : ℤ) (d : Decimal) (r : Option ℕ) → Grown (bisected ids) (length ids) (ids_of h.done) id r
        → far_step nums dens r d far ≡ failing_place (near_yet ids nums dens (h.done ++ ((id, d) ∷ []))) (length ids) 0
    unfolding near_yet
    far-next id d (Some v) g = by (near_within (fraction_in nums dens v) d) refl
      where
        before : ℕ → Bool
        before = near_yet ids nums dens h.done

        after : ℕ → Bool
        after = near_yet ids nums dens (h.done ++ ((id, d) ∷ []))

        line : its_line (bisected ids) (ids_of (h.done ++ ((id, d) ∷ []))) v ≡ length h.done + 1
        line = rw (ids_more h.done (id, d)) g.line ∙ ap (λ (j : ℕ). j + 1) (ids-length h.done)

        now : after v ≡ near_within (fraction_in nums dens v) d
        now =
            rw (ne_eqb (its_line (bisected ids) (ids_of (h.done ++ ((id, d) ∷ []))) v) 0 (λ z. omega (arith, line)))
            (ap (near_within (fraction_in nums dens v)) (value-new (bisected ids) no_decimal h.done (id, d) v line))

        held-before : before v ≡ true
        held-before = rw (eq-eqb (its_line (bisected ids) (ids_of h.done) v) 0 g.before)

        others : (u : ℕ) → u < length ids → (u ≡ v → ⊥) → after u ≡ before u
        others u m n =
            yet-same id d u (rw (ids_more h.done (id, d)) (g.others u n))

        by : (t : Bool) → near_within (fraction_in nums dens v) d ≡ t
            → cond t far (lesser_fault far (v + 1)) ≡ failing_place after (length ids) 0
        by true t =
            h.fars ∙ failing-same before after (length ids) 0
            (λ u a b. elim (ℕ_discrete u v) as (λ _. before u ≡ after u) [
              | yes q ↦ rw q (held-before ∙ sym (now ∙ t))
              | no n ↦ sym (others u (omega arith) n)
            ])
        by false t =
            ap (λ (f : ℕ). lesser_fault f (v + 1)) h.fars
            ∙ sym (failing-now before after (length ids) v g.inside held-before others (now ∙ t))
    far-next id d None g =
        h.fars ∙ failing-same (near_yet ids nums dens h.done) (near_yet ids nums dens (h.done ++ ((id, d) ∷ []))) (length ids) 0
        (λ u a b. sym (yet-same id d u (rw (ids_more h.done (id, d)) (g.all u (omega arith)))))

    -- what was found at the place
    module _ (x : Option (Result (ℤ × Decimal) Fault)) (c : Cursor) (e : coefficient_says c x ≡ coefficient_line s place) where
      pub decimals-end : {x' : Option (ℤ × Decimal)} → Found x k (Ok x') → x' ≡ None → (i : Option ℕ)
          → counted i ≡ end_line lines (length ids) k stray
          → (j : judged.Verdict) → says (Ok j) ≡ gives (verdict_of (counted i) (reported_in lines far))
          → JudgedOf most ids nums dens s width lines (says (Ok j))
      decimals-end f g =
          let n : x ≡ None = rw g at f in
          ended (passed-end (pair_form decimal_form) claim_file most no_test s h.passed c.at (sym e ∙ ap (coefficient_says c) n))

      module _ (l : k < most) where
        pub decimals-fault : {r : Refusal} → Found x k (Err r) → {y : Result judged.Verdict Refusal} → y ≡ Err r
            → JudgedOf most ids nums dens s width lines (says y)
        unfolding judged_by
        decimals-fault {r} f q =
            let here = sym e ∙ ap (coefficient_says c) f.1 in
            let p = passed-fault (pair_form decimal_form) claim_file most no_test s h.passed l f.0.number f.0.column c.at here in
            rw q record { tells = rw (p, f.2); wide = h.recorded.wide }

        pub decimals-next : {x' : Option (ℤ × Decimal)} → Found x k (Ok x') → (id : ℤ) (d : Decimal) → x' ≡ Some (id, d)
            → length ids ≤ width
            → {r : Option ℕ} → r ≡ new_in lines (bisected ids (to_z w64 (of_z w64 id)))
            → {record' : List ℕ} → record' ≡ set_at lines r (k + 1)
            → {f : ℕ} → f ≡ far_step nums dens r d far → {i : ℕ} → i ≡ stray_step r k stray
            → Decimals most ids nums dens s width record' c.at (k + 1) i f
        decimals-next f id d g wide {r} p t t' y =
            record {
              done = h.done ++ ((id, d) ∷ []);
              passed = passed-next (pair_form decimal_form) claim_file most no_test s h.passed l (id, d) c.at here refl;
              short =
                  let m = line-moves (pair_form decimal_form) s place (line (id, d) c.at) (sym here) (id, d) c.at refl in
                  omega (arith, h.passed.forward, m.forward, m.inside);
              recorded = rw (ids_more h.done (id, d)) (recorded-next (bisected ids) h.recorded id wide (found_within ids id) new t y);
              fars = t' ∙ far-next id d r (rw new (grown (bisected ids) h.recorded id (found_within ids id)));
            }
          where
            here : coefficient_line s place ≡ line (id, d) c.at
            here = let n : x ≡ Some (Ok (id, d)) = rw g at f in sym e ∙ ap (coefficient_says c) n

            new : r ≡ new_in lines (bisected ids id)
            new = p ∙ ap (λ (z : ℤ). new_in lines (bisected ids z)) (bits_back id (coefficient-range s place id d c.at here))

    -- no line more is allowed, or none is left
    module _ (m : k ≤ most) (l : most ≤ k) where
      pub decimals-over : place < length s → (r : Refusal) → r ≡ at too_many claim_file (most + 1)
          → JudgedOf most ids nums dens s width lines (refuses r)
      unfolding judged_by
      decimals-over g r p =
          let e : most ≡ k = omega arith in
          record {
            tells = rw (passed_over (pair_form decimal_form) claim_file most no_test s h.passed l g, rw e at p);
            wide = h.recorded.wide;
          }

      pub decimals-full : length s ≤ place → (i : Option ℕ) → counted i ≡ end_line lines (length ids) most stray
          → (j : judged.Verdict) → says (Ok j) ≡ gives (verdict_of (counted i) (reported_in lines far))
          → JudgedOf most ids nums dens s width lines (says (Ok j))
      decimals-full g i q =
          let e : most ≡ k = omega arith in
          ended (passed-full (pair_form decimal_form) claim_file most no_test s h.passed g) i
          (q ∙ ap (λ (j : ℕ). end_line lines (length ids) j stray) e)

  -- ---- the whole call, by the test of room t, with the record cleared first
  module _ (lines : List ℕ) {before : List ℕ} (c : before ≡ cleared lines)
      {t : Bool} (e : t ≡ room_in_three (length ids) (length nums) (length dens) (length before)) where
    wide : length before ≡ length lines
    wide = ap length c ∙ length-replicate (length lines) 0

    pub coefficients-short : t ≡ false → (r : Refusal) → r ≡ plain no_room
        → told (refuses r) before ≡ coefficients_call most ids nums dens s lines
    unfolding coefficients_call
    coefficients-short f r q = let k : room_in_three (length ids) (length nums) (length dens) (length lines) ≡ false
        = ap (room_in_three (length ids) (length nums) (length dens)) (sym wide) ∙ failed t _ e f in rw (k, q, c)

    pub coefficients-done : t ≡ true → (left : List ℕ) (j : Result judged.Verdict Refusal)
        → JudgedOf most ids nums dens s (length before) left (says j)
        → (end : List ℕ) → end ≡ cleared left → told (says j) end ≡ coefficients_call most ids nums dens s lines
    unfolding coefficients_call
    coefficients-done f left j h end q =
        let k : room_in_three (length ids) (length nums) (length dens) (length lines) ≡ true
        = ap (room_in_three (length ids) (length nums) (length dens)) (sym wide) ∙ held t _ e f in
        rw k (ap₂ told h.tells (q ∙ ap (λ (m : ℕ). replicate m 0) (h.wide ∙ wide)))
