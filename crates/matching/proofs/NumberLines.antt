-- What the loop over a claim's numbers keeps, and how it ends. Assumes nothing.
use Rattle.std.specs.Prelude.{Option, Some, None, Ok, Err, Result}
use mathlib.Core.Path.{◌≡◌, refl, sym, ap, ◌∙◌}
use mathlib.Core.Bool.{Bool, true, false, not, cond}
use mathlib.Core.List.{List, [], ◌∷◌, ◌++◌}
use Prim.Native.Nat.{ℕ, zero, suc, ◌+◌, ◌≤◌, ◌<◌}
use native.Mathlib.Decide.{ℕ_discrete}
use native.Mathlib.Omega.{arith}
use lib.Dec.{eqb}
use lib.IntN.{ℤ, pos}
use lib.ListN.{length, get_or, take, set, length-set}
use lib.Seq.{length-take-le, get_or-take, get_or-set_same, get_or-set_other}
use mir.Syntax.{w64}
use mir.Val.{to_z, of_z}
use borrow.Author.Tests.{eq-eqb}
use Rattle.basis.specs.Area.{cleared}
use Rattle.basis.specs.Refusal.{gives, refuses, at, too_many, claim_file}
use Rattle.basis.specs.Scan.{every}
use Rattle.basis.specs.declared.refusal.Refusal.{Refusal}
use Rattle.basis.proofs.Areas.{column-is}
use Rattle.basis.proofs.Scans.{every-at}
use Rattle.basis.proofs.Tests.{bool_cases, clash}
use Rattle.text.specs.Line.{line, edge_form, claim_line, edge_says}
use Rattle.text.specs.declared.line.Cursor.{Cursor}
use Rattle.text.specs.declared.line.Fault.{Fault}
use Rattle.text.specs.File.{no_test}
use Rattle.text.proofs.Places.{edge-range, line-moves}
use Rattle.text.proofs.Files.{Passed, passed_none, passed-next, passed-end, passed-fault, passed-full, passed_over}
use Rattle.graph.specs.Find.{bisected}
use Rattle.graph.proofs.Finds.{bisected-below}
use Rattle.matching.specs.Claim.{number_lines, ids_of}
use Rattle.matching.specs.Cover.{its_line_from, its_line, value_of}
use Rattle.matching.specs.Steps.{Found, new_in, set_at, FoundBelow, stray_step, is_recorded, end_line, counted, ReadOf}
use Rattle.matching.proofs.FirstPlaces.{bits_back}
use Rattle.matching.proofs.Covering.{Grown, Recorded, recorded-none, grown, recorded-next, recorded-end, strays-bound, value-old, value-new}
use Rattle.matching.proofs.Readings.{ids_more, ids-length}

-- ---- what is found by bisection is one of the vertices, and what is new of it too
pub found_within : (ids : List ℤ) (id : ℤ) → FoundBelow (bisected ids id) (length ids)
found_within ids id = by (bisected ids id) (bisected-below ids id)
  where
    by : (f : Option ℕ) → ((i : ℕ) → f ≡ Some i → i < length ids) → FoundBelow f (length ids)
    by (Some v) h = h v refl
    by None h = tt

new-within : (lines : List ℕ) (f : Option ℕ) (n : ℕ) → FoundBelow f n → FoundBelow (new_in lines f) n
new-within lines (Some v) n h = by (eqb (get_or lines v 0) 0)
  where
    by : (t : Bool) → FoundBelow (cond t (Some v) None) n
    by true = h
    by false = tt
new-within lines None n h = tt

within_more : (f : Option ℕ) (n m : ℕ) → FoundBelow f n → n ≤ m → FoundBelow f m
within_more (Some v) n m h l = omega (arith, h)
within_more None n m h l = tt

-- the vertex that a line newly names has its place in an area with n places
pub named-within : (ids : List ℤ) (id : ℤ) (lines : List ℕ) {r : Option ℕ} → r ≡ new_in lines (bisected ids id) → (m : ℕ) → length ids ≤ m
    → FoundBelow r m
named-within ids id lines e m l =
    rw e
    (within_more (new_in lines (bisected ids id)) (length ids) m
    (new-within lines (bisected ids id) (length ids) (found_within ids id)) l)

-- what follows where an end finds nothing incomplete
pub end-zero : (lines : List ℕ) (n k stray : ℕ) → end_line lines n k stray ≡ 0 → (v : ℕ) → v < n → get_or lines v 0 ≡ 0 → ⊥
unfolding end_line is_recorded
end-zero lines n k zero e v l z =
    bool_cases (every n (is_recorded lines)) ⊥
    (λ t. clash (every-at (is_recorded lines) n v l t) (ap not (eq-eqb (get_or lines v 0) 0 z)))
    (λ t. let f : k + 1 ≡ 0 = rw t at e in omega arith)
end-zero lines n k (suc i) e v l z = omega arith

-- an end is past no more lines than there are
pub end-bound : (lines : List ℕ) (n k stray : ℕ) → stray ≤ k → end_line lines n k stray ≤ k + 1
unfolding end_line
end-bound lines n k (suc i) h = omega arith
end-bound lines n k zero h = by (every n (is_recorded lines))
  where
    by : (t : Bool) → cond t 0 (k + 1) ≤ k + 1
    by true = omega arith
    by false = omega arith

-- ---- k lines are done, up to a place: the vertices that they name have their values in the area
pub record Numbers (most : ℕ) (ids : List ℤ) (s : List ℕ) (size width : ℕ) (claimed : List ℤ) (lines : List ℕ) (place k stray : ℕ)
    : Type 0 where
  pub done : List (ℤ × ℤ)
  pub passed : Passed edge_form claim_file most no_test s done place k
  pub short : k ≤ length s
  pub recorded : Recorded (bisected ids) (length ids) width (ids_of done) lines k stray
  pub kept : length claimed ≡ size
  pub stored : (v : ℕ) → v < length ids → (its_line (bisected ids) (ids_of done) v ≡ 0 → ⊥)
      → get_or claimed v (pos 0) ≡ value_of (bisected ids) (pos 0) done v

module _ (most : ℕ) (ids : List ℤ) (s : List ℕ) where
  pub numbers-none : (claimed : List ℤ) (lines : List ℕ) → lines ≡ cleared lines
      → Numbers most ids s (length claimed) (length lines) claimed lines 0 0 0
  unfolding its_line_from
  numbers-none claimed lines e =
      record {
        done = [];
        passed = passed_none edge_form claim_file most no_test s;
        short = omega arith;
        recorded = recorded-none (bisected ids) (length ids) lines e;
        kept = refl;
        stored = λ v l n. absurd (n refl);
      }

  module _ {size width : ℕ} {claimed : List ℤ} {lines : List ℕ} {place k stray : ℕ}
      (h : Numbers most ids s size width claimed lines place k stray) (room : length ids ≤ size) where
    -- a claim that ends after k lines
    ended : number_lines most s ≡ gives h.done → {l : Option ℕ} → counted l ≡ end_line lines (length ids) k stray
        → ReadOf most ids s size width claimed lines (Ok l)
    ended e q =
        record {
          tells =
              record {
                lines = h.done;
                are = e;
                short = let b = end-bound lines (length ids) k stray (strays-bound (bisected ids) h.recorded) in omega (arith, q, h.short);
                recorded = λ z. end-zero lines (length ids) k stray (sym q ∙ z);
                first = q ∙ recorded-end (bisected ids) h.recorded;
                maps = h.recorded.maps;
                values = λ z.
                    sym (column-is (value_of (bisected ids) (pos 0) h.done) (pos 0) (take (length ids) claimed) (length ids)
                    (length-take-le (length ids) claimed (omega (arith, h.kept)))
                    (λ v l. get_or-take (length ids) claimed v (pos 0) l
                    ∙ h.stored v l (λ f. end-zero lines (length ids) k stray (sym q ∙ z) v l (h.recorded.maps v l ∙ f))));
              };
          kept = h.kept;
          wide = h.recorded.wide;
        }

    -- the values of the vertices named so far, after a line that names a new one or none
    stored_next : (id v : ℤ) (r : Option ℕ) → Grown (bisected ids) (length ids) (ids_of h.done) id r
        → (u : ℕ) → u < length ids → (its_line (bisected ids) (ids_of h.done ++ (id ∷ [])) u ≡ 0 → ⊥)
        → get_or (set_at claimed r v) u (pos 0) ≡ value_of (bisected ids) (pos 0) (h.done ++ ((id, v) ∷ [])) u
    stored_next id v (Some w) g u m n =
        let more = ids_more h.done (id, v) in
        elim (ℕ_discrete u w) as (λ _. get_or (set claimed w v) u (pos 0) ≡ value_of (bisected ids) (pos 0) (h.done ++ ((id, v) ∷ [])) u) [
          | yes q ↦ rw q (get_or-set_same claimed w v (pos 0) (omega (arith, g.inside, h.kept))
              ∙ sym (value-new (bisected ids) (pos 0) h.done (id, v) w
              (rw more g.line ∙ ap (λ (j : ℕ). j + 1) (ids-length h.done))))
          | no d ↦
              let same = g.others u d in
              let old : its_line (bisected ids) (ids_of h.done) u ≡ 0 → ⊥ = λ z. n (same ∙ z) in
              get_or-set_other claimed w u v (pos 0) d ∙ h.stored u m old
              ∙ sym (value-old (bisected ids) (pos 0) h.done (id, v) u (rw more same))
        ]
    stored_next id v None g u m n =
        let same = g.all u m in
        let old : its_line (bisected ids) (ids_of h.done) u ≡ 0 → ⊥ = λ z. n (same ∙ z) in
        h.stored u m old ∙ sym (value-old (bisected ids) (pos 0) h.done (id, v) u (rw (ids_more h.done (id, v)) same))

    kept_next : (r : Option ℕ) (v : ℤ) → length (set_at claimed r v) ≡ size
    kept_next (Some w) v = length-set claimed w v ∙ h.kept
    kept_next None v = h.kept

    -- what was found at the place
    module _ (x : Option (Result (ℤ × ℤ) Fault)) (c : Cursor) (e : edge_says c x ≡ claim_line s place) where
      pub numbers-end : {x' : Option (ℤ × ℤ)} → Found x k (Ok x') → x' ≡ None → {i : Option ℕ}
          → counted i ≡ end_line lines (length ids) k stray → ReadOf most ids s size width claimed lines (Ok i)
      numbers-end f g =
          let n : x ≡ None = rw g at f in
          ended (passed-end edge_form claim_file most no_test s h.passed c.at (sym e ∙ ap (edge_says c) n))

      module _ (l : k < most) where
        pub numbers-fault : {r : Refusal} → Found x k (Err r) → {y : Result (Option ℕ) Refusal} → y ≡ Err r
            → ReadOf most ids s size width claimed lines y
        numbers-fault f q =
            rw q record {
              tells = passed-fault edge_form claim_file most no_test s h.passed l f.0.number f.0.column c.at
                  (sym e ∙ ap (edge_says c) f.1) ∙ ap refuses (sym f.2);
              kept = h.kept;
              wide = h.recorded.wide;
            }

        pub numbers-next : {x' : Option (ℤ × ℤ)} → Found x k (Ok x') → (id v : ℤ) → x' ≡ Some (id, v) → length ids ≤ width
            → {r : Option ℕ} → r ≡ new_in lines (bisected ids (to_z w64 (of_z w64 id)))
            → {record' : List ℕ} → record' ≡ set_at lines r (k + 1)
            → {left : List ℤ} → left ≡ set_at claimed r (to_z w64 (of_z w64 v)) → {i : ℕ} → i ≡ stray_step r k stray
            → Numbers most ids s size width left record' c.at (k + 1) i
        numbers-next f id v g wide {r} p t t' y =
            record {
              done = h.done ++ ((id, v) ∷ []);
              passed = passed-next edge_form claim_file most no_test s h.passed l (id, v) c.at here refl;
              short =
                  let m = line-moves edge_form s place (line (id, v) c.at) (sym here) (id, v) c.at refl in
                  omega (arith, h.passed.forward, m.forward, m.inside);
              recorded = rw (ids_more h.done (id, v)) (recorded-next (bisected ids) h.recorded id wide (found_within ids id) new t y);
              kept = rw t' (kept_next r (to_z w64 (of_z w64 v)));
              stored = rw (ids_more h.done (id, v), t', bits_back v (edge-range s place id v c.at here).1)
                  (stored_next id v r (rw new (grown (bisected ids) h.recorded id (found_within ids id))));
            }
          where
            here : claim_line s place ≡ line (id, v) c.at
            here = let n : x ≡ Some (Ok (id, v)) = rw g at f in sym e ∙ ap (edge_says c) n

            new : r ≡ new_in lines (bisected ids id)
            new = p ∙ ap (λ (z : ℤ). new_in lines (bisected ids z)) (bits_back id (edge-range s place id v c.at here).0)

    -- no line more is allowed, or none is left
    module _ (m : k ≤ most) (l : most ≤ k) where
      pub numbers-over : place < length s → {r : Refusal} → r ≡ at too_many claim_file (most + 1)
          → ReadOf most ids s size width claimed lines (Err r)
      numbers-over g p =
          let e : most ≡ k = omega arith in
          record {
            tells = passed_over edge_form claim_file most no_test s h.passed l g ∙ ap refuses (sym (rw e at p));
            kept = h.kept;
            wide = h.recorded.wide;
          }

      pub numbers-full : length s ≤ place → {i : Option ℕ} → counted i ≡ end_line lines (length ids) most stray
          → ReadOf most ids s size width claimed lines (Ok i)
      numbers-full g q =
          let e : most ≡ k = omega arith in
          ended (passed-full edge_form claim_file most no_test s h.passed g) (q ∙ ap (λ (j : ℕ). end_line lines (length ids) j stray) e)
