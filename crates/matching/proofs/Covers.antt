-- What completeness means, for identifiers that rise: the claim line of a vertex, the least place at which a claim lacks a vertex, and
-- the values in vertex order. Assumes nothing.
use Rattle.std.specs.Prelude.{Option, Some, None}
use mathlib.Core.Path.{◌≡◌, refl, sym, ap, ◌∙◌, fun_ext}
use mathlib.Core.Bool.{Bool, true, false, not, cond}
use mathlib.Core.Logic.{◌↔◌, ◌⊎◌, inl, inr}
use mathlib.Core.List.{List, [], ◌∷◌}
use Prim.Native.Nat.{ℕ, suc, ◌+◌, ◌≤◌, ◌<◌}
use native.Mathlib.Nat.{not-suc-le-zero}
use native.Mathlib.Numerals.{add-one}
use native.Mathlib.Decide.{dec_lt}
use native.Mathlib.Omega.{arith}
use lib.Dec.{eqb}
use lib.IntN.{ℤ, pos}
use lib.ListN.{length, get_or, take}
use lib.Seq.{get_or-take, length-take-le}
use borrow.Author.Tests.{eqb-true, eqb-false, eq-eqb, ne_eqb, not-false}
use Rattle.basis.specs.Order.{rising_z}
use Rattle.basis.specs.Scan.{every, or_else}
use Rattle.basis.proofs.Areas.{column-at, column-is, column-length}
use Rattle.basis.proofs.Scans.{every-at, every_some}
use Rattle.basis.proofs.Tests.{bool_cases, clash, no-case}
use Rattle.graph.specs.Find.{place_in, bisected}
use Rattle.graph.proofs.Finds.{place_at, find-rising}
use Rattle.matching.specs.Claim.{ids_of, claimed_of}
use Rattle.matching.specs.Cover.{
  failing_place,
  is_vertex,
  its_line_from,
  its_line,
  has_line,
  is_new,
  names_new,
  stray_line,
  incomplete_line,
}
use Rattle.matching.specs.Cover.{value_of, in_order}
use Rattle.matching.specs.Good.{Least, LineOf, Covers, Lacks, unknown, again, missing, ValuesOf}
use Rattle.matching.proofs.Leasts.{Finds, finds-same, finds-later, finds-exactly, finds-none, Fails, failing-finds}

module _ (ids : List ℤ) (r : rising_z ids ≡ true) where
  -- ---- the claim line of a vertex
  module _ (v : ℕ) where
    Names : List ℤ → ℕ → Type 0
    Names named i = (i < length named) × (is_vertex (place_in ids (get_or named i (pos 0))) v ≡ true)

    from-finds : (k : ℕ) (named : List ℤ) → Finds (Names named) k (its_line_from (place_in ids) (suc k) named v)
    unfolding its_line_from Names
    from-finds k [] = inl (refl, λ j h. not-suc-le-zero h.0)
    from-finds k (x ∷ named) = by (is_vertex (place_in ids x) v) refl (rw (add-one (suc k)) (from-finds (suc k) named))
      where
        by : (t : Bool) → is_vertex (place_in ids x) v ≡ t → Finds (Names named) (suc k) (its_line_from (place_in ids) (suc k + 1) named v)
            → Finds (Names (x ∷ named)) k (cond t (suc k) (its_line_from (place_in ids) (suc k + 1) named v))
        by true e h = inr (0, omega arith, record { here = (omega arith, e); least = λ j g. omega arith })
        by false e h =
            finds-later k (λ g. clash g.1 e) (λ j g. (omega (arith, g.0), g.1)) (λ j g. (omega (arith, g.0), g.1)) h

    vertex-of : (f : Option ℕ) → is_vertex f v ≡ true → f ≡ Some v
    vertex-of (Some u) e = ap Some (eqb-true u v e)
    vertex-of None e = clash e refl

  named-place : {named : List ℤ} {v i : ℕ} → LineOf ids named v i → place_in ids (get_or named i (pos 0)) ≡ Some v
  named-place {named} {v} {i} h = (place_at ids (get_or named i (pos 0)) r v).1 (h.vertex, sym h.names)

  place-named : {named : List ℤ} {v i : ℕ} → i < length named → place_in ids (get_or named i (pos 0)) ≡ Some v → LineOf ids named v i
  place-named {named} {v} {i} l e =
      let h = (place_at ids (get_or named i (pos 0)) r v).0 e in record { vertex = h.0; line = l; names = sym h.1 }

  -- the first line that names a vertex; 0 where none does
  line-finds : (named : List ℤ) (v : ℕ) → Finds (LineOf ids named v) 0 (its_line (place_in ids) named v)
  unfolding Names
  line-finds named v =
      finds-same (λ i h. place-named h.0 (vertex-of v (place_in ids (get_or named i (pos 0))) h.1))
      (λ i h. (h.line, rw (named-place h) (eq-eqb v v refl)))
      (from-finds v 0 named)

  line-is : (named : List ℤ) (v i : ℕ) → (its_line (place_in ids) named v ≡ suc i) ↔ Least (LineOf ids named v) i
  line-is named v i = finds-exactly (line-finds named v) i

  line-none : (named : List ℤ) (v : ℕ) → (its_line (place_in ids) named v ≡ 0) ↔ ((i : ℕ) → LineOf ids named v i → ⊥)
  line-none named v = finds-none (line-finds named v)

  -- ---- a line that names an unknown or already named vertex
  module _ (named : List ℤ) where
    in-front : {v i j : ℕ} → i ≤ length named → LineOf ids (take i named) v j → (j < i) × LineOf ids named v j
    in-front {v} {i} {j} l h =
        let m : j < i = omega (arith, h.line, length-take-le i named l) in
        (m, record { vertex = h.vertex; line = omega arith; names = sym (get_or-take i named j (pos 0) m) ∙ h.names })

    to_front : {v i j : ℕ} → i ≤ length named → j < i → LineOf ids named v j → LineOf ids (take i named) v j
    to_front {v} {i} {j} l m h =
        record { vertex = h.vertex; line = omega (arith, length-take-le i named l); names = get_or-take i named j (pos 0) m ∙ h.names }

    stray-lacks : (i : ℕ) → Fails (names_new (place_in ids) named) (length named) 0 i → Lacks ids named i
    unfolding names_new
    stray-lacks i h = by (place_in ids (get_or named i (pos 0))) refl h.2
      where
        l : i < length named
        l = omega (arith, h.1)

        before : (v : ℕ) → place_in ids (get_or named i (pos 0)) ≡ Some v
            → Finds (LineOf ids (take i named) v) 0 (its_line (place_in ids) (take i named) v)
            → (its_line (place_in ids) (take i named) v ≡ 0 → ⊥)
            → Lacks ids named i
        before v e (inl g) n = absurd (n g.0)
        before v e (inr g) n = let f = in-front {i = i} (omega arith) g.2.here in again v g.0 f.0 f.1 (place-named l e)

        by : (f : Option ℕ) → place_in ids (get_or named i (pos 0)) ≡ f → is_new (place_in ids) (take i named) f ≡ false → Lacks ids named i
        by (Some v) e n = before v e (line-finds (take i named) v) (eqb-false (its_line (place_in ids) (take i named) v) 0 n)
        by None e n = unknown l (λ v g. no-case (let z : Some v ≡ None = sym (named-place g) ∙ e in cc))

    new-not : (i : ℕ) → i < length named → (f : Option ℕ) → place_in ids (get_or named i (pos 0)) ≡ f → ((v : ℕ) → LineOf ids named v i → ⊥)
        → is_new (place_in ids) (take i named) f ≡ false
    new-not i l (Some v) e n = absurd (n v (place-named l e))
    new-not i l None e n = refl

    -- a place at which a claim lacks a vertex is such a line, or the one after the last
    lacks-stray : (i : ℕ) → Lacks ids named i → Fails (names_new (place_in ids) named) (length named) 0 i ⊎ (i ≡ length named)
    unfolding names_new
    lacks-stray i (unknown l n) = inl (omega arith, omega arith, new-not i l (place_in ids (get_or named i (pos 0))) refl n)
    lacks-stray i (again v j m h g) =
        inl (
          omega arith,
          omega (arith, g.line),
          rw (named-place g)
              (ne_eqb (its_line (place_in ids) (take i named) v) 0
              (λ z. (line-none (take i named) v).0 z j (to_front (omega (arith, g.line)) m h))),
        )
    lacks-stray i (missing e v l n) = inr e

    missing-line : (i : ℕ) → Lacks ids named i → i ≡ length named → (v : ℕ) × (v < length ids) × (its_line (place_in ids) named v ≡ 0)
    missing-line i (unknown l n) e = absurd (omega arith)
    missing-line i (again v j m h g) e = absurd (omega (arith, g.line))
    missing-line i (missing e v l n) q = (v, l, (line-none named v).1 n)

    -- ---- "Incomplete is now": the least place at which the claim lacks a vertex
    lacks-finds : Finds (Lacks ids named) 0 (incomplete_line (place_in ids) (length ids) named)
    unfolding incomplete_line stray_line
    lacks-finds = by (failing-finds (names_new (place_in ids) named) (length named) 0)
      where
        stray : ℕ
        stray = failing_place (names_new (place_in ids) named) (length named) 0

        by : Finds (Fails (names_new (place_in ids) named) (length named) 0) 0 stray
            → Finds (Lacks ids named) 0 (or_else stray (cond (every (length ids) (has_line (place_in ids) named)) 0 (length named + 1)))
        by (inr h) =
            rw h.1
            (inr (
              h.0,
              omega arith,
              record {
                here = stray-lacks h.0 h.2.here;
                least = λ j d. first j (lacks-stray j d);
              },
            ))
          where
            first : (j : ℕ) → Fails (names_new (place_in ids) named) (length named) 0 j ⊎ (j ≡ length named) → h.0 ≤ j
            first j (inl f) = h.2.least j f
            first j (inr e) = omega (arith, h.2.here.1)
        by (inl h) =
            rw h.0
            (bool_cases (every (length ids) (has_line (place_in ids) named))
            (Finds (Lacks ids named) 0 (cond (every (length ids) (has_line (place_in ids) named)) 0 (length named + 1)))
            (λ t. rw t (inl (refl, λ j d. none j d (lacks-stray j d) t)))
            (λ t. rw t (inr (length named, omega arith, record { here = lacking t; least = λ j d. last j (lacks-stray j d) }))))
          where
            none : (j : ℕ) → Lacks ids named j → Fails (names_new (place_in ids) named) (length named) 0 j ⊎ (j ≡ length named)
                → every (length ids) (has_line (place_in ids) named) ≡ true → ⊥
            none j d (inl f) t = h.1 j f
            none j d (inr e) t =
                let w = missing-line j d e in
                clash (every-at (has_line (place_in ids) named) (length ids) w.0 w.1 t)
                (ap not (eq-eqb (its_line (place_in ids) named w.0) 0 w.2))

            last : (j : ℕ) → Fails (names_new (place_in ids) named) (length named) 0 j ⊎ (j ≡ length named) → length named ≤ j
            last j (inl f) = absurd (h.1 j f)
            last j (inr e) = omega arith

            without : (v : ℕ) → not (eqb (its_line (place_in ids) named v) 0) ≡ false → its_line (place_in ids) named v ≡ 0
            without v e = eqb-true (its_line (place_in ids) named v) 0 (not-false (eqb (its_line (place_in ids) named v) 0) e)

            lacking : every (length ids) (has_line (place_in ids) named) ≡ false → Lacks ids named (length named)
            lacking t =
                let w = every_some (has_line (place_in ids) named) (length ids) t in
                missing refl w.0 w.1 ((line-none named w.0).0 (without w.0 w.2))

    pub incomplete-least : (i : ℕ) → (incomplete_line (place_in ids) (length ids) named ≡ suc i) ↔ Least (Lacks ids named) i
    incomplete-least i = finds-exactly lacks-finds i

    -- ---- "each vertex exactly once", where there is no such place
    covers_of : ((i : ℕ) → Lacks ids named i → ⊥) → Covers ids named
    covers_of n =
        record {
          known = λ i l. vertex i l (place_in ids (get_or named i (pos 0))) refl;
          once = λ v i j h g. one v i j h g;
          all = λ v l. line v l (line-finds named v);
        }
      where
        vertex : (i : ℕ) → i < length named → (f : Option ℕ) → place_in ids (get_or named i (pos 0)) ≡ f → (v : ℕ) × LineOf ids named v i
        vertex i l (Some v) e = (v, place-named l e)
        vertex i l None e =
            absurd (n i (unknown l (λ v g. no-case (let z : Some v ≡ None = sym (named-place g) ∙ e in cc))))

        one : (v i j : ℕ) → LineOf ids named v i → LineOf ids named v j → i ≡ j
        one v i j h g =
            elim (dec_lt i j) as (λ _. i ≡ j) [
              | yes l ↦ absurd (n j (again v i l h g))
              | no l ↦
                  elim (dec_lt j i) as (λ _. i ≡ j) [
                    | yes m ↦ absurd (n i (again v j m g h))
                    | no m ↦ omega arith
                  ]
            ]

        line : (v : ℕ) → v < length ids → Finds (LineOf ids named v) 0 (its_line (place_in ids) named v) → (i : ℕ) × LineOf ids named v i
        line v l (inl f) = absurd (n (length named) (missing refl v l f.1))
        line v l (inr f) = (f.0, f.2.here)

    none-lacks : Covers ids named → (i : ℕ) → Lacks ids named i → ⊥
    none-lacks c i (unknown l n) = n (c.known i l).0 (c.known i l).1
    none-lacks c i (again v j m h g) = omega (arith, c.once v j i h g)
    none-lacks c i (missing e v l n) = n (c.all v l).0 (c.all v l).1

    pub complete-exactly : (incomplete_line (place_in ids) (length ids) named ≡ 0) ↔ Covers ids named
    complete-exactly = let f = finds-none lacks-finds in (λ e. covers_of (f.0 e), λ c. f.1 (none-lacks c))

    -- a covered vertex has one claim line
    module _ (c : Covers ids named) where
      pub covered-line : (v i : ℕ) → LineOf ids named v i → its_line (place_in ids) named v ≡ suc i
      covered-line v i h =
          (line-is named v i).1 (record { here = h; least = λ j g. omega (arith, c.once v i j h g) })

      pub line-covered : (v : ℕ) → v < length ids → (i : ℕ) × (its_line (place_in ids) named v ≡ suc i) × LineOf ids named v i
      line-covered v l = let w = c.all v l in (w.0, covered-line v w.0 w.1, w.1)

  -- ---- the values in vertex order
  module _ {A : Type 0} (z : A) (l : List (ℤ × A)) (c : Covers ids (ids_of l)) where
    pub values_of : ValuesOf z ids l (in_order (place_in ids) z (length ids) l)
    unfolding value_of
    values_of =
        record {
          long = column-length (value_of (place_in ids) z l) 0 (length ids);
          from = λ v i h.
              column-at (value_of (place_in ids) z l) (length ids) v z h.vertex
              ∙ ap (λ (k : ℕ). get_or (z ∷ claimed_of l) k z) (covered-line (ids_of l) c v i h);
        }

    pub values_one : (values : List A) → ValuesOf z ids l values → values ≡ in_order (place_in ids) z (length ids) l
    values_one values w =
        sym (column-is (value_of (place_in ids) z l) z values (length ids) w.long
        (λ v m.
        let h = c.all v m in
        w.from v h.0 h.1 ∙ sym (values_of.from v h.0 h.1)
        ∙ column-at (value_of (place_in ids) z l) (length ids) v z m))

  -- ---- the bisection finds the vertices
  pub same-places : bisected ids ≡ place_in ids
  same-places = fun_ext (λ id. find-rising ids id r)
