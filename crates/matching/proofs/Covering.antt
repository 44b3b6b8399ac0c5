-- Laws of claim lines: one line more, and the record that maps each vertex to its own. Assumes nothing.
use Rattle.std.specs.Prelude.{Option, Some, None}
use mathlib.Core.Path.{◌≡◌, refl, sym, ap, ap₂, ◌∙◌}
use mathlib.Core.Bool.{Bool, true, false, not, cond}
use mathlib.Core.List.{List, [], ◌∷◌, ◌++◌}
use Prim.Native.Nat.{ℕ, zero, suc, ◌+◌, ◌≤◌, ◌<◌}
use native.Mathlib.Decide.{ℕ_discrete}
use native.Mathlib.Numerals.{add-one}
use native.Mathlib.Omega.{arith}
use lib.Dec.{eqb}
use lib.IntN.{ℤ, pos}
use lib.ListN.{length, get_or, set, length-append, length-set, get_or-append}
use lib.Seq.{take-append-le, take-append_seam, get_or-append_seam, get_or-set_same, get_or-set_other}
use borrow.Author.Tests.{eqb-true, eqb-false, eq-eqb, ne_eqb}
use Rattle.basis.specs.Area.{cleared}
use Rattle.basis.specs.Scan.{or_else}
use Rattle.basis.proofs.Scans.{or_kept, or-zero, every-same}
use Rattle.basis.proofs.Areas.{replicate-at}
use Rattle.matching.specs.Claim.{ids_of, claimed_of}
use Rattle.matching.specs.Cover.{
  failing_place,
  is_vertex,
  its_line_from,
  its_line,
  has_line,
  is_new,
  names_new,
  stray_line,
  incomplete_line,
}
use Rattle.matching.specs.Cover.{value_of, reported_line}
use Rattle.matching.specs.Steps.{new_in, set_at, FoundBelow, stray_step, is_recorded, end_line, reported_in, Maps}
use Rattle.matching.proofs.FirstPlaces.{failing-more, failing-same, failing-bound}
use Rattle.matching.proofs.Readings.{values-more, ids-length, claimed-length}

module _ (place : ℤ → Option ℕ) where
  -- ---- one line more
  from_more : (k : ℕ) (named : List ℤ) (id : ℤ) (v : ℕ)
      → its_line_from place (suc k) (named ++ (id ∷ [])) v
      ≡ or_else (its_line_from place (suc k) named v) (cond (is_vertex (place id) v) (suc k + length named) 0)
  unfolding its_line_from
  from_more k [] id v = let e : suc k + 0 ≡ suc k = omega arith in rw e
  from_more k (x ∷ named) id v = by (is_vertex (place x) v) (rw (add-one (suc k)) (from_more (suc k) named id v))
    where
      by : (t : Bool)
          → its_line_from place (suc k + 1) (named ++ (id ∷ [])) v
          ≡ or_else (its_line_from place (suc k + 1) named v) (cond (is_vertex (place id) v) (suc (suc k) + length named) 0)
          → cond t (suc k) (its_line_from place (suc k + 1) (named ++ (id ∷ [])) v)
          ≡ or_else (cond t (suc k) (its_line_from place (suc k + 1) named v))
          (cond (is_vertex (place id) v) (suc k + suc (length named)) 0)
      by true h = refl
      by false h = let e : suc k + suc (length named) ≡ suc (suc k) + length named = omega arith in rw e h

  line-more : (named : List ℤ) (id : ℤ) (v : ℕ)
      → its_line place (named ++ (id ∷ [])) v ≡ or_else (its_line place named v) (cond (is_vertex (place id) v) (length named + 1) 0)
  line-more named id v = let e : length named + 1 ≡ 1 + length named = omega arith in rw e (from_more 0 named id v)

  from-bound : (k : ℕ) (named : List ℤ) (v : ℕ) → its_line_from place (suc k) named v ≤ k + length named
  unfolding its_line_from
  from-bound k [] v = omega arith
  from-bound k (x ∷ named) v = by (is_vertex (place x) v) (rw (add-one (suc k)) (from-bound (suc k) named v))
    where
      by : (t : Bool) → its_line_from place (suc k + 1) named v ≤ suc k + length named
          → cond t (suc k) (its_line_from place (suc k + 1) named v) ≤ k + suc (length named)
      by true h = omega arith
      by false h = omega arith

  pub line-bound : (named : List ℤ) (v : ℕ) → its_line place named v ≤ length named
  line-bound named v = let h = from-bound 0 named v in omega arith

  stray-more : (named : List ℤ) (id : ℤ)
      → stray_line place (named ++ (id ∷ [])) ≡ or_else (stray_line place named) (cond (is_new place named (place id)) 0 (length named + 1))
  unfolding stray_line names_new
  stray-more named id =
      let more = named ++ (id ∷ []) in
      let n = length named in
      let long : length more ≡ suc n = length-append named (id ∷ []) ∙ omega arith in
      ap (λ (k : ℕ). failing_place (names_new place more) k 0) long
      ∙ failing-more (names_new place more) n 0
      ∙ ap₂ or_else
      (failing-same (names_new place more) (names_new place named) n 0
      (λ j l m. ap₂ (λ (a : List ℤ) (x : ℤ). is_new place a (place x)) (take-append-le j named (id ∷ []) (omega arith))
      (get_or-append named (id ∷ []) (pos 0) j (omega arith))))
      (let e : 0 + n ≡ n = omega arith in
      rw e (ap₂ (λ (a : List ℤ) (x : ℤ). cond (is_new place a (place x)) 0 (n + 1)) (take-append_seam named (id ∷ []))
      (get_or-append_seam named id [] (pos 0))))

  -- ---- the value on a vertex's line
  module _ {A : Type 0} (z : A) (done : List (ℤ × A)) (x : ℤ × A) (v : ℕ) where
    pub value-old : its_line place (ids_of (done ++ (x ∷ []))) v ≡ its_line place (ids_of done) v
        → value_of place z (done ++ (x ∷ [])) v ≡ value_of place z done v
    unfolding value_of
    value-old e =
        let b = line-bound (ids_of done) v in
        rw (e, values-more done x)
        (get_or-append (z ∷ claimed_of done) (x.1 ∷ []) z (its_line place (ids_of done) v)
        (omega (arith, ids-length done, claimed-length done)))

    pub value-new : its_line place (ids_of (done ++ (x ∷ []))) v ≡ length done + 1 → value_of place z (done ++ (x ∷ [])) v ≡ x.1
    unfolding value_of
    value-new e =
        let k : length done + 1 ≡ suc (length (claimed_of done)) = omega (arith, claimed-length done) in
        rw (e, values-more done x, k) (get_or-append_seam (claimed_of done) x.1 [] z)

  -- ---- what one line more does to the claim lines of n vertices, by the new vertex that it names, or none
  pub record NewLine (n : ℕ) (named : List ℤ) (id : ℤ) (v : ℕ) : Type 0 where
    pub inside : v < n
    pub before : its_line place named v ≡ 0
    pub line : its_line place (named ++ (id ∷ [])) v ≡ length named + 1
    pub others : (u : ℕ) → (u ≡ v → ⊥) → its_line place (named ++ (id ∷ [])) u ≡ its_line place named u
    pub fresh : is_new place named (place id) ≡ true

  pub record NoLine (n : ℕ) (named : List ℤ) (id : ℤ) : Type 0 where
    pub all : (u : ℕ) → u < n → its_line place (named ++ (id ∷ [])) u ≡ its_line place named u
    pub stray : is_new place named (place id) ≡ false

  abbrev pub Grown : ℕ → List ℤ → ℤ → Option ℕ → Type 0
  Grown n named id (Some v) = NewLine n named id v
  Grown n named id None = NoLine n named id

  -- ---- the record after k lines
  pub record Recorded (n width : ℕ) (named : List ℤ) (lines : List ℕ) (k stray : ℕ) : Type 0 where
    pub count : length named ≡ k
    pub wide : length lines ≡ width
    pub maps : Maps place n named lines
    pub strays : stray ≡ stray_line place named

  pub recorded-none : (n : ℕ) (lines : List ℕ) → lines ≡ cleared lines → Recorded n (length lines) [] lines 0 0
  unfolding stray_line failing_place its_line_from
  recorded-none n lines e =
      record { count = refl; wide = refl; maps = λ v l. rw e (replicate-at 0 (length lines) v); strays = refl }

  module _ {n width : ℕ} {named : List ℤ} {lines : List ℕ} {k stray : ℕ} (h : Recorded n width named lines k stray) where
    module _ (id : ℤ) where
      grown-at : (v : ℕ) → place id ≡ Some v → v < n → (t : Bool) → eqb (get_or lines v 0) 0 ≡ t → Grown n named id (cond t (Some v) None)
      grown-at v e l true t =
          let b : its_line place named v ≡ 0 = sym (h.maps v l) ∙ eqb-true (get_or lines v 0) 0 t in
          record {
            inside = l;
            before = b;
            line = line-more named id v ∙ rw (b, e, eq-eqb v v refl);
            others = λ u d. line-more named id u ∙ rw (e, ne_eqb v u (λ q. d (sym q))) (or-zero (its_line place named u));
            fresh = rw e (eq-eqb (its_line place named v) 0 b);
          }
      grown-at v e l false t =
          let b : its_line place named v ≡ 0 → ⊥ = λ q. eqb-false (get_or lines v 0) 0 t (h.maps v l ∙ q) in
          record {
            all = λ u m.
                line-more named id u
                ∙ elim (ℕ_discrete u v) as (λ _. or_else (its_line place named u) (cond (is_vertex (place id) u) (length named + 1) 0)
                ≡ its_line place named u) [
                  | yes q ↦ rw q (sym (or_kept (its_line place named v) _ b))
                  | no d ↦ rw (e, ne_eqb v u (λ q. d (sym q))) (or-zero (its_line place named u))
                ];
            stray = rw e (ne_eqb (its_line place named v) 0 b);
          }

      grown-by : (f : Option ℕ) → place id ≡ f → FoundBelow f n → Grown n named id (new_in lines f)
      grown-by (Some v) e l = grown-at v e l (eqb (get_or lines v 0) 0) refl
      grown-by None e l =
          record { all = λ u m. line-more named id u ∙ rw e (or-zero (its_line place named u)); stray = rw e }

      pub grown : FoundBelow (place id) n → Grown n named id (new_in lines (place id))
      grown l = grown-by (place id) refl l

    -- one line more
    module _ (id : ℤ) (room : n ≤ width) where
      next-by : (r : Option ℕ) → Grown n named id r
          → Recorded n width (named ++ (id ∷ [])) (set_at lines r (k + 1)) (k + 1) (stray_step r k stray)
      next-by (Some v) g =
          record {
            count = length-append named (id ∷ []) ∙ omega (arith, h.count);
            wide = length-set lines v (k + 1) ∙ h.wide;
            maps = λ u l.
                elim (ℕ_discrete u v) as (λ _. get_or (set lines v (k + 1)) u 0 ≡ its_line place (named ++ (id ∷ [])) u) [
                  | yes q ↦ rw q (get_or-set_same lines v (k + 1) 0 (omega (arith, g.inside, h.wide))
                      ∙ ap (λ (j : ℕ). j + 1) (sym h.count)
                      ∙ sym g.line)
                  | no d ↦ get_or-set_other lines v u (k + 1) 0 d ∙ h.maps u l ∙ sym (g.others u d)
                ];
            strays = h.strays ∙ sym (stray-more named id ∙ rw g.fresh (or-zero (stray_line place named)));
          }
      next-by None g =
          record {
            count = length-append named (id ∷ []) ∙ omega (arith, h.count);
            wide = h.wide;
            maps = λ u l. h.maps u l ∙ sym (g.all u l);
            strays = ap₂ (λ (a b : ℕ). or_else a (b + 1)) h.strays (sym h.count) ∙ sym (stray-more named id ∙ rw g.stray);
          }

      pub recorded-next : FoundBelow (place id) n → {r : Option ℕ} → r ≡ new_in lines (place id) → {left : List ℕ}
          → left ≡ set_at lines r (k + 1)
          → {i : ℕ} → i ≡ stray_step r k stray → Recorded n width (named ++ (id ∷ [])) left (k + 1) i
      recorded-next l {r} p q t = rw (q, t, p) (next-by (new_in lines (place id)) (grown id l))

    -- the first stray line is one of them
    pub strays-bound : stray ≤ k
    unfolding stray_line
    strays-bound = let b = failing-bound (names_new place named) (length named) 0 in omega (arith, h.strays, h.count)

    -- the claim ends after k lines
    pub recorded-end : end_line lines n k stray ≡ incomplete_line place n named
    unfolding end_line is_recorded incomplete_line
    recorded-end =
        ap₂ or_else h.strays
        (ap₂ (λ (t : Bool) (j : ℕ). cond t 0 (j + 1))
        (every-same (is_recorded lines) (has_line place named) n (λ v l. ap (λ (i : ℕ). not (eqb i 0)) (h.maps v l)))
        (sym h.count))

  -- the record has the line that is reported of a vertex
  pub maps-reported : (n : ℕ) (named : List ℤ) (lines : List ℕ) → Maps place n named lines → (m : ℕ) → m ≤ n
      → reported_in lines m ≡ reported_line place named m
  maps-reported n named lines maps zero l = refl
  maps-reported n named lines maps (suc v) l = maps v l
