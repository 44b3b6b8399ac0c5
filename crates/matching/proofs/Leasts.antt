-- A first place is the least at fault, both ways, and 0 exactly where no place is. Assumes nothing.
use mathlib.Core.Path.{◌≡◌, refl, sym, ap, ◌∙◌, subst}
use mathlib.Core.Bool.{Bool, true, false, cond}
use mathlib.Core.Logic.{◌↔◌, ◌⊎◌, inl, inr}
use mathlib.Core.List.{List, [], ◌∷◌}
use Prim.Native.Nat.{ℕ, zero, suc, ◌+◌, ◌≤◌, ◌<◌}
use native.Mathlib.Nat.{not-suc-le-zero, min-eq_left, min-eq_right}
use native.Mathlib.Omega.{arith}
use native.Mathlib.Decide.{dec_lt, ℕ_discrete}
use lib.Dec.{eqb}
use lib.IntN.{ℤ}
use lib.ListN.{length, get_or}
use borrow.Author.Tests.{eqb-true, eqb-false}
use Rattle.basis.proofs.Tests.{clash, bool_cases}
use Rattle.basis.proofs.Scans.{every-fail, every_some}
use Rattle.matching.specs.Cover.{failing_place}
use Rattle.matching.specs.Verdict.{first_place, same_kind, agrees, unlike_vertex}
use Rattle.matching.specs.Steps.{lesser_fault}
use Rattle.matching.specs.Good.{Least, Alike, Differs, other, missing, surplus, Disagrees}

-- ---- a line, counted from k on, that is 0 where no place has P and else is that of the least
abbrev pub Finds : (ℕ → Type 0) → ℕ → ℕ → Type 0
Finds P k line = ((line ≡ 0) × ((j : ℕ) → P j → ⊥)) ⊎ ((i : ℕ) × (line ≡ suc (k + i)) × Least P i)

pub finds-same : {P Q : ℕ → Type 0} {line : ℕ} → ((j : ℕ) → P j → Q j) → ((j : ℕ) → Q j → P j) → Finds P 0 line → Finds Q 0 line
finds-same f g (inl h) = inl (h.0, λ j q. h.1 j (g j q))
finds-same f g (inr h) = inr (h.0, h.1, record { here = f h.0 h.2.here; least = λ j q. h.2.least j (g j q) })

module _ {P : ℕ → Type 0} {line : ℕ} where
  pub finds-exactly : Finds P 0 line → (i : ℕ) → (line ≡ suc i) ↔ Least P i
  finds-exactly (inl h) i = (λ e. absurd (omega (arith, h.0)), λ l. absurd (h.1 i l.here))
  finds-exactly (inr h) i = (
    λ e. let q : h.0 ≡ i = omega (arith, h.1) in subst (Least P) q h.2,
    λ l. omega (arith, h.1, h.2.least i l.here, l.least h.0 h.2.here),
  )

  pub finds-none : Finds P 0 line → (line ≡ 0) ↔ ((j : ℕ) → P j → ⊥)
  finds-none (inl h) = (λ e. h.1, λ n. h.0)
  finds-none (inr h) = (λ e. absurd (omega (arith, h.1)), λ n. absurd (n h.0 h.2.here))

-- of the places behind a first one that has it not
pub finds-later : {P Q : ℕ → Type 0} (k : ℕ) {line : ℕ} → (Q 0 → ⊥) → ((j : ℕ) → P j → Q (suc j)) → ((j : ℕ) → Q (suc j) → P j)
    → Finds P (suc k) line → Finds Q k line
finds-later {P} {Q} k n f g (inl h) = inl (h.0, nowhere)
  where
    nowhere : (j : ℕ) → Q j → ⊥
    nowhere zero q = n q
    nowhere (suc j) q = h.1 j (g j q)
finds-later {P} {Q} k n f g (inr h) = inr (suc h.0, omega (arith, h.1), record { here = f h.0 h.2.here; least = later })
  where
    later : (j : ℕ) → Q j → suc h.0 ≤ j
    later zero q = absurd (n q)
    later (suc j) q = let l = h.2.least j (g j q) in omega arith

finds-one : {P : ℕ → Type 0} {a b : ℕ} → Finds P 0 a → Finds P 0 b → a ≡ b
finds-one (inl h) (inl g) = h.0 ∙ sym g.0
finds-one (inl h) (inr g) = absurd (h.1 g.0 g.2.here)
finds-one (inr h) (inl g) = absurd (g.1 h.0 h.2.here)
finds-one (inr h) (inr g) = omega (arith, h.1, g.1, h.2.least g.0 g.2.here, g.2.least h.0 h.2.here)

-- ---- two lists side by side
module _ {A B : Type 0} (alike : A → B → Bool) (x : A) (y : B) where
  abbrev At : List A → List B → ℕ → Type 0
  At xs ys i = Differs alike x y xs ys i

  none-at : (i : ℕ) → At [] [] i → ⊥
  none-at i (other p q t) = not-suc-le-zero p
  none-at i (missing p q) = not-suc-le-zero q
  none-at i (surplus p q) = not-suc-le-zero q

  module _ {a : A} {b : B} {xs : List A} {ys : List B} where
    at-later : (i : ℕ) → At xs ys i → At (a ∷ xs) (b ∷ ys) (suc i)
    at-later i (other p q t) = other (omega arith) (omega arith) t
    at-later i (missing p q) = missing (omega arith) (omega arith)
    at-later i (surplus p q) = surplus (omega arith) (omega arith)

    at_tail : (i : ℕ) → At (a ∷ xs) (b ∷ ys) (suc i) → At xs ys i
    at_tail i (other p q t) = other (omega arith) (omega arith) t
    at_tail i (missing p q) = missing (omega arith) (omega arith)
    at_tail i (surplus p q) = surplus (omega arith) (omega arith)

    at_first : alike a b ≡ true → At (a ∷ xs) (b ∷ ys) 0 → ⊥
    at_first e (other p q t) = clash e t
    at_first e (missing p q) = not-suc-le-zero p
    at_first e (surplus p q) = not-suc-le-zero p

  first_finds : (k : ℕ) (xs : List A) (ys : List B) → Finds (At xs ys) k (first_place alike (k + 1) xs ys)
  unfolding first_place
  first_finds k [] [] = inl (refl, none-at)
  first_finds k [] (b ∷ ys) = inr (0, omega arith, record { here = surplus (omega arith) (omega arith); least = λ j d. omega arith })
  first_finds k (a ∷ xs) [] = inr (0, omega arith, record { here = missing (omega arith) (omega arith); least = λ j d. omega arith })
  first_finds k (a ∷ xs) (b ∷ ys) = by (alike a b) refl (first_finds (k + 1) xs ys)
    where
      by : (t : Bool) → alike a b ≡ t → Finds (At xs ys) (k + 1) (first_place alike (k + 1 + 1) xs ys)
          → Finds (At (a ∷ xs) (b ∷ ys)) k (cond t (first_place alike (k + 1 + 1) xs ys) (k + 1))
      by true q h =
          finds-later k (at_first q) at-later at_tail
          (let e : k + 1 ≡ suc k = omega arith in subst (λ (j : ℕ). Finds (At xs ys) j (first_place alike (k + 1 + 1) xs ys)) e h)
      by false q h = inr (0, omega arith, record { here = other (omega arith) (omega arith) q; least = λ j d. omega arith })

  module _ (xs : List A) (ys : List B) where
    -- a first place is the least at which the second list differs from the first, counted from 1
    pub first-least : (i : ℕ) → (first_place alike 1 xs ys ≡ suc i) ↔ Least (Differs alike x y xs ys) i
    first-least i = finds-exactly (first_finds 0 xs ys) i

    alike_of : ((j : ℕ) → At xs ys j → ⊥) → Alike alike x y xs ys
    alike_of n =
        record {
          long = same;
          everywhere =
              λ i l. bool_cases (alike (get_or xs i x) (get_or ys i y)) _ (λ t. t) (λ t. absurd (n i (other l (omega (arith, same)) t)));
        }
      where
        same : length xs ≡ length ys
        same =
            elim (dec_lt (length xs) (length ys)) as (λ _. length xs ≡ length ys) [
              | yes f ↦ absurd (n (length xs) (surplus (omega arith) f))
              | no f ↦
                  elim (dec_lt (length ys) (length xs)) as (λ _. length xs ≡ length ys) [
                    | yes g ↦ absurd (n (length ys) (missing (omega arith) g))
                    | no g ↦ omega arith
                  ]
            ]

    none-differs : Alike alike x y xs ys → (j : ℕ) → At xs ys j → ⊥
    none-differs h j (other p q t) = clash (h.everywhere j p) t
    none-differs h j (missing p q) = omega (arith, h.long)
    none-differs h j (surplus p q) = omega (arith, h.long)

    -- there is none exactly where the two are alike at every place
    pub first-exactly : (first_place alike 1 xs ys ≡ 0) ↔ Alike alike x y xs ys
    first-exactly = let f = finds-none (first_finds 0 xs ys) in (λ e. alike_of (f.0 e), λ h. f.1 (none-differs h))

-- ---- the places from i on that fail a test
abbrev pub Fails : (ℕ → Bool) → ℕ → ℕ → ℕ → Type 0
Fails p n i j = (i ≤ j) × (j < i + n) × (p j ≡ false)

pub failing-finds : (p : ℕ → Bool) (n i : ℕ) → Finds (Fails p n i) 0 (failing_place p n i)
unfolding failing_place
failing-finds p zero i = inl (refl, λ j h. omega (arith, h.0, h.1))
failing-finds p (suc n) i = by (p i) refl (failing-finds p n (i + 1))
  where
    by : (t : Bool) → p i ≡ t → Finds (Fails p n (i + 1)) 0 (failing_place p n (i + 1))
        → Finds (Fails p (suc n) i) 0 (cond t (failing_place p n (i + 1)) (i + 1))
    by true q h =
        finds-same (λ j f. (omega (arith, f.0), omega (arith, f.1), f.2))
        (λ j f. (
          bool_cases (eqb i j) (i + 1 ≤ j) (λ t. clash (ap p (sym (eqb-true i j t)) ∙ q) f.2)
              (λ t. let d = eqb-false i j t in omega (arith, f.0)),
          omega (arith, f.1),
          f.2,
        )) h
    by false q h = inr (i, omega arith, record { here = (omega arith, omega arith, q); least = λ j f. f.0 })

-- a test that comes to fail at v, where it held, and is the same elsewhere
module _ (p q : ℕ → Bool) (n v : ℕ) (l : v < n) (e : p v ≡ true) (same : (u : ℕ) → u < n → (u ≡ v → ⊥) → q u ≡ p u) where
  fails-now : q v ≡ false → Finds (Fails p n 0) 0 (failing_place p n 0) → Finds (Fails q n 0) 0 (lesser_fault (failing_place p n 0) (v + 1))
  fails-now f (inl h) =
      rw h.0
      (inr (
        v,
        omega arith,
        record {
          here = (omega arith, omega arith, f);
          least = λ j g.
              elim (ℕ_discrete j v) as (λ _. v ≤ j) [
                | yes d ↦ omega arith
                | no d ↦ absurd (h.1 j (g.0, g.1, sym (same j (omega (arith, g.1)) d) ∙ g.2))
              ];
        },
      ))
  fails-now f (inr h) =
      let i = h.0 in
      let line : failing_place p n 0 ≡ suc i = omega (arith, h.1) in
      let at = h.2.here in
      elim (dec_lt i v) as (λ _. Finds (Fails q n 0) 0 (lesser_fault (failing_place p n 0) (v + 1))) [
        | yes k ↦
            rw (line, min-eq_left (let m : suc i ≤ v + 1 = omega arith in m))
            (inr (
              i,
              omega arith,
              record {
                here = (omega arith, at.1, same i (omega (arith, at.1)) (λ d. omega arith) ∙ at.2);
                least = λ j g.
                    elim (ℕ_discrete j v) as (λ _. i ≤ j) [
                      | yes d ↦ omega arith
                      | no d ↦ h.2.least j (g.0, g.1, sym (same j (omega (arith, g.1)) d) ∙ g.2)
                    ];
              },
            ))
        | no k ↦
            rw (line, min-eq_right (let m : v + 1 ≤ suc i = omega arith in m))
            (inr (
              v,
              omega arith,
              record {
                here = (omega arith, omega arith, f);
                least = λ j g.
                    elim (ℕ_discrete j v) as (λ _. v ≤ j) [
                      | yes d ↦ omega arith
                      | no d ↦ let m = h.2.least j (g.0, g.1, sym (same j (omega (arith, g.1)) d) ∙ g.2) in omega arith
                    ];
              },
            ))
      ]

  pub failing-now : q v ≡ false → failing_place q n 0 ≡ lesser_fault (failing_place p n 0) (v + 1)
  failing-now f = finds-one (failing-finds q n 0) (fails-now f (failing-finds p n 0))

-- ---- vertices that disagree in kind with a smaller one
module _ (labels claims : List ℤ) where
  unlike-finds : Finds (Disagrees labels claims) 0 (unlike_vertex labels claims)
  unfolding unlike_vertex agrees
  unlike-finds =
      finds-same
      (λ j f. let r = every_some (same_kind labels claims j) j f.2 in
      record { inside = omega (arith, f.1); smaller = r.0; is_smaller = r.1; unlike = r.2 })
      (λ j d. (omega arith, omega (arith, d.inside), every-fail (same_kind labels claims j) j d.smaller d.is_smaller d.unlike))
      (failing-finds (agrees labels claims) (length labels) 0)

  -- "for WCC the smallest vertex that disagrees with a smaller one"
  pub unlike-least : (i : ℕ) → (unlike_vertex labels claims ≡ suc i) ↔ Least (Disagrees labels claims) i
  unlike-least i = finds-exactly unlike-finds i

  pub unlike-none : (unlike_vertex labels claims ≡ 0) ↔ ((i : ℕ) → Disagrees labels claims i → ⊥)
  unlike-none = finds-none unlike-finds
