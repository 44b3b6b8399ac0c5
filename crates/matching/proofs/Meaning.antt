-- What the verdicts mean: a complete claim is accepted exactly when it matches, by Graphalytics' rule, at every vertex. Assumes nothing.
use Rattle.std.specs.Prelude.{Some}
use mathlib.Core.Path.{◌≡◌, refl, sym, ap, ap₂, ◌∙◌, subst}
use mathlib.Core.Bool.{Bool, true, false, cond, beq, ◌&&◌}
use mathlib.Core.Logic.{◌↔◌}
use mathlib.Core.List.{List, [], ◌∷◌, map}
use Prim.Native.Nat.{ℕ, zero, suc, ◌*◌, ◌^◌, ◌≤◌, ◌<◌}
use native.Mathlib.Nat.{not-suc-le-zero, mul-pos, pos_of_ne-zero}
use native.Mathlib.Omega.{arith}
use native.Mathlib.Decide.{ℕ_discrete, dec_lt}
use lib.Dec.{eqb, leb}
use borrow.Author.Tests.{eq-eqb, eqb-true, eqb-false, le-leb, leb-true}
use lib.IntN.{ℤ, pos}
use lib.ListN.{length, get_or}
use lib.Seq.{ext_get_or}
use Rattle.basis.specs.Refusal.{Said, gives}
use Rattle.basis.specs.Order.{same_z, rising_z}
use Rattle.basis.proofs.Areas.{column-length}
use Rattle.graph.specs.Find.{place_in}
use Rattle.graph.proofs.Finds.{place_at}
use Rattle.basis.proofs.Tests.{clash, bool_cases, same_test}
use Rattle.basis.proofs.Saids.{given-one}
use Rattle.basis.proofs.Orders.{signed-order}
use Rattle.text.specs.declared.decimal.Decimal.{Decimal}
use Rattle.matching.specs.Close.{distance, is_close}
use Rattle.matching.specs.Claim.{ids_of, claimed_of}
use Rattle.matching.specs.Verdict.{Verdict, matched, incomplete_at, mismatch_at, Fraction, near, first_place}
use Rattle.matching.specs.Verdict.{unequal_vertex, same_kind, agrees, unlike_vertex, far_vertex, verdict_of, judged_by}
use Rattle.matching.specs.Cover.{incomplete_line, value_of, in_order, reported_line}
use Rattle.matching.specs.Good.{Least, Alike, EqualWhere, TwoWay, LineOf, Covers, Lacks, line_by_line}
use Rattle.matching.proofs.Closeness.{cancel, window, ten-pos, zero-only}
use Rattle.matching.proofs.FirstPlaces.{first-bound, failing-bound}
use Rattle.matching.proofs.Leasts.{first-exactly, unlike-none}
use Rattle.matching.proofs.Readings.{ids-length, claimed-length}
use Rattle.matching.proofs.Covers.{incomplete-least, complete-exactly, covered-line, line-covered, values_one}

-- ---- "10,000 times |r-s| at most r": what matches the fraction a / b
module _ (a b : ℕ) (s : Decimal) where
  -- "Equality matches"
  pub equality-matches : a * 10 ^ s.down ≡ b * (s.digits * 10 ^ s.up) → is_close a b s ≡ true
  unfolding is_close
  equality-matches e = le-leb (10000 * distance (a * 10 ^ s.down) (b * (s.digits * 10 ^ s.up))) (a * 10 ^ s.down) (omega arith)

  -- "r = 0 matches only zero"; a fraction has a denominator
  pub zero-matches : 0 < b → a ≡ 0 → (is_close a b s ≡ true) ↔ (s.digits ≡ 0)
  zero-matches p e =
      let f : is_close a b s ≡ eqb s.digits 0 = ap (λ (x : ℕ). is_close x b s) e ∙ zero-only b s.digits s.up s.down p in
      (λ t. eqb-true s.digits 0 (sym f ∙ t), λ z. f ∙ eq-eqb s.digits 0 z)

  -- and a decimal that is zero matches only r = 0
  pub zero-matched : s.digits ≡ 0 → (is_close a b s ≡ true) ↔ (a ≡ 0)
  unfolding is_close
  zero-matched z = (
    λ t.
        let h : 10000 * distance (a * 10 ^ s.down) (b * (0 * 10 ^ s.up)) ≤ a * 10 ^ s.down = leb-true _ _ (rw z at t) in
        let g : a * 10 ^ s.down ≡ 0 = omega arith in
        bool_cases (eqb a 0) (a ≡ 0) (λ q. eqb-true a 0 q)
        (λ q. absurd (omega (arith, mul-pos (pos_of_ne-zero (eqb-false a 0 q)) (ten-pos s.down)))),
    λ e. equality-matches (rw (e, z) (omega arith)),
  )

  -- the answer does not change when numerator and denominator are both multiplied
  pub scaled-alike : (c : ℕ) → 0 < c → is_close (c * a) (c * b) s ≡ is_close a b s
  unfolding is_close
  scaled-alike c p =
      let x = a * 10 ^ s.down in
      let y = b * (s.digits * 10 ^ s.up) in
      let lo : 9999 * (c * a * 10 ^ s.down) ≡ 9999 * (a * 10 ^ s.down) * c = omega arith in
      let md : 10000 * (c * b * (s.digits * 10 ^ s.up)) ≡ 10000 * (b * (s.digits * 10 ^ s.up)) * c = omega arith in
      let hi : 10001 * (c * a * 10 ^ s.down) ≡ 10001 * (a * 10 ^ s.down) * c = omega arith in
      window (c * a * 10 ^ s.down) (c * b * (s.digits * 10 ^ s.up))
      ∙ ap₂ ◌&&◌ (ap₂ leb lo md ∙ cancel (9999 * x) (10000 * y) c p) (ap₂ leb md hi ∙ cancel (10000 * y) (10001 * x) c p)
      ∙ sym (window x y)

-- so it goes by the number that the fraction is, in lowest terms or not
pub same-fraction : (a b c d : ℕ) (s : Decimal) → 0 < b → 0 < d → a * d ≡ c * b → is_close a b s ≡ is_close c d s
same-fraction a b c d s p q e =
    let x : d * a ≡ b * c = omega arith in
    let y : d * b ≡ b * d = omega arith in
    sym (scaled-alike a b s d q) ∙ ap₂ (λ (x y : ℕ). is_close x y s) x y ∙ scaled-alike c d s b p

abbrev pub accepted : Said Verdict
accepted = gives matched

-- two lists of numbers are alike exactly where they are the same
pub same-list : (xs ys : List ℤ) → (first_place same_z 1 xs ys ≡ 0) ↔ (ys ≡ xs)
same-list xs ys =
    let f = first-exactly same_z (pos 0) (pos 0) xs ys in (
      λ e.
          let h = f.0 e in
          ext_get_or (pos 0) ys xs (sym h.long) (λ i l.
          sym (signed-order.same-eq _ _ (h.everywhere i (subst (λ (j : ℕ). i < j) (sym h.long) l)))),
      λ e. f.1 (record { long = sym (ap length e); everywhere = λ i l. rw e (signed-order.same_refl (get_or xs i (pos 0))) }),
    )

-- ---- what a verdict says of the first incomplete line and the line of the mismatch
numbered : {v w : Verdict} → ◌≡◌ {A = Said Verdict} (gives v) (gives w) → (v.number ≡ w.number) × (v.line ≡ w.line)
numbered e = let f = given-one e in (ap (λ (v : Verdict). v.number) f, ap (λ (v : Verdict). v.line) f)

match-of : (n m : ℕ) → gives (verdict_of n m) ≡ accepted → (n ≡ 0) × (m ≡ 0)
match-of zero zero e = (refl, refl)
match-of zero (suc m) e = absurd (let f = numbered e in omega arith)
match-of (suc n) m e = absurd (let f = numbered e in omega arith)

incomplete-of : (n m i : ℕ) → gives (verdict_of n m) ≡ gives (incomplete_at (suc i)) → n ≡ suc i
incomplete-of zero zero i e = absurd (let f = numbered e in omega arith)
incomplete-of zero (suc m) i e = absurd (let f = numbered e in omega arith)
incomplete-of (suc n) m i e = (numbered e).1

mismatch-of : (n m i : ℕ) → gives (verdict_of n m) ≡ gives (mismatch_at (suc i)) → (n ≡ 0) × (m ≡ suc i)
mismatch-of zero zero i e = absurd (let f = numbered e in omega arith)
mismatch-of zero (suc m) i e = (refl, (numbered e).1)
mismatch-of (suc n) m i e = absurd (let f = numbered e in omega arith)

-- ---- a method names one of the vertices, or none, beside a reference output of one value for each
module _ (ids : List ℤ) where
  -- the first place at which two lists differ is that of a vertex
  pub first-within : {A B : Type 0} (alike : A → B → Bool) (reference : List A) → length reference ≡ length ids
      → (vs : List B) → length vs ≡ length ids → first_place alike 1 reference vs ≤ length ids
  first-within alike reference long vs e = let h = first-bound alike 0 reference vs (long ∙ sym e) in omega arith

  pub unlike-within : (labels : List ℤ) → length labels ≡ length ids → (vs : List ℤ) → length vs ≡ length ids
      → unlike_vertex labels vs ≤ length ids
  unfolding unlike_vertex
  unlike-within labels long vs e = let h = failing-bound (agrees labels vs) (length labels) 0 in omega arith

-- ---- the verdict on a claim's lines, by identifiers that rise and a method that names one of the vertices, or none
module _ {A : Type 0} (ids : List ℤ) (r : rising_z ids ≡ true) (z : A) (mismatch : List A → ℕ)
    (within : (vs : List A) → length vs ≡ length ids → mismatch vs ≤ length ids) (l : List (ℤ × A)) where
  abbrev values : List A
  values = in_order (place_in ids) z (length ids) l

  abbrev judged : Said Verdict
  judged = judged_by (place_in ids) (length ids) z mismatch (gives l)

  fault-within : mismatch values ≤ length ids
  fault-within = within values (column-length (value_of (place_in ids) z l) 0 (length ids))

  -- a vertex at fault is reported by a line
  reported-none : Covers ids (ids_of l) → (m : ℕ) → m ≤ length ids → reported_line (place_in ids) (ids_of l) m ≡ 0 → m ≡ 0
  reported-none c zero b e = refl
  reported-none c (suc v) b e = let h = line-covered ids r (ids_of l) c v b in absurd (omega (arith, h.1))

  reported-some : Covers ids (ids_of l) → (m i : ℕ) → m ≤ length ids → reported_line (place_in ids) (ids_of l) m ≡ suc i
      → (v : ℕ) × (m ≡ suc v) × LineOf ids (ids_of l) v i
  reported-some c zero i b e = absurd (omega arith)
  reported-some c (suc v) i b e =
      let h = line-covered ids r (ids_of l) c v b in
      let q : h.0 ≡ i = omega (arith, h.1) in
      (v, refl, subst (LineOf ids (ids_of l) v) q h.2)

  pub accepted-exactly : (judged ≡ accepted) ↔ (Covers ids (ids_of l) × (mismatch values ≡ 0))
  unfolding judged_by
  accepted-exactly = (
    λ e.
        let w = match-of (incomplete_line (place_in ids) (length ids) (ids_of l))
        (reported_line (place_in ids) (ids_of l) (mismatch values)) e in
        let c = (complete-exactly ids r (ids_of l)).0 w.0 in
        (c, reported-none c (mismatch values) fault-within w.1),
    λ h. rw ((complete-exactly ids r (ids_of l)).1 h.0, h.1),
  )

  -- "Incomplete is now: the first line naming an unknown or already named vertex, or, if none, the line after the last"
  pub incomplete-exactly : (i : ℕ) → (judged ≡ gives (incomplete_at (suc i))) ↔ Least (Lacks ids (ids_of l)) i
  unfolding judged_by
  incomplete-exactly i =
      let f = incomplete-least ids r (ids_of l) i in (
        λ e. f.0 (incomplete-of (incomplete_line (place_in ids) (length ids) (ids_of l))
            (reported_line (place_in ids) (ids_of l) (mismatch values)) i e),
        λ h. rw (f.1 h),
      )

  -- "A mismatch is the smallest vertex at fault, reported by its claim line"
  pub mismatch-exactly : (i : ℕ) → (judged ≡ gives (mismatch_at (suc i)))
      ↔ (Covers ids (ids_of l) × ((v : ℕ) × (mismatch values ≡ suc v) × LineOf ids (ids_of l) v i))
  unfolding judged_by
  mismatch-exactly i = (
    λ e.
        let w = mismatch-of (incomplete_line (place_in ids) (length ids) (ids_of l))
        (reported_line (place_in ids) (ids_of l) (mismatch values)) i e in
        let c = (complete-exactly ids r (ids_of l)).0 w.0 in
        (c, reported-some c (mismatch values) i fault-within w.1),
    λ h. rw ((complete-exactly ids r (ids_of l)).1 h.0, h.1.1, covered-line ids r (ids_of l) h.0 h.1.0 i h.1.2),
  )

  by-match : {M : Type 0} → ((mismatch values ≡ 0) ↔ M) → Covers ids (ids_of l) → (judged ≡ accepted) ↔ M
  by-match x c = (λ e. x.0 (accepted-exactly.0 e).1, λ m. accepted-exactly.1 (c, x.1 m))

-- ---- a claim whose lines name the vertices in vertex order
module _ {A : Type 0} (ids : List ℤ) (r : rising_z ids ≡ true) (z : A) (l : List (ℤ × A)) (e : ids_of l ≡ ids) where
  own_line : (v i : ℕ) → LineOf ids (ids_of l) v i → i ≡ v
  own_line v i h =
      let m : i < length ids = rw e at h.line in
      let p = place_at ids (get_or ids v (pos 0)) r in
      let q : get_or ids i (pos 0) ≡ get_or ids v (pos 0) = ap (λ (k : List ℤ). get_or k i (pos 0)) (sym e) ∙ h.names in
      let t : Some i ≡ Some v = sym ((p i).1 (m, q)) ∙ (p v).1 (h.vertex, refl) in
      cc

  line-own : (v : ℕ) → v < length ids → LineOf ids (ids_of l) v v
  line-own v m = record { vertex = m; line = rw e m; names = rw e }

  pub covers-own : Covers ids (ids_of l)
  covers-own =
      record {
        known = λ i m. (i, line-own i (rw e at m));
        once = λ v i j h g. own_line v i h ∙ sym (own_line v j g);
        all = λ v m. (v, line-own v m);
      }

  pub values-own : in_order (place_in ids) z (length ids) l ≡ claimed_of l
  values-own =
      sym (values_one ids r z l covers-own (claimed_of l)
      (record {
        long = claimed-length l ∙ sym (ids-length l) ∙ ap length e;
        from = λ v i h. ap (λ (k : ℕ). get_or (claimed_of l) k z) (sym (own_line v i h));
      }))

  -- gets the verdict that it got line by line
  pub own-verdict : (mismatch : List A → ℕ) → ((vs : List A) → length vs ≡ length ids → mismatch vs ≤ length ids)
      → judged_by (place_in ids) (length ids) z mismatch (gives l) ≡ line_by_line ids mismatch (gives l)
  unfolding judged_by
  own-verdict mismatch within =
      ap gives
      (ap₂ verdict_of
      ((complete-exactly ids r (ids_of l)).1 covers-own ∙ sym ((same-list ids (ids_of l)).1 e))
      (ap (λ (vs : List A). reported_line (place_in ids) (ids_of l) (mismatch vs)) values-own
      ∙ by (mismatch (claimed_of l)) (within (claimed_of l) (claimed-length l ∙ sym (ids-length l) ∙ ap length e))))
    where
      by : (m : ℕ) → m ≤ length ids → reported_line (place_in ids) (ids_of l) m ≡ m
      by zero b = refl
      by (suc v) b = covered-line ids r (ids_of l) covers-own v v (line-own v b)

-- ---- the three methods on the lines of a complete claim
-- "Exact match": "the vertex values of the system's output should be identical to the reference output"
pub exact-match : (ids reference : List ℤ) → rising_z ids ≡ true → length reference ≡ length ids → (l : List (ℤ × ℤ))
    → Covers ids (ids_of l)
    → (judged_by (place_in ids) (length ids) (pos 0) (unequal_vertex reference) (gives l) ≡ accepted)
    ↔ (in_order (place_in ids) (pos 0) (length ids) l ≡ reference)
exact-match ids reference r long l =
    by-match ids r (pos 0) (unequal_vertex reference) (first-within ids same_z reference long) l
    (same-list reference (in_order (place_in ids) (pos 0) (length ids) l))

-- "Epsilon match": every decimal is close to the fraction of its vertex
pub epsilon-match : (any : Decimal) (ids : List ℤ) (reference : List Fraction) → rising_z ids ≡ true → length reference ≡ length ids
    → (l : List (ℤ × Decimal)) → Covers ids (ids_of l)
    → (judged_by (place_in ids) (length ids) any (far_vertex reference) (gives l) ≡ accepted)
    ↔ Alike near (0, 1) any reference (in_order (place_in ids) any (length ids) l)
epsilon-match any ids reference r long l =
    by-match ids r any (far_vertex reference) (first-within ids near reference long) l
    (first-exactly near (0, 1) any reference (in_order (place_in ids) any (length ids) l))

-- ---- "Equivalence match"
-- what stands beside the first z in a list of keys
beside : List ℤ → List ℤ → ℤ → ℤ
beside [] vs z = z
beside (k ∷ ks) [] z = z
beside (k ∷ ks) (v ∷ vs) z = cond (same_z k z) v (beside ks vs z)

beside_at : (ks vs : List ℤ) → length ks ≡ length vs → (z w : ℤ)
    → ((j : ℕ) → j < length ks → same_z (get_or ks j (pos 0)) z ≡ true → get_or vs j (pos 0) ≡ w)
    → (i : ℕ) → i < length ks → same_z (get_or ks i (pos 0)) z ≡ true → beside ks vs z ≡ w
unfolding beside
beside_at [] vs e z w h i l t = absurd (not-suc-le-zero l)
beside_at (k ∷ ks) [] e z w h i l t = absurd (omega arith)
beside_at (k ∷ ks) (v ∷ vs) e z w h i l t = by (same_z k z) refl i l t (beside_at ks vs (omega arith) z w (λ j m. h (suc j) (omega arith)))
  where
    by : (s : Bool) → same_z k z ≡ s → (i : ℕ) → i < suc (length ks) → same_z (get_or (k ∷ ks) i (pos 0)) z ≡ true
        → ((i : ℕ) → i < length ks → same_z (get_or ks i (pos 0)) z ≡ true → beside ks vs z ≡ w) → cond s v (beside ks vs z) ≡ w
    by true q i l t f = h 0 (omega arith) q
    by false q zero l t f = clash t q
    by false q (suc i) l t f = f i (omega arith) t

same-sym : (x y : ℤ) → same_z x y ≡ same_z y x
same-sym x y =
    same_test (same_z x y) (same_z y x) (λ t. rw (signed-order.same-eq x y t) (signed-order.same_refl y))
    (λ t. rw (signed-order.same-eq y x t) (signed-order.same_refl x))

beq-eq : (s t : Bool) → beq s t ≡ true → s ≡ t
beq-eq true true e = refl
beq-eq true false e = clash e refl
beq-eq false true e = clash e refl
beq-eq false false e = refl

beq-refl : (s : Bool) → beq s s ≡ true
beq-refl true = refl
beq-refl false = refl

module _ (a b : List ℤ) where
  -- every two places agree in kind
  abbrev Kinds : Type 0
  Kinds = (i j : ℕ) → i < length a → j < length a → same_z (get_or a i (pos 0)) (get_or a j (pos 0))
      ≡ same_z (get_or b i (pos 0)) (get_or b j (pos 0))

  kinds-of : unlike_vertex a b ≡ 0 → Kinds
  unfolding same_kind
  kinds-of h i j k l =
      elim (dec_lt j i) as (λ _. same_z (get_or a i (pos 0)) (get_or a j (pos 0)) ≡ same_z (get_or b i (pos 0)) (get_or b j (pos 0))) [
        | yes f ↦ earlier i j k f
        | no f ↦
            elim (ℕ_discrete i j) as (λ _. same_z (get_or a i (pos 0)) (get_or a j (pos 0))
            ≡ same_z (get_or b i (pos 0)) (get_or b j (pos 0))) [
              | yes q ↦ rw q (signed-order.same_refl (get_or a j (pos 0)) ∙ sym (signed-order.same_refl (get_or b j (pos 0))))
              | no d ↦ same-sym (get_or a i (pos 0)) (get_or a j (pos 0)) ∙ earlier j i l (omega arith)
                  ∙ same-sym (get_or b j (pos 0)) (get_or b i (pos 0))
            ]
      ]
    where
      earlier : (i j : ℕ) → i < length a → j < i → same_z (get_or a i (pos 0)) (get_or a j (pos 0))
          ≡ same_z (get_or b i (pos 0)) (get_or b j (pos 0))
      earlier i j k f =
          sym
          (beq-eq _ _
          (bool_cases (same_kind a b i j) (same_kind a b i j ≡ true) (λ t. t)
          (λ t. absurd ((unlike-none a b).0 h i (record { inside = k; smaller = j; is_smaller = f; unlike = t })))))

  kinds-all : Kinds → unlike_vertex a b ≡ 0
  unfolding same_kind
  kinds-all h =
      (unlike-none a b).1
      (λ i d. clash (rw (h i d.smaller d.inside (omega (arith, d.is_smaller, d.inside)))
      (beq-refl (same_z (get_or b i (pos 0)) (get_or b d.smaller (pos 0))))) d.unlike)

  -- "equal claims exactly where components are equal", for labels that are equal where places belong together
  pub equal-exactly : (n : ℕ) → length a ≡ n → (Together : ℕ → ℕ → Type 0) → EqualWhere n Together a
      → (unlike_vertex a b ≡ 0) ↔ EqualWhere n Together b
  equal-exactly n e Together same = (
    λ z i j k l.
        let h = kinds-of z i j (omega arith) (omega arith) in (
          λ q. (same i j k l).0 (signed-order.same-eq _ _ (h ∙ rw q (signed-order.same_refl (get_or b j (pos 0))))),
          λ p. signed-order.same-eq _ _ (sym h ∙ rw ((same i j k l).1 p) (signed-order.same_refl (get_or a j (pos 0)))),
        ),
    λ f.
        kinds-all
        (λ i j k l.
        let t = same i j (omega arith) (omega arith) in
        let u = f i j (omega arith) (omega arith) in
        same_test (same_z (get_or a i (pos 0)) (get_or a j (pos 0))) (same_z (get_or b i (pos 0)) (get_or b j (pos 0)))
        (λ q. rw (u.1 (t.0 (signed-order.same-eq _ _ q))) (signed-order.same_refl (get_or b j (pos 0))))
        (λ q. rw (t.1 (u.0 (signed-order.same-eq _ _ q))) (signed-order.same_refl (get_or a j (pos 0))))),
  )

  module _ (e : length a ≡ length b) where
    two-way : Kinds → TwoWay a b
    two-way h =
        record {
          there = beside b a;
          back = beside a b;
          maps = λ i l. beside_at b a (sym e) (get_or b i (pos 0)) (get_or a i (pos 0))
              (λ j k t. signed-order.same-eq _ _ (h j i (omega arith) l ∙ t)) i (omega arith) (signed-order.same_refl (get_or b i (pos 0)));
          inverse =
              λ i l. beside_at a b e (get_or a i (pos 0)) (get_or b i (pos 0)) (λ j k t. signed-order.same-eq _ _ (sym (h j i k l) ∙ t)) i l
              (signed-order.same_refl (get_or a i (pos 0)));
        }

    one_way : TwoWay a b → Kinds
    one_way w i j k l =
        same_test (same_z (get_or a i (pos 0)) (get_or a j (pos 0))) (same_z (get_or b i (pos 0)) (get_or b j (pos 0)))
        (λ t. rw (sym (w.inverse i k) ∙ ap w.back (signed-order.same-eq _ _ t) ∙ w.inverse j l)
        (signed-order.same_refl (get_or b j (pos 0))))
        (λ t. rw (sym (w.maps i k) ∙ ap w.there (signed-order.same-eq _ _ t) ∙ w.maps j l)
        (signed-order.same_refl (get_or a j (pos 0))))

    -- "all vertices which have the same label in the system's output also have the same label in the reference output, and vice versa"
    pub unlike-exactly : (unlike_vertex a b ≡ 0) ↔ (TwoWay a b)
    unlike-exactly = (λ h. two-way (kinds-of h), λ w. kinds-all (one_way w))

pub equivalence-match : (ids reference : List ℤ) → rising_z ids ≡ true → length reference ≡ length ids → (l : List (ℤ × ℤ))
    → Covers ids (ids_of l)
    → (judged_by (place_in ids) (length ids) (pos 0) (unlike_vertex reference) (gives l) ≡ accepted)
    ↔ TwoWay reference (in_order (place_in ids) (pos 0) (length ids) l)
equivalence-match ids reference r long l =
    by-match ids r (pos 0) (unlike_vertex reference) (unlike-within ids reference long) l
    (unlike-exactly reference (in_order (place_in ids) (pos 0) (length ids) l)
    (long ∙ sym (column-length (value_of (place_in ids) (pos 0) l) 0 (length ids))))

-- a reference output under a renaming that keeps labels apart
map_at : (f : ℤ → ℤ) (l : List ℤ) (i : ℕ) → i < length l → get_or (map f l) i (pos 0) ≡ f (get_or l i (pos 0))
map_at f [] i h = absurd (not-suc-le-zero h)
map_at f (x ∷ l) zero h = refl
map_at f (x ∷ l) (suc i) h = map_at f l i (omega arith)

pub map-length : (f : ℤ → ℤ) (l : List ℤ) → length (map f l) ≡ length l
map-length f [] = refl
map-length f (x ∷ l) = ap suc (map-length f l)

pub renamed : (f : ℤ → ℤ) → ((x y : ℤ) → f x ≡ f y → x ≡ y) → (reference : List ℤ) → TwoWay reference (map f reference)
renamed f apart reference =
    two-way reference (map f reference) (sym (map-length f reference))
    (λ i j k l.
    let x = get_or reference i (pos 0) in
    let y = get_or reference j (pos 0) in
    rw (map_at f reference i k, map_at f reference j l)
    (same_test (same_z x y) (same_z (f x) (f y))
    (λ t. rw (signed-order.same-eq x y t) (signed-order.same_refl (f y)))
    (λ t. rw (apart x y (signed-order.same-eq (f x) (f y) t)) (signed-order.same_refl y))))
