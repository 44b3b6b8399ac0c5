-- Laws of the bisection, over any order: what a loop that bisects keeps, and that in a rising list it finds what is there. Assumes nothing.
use Prim.Native.Nat.{ℕ, zero, suc, ◌+◌, ◌-◌, ◌/◌, ◌≤◌, ◌<◌}
use mathlib.Core.Path.{◌≡◌, refl, sym, ap, ◌∙◌}
use mathlib.Core.Logic.{◌↔◌}
use mathlib.Core.Bool.{Bool, true, false, cond}
use mathlib.Core.List.{List, [], ◌∷◌}
use native.Mathlib.Omega.{arith}
use native.Mathlib.Nat.{not-suc-le-zero, sub_self, sub-zero}
use native.Mathlib.Decide.{ℕ_discrete, dec_lt}
use lib.IntN.{ℤ, pos}
use lib.ListN.{length, get_or}
use lib.Dec.{ltb}
use lib.Signed.{lt_z}
use borrow.Author.Tests.{lt-ltb, le-ltb, ltb-true, eqb-true}
use Rattle.std.specs.Ordering.{is_lt, partial_lt, nat_cmp, int_cmp}
use Rattle.std.specs.declared.cmp.Ordering.TheVariants.{Less, Equal, Greater}
use Rattle.std.specs.Prelude.{nat_lt, int_lt, ◌==◌}
use Rattle.std.proofs.lemmas.List.{get_or_default}
use Rattle.basis.specs.Order.{same_z, rising_by, rising_z}
use Rattle.basis.specs.Refusal.{gives, refuses, plain, not_there}
use Rattle.basis.proofs.Tests.{clash, no-case, bool_cases}
use Rattle.basis.proofs.Saids.{refused-given, given-one}
use Rattle.basis.proofs.Orders.{Order, less-trans, rising-less, same-places, signed-order}
use Rattle.std.specs.Prelude.{Option, Some, None}
use Rattle.graph.specs.Find.{place_from, place_in, found_says, bisect, bisect_by, bisected, StandsAt, Searched}

-- ---- one turn
module _ {A : Type 0} (less : A → A → Bool) (z : A) (l : List A) (x : A) where
  bisect-far : (turns low high : ℕ) → high ≤ low → bisect less z l x turns low high ≡ None
  unfolding bisect
  bisect-far zero low high h = refl
  bisect-far (suc turns) low high h = rw (bisect, le-ltb low high h)

  module _ (turns low high : ℕ) (h : low < high) where
    bisect-up : less (get_or l (low + (high - low) / 2) z) x ≡ true
        → bisect less z l x (suc turns) low high ≡ bisect less z l x turns (low + (high - low) / 2 + 1) high
    unfolding bisect
    bisect-up t = rw (bisect, lt-ltb low high h, t)

    module _ (t : less (get_or l (low + (high - low) / 2) z) x ≡ false) where
      bisect-down : less x (get_or l (low + (high - low) / 2) z) ≡ true
          → bisect less z l x (suc turns) low high ≡ bisect less z l x turns low (low + (high - low) / 2)
      unfolding bisect
      bisect-down u = rw (bisect, lt-ltb low high h, t, u)

      bisect-here : less x (get_or l (low + (high - low) / 2) z) ≡ false
          → bisect less z l x (suc turns) low high ≡ Some (low + (high - low) / 2)
      unfolding bisect
      bisect-here u = rw (bisect, lt-ltb low high h, t, u)

-- ---- what a loop that bisects keeps: from low up to high the bisection ends where that of the whole list does
module _ {A : Type 0} (less : A → A → Bool) (z : A) (l : List A) (x : A) where
  pub record Halving (low high : ℕ) : Type 0 where
    pub turns : ℕ
    pub enough : high ≤ low + turns
    pub same : bisect less z l x turns low high ≡ bisect_by less z l x

  pub halving-start : Halving 0 (length l)
  halving-start = record { turns = length l; enough = omega arith; same = refl }

module _ {A : Type 0} {less : A → A → Bool} {z : A} {l : List A} {x : A} {low high : ℕ} (h : Halving less z l x low high) where
  pub halving-end : high ≤ low → None ≡ bisect_by less z l x
  halving-end g = sym (bisect-far less z l x h.turns low high g) ∙ h.same

  -- at a turn, y is what stands in the middle
  module _ (g : low < high) (y : A) (e : y ≡ get_or l (low + (high - low) / 2) z) where
    -- there is a turn left
    left : (X : Type 0) → ((k : ℕ) → high ≤ low + suc k → bisect less z l x (suc k) low high ≡ bisect_by less z l x → X) → X
    left X f = by h.turns h.enough h.same
      where
        by : (k : ℕ) → high ≤ low + k → bisect less z l x k low high ≡ bisect_by less z l x → X
        by zero a s = absurd (omega arith)
        by (suc k) a s = f k a s

    pub halving-up : less y x ≡ true → Halving less z l x (low + (high - low) / 2 + 1) high
    halving-up t =
        left (Halving less z l x (low + (high - low) / 2 + 1) high)
        (λ k a s. record { turns = k; enough = omega arith; same = sym (bisect-up less z l x k low high g (rw e at t)) ∙ s })

    pub halving-down : less y x ≡ false → less x y ≡ true → Halving less z l x low (low + (high - low) / 2)
    halving-down t u =
        left (Halving less z l x low (low + (high - low) / 2))
        (λ k a s. record { turns = k; enough = omega arith; same = sym (bisect-down less z l x k low high g (rw e at t) (rw e at u)) ∙ s })

    pub halving-here : less y x ≡ false → less x y ≡ false → Some (low + (high - low) / 2) ≡ bisect_by less z l x
    halving-here t u =
        left (Some (low + (high - low) / 2) ≡ bisect_by less z l x)
        (λ k a s. sym (bisect-here less z l x k low high g (rw e at t) (rw e at u)) ∙ s)

-- the middle of a turn stands in the list, whatever is read past its end
pub in-middle : {A : Type 0} (z d : A) (l : List A) (low high : ℕ) → high ≤ length l → low < high → (y : A)
    → y ≡ get_or l (low + (high - low) / 2) d → y ≡ get_or l (low + (high - low) / 2) z
in-middle z d l low high k g y e = e ∙ get_or_default l (low + (high - low) / 2) d z (omega arith)

-- ---- a bisection asks only of places in the list: another test that answers the same, and another value past the end, change nothing
module _ {A : Type 0} (less more : A → A → Bool) (same : (a b : A) → less a b ≡ more a b) (y z : A) (l : List A) (x : A) where
  bisect-same : (turns low high : ℕ) → high ≤ length l → bisect less y l x turns low high ≡ bisect more z l x turns low high
  unfolding bisect
  bisect-same zero low high h = refl
  bisect-same (suc turns) low high h =
      let middle = low + (high - low) / 2 in
      let a = get_or l middle y in
      let X = bisect less y l x (suc turns) low high ≡ bisect more z l x (suc turns) low high in
      elim (dec_lt low high) as (λ _. X) [
        | no g ↦ bisect-far less y l x (suc turns) low high (omega arith) ∙ sym (bisect-far more z l x (suc turns) low high (omega arith))
        | yes g ↦
            let e : get_or l middle z ≡ a = get_or_default l middle z y (omega arith) in
            bool_cases (less a x) X
            (λ t. bisect-up less y l x turns low high g t ∙ bisect-same turns (middle + 1) high h
            ∙ sym (bisect-up more z l x turns low high g (rw e (sym (same a x) ∙ t))))
            (λ t.
            bool_cases (less x a) X
            (λ u. bisect-down less y l x turns low high g t u ∙ bisect-same turns low middle (omega arith)
            ∙ sym (bisect-down more z l x turns low high g (rw e (sym (same a x) ∙ t)) (rw e (sym (same x a) ∙ u))))
            (λ u. bisect-here less y l x turns low high g t u
            ∙ sym (bisect-here more z l x turns low high g (rw e (sym (same a x) ∙ t)) (rw e (sym (same x a) ∙ u)))))
      ]

-- whole numbers and signed ones by their order, as the definitions bisect them
abbrev pub below_n : ℕ → ℕ → Bool
below_n = partial_lt (λ a b. Some (nat_cmp a b))

abbrev pub below-z : ℤ → ℤ → Bool
below-z = partial_lt (λ a b. Some (int_cmp a b))

first_test : (s t : Bool) → is_lt (cond s Less (cond t Equal Greater)) ≡ s
first_test true t = refl
first_test false true = refl
first_test false false = refl

first-signed : (s t : Bool) → is_lt (cond s Less (cond t Greater Equal)) ≡ s
first-signed true t = refl
first-signed false true = refl
first-signed false false = refl

pub bisect-numbers : (l : List ℕ) (x : ℕ) → bisect_by below_n x l x ≡ bisect_by ltb 0 l x
bisect-numbers l x = bisect-same below_n ltb (λ a b. first_test (nat_lt a b) (a == b)) x 0 l x (length l) 0 (length l) (omega arith)

pub bisect-signed : (l : List ℤ) (x : ℤ) → bisect_by below-z x l x ≡ bisected l x
bisect-signed l x =
    bisect-same below-z lt_z (λ a b. first-signed (int_lt a b) (int_lt b a)) x (pos 0) l x (length l) 0 (length l) (omega arith)

-- ---- what a search must answer: a place that holds x, or that no place does
module _ {A : Type 0} (z : A) (l : List A) (x : A) where
  abbrev pub Right : Option ℕ → Type 0
  Right (Some i) = (i < length l) × (get_or l i z ≡ x)
  Right None = (i : ℕ) → i < length l → get_or l i z ≡ x → ⊥

module _ {A : Type 0} {same less : A → A → Bool} (order : Order same less) (z : A) (l : List A) (r : rising_by less l ≡ true) (x : A) where
  -- in a rising list there is one right answer
  pub right-one : (f g : Option ℕ) → Right z l x f → Right z l x g → f ≡ g
  right-one (Some i) (Some j) (a, b) (c, d) = ap Some (eqb-true i j (sym (same-places order z l r i j a c) ∙ rw (b, d) (order.same_refl x)))
  right-one (Some i) None (a, b) g = absurd (g i a b)
  right-one None (Some i) f (a, b) = absurd (f i a b)
  right-one None None f g = refl

  -- what lies before low is below x, what lies from high on is above it
  record Bracket (low high : ℕ) : Type 0 where
    pub inside : high ≤ length l
    pub before : (i : ℕ) → i < low → less (get_or l i z) x ≡ true
    pub behind : (i : ℕ) → high ≤ i → i < length l → less x (get_or l i z) ≡ true

  bracket-up : (low high middle : ℕ) → Bracket low high → middle < high → less (get_or l middle z) x ≡ true → Bracket (middle + 1) high
  bracket-up low high middle b h t =
      record {
        inside = b.inside;
        before = λ i g.
            let e = b.inside in
            elim (ℕ_discrete i middle) as (λ _. less (get_or l i z) x ≡ true) [
              | yes q ↦ rw q t
              | no d ↦ less-trans order (get_or l i z) (get_or l middle z) x (rising-less order z l r i middle (omega arith) (omega arith))
                  t
            ];
        behind = b.behind;
      }

  bracket-down : (low high middle : ℕ) → Bracket low high → middle < high → less x (get_or l middle z) ≡ true → Bracket low middle
  bracket-down low high middle b h t =
      record {
        inside = let e = b.inside in omega arith;
        before = b.before;
        behind = λ i g k.
            elim (ℕ_discrete i middle) as (λ _. less x (get_or l i z) ≡ true) [
              | yes q ↦ rw q t
              | no d ↦ less-trans order x (get_or l middle z) (get_or l i z) t (rising-less order z l r middle i (omega arith) k)
            ];
      }

  bracket-none : (low high : ℕ) → Bracket low high → high ≤ low → (i : ℕ) → i < length l → get_or l i z ≡ x → ⊥
  bracket-none low high b h i g e =
      elim (dec_lt i low) as (λ _. ⊥) [
        | yes k ↦ clash (rw e at (b.before i k)) (order.less-not x)
        | no k ↦ clash (rw e at (b.behind i (omega arith) g)) (order.less-not x)
      ]

  bisect-right : (turns low high : ℕ) → high ≤ low + turns → Bracket low high → Right z l x (bisect less z l x turns low high)
  bisect-right zero low high e b = rw (bisect-far less z l x 0 low high (omega arith)) (bracket-none low high b (omega arith))
  bisect-right (suc turns) low high e b =
      let middle = low + (high - low) / 2 in
      let y = get_or l middle z in
      let X = Right z l x (bisect less z l x (suc turns) low high) in
      elim (dec_lt low high) as (λ _. X) [
        | no h ↦ rw (bisect-far less z l x (suc turns) low high (omega arith)) (bracket-none low high b (omega arith))
        | yes h ↦
            bool_cases (less y x) X
            (λ t. rw (bisect-up less z l x turns low high h t)
            (bisect-right turns (middle + 1) high (omega arith) (bracket-up low high middle b (omega arith) t)))
            (λ t.
            bool_cases (less x y) X
            (λ u. rw (bisect-down less z l x turns low high h t u)
            (bisect-right turns low middle (omega arith) (bracket-down low high middle b (omega arith) u)))
            (λ u. rw (bisect-here less z l x turns low high h t u) (let e = b.inside in (omega arith, order.less-eq y x t u))))
      ]

  -- the bisection of a rising list is right
  pub bisect-finds : Right z l x (bisect_by less z l x)
  bisect-finds =
      bisect-right (length l) 0 (length l) (omega arith)
      (record { inside = omega arith; before = λ i g. absurd (not-suc-le-zero g); behind = λ i g k. absurd (omega arith) })

-- ---- identifiers
abbrev From : ℕ → List ℤ → ℤ → Option ℕ → Type 0
From i l id (Some j) = (i ≤ j) × (j < i + length l) × (get_or l (j - i) (pos 0) ≡ id)
From i l id None = (k : ℕ) → k < length l → get_or l k (pos 0) ≡ id → ⊥

from_next : (i : ℕ) (x : ℤ) (l : List ℤ) (id : ℤ) (f : Option ℕ) → same_z x id ≡ false → From (i + 1) l id f → From i (x ∷ l) id f
from_next i x l id (Some j) t (a, b, e) =
    let q : j - i ≡ suc (j - (i + 1)) = omega arith in
    (omega arith, omega arith, ap (λ (k : ℕ). get_or (x ∷ l) k (pos 0)) q ∙ e)
from_next i x l id None t h = λ k.
    elim k as (λ k. k < length (x ∷ l) → get_or (x ∷ l) k (pos 0) ≡ id → ⊥) [
      | zero ↦ λ g e. clash (rw e (signed-order.same_refl id)) t
      | suc k ↦ λ g e. h k (omega arith) e
    ]

place-from : (i : ℕ) (l : List ℤ) (id : ℤ) → From i l id (place_from i l id)
unfolding place_from
place-from i [] id = λ k g e. absurd (not-suc-le-zero g)
place-from i (x ∷ l) id = by (same_z x id) refl (place-from (i + 1) l id)
  where
    by : (t : Bool) → same_z x id ≡ t → From (i + 1) l id (place_from (i + 1) l id)
        → From i (x ∷ l) id (elim t [ true ↦ Some i | false ↦ place_from (i + 1) l id ])
    by true t h = (omega arith, omega arith, ap (λ (k : ℕ). get_or (x ∷ l) k (pos 0)) (sub_self i) ∙ signed-order.same-eq x id t)
    by false t h = from_next i x l id (place_from (i + 1) l id) t h

-- the first place of an identifier is a right answer, whatever the list
pub place-right : (l : List ℤ) (id : ℤ) → Right (pos 0) l id (place_in l id)
place-right l id = by (place_in l id) (place-from 0 l id)
  where
    by : (f : Option ℕ) → From 0 l id f → Right (pos 0) l id f
    by (Some j) (a, b, e) = (omega arith, simp sub-zero at e)
    by None h = h

-- in a list that rises the bisection finds the vertex number of an identifier
pub find-rising : (l : List ℤ) (id : ℤ) → rising_z l ≡ true → bisected l id ≡ place_in l id
find-rising l id r =
    right-one signed-order (pos 0) l r id (bisected l id) (place_in l id) (bisect-finds signed-order (pos 0) l r id) (place-right l id)

-- in any list it ends at a place of the list, or at none
bisect-below : (l : List ℤ) (id : ℤ) (turns low high : ℕ) (i : ℕ) → high ≤ length l
    → bisect lt_z (pos 0) l id turns low high ≡ Some i → i < length l
unfolding bisect
bisect-below l id zero low high i h e = no-case (let z : None ≡ Some i = e in cc)
bisect-below l id (suc turns) low high i h e =
    let middle = low + (high - low) / 2 in
    by (ltb low high) (lt_z (get_or l middle (pos 0)) id) (lt_z id (get_or l middle (pos 0))) refl e
    (bisect-below l id turns (middle + 1) high i h) (bisect-below l id turns low middle i)
  where
    by : (a b c : Bool) → ltb low high ≡ a
        → elim a [
          | true ↦
              elim b [
                | true ↦ bisect lt_z (pos 0) l id turns (low + (high - low) / 2 + 1) high
                | false ↦ elim c [
                  | true ↦ bisect lt_z (pos 0) l id turns low (low + (high - low) / 2)
                  | false ↦ Some (low + (high - low) / 2)
                ]
              ]
          | false ↦ None
        ] ≡ Some i
        → (bisect lt_z (pos 0) l id turns (low + (high - low) / 2 + 1) high ≡ Some i → i < length l)
        → (low + (high - low) / 2 ≤ length l → bisect lt_z (pos 0) l id turns low (low + (high - low) / 2) ≡ Some i → i < length l)
        → i < length l
    by true true c t e f g = f e
    by true false true t e f g = let k = ltb-true low high t in g (omega arith) e
    by true false false t e f g =
        let k = ltb-true low high t in let q : low + (high - low) / 2 ≡ i = cc in omega arith
    by false b c t e f g = no-case (let z : None ≡ Some i = e in cc)

pub bisected-below : (l : List ℤ) (id : ℤ) (i : ℕ) → bisected l id ≡ Some i → i < length l
bisected-below l id i e = bisect-below l id (length l) 0 (length l) i (omega arith) e

-- an identifier has the number i exactly where it stands at place i
pub place_at : (l : List ℤ) (id : ℤ) → rising_z l ≡ true → (i : ℕ) → (place_in l id ≡ Some i) ↔ StandsAt l id i
place_at l id r i =
    ((λ e. rw e at (place-right l id)), λ h. right-one signed-order (pos 0) l r id (place_in l id) (Some i) (place-right l id) h)

-- ---- what a search answers, from where it ends
said_at : (f : Option ℕ) (i : ℕ) → found_says f ≡ gives i → f ≡ Some i
said_at (Some j) i e = ap Some (given-one e)
said_at None i e = refused-given e

said-missing : (f : Option ℕ) → found_says f ≡ refuses (plain not_there) → f ≡ None
said-missing (Some j) e = refused-given (sym e)
said-missing None e = refl

said-one : (f g : Option ℕ) → found_says f ≡ found_says g → f ≡ g
said-one f (Some i) e = said_at f i e
said-one f None e = said-missing f e

-- a search that ends where the bisection does answers what it should
pub searched : (ids : List ℤ) (id : ℤ) (f : Option ℕ) → f ≡ bisected ids id → Searched ids id f
searched ids id f e =
    record {
      any_list = ap found_says e;
      found = λ r i.
          let p = place_at ids id r i in
          ((λ s. p.0 (sym (here r) ∙ said_at f i s)), λ h. ap found_says (here r ∙ p.1 h));
      missing = λ r. (
        (λ s i h. no-case (let z : Some i ≡ None = sym ((place_at ids id r i).1 h) ∙ sym (here r) ∙ said-missing f s in cc)),
        λ none. by r f refl none,
      );
    }
  where
    here : rising_z ids ≡ true → f ≡ place_in ids id
    here r = e ∙ find-rising ids id r

    by : rising_z ids ≡ true → (x : Option ℕ) → f ≡ x → ((i : ℕ) → StandsAt ids id i → ⊥) → found_says f ≡ refuses (plain not_there)
    by r (Some i) q none = absurd (none i ((place_at ids id r i).0 (sym (here r) ∙ q)))
    by r None q none = ap found_says q

-- and one that answers what it should ends where the bisection does
pub searched-is : {ids : List ℤ} {id : ℤ} {f : Option ℕ} → Searched ids id f → f ≡ bisected ids id
searched-is {ids} {id} {f} s = said-one f (bisected ids id) s.any_list
