-- Laws of the definition: a round lowers a distance only by an arc, and every arc is offered. Assumes nothing.
use Prim.Native.Nat.{ℕ, zero, suc, ◌+◌, ◌≤◌, ◌<◌, min}
use mathlib.Core.Path.{◌≡◌, refl, ap, ◌∙◌, subst}
use mathlib.Core.Logic.{◌⊎◌, inl, inr, ⊎_elim}
use mathlib.Core.Bool.{cond}
use mathlib.Core.List.{List, [], ◌∷◌}
use native.Mathlib.Nat.{eq-or-lt_of_le}
use native.Mathlib.Decide.{dec_le}
use native.Mathlib.Omega.{arith}
use lib.ListN.{length, get_or}
use lib.Dec.{eqb}
use borrow.Author.Tests.{eq-eqb, eqb-true, ne_eqb}
use Rattle.basis.proofs.Alls.{All, all_map}
use Rattle.basis.proofs.Tests.{bool_cases}
use Rattle.basis.proofs.Areas.{column-length, column-at}
use Rattle.basis.specs.Area.{infinity}
use Rattle.graph.specs.Weights.{Leg}
use Rattle.sssp.specs.Distance.{offer, offered, overall, least_within, distances}
use Rattle.sssp.specs.Steps.{AllSigned}

-- what stands at a place of a list, whatever stands past its end
pub get_d_any : {A : Type 0} (l : List A) (i : ℕ) (y z : A) → i < length l → get_or l i y ≡ get_or l i z
get_d_any [] i y z h = absurd (omega arith)
get_d_any (x ∷ l) zero y z h = refl
get_d_any (x ∷ l) (suc i) y z h = get_d_any l i y z (omega arith)

-- an arc stands in a list
abbrev pub Has : Leg → List Leg → Type 0
Has a [] = ⊥
Has a (b ∷ l) = (b ≡ a) ⊎ Has a l

-- ---- what the arcs of one vertex offer
offered-down : (v x d : ℕ) (l : List Leg) → offered v x d l ≤ d
unfolding offered
offered-down v x d [] = omega arith
offered-down v x d (a ∷ l) = let h = offered-down v x d l in omega arith

offer-is : (x : ℕ) (a : Leg) → offer a.0 x a ≡ x + a.1
offer-is x a = rw (eq-eqb a.0 a.0 refl)

offered-arc : (x : ℕ) (d : ℕ → ℕ) (l : List Leg) → All (λ a. offered a.0 x (d a.0) l ≤ x + a.1) l
unfolding offered
offered-arc x d [] = tt
offered-arc x d (a ∷ l) = (
  let e = offer-is x a in omega arith,
  all_map (λ b h. let g : offered b.0 x (d b.0) l ≤ x + b.1 = h in omega arith) l
      (offered-arc x d l),
)

offer-low : (v x z : ℕ) (a : Leg) → z ≤ infinity → (a.0 ≡ v → z ≤ x + a.1) → z ≤ offer v x a
offer-low v x z a i h = bool_cases (eqb a.0 v) (z ≤ offer v x a) (λ t. rw t (h (eqb-true a.0 v t))) (λ t. rw t i)

offered-low : (v x d z : ℕ) (l : List Leg) → z ≤ infinity → z ≤ d → All (λ a. a.0 ≡ v → z ≤ x + a.1) l → z ≤ offered v x d l
unfolding offered
offered-low v x d z [] i h g = h
offered-low v x d z (a ∷ l) i h g = let p = offer-low v x z a i g.0 in let q = offered-low v x d z l i h g.1 in omega arith

-- a finite offer comes from an arc that leads there
offer-from : (v x : ℕ) (a : Leg) → offer v x a < infinity → (a.0 ≡ v) × (offer v x a ≡ x + a.1)
offer-from v x a h =
    bool_cases (eqb a.0 v) ((a.0 ≡ v) × (offer v x a ≡ x + a.1)) (λ t. (eqb-true a.0 v t, rw t))
    (λ t. let z : offer v x a ≡ infinity = rw t in absurd (omega arith))

-- x is a distance d of old, or an arc of a list offers it to v, from a vertex at distance y
abbrev Source : ℕ → ℕ → List Leg → ℕ → ℕ → Type 0
Source v y l d x = (x ≡ d) ⊎ ((c : ℕ) × Has (v, c) l × (x ≡ y + c))

offered-from : (v x d : ℕ) (l : List Leg) → offered v x d l < infinity → Source v x l d (offered v x d l)
unfolding offered
offered-from v x d [] h = inl refl
offered-from v x d (a ∷ l) h =
    elim (dec_le (offered v x d l) (offer v x a)) as (λ _. Source v x (a ∷ l) d (min (offer v x a) (offered v x d l))) [
      | yes g ↦
          let e : offered v x d l ≡ min (offer v x a) (offered v x d l) = omega arith in
          subst (Source v x (a ∷ l) d) e (⊎_elim (λ q. inl q) (λ q. inr (q.0, inr q.1, q.2)) (offered-from v x d l (omega arith)))
      | no g ↦
          let e : offer v x a ≡ min (offer v x a) (offered v x d l) = omega arith in
          let o = offer-from v x a (omega arith) in
          subst (Source v x (a ∷ l) d) e (inr (a.1, inl (ap (λ (w : ℕ). (w, a.1)) o.0), o.1))
    ]

-- ---- what the arcs of the vertices below m offer
module _ (out : ℕ → List Leg) (l : List ℕ) where
  overall-down : (v d m : ℕ) → overall out l v d m ≤ d
  unfolding overall
  overall-down v d zero = omega arith
  overall-down v d (suc m) = let a = offered-down v (get_or l m infinity) (overall out l v d m)
      (out m) in let b = overall-down v d m in omega arith

  overall-arc : (d : ℕ → ℕ) (m u : ℕ) → u < m → All (λ a. overall out l a.0 (d a.0) m ≤ get_or l u infinity + a.1) (out u)
  unfolding overall
  overall-arc d zero u h = absurd (omega arith)
  overall-arc d (suc m) u h =
      ⊎_elim
      (λ e. rw e (offered-arc (get_or l m infinity) (λ v. overall out l v (d v) m) (out m)))
      (λ g.
      all_map
      (λ a k. let b = offered-down a.0 (get_or l m infinity) (overall out l a.0 (d a.0) m) (out m) in let c : overall out l a.0 (d
      a.0) m ≤ get_or l u infinity + a.1 = k in omega arith)
      (out u) (overall-arc d m u g))
      (eq-or-lt_of_le (let y : u ≤ m = omega arith in y))

  overall-low : (v d z m : ℕ) → z ≤ infinity → z ≤ d → ((u : ℕ) → u < m → All (λ a. a.0 ≡ v → z ≤ get_or l u infinity + a.1) (out u))
      → z ≤ overall out l v d m
  unfolding overall
  overall-low v d z zero i h g = h
  overall-low v d z (suc m) i h g =
      offered-low v (get_or l m infinity) (overall out l v d m) z (out m) i (overall-low v d z m i h (λ u k. g u (omega arith))) (g m
      (omega arith))

  overall-from : (v d m : ℕ) → overall out l v d m < infinity
      → (overall out l v d m ≡ d) ⊎ ((u : ℕ) × (u < m) × ((c : ℕ) × Has (v, c) (out u) × (overall out l v d m ≡ get_or l u infinity + c)))
  unfolding overall
  overall-from v d zero h = inl refl
  overall-from v d (suc m) h =
      ⊎_elim
      (λ e.
      ⊎_elim (λ q. inl (e ∙ q)) (λ q. inr (q.0, omega (arith, q.1), (q.2.0, q.2.1, e ∙ q.2.2)))
      (overall-from v d m (omega arith)))
      (λ e. inr (m, omega arith, e)) (offered-from v (get_or l m infinity) (overall out l v d m) (out m) h)

-- ---- rounds
module _ (n : ℕ) (out : ℕ → List Leg) (root : ℕ) where
  -- the least weight of a walk of at most k arcs to v
  abbrev pub near : ℕ → ℕ → ℕ
  near k v = get_or (least_within out n root k) v infinity

  pub within-length : (k : ℕ) → length (least_within out n root k) ≡ n
  unfolding least_within
  within-length zero = column-length (λ v. cond (eqb v root) 0 infinity) 0 n
  within-length (suc k) = column-length (λ v. overall out (least_within out n root k) v (get_or (least_within out n root k) v infinity) n) 0
      n

  first-is : (v : ℕ) → v < n → near 0 v ≡ cond (eqb v root) 0 infinity
  unfolding least_within
  first-is v l = column-at (λ v. cond (eqb v root) 0 infinity) n v infinity l

  next-is : (k v : ℕ) → v < n → near (suc k) v ≡ overall out (least_within out n root k) v (near k v) n
  unfolding least_within
  next-is k v l = column-at (λ v. overall out (least_within out n root k) v (get_or (least_within out n root k) v infinity) n) n v infinity
      l

  pub near-root : root < n → near 0 root ≡ 0
  near-root l = first-is root l ∙ rw (eq-eqb root root refl)

  pub near-other : (v : ℕ) → v < n → (v ≡ root → ⊥) → near 0 v ≡ infinity
  near-other v l d = first-is v l ∙ rw (ne_eqb v root d)

  pub near_down : (k v : ℕ) → v < n → near (suc k) v ≤ near k v
  near_down k v l = rw (next-is k v l) (overall-down out (least_within out n root k) v (near k v) n)

  pub near-more : (k j v : ℕ) → v < n → k ≤ j → near j v ≤ near k v
  near-more k zero v l h = let e : k ≡ 0 = omega arith in rw e (omega arith)
  near-more k (suc j) v l h =
      ⊎_elim (λ e. rw e (omega arith)) (λ g. let a = near-more k j v l (omega arith) in let b = near_down j v l in omega arith)
      (eq-or-lt_of_le h)

  pub near-most : (k v : ℕ) → v < n → near k v ≤ infinity
  near-most k v l =
      let a = near-more 0 k v l (omega arith) in
      let b : near 0 v ≤ infinity = rw (first-is v l) (bool_cases (eqb v root) (cond (eqb v root) 0 infinity ≤ infinity) (λ t. rw t
      (omega arith)) (λ t. rw t (omega arith))) in
      omega arith

  pub near-arc : (k u : ℕ) → u < n → All (λ a. a.0 < n → near (suc k) a.0 ≤ near k u + a.1) (out u)
  near-arc k u l =
      all_map (λ a h g. rw (next-is k a.0 g) h) (out u) (overall-arc out (least_within out n root k) (near k) n u l)

  pub near-low : (k v z : ℕ) → v < n → z ≤ infinity → z ≤ near k v → ((u : ℕ) → u < n → All (λ a. a.0 ≡ v → z ≤ near k u + a.1) (out u))
      → z ≤ near (suc k) v
  near-low k v z l i h g = rw (next-is k v l) (overall-low out (least_within out n root k) v (near k v) z n i h g)

  -- a finite distance of one round more is the old one, or comes over an arc
  pub near-from : (k v : ℕ) → v < n → near (suc k) v < infinity
      → (near (suc k) v ≡ near k v) ⊎ ((u : ℕ) × (u < n) × ((c : ℕ) × Has (v, c) (out u) × (near (suc k) v ≡ near k u + c)))
  near-from k v l h =
      let e = next-is k v l in
      ⊎_elim (λ q. inl (e ∙ q)) (λ q. inr (
        q.0,
        q.1,
        (
          q.2.0,
          q.2.1,
          e
              ∙ q.2.2,
        ),
      )) (overall-from out (least_within out n root k) v (near k v) n (omega arith))

-- ---- the distances, as a result area holds them
pub signed_all : (n : ℕ) (out : ℕ → List Leg) (root : ℕ) (l : List ℕ) → l ≡ distances n out root → AllSigned l
signed_all n out root l e v h =
    let k = ap length e ∙ within-length n out root n in
    rw (
      ap (λ (t : List ℕ). get_or t v 0) e,
      get_d_any (distances n out root) v 0 infinity (let z = within-length n out root n in omega arith),
    )
    (near-most n out root n v (omega arith))
