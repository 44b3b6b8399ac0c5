-- The edges that a load accepts: both ends are vertices, no edge joins a vertex to itself, an undirected one names the smaller first,
-- and all rise.
-- Their arcs' parts strictly rise, outward and inward. Assumes nothing.
use mathlib.Core.Path.{◌≡◌, refl, sym, subst}
use mathlib.Core.Bool.{Bool, true, false}
use mathlib.Core.List.{List, [], ◌∷◌}
use Prim.Native.Nat.{ℕ, ◌≤◌, ◌<◌}
use native.Mathlib.Omega.{arith}
use native.Mathlib.Decide.{dec_lt, ℕ_discrete}
use borrow.Author.Tests.{eq-eqb, ne_eqb, lt-ltb}
use lib.Dec.{ltb}
use Rattle.basis.specs.Order.{above_by, rising}
use Rattle.basis.proofs.Tests.{and_both}
use Rattle.basis.proofs.Alls.{All, all_map}
use Rattle.graph.specs.Arcs.{Arc, edge_arcs, arcs, targets_of, backward}
use Rattle.store.specs.Held.{EndsBelow}
use Rattle.store.proofs.Passes.{backward-append}

-- ---- lists of edges, by pairs
abbrev pub Pairs : (Arc → Arc → Type 0) → List Arc → Type 0
Pairs R [] = Unit {0}
Pairs R (e ∷ l) = All (R e) l × Pairs R l

pub pairs-map : {R S : Arc → Arc → Type 0} → ((e f : Arc) → R e f → S e f) → (l : List Arc) → Pairs R l → Pairs S l
pairs-map m [] h = tt
pairs-map m (e ∷ l) h = (all_map (m e) l h.0, pairs-map m l h.1)

-- ---- what an accepted list says: of an edge, and of two, the first before the second
pub record Fine (n : ℕ) (e : Arc) : Type 0 where
  pub source : e.0 < n
  pub target : e.1 < n
  pub apart : e.0 ≡ e.1 → ⊥

abbrev pub Smaller : Bool → Arc → Type 0
Smaller false e = Unit {0}
Smaller true e = e.0 < e.1

abbrev pub Lex : Arc → Arc → Type 0
Lex e f = (e.0 ≤ f.0) × (e.0 ≡ f.0 → e.1 < f.1)

pub record Valid (undirected : Bool) (n : ℕ) (l : List Arc) : Type 0 where
  pub fine : All (Fine n) l
  pub small : All (Smaller undirected) l
  pub pairs : Pairs Lex l

lex-trans : (e f g : Arc) → Lex e f → Lex f g → Lex e g
lex-trans e f g h k =
    let a = h.0 in let b = k.0 in (omega arith, λ z. let p = h.1 (omega arith) in let q = k.1 (omega arith) in omega arith)

-- one edge more at the front, which is before the next one
pub lex-cons : (e f : Arc) (l : List Arc) → Lex e f → Pairs Lex (f ∷ l) → Pairs Lex (e ∷ f ∷ l)
lex-cons e f l h p = ((h, all_map (λ g k. lex-trans e f g h k) l p.0), p)

pub valid-ends : (n : ℕ) (l : List Arc) → All (Fine n) l → EndsBelow n l
valid-ends n [] h = tt
valid-ends n (e ∷ l) h = (h.0.source, h.0.target, valid-ends n l h.1)

-- ---- arcs in order: where the sources are equal, the target is smaller
abbrev Pair : Arc → Arc → Type 0
Pair a b = a.0 ≡ b.0 → a.1 < b.1

abbrev Follows : Arc → List Arc → Type 0
Follows a l = All (Pair a) l

abbrev pub Ordered : List Arc → Type 0
Ordered l = Pairs Pair l

above-part : (l : List Arc) (x v : ℕ) → Follows (v, x) l → Ordered l → above_by ltb x (targets_of l v) ≡ true
above-part [] x v f o = refl
above-part (b ∷ l) x v f o =
    elim (ℕ_discrete b.0 v) as (λ _. above_by ltb x (targets_of (b ∷ l) v) ≡ true) [
      | yes q ↦
          rw (eq-eqb b.0 v q)
          (and_both (lt-ltb x b.1 (f.0 (sym q))) (above-part l b.1 v (subst (λ (k : ℕ). Follows (k, b.1) l) q o.0) o.1))
      | no d ↦ rw (ne_eqb b.0 v d) (above-part l x v f.1 o.1)
    ]

pub rising_part : (l : List Arc) (v : ℕ) → Ordered l → rising (targets_of l v) ≡ true
rising_part [] v o = refl
rising_part (b ∷ l) v o =
    elim (ℕ_discrete b.0 v) as (λ _. rising (targets_of (b ∷ l) v) ≡ true) [
      | yes q ↦ rw (eq-eqb b.0 v q) (above-part l b.1 v (subst (λ (k : ℕ). Follows (k, b.1) l) q o.0) o.1)
      | no d ↦ rw (ne_eqb b.0 v d) (rising_part l v o.1)
    ]

-- what the arcs of one edge have to do with those of a later one
abbrev Cross : Bool → Arc → Arc → Type 0
Cross false e f = Pair e f
Cross true e f = (Pair e f × Pair e (f.1, f.0)) × (Pair (e.1, e.0) f × Pair (e.1, e.0) (f.1, f.0))

follows-one : (e : Arc) (l : List Arc) → All (Cross false e) l → Follows e (arcs false l)
follows-one e [] h = tt
follows-one e (f ∷ l) h = (h.0, follows-one e l h.1)

follows-two : (e : Arc) (l : List Arc) → All (Cross true e) l → Follows e (arcs true l) × Follows (e.1, e.0) (arcs true l)
follows-two e [] h = (tt, tt)
follows-two e (f ∷ l) h = let i = follows-two e l h.1 in ((h.0.0.0, (h.0.0.1, i.0)), (h.0.1.0, (h.0.1.1, i.1)))

ordered-arcs : (b : Bool) (l : List Arc) → Pairs (Cross b) l → All (λ e. e.0 ≡ e.1 → ⊥) l → Ordered (arcs b l)
ordered-arcs b [] h o = tt
ordered-arcs false (e ∷ l) h o = (follows-one e l h.0, ordered-arcs false l h.1 o.1)
ordered-arcs true (e ∷ l) h o =
    let i = follows-two e l h.0 in
    (((λ q. absurd (o.0 q)), i.0), (i.1, ordered-arcs true l h.1 o.1))

-- equal second numbers: the first number is smaller
lex-in : (e f : Arc) → Lex e f → e.1 ≡ f.1 → e.0 < f.0
lex-in e f h q =
    elim (dec_lt e.0 f.0) as (λ _. e.0 < f.0) [ yes l ↦ l | no d ↦ let a = h.0 in let z = h.1 (omega arith) in omega arith ]

-- pairs of edges, with what is known of each
abbrev Near : Bool → Arc → Arc → Type 0
Near b e f = Lex e f × Smaller b e × Smaller b f

near-all : (b : Bool) (e : Arc) (l : List Arc) → Smaller b e → All (Smaller b) l → All (Lex e) l → All (Near b e) l
near-all b e [] s h x = tt
near-all b e (f ∷ l) s h x = ((x.0, s, h.0), near-all b e l s h.1 x.1)

near-pairs : (b : Bool) (l : List Arc) → All (Smaller b) l → Pairs Lex l → Pairs (Near b) l
near-pairs b [] h p = tt
near-pairs b (e ∷ l) h p = (near-all b e l h.0 h.1 p.0, near-pairs b l h.1 p.1)

cross-out : (b : Bool) (e f : Arc) → Near b e f → Cross b e f
cross-out false e f h = h.0.1
cross-out true e f h =
    let a = h.0.0 in let s = h.1 in let t = h.2 in ((h.0.1, λ q. omega arith), ((λ q. omega arith), λ q. lex-in e f h.0 q))

cross-in : (b : Bool) (e f : Arc) → Near b e f → Cross b (e.1, e.0) (f.1, f.0)
cross-in false e f h = lex-in e f h.0
cross-in true e f h =
    let a = h.0.0 in let s = h.1 in let t = h.2 in (((λ q. lex-in e f h.0 q), λ q. omega arith), ((λ q. omega arith), h.0.1))

all-backward : (P : Arc → Type 0) (l : List Arc) → All (λ e. P (e.1, e.0)) l → All P (backward l)
all-backward P [] h = tt
all-backward P (e ∷ l) h = (h.0, all-backward P l h.1)

pairs-backward : (R : Arc → Arc → Type 0) (l : List Arc) → Pairs (λ e f. R (e.1, e.0) (f.1, f.0)) l → Pairs R (backward l)
pairs-backward R [] h = tt
pairs-backward R (e ∷ l) h = (all-backward (R (e.1, e.0)) l h.0, pairs-backward R l h.1)

edge-backward : (b : Bool) (e : Arc) → edge_arcs b (e.1, e.0) ≡ backward (edge_arcs b e)
edge-backward false e = refl
edge-backward true e = refl

arcs-backward : (b : Bool) (es : List Arc) → arcs b (backward es) ≡ backward (arcs b es)
arcs-backward b [] = refl
arcs-backward b (e ∷ es) = rw (edge-backward b e, arcs-backward b es, backward-append (edge_arcs b e) (arcs b es))

pub ordered-out : (b : Bool) (n : ℕ) (l : List Arc) → Valid b n l → Ordered (arcs b l)
ordered-out b n l v =
    ordered-arcs b l (pairs-map (cross-out b) l (near-pairs b l v.small v.pairs)) (all_map (λ e f. f.apart) l v.fine)

pub ordered-in : (b : Bool) (n : ℕ) (l : List Arc) → Valid b n l → Ordered (backward (arcs b l))
ordered-in b n l v =
    rw (← arcs-backward b l)
    (ordered-arcs b (backward l)
    (pairs-backward (Cross b) l (pairs-map (cross-in b) l (near-pairs b l v.small v.pairs)))
    (all-backward (λ e. e.0 ≡ e.1 → ⊥) l (all_map (λ e f q. f.apart (sym q)) l v.fine)))

-- ---- every arc of a valid list joins two vertices below n that differ
pub arcs-join : (b : Bool) (n : ℕ) (l : List Arc) → All (Fine n) l → All (Fine n) (arcs b l)
arcs-join b n [] h = tt
arcs-join false n (e ∷ l) h = (h.0, arcs-join false n l h.1)
arcs-join true n (e ∷ l) h =
    (h.0, (record { source = h.0.target; target = h.0.source; apart = λ q. h.0.apart (sym q) }, arcs-join true n l h.1))

pub join-backward : (n : ℕ) (l : List Arc) → All (Fine n) l → All (Fine n) (backward l)
join-backward n [] h = tt
join-backward n (a ∷ l) h =
    (record { source = h.0.target; target = h.0.source; apart = λ q. h.0.apart (sym q) }, join-backward n l h.1)
