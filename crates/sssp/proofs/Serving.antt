-- The search over a graph of n vertices: what its loop keeps, that each turn keeps it, and that the definition stands where nothing waits.
-- Assumes nothing.
use Prim.Native.Nat.{ℕ, zero, suc, ◌+◌, ◌-◌, ◌*◌, ◌≤◌, ◌<◌}
use mathlib.Core.Path.{◌≡◌, refl, sym, ap, ◌∙◌, subst}
use mathlib.Core.Logic.{◌⊎◌, inl, inr, ⊎_elim}
use mathlib.Core.Bool.{Bool, true, false, cond}
use mathlib.Core.List.{List, [], ◌∷◌}
use native.Mathlib.Decide.{ℕ_discrete, dec_lt}
use native.Mathlib.Nat.{not-suc-le-zero, le_of_suc-le-suc}
use native.Mathlib.Omega.{arith}
use lib.ListN.{length, get_or, set, replicate, length-set, length-replicate, get_or-replicate}
use lib.Seq.{get_or-set_same, get_or-set_other}
use lib.Dec.{eqb, leb}
use borrow.Author.Tests.{eq-eqb, ne_eqb, leb-true}
use Rattle.basis.specs.Scan.{each, all_below}
use Rattle.basis.proofs.Alls.{All, all_map}
use Rattle.basis.proofs.Tests.{and_first, and_second}
use Rattle.basis.proofs.Scans.{below-first, below_rest}
use Rattle.basis.proofs.Areas.{column-is}
use Rattle.basis.specs.Area.{infinity}
use Rattle.basis.specs.Limits.{most_vertices, most_weight}
use Rattle.graph.specs.Weights.{Leg, legs}
use Rattle.sssp.specs.Distance.{least_within, distances}
use Rattle.sssp.specs.Steps.{known_at, lowered, walked, settled, served, WeighedPart}
use Rattle.sssp.proofs.Walks.{lowered-near, lowered-far}
use Rattle.sssp.proofs.Rounds.{near, within-length, near-root, near-other, near_down, near-more, near-most, near-arc, near-low}

-- ---- how many vertices are settled
unfoldable pub seen : List ℕ → ℕ
seen [] = 0
seen (x ∷ l) = cond (eqb x infinity) (seen l) (suc (seen l))

more-le : (t : Bool) (k : ℕ) → cond t k (suc k) ≤ suc k
more-le true k = omega arith
more-le false k = omega arith

more-suc : (t : Bool) (k : ℕ) → cond t (suc k) (suc (suc k)) ≡ suc (cond t k (suc k))
more-suc true k = refl
more-suc false k = refl

pub seen-le : (l : List ℕ) → seen l ≤ length l
unfolding seen
seen-le [] = omega arith
seen-le (x ∷ l) = omega (arith, more-le (eqb x infinity) (seen l), seen-le l)

seen-set : (l : List ℕ) (u x : ℕ) → u < length l → get_or l u 0 ≡ infinity → x < infinity → seen (set l u x) ≡ suc (seen l)
unfolding seen
seen-set [] u x h e f = absurd (not-suc-le-zero h)
seen-set (y ∷ l) zero x h e f = rw (eq-eqb y infinity e, ne_eqb x infinity (λ q. omega arith))
seen-set (y ∷ l) (suc u) x h e f = rw (seen-set l u x (le_of_suc-le-suc h) e f) (more-suc (eqb y infinity) (seen l))

seen_none : (n : ℕ) → seen (replicate n infinity) ≡ 0
unfolding seen
seen_none zero = refl
seen_none (suc n) = seen_none n

-- ---- the walk over a vertex's arcs, with a property that keys keep
module _ (dist : List ℕ) (d : ℕ) (P : ℕ → ℕ → Type 0) where
  record Walked (l : List Leg) (key key' : List ℕ) : Type 0 where
    long : length key' ≡ length key
    down : (v : ℕ) → get_or key' v 0 ≤ get_or key v 0
    met : All (λ a. known_at dist key' a.0 ≤ d + a.1) l
    still : (v : ℕ) → get_or dist v 0 ≤ d → get_or key' v 0 ≡ get_or key v 0
    keeps : ((v : ℕ) → v < length key → P v (get_or key v 0)) → (v : ℕ) → v < length key → P v (get_or key' v 0)

  one : (key : List ℕ) (a : Leg) → a.0 < length key → P a.0 (d + a.1) → Walked (a ∷ []) key (lowered dist a.0 (d + a.1) key)
  one key a l p =
      elim (dec_lt (d + a.1) (known_at dist key a.0)) as (λ _. Walked (a ∷ []) key (lowered dist a.0 (d + a.1) key)) [
        | yes h ↦ rw (← lowered-near dist key a.0 (d + a.1) h) (lower h)
        | no h ↦
            subst (Walked (a ∷ []) key) (lowered-far dist key a.0 (d + a.1) (omega arith))
            (record { long = refl; down = λ v. omega arith; met = (omega arith, tt); still = λ v g. refl; keeps = λ f. f })
      ]
    where
      here : get_or (set key a.0 (d + a.1)) a.0 0 ≡ d + a.1
      here = get_or-set_same key a.0 (d + a.1) 0 l

      other : (v : ℕ) → (v ≡ a.0 → ⊥) → get_or (set key a.0 (d + a.1)) v 0 ≡ get_or key v 0
      other v q = get_or-set_other key a.0 v (d + a.1) 0 q

      by : (X : ℕ → ℕ → Type 0) (v : ℕ) → X a.0 (d + a.1) → X v (get_or key v 0) → X v (get_or (set key a.0 (d + a.1)) v 0)
      by X v f g =
          elim (ℕ_discrete v a.0) as (λ _. X v (get_or (set key a.0 (d + a.1)) v 0)) [
            | yes e ↦ rw (e, here) f
            | no q ↦ rw (other v q) g
          ]

      lower : d + a.1 < known_at dist key a.0 → Walked (a ∷ []) key (set key a.0 (d + a.1))
      lower h =
          record {
            long = length-set key a.0 (d + a.1);
            down = λ v. by (λ x y. y ≤ get_or key x 0) v (omega arith) (omega arith);
            met = (let e = here in omega arith, tt);
            still = λ v g. by (λ x y. get_or dist x 0 ≤ d → y ≡ get_or key x 0) v (λ g. absurd (omega arith)) (λ g. refl) g;
            keeps = λ f v g. by P v p (f v g);
          }

  walked-is : (l : List Leg) (key : List ℕ) → All (λ a. (a.0 < length key) × P a.0 (d + a.1)) l → Walked l key (walked dist d l key)
  unfolding walked
  walked-is [] key h = record { long = refl; down = λ v. omega arith; met = tt; still = λ v g. refl; keeps = λ f. f }
  walked-is (a ∷ l) key h =
      let m = one key a h.0.0 h.0.1 in
      let q = walked-is l (lowered dist a.0 (d + a.1) key) (all_map (λ b g. (rw m.long g.0, g.1)) l h.1) in
      record {
        long = q.long ∙ m.long;
        down = λ v. let x = m.down v in let y = q.down v in omega arith;
        met = (let x = m.met.0 in let y = q.down a.0 in omega arith, q.met);
        still = λ v g. q.still v g ∙ m.still v g;
        keeps = λ f v g. q.keeps (λ x k. m.keeps f x (rw m.long at k)) v (rw m.long g);
      }

pub all_two : {A : Type 0} {P Q R : A → Type 0} → ((x : A) → P x → Q x → R x) → (l : List A) → All P l → All Q l → All R l
all_two f [] h g = tt
all_two f (x ∷ l) h g = (f x h.0 g.0, all_two f l h.1 g.1)

-- ---- the arcs of a vertex stay among n vertices, and none weighs more than the most
abbrev pub Good : ℕ → List Leg → Type 0
Good n l = All (λ a. (a.0 < n) × (a.1 ≤ most_weight)) l

good-beside : (n : ℕ) (ws cs : List ℕ) → all_below n ws ≡ true → each (λ c. leb c most_weight) cs ≡ true → Good n (legs ws cs)
unfolding legs each
good-beside n [] cs h g = tt
good-beside n (w ∷ ws) [] h g = tt
good-beside n (w ∷ ws) (c ∷ cs) h g = (
  (below-first n w ws h, leb-true c most_weight (and_first (leb c most_weight) (each (λ c. leb c most_weight) cs) g)),
  good-beside n ws cs (below_rest n w ws h) (and_second (leb c most_weight) (each (λ c. leb c most_weight) cs) g),
)

pub weighed-good : (n : ℕ) (ws cs : List ℕ) → WeighedPart n ws cs → Good n (legs ws cs)
weighed-good n ws cs w = good-beside n ws cs w.low w.light

module _ (n : ℕ) (out : ℕ → List Leg) (root : ℕ) where
  -- the arcs stay among n vertices, of which the root is one
  pub record Base : Type 0 where
    pub inside : (u : ℕ) → u < n → Good n (out u)
    pub there : root < n
    pub few : n ≤ most_vertices

  -- a key x of v after t turns: not below the level, not below the definition's, and infinity or the weight of at most t arcs
  pub record Waiting (t level v x : ℕ) : Type 0 where
    pub from : level ≤ x
    pub way : near n out root t v ≤ x
    pub light : (x ≡ infinity) ⊎ (x ≤ t * most_weight)

  -- v has its distance, and each of its arcs leads to a vertex that is known_at as near as the arc says
  pub record Settled (dist key : List ℕ) (t level v : ℕ) : Type 0 where
    pub gone : get_or key v 0 ≡ infinity
    pub upto : get_or dist v 0 ≤ level
    pub way : near n out root t v ≤ get_or dist v 0
    pub closed : All (λ a. known_at dist key a.0 ≤ get_or dist v 0 + a.1) (out v)

  -- after so many turns: what is settled is at most the level, what waits at least
  pub record Serving (dist key : List ℕ) : Type 0 where
    pub turns : ℕ
    pub level : ℕ
    pub base : Base
    pub count : seen dist ≡ turns
    pub dist_long : length dist ≡ n
    pub key_long : length key ≡ n
    pub low : level ≤ (turns - 1) * most_weight
    pub start : known_at dist key root ≡ 0
    pub waits : (v : ℕ) → v < n → Waiting turns level v (get_or key v 0)
    pub form : (v : ℕ) → v < n → (get_or dist v 0 ≡ infinity) ⊎ Settled dist key turns level v

  -- ---- a turn: the vertex with the least key is served
  module _ {dist key : List ℕ} (k : Serving dist key) (u : ℕ) (l : u < n) (least : (v : ℕ) → v < n
      → get_or key u 0 ≤ get_or key v 0) (reached : get_or key u 0 < infinity) where
    turn-new : get_or dist u 0 ≡ infinity
    turn-new = ⊎_elim (λ e. e) (λ s. absurd (omega (arith, s.gone))) (k.form u l)

    turn-count : seen (settled u dist key) ≡ suc k.turns
    turn-count = seen-set dist u (get_or key u 0) (omega (arith, k.dist_long)) turn-new reached ∙ ap suc k.count

    turn-few : k.turns < n
    turn-few = let b = seen-le (settled u dist key) in omega (arith, turn-count, k.dist_long, length-set dist u (get_or key u 0))

    -- its key is the weight of at most so many arcs
    turn-light : get_or key u 0 ≤ k.turns * most_weight
    turn-light = ⊎_elim (λ e. absurd (omega arith)) (λ h. h) (k.waits u l).light

    dist-here : get_or (settled u dist key) u 0 ≡ get_or key u 0
    dist-here = get_or-set_same dist u (get_or key u 0) 0 (omega (arith, k.dist_long))

    dist-other : (v : ℕ) → (v ≡ u → ⊥) → get_or (settled u dist key) v 0 ≡ get_or dist v 0
    dist-other v q = get_or-set_other dist u v (get_or key u 0) 0 q

    key_here : get_or (set key u infinity) u 0 ≡ infinity
    key_here = get_or-set_same key u infinity 0 (omega (arith, k.key_long))

    key-other : (v : ℕ) → (v ≡ u → ⊥) → get_or (set key u infinity) v 0 ≡ get_or key v 0
    key-other v q = get_or-set_other key u v infinity 0 q

    abbrev Fine : ℕ → ℕ → Type 0
    Fine = Waiting (suc k.turns) (get_or key u 0)

    -- the keys that stay are fine
    fine-key : (v : ℕ) → v < n → Fine v (get_or (set key u infinity) v 0)
    fine-key v h =
        elim (ℕ_discrete v u) as (λ _. Fine v (get_or (set key u infinity) v 0)) [
          | yes e ↦ rw (e, key_here) (record { from = omega arith; way = near-most n out root (suc k.turns) u l; light = inl refl })
          | no q ↦
              let w = k.waits v h in
              rw (key-other v q)
              (record {
                from = least v h;
                way = let a = near_down n out root k.turns v h in omega (arith, w.way);
                light = ⊎_elim (λ e. inl e) (λ g. inr (omega arith)) w.light;
              })
        ]

    -- and so are those that the arcs give
    fine-arc : All (λ a. (a.0 < length (set key u infinity)) × Fine a.0 (get_or key u 0 + a.1)) (out u)
    fine-arc =
        all_two
        (λ a g f.
        let h : near n out root (suc k.turns) a.0 ≤ near n out root k.turns u + a.1 = f g.0 in (
          omega (arith, g.0, length-set key u infinity, k.key_long),
          record { from = omega arith; way = omega (arith, (k.waits u l).way); light = inr (omega (arith, turn-light, g.1)) },
        ))
        (out u) (k.base.inside u l) (near-arc n out root k.turns u l)

    turn-walk : Walked (settled u dist key) (get_or key u 0) Fine (out u) (set key u infinity) (served (out u) u dist key)
    turn-walk = walked-is (settled u dist key) (get_or key u 0) Fine (out u) (set key u infinity) fine-arc

    -- every vertex is known_at at least as near as before
    known-down : (v : ℕ) → known_at (settled u dist key) (served (out u) u dist key) v ≤ known_at dist key v
    known-down v =
        elim (ℕ_discrete v u) as (λ _. known_at (settled u dist key) (served (out u) u dist key) v ≤ known_at dist key v) [
          | yes e ↦ rw e (let a = dist-here in let b = turn-new in omega arith)
          | no q ↦ let a = dist-other v q in let b = key-other v q in let c = turn-walk.down v in omega arith
        ]

    settled_here : Settled (settled u dist key) (served (out u) u dist key) (suc k.turns) (get_or key u 0) u
    settled_here =
        let e = dist-here in
        record {
          gone = turn-walk.still u (omega arith) ∙ key_here;
          upto = omega arith;
          way = let a = near_down n out root k.turns u l in omega (arith, (k.waits u l).way);
          closed = all_map (λ a h. rw e h) (out u) turn-walk.met;
        }

    settled-other : (v : ℕ) → v < n → (v ≡ u → ⊥) → Settled dist key k.turns k.level v
        → Settled (settled u dist key) (served (out u) u dist key) (suc k.turns) (get_or key u 0) v
    settled-other v h q s =
        let e = dist-other v q in
        let up = (k.waits u l).from in
        record {
          gone = turn-walk.still v (omega (arith, s.upto)) ∙ key-other v q ∙ s.gone;
          upto = omega (arith, s.upto);
          way = let a = near_down n out root k.turns v h in omega (arith, s.way);
          closed = all_map (λ a h. let b = known-down a.0 in let c : known_at dist key a.0 ≤ get_or dist v 0 + a.1 = h in omega arith)
              (out v) s.closed;
        }

    pub serving-more : Serving (settled u dist key) (served (out u) u dist key)
    serving-more =
        record {
          turns = suc k.turns;
          level = get_or key u 0;
          base = k.base;
          count = turn-count;
          dist_long = length-set dist u (get_or key u 0) ∙ k.dist_long;
          key_long = turn-walk.long ∙ length-set key u infinity ∙ k.key_long;
          low = omega (arith, turn-light);
          start = let a = known-down root in omega (arith, k.start);
          waits = λ v h.
              turn-walk.keeps (λ x g. fine-key x (omega (arith, length-set key u infinity, k.key_long))) v (omega
              (arith, length-set key u infinity, k.key_long));
          form = λ v h.
              elim (ℕ_discrete v u) as (λ _. (get_or (settled u dist key) v 0 ≡ infinity) ⊎ Settled (settled u dist key) (served
              (out u) u dist key) (suc k.turns) (get_or key u 0) v) [
                | yes e ↦ inr (rw e settled_here)
                | no q ↦ ⊎_elim (λ e. inl (dist-other v q ∙ e)) (λ s. inr (settled-other v h q s)) (k.form v h)
              ];
        }

    -- one vertex fewer is left
    pub serving-less : n - seen (settled u dist key) < n - seen dist
    serving-less = omega (arith, turn-count, k.count, turn-few)

  -- ---- the end: nothing waits that is reached
  module _ {dist key : List ℕ} (k : Serving dist key) (over : (v : ℕ) → v < n → infinity ≤ get_or key v 0) where
    serving-bound : k.level ≤ most_vertices * most_weight
    serving-bound = omega (arith, k.low, k.count, seen-le dist, k.dist_long, k.base.few)

    dist-most : (v : ℕ) → v < n → get_or dist v 0 ≤ infinity
    dist-most v h =
        ⊎_elim (λ e. omega arith) (λ s. omega (arith, s.upto, serving-bound)) (k.form v h)

    -- a vertex that has a distance has one of at most n - 1 arcs
    pub serving-most : (v : ℕ) → v < n → get_or dist v 0 < infinity → get_or dist v 0 ≤ (n - 1) * most_weight
    serving-most v h g =
        ⊎_elim (λ e. absurd (omega arith)) (λ s. omega (arith, s.upto, k.low, k.count, seen-le dist, k.dist_long)) (k.form v h)

    -- no walk is shorter
    pub serving-no-less : (j v : ℕ) → v < n → get_or dist v 0 ≤ near n out root j v
    serving-no-less zero v h =
        elim (ℕ_discrete v root) as (λ _. get_or dist v 0 ≤ near n out root 0 v) [
          | yes e ↦ let a = over root k.base.there in let b = k.start in rw e (omega arith)
          | no q ↦ rw (near-other n out root v h q) (dist-most v h)
        ]
    serving-no-less (suc j) v h =
        near-low n out root j v (get_or dist v 0) h (dist-most v h) (serving-no-less j v h)
        (λ u l.
        let i = serving-no-less j u l in
        ⊎_elim
        (λ e. all_map (λ a g q. let m = dist-most v h in omega arith) (out u) (k.base.inside u l))
        (λ s.
        all_map
        (λ a g q.
        let m = dist-most v h in
        let o = over v h in
        let c : known_at dist key v ≤ get_or dist u 0 + a.1 = subst (λ (x : ℕ). known_at dist key x ≤ get_or dist u 0 + a.1) q g in
        omega arith)
        (out u) s.closed)
        (k.form u l))

    pub serving-no-more : (v : ℕ) → v < n → near n out root n v ≤ get_or dist v 0
    serving-no-more v h =
        ⊎_elim
        (λ e. let a = near-most n out root n v h in omega arith)
        (λ s. let a = near-more n out root k.turns n v h (omega (arith, k.count, seen-le dist, k.dist_long)) in omega (arith, s.way))
        (k.form v h)

    -- arcs of what has a distance lead to what has one
    pub serving-reach : (u : ℕ) → u < n → get_or dist u 0 < infinity → All (λ a. get_or dist a.0 0 < infinity) (out u)
    serving-reach u l h =
        ⊎_elim (λ e. absurd (omega arith))
        (λ s.
        let up = s.upto in
        let b = serving-bound in
        all_two
        (λ a g c.
        let o = over a.0 g.0 in let d : known_at dist key a.0 ≤ get_or dist u 0 + a.1 = c in let w = g.1 in omega arith)
        (out u) (k.base.inside u l) s.closed)
        (k.form u l)

    pub serving-end : dist ≡ distances n out root
    serving-end =
        sym
        (column-is (near n out root n) 0 dist n k.dist_long
        (λ v h. let a = serving-no-less n v h in let b = serving-no-more v h in omega arith))
        ∙ column-is (near n out root n) infinity (least_within out n root n) n (within-length n out root n) (λ v h. refl)

  -- ---- the beginning: the root alone waits
  module _ (b : Base) where
    first-here : get_or (set (replicate n infinity) root 0) root 0 ≡ 0
    first-here = get_or-set_same (replicate n infinity) root 0 0 (omega (arith, b.there, length-replicate {A = ℕ} n infinity))

    first-waits : (v : ℕ) → v < n → Waiting 0 0 v (get_or (set (replicate n infinity) root 0) v 0)
    first-waits v h =
        elim (ℕ_discrete v root) as (λ _. Waiting 0 0 v (get_or (set (replicate n infinity) root 0) v 0)) [
          | yes e ↦ rw (e, first-here) (record {
            from = omega arith;
            way = let a = near-root n out root
                b.there in omega arith;
            light = inr (omega arith);
          })
          | no q ↦
              rw (get_or-set_other (replicate n infinity) root v 0 0 q, get_or-replicate n v infinity 0 h)
              (record { from = omega arith; way = near-most n out root 0 v h; light = inl refl })
        ]

    pub serving-begin : Serving (replicate n infinity) (set (replicate n infinity) root 0)
    serving-begin =
        record {
          turns = 0;
          level = 0;
          base = b;
          count = seen_none n;
          dist_long = length-replicate n infinity;
          key_long = length-set (replicate n infinity) root 0 ∙ length-replicate n infinity;
          low = omega arith;
          start = let a = first-here in omega arith;
          waits = first-waits;
          form = λ v h. inl (get_or-replicate n v infinity 0 h);
        }
