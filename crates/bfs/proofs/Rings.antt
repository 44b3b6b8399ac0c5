-- Laws of rings: a vertex of the next ring stands behind an arc from this one; the depth is the first ring that has the vertex.
-- Assumes nothing.
use Prim.Native.Nat.{ℕ, zero, suc, ◌+◌, ◌≤◌, ◌<◌}
use mathlib.Core.Path.{◌≡◌, refl, sym, ap, ◌∙◌, subst}
use mathlib.Core.Logic.{⊎_elim}
use mathlib.Core.Bool.{Bool, true, false, cond}
use mathlib.Core.List.{List, [], ◌∷◌}
use native.Mathlib.Omega.{arith}
use lib.IntN.{ℤ, pos}
use lib.Dec.{ltb}
use borrow.Author.Tests.{ltb-true, lt-ltb, le-ltb}
use Rattle.basis.specs.Scan.{Inside, mem, first_from}
use Rattle.basis.proofs.Firsts.{first-is, first-none}
use Rattle.basis.proofs.Tests.{or-first, or-second, or_cases, false_of}
use Rattle.basis.proofs.Scans.{mem-none-of, mem-head, mem-tail, mem-cases, mem-append, below-mem}
use Rattle.basis.specs.Area.{unreachable}
use Rattle.bfs.specs.Depth.{ends, ring, ring_depth, depth_of}

-- ---- the depth that a ring stands for
pub depth-cases : (P : ℤ → Type 0) (n k : ℕ) → (k < n → P (pos k)) → P unreachable → P (ring_depth n k)
unfolding ring_depth
depth-cases P n k f z = go (ltb k n) refl
  where
    go : (t : Bool) → ltb k n ≡ t → P (cond t (pos k) unreachable)
    go true e = f (ltb-true k n e)
    go false e = z

module _ (out : ℕ → List ℕ) where
  -- ---- where arcs lead
  ends-has : (l : List ℕ) (u w : ℕ) → mem u l ≡ true → mem w (out u) ≡ true → mem w (ends out l) ≡ true
  unfolding ends
  ends-has [] u w m a = absurd (mem-none-of u m)
  ends-has (x ∷ l) u w m a =
      mem-append w (out x) (ends out l)
      ∙ ⊎_elim
      (λ e. or-first (mem w (out x)) (mem w (ends out l)) (subst (λ (y : ℕ). mem w (out y) ≡ true) e a))
      (λ t. or-second (mem w (out x)) (mem w (ends out l)) (ends-has l u w t a))
      (mem-cases u x l m)

  ends-from : (l : List ℕ) (w : ℕ) → mem w (ends out l) ≡ true → (u : ℕ) × (mem u l ≡ true) × (mem w (out u) ≡ true)
  unfolding ends
  ends-from [] w m = absurd (mem-none-of w m)
  ends-from (x ∷ l) w m =
      ⊎_elim (λ a. (x, mem-head x l, a)) (λ a. let r = ends-from l w a in (r.0, mem-tail r.0 x l r.1, r.2))
      (or_cases (mem w (out x)) (mem w (ends out l)) (sym (mem-append w (out x) (ends out l)) ∙ m))

  -- ---- rings
  module _ (root : ℕ) where
    -- v ends a walk of k arcs from the root
    abbrev pub Reached : ℕ → ℕ → Type 0
    Reached k v = mem v (ring out root k) ≡ true

    pub ring-root : Reached 0 root
    unfolding ring
    ring-root = mem-head root []

    pub ring-first : (v : ℕ) → Reached 0 v → v ≡ root
    unfolding ring
    ring-first v m = ⊎_elim (λ e. e) (λ t. absurd (mem-none-of v t)) (mem-cases v root [] m)

    pub ring-next : (k u w : ℕ) → Reached k u → mem w (out u) ≡ true → Reached (suc k) w
    unfolding ring
    ring-next k u w m a = ends-has (ring out root k) u w m a

    pub ring-from : (k w : ℕ) → Reached (suc k) w → (u : ℕ) × Reached k u × (mem w (out u) ≡ true)
    unfolding ring
    ring-from k w m = ends-from (ring out root k) w m

    pub ring-below : (n : ℕ) → Inside n out → root < n → (k v : ℕ) → Reached k v → v < n
    ring-below n inside low zero v m = subst (λ (x : ℕ). x < n) (sym (ring-first v m)) low
    ring-below n inside low (suc k) v m =
        let r = ring-from k v m in below-mem n (out r.0) (inside r.0 (ring-below n inside low k r.0 r.1)) v r.2

    -- ring k, of the first n, has v and none before it does
    pub record FirstRing (n v k : ℕ) : Type 0 where
      pub here : Reached k v
      pub least : (i : ℕ) → Reached i v → k ≤ i
      pub below : k < n

    -- whether ring k has v
    abbrev has : ℕ → ℕ → Bool
    has v k = mem v (ring out root k)

    first-ring : (n v k : ℕ) → FirstRing n v k → first_from (has v) n 0 ≡ k
    first-ring n v k f =
        let F = first-is (has v) n 0 k (omega arith) (omega (arith, f.below)) f.here in
        omega (arith, F.most, f.least (first_from (has v) n 0) F.passes)

    -- the depth is the first ring that has v
    pub depth-found : (n v k : ℕ) → FirstRing n v k → depth_of n out root v ≡ pos k
    unfolding depth_of ring_depth
    depth-found n v k f = ap (ring_depth n) (first-ring n v k f) ∙ rw (lt-ltb k n f.below) refl

    -- v is unreachable where no ring has it
    pub depth-none : (n v : ℕ) → ((i : ℕ) → Reached i v → ⊥) → depth_of n out root v ≡ unreachable
    unfolding depth_of ring_depth
    depth-none n v none =
        ap (ring_depth n) (first-none (has v) n 0 (λ i. false_of (has v i) (none i))) ∙ rw (le-ltb (0 + n) n (omega arith)) refl
