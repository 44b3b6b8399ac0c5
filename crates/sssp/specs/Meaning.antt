-- What a distance is, and what a call of the kernel means, apart from how it is computed: change K3.
use Rattle.std.specs.Prelude.{ℕ, zero, suc, ◌+◌, ◌*◌, ◌≤◌, ◌<◌, ◌≡◌, ◌↔◌, true, false, List, ℤ, pos, length, get_or}
use Rattle.basis.specs.Refusal.{gives, unsound, unweighted, not_there, no_room}
use Rattle.basis.specs.Area.{infinity, unreachable, cleared}
use Rattle.graph.specs.Weights.{Weighted, Leg, is_weighted, out_legs, has_leg, sound_weighted}
use Rattle.kernels.specs.Result.{ZeroBehind}
use Rattle.bfs.specs.Meaning.{HasName}
use Rattle.sssp.specs.Call.{Outcome, refusal, room_for}

-- a route of k arcs along outgoing arcs from the root to a vertex, and the sum of its weights
pub data Route (out : ℕ → List Leg) (root : ℕ) : ℕ → ℕ → ℕ → Type 0 where
  home : Route out root zero root zero
  onto : {k u x w : ℕ} (c : ℕ) → Route out root k u x → has_leg w c (out u) ≡ true → Route out root (suc k) w (x + c)

-- x is the weight of some route from the root to v, and no route weighs less
pub record Lightest (out : ℕ → List Leg) (root v x : ℕ) : Type 0 where
  pub arcs : ℕ
  pub route : Route out root arcs v x
  pub least : (k y : ℕ) → Route out root k v y → x ≤ y

-- z is the distance of v
pub record IsDistance (out : ℕ → List Leg) (root v : ℕ) (z : ℤ) : Type 0 where
  -- "Shortest weighted routes": "our reference value is the exact sum"
  pub weight : (x : ℕ) → ((z ≡ pos x) × (x < infinity)) ↔ Lightest out root v x
  -- "`infinity` exactly where unreachable"
  pub none : (z ≡ unreachable) ↔ ((k x : ℕ) → Route out root k v x → ⊥)

-- a call that gives the distances from a vertex: each vertex has its distance at its place; D, S, W and T stood in the areas before it
pub record Done (g : Weighted) (root : ℕ) (D : List ℤ) (S W T : List ℕ) (o : Outcome) : Type 0 where
  pub answer : o.said ≡ gives tt
  pub distances : (v : ℕ) → v < g.graph.vertices → IsDistance (out_legs g) root v (get_or o.distance v (pos 0))
  pub behind : ZeroBehind (pos 0) g.graph.vertices (length D) o.distance
  -- "working areas are zero throughout"
  pub zeros : (o.settled ≡ cleared S) × (o.waiting ≡ cleared W) × (o.tree ≡ cleared T)

-- what a call means, refusals included
pub record Called (g : Weighted) (root : ℤ) (D : List ℤ) (S W T : List ℕ) (o : Outcome) : Type 0 where
  pub not_sound : sound_weighted g ≡ false → o ≡ refusal unsound D S W T
  pub plain : sound_weighted g ≡ true → is_weighted g ≡ false → o ≡ refusal unweighted D S W T
  pub missing : sound_weighted g ≡ true → is_weighted g ≡ true → ((v : ℕ) → HasName g.graph v root → ⊥) → o ≡ refusal not_there D S W T
  pub short : sound_weighted g ≡ true → is_weighted g ≡ true → (v : ℕ) → HasName g.graph v root
      → room_for g.graph.vertices D S W T ≡ false → o ≡ refusal no_room D S W T
  pub done : sound_weighted g ≡ true → is_weighted g ≡ true → (v : ℕ) → HasName g.graph v root
      → room_for g.graph.vertices D S W T ≡ true → Done g v D S W T o

-- "held as whole millionths": a weight of one
abbrev pub unit_weight : ℕ
unit_weight = 1000000

-- each outward arc weighs one
abbrev pub AllOne : Weighted → Type 0
AllOne g = (i : ℕ) → i < g.graph.arcs → get_or g.out_weights i 0 ≡ unit_weight

-- "distance besides hops": a distance that is a million times a depth, or both are unreachable
pub record Hops (depth distance : ℤ) : Type 0 where
  pub times : (k : ℕ) → k < infinity → depth ≡ pos k → distance ≡ pos (k * unit_weight)
  pub far : depth ≡ unreachable → distance ≡ unreachable
