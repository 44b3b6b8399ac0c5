-- What a call of the kernel means, apart from how it is computed: the rules "Kernels" and Graphalytics 1.0.4, 2.3.3.
use Rattle.std.specs.Prelude.{ℕ, ◌<◌, ◌≡◌, ◌↔◌, true, false, List, ℤ, pos, length, get_or}
use Rattle.std.specs.Int.Signed.{lt_z}
use Rattle.basis.specs.Refusal.{gives, unsound, no_room}
use Rattle.basis.specs.Area.{cleared}
use Rattle.graph.specs.Sound.{Graph, outward, names, sound_graph}
use Rattle.kernels.specs.Result.{ZeroBehind}
use Rattle.wcc.specs.Component.{LinkedAmong}
use Rattle.wcc.specs.Call.{Outcome, refusal, room_for}

-- a chain of the graph's arcs, "arcs followed either way", links two vertices
abbrev pub LinkedIn : Graph → ℕ → ℕ → Type 0
LinkedIn g u v = LinkedAmong g.vertices (outward g) u v

-- a call that gives the labels: each vertex has its label at its place
pub record Done (g : Graph) (result : List ℤ) (heads : List ℕ) (o : Outcome) : Type 0 where
  pub answer : o.said ≡ gives tt
  -- "Two vertices belong to the same component, and thus have the same label, if there exists a path between these vertices": exactly then
  pub same : (u v : ℕ) → u < g.vertices → v < g.vertices
      → (get_or o.result u (pos 0) ≡ get_or o.result v (pos 0)) ↔ LinkedIn g u v
  -- "the smallest identifier of the component": it is the identifier of a member
  pub member : (v : ℕ) → v < g.vertices
      → (u : ℕ) × (u < g.vertices) × LinkedIn g u v × (get_or o.result v (pos 0) ≡ get_or (names g) u (pos 0))
  -- and no member's is smaller
  pub least : (u v : ℕ) → u < g.vertices → v < g.vertices → LinkedIn g u v
      → lt_z (get_or (names g) u (pos 0)) (get_or o.result v (pos 0)) ≡ false
  pub behind : ZeroBehind (pos 0) g.vertices (length result) o.result
  -- "working areas are zero throughout"
  pub zeros : o.heads ≡ cleared heads

-- what a call means, refusals included; result and heads stood in the two areas before it
pub record Called (g : Graph) (result : List ℤ) (heads : List ℕ) (o : Outcome) : Type 0 where
  pub not_sound : sound_graph g ≡ false → o ≡ refusal unsound result heads
  pub short : sound_graph g ≡ true → room_for g.vertices result heads ≡ false → o ≡ refusal no_room result heads
  pub done : sound_graph g ≡ true → room_for g.vertices result heads ≡ true → Done g result heads o
