-- What private functions ask for.
use Rattle.std.specs.Prelude.{ℕ, ◌≤◌, List, length}
use Rattle.plan.specs.declared.sections.Plan.{Plan}

-- the vertex and the edge section of a plan lie in the sheet
pub record Placed (s : List ℕ) (p : Plan) : Type 0 where
  pub vertices-rise : p.vertices.from ≤ p.vertices.to
  pub vertices-in : p.vertices.to ≤ length s
  pub edges-rise : p.edges.from ≤ p.edges.to
  pub edges-in : p.edges.to ≤ length s
