-- What the reading of a file answers, and what it leaves in the areas.
use Rattle.std.specs.Prelude.{Option, ℕ, Bool, List, ℤ, pos, length, take, replicate}
use Rattle.basis.specs.Refusal.{Said, gives, refuses, mapped}
use Rattle.basis.specs.Area.{area_of}
use Rattle.graph.specs.Arcs.{seconds, bumps}
use Rattle.lists.specs.Files.{identifiers, edges_of, all_numbered}

-- what the reading of a vertex file answers, and what stands in the area of identifiers then
pub record VerticesRead : Type 0 where
  pub answer : Said ℕ
  pub ids : List ℤ

-- the same, by its fields in order: the count of lines or the refusal, the area of identifiers
abbrev pub vertex_outcome : Said ℕ → List ℤ → VerticesRead
vertex_outcome answer ids = record { answer = answer; ids = ids }

-- the identifiers in an area of the given length, as far as there is room, and zeros behind them
abbrev pub ids_area : ℕ → Said (List ℤ) → List ℤ
ids_area size s = area_of (pos 0) size (take size) s

-- the reading of a vertex file of at most so many lines into an area of the given length
abbrev pub vertex_call : ℕ → List ℕ → ℕ → VerticesRead
vertex_call most s size = vertex_outcome (mapped length (identifiers most s)) (ids_area size (identifiers most s))

-- the same of an edge file: the answer, how many edges begin at each vertex, and their second ends
pub record EdgesRead : Type 0 where
  pub answer : Said ℕ
  pub counts : List ℕ
  pub targets : List ℕ

-- the same, by its fields in order: the count of lines or the refusal, the edges counted at their first ends, their second ends
abbrev pub edge_outcome : Said ℕ → List ℕ → List ℕ → EdgesRead
edge_outcome answer counts targets = record { answer = answer; counts = counts; targets = targets }

-- how many edges begin at each vertex, in an area of the given length
abbrev pub counts_area : (ℤ → Option ℕ) → ℕ → Said (List (ℤ × ℤ)) → List ℕ
counts_area place size (gives es) = bumps (replicate size 0) (all_numbered place es)
counts_area place size (refuses r) = replicate size 0

-- their second ends in file order, as far as there is room, and zeros behind them
abbrev pub targets_area : (ℤ → Option ℕ) → ℕ → Said (List (ℤ × ℤ)) → List ℕ
targets_area place size s = area_of 0 size (λ es. take size (seconds (all_numbered place es))) s

-- the answer and the areas of an edge file by the edges that it lists, or by its refusal
abbrev pub edge_call_by : (ℤ → Option ℕ) → ℕ → ℕ → Said (List (ℤ × ℤ)) → EdgesRead
edge_call_by place c t es = edge_outcome (mapped length es) (counts_area place c es) (targets_area place t es)

-- the reading of an edge file of at most so many lines between the vertices that `place` finds, into areas of the given lengths
abbrev pub edge_call : Bool → ℕ → (ℤ → Option ℕ) → List ℕ → ℕ → ℕ → EdgesRead
edge_call undirected most place s c t =
    edge_call_by place c t (edges_of undirected most place s)
