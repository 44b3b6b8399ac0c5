-- The rules "Lists" and "The loaded graph": the arcs of an edge list, and the lists that store them.
use Rattle.std.specs.Prelude.{ℕ, zero, suc, ◌+◌, Bool, true, false, cond, List, [], ◌∷◌, ◌++◌, length, get_or, set, eqb}
use Rattle.basis.specs.Area.{column}

-- an arc, or an edge, between vertex numbers: where from, where to
abbrev pub Arc : Type 0
Arc = ℕ × ℕ

-- the arcs of one edge: directed the edge itself, undirected "it stores two arcs"
abbrev pub edge_arcs : Bool → Arc → List Arc
edge_arcs false e = e ∷ []
edge_arcs true e = e ∷ (e.1, e.0) ∷ []

-- the arcs of an edge list, in order
abbrev pub arcs : Bool → List Arc → List Arc
arcs undirected [] = []
arcs undirected (e ∷ es) = edge_arcs undirected e ++ arcs undirected es

-- "the inward arcs are exactly the outward ones reversed"
abbrev pub backward : List Arc → List Arc
backward [] = []
backward (a ∷ l) = (a.1, a.0) ∷ backward l

-- the targets of v's arcs, in order
abbrev pub targets_of : List Arc → ℕ → List ℕ
targets_of [] v = []
targets_of (a ∷ l) v = cond (eqb a.0 v) (a.1 ∷ targets_of l v) (targets_of l v)

-- the targets of the vertices below n, one vertex after the other: what a target area stores
abbrev pub parts : List Arc → ℕ → List ℕ
parts l zero = []
parts l (suc n) = parts l n ++ targets_of l n

-- where v's part starts
abbrev pub start : List Arc → ℕ → ℕ
start l v = length (parts l v)

-- "Offsets begin at 0, never fall and end at the arc count": the n + 1 offsets
abbrev pub offsets : List Arc → ℕ → List ℕ
offsets l n = column (start l) 0 (suc n)

-- the second ends of edges: where edges rise, their outward targets in order
abbrev pub seconds : List Arc → List ℕ
seconds [] = []
seconds (e ∷ l) = e.1 ∷ seconds l

-- one more at place k of an area of counts
abbrev pub bump : List ℕ → ℕ → List ℕ
bump counts k = set counts k (get_or counts k 0 + 1)

-- one more for each arc, at the place of its first end
abbrev pub bumps : List ℕ → List Arc → List ℕ
bumps counts [] = counts
bumps counts (a ∷ l) = bumps (bump counts a.0) l
