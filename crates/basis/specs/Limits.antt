-- The rules "What the engine covers": the limits of the library and of the desk that their layers share.
use Rattle.std.specs.Prelude.{ℕ}

-- "Library limits: 65,536 vertices"
abbrev pub most_vertices : ℕ
most_vertices = 65536

-- "1,048,576 edges", of the same sentence
abbrev pub most_edges : ℕ
most_edges = 1048576

-- "2,097,152 stored arcs"
abbrev pub most_arcs : ℕ
most_arcs = 2097152

-- Change K3: "a weight .. from 0 to 100000", "held as whole millionths": the largest
abbrev pub most_weight : ℕ
most_weight = 100000000000

-- "Desk limits: 1,024 vertices"
abbrev pub desk_vertices : ℕ
desk_vertices = 1024

-- "2,048 edges", of the same sentence
abbrev pub desk_edges : ℕ
desk_edges = 2048
