-- The graph of the rules' sheet, as its two lists load.
use Rattle.basis.specs.Refusal.{Said, gives, refuses}
use Rattle.text.specs.Bytes.{bytes}
use Rattle.graph.specs.declared.Size.{Size}
use Rattle.graph.specs.Sound.{Graph, lent}
use Rattle.load.specs.Load.{Outcome, room_of, library, load_call}

-- the size that a load gives; none where it is refused
abbrev size_given : Said Size → Size
size_given (gives size) = size
size_given (refuses r) = record { vertices = 0; arcs = 0 }

-- the graph that a load leaves in its areas
abbrev loaded_graph : Outcome → Graph
loaded_graph o = lent (size_given o.answer) o.ids o.out_offsets o.out_targets o.in_offsets o.in_sources

-- "directed / 5 / -3 / 2 / 5 / 9 / 20 / 5 / 2 5 / 2 9 / 5 2 / 5 9 / 9 20", in areas of as many places as it needs
abbrev pub sheet_graph : Graph
sheet_graph = loaded_graph (load_call library 1 (room_of 5 6 5 6 5) (bytes "-3\n2\n5\n9\n20\n") (bytes "2 5\n2 9\n5 2\n5 9\n9 20\n"))
