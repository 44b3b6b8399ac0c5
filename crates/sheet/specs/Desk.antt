-- The rules "Layers, desk program, host call": the whole output of the desk program for the bytes of a sheet.
use Rattle.std.specs.Prelude.{ℕ, ◌+◌, ◌*◌, Bool, cond, List, ℤ, take}
use Rattle.basis.specs.Refusal.{Said, gives, refuses}
use Rattle.basis.specs.Area.{between}
use Rattle.graph.specs.declared.Size.{Size}
use Rattle.graph.specs.Sound.{Graph, lent}
use Rattle.load.specs.Load.{Room, Outcome, load_call, desk, desk_room}
use Rattle.plan.specs.declared.sections.Block.{Block}
use Rattle.plan.specs.declared.sections.Plan.{Plan}
use Rattle.plan.specs.Sheet.{most_bytes, most_jobs, sheet_check}
use Rattle.listing.specs.Listing.{refused_text}
use Rattle.sheet.specs.Jobs.{jobs_text}

-- "mode (0 undirected, 1 directed)"
abbrev pub mode_number : Bool → ℕ
mode_number directed = cond directed 1 0

-- the bytes of a section
abbrev pub lines_in : Block → List ℕ → List ℕ
lines_in b s = between b.from b.to s

-- "Then the load reads the vertex and edge sections as files 1 and 2, lines counted within the section."
abbrev pub load_of : List ℕ → Plan → Room → Outcome
load_of s p room = load_call desk (mode_number p.directed) room (lines_in p.vertices s) (lines_in p.edges s)

-- the graph that a load left in the areas, with the identifiers of its vertices alone
abbrev pub graph_in : Size → List ℤ → List ℕ → List ℕ → List ℕ → List ℕ → Graph
graph_in size ids oo ot io is = lent size (take size.vertices ids) oo ot io is

-- "A refused sheet or load prints one line": else the jobs print theirs, in their order
abbrev pub load_text : List ℕ → Plan → Outcome → Said Size → List ℕ
load_text s p o (gives size) =
    jobs_text (graph_in size o.ids o.out_offsets o.out_targets o.in_offsets o.in_sources) s p.jobs.count p.jobs.from
load_text s p o (refuses r) = refused_text r

-- what a good sheet prints: its plan's sections are loaded into areas of the desk's size, and the load's answer decides
unfoldable pub plan_text : List ℕ → Plan → List ℕ
plan_text s p = load_text s p (load_of s p desk_room) (load_of s p desk_room).answer

-- "A sheet is checked", and where it is refused it "prints one line": else what its plan prints
abbrev pub checked_text : List ℕ → Said Plan → List ℕ
checked_text s (gives p) = plan_text s p
checked_text s (refuses r) = refused_text r

-- the whole output for the bytes of a sheet, by what its check says
unfoldable pub desk_output : List ℕ → List ℕ
desk_output s = checked_text s (sheet_check s)

-- no job prints more bytes than this behind its line: a count line of 5, and 1,024 lines of 42
abbrev pub most_behind : ℕ
most_behind = 43013

-- no sheet prints more bytes than this: the lines of the jobs stand in the sheet, and each job prints the rest behind its line
abbrev pub most_output : ℕ
most_output = most_bytes + most_jobs * most_behind
