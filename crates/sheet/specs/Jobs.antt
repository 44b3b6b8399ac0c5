-- The rules "Layers, desk program, host call": what a job prints.
use Rattle.std.specs.Prelude.{ℕ, zero, suc, List, [], ◌++◌, ℤ, pos, replicate}
use Rattle.basis.specs.Refusal.{Said, gives, refuses}
use Rattle.basis.specs.Area.{between}
use Rattle.basis.specs.Limits.{desk_vertices}
use Rattle.graph.specs.Sound.{Graph}
use Rattle.bfs.specs.Call.{bfs_call}
use Rattle.wcc.specs.Call.{wcc_call}
use Rattle.cdlp.specs.Call.{cdlp_call}
use Rattle.lcc.specs.Call.{lcc_call}
use Rattle.plan.specs.Jobs.{job_line}
use Rattle.plan.specs.declared.job.Job.{Job}
use Rattle.plan.specs.declared.job.Job.TheVariants.{Bfs, Wcc, Cdlp, Lcc}
use Rattle.listing.specs.Listing.{refused_text, head_text, pair_lines, ratio_lines}

-- an area that a kernel is lent: one place for each vertex that a desk graph may have
abbrev pub desk_area : List ℕ
desk_area = replicate desk_vertices 0

-- the same area of signed numbers, for the results of BFS, WCC and CDLP
abbrev pub desk_area_z : List ℤ
desk_area_z = replicate desk_vertices (pos 0)

-- what a job prints by its kernel's answer: "Each job prints its line, a count line, then identifier and value for each vertex; a refused
-- job prints only its `refused` line."
abbrev pub answer_text : ℕ → List ℕ → Said (Unit {0}) → List ℕ → List ℕ
answer_text n line (gives x) listing = head_text line n ++ listing
answer_text n line (refuses r) listing = refused_text r

-- `bfs ID`, with ID its root: identifier and depth of each vertex
unfoldable pub bfs_text : Graph → ℤ → List ℕ → List ℕ
bfs_text g root line =
    let call = bfs_call g root desk_area_z desk_area in
    answer_text g.vertices line call.said (pair_lines g.ids call.depth)

-- `wcc`: identifier and label of each vertex
unfoldable pub wcc_text : Graph → List ℕ → List ℕ
wcc_text g line =
    let call = wcc_call g desk_area_z desk_area in
    answer_text g.vertices line call.said (pair_lines g.ids call.result)

-- `cdlp N`, with N its iterations: identifier and label of each vertex
unfoldable pub cdlp_text : Graph → ℤ → List ℕ → List ℕ
cdlp_text g iterations line =
    let call = cdlp_call g iterations desk_area_z desk_area desk_area desk_area in
    answer_text g.vertices line call.said (pair_lines g.ids call.result)

-- `lcc`: identifier and fraction of each vertex, from the two result areas
unfoldable pub lcc_text : Graph → List ℕ → List ℕ
lcc_text g line =
    let call = lcc_call g desk_area desk_area desk_area in
    answer_text g.vertices line call.said (ratio_lines g.ids call.numerators call.denominators)

-- "Jobs are `bfs ID`, `wcc`, `cdlp N`, `lcc`": what one of them prints on a graph, with the bytes of its line
abbrev pub job_text : Graph → List ℕ → Job → List ℕ
job_text g line (Bfs root) = bfs_text g root line
job_text g line Wcc = wcc_text g line
job_text g line (Cdlp iterations) = cdlp_text g iterations line
job_text g line Lcc = lcc_text g line

-- so many jobs from a place on, each with its line; a refused one does not end the run
unfoldable pub jobs_text : Graph → List ℕ → ℕ → ℕ → List ℕ
jobs_text g s zero place = []
jobs_text g s (suc more) place =
    elim (job_line s place) [ gives x ↦ job_text g (between place x.1 s) x.0 ++ jobs_text g s more x.1 | refuses r ↦ [] ]
