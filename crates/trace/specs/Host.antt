-- The rules "Layers, desk program, host call": "A C or Rust host calls the verdict with byte slices for the two lists and the claim, and
-- numbers".
use Rattle.std.specs.Prelude.{ℕ, Bool, cond, ◌&&◌, List, ℤ, length, eqb, leb}
use Rattle.basis.specs.Limits.{desk_vertices}
use Rattle.basis.specs.Refusal.{Said, unknown_number, onward, mapped, check}
use Rattle.graph.specs.Arcs.{arcs, backward, parts, offsets}
use Rattle.graph.specs.Sound.{Graph}
use Rattle.graph.specs.Find.{place_in}
use Rattle.lists.specs.Files.{identifiers, edges_of, all_numbered}
use Rattle.load.specs.Load.{Lists, is_undirected, desk}
use Rattle.kernels.specs.Answer.{bfs_number, wcc_number, cdlp_number}
use Rattle.matching.specs.Verdict.{Verdict}
use Rattle.verdicts.specs.Reference.{Reference, bfs_reference, wcc_reference, cdlp_reference, lcc_reference}
use Rattle.trace.specs.Code.{host_code}
use Rattle.trace.specs.Verdict.{as_refusal}

-- "Desk limits apply to all three files: 1,024, 2,048 and 1,024 lines.": the last of these, how many lines a claim may have,
-- which is as many as a vertex file
abbrev pub desk_lines : ℕ
desk_lines = desk_vertices

-- what two files say, the vertex file before the edge file: identifiers and arcs, or the first fault
unfoldable pub lists_said : Bool → List ℕ → List ℕ → Said Lists
lists_said undirected vertices edges =
    onward (identifiers desk.vertices vertices)
    (λ ids. mapped (λ es. record { ids = ids; arcs = arcs undirected (all_numbered (place_in ids) es) })
    (edges_of undirected desk.edges (place_in ids) edges))

-- their graph, with no place to spare
unfoldable pub graph_of : Lists → Graph
graph_of l =
    let n = length l.ids in
    record {
      vertices = n;
      arcs = length l.arcs;
      ids = l.ids;
      out_offsets = offsets l.arcs n;
      out_targets = parts l.arcs n;
      in_offsets = offsets (backward l.arcs) n;
      in_sources = parts (backward l.arcs) n;
    }

-- "kernel (1 BFS, 2 WCC, 3 CDLP, 4 LCC)": the number is one of them
abbrev pub is_kernel : ℕ → Bool
is_kernel kernel = leb 1 kernel && leb kernel 4

-- "mode (0 undirected, 1 directed)": the mode and the kernel's number are known
unfoldable pub is_known : ℕ → ℕ → Bool
is_known mode kernel = leb mode 1 && is_kernel kernel

-- what the kernel of a number brings to a verdict, with "parameter (root or iterations, else ignored)"
unfoldable pub reference_for : ℕ → Graph → List ℕ → ℕ → ℤ → Reference
reference_for most g claim kernel parameter =
    cond (eqb kernel bfs_number) (bfs_reference most g claim parameter)
    (cond (eqb kernel wcc_number) (wcc_reference most g claim)
    (cond (eqb kernel cdlp_number) (cdlp_reference most g claim parameter) (lcc_reference most g claim)))

-- "10 or 11, claim": what is said of the claim by a kernel's reference output, where its parameter is good
abbrev pub judged_as : Reference → Said Verdict
judged_as k = check k.given k.number k.judged

-- "Order: 12, load, 10 or 11, claim."
unfoldable pub host_says : List ℕ → List ℕ → List ℕ → ℕ → ℕ → ℤ → Said Verdict
host_says vertices edges claim mode kernel parameter =
    check (is_known mode kernel) unknown_number
    (onward (lists_said (is_undirected mode) vertices edges)
    (λ l. judged_as (reference_for desk_lines (graph_of l) claim kernel parameter)))

-- "The answer is number × 1,000,000 + file × 100,000 + line."
unfoldable pub host_verdict : List ℕ → List ℕ → List ℕ → ℕ → ℕ → ℤ → ℕ
host_verdict vertices edges claim mode kernel parameter = host_code (as_refusal (host_says vertices edges claim mode kernel parameter))
