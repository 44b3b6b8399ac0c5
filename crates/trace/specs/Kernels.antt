-- The rules "Kernels": the four kernels on a lent graph, their answers as numbers, 0 where the results stand in the areas.
use Rattle.std.specs.Prelude.{ℕ, List, ℤ}
use Rattle.graph.specs.declared.Size.{Size}
use Rattle.bfs.specs.Call as Bfs
use Rattle.wcc.specs.Call as Wcc
use Rattle.cdlp.specs.Call as Cdlp
use Rattle.lcc.specs.Call as Lcc
use Rattle.trace.specs.Code.{coded, nothing}

-- a graph's "stated counts" as its size
abbrev pub stated_size : ℕ → ℕ → Size
stated_size vertices arcs = record { vertices = vertices; arcs = arcs }

-- BFS: the answer, and what stands in the result and working areas
pub record BfsTold : Type 0 where
  pub answer : ℕ
  pub depth : List ℤ
  pub queue : List ℕ

-- the same, by its fields in order
abbrev pub bfs_told : ℕ → List ℤ → List ℕ → BfsTold
bfs_told answer depth queue = record { answer = answer; depth = depth; queue = queue }

-- what a BFS call tells by its outcome: 0 or its refusal as a number, and the areas as they stand
unfoldable pub bfs_tells : Bfs.Outcome → BfsTold
bfs_tells o = bfs_told (coded o.said nothing) o.depth o.queue

-- WCC: the answer, the result area, and the working area
pub record WccTold : Type 0 where
  pub answer : ℕ
  pub result : List ℤ
  pub heads : List ℕ

-- the same, by its fields in order
abbrev pub wcc_told : ℕ → List ℤ → List ℕ → WccTold
wcc_told answer result heads = record { answer = answer; result = result; heads = heads }

-- what a WCC call tells by its outcome: 0 or its refusal as a number, and the areas as they stand
unfoldable pub wcc_tells : Wcc.Outcome → WccTold
wcc_tells o = wcc_told (coded o.said nothing) o.result o.heads

-- CDLP: the answer, the result area, and the three working areas
pub record CdlpTold : Type 0 where
  pub answer : ℕ
  pub result : List ℤ
  pub labels : List ℕ
  pub next : List ℕ
  pub counts : List ℕ

-- the same, by its fields in order
abbrev pub cdlp_told : ℕ → List ℤ → List ℕ → List ℕ → List ℕ → CdlpTold
cdlp_told answer result labels next counts =
    record { answer = answer; result = result; labels = labels; next = next; counts = counts }

-- what a CDLP call tells by its outcome: 0 or its refusal as a number, and the areas as they stand
unfoldable pub cdlp_tells : Cdlp.Outcome → CdlpTold
cdlp_tells o = cdlp_told (coded o.said nothing) o.result o.labels o.next o.counts

-- LCC: the answer, the two result areas, and the working area
pub record LccTold : Type 0 where
  pub answer : ℕ
  pub numerators : List ℕ
  pub denominators : List ℕ
  pub work : List ℕ

-- the same, by its fields in order
abbrev pub lcc_told : ℕ → List ℕ → List ℕ → List ℕ → LccTold
lcc_told answer numerators denominators work =
    record { answer = answer; numerators = numerators; denominators = denominators; work = work }

-- what an LCC call tells by its outcome: 0 or its refusal as a number, and the areas as they stand
unfoldable pub lcc_tells : Lcc.Outcome → LccTold
lcc_tells o = lcc_told (coded o.said nothing) o.numerators o.denominators o.work
