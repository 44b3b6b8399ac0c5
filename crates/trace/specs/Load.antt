-- The rules "Lists": the load at library limits, its answer as a number.
use Rattle.std.specs.Prelude.{ℕ, ◌+◌, ◌*◌, List, ℤ}
use Rattle.graph.specs.declared.Size.{Size}
use Rattle.load.specs.Load.{Outcome}
use Rattle.trace.specs.Code.{coded}

-- vertices × 10^7 + arcs: a graph has at most 2,097,152 stored arcs
abbrev pub load_value : Size → ℕ
load_value size = size.vertices * 10000000 + size.arcs

-- the answer, and what stands in the five areas
pub record LoadTold : Type 0 where
  pub answer : ℕ
  pub ids : List ℤ
  pub out_offsets : List ℕ
  pub out_targets : List ℕ
  pub in_offsets : List ℕ
  pub in_sources : List ℕ

-- the same, by its fields in order
abbrev pub load_told : ℕ → List ℤ → List ℕ → List ℕ → List ℕ → List ℕ → LoadTold
load_told answer ids oo ot io is = record
    { answer = answer; ids = ids; out_offsets = oo; out_targets = ot; in_offsets = io; in_sources = is }

-- what a load tells by its outcome: the two counts or its refusal as a number, and the areas as they stand
unfoldable pub load_tells : Outcome → LoadTold
load_tells o = load_told (coded o.answer load_value) o.ids o.out_offsets o.out_targets o.in_offsets o.in_sources
