-- What a load says fits a number. Assumes nothing.
use mathlib.Core.Path.{◌≡◌, sym, ap}
use mathlib.Core.List.{List}
use Prim.Native.Nat.{ℕ, ◌+◌, ◌<◌}
use native.Mathlib.Omega.{arith}
use lib.IntN.{ℤ}
use lib.ListN.{length}
use Rattle.basis.specs.Refusal.{Said, gives, refuses, mapped}
use Rattle.basis.proofs.Saids.{Either, Any}
use Rattle.graph.specs.declared.Size.{Size}
use Rattle.load.specs.declared.Limits.{Limits}
use Rattle.load.specs.Load.{Room, loaded, is_undirected, size_of, outcome, outcome_of, load_call, library}
use Rattle.load.proofs.Accepts.{load-accepted}
use Rattle.load.proofs.Arranges.{arcs-few}
use Rattle.load.proofs.Refused.{LoadRefusal, load-refusal}
use Rattle.trace.specs.Code.{coded, wide, Readable}
use Rattle.trace.specs.Load.{load_value, load_told, load_tells}
use Rattle.trace.proofs.Codes.{onward-readable, readable-by, readable-given, readable-refused, readable-silent, untold}

-- ---- what is refused
refusal-readable : {A : Type 0} (room size : ℕ) (limits : Limits) → limits.vertices + limits.edges + 1 < room → (s : Said A)
    → Either Any (LoadRefusal limits size) s → Readable room s untold
refusal-readable room size limits few (gives x) h = readable-silent x (omega arith)
refusal-readable room size limits few (refuses r) h =
    readable-refused r h.some
    (record { number = omega (arith, h.low); file = omega (arith, h.in_file); line = omega (arith, h.in_lines) })

pub loaded-readable : (room : ℕ) (limits : Limits) → limits.vertices + limits.edges + 1 < room
    → (mode : ℕ) (r : Room) (vertices edges : List ℕ)
    → Readable room (loaded limits mode r vertices edges) untold
loaded-readable room limits few mode r vertices edges =
    let size : ℕ = length vertices + length edges in
    refusal-readable room size limits few (loaded limits mode r vertices edges)
    (load-refusal limits size mode r vertices edges (omega arith) (omega arith))

-- ---- the call at library limits
module _ (mode : ℕ) (room : Room) (vertices edges : List ℕ) where
  size-readable : Readable wide (mapped size_of (loaded library mode room vertices edges)) load_value
  size-readable =
      onward-readable (loaded library mode room vertices edges) (loaded-readable wide library (omega arith) mode room vertices edges)
      (λ g e. let ok = (load-accepted library mode room vertices edges g).0 e in
      readable-given (size_of g) (let n = ok.good_vertices.few in let k = ok.good_edges.few in
      let m = arcs-few (is_undirected mode) g.ids ok.list in let e = ap length ok.arcs_are in omega arith))

  module _ (s : Said Size) (ids : List ℤ) (oo ot io is : List ℕ)
      (e : outcome s ids oo ot io is ≡ load_call library mode room vertices edges) where
    pub load-readable : Readable wide s load_value
    unfolding load_call outcome_of
    load-readable = readable-by (ap (λ o. o.answer) e) size-readable

    pub load_told_lem : (k : ℕ) → k ≡ coded s load_value → load_told k ids oo ot io is
        ≡ load_tells (load_call library mode room vertices edges)
    unfolding load_tells
    load_told_lem k f = rw (f, sym e)
