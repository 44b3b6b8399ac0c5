-- Laws of the whole: the mode as a number, what a load gave, and where the sections of a checked sheet lie. Assumes nothing.
use Rattle.std.proofs.Common.{Result, Ok, Bool, true, false, refl}
use mir.Val.{bool_byte}
use Prim.Native.Nat.{ℕ, ◌≤◌}
use mathlib.Core.Path.{◌≡◌, sym, ap, ◌∙◌}
use mathlib.Core.List.{List}
use native.Mathlib.Omega.{arith}
use lib.IntN.{ℤ}
use lib.ListN.{length}
use Rattle.basis.specs.Refusal.{Said, gives, said}
use Rattle.basis.specs.declared.refusal.Refusal.{Refusal}
use Rattle.basis.specs.Limits.{desk_vertices}
use Rattle.basis.proofs.Saids.{mapped-gives}
use Rattle.graph.specs.declared.Size.{Size}
use Rattle.load.specs.Load.{Lists, Outcome, outcome, loaded, size_of, outcome_of, load_call, desk, desk_room}
use Rattle.load.specs.Good.{GoodLoad}
use Rattle.load.proofs.Accepts.{load-accepted}
use Rattle.plan.specs.declared.sections.Plan.{Plan}
use Rattle.plan.specs.Sheet.{sheet_check}
use Rattle.plan.proofs.Places.{accepted}
use Rattle.sheet.specs.Desk.{mode_number, lines_in, load_of}
use Rattle.sheet.specs.Steps.{Placed}

-- ---- the mode, as the library makes a number of it
pub mode-byte : (directed : Bool) → bool_byte directed ≡ mode_number directed
mode-byte true = refl
mode-byte false = refl

-- ---- what the vertex and edge sections of a plan say
module _ (s : List ℕ) (p : Plan) where
  abbrev pub lists_in : Said Lists
  lists_in = loaded desk (mode_number p.directed) desk_room (lines_in p.vertices s) (lines_in p.edges s)

  pub lists-good : (l : Lists) → lists_in ≡ gives l
      → GoodLoad desk (mode_number p.directed) desk_room (lines_in p.vertices s) (lines_in p.edges s) l
  lists-good l e = (load-accepted desk (mode_number p.directed) desk_room (lines_in p.vertices s) (lines_in p.edges s) l).0 e

-- a graph that was loaded has no more vertices than the area of identifiers has places
pub few-vertices : (s : List ℕ) (p : Plan) (x : Result Size Refusal) {ids : List ℤ} {oo ot io is : List ℕ} (size : Size)
    → outcome (said x) ids oo ot io is ≡ load_of s p desk_room
    → x ≡ Ok size → size.vertices ≤ desk_vertices
unfolding load_call outcome_of
few-vertices s p x size u e =
    let g = mapped-gives size_of (lists_in s p) size (sym (ap said e) ∙ ap (λ (o : Outcome). o.answer) u) in
    let q : size.vertices ≡ length g.0.ids = ap (λ (z : Size). z.vertices) g.2 in
    omega (arith, (lists-good s p g.0 g.1).ids_fit)

-- ---- a check's answers
pub placed : (s : List ℕ) (p : Plan) → gives p ≡ sheet_check s → Placed s p
placed s p u =
    let a = (accepted s p (sym u)).places in
    record {
      vertices-rise = a.vertices.rise;
      vertices-in = a.vertices.inside;
      edges-rise = a.edges.rise;
      edges-in = a.edges.inside;
    }
