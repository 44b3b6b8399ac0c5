-- What the loops over a file's lines do with one line, and what they keep.
use Rattle.std.specs.Prelude.{Option, Some, None, ℕ, Result, Ok, Err, ◌+◌, Bool, cond, ◌&&◌, List, ℤ, length, leb}
use Rattle.std.proofs.lemmas.List.Edits.{sets}
use Rattle.std.specs.Int.Signed.{lt_z}
use Rattle.basis.specs.declared.refusal.Refusal.{Refusal}
use Rattle.basis.specs.Refusal.{Said, gives, refuses, at, mapped, too_many, not_above, self_edge, larger_first, vertex_file, edge_file}
use Rattle.basis.specs.Order.{same_z}
use Rattle.text.specs.declared.line.Fault.{Fault}
use Rattle.text.specs.Line.{LineSaid, line, none, fault, vertex_line, edge_line}
use Rattle.text.specs.File.{Before, first, after, unless, fault_of, bad_at}
use Rattle.graph.specs.Arcs.{Arc, seconds, bumps}
use Rattle.lists.specs.declared.Lines.{Lines}
use Rattle.lists.specs.Files.{vertex_test, is_above, edge_test, edges_of, numbered, all_numbered}

-- what stands before a reader's next line, by the last that it passed
abbrev pub before_of : {A : Type 0} → Option A → Before A
before_of None = first
before_of (Some v) = after v

-- a reader at a place, which passed k lines
abbrev pub lines_at : {A : Type 0} → ℕ → ℕ → Option A → Lines A
lines_at place k last = record { at = record { at = place }; passed = k; last = last }

-- what a line says after k others, by what is read of it: 1 before a fault of form or range
abbrev pub counted : {A : Type 0} → ℕ → ℕ → ℕ → Result A Fault → Said A
counted file most k (Ok v) = cond (leb most k) (refuses (at too_many file (k + 1))) (gives v)
counted file most k (Err f) = refuses (bad_at file most k f.number f.column)

module _ {A : Type 0} (file most : ℕ) (test : Before A → A → ℕ) where
  -- one line more, by what is read at the reader's place: its values or its fault, or none where no line is left; and the reader then
  abbrev pub step_by : Lines A → LineSaid A → Said (Option A × Lines A)
  step_by c (line v next) =
      unless (fault_of file most test c.passed (before_of c.last) v) file (c.passed + 1)
      (gives (Some v, lines_at next (c.passed + 1) (Some v)))
  step_by c (none p) = gives (None, lines_at p c.passed c.last)
  step_by c (fault n x p) = refuses (bad_at file most c.passed n x)

-- the code's answer with the reader as it stands then, or the refusal alone
abbrev pub step_says : {A B : Type 0} → Lines A → Result (Option B) Refusal → Said (Option B × Lines A)
step_says c (Ok x) = gives (x, c)
step_says c (Err r) = refuses r

-- one vertex line more, read at the reader's place and tested after the identifier that it passed last
unfoldable pub vertex_step : List ℕ → ℕ → Lines ℤ → Said (Option ℤ × Lines ℤ)
vertex_step s most c = step_by vertex_file most vertex_test c (vertex_line s c.at.at)

-- what the identifiers leave behind: their count, and an area with them at its front, as far as there is room
abbrev pub ids_into : List ℤ → ℕ → List ℤ → ℕ × List ℤ
ids_into area k ids = (k + length ids, sets area k ids)

-- the code's answer and the area as it stands: the count with the area, or the refusal alone
abbrev pub ids_left : Result ℕ Refusal → List ℤ → Said (ℕ × List ℤ)
ids_left (Ok n) area = gives (n, area)
ids_left (Err r) area = refuses r

-- the number of the fault of an edge whose vertices are not looked up yet
unfoldable pub order_fault : Bool → Before (ℤ × ℤ) → ℤ × ℤ → Option ℕ
order_fault undirected before e =
    cond (same_z e.0 e.1) (Some self_edge)
    (cond (undirected && lt_z e.1 e.0) (Some larger_first) (cond (is_above before e) None (Some not_above)))

-- an edge's vertices where both are there, by what was found of its first end and of its second
abbrev pub looked_by : Option ℕ → Option ℕ → Option Arc
looked_by (Some u) (Some v) = Some (u, v)
looked_by (Some u) None = None
looked_by None y = None

-- an edge's step with the numbers of its vertices for its identifiers
abbrev pub with_numbers : (ℤ → Option ℕ) → Said (Option (ℤ × ℤ) × Lines (ℤ × ℤ)) → Said (Option Arc × Lines (ℤ × ℤ))
with_numbers place (gives (Some e, c)) = gives (Some (numbered place e), c)
with_numbers place (gives (None, c)) = gives (None, c)
with_numbers place (refuses r) = refuses r

-- one edge line more, read at the reader's place and tested after the edge that it passed last
unfoldable pub edge_step : Bool → ℕ → (ℤ → Option ℕ) → List ℕ → Lines (ℤ × ℤ) → Said (Option (ℤ × ℤ) × Lines (ℤ × ℤ))
edge_step undirected most place s c = step_by edge_file most (edge_test undirected place) c (edge_line s c.at.at)

-- the same with the numbers of its vertices, which `place` finds
abbrev pub numbered_step : Bool → ℕ → (ℤ → Option ℕ) → List ℕ → Lines (ℤ × ℤ) → Said (Option Arc × Lines (ℤ × ℤ))
numbered_step undirected most place s c = with_numbers place (edge_step undirected most place s c)

-- what edges leave behind: their count, one more for each at its first end, and an area with their second ends at its front, as far as
-- there is room
abbrev pub edges_into : List ℕ → List ℕ → ℕ → List Arc → ℕ × List ℕ × List ℕ
edges_into counts targets k es = (k + length es, bumps counts es, sets targets k (seconds es))

-- the same of edges by identifiers, whose vertices `place` finds
abbrev pub numbered_into : (ℤ → Option ℕ) → List ℕ → List ℕ → ℕ → List (ℤ × ℤ) → ℕ × List ℕ × List ℕ
numbered_into place counts targets k es = edges_into counts targets k (all_numbered place es)

-- the same of an edge file of at most so many lines, from the first place on: its edges in the two areas, or its refusal
abbrev pub edges_scanned : Bool → ℕ → (ℤ → Option ℕ) → List ℕ → List ℕ → List ℕ → Said (ℕ × List ℕ × List ℕ)
edges_scanned undirected most place s counts targets = mapped (numbered_into place counts targets 0) (edges_of undirected most place s)

-- the code's answer and the two areas as they stand: the count with the areas, or the refusal alone
abbrev pub edges_left : Result ℕ Refusal → List ℕ → List ℕ → Said (ℕ × List ℕ × List ℕ)
edges_left (Ok n) counts targets = gives (n, counts, targets)
edges_left (Err r) counts targets = refuses r
