-- Change K3: "Edge lines may carry a third field, a weight"; "A file has weights on all lines or none".
use Rattle.std.specs.Prelude.{ℕ, List, Bool, true, false, eqb, ℤ, Option, None, Some, Result, Ok, Err}
use Rattle.basis.specs.Refusal.{bad_form}
use Rattle.text.specs.Word.{Word, malformed, outside, value}
use Rattle.text.specs.Weight.{weight_of, weight_stop}
use Rattle.text.specs.Line.{Form, LineSaid, line, none, fault, line_by, pair_form, edge_form, edge_line}
use Rattle.text.specs.declared.line.Cursor.{Cursor}
use Rattle.text.specs.declared.line.Fault.{Fault}

-- "a weight: `0` or digits without a leading zero, optionally `.` and one to six digits": its form
abbrev pub weight_form : Form ℕ
weight_form = record { word = weight_of; stop = weight_stop }

-- "Edge lines may carry a third field, a weight": the form of one that does
abbrev pub weighed_form : Form (ℤ × (ℤ × ℕ))
weighed_form = pair_form (pair_form weight_form)

-- the ends of an edge that has no weight, with 0 in its place
abbrev pub unweighed : Word (ℤ × ℤ) → Word (ℤ × (ℤ × ℕ))
unweighed malformed = malformed
unweighed outside = outside
unweighed (value e) = value (e.0, (e.1, 0))

-- "An edge line is two with one space between.": the same form as before, with the weight 0
abbrev pub plain_form : Form (ℤ × (ℤ × ℕ))
plain_form = record { word = λ bs. unweighed (edge_form.word bs); stop = edge_form.stop }

-- "A file has weights on all lines or none": the form of each of its lines
abbrev pub edge_form_by : Bool → Form (ℤ × (ℤ × ℕ))
edge_form_by true = weighed_form
edge_form_by false = plain_form

-- an edge line with a weight
abbrev pub weighed_line : List ℕ → ℕ → LineSaid (ℤ × (ℤ × ℕ))
weighed_line s at = line_by weighed_form s at

-- an edge line of a file with weights or without
abbrev pub listed_line : Bool → List ℕ → ℕ → LineSaid (ℤ × (ℤ × ℕ))
listed_line weighted s at = line_by (edge_form_by weighted) s at

-- a line is refused 2
abbrev pub is_bad_form : {A : Type 0} → LineSaid A → Bool
is_bad_form (line v next) = false
is_bad_form (none p) = false
is_bad_form (fault n c p) = eqb n bad_form

-- "a line that differs from the first in having a weight is 2": the first line says whether a file has weights, as it is one that has not
-- the form of an edge line without; "no lines … are unweighted". A first line that has neither form is read as one with a weight, since
-- that form goes on at least as far
unfoldable pub has_weights : List ℕ → Bool
has_weights s = is_bad_form (edge_line s 0)

-- what the code's reader says of an edge line with its weight, by the place at which it left its cursor and the cases of its answer: the
-- two numbers and the weight
abbrev pub weighed_says : Cursor → Option (Result (ℤ × ℤ × ℕ) Fault) → LineSaid (ℤ × (ℤ × ℕ))
weighed_says k None = none k.at
weighed_says k (Some (Err f)) = fault f.number f.column k.at
weighed_says k (Some (Ok x)) = line (x.0, (x.1, x.2)) k.at
