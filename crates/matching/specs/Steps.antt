-- What private functions say of their work: the lines of a claim one by one.
use Rattle.std.specs.Prelude.{ℕ, zero, suc, ◌+◌, ◌-◌, ◌^◌, ◌<◌, ◌≤◌, min, ◌≡◌, ◌≢◌, Bool, not, cond, List, ℤ, pos, length, get_or, take}
use Rattle.std.specs.Prelude.{set, eqb, Option, Some, None, Result, Ok, Err}
use Rattle.basis.specs.Refusal.{Said, gives, refuses, at_column, claim_file}
use Rattle.basis.specs.declared.refusal.Refusal.{Refusal}
use Rattle.basis.specs.Scan.{every, or_else}
use Rattle.graph.specs.Find.{bisected}
use Rattle.matching.specs.declared.numbers.Rule.{Rule}
use Rattle.text.specs.declared.line.Fault.{Fault}
use Rattle.text.specs.declared.decimal.Decimal.{Decimal}
use Rattle.matching.specs.Calls.{near_within, fraction_in, coefficients_judged}
use Rattle.matching.specs.Claim.{number_lines, ids_of}
use Rattle.matching.specs.Cover.{its_line, incomplete_line, in_order}
use Rattle.matching.specs.Verdict.{Verdict, mismatch_vertex, verdict_of}

-- a place that is counted from 0, or none, as the definitions count it: from 1, and 0 is none
abbrev pub counted : Option ℕ → ℕ
counted None = 0
counted (Some i) = suc i

-- what is found after k lines: what the reader has said, the end or a line, or a refusal at its fault
abbrev pub Found : {A : Type 0} → Option (Result A Fault) → ℕ → Result (Option A) Refusal → Type 0
Found said k (Ok None) = said ≡ None
Found said k (Ok (Some x)) = said ≡ Some (Ok x)
Found said k (Err r) = (f : Fault) × (said ≡ Some (Err f)) × (r ≡ at_column f.number claim_file (k + 1) f.column)

-- what is found is a vertex that the record of claim lines has no line for, or is missing
abbrev pub new_in : List ℕ → Option ℕ → Option ℕ
new_in lines (Some v) = cond (eqb (get_or lines v 0) 0) (Some v) None
new_in lines None = None

-- an area with x at the place that was found, if one was
abbrev pub set_at : {A : Type 0} → List A → Option ℕ → A → List A
set_at l (Some v) x = set l v x
set_at l None x = l

-- what is found is one of n places
abbrev pub FoundBelow : Option ℕ → ℕ → Type 0
FoundBelow (Some v) n = v < n
FoundBelow None n = Unit {0}

-- the first stray line once the line after k others has named a new vertex or none: one found before, or this where it names none
abbrev pub stray_step : Option ℕ → ℕ → ℕ → ℕ
stray_step (Some v) k stray = stray
stray_step None k stray = or_else stray (k + 1)

-- the lesser of two vertices at fault, counted from 1; the first may be 0, none
abbrev pub lesser_fault : ℕ → ℕ → ℕ
lesser_fault zero other = other
lesser_fault (suc v) other = min (suc v) other

-- the smallest vertex at fault once a new vertex, or none, has claimed s: one found before, or this where s is not near its fraction
abbrev pub far_step : List ℕ → List ℕ → Option ℕ → Decimal → ℕ → ℕ
far_step nums dens (Some v) s far = cond (near_within (fraction_in nums dens v) s) far (lesser_fault far (v + 1))
far_step nums dens None s far = far

-- the record has a line for vertex v
unfoldable pub is_recorded : List ℕ → ℕ → Bool
is_recorded lines v = not (eqb (get_or lines v 0) 0)

-- the first incomplete line of a claim that ends after k lines: a stray one, or the line after its last where one of n vertices has none
unfoldable pub end_line : List ℕ → ℕ → ℕ → ℕ → ℕ
end_line lines n k stray = or_else stray (cond (every n (is_recorded lines)) 0 (k + 1))

-- what the record has for the smallest vertex at fault, which is counted from 1; 0 where there is none
abbrev pub reported_in : List ℕ → ℕ → ℕ
reported_in lines zero = 0
reported_in lines (suc v) = get_or lines v 0

-- the record has a line for each of n vertices
abbrev pub NoneMissing : ℕ → List ℕ → Type 0
NoneMissing n lines = (v : ℕ) → v < n → get_or lines v 0 ≢ 0

-- the first incomplete line has a number; or, where none is incomplete, the vertex at fault has its line in the record
abbrev pub Reportable : Option ℕ → Option ℕ → List ℕ → Type 0
Reportable (Some k) fault lines = k < 2 ^ 64 - 1
Reportable None (Some v) lines = (v < length lines) × (get_or lines v 0 ≢ 0)
Reportable None None lines = Unit {0}

-- the same of a claim on n vertices that was read, whichever vertex is at fault; nothing where it was not read whole
abbrev pub ReadWell : Result (Option ℕ) Refusal → ℕ → List ℕ → Type 0
ReadWell (Ok None) n lines = NoneMissing n lines
ReadWell (Ok (Some k)) n lines = k < 2 ^ 64 - 1
ReadWell (Err r) n lines = Unit {0}

-- the first n places of the record hold the claim lines of n vertices, which identifiers name so
abbrev pub Maps : (ℤ → Option ℕ) → ℕ → List ℤ → List ℕ → Type 0
Maps place n named lines = (v : ℕ) → v < n → get_or lines v 0 ≡ its_line place named v

-- the lines of a claim that was read whole: the first incomplete one, the claim lines of its vertices in the record, and where none is
-- incomplete, their values in the working area, in vertex order
pub record WholeOf (most : ℕ) (ids : List ℤ) (s : List ℕ) (claimed : List ℤ) (places : List ℕ) (incomplete : ℕ) : Type 0 where
  pub lines : List (ℤ × ℤ)
  pub are : number_lines most s ≡ gives lines
  pub first : incomplete ≡ incomplete_line (bisected ids) (length ids) (ids_of lines)
  pub maps : Maps (bisected ids) (length ids) (ids_of lines) places
  pub short : incomplete ≤ length s + 1
  pub recorded : incomplete ≡ 0 → NoneMissing (length ids) places
  pub values : incomplete ≡ 0 → take (length ids) claimed ≡ in_order (bisected ids) (pos 0) (length ids) lines

-- what the code's answer tells of a claim: it was read whole, with its first incomplete line or none, or its first fault is this refusal
abbrev pub ReadAs : ℕ → List ℤ → List ℕ → List ℤ → List ℕ → Result (Option ℕ) Refusal → Type 0
ReadAs most ids s claimed lines (Ok incomplete) = WholeOf most ids s claimed lines (counted incomplete)
ReadAs most ids s claimed lines (Err r) = number_lines most s ≡ refuses r

-- what a reading tells, of working areas of the given sizes
pub record ReadOf (most : ℕ) (ids : List ℤ) (s : List ℕ) (size width : ℕ) (claimed : List ℤ) (lines : List ℕ)
    (r : Result (Option ℕ) Refusal) : Type 0 where
  pub tells : ReadAs most ids s claimed lines r
  pub kept : length claimed ≡ size
  pub wide : length lines ≡ width

-- what is said of a claim that was read
abbrev pub read_judged : Rule → List ℤ → List ℤ → List ℕ → Result (Option ℕ) Refusal → Said Verdict
read_judged rule reference claimed lines (Ok incomplete) =
    gives (verdict_of (counted incomplete) (reported_in lines (mismatch_vertex rule reference claimed)))
read_judged rule reference claimed lines (Err r) = refuses r

-- what is said of a claim of coefficients that was read, and the size of the record
pub record JudgedOf (most : ℕ) (ids : List ℤ) (nums dens s : List ℕ) (width : ℕ) (lines : List ℕ) (said : Said Verdict) : Type 0 where
  pub tells : said ≡ coefficients_judged most ids nums dens s
  pub wide : length lines ≡ width
