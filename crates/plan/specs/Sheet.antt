-- "`directed` or `undirected`; then three sections, each after its count line: vertices, edges, jobs."
use Rattle.std.specs.Prelude.{ℕ, zero, suc, Bool, true, false, cond, List, length, leb, ltb}
use Rattle.basis.specs.Refusal.{Said, gives, refuses, at, too_many, bad_form, sheet_file, onward, mapped}
use Rattle.basis.specs.Limits.{desk_vertices, desk_edges}
use Rattle.text.specs.Bytes.{bytes}
use Rattle.text.specs.Word.{Word, malformed, value, count_of}
use Rattle.plan.specs.Lines.{sheet_fault, sheet_line, is_word}
use Rattle.plan.specs.Jobs.{job_of}
use Rattle.plan.specs.declared.sections.Block.{Block}
use Rattle.plan.specs.declared.sections.Plan.{Plan}

-- of the desk limits: "16 jobs"
abbrev pub most_jobs : ℕ
most_jobs = 16

-- "a sheet of 65,536 bytes"
abbrev pub most_bytes : ℕ
most_bytes = 65536

-- `directed`, a whole line without its LF
abbrev pub directed_word : List ℕ
directed_word = bytes "directed"

-- `undirected`, likewise
abbrev pub undirected_word : List ℕ
undirected_word = bytes "undirected"

-- whether the graph is directed, by the bytes of the first line
unfoldable pub mode_of : List ℕ → Word Bool
mode_of bs = cond (is_word directed_word bs) (value true) (cond (is_word undirected_word bs) (value false) malformed)

-- the first line of a sheet: whether the graph is directed, with the place past the line
abbrev pub mode_line : List ℕ → Said (Bool × ℕ)
mode_line s = sheet_line mode_of s 0

-- "any count above its limit is 1": a count that was read at a place, with the place past its line
abbrev pub limited : ℕ → List ℕ → ℕ → ℕ × ℕ → Said (ℕ × ℕ)
limited limit s place c = cond (leb c.0 limit) (gives c) (refuses (sheet_fault s place too_many))

-- the count line at a place: "Bad form is 2", and then the limit
unfoldable pub count_line : ℕ → List ℕ → ℕ → Said (ℕ × ℕ)
count_line limit s place = onward (sheet_line count_of s place) (limited limit s place)

-- "enough ended lines per section": of the vertices and edges any bytes will do, since the load reads them
abbrev pub any_of : List ℕ → Word (Unit {0})
any_of bs = value tt

-- the place past a line, whatever it says
abbrev pub next_of : {A : Type 0} → Said (A × ℕ) → Said ℕ
next_of x = mapped (λ v. v.1) x

-- the place past the line at a place: a job's line where the first argument is true, else any line that is ended
abbrev pub line_past : Bool → List ℕ → ℕ → Said ℕ
line_past true s place = next_of (sheet_line job_of s place)
line_past false s place = next_of (sheet_line any_of s place)

-- the place past so many lines
unfoldable pub lines_past : Bool → ℕ → List ℕ → ℕ → Said ℕ
lines_past jobs zero s place = gives place
lines_past jobs (suc more) s place = elim (line_past jobs s place) [ gives next ↦ lines_past jobs more s next | refuses r ↦ refuses r ]

-- a `Block`, by its fields in order: how many lines, where they begin, the place past them
abbrev pub block : ℕ → ℕ → ℕ → Block
block count from to = record { count = count; from = from; to = to }

-- a section's lines behind its count line: as many as the count says
abbrev pub block_of : Bool → List ℕ → ℕ × ℕ → Said Block
block_of jobs s c = mapped (block c.0 c.1) (lines_past jobs c.0 s c.1)

-- "each after its count line": the section at a place, of jobs or of any lines, with the limit of its count
unfoldable pub section : Bool → ℕ → List ℕ → ℕ → Said Block
section jobs limit s place = onward (count_line limit s place) (block_of jobs s)

-- a `Plan`, by its fields in order: whether directed, and the three sections
abbrev pub plan : Bool → Block → Block → Block → Plan
plan directed vertices edges jobs = record { directed = directed; vertices = vertices; edges = edges; jobs = jobs }

-- "mode, counts, enough ended lines per section, jobs"
unfoldable pub sections : List ℕ → Said Plan
sections s =
    onward (mode_line s)
    (λ mode. onward (section false desk_vertices s mode.1)
    (λ vertices. onward (section false desk_edges s vertices.to)
    (λ edges. onward (section true most_jobs s edges.to)
    (λ jobs. gives (plan mode.0 vertices edges jobs)))))

-- "Bytes after the last job are 2, at the next line."
abbrev pub ended : List ℕ → Plan → Said Plan
ended s p = cond (ltb p.jobs.to (length s)) (refuses (sheet_fault s p.jobs.to bad_form)) (gives p)

-- "A sheet is checked for length (1, line 0), then line by line"
unfoldable pub sheet_check : List ℕ → Said Plan
sheet_check s = cond (ltb most_bytes (length s)) (refuses (at too_many sheet_file 0)) (onward (sections s) (ended s))
