-- The rules "Layers, desk program, host call": the sheets that the check accepts, said of their bytes, with no word on how they are read.
use Rattle.std.specs.Prelude.{ℕ, ◌+◌, ◌≤◌, ◌≡◌, Bool, true, false, List, ◌∷◌, ◌++◌, length}
use Rattle.basis.specs.Limits.{desk_vertices, desk_edges}
use Rattle.text.specs.Word.{Word, value, count_of}
use Rattle.text.specs.Bytes.{lf}
use Rattle.text.specs.File.{FileSays}
use Rattle.plan.specs.Jobs.{job_of}
use Rattle.plan.specs.Sheet.{most_jobs, most_bytes, directed_word, undirected_word, any_of}
use Rattle.plan.specs.declared.sections.Block.{Block}
use Rattle.plan.specs.declared.sections.Plan.{Plan}

-- the word of the mode line: "`directed` or `undirected`"
abbrev pub mode_word : Bool → List ℕ
mode_word true = directed_word
mode_word false = undirected_word

-- a section that begins at a place, "after its count line": the word on that line says the count, which is within its limit;
-- then so many lines, each ended, and of the section's kind. The block says how many, where they begin and the place past them
pub record SectionForm {A : Type 0} (word : List ℕ → Word A) (limit place : ℕ) (b : Block) : Type 0 where
  pub count : List ℕ
  pub counted : count_of count ≡ value b.count
  pub few : b.count ≤ limit
  pub lines : List ℕ
  pub values : List A
  pub says : FileSays word lines values
  pub many : length values ≡ b.count
  pub from : b.from ≡ place + length count + 1
  pub to : b.to ≡ b.from + length lines

-- the bytes of a section: its count line and its lines
abbrev pub section_bytes : {A : Type 0} {word : List ℕ → Word A} {limit place : ℕ} {b : Block} → SectionForm word limit place b → List ℕ
section_bytes x = x.count ++ lf ∷ x.lines

-- "`directed` or `undirected`; then three sections, each after its count line: vertices, edges, jobs."; nothing after the last job,
-- and at most "65,536 bytes"
pub record SheetForm (s : List ℕ) (p : Plan) : Type 0 where
  pub vertices : SectionForm any_of desk_vertices (length (mode_word p.directed) + 1) p.vertices
  pub edges : SectionForm any_of desk_edges p.vertices.to p.edges
  pub jobs : SectionForm job_of most_jobs p.edges.to p.jobs
  pub whole : s ≡ mode_word p.directed ++ lf ∷ (section_bytes vertices ++ (section_bytes edges ++ section_bytes jobs))
  pub short : length s ≤ most_bytes
