-- "Jobs are `bfs ID`, `wcc`, `cdlp N`, `lcc`, their numbers in identifier form."
use Rattle.std.specs.Prelude.{ℕ, cond, List, drop}
use Rattle.basis.specs.Refusal.{Said}
use Rattle.text.specs.Bytes.{bytes}
use Rattle.text.specs.Word.{Word, malformed, outside, value, ident_of}
use Rattle.plan.specs.Lines.{sheet_line, begins, is_word}
use Rattle.plan.specs.declared.job.Job.{Job}
use Rattle.plan.specs.declared.job.Job.TheVariants.{Bfs, Wcc, Cdlp, Lcc}

-- `bfs `, four bytes with its space
abbrev pub bfs_word : List ℕ
bfs_word = bytes "bfs "

-- `cdlp `, five bytes with its space
abbrev pub cdlp_word : List ℕ
cdlp_word = bytes "cdlp "

-- `wcc`, a whole line without its LF
abbrev pub wcc_word : List ℕ
wcc_word = bytes "wcc"

-- `lcc`, a whole line without its LF
abbrev pub lcc_word : List ℕ
lcc_word = bytes "lcc"

-- a word's value, made into another
abbrev pub made : {A B : Type 0} → (A → B) → Word A → Word B
made f malformed = malformed
made f outside = outside
made f (value v) = value (f v)

-- what the bytes of a job line say
unfoldable pub job_of : List ℕ → Word Job
job_of bs =
    cond (begins bfs_word bs) (made Bfs (ident_of (drop 4 bs)))
    (cond (begins cdlp_word bs) (made Cdlp (ident_of (drop 5 bs)))
    (cond (is_word wcc_word bs) (value Wcc)
    (cond (is_word lcc_word bs) (value Lcc) malformed)))

-- the job line at a place: "Bad form is 2", "a job's number out of range 3"
abbrev pub job_line : List ℕ → ℕ → Said (Job × ℕ)
job_line s place = sheet_line job_of s place
