-- What callers stand on: the sections of a plan lie in the sheet, one after another, and so does each job line. Assumes nothing.
use Prim.Native.Nat.{ℕ, zero, suc, ◌≤◌}
use mathlib.Core.Path.{◌≡◌, refl}
use mathlib.Core.Bool.{Bool, true, false}
use mathlib.Core.List.{List}
use native.Mathlib.Omega.{arith}
use borrow.Author.Tests.{leb-true, ltb-false}
use lib.Dec.{leb, ltb}
use lib.ListN.{length}
use Rattle.basis.specs.Refusal.{Said, gives, refuses}
use Rattle.basis.proofs.Saids.{Either, either-cond, either-onward, Any}
use Rattle.basis.specs.Limits.{desk_vertices, desk_edges}
use Rattle.text.specs.Word.{Word, count_of}
use Rattle.text.specs.Line.{LineSaid, line, none, fault, line_by}
use Rattle.text.proofs.Places.{Moved, Placed, places}
use Rattle.plan.specs.Lines.{in_sheet, word_alone, sheet_line}
use Rattle.plan.specs.Jobs.{job_of}
use Rattle.plan.specs.Sheet.{most_jobs, most_bytes, mode_of, limited, count_line, any_of, next_of}
use Rattle.plan.specs.Sheet.{line_past, lines_past, block, block_of, section, sections, ended, sheet_check}
use Rattle.plan.specs.declared.sections.Block.{Block}
use Rattle.plan.specs.declared.sections.Plan.{Plan}

-- what is given has P
abbrev pub Gives : {A : Type 0} → (A → Type 0) → Said A → Type 0
Gives P x = Either P Any x

-- ---- a line
abbrev Past : {A : Type 0} → List ℕ → ℕ → A × ℕ → Type 0
Past s place x = Moved s place x.1

line-past : {A : Type 0} (s : List ℕ) (place : ℕ) (x : LineSaid A) → Placed s place x → Gives (Past s place) (in_sheet s x)
line-past s place (line v next) h = h
line-past s place (none p) h = tt
line-past s place (fault n c p) h = tt

pub sheet-line : {A : Type 0} (word : List ℕ → Word A) (s : List ℕ) (place : ℕ) → Gives (Past s place) (sheet_line word s place)
unfolding sheet_line
sheet-line word s place = line-past s place (line_by (word_alone word) s place) (places (word_alone word) s place)

pub line-moved : {A : Type 0} (word : List ℕ → Word A) (s : List ℕ) (place : ℕ) (v : A) (next : ℕ)
    → sheet_line word s place ≡ gives (v, next) → Moved s place next
line-moved word s place v next e = rw e at (sheet-line word s place)

-- ---- lines: forward, or not at all, and within the sheet
pub record Within (s : List ℕ) (from to : ℕ) : Type 0 where
  pub rise : from ≤ to
  pub inside : to ≤ length s

next-moved : {A : Type 0} (s : List ℕ) (place : ℕ) (x : Said (A × ℕ)) → Gives (Past s place) x → Gives (Moved s place) (next_of x)
next-moved s place (gives x) h = h
next-moved s place (refuses r) h = tt

line-next : (jobs : Bool) (s : List ℕ) (place : ℕ) → Gives (Moved s place) (line_past jobs s place)
line-next true s place = next-moved s place (sheet_line job_of s place) (sheet-line job_of s place)
line-next false s place = next-moved s place (sheet_line any_of s place) (sheet-line any_of s place)

lines-in : (jobs : Bool) (k : ℕ) (s : List ℕ) (place : ℕ) → place ≤ length s → Gives (Within s place) (lines_past jobs k s place)
unfolding lines_past
lines-in jobs zero s place h = record { rise = omega arith; inside = h }
lines-in jobs (suc k) s place h = by (λ next g. lines-in jobs k s next g) (line_past jobs s place) refl (line-next jobs s place)
  where
    after : (next : ℕ) → Moved s place next → (x : Said ℕ) → Gives (Within s next) x → Gives (Within s place) x
    after next m (gives to) w = record { rise = omega (arith, m.forward, w.rise); inside = w.inside }
    after next m (refuses r) w = tt

    by : ((next : ℕ) → next ≤ length s → Gives (Within s next) (lines_past jobs k s next)) → (x : Said ℕ) → line_past jobs s place ≡ x
        → Gives (Moved s place) x → Gives (Within s place) (lines_past jobs (suc k) s place)
    by ih (gives next) e m = rw (lines_past, e) (after next m (lines_past jobs k s next) (ih next m.inside))
    by ih (refuses r) e m = rw (lines_past, e) tt

-- ---- a section
pub record Placed-block (s : List ℕ) (limit : ℕ) (b : Block) : Type 0 where
  pub lines : Within s b.from b.to
  pub few : b.count ≤ limit

pub section-in : (jobs : Bool) (limit : ℕ) (s : List ℕ) (place : ℕ) → Gives (Placed-block s limit) (section jobs limit s place)
unfolding section count_line
section-in jobs limit s place =
    either-onward (λ c. Moved s place c.1 × c.0 ≤ limit) (Placed-block s limit) Any (count_line limit s place) (block_of jobs s)
    (either-onward (Past s place) (λ c. Moved s place c.1 × c.0 ≤ limit) Any (sheet_line count_of s place) (limited limit s place)
    (sheet-line count_of s place)
    (λ c m. either-cond _ Any (leb c.0 limit) (gives c) _ (λ e. (m, leb-true c.0 limit e)) (λ e. tt)))
    (λ c h. either-onward (Within s c.1) (Placed-block s limit) Any (lines_past jobs c.0 s c.1)
    (λ to. gives (block c.0 c.1 to))
    (lines-in jobs c.0 s c.1 h.0.inside)
    (λ to w. record { lines = w; few = h.1 }))

-- ---- a plan
pub record Placed-plan (s : List ℕ) (p : Plan) : Type 0 where
  pub vertices : Within s p.vertices.from p.vertices.to
  pub edges : Within s p.edges.from p.edges.to
  pub jobs : Within s p.jobs.from p.jobs.to
  pub few : p.jobs.count ≤ most_jobs

sections-in : (s : List ℕ) → Gives (Placed-plan s) (sections s)
unfolding sections
sections-in s =
    either-onward (Past s 0) (Placed-plan s) Any (sheet_line mode_of s 0) _ (sheet-line mode_of s 0)
    (λ mode m. either-onward (Placed-block s desk_vertices) (Placed-plan s) Any (section false desk_vertices s mode.1) _
    (section-in false desk_vertices s mode.1)
    (λ vertices v. either-onward (Placed-block s desk_edges) (Placed-plan s) Any (section false desk_edges s vertices.to) _
    (section-in false desk_edges s vertices.to)
    (λ edges e. either-onward (Placed-block s most_jobs) (Placed-plan s) Any (section true most_jobs s edges.to) _
    (section-in true most_jobs s edges.to)
    (λ jobs j. record { vertices = v.lines; edges = e.lines; jobs = j.lines; few = j.few }))))

-- a sheet that is accepted
pub record Accepted (s : List ℕ) (p : Plan) : Type 0 where
  pub places : Placed-plan s p
  pub short : length s ≤ most_bytes
  pub ends : length s ≤ p.jobs.to

pub check-in : (s : List ℕ) → Gives (Accepted s) (sheet_check s)
unfolding sheet_check
check-in s =
    either-cond (Accepted s) Any (ltb most_bytes (length s)) _ _ (λ _. tt)
    (λ h. either-onward (Placed-plan s) (Accepted s) Any (sections s) (ended s) (sections-in s)
    (λ p w. either-cond (Accepted s) Any (ltb p.jobs.to (length s)) _ (gives p) (λ _. tt)
    (λ k. record { places = w; short = ltb-false most_bytes (length s) h; ends = ltb-false p.jobs.to (length s) k })))

pub accepted : (s : List ℕ) (p : Plan) → sheet_check s ≡ gives p → Accepted s p
accepted s p e = rw e at (check-in s)
