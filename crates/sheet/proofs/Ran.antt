-- Laws of what a job prints, by what its kernel left, and of the jobs one after another. Assumes nothing.
use Rattle.std.proofs.Common.{Result, Ok}
use Prim.Native.Nat.{ℕ, suc, ◌+◌, ◌-◌, ◌≤◌, ◌<◌}
use mathlib.Core.Path.{◌≡◌, refl, sym, ap, ◌∙◌}
use mathlib.Core.List.{List, [], ◌++◌}
use native.Mathlib.Omega.{arith}
use lib.IntN.{ℤ}
use Rattle.basis.specs.Refusal.{gives, refuses}
use Rattle.basis.specs.declared.refusal.Refusal.{Refusal}
use Rattle.basis.specs.Area.{between}
use Rattle.graph.specs.Sound.{Graph}
use Rattle.kernels.specs.Answer.{says}
use Rattle.bfs.specs.Call as B
use Rattle.cdlp.specs.Call as C
use Rattle.write.specs.Put.{Written, written, put_at}
use Rattle.write.proofs.Puts.{put_then, put_as, putting-more, putting-end}
use Rattle.text.proofs.Places.{Moved}
use Rattle.plan.specs.Jobs.{job_of, job_line}
use Rattle.plan.specs.declared.job.Job.{Job}
use Rattle.plan.proofs.Places.{line-moved}
use Rattle.listing.specs.Listing.{head_text, pair_lines}
use Rattle.sheet.specs.Jobs.{desk_area, desk_area_z, answer_text, bfs_text, cdlp_text, job_text, jobs_text}

-- ---- by a kernel's answer
module _ (n : ℕ) (line listing : List ℕ) (x : Result (Unit {0}) Refusal) (o : List ℕ) (at : ℕ) {o' : List ℕ} {p : ℕ} where
  pub ran-done : (u : Unit {0}) {o'' : List ℕ} {q : ℕ} → x ≡ Ok u
      → written o' p ≡ put_at o at (head_text line n) → written o'' q ≡ put_at o' p listing
      → written o'' q ≡ put_at o at (answer_text n line (says x) listing)
  ran-done u e w v =
      put_as o at (head_text line n ++ listing) (put_then o at (head_text line n) w listing v) _
      (ap (λ y. answer_text n line (says y) listing) (sym e))

-- ---- a job's text, by what its kernel left in the areas
module _ (g : Graph) (line : List ℕ) (x : Result (Unit {0}) Refusal) (o : List ℕ) (at : ℕ) {o' : List ℕ} {p : ℕ} where
  pub bfs-put : (root z : ℤ) (d : List ℤ) (q : List ℕ) → z ≡ root → B.outcome (says x) d q ≡ B.bfs_call g z desk_area_z desk_area
      → written o' p ≡ put_at o at (answer_text g.vertices line (says x) (pair_lines g.ids d))
      → written o' p ≡ put_at o at (bfs_text g root line)
  unfolding bfs_text
  bfs-put root z d q same call w =
      put_as o at _ w (bfs_text g root line)
      (ap (λ (c : B.Outcome). answer_text g.vertices line c.said (pair_lines g.ids c.depth))
      (call ∙ ap (λ (y : ℤ). B.bfs_call g y desk_area_z desk_area) same))

  pub cdlp-put : (iterations z : ℤ) (d : List ℤ) (u v t : List ℕ) → z ≡ iterations
      → C.outcome (says x) d u v t ≡ C.cdlp_call g z desk_area_z desk_area desk_area desk_area
      → written o' p ≡ put_at o at (answer_text g.vertices line (says x) (pair_lines g.ids d))
      → written o' p ≡ put_at o at (cdlp_text g iterations line)
  unfolding cdlp_text
  cdlp-put iterations z d u v t same call w =
      put_as o at _ w (cdlp_text g iterations line)
      (ap (λ (c : C.Outcome). answer_text g.vertices line c.said (pair_lines g.ids c.result))
      (call ∙ ap (λ (y : ℤ). C.cdlp_call g y desk_area_z desk_area desk_area desk_area) same))

-- ---- the jobs one after another: what is left of them, printed from here on, makes the whole
pub job_moved : (s : List ℕ) (place : ℕ) (j : Job) (end : ℕ) → gives (j, end) ≡ job_line s place → Moved s place end
job_moved s place j end u = line-moved job_of s place j end (sym u)

module _ {w : Written} (g : Graph) (s : List ℕ) (count i place : ℕ) (o : List ℕ) (at : ℕ)
    (e : put_at o at (jobs_text g s (count - i) place) ≡ w) where
  pub jobs-end : count ≤ i → written o at ≡ w
  unfolding jobs_text
  jobs-end h = let z : count - i ≡ 0 = omega arith in putting-end o at [] (rw z at e) refl

  jobs_at : i < count → put_at o at (jobs_text g s (suc (count - (i + 1))) place) ≡ w
  jobs_at h = let z : count - i ≡ suc (count - (i + 1)) = omega arith in rw z at e

  pub jobs-fault : i < count → (r : Refusal) → refuses r ≡ job_line s place → written o at ≡ w
  unfolding jobs_text
  jobs-fault h r u = putting-end o at [] (rw (jobs_text, sym u) at (jobs_at h)) refl

  pub jobs-more : i < count → (j : Job) (end : ℕ) {o' : List ℕ} {at' : ℕ} → gives (j, end) ≡ job_line s place
      → written o' at' ≡ put_at o at (job_text g (between place end s) j)
      → put_at o' at' (jobs_text g s (count - (i + 1)) end) ≡ w
  unfolding jobs_text
  jobs-more h j end u step =
      putting-more o at (job_text g (between place end s) j) (jobs_text g s (count - (i + 1)) end)
      (rw (jobs_text, sym u) at (jobs_at h)) step
