-- Laws of job lines, one for each answer of the code. Assumes nothing.
use Rattle.std.proofs.Common.{Result}
use Prim.Native.Nat.{ℕ, ◌+◌, ◌≤◌}
use mathlib.Core.Path.{◌≡◌, refl, sym, ap, ◌∙◌}
use mathlib.Core.Bool.{Bool, true, false, cond}
use mathlib.Core.List.{List, [], ◌∷◌, ◌++◌}
use native.Mathlib.Omega.{arith}
use lib.IntN.{ℤ}
use lib.ListN.{length, drop, length-drop}
use lib.Seq.{drop-drop, drop-append-le}
use Rattle.basis.specs.Refusal.{gives, refuses, said, bad_form, out_of_range}
use Rattle.basis.specs.declared.refusal.Refusal.{Refusal}
use Rattle.basis.specs.Scan.{mem}
use Rattle.text.specs.Word.{Word, malformed, outside, value, well_formed, within, ident_of}
use Rattle.text.specs.Bytes.{lf}
use Rattle.text.specs.Scan.{scanned, field_at}
use Rattle.text.proofs.Words.{Ends, Reads, field-reads}
use Rattle.text.proofs.Bytes.{mem-right}
use Rattle.plan.specs.Lines.{sheet_fault, begins}
use Rattle.plan.specs.Jobs.{bfs_word, cdlp_word, wcc_word, lcc_word, made, job_of, job_line}
use Rattle.plan.specs.Steps.{job_by, with_number, numbered_at}
use Rattle.plan.specs.declared.job.Job.{Job}
use Rattle.plan.specs.declared.job.Job.TheVariants.{Bfs, Wcc, Cdlp, Lcc}
use Rattle.plan.proofs.Words.{begins-split, begins-long, begins-cut, begins-word}
use Rattle.plan.proofs.Lines.{Line, line-said, word-reads, none_reads}

-- ---- the number of a job
module _ (s : List ℕ) (at from : ℕ) (bfs : Bool) where
  pub numbered-bad : (p : ℕ) (r : Refusal) → scanned malformed p ≡ field_at s from lf → r ≡ sheet_fault s at bad_form
      → refuses r ≡ numbered_at s at from bfs
  unfolding numbered_at
  numbered-bad p r u f = rw (f, ← u)

  pub numbered-outside : (p : ℕ) (r : Refusal) → scanned outside p ≡ field_at s from lf → r ≡ sheet_fault s at out_of_range
      → refuses r ≡ numbered_at s at from bfs
  unfolding numbered_at
  numbered-outside p r u f = rw (f, ← u)

  pub numbered-value : (z : ℤ) (p : ℕ) (j : Job) → scanned (value z) p ≡ field_at s from lf → j ≡ job_by bfs z
      → gives (j, p) ≡ numbered_at s at from bfs
  unfolding numbered_at
  numbered-value z p j u f = rw (f, ← u)

-- ---- a job by the four tests of the bytes at its place
abbrev job_from : Bool → Bool → Bool → Bool → List ℕ → Word Job
job_from p q r t bs =
    cond p (made Bfs (ident_of (drop 4 bs))) (cond q (made Cdlp (ident_of (drop 5 bs))) (cond r (value Wcc) (cond t (value Lcc) malformed)))

module _ (s : List ℕ) (at : ℕ) where
  job-by : (bs r : List ℕ) → Line s at bs r
      → job_from (begins bfs_word (drop at s)) (begins cdlp_word (drop at s)) (begins (wcc_word ++ (lf ∷ [])) (drop at s))
      (begins (lcc_word ++ (lf ∷ [])) (drop at s)) bs ≡ job_of bs
  unfolding job_of mem
  job-by bs r (e, k) =
      rw (
        e,
        begins-cut lf bfs_word bs r refl,
        begins-cut lf cdlp_word bs r refl,
        begins-word lf wcc_word bs r refl k,
        begins-word lf lcc_word bs r refl k,
      )

  made-well : {A B : Type 0} (f : A → B) (w : Word A) → well_formed (made f w) ≡ well_formed w
  made-well f malformed = refl
  made-well f outside = refl
  made-well f (value v) = refl

  -- a word with a number behind it
  number-reads : (bfs : Bool) (w : List ℕ) → mem lf w ≡ false → begins w (drop at s) ≡ true
      → ((bs r : List ℕ) → Line s at bs r → job_of bs ≡ made (job_by bfs) (ident_of (drop (length w) bs)))
      → Reads lf job_of s at (with_number bfs (field_at s (at + length w) lf))
  unfolding within
  number-reads bfs w m h f =
      let reads : Reads lf ident_of s (at + length w) (field_at s (at + length w) lf) = field-reads s (at + length w) lf refl refl in
      record {
        ended = λ bs r e k. ended bs r e k reads;
        unended = λ k.
            ap (made (job_by bfs))
            (reads.unended (mem-right lf w (drop (at + length w) s) (rw (← drop-drop, ← begins-split w (drop at s) h) k)));
      }
    where
      ended : (bs r : List ℕ) (e : drop at s ≡ bs ++ lf ∷ r) (k : mem lf bs ≡ false)
          → Reads lf ident_of s (at + length w) (field_at s (at + length w) lf)
          → Ends (at + length bs + 1) (job_of bs) (with_number bfs (field_at s (at + length w) lf))
      ended bs r e k reads =
          let b : begins w bs ≡ true = sym (begins-cut lf w bs r m) ∙ rw e at h in
          let l : length w ≤ length bs = begins-long w bs b in
          let d : drop (at + length w) s ≡ drop (length w) bs ++ lf ∷ r = sym (drop-drop (length w) at s) ∙ ap (drop (length w)) e
          ∙ drop-append-le (length w) bs (lf ∷ r) l in
          let n : mem lf (drop (length w) bs) ≡ false = mem-right lf w (drop (length w) bs) (rw (← begins-split w bs b) k) in
          let y : Ends (at + length w + length (drop (length w) bs) + 1) (ident_of (drop (length w) bs))
          (field_at s (at + length w) lf) = reads.ended (drop (length w) bs) r d n in
          record {
            said = ap (made (job_by bfs)) y.said ∙ sym (f bs r (e, k));
            next = λ g. omega (
              arith,
              length-drop (length w) bs,
              y.next (sym (made-well (job_by bfs) (ident_of (drop (length w) bs))) ∙ sym (ap well_formed (f bs r (e, k))) ∙ g),
            );
          }

  module _ (p : Bool) (a : p ≡ begins bfs_word (drop at s)) where
    pub job-bfs : p ≡ true → (x : Result (Job × ℕ) Refusal) → said x ≡ numbered_at s at (at + 4) true → said x ≡ job_line s at
    unfolding numbered_at mem
    job-bfs h x e =
        e ∙ line-said job_of s at _ (number-reads true bfs_word refl (sym a ∙ h) (λ bs r l. sym (job-by bs r l) ∙ rw (sym a ∙ h)))

    pub job-cdlp : p ≡ false → (q : Bool) → q ≡ begins cdlp_word (drop at s) → q ≡ true → (x : Result (Job × ℕ) Refusal)
        → said x ≡ numbered_at s at (at + 5) false → said x ≡ job_line s at
    unfolding numbered_at mem
    job-cdlp h q b g x e =
        e ∙ line-said job_of s at _ (number-reads false cdlp_word refl (sym b ∙ g)
        (λ bs r l. sym (job-by bs r l) ∙ rw (sym a ∙ h, sym b ∙ g)))

    module _ (h : p ≡ false) (q : Bool) (b : q ≡ begins cdlp_word (drop at s)) (g : q ≡ false) (t : Bool)
        (d : t ≡ begins (wcc_word ++ (lf ∷ [])) (drop at s)) where
      pub job-wcc : t ≡ true → gives (Wcc, at + 4) ≡ job_line s at
      unfolding mem
      job-wcc i =
          line-said job_of s at (scanned (value Wcc) (at + 4)) (word-reads job_of s at wcc_word Wcc (at + 4) refl (sym d ∙ i) (omega arith)
          (λ bs r l. sym (job-by bs r l) ∙ rw (sym a ∙ h, sym b ∙ g, sym d ∙ i)))

      pub job-lcc : t ≡ false → (u : Bool) → u ≡ begins (lcc_word ++ (lf ∷ [])) (drop at s) → u ≡ true → gives (Lcc, at + 4) ≡ job_line s at
      unfolding mem
      job-lcc i u k j =
          line-said job_of s at (scanned (value Lcc) (at + 4)) (word-reads job_of s at lcc_word Lcc (at + 4) refl (sym k ∙ j) (omega arith)
          (λ bs r l. sym (job-by bs r l) ∙ rw (sym a ∙ h, sym b ∙ g, sym d ∙ i, sym k ∙ j)))

      pub job-none : t ≡ false → (u : Bool) → u ≡ begins (lcc_word ++ (lf ∷ [])) (drop at s) → u ≡ false → (r : Refusal)
          → r ≡ sheet_fault s at bad_form → refuses r ≡ job_line s at
      job-none i u k j r f =
          ap refuses f
          ∙ line-said job_of s at (scanned malformed at)
          (none_reads job_of s at at (λ bs r l. sym (job-by bs r l) ∙ rw (sym a ∙ h, sym b ∙ g, sym d ∙ i, sym k ∙ j)))
