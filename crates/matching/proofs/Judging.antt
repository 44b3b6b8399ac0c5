-- Laws of the verdict on a claim that was read: one for each way out of the code. Assumes nothing.
use Rattle.std.specs.Prelude.{Option, Some, None, Result, Ok, Err}
use mathlib.Core.Path.{◌≡◌, refl, sym, ap, ◌∙◌}
use mathlib.Core.Bool.{Bool, true, false, cond}
use mathlib.Core.List.{List}
use Prim.Native.Nat.{ℕ, zero, suc, ◌-◌, ◌^◌, ◌≤◌, ◌<◌}
use native.Mathlib.Omega.{arith}
use lib.Dec.{eqb}
use lib.IntN.{ℤ, pos}
use lib.ListN.{length, take, replicate, length-replicate}
use lib.Seq.{length-take-le}
use Rattle.basis.specs.Refusal.{Said, gives, refuses, plain, no_room}
use Rattle.basis.specs.declared.refusal.Refusal.{Refusal}
use Rattle.basis.specs.Area.{cleared, cleared_z}
use Rattle.basis.specs.Order.{same_z}
use Rattle.basis.proofs.Tests.{failed, held}
use Rattle.graph.specs.Find.{bisected}
use Rattle.matching.specs.declared.judged.Verdict as judged
use Rattle.matching.specs.declared.judged.Verdict.TheVariants as V
use Rattle.matching.specs.declared.numbers.Rule.{Rule}
use Rattle.matching.specs.declared.numbers.Rule.TheVariants.{Exact, Equivalence}
use Rattle.matching.specs.Claim.{number_lines, ids_of}
use Rattle.matching.specs.Cover.{incomplete_line, in_order, reported_line}
use Rattle.matching.specs.Verdict.{Verdict, says, unequal_vertex}
use Rattle.matching.specs.Verdict.{agrees, unlike_vertex, mismatch_vertex, verdict_of, judged_by}
use Rattle.matching.specs.Calls.{outcome, room_in_three, numbers_call}
use Rattle.matching.specs.Steps.{counted, NoneMissing, Reportable, ReadWell, reported_in, ReadOf, read_judged}
use Rattle.matching.proofs.Covering.{maps-reported}
use Rattle.matching.proofs.FirstPlaces.{failing-bound, first-bound, room-first, room-second, room-third}

-- ---- what is said tells the answers apart
heard : Said Verdict → Result judged.Verdict Refusal
heard (gives v) = Ok (cond (eqb v.number 0) V.Match (cond (eqb v.number 20) (V.Incomplete v.line) (V.Mismatch v.line)))
heard (refuses r) = Err r

heard-back : (j : Result judged.Verdict Refusal) → heard (says j) ≡ j
unfolding heard
heard-back (Ok V.Match) = refl
heard-back (Ok (V.Incomplete l)) = refl
heard-back (Ok (V.Mismatch l)) = refl
heard-back (Err r) = refl

pub says-apart : (i j : Result judged.Verdict Refusal) → says i ≡ says j → i ≡ j
says-apart i j e = sym (heard-back i) ∙ ap heard e ∙ heard-back j

-- ---- by the rule
module _ (rule : Rule) (a b : List ℤ) (r : ℕ) where
  pub by-exact : rule ≡ Exact → r ≡ unequal_vertex a b → r ≡ mismatch_vertex rule a b
  by-exact e h = h ∙ ap (λ (x : Rule). mismatch_vertex x a b) (sym e)

  pub by-equivalence : rule ≡ Equivalence → r ≡ unlike_vertex a b → r ≡ mismatch_vertex rule a b
  by-equivalence e h = h ∙ ap (λ (x : Rule). mismatch_vertex x a b) (sym e)

outcomes : {x y : Said Verdict} {a b : List ℤ} {c d : List ℕ} → x ≡ y → a ≡ b → c ≡ d → outcome x a c ≡ outcome y b d
outcomes p q r = cc

-- the smallest vertex at fault is one of the vertices
mismatch-bound : (rule : Rule) (a b : List ℤ) → length a ≡ length b → mismatch_vertex rule a b ≤ length b
unfolding unlike_vertex
mismatch-bound Exact a b e = let h = first-bound same_z 0 a b e in omega arith
mismatch-bound Equivalence a b e = let h = failing-bound (agrees a b) (length a) 0 in omega arith

-- it has its line in the record, where no vertex is missing there
pub fault-reportable : (rule : Rule) (a b : List ℤ) (lines : List ℕ) → (length a ≡ length b) × (length b ≤ length lines)
    → NoneMissing (length b) lines → (fault : Option ℕ) → counted fault ≡ mismatch_vertex rule a b → Reportable None fault lines
fault-reportable rule a b lines h w None e = tt
fault-reportable rule a b lines h w (Some v) e =
    let l = mismatch-bound rule a b h.0 in (omega (arith, h.1), w v (omega arith))

-- what is found of a claim that was read has its line, by whether a line is incomplete
module _ {read : Result (Option ℕ) Refusal} (n : ℕ) (lines : List ℕ) (w : ReadWell read n lines) {i : Option ℕ} (e : read ≡ Ok i) where
  pub well-some : {k : ℕ} → i ≡ Some k → (fault : Option ℕ) → Reportable i fault lines
  well-some f fault = let g = e ∙ ap (λ (x : Option ℕ). Ok x) f in rw f (rw g at w)

  pub well-none : (rule : Rule) (a b : List ℤ) → (length a ≡ length b) × (length b ≤ length lines) → length b ≡ n → i ≡ None
      → {fault found : Option ℕ} → fault ≡ found → counted found ≡ mismatch_vertex rule a b → Reportable i fault lines
  well-none rule a b h m f {fault} {found} t q =
      let g = e ∙ ap (λ (x : Option ℕ). Ok x) f in
      rw (f, t) (fault-reportable rule a b lines h (rw (g, ← m) at w) found q)

-- ---- what was read, where there was room in areas of these sizes
module _ (most : ℕ) (ids reference : List ℤ) (s : List ℕ) (size width : ℕ) {t : Bool}
    (e : t ≡ room_in_three (length ids) (length reference) size width) (f : t ≡ true) (mid : List ℤ) (record' : List ℕ)
    (read : Result (Option ℕ) Refusal)
    (h : ReadOf most ids s size width mid record' read) where
  pub judge-kept : length ids ≤ length mid
  judge-kept = omega (arith, room-second (length ids) (length reference) size width e f, h.kept)

  pub judge-lengths : length (take (length ids) reference) ≡ length (take (length ids) mid)
  judge-lengths =
      length-take-le _ _ (room-first (length ids) (length reference) size width e f) ∙ sym (length-take-le _ _ judge-kept)

  pub judge-wide : length (take (length ids) mid) ≤ length record'
  judge-wide =
      omega (arith, length-take-le (length ids) mid judge-kept, h.wide, room-third (length ids) (length reference) size width e f)

  pub judge-well : length s < 2 ^ 64 - 1 → ReadWell read (length (take (length ids) mid)) record'
  judge-well l = by read h
    where
      by : (read : Result (Option ℕ) Refusal) → ReadOf most ids s size width mid record' read
          → ReadWell read (length (take (length ids) mid)) record'
      by (Err r) h = tt
      by (Ok None) h = λ v k. h.tells.recorded refl v (omega (arith, length-take-le (length ids) mid judge-kept))
      by (Ok (Some k)) h = omega (arith, h.tells.short)

-- ---- the whole call, by the test of room t, with the record cleared first
module _ (rule : Rule) (most : ℕ) (ids reference : List ℤ) (s : List ℕ) (claimed : List ℤ) (lines : List ℕ)
    {before : List ℕ} (c : before ≡ cleared lines)
    {t : Bool} (e : t ≡ room_in_three (length ids) (length reference) (length claimed) (length before)) where
  wide : length before ≡ length lines
  wide = ap length c ∙ length-replicate (length lines) 0

  rooms : room_in_three (length ids) (length reference) (length claimed) (length lines)
      ≡ room_in_three (length ids) (length reference) (length claimed) (length before)
  rooms = ap (room_in_three (length ids) (length reference) (length claimed)) (sym wide)

  pub judge-short : t ≡ false → (r : Refusal) → r ≡ plain no_room → (left : List ℤ) → left ≡ cleared_z claimed
      → outcome (refuses r) left before ≡ numbers_call rule most ids reference s claimed lines
  unfolding numbers_call
  judge-short f r q left g = rw (rooms ∙ failed t _ e f, q, g, c)

  read_as : t ≡ true → (mid : List ℤ) (record' : List ℕ) (read : Result (Option ℕ) Refusal)
      → ReadOf most ids s (length claimed) (length before) mid record' read
      → read_judged rule (take (length ids) reference) (take (length ids) mid) record' read
      ≡ judged_by (bisected ids) (length ids) (pos 0) (mismatch_vertex rule (take (length ids) reference)) (number_lines most s)
  unfolding judged_by
  read_as f mid record' (Err r) h = rw h.tells
  read_as f mid record' (Ok i) h = let w = h.tells in rw w.are (ap gives (by (counted i) w.first w.values))
    where
      by : (i : ℕ) → i ≡ incomplete_line (bisected ids) (length ids) (ids_of h.tells.lines)
          → (i ≡ 0 → take (length ids) mid ≡ in_order (bisected ids) (pos 0) (length ids) h.tells.lines)
          → verdict_of i (reported_in record' (mismatch_vertex rule (take (length ids) reference) (take (length ids) mid)))
          ≡ verdict_of (incomplete_line (bisected ids) (length ids) (ids_of h.tells.lines))
          (reported_line (bisected ids) (ids_of h.tells.lines)
          (mismatch_vertex rule (take (length ids) reference) (in_order (bisected ids) (pos 0) (length ids) h.tells.lines)))
      by zero p v =
          let long = judge-lengths most ids reference s (length claimed) (length before) e f mid record' (Ok i) h in
          let short = length-take-le (length ids) mid
          (judge-kept most ids reference s (length claimed) (length before) e f mid record' (Ok i) h) in
          rw (← p, ← v refl)
          (ap (verdict_of 0) (maps-reported (bisected ids) (length ids) (ids_of h.tells.lines) record' h.tells.maps
          (mismatch_vertex rule (take (length ids) reference) (take (length ids) mid))
          (omega (arith, mismatch-bound rule (take (length ids) reference) (take (length ids) mid) long))))
      by (suc i) p v = rw (← p)

  pub judge-done : t ≡ true → (mid : List ℤ) (record' : List ℕ) (read : Result (Option ℕ) Refusal)
      → ReadOf most ids s (length claimed) (length before) mid record' read
      → (j : Result judged.Verdict Refusal) → says j ≡ read_judged rule (take (length ids) reference) (take (length ids) mid) record' read
      → (left : List ℤ) → left ≡ cleared_z mid → (end : List ℕ) → end ≡ cleared record'
      → outcome (says j) left end ≡ numbers_call rule most ids reference s claimed lines
  unfolding numbers_call
  judge-done f mid record' read h j q left g end k =
      rw (rooms ∙ held t _ e f)
      (outcomes (q ∙ read_as f mid record' read h) (g ∙ ap (λ (k : ℕ). replicate k (pos 0)) h.kept)
      (k ∙ ap (λ (k : ℕ). replicate k 0) (h.wide ∙ wide)))
