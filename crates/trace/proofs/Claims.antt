-- What is said of a claim fits a number, at library limits and at the desk's. Assumes nothing.
use mathlib.Core.Path.{◌≡◌, refl, sym, ap, ◌∙◌}
use mathlib.Core.Bool.{Bool, true, false, cond, false≢true}
use mathlib.Core.List.{List}
use Prim.Native.Nat.{ℕ, zero, suc, ◌+◌, ◌≤◌, ◌<◌}
use native.Mathlib.Omega.{arith}
use lib.IntN.{ℤ, pos}
use lib.ListN.{length, replicate}
use lib.Dec.{eqb, leb}
use borrow.Author.Tests.{leb-true, le-leb, eqb-true, eqb-false}
use Rattle.basis.specs.declared.refusal.Refusal.{Refusal}
use Rattle.basis.specs.Limits.{desk_vertices}
use Rattle.basis.specs.Refusal.{Said, gives, refuses, plain, no_room, claim_file}
use Rattle.basis.specs.Scan.{every, or_else}
use Rattle.basis.proofs.Tests.{and_first, and_second, and_both}
use Rattle.text.specs.Line.{Form, line_by, pair_form, edge_form, decimal_form}
use Rattle.text.specs.File.{no_test}
use Rattle.text.proofs.Breaks.{RightStop, decimal-right, pair-right, edge-right}
use Rattle.text.proofs.Files.{file-accepted, FileRefusal, file-refusal}
use Rattle.std.specs.Prelude.{Option}
use Rattle.graph.specs.Find.{place_in}
use Rattle.graph.specs.Sound.{Graph, names, sound_graph}
use Rattle.kernels.specs.Answer.{kernel_says, bfs_number, wcc_number, cdlp_number, lcc_number}
use Rattle.matching.specs.Claim.{claim_lines, number_lines, coefficient_lines, ids_of}
use Rattle.matching.specs.Cover.{failing_place, has_line, names_new, stray_line, incomplete_line, in_order, reported_line}
use Rattle.matching.specs.Verdict.{Verdict, verdict_of, judged_by}
use Rattle.matching.specs.Calls.{no_decimal}
use Rattle.matching.proofs.FirstPlaces.{failing-bound}
use Rattle.matching.proofs.Covering.{line-bound}
use Rattle.matching.proofs.Readings.{ids-length}
use Rattle.verdicts.specs.Reference.{Reference, judged_on, bfs_reference, wcc_reference, cdlp_reference, lcc_reference}
use Rattle.verdicts.specs.Call as Call
use Rattle.trace.specs.Code.{placed, host_code, wide, narrow, Small, Readable}
use Rattle.trace.specs.Verdict.{as_refusal, judge_told, judge_tells}
use Rattle.trace.specs.Host.{desk_lines, is_kernel, reference_for, judged_as}
use Rattle.trace.specs.Steps.{desk_judged}

-- ---- the lines of a claim

-- of a claim that may have so many: the line after its last has room
module _ {A : Type 0} (form : Form A) (R : RightStop form) (s : List ℕ) (room : ℕ) where
  lines-readable : (most : ℕ) → 1 + most < room → Readable room (claim_lines (line_by form) most s) (λ l. 1 + length l)
  lines-readable most h =
      record {
        values = λ l e. let f = ((file-accepted form R claim_file most no_test s l).0 e).few in omega arith;
        refusals = λ r e.
            let m : FileRefusal claim_file most (length s) r =
            rw e at (file-refusal form R claim_file most no_test (λ before v. omega arith) s) in
            (m.some, record { number = omega (arith, m.low); file = omega (arith, m.in_file); line = omega (arith, m.in_lines) });
      }

-- ---- the line of a verdict

-- the claim line of a vertex is one of the lines
reported-bound : (place : ℤ → Option ℕ) (named : List ℤ) (m : ℕ) → reported_line place named m ≤ length named
reported-bound place named zero = omega arith
reported-bound place named (suc v) = line-bound place named v

-- a line at which a claim is incomplete is one of its lines, or the next
incomplete-bound : (place : ℤ → Option ℕ) (n : ℕ) (named : List ℤ) → incomplete_line place n named ≤ length named + 1
unfolding incomplete_line stray_line
incomplete-bound place n named =
    go (failing_place (names_new place named) (length named) 0) (every n (has_line place named))
    (failing-bound (names_new place named) (length named) 0)
  where
    go : (stray : ℕ) (t : Bool) → stray ≤ 0 + length named → or_else stray (cond t 0 (length named + 1)) ≤ length named + 1
    go zero true h = omega arith
    go zero false h = omega arith
    go (suc k) t h = omega arith

-- ---- what is said of a claim
module _ (room : ℕ) (some : Call.most_lines + 1 < room) where
  verdict-small : (incomplete mismatch : ℕ) → incomplete < room → mismatch < room
      → Small room (as_refusal (gives (verdict_of incomplete mismatch)))
  verdict-small (suc k) mismatch p q = record { number = omega arith; file = omega arith; line = p }
  verdict-small zero (suc k) p q = record { number = omega arith; file = omega arith; line = q }
  verdict-small zero zero p q = record { number = omega arith; file = omega arith; line = omega arith }

  judged-small : {A : Type 0} (g : Graph) (z : A) (mismatch : List A → ℕ) (x : Said (List (ℤ × A))) → Readable room x (λ l. 1 + length l)
      → Small room (as_refusal (judged_on g z mismatch x))
  unfolding judged_by
  judged-small g z mismatch (gives l) h =
      let place = place_in (names g) in
      let n = ids-length l in
      let k = h.values l refl in
      verdict-small (incomplete_line place (length (names g)) (ids_of l))
      (reported_line place (ids_of l) (mismatch (in_order place z (length (names g)) l)))
      (omega (arith, incomplete-bound place (length (names g)) (ids_of l)))
      (omega (arith, reported-bound place (ids_of l) (mismatch (in_order place z (length (names g)) l))))
  judged-small g z mismatch (refuses r) h = (h.refusals r refl).1

  module _ (most : ℕ) (few : most ≤ Call.most_lines) (g : Graph) (s : List ℕ) (kernel : ℕ) (parameter : ℤ) where
    numbers-readable : Readable room (number_lines most s) (λ l. 1 + length l)
    numbers-readable = lines-readable edge_form edge-right s room most (omega arith)

    decimals-readable : Readable room (coefficient_lines most s) (λ l. 1 + length l)
    decimals-readable = lines-readable (pair_form decimal_form) (pair-right decimal_form decimal-right) s room most (omega arith)

    -- what is said of the claim fits, and so does a parameter's refusal
    reference-small : Small room (as_refusal (reference_for most g s kernel parameter).judged)
    unfolding reference_for
    reference-small = go (eqb kernel bfs_number) (eqb kernel wcc_number) (eqb kernel cdlp_number)
      where
        go : (a b c : Bool)
            → Small room
            (as_refusal (cond a (bfs_reference most g s parameter)
            (cond b (wcc_reference most g s) (cond c (cdlp_reference most g s parameter) (lcc_reference most g s)))).judged)
        go true b c = judged-small g (pos 0) _ (number_lines most s) numbers-readable
        go false true c = judged-small g (pos 0) _ (number_lines most s) numbers-readable
        go false false true = judged-small g (pos 0) _ (number_lines most s) numbers-readable
        go false false false = judged-small g no_decimal _ (coefficient_lines most s) decimals-readable

    reference-numbered : (reference_for most g s kernel parameter).number ≤ 21
    unfolding reference_for
    reference-numbered = go (eqb kernel bfs_number) (eqb kernel wcc_number) (eqb kernel cdlp_number)
      where
        go : (a b c : Bool) → (cond a (bfs_reference most g s parameter)
            (cond b (wcc_reference most g s) (cond c (cdlp_reference most g s parameter) (lcc_reference most g s)))).number ≤ 21
        go true b c = omega arith
        go false true c = omega arith
        go false false true = omega arith
        go false false false = omega arith

    says-small : (k : Reference) (sound room' : Bool) → Small room (as_refusal k.judged) → k.number ≤ 21
        → Small room (as_refusal (Call.verdict_says k sound room'))
    unfolding Call.verdict_says kernel_says
    says-small k true room' h p = go k.given
      where
        roomy : (t : Bool) → Small room (as_refusal (Call.then_says (cond t (gives tt) (refuses (plain no_room))) k.judged))
        roomy true = h
        roomy false = record { number = omega arith; file = omega arith; line = omega arith }

        go : (t : Bool)
            → Small room
            (as_refusal (Call.then_says (cond t (cond room' (gives tt) (refuses (plain no_room))) (refuses (plain k.number))) k.judged))
        go true = roomy room'
        go false = record { number = p; file = omega arith; line = omega arith }
    says-small k false room' h p = record { number = omega arith; file = omega arith; line = omega arith }

-- ---- the verdict on a lent graph
module _ (most : ℕ) (g : Graph) (kernel : ℕ) (parameter : ℤ) (s : List ℕ) (R C : List ℤ) (F S T L : List ℕ) where
  by_number : (k : Bool) → is_kernel kernel ≡ k
      → Call.verdict_call most g kernel parameter s R C F S T L
      ≡ cond k (Call.call_on (reference_for most g s kernel parameter) g R C F S T L) (Call.unknown_call R C F S T L)
  unfolding Call.verdict_call reference_for
  by_number k h = go (eqb kernel bfs_number) (eqb kernel wcc_number) (eqb kernel cdlp_number) (eqb kernel lcc_number) k refl refl refl refl
      h
    where
      none_left : eqb kernel 1 ≡ false → eqb kernel 2 ≡ false → eqb kernel 3 ≡ false → eqb kernel 4 ≡ false → is_kernel kernel ≡ true → ⊥
      none_left p q r t h =
          let l = leb-true 1 kernel (and_first _ _ h) in
          let m = leb-true kernel 4 (and_second (leb 1 kernel) _ h) in
          let two : 2 ≤ kernel = omega (arith, eqb-false kernel 1 p) in
          let three : 3 ≤ kernel = omega (arith, eqb-false kernel 2 q) in
          let four : 4 ≤ kernel = omega (arith, eqb-false kernel 3 r) in
          omega (arith, eqb-false kernel 4 t)

      a-kernel : (n : ℕ) → eqb kernel n ≡ true → 1 ≤ n → n ≤ 4 → is_kernel kernel ≡ false → ⊥
      a-kernel n e l m h =
          let q = eqb-true kernel n e in false≢true (sym h ∙ and_both (le-leb 1 kernel (omega arith)) (le-leb kernel 4 (omega arith)))

      go : (a b c d k : Bool) → eqb kernel 1 ≡ a → eqb kernel 2 ≡ b → eqb kernel 3 ≡ c → eqb kernel 4 ≡ d → is_kernel kernel ≡ k
          → cond a (Call.call_on (bfs_reference most g s parameter) g R C F S T L)
          (cond b (Call.call_on (wcc_reference most g s) g R C F S T L)
          (cond c (Call.call_on (cdlp_reference most g s parameter) g R C F S T L)
          (cond d (Call.call_on (lcc_reference most g s) g R C F S T L) (Call.unknown_call R C F S T L))))
          ≡ cond k (Call.call_on (cond a (bfs_reference most g s parameter)
          (cond b (wcc_reference most g s) (cond c (cdlp_reference most g s parameter) (lcc_reference most g s)))) g R C F S T L)
          (Call.unknown_call R C F S T L)
      go true b c d true p q r t h = refl
      go true b c d false p q r t h = absurd (a-kernel 1 p (omega arith) (omega arith) h)
      go false true c d true p q r t h = refl
      go false true c d false p q r t h = absurd (a-kernel 2 q (omega arith) (omega arith) h)
      go false false true d true p q r t h = refl
      go false false true d false p q r t h = absurd (a-kernel 3 r (omega arith) (omega arith) h)
      go false false false true true p q r t h = refl
      go false false false true false p q r t h = absurd (a-kernel 4 t (omega arith) (omega arith) h)
      go false false false false true p q r t h = absurd (none_left p q r t h)
      go false false false false false p q r t h = refl

  pub call-small : (room : ℕ) → Call.most_lines + 1 < room → most ≤ Call.most_lines
      → Small room (as_refusal (Call.verdict_call most g kernel parameter s R C F S T L).said)
  unfolding Call.call_on Call.left_by Call.unknown_call
  call-small room some few = rw (by_number (is_kernel kernel) refl) (go (is_kernel kernel))
    where
      go : (k : Bool)
          → Small room
          (as_refusal (cond k (Call.call_on (reference_for most g s kernel parameter) g R C F S T L) (Call.unknown_call R C F S T L)).said)
      go true =
          says-small room some most few g s kernel parameter (reference_for most g s kernel parameter) (sound_graph g)
          (Call.room_for g.vertices R C F S T L)
          (reference-small room some most few g s kernel parameter) (reference-numbered room some most few g s kernel parameter)
      go false = record { number = omega arith; file = omega arith; line = omega arith }

  -- on a sound graph and with room, a known kernel's own refusal or what is said of the claim
  pub call-judged : is_kernel kernel ≡ true → sound_graph g ≡ true → Call.room_for g.vertices R C F S T L ≡ true
      → (Call.verdict_call most g kernel parameter s R C F S T L).said ≡ judged_as (reference_for most g s kernel parameter)
  unfolding Call.call_on Call.left_by Call.verdict_says kernel_says
  call-judged h a b = rw (by_number true h, a, b) (go (reference_for most g s kernel parameter).given)
    where
      go : (t : Bool) → Call.then_says (cond t (gives tt) (refuses (plain (reference_for most g s kernel parameter).number)))
          (reference_for most g s kernel parameter).judged
          ≡ cond t (reference_for most g s kernel parameter).judged (refuses (plain (reference_for most g s kernel parameter).number))
      go true = refl
      go false = refl

-- ---- the call at library limits
module _ (g : Graph) (kernel : ℕ) (parameter : ℤ) (s : List ℕ) (R₀ C₀ : List ℤ) (F₀ S₀ T₀ L₀ : List ℕ) (x : Said Verdict) (R C : List ℤ)
    (F S T L : List ℕ)
    (e : Call.outcome x R C F S T L ≡ Call.verdict_call Call.most_lines g kernel parameter s R₀ C₀ F₀ S₀ T₀ L₀) (r : Refusal)
    (f : r ≡ as_refusal x) where
  pub judge-small : Small wide r
  judge-small =
      rw (f, ap (λ o. o.said) e) (call-small Call.most_lines g kernel parameter s R₀ C₀ F₀ S₀ T₀ L₀ wide (omega arith) (omega arith))

  pub judge-told : (k : ℕ) → k ≡ placed r → (z : ℤ) → parameter ≡ z
      → judge_told k R C F S T L ≡ judge_tells (Call.verdict_call Call.most_lines g kernel z s R₀ C₀ F₀ S₀ T₀ L₀)
  unfolding judge_tells
  judge-told k h z q = rw (h, f, sym q, sym e)

-- ---- the call in areas of desk size
module _ (g : Graph) (kernel : ℕ) (parameter : ℤ) (s : List ℕ) (x : Said Verdict) (R C : List ℤ) (F S T L : List ℕ)
    (e : Call.outcome x R C F S T L
    ≡ Call.verdict_call desk_lines g kernel parameter s (replicate desk_vertices (pos 0)) (replicate desk_vertices (pos 0))
    (replicate desk_vertices 0) (replicate desk_vertices 0) (replicate desk_vertices 0) (replicate desk_vertices 0))
    (r : Refusal) (f : r ≡ as_refusal x) where
  pub desk-small : Small narrow r
  desk-small = rw (f, ap (λ o. o.said) e) (call-small desk_lines g kernel parameter s _ _ _ _ _ _ narrow (omega arith) (omega arith))

  pub desk-told : (k : ℕ) → k ≡ host_code r → (z : ℤ) → parameter ≡ z → k ≡ host_code (as_refusal (desk_judged g kernel z s))
  unfolding desk_judged
  desk-told k h z q = h ∙ ap host_code (f ∙ ap as_refusal (ap (λ o. o.said) e ∙ ap (λ y. desk_judged g kernel y s) q))
