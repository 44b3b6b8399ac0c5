-- Laws of the loop over an edge file: what it keeps of its two areas. Assumes nothing.
use Rattle.std.specs.Prelude.{Option, Some, None}
use Prim.Native.Nat.{ℕ, suc, ◌+◌, ◌-◌, ◌≤◌, ◌<◌}
use mathlib.Core.Path.{◌≡◌, refl, sym, ap, subst, ◌∙◌}
use mathlib.Core.Bool.{Bool}
use mathlib.Core.List.{List, ◌∷◌}
use native.Mathlib.Omega.{arith}
use native.Mathlib.Decide.{ℕ_discrete, dec_lt}
use native.Mathlib.Nat.{add-zero}
use native.Mathlib.Numerals.{add-one}
use lib.ListN.{length, get_or, set, replicate, length-set}
use lib.Seq.{sets, get_or-set_same, get_or-set_other, set_out}
use lib.IntN.{ℤ}
use Rattle.basis.specs.declared.refusal.Refusal.{Refusal}
use Rattle.basis.specs.Refusal.{Said, gives, refuses, edge_file, mapped}
use Rattle.basis.proofs.Tests.{no-case}
use Rattle.basis.proofs.Areas.{replicate-at}
use Rattle.text.specs.Line.{edge_form}
use Rattle.text.proofs.Files.{left-start}
use Rattle.graph.specs.Arcs.{Arc, seconds, bump}
use Rattle.lists.specs.declared.Lines.{Lines}
use Rattle.lists.specs.Files.{edge_test, edges_of, numbered, all_numbered}
use Rattle.lists.specs.Steps.{lines_at, with_numbers, edge_step, numbered_step, numbered_into}
use Rattle.lists.proofs.Runs.{gave, gave-what, gave-then, some-one, no-none, left_to, left-lines, left-refused, left-more, Moved}

-- ---- an edge's step, by its vertices' numbers
numbers_more : (place : ℤ → Option ℕ) (x : Said (Option (ℤ × ℤ) × Lines (ℤ × ℤ))) (a : Arc) (d : Lines (ℤ × ℤ))
    → gave (Some a) d ≡ with_numbers place x → (e : ℤ × ℤ) × (gave (Some e) d ≡ x) × (a ≡ numbered place e)
numbers_more place (refuses r) a d h = no-case cc
numbers_more place (gives (None, c)) a d h = no-none (sym (gave-what (Some a) None d c h))
numbers_more place (gives (Some e, c)) a d h =
    let q : d ≡ c = gave-then (Some a) (Some (numbered place e)) d c h in
    (e, ap (gave (Some e)) q, some-one (gave-what (Some a) (Some (numbered place e)) d c h))

numbers-none : (place : ℤ → Option ℕ) (x : Said (Option (ℤ × ℤ) × Lines (ℤ × ℤ))) (d : Lines (ℤ × ℤ))
    → gave {B = Arc} None d ≡ with_numbers place x → gave None d ≡ x
numbers-none place (refuses r) d h = no-case cc
numbers-none place (gives (None, c)) d h = ap (gave None) (gave-then {B = Arc} None None d c h)
numbers-none place (gives (Some e, c)) d h = no-none (gave-what None (Some (numbered place e)) d c h)

numbers-refused : (place : ℤ → Option ℕ) (x : Said (Option (ℤ × ℤ) × Lines (ℤ × ℤ))) (r : Refusal)
    → refuses r ≡ with_numbers place x → refuses r ≡ x
numbers-refused place (refuses o) r h = let q : r ≡ o = cc in ap refuses q
numbers-refused place (gives (None, c)) r h = no-case cc
numbers-refused place (gives (Some e, c)) r h = no-case cc

-- ---- what the loop keeps
bump-few : (counts : List ℕ) (u k : ℕ) → ((i : ℕ) → get_or counts i 0 ≤ k) → (i : ℕ) → get_or (bump counts u) i 0 ≤ k + 1
bump-few counts u k h i =
    elim (dec_lt u (length counts)) as (λ _. get_or (bump counts u) i 0 ≤ k + 1) [
      | no d ↦ rw (set_out counts u (get_or counts u 0 + 1) (omega arith)) (let g = h i in omega arith)
      | yes l ↦
          elim (ℕ_discrete i u) as (λ _. get_or (bump counts u) i 0 ≤ k + 1) [
            | yes q ↦ rw (q, get_or-set_same counts u (get_or counts u 0 + 1) 0 l) (let g = h u in omega arith)
            | no d ↦ rw (get_or-set_other counts u i (get_or counts u 0 + 1) 0 d) (let g = h i in omega arith)
          ]
    ]

into_more : (place : ℤ → Option ℕ) (counts targets : List ℕ) (k m : ℕ) (e : ℤ × ℤ) → m ≡ k + 1 → (x : Said (List (ℤ × ℤ)))
    → mapped (numbered_into place (bump counts (numbered place e).0) (set targets k (numbered place e).1) m) x
    ≡ mapped (numbered_into place counts targets k) (mapped (λ es. e ∷ es) x)
into_more place counts targets k m e h (refuses r) = refl
into_more place counts targets k m e h (gives es) =
    let n : k + 1 + length (all_numbered place es) ≡ k + suc (length (all_numbered place es)) = omega arith in
    let a : sets (set targets k (numbered place e).1) (k + 1) (seconds (all_numbered place es))
    ≡ sets (set targets k (numbered place e).1) (suc k) (seconds (all_numbered place es)) = rw add-one in
    cc

module _ (s : List ℕ) (most : ℕ) (undirected : Bool) (place : ℤ → Option ℕ) (counts₀ targets₀ : List ℕ) where
  abbrev edges_to : Lines (ℤ × ℤ) → Said (List (ℤ × ℤ))
  edges_to c = left_to edge_form edge_file most (edge_test undirected place) s c

  abbrev gathered : Said (ℕ × List ℕ × List ℕ)
  gathered = mapped (numbered_into place counts₀ targets₀ 0) (edges_of undirected most place s)

  -- with the lines that are left, its count and its areas come out as the file says
  pub record Gathering (c : Lines (ℤ × ℤ)) (counts targets : List ℕ) : Type 0 where
    pub low : c.passed ≤ c.at.at
    pub within : c.at.at ≤ length s
    pub long_counts : length counts ≡ length counts₀
    pub long_targets : length targets ≡ length targets₀
    pub few : (i : ℕ) → get_or counts i 0 ≤ c.passed
    pub same : mapped (numbered_into place counts targets c.passed) (edges_to c) ≡ gathered

  pub gathering-start : counts₀ ≡ replicate (length counts₀) 0 → Gathering (lines_at 0 0 None) counts₀ targets₀
  gathering-start a =
      record {
        low = omega arith;
        within = omega arith;
        long_counts = refl;
        long_targets = refl;
        few = λ i. subst (λ (l : List ℕ). get_or l i 0 ≤ 0) (sym a) (let e = replicate-at {A = ℕ} 0 (length counts₀) i in omega arith);
        same = ap (mapped (numbered_into place counts₀ targets₀ 0))
            (left-start edge_form edge_file most (edge_test undirected place) s);
      }

  module _ (c : Lines (ℤ × ℤ)) (counts targets : List ℕ) (g : Gathering c counts targets) (d : Lines (ℤ × ℤ)) where
    module _ (u v : ℕ) (told : gave (Some (u, v)) d ≡ numbered_step undirected most place s c) where
      pub stepped : (e : ℤ × ℤ) × (gave (Some e) d ≡ edge_step undirected most place s c) × ((u, v) ≡ numbered place e)
      stepped = numbers_more place (edge_step undirected most place s c) (u, v) d told

      abbrev e : ℤ × ℤ
      e = stepped.0

      pub gathering-moved : Moved edge_form edge_file most (edge_test undirected place) s c stepped.0 d
      unfolding edge_step
      gathering-moved = left-more edge_form edge_file most (edge_test undirected place) s c g.low stepped.0 d stepped.1

      first-end : u ≡ (numbered place e).0
      first-end = ap (λ (x : Arc). x.0) stepped.2

      second-end : v ≡ (numbered place e).1
      second-end = ap (λ (x : Arc). x.1) stepped.2

      pub gathering-some : 1 ≤ d.passed
      gathering-some = let m = gathering-moved in omega (arith, m.counted)

      pub gathering-few : (x : ℕ) → x ≡ get_or counts u 0 → (size : ℕ) → length s < size → x + 1 < size
      gathering-few x q size h = let m = gathering-moved in omega (arith, g.few u, g.low, m.onward, m.within)

      pub gathering-less : length s - d.at.at < length s - c.at.at
      gathering-less = let m = gathering-moved in omega (arith, m.onward, m.within)

      pub gathering-more : (x : ℕ) → x ≡ get_or counts u 0 → (a : List ℕ) → a ≡ set counts u (x + 1) → (t : List ℕ)
          → t ≡ set targets (d.passed - 1) v → Gathering d a t
      gathering-more x k a o t q =
          let m = gathering-moved in
          let n : d.passed - 1 ≡ c.passed = omega (arith, m.counted) in
          let p : a ≡ bump counts u = o ∙ ap (λ (j : ℕ). set counts u (j + 1)) k in
          let p' : a ≡ bump counts (numbered place e).0 = p ∙ ap (bump counts) first-end in
          let q' : t ≡ set targets c.passed v = q ∙ rw n refl in
          let q'' : t ≡ set targets c.passed (numbered place e).1 = q' ∙ ap (set targets c.passed) second-end in
          record {
            low = omega (arith, m.counted, m.onward, g.low);
            within = m.within;
            long_counts = ap length p ∙ length-set counts u (get_or counts u 0 + 1) ∙ g.long_counts;
            long_targets = ap length q' ∙ length-set targets c.passed v ∙ g.long_targets;
            few = λ i. rw (p, m.counted) (bump-few counts u c.passed g.few i);
            same =
                rw (p', q'') (into_more place counts targets c.passed d.passed e m.counted (edges_to d)
                ∙ ap (mapped (numbered_into place counts targets c.passed)) (sym m.same) ∙ g.same);
          }

    pub gathering-refused : (o : Refusal) → refuses o ≡ numbered_step undirected most place s c → refuses o ≡ gathered
    unfolding edge_step
    gathering-refused o h =
        let e = numbers-refused place (edge_step undirected most place s c) o h in
        ap (mapped (numbered_into place counts targets c.passed))
        (sym (left-refused edge_form edge_file most (edge_test undirected place) s c o g.low e)) ∙ g.same

    pub gathering-lines : gave None d ≡ numbered_step undirected most place s c → gives (d.passed, counts, targets) ≡ gathered
    unfolding edge_step
    gathering-lines h =
        let l = left-lines edge_form edge_file most (edge_test undirected place) s c d
        (numbers-none place (edge_step undirected most place s c) d h) in
        (let a = l.0 in let b = add-zero c.passed in cc) ∙ ap (mapped (numbered_into place counts targets c.passed)) (sym l.1)
        ∙ g.same
