-- How long the texts are. Assumes nothing.
use Prim.Native.Nat.{ℕ, zero, suc, ◌+◌, ◌-◌, ◌*◌, ◌^◌, ◌≤◌, ◌<◌}
use mathlib.Core.Path.{◌≡◌, refl}
use mathlib.Core.Bool.{Bool, true, false, cond}
use mathlib.Core.List.{List, [], ◌∷◌, ◌++◌}
use native.Mathlib.Omega.{arith}
use native.Mathlib.Nat.{div-le_self, mul-le-mul}
use lib.Dec.{eqb, ltb}
use lib.IntN.{ℤ, pos, nat_abs}
use lib.Signed.{lt_z}
use lib.ListN.{length, drop, length-append, length-drop}
use lib.Seq.{length-take-le}
use Rattle.basis.specs.Limits.{desk_vertices}
use Rattle.basis.specs.Refusal.{Said, gives, refuses, plain}
use Rattle.basis.specs.declared.refusal.Refusal.{Refusal}
use Rattle.basis.specs.Order.{same_z}
use Rattle.basis.specs.Area.{between}
use Rattle.basis.proofs.Alls.{All, all_take, all-at, all-column, all_left}
use Rattle.graph.specs.Sound.{Graph, outward, inward, names, sound_graph}
use Rattle.graph.specs.Find.{place_in, is_there}
use Rattle.std.proofs.Common.{Option, Some, None}
use Rattle.kernels.specs.Answer.{kernel_says}
use Rattle.bfs.specs.Depth.{ring_depth, depth_of}
use Rattle.bfs.specs.Call as B
use Rattle.bfs.proofs.Rings.{depth-cases}
use Rattle.wcc.specs.Component.{label_of, wcc_of}
use Rattle.wcc.specs.Call as W
use Rattle.cdlp.specs.Label.{times, standing, most_common, smallest, smallest_or, next_label}
use Rattle.cdlp.specs.Rounds.{labels_at, next_at, one_round, rounds, cdlp_of}
use Rattle.cdlp.specs.Call as C
use Rattle.lcc.specs.Lcc.{either, neighbours, arcs_from, coefficient_among, numerator, denominator, numerators, denominators}
use Rattle.lcc.specs.Ratio.{gcd_of, lowest}
use Rattle.lcc.specs.Call as L
use Rattle.lcc.proofs.Commons.{count-le}
use Rattle.lcc.proofs.Fractions.{those-short}
use Rattle.text.specs.Bytes.{lf, space}
use Rattle.write.specs.Number.{count_text, signed_text}
use Rattle.write.proofs.Texts.{count_long, signed-long}
use Rattle.plan.specs.Jobs.{job_of, job_line}
use Rattle.plan.specs.declared.job.Job.{Job}
use Rattle.plan.specs.declared.job.Job.TheVariants as J
use Rattle.plan.proofs.Places.{line-moved}
use Rattle.text.proofs.Places.{Moved, Small}
use Rattle.listing.specs.Listing.{slash, refused_word, spaced_text, numbers_text, refused_text, head_text}
use Rattle.listing.specs.Listing.{named_text, pair_text, fraction_text, ratio_text, pair_lines, ratio_lines}
use Rattle.sheet.specs.Desk.{most_behind}
use Rattle.sheet.specs.Jobs.{desk_area, desk_area_z, answer_text, bfs_text, wcc_text, cdlp_text, lcc_text, job_text, jobs_text}

-- ---- an identifier has at most 20 bytes, a number of at most 7 digits 7
abbrev Short : ℕ → Type 0
Short n = n < 10 ^ 7

-- a refusal of few digits
pub record Brief (r : Refusal) : Type 0 where
  pub number : r.number < 10 ^ 2
  pub file : r.file < 10 ^ 1
  pub line : r.line < 10 ^ 5
  pub column : r.column < 10 ^ 5

signed-most : (z : ℤ) → Small z → length (signed_text z) ≤ 20
signed-most z h = signed-long z (record { sfits = h })

named-most : (id : ℤ) → Small id → length (named_text id) ≤ 21
unfolding named_text
named-most id h = omega (arith, length-append (signed_text id) (space ∷ []), signed-most id h)

pair-most : (id v : ℤ) → Small id → Small v → length (pair_text id v) ≤ 42
unfolding pair_text
pair-most id v h g =
    omega (
      arith,
      length-append (named_text id) (signed_text v ++ (lf ∷ [])),
      length-append (signed_text v) (lf ∷ []),
      named-most id h,
      signed-most v g,
    )

fraction-most : (n d : ℕ) → Short n → Short d → length (fraction_text n d) ≤ 15
unfolding fraction_text
fraction-most n d h g =
    omega (arith, length-append (count_text n) (slash ∷ count_text d), count_long 7 n (omega arith) h, count_long 7 d (omega arith) g)

ratio-most : (id : ℤ) (n d : ℕ) → Small id → Short n → Short d → length (ratio_text id n d) ≤ 42
unfolding ratio_text
ratio-most id n d h g k =
    omega (
      arith,
      length-append (named_text id) (fraction_text n d ++ (lf ∷ [])),
      length-append (fraction_text n d) (lf ∷ []),
      named-most id h,
      fraction-most n d g k,
    )

pairs-most : (ids vs : List ℤ) → All Small ids → All Small vs → length (pair_lines ids vs) ≤ 42 * length ids
unfolding pair_lines
pairs-most [] vs h g = omega arith
pairs-most (id ∷ ids) [] h g = omega arith
pairs-most (id ∷ ids) (v ∷ vs) h g =
    omega (arith, length-append (pair_text id v) (pair_lines ids vs), pair-most id v h.0 g.0, pairs-most ids vs h.1 g.1)

ratios-most : (ids : List ℤ) (ns ds : List ℕ) → All Small ids → All Short ns → All Short ds
    → length (ratio_lines ids ns ds) ≤ 42 * length ids
unfolding ratio_lines
ratios-most [] ns ds h g k = omega arith
ratios-most (id ∷ ids) [] ds h g k = omega arith
ratios-most (id ∷ ids) (n ∷ ns) [] h g k = omega arith
ratios-most (id ∷ ids) (n ∷ ns) (d ∷ ds) h g k =
    omega (
      arith,
      length-append (ratio_text id n d) (ratio_lines ids ns ds),
      ratio-most id n d h.0 g.0 k.0,
      ratios-most ids ns ds h.1 g.1 k.1,
    )

spaced-most : (k n : ℕ) → 1 ≤ k → n < 10 ^ k → length (spaced_text n) ≤ suc k
unfolding spaced_text
spaced-most k n h g = omega (arith, count_long k n h g)

pub refused-most : (r : Refusal) → Brief r → length (refused_text r) ≤ 25
unfolding refused_text numbers_text
refused-most r b =
    omega (
      arith,
      length-append refused_word (numbers_text r ++ (lf ∷ [])),
      length-append (numbers_text r) (lf ∷ []),
      length-append (spaced_text r.number) (spaced_text r.file ++ (spaced_text r.line ++ spaced_text r.column)),
      length-append (spaced_text r.file) (spaced_text r.line ++ spaced_text r.column),
      length-append (spaced_text r.line) (spaced_text r.column),
      spaced-most 2 r.number (omega arith) b.number,
      spaced-most 1 r.file (omega arith) b.file,
      spaced-most 5 r.line (omega arith) b.line,
      spaced-most 5 r.column (omega arith) b.column,
    )

plain-brief : (n : ℕ) → n < 10 ^ 2 → Brief (plain n)
plain-brief n h = record { number = h; file = omega arith; line = omega arith; column = omega arith }

-- ---- what a job prints behind its line: a count line of 5 bytes, and a line of 42 for each vertex
module _ (n : ℕ) (line listing : List ℕ) (few : n ≤ desk_vertices) (long : length listing ≤ desk_vertices * 42) where
  answer-most : (a b c : Bool) (number : ℕ) → number < 10 ^ 2
      → length (answer_text n line (kernel_says a b number c) listing) ≤ length line + most_behind
  unfolding kernel_says head_text
  answer-most false b c number h = omega (arith, refused-most _ (plain-brief 9 (omega arith)))
  answer-most true false c number h = omega (arith, refused-most _ (plain-brief number h))
  answer-most true true false number h = omega (arith, refused-most _ (plain-brief 8 (omega arith)))
  answer-most true true true number h =
      omega (
        arith,
        length-append (head_text line n) listing,
        length-append line (count_text n ++ (lf ∷ [])),
        length-append (count_text n) (lf ∷ []),
        count_long 4 n (omega arith) (omega arith),
      )

-- ---- the kernels' values
depth_small : (n k : ℕ) → n ≤ desk_vertices → Small (ring_depth n k)
depth_small n k h = depth-cases Small n k (λ l. omega arith) (omega arith)

depths-small : (g : Graph) (x : Option ℕ) → g.vertices ≤ desk_vertices → All Small (B.depths_from g x)
unfolding depth_of
depths-small g None h = tt
depths-small g (Some root) h = all-column Small _ (λ v. depth_small g.vertices _ h) 0 g.vertices

labels-small : (g : Graph) → All Small g.ids → All Small (wcc_of g)
unfolding label_of
labels-small g h =
    all-column Small _ (λ v. all-at Small (names g) _ (pos 0) (omega arith) (all_take Small g.vertices g.ids h)) 0 g.vertices

module _ (P : ℤ → Type 0) (none : P (pos 0)) where
  standing-all : (k : ℕ) (ls cs : List ℤ) → All P cs → All P (standing same_z k ls cs)
  unfolding standing
  standing-all k ls [] h = tt
  standing-all k ls (c ∷ cs) h = by (standing-all k ls cs h.1) (eqb (times same_z c ls) k)
    where
      by : All P (standing same_z k ls cs) → (t : Bool) → All P (cond t (c ∷ standing same_z k ls cs) (standing same_z k ls cs))
      by g true = (h.0, g)
      by g false = g

  smallest-all : (a : ℤ) (cs : List ℤ) → P a → All P cs → P (smallest lt_z a cs)
  unfolding smallest
  smallest-all a [] g h = g
  smallest-all a (c ∷ cs) g h = smallest-all (cond (lt_z c a) c a) cs (by (lt_z c a)) h.1
    where
      by : (t : Bool) → P (cond t c a)
      by true = h.0
      by false = g

  least-all : (own : ℤ) (cs : List ℤ) → P own → All P cs → P (smallest_or lt_z own cs)
  unfolding smallest_or
  least-all own [] g h = g
  least-all own (c ∷ cs) g h = smallest-all c cs h.0 h.1

  labels-all : (L : List ℤ) (us : List ℕ) → All P L → All P (labels_at (pos 0) L us)
  unfolding labels_at
  labels-all L [] h = tt
  labels-all L (u ∷ us) h = (all-at P L u (pos 0) none h, labels-all L us h)

  rounds-all : (near : ℕ → List ℕ) (n : ℕ) (L : List ℤ) (k : ℕ) → All P L → All P (rounds same_z lt_z (pos 0) near n L k)
  unfolding rounds one_round next_at next_label most_common
  rounds-all near n L zero h = h
  rounds-all near n L (suc k) h =
      let M = rounds same_z lt_z (pos 0) near n L k in
      let g : All P M = rounds-all near n L k h in
      all-column P _ (λ v. least-all _ _ (all-at P M v (pos 0) none g) (standing-all _ _ _ (labels-all M (near v) g))) 0 n

cdlp-small : (g : Graph) (k : ℕ) → All Small g.ids → All Small (cdlp_of g k)
unfolding cdlp_of
cdlp-small g k h = rounds-all Small (omega arith) _ g.vertices (names g) k (all_take Small g.vertices g.ids h)

arcs-most : (out : ℕ → List ℕ) (s ns : List ℕ) → arcs_from out s ns ≤ length s * length ns
unfolding arcs_from
arcs-most out [] ns = omega arith
arcs-most out (u ∷ s) ns = omega (arith, count-le ns (out u), arcs-most out s ns)

module _ (out : ℕ → List ℕ) (ns : List ℕ) (few : length ns ≤ desk_vertices) where
  square : length ns * length ns < 10 ^ 7
  square = let h : length ns * length ns ≤ desk_vertices * desk_vertices = mul-le-mul few few in omega arith

  among-short : Short (coefficient_among out ns).numerator × Short (coefficient_among out ns).denominator
  unfolding coefficient_among lowest
  among-short = by (ltb (length ns) 2)
    where
      by : (t : Bool)
          → Short (cond t (record { numerator = 0; denominator = 1 }) (lowest (arcs_from out ns ns) (length ns * (length ns - 1)))
          ).numerator
          × Short (cond t (record { numerator = 0; denominator = 1 }) (lowest (arcs_from out ns ns) (length ns * (length ns - 1)))
          ).denominator
      by true = (omega arith, omega arith)
      by false =
          let p : length ns * (length ns - 1) ≤ length ns * length ns = mul-le-mul (let r : length ns ≤ length ns = omega arith in r)
          (omega arith) in (
            omega (
              arith,
              square,
              arcs-most out ns ns,
              div-le_self (arcs_from out ns ns) (gcd_of (arcs_from out ns ns) (length ns * (length ns - 1))),
            ),
            omega (
              arith,
              square,
              p,
              div-le_self (length ns * (length ns - 1))
                  (gcd_of (arcs_from out ns ns) (length ns * (length ns - 1))),
            ),
          )

module _ (g : Graph) (ids : All Small g.ids) (count : length g.ids ≤ desk_vertices) (few : g.vertices ≤ desk_vertices) where
  neighbours-few : (v : ℕ) → length (neighbours g.vertices (outward g) (inward g) v) ≤ desk_vertices
  unfolding neighbours
  neighbours-few v = omega (arith, those-short (either (outward g v) (inward g v)) g.vertices)

  lines-most : (vs : List ℤ) → All Small vs → length (pair_lines g.ids vs) ≤ desk_vertices * 42
  lines-most vs h = omega (arith, pairs-most g.ids vs ids h)

  fractions-most : (ns ds : List ℕ) → All Short ns → All Short ds → length (ratio_lines g.ids ns ds) ≤ desk_vertices * 42
  fractions-most ns ds h k = omega (arith, ratios-most g.ids ns ds ids h k)

  bfs-most : (line : List ℕ) (root : ℤ) → length (bfs_text g root line) ≤ length line + most_behind
  unfolding bfs_text B.bfs_call B.left_by
  bfs-most line root =
      let place = place_in (names g) root in
      let said = kernel_says (sound_graph g) (is_there place) 10 (B.room_for g.vertices desk_area_z desk_area) in
      answer-most g.vertices line _ few (lines-most _
      (all_left Small said (pos 0) desk_vertices (B.depths_from g place) (omega arith) (depths-small g place few))) _ _ _ 10 (omega arith)

  wcc-most : (line : List ℕ) → length (wcc_text g line) ≤ length line + most_behind
  unfolding wcc_text W.wcc_call W.left_by
  wcc-most line =
      let said = kernel_says (sound_graph g) true 0 (W.room_for g.vertices desk_area_z desk_area) in
      answer-most g.vertices line _ few (lines-most _
      (all_left Small said (pos 0) desk_vertices (wcc_of g) (omega arith) (labels-small g ids)))
      _ _ _ 0 (omega arith)

  cdlp-most : (line : List ℕ) (k : ℤ) → length (cdlp_text g k line) ≤ length line + most_behind
  unfolding cdlp_text C.cdlp_call C.left_by
  cdlp-most line k =
      let said = kernel_says (sound_graph g) (C.good_rounds k) 11 (C.room_for g.vertices desk_area_z desk_area desk_area desk_area) in
      answer-most g.vertices line _ few (lines-most _
      (all_left Small said (pos 0) desk_vertices (cdlp_of g (nat_abs k)) (omega arith) (cdlp-small g (nat_abs k) ids))) _ _ _ 11
      (omega arith)

  lcc-most : (line : List ℕ) → length (lcc_text g line) ≤ length line + most_behind
  unfolding lcc_text L.lcc_call L.left_by numerator denominator
  lcc-most line =
      let said = kernel_says (sound_graph g) true 0 (L.room_for g.vertices desk_area desk_area desk_area) in
      answer-most g.vertices line _ few
      (fractions-most _ _
      (all_left Short said 0 desk_vertices (numerators g) (omega arith)
      (all-column Short _ (λ v. (among-short (outward g) _ (neighbours-few v)).0) 0 g.vertices))
      (all_left Short said 0 desk_vertices (denominators g) (omega arith)
      (all-column Short _ (λ v. (among-short (outward g) _ (neighbours-few v)).1) 0 g.vertices)))
      _ _ _ 0 (omega arith)

  pub job-most : (line : List ℕ) (j : Job) → length (job_text g line j) ≤ length line + most_behind
  job-most line (J.Bfs root) = bfs-most line root
  job-most line J.Wcc = wcc-most line
  job-most line (J.Cdlp k) = cdlp-most line k
  job-most line J.Lcc = lcc-most line

  -- ---- the jobs: their lines stand one after another in the sheet
  pub jobs-most : (s : List ℕ) (k place : ℕ) → place ≤ length s → length (jobs_text g s k place) ≤ (length s - place) + k * most_behind
  unfolding jobs_text
  jobs-most s zero place h = omega arith
  jobs-most s (suc k) place h = by (job_line s place) refl (λ next l. jobs-most s k next l)
    where
      by : (x : Said (Job × ℕ)) → job_line s place ≡ x
          → ((next : ℕ) → next ≤ length s → length (jobs_text g s k next) ≤ (length s - next) + k * most_behind)
          → length (jobs_text g s (suc k) place) ≤ (length s - place) + suc k * most_behind
      by (gives x) e ih =
          let m : Moved s place x.1 = line-moved job_of s place x.0 x.1 e in
          let d : length (drop place s) ≡ length s - place = length-drop place s in
          let w : length (between place x.1 s) ≡ x.1
          - place = length-take-le (x.1 - place) (drop place s) (omega (arith, m.inside)) in
          rw (jobs_text, e)
          (omega (
            arith,
            length-append (job_text g (between place x.1 s) x.0) (jobs_text g s k x.1),
            job-most (between place x.1 s) x.0,
            ih x.1 m.inside,
            m.forward,
            m.inside,
          ))
      by (refuses r) e ih = rw (jobs_text, e) (omega arith)
