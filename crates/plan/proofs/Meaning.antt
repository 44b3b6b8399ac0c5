-- What an accepted sheet is, said of its bytes: the mode line, three sections each after its count line, and nothing more; and such
-- bytes are accepted. Assumes nothing.
use Prim.Native.Nat.{ℕ, zero, suc, ◌+◌, ◌-◌, ◌≤◌}
use mathlib.Core.Path.{◌≡◌, refl, sym, ap, subst, ◌∙◌}
use mathlib.Core.Logic.{◌↔◌}
use mathlib.Core.Bool.{Bool, true, false, cond}
use mathlib.Core.List.{List, [], ◌∷◌, ◌++◌, append_assoc, append-nil}
use native.Mathlib.Omega.{arith}
use native.Mathlib.Nat.{add-zero}
use borrow.Author.Tests.{le-leb, leb-true, le-ltb, ltb-false}
use lib.Dec.{leb, ltb}
use lib.ListN.{length, take, drop, length-append, length-drop, drop_of_length-le}
use lib.Seq.{drop-drop, drop-append_seam, take_at}
use Rattle.basis.specs.Refusal.{Said, gives, refuses, too_many, bad_form, at, sheet_file, onward}
use Rattle.basis.specs.Scan.{mem}
use Rattle.basis.specs.Limits.{desk_vertices, desk_edges}
use Rattle.basis.proofs.Tests.{no-case, false_of}
use Rattle.basis.proofs.Saids.{refused-given, given-one, onward-passed, mapped-gives}
use Rattle.text.specs.Word.{Word, malformed, value, within, count_of}
use Rattle.text.specs.Bytes.{lf}
use Rattle.text.specs.Line.{LineSaid, line, none, fault, line_by}
use Rattle.text.specs.File.{joined, Says, FileSays}
use Rattle.text.proofs.Bytes.{drop_past}
use Rattle.text.proofs.Words.{count-stray}
use Rattle.text.proofs.Counts.{counts-one}
use Rattle.text.proofs.Cuts.{Cut, line-cut, cut_line}
use Rattle.plan.specs.Lines.{sheet_fault, in_sheet, word_alone, sheet_line, is_word}
use Rattle.plan.specs.Jobs.{job_of}
use Rattle.plan.specs.Sheet.{most_jobs, most_bytes, directed_word, undirected_word, mode_of, mode_line, limited, count_line}
use Rattle.plan.specs.Sheet.{any_of, next_of, line_past, lines_past, block, block_of, section, plan, sections, ended, sheet_check}
use Rattle.plan.specs.Form.{mode_word, SectionForm, section_bytes, SheetForm}
use Rattle.plan.specs.declared.sections.Block.{Block}
use Rattle.plan.specs.declared.sections.Plan.{Plan}
use Rattle.plan.proofs.Words.{is_word_lem}

-- ---- a line of a sheet, by its bytes
module _ {A : Type 0} (word : List ℕ → Word A) (s : List ℕ) (place : ℕ) where
  given-line : (x : LineSaid A) (v : A) (next : ℕ) → in_sheet s x ≡ gives (v, next) → x ≡ line v next
  given-line (line u k) v next e = let q = given-one e in ap (λ (x : A × ℕ). line x.0 x.1) q
  given-line (none k) v next e = refused-given e
  given-line (fault n c k) v next e = refused-given e

  sheet-cut : (v : A) (next : ℕ) → sheet_line word s place ≡ gives (v, next) → Cut (word_alone word) s place v next
  unfolding sheet_line
  sheet-cut v next e = line-cut (word_alone word) s place v next (given-line (line_by (word_alone word) s place) v next e)

  cut-sheet : (w r : List ℕ) (v : A) → drop place s ≡ w ++ lf ∷ r → mem lf w ≡ false → word w ≡ value v
      → sheet_line word s place ≡ gives (v, place + length w + 1)
  unfolding sheet_line
  cut-sheet w r v e h g = ap (in_sheet s) (cut_line (word_alone word) s place w r v e h g)

-- ---- lines one after another: those of jobs, or any
module _ {A : Type 0} (word : List ℕ → Word A) (jobs : Bool) (s : List ℕ)
    (same : (place : ℕ) → line_past jobs s place ≡ next_of (sheet_line word s place)) where
  record Lines (k place to : ℕ) : Type 0 where
    lines : List ℕ
    values : List A
    says : FileSays word lines values
    many : length values ≡ k
    cut : drop place s ≡ lines ++ drop to s
    on : to ≡ place + length lines

  first-line : (k place to next : ℕ) → next_of (sheet_line word s place) ≡ gives next → Lines k next to → Lines (suc k) place to
  first-line k place to next e l =
      let r = mapped-gives (λ v. v.1) (sheet_line word s place) next (sym e) in
      let v : A = r.0.0 in
      let c : Cut (word_alone word) s place v next = subst (Cut (word_alone word) s place v) (sym r.2)
      (sheet-cut word s place v r.0.1 r.1) in
      record {
        lines = c.w ++ lf ∷ l.lines;
        values = v ∷ l.values;
        says = record {
          words = c.w ∷ l.says.words;
          whole = ap (λ (b : List ℕ). c.w ++ lf ∷ b) l.says.whole;
          values = (c.whole, c.says, l.says.values);
        };
        many = ap suc l.many;
        cut = c.cut ∙ ap (λ (b : List ℕ). c.w ++ lf ∷ b) l.cut ∙ sym (append_assoc c.w (lf ∷ l.lines) (drop to s));
        on = omega (arith, c.on, l.on, length-append c.w (lf ∷ l.lines));
      }

  lines_cut : (k place to : ℕ) → lines_past jobs k s place ≡ gives to → Lines k place to
  unfolding lines_past
  lines_cut zero place to e =
      let q : place ≡ to = given-one e in
      record {
        lines = [];
        values = [];
        says = record { words = []; whole = refl; values = tt };
        many = refl;
        cut = ap (λ (k : ℕ). drop k s) q;
        on = omega arith;
      }
  lines_cut (suc k) place to e = go (line_past jobs s place) refl (lines_cut k)
    where
      go : (x : Said ℕ) → line_past jobs s place ≡ x → ((next to : ℕ) → lines_past jobs k s next ≡ gives to → Lines k next to)
          → Lines (suc k) place to
      go (refuses r) q f = refused-given (rw (lines_past, q) at e)
      go (gives next) q f = first-line k place to next (sym (same place) ∙ q) (f next to (rw (lines_past, q) at e))

  lines-back : (words : List (List ℕ)) (vs : List A) (place : ℕ) (r : List ℕ) → drop place s ≡ joined words ++ r → Says word words vs
      → lines_past jobs (length vs) s place ≡ gives (place + length (joined words))
  unfolding lines_past
  lines-back [] [] place r e h = ap gives (sym (add-zero place))
  lines-back [] (v ∷ vs) place r e h = absurd h
  lines-back (w ∷ ws) [] place r e h = absurd h
  lines-back (w ∷ ws) (v ∷ vs) place r e h =
      let c = e ∙ append_assoc w (lf ∷ joined ws) r in
      let q : line_past jobs s place ≡ gives (place + length w + 1) = same place
      ∙ ap next_of (cut-sheet word s place w (joined ws ++ r) v c h.0 h.1) in
      let a = length-append w (lf ∷ joined ws) in
      rw (lines_past, q) (lines-back ws vs (place + length w + 1) r (drop_past s w (joined ws ++ r) place lf c) h.2
      ∙ ap gives (omega arith))

-- ---- a section, by its bytes
module _ {A : Type 0} (word : List ℕ → Word A) (jobs : Bool) (limit : ℕ) (s : List ℕ)
    (same : (place : ℕ) → line_past jobs s place ≡ next_of (sheet_line word s place)) where
  record SectionCut (place : ℕ) (b : Block) : Type 0 where
    form : SectionForm word limit place b
    cut : drop place s ≡ section_bytes form ++ drop b.to s

  limited-passed : (place : ℕ) (c d : ℕ × ℕ) → limited limit s place c ≡ gives d → (c.0 ≤ limit) × (c ≡ d)
  limited-passed place c d e = by (leb c.0 limit) refl e
    where
      by : (t : Bool) → leb c.0 limit ≡ t → cond t (gives c) (refuses (sheet_fault s place too_many)) ≡ gives d → (c.0 ≤ limit) × (c ≡ d)
      by true q h = (leb-true c.0 limit q, given-one h)
      by false q h = refused-given h

  section-made : (place n from to : ℕ) → Cut (word_alone count_of) s place n from → n ≤ limit → Lines word jobs s same n from to
      → SectionCut place (block n from to)
  section-made place n from to c few l =
      record {
        form = record {
          count = c.w;
          counted = c.says;
          few = few;
          lines = l.lines;
          values = l.values;
          says = l.says;
          many = l.many;
          from = c.on;
          to = l.on;
        };
        cut = c.cut ∙ ap (λ (b : List ℕ). c.w ++ lf ∷ b) l.cut ∙ sym (append_assoc c.w (lf ∷ l.lines) (drop to s));
      }

  section-cut : (place : ℕ) (b : Block) → section jobs limit s place ≡ gives b → SectionCut place b
  unfolding section count_line
  section-cut place b e =
      let x = onward-passed (onward (sheet_line count_of s place) (limited limit s place)) (block_of jobs s) b e in
      let n : ℕ = x.0.0 in
      let from : ℕ = x.0.1 in
      let y = onward-passed (sheet_line count_of s place) (limited limit s place) (n, from) x.1 in
      let z = limited-passed place y.0 (n, from) y.2 in
      let l = mapped-gives (block n from) (lines_past jobs n s from) b (sym x.2) in
      let few : n ≤ limit = omega (arith, z.0, ap (λ (c : ℕ × ℕ). c.0) z.1) in
      subst (SectionCut place) (sym l.2)
      (section-made place n from l.0 (sheet-cut count_of s place n from (y.1 ∙ ap gives z.1)) few
      (lines_cut word jobs s same n from l.0 l.1))

  module _ (place : ℕ) (b : Block) (x : SectionForm word limit place b) (r : List ℕ) (e : drop place s ≡ section_bytes x ++ r) where
    count-first : drop place s ≡ x.count ++ lf ∷ (x.lines ++ r)
    count-first = e ∙ append_assoc x.count (lf ∷ x.lines) r

    lines_at : drop b.from s ≡ x.lines ++ r
    lines_at = ap (λ (k : ℕ). drop k s) x.from ∙ drop_past s x.count (x.lines ++ r) place lf count-first

    section-lines : x.lines ≡ take (b.to - b.from) (drop b.from s)
    section-lines = sym (ap (take (b.to - b.from)) lines_at ∙ take_at x.lines r (b.to - b.from) (omega (arith, x.to)))

    section-past : drop b.to s ≡ r
    section-past =
        ap (λ (k : ℕ). drop k s) x.to ∙ sym (drop-drop (length x.lines) b.from s) ∙ ap (drop (length x.lines)) lines_at
        ∙ drop-append_seam x.lines r

    section-back : section jobs limit s place ≡ gives b
    unfolding section count_line within
    section-back =
        let m : mem lf x.count ≡ false = false_of (mem lf x.count)
        (λ h. no-case (let z : value b.count ≡ malformed = sym x.counted ∙ count-stray lf refl x.count h in cc)) in
        let c : sheet_line count_of s place ≡ gives (b.count, b.from) =
        cut-sheet count_of s place x.count (x.lines ++ r) b.count count-first m x.counted
        ∙ ap (λ (k : ℕ). gives (b.count, k)) (sym x.from) in
        let l : lines_past jobs b.count s b.from ≡ gives b.to =
        ap (λ (k : ℕ). lines_past jobs k s b.from) (sym x.many)
        ∙ lines-back word jobs s same x.says.words x.values b.from r (lines_at ∙ ap (λ (a : List ℕ). a ++ r) x.says.whole)
        x.says.values
        ∙ ap gives (omega (arith, x.to, ap length x.says.whole)) in
        rw (c, le-leb b.count limit x.few, l)

-- ---- the mode line
mode-word : (w : List ℕ) (d : Bool) → mode_of w ≡ value d → w ≡ mode_word d
unfolding mode_of
mode-word w d e = by (is_word directed_word w) refl (is_word undirected_word w) refl d e
  where
    by : (t : Bool) → is_word directed_word w ≡ t → (u : Bool) → is_word undirected_word w ≡ u → (d : Bool)
        → cond t (value true) (cond u (value false) malformed) ≡ value d → w ≡ mode_word d
    by true q u r true h = is_word_lem directed_word w q
    by true q u r false h = no-case cc
    by false q true r true h = no-case cc
    by false q true r false h = is_word_lem undirected_word w r
    by false q false r d h = no-case cc

mode-value : (d : Bool) → mode_of (mode_word d) ≡ value d
unfolding mode_of is_word
mode-value true = refl
mode-value false = refl

mode-whole : (d : Bool) → mem lf (mode_word d) ≡ false
unfolding mem
mode-whole true = refl
mode-whole false = refl

-- ---- the whole sheet
any_same : (s : List ℕ) (place : ℕ) → line_past false s place ≡ next_of (sheet_line any_of s place)
any_same s place = refl

job-same : (s : List ℕ) (place : ℕ) → line_past true s place ≡ next_of (sheet_line job_of s place)
job-same s place = refl

module _ (s : List ℕ) (short : length s ≤ most_bytes) where
  sections-form : (d : Bool) (m : ℕ) (v e j : Block) → sheet_line mode_of s 0 ≡ gives (d, m) → section false desk_vertices s m ≡ gives v
      → section false desk_edges s v.to ≡ gives e
      → section true most_jobs s e.to ≡ gives j → length s ≤ j.to → SheetForm s (plan d v e j)
  sections-form d m v e j a b c f g =
      let w = sheet-cut mode_of s 0 d m a in
      let q : w.w ≡ mode_word d = mode-word w.w d w.says in
      let k : m ≡ length (mode_word d) + 1 = omega (arith, w.on, ap length q) in
      let x = section-cut any_of false desk_vertices s (any_same s) (length (mode_word d) + 1) v
      (ap (section false desk_vertices s) (sym k) ∙ b) in
      let y = section-cut any_of false desk_edges s (any_same s) v.to e c in
      let z = section-cut job_of true most_jobs s (job-same s) e.to j f in
      record {
        vertices = x.form;
        edges = y.form;
        jobs = z.form;
        whole =
            w.cut ∙ ap (λ (l : List ℕ). l ++ lf ∷ drop m s) q
            ∙ ap (λ (l : List ℕ). mode_word d ++ lf ∷ l)
            (ap (λ (n : ℕ). drop n s) k ∙ x.cut
            ∙ ap (λ (l : List ℕ). section_bytes x.form ++ l)
            (y.cut
            ∙ ap (λ (l : List ℕ). section_bytes y.form ++ l)
            (z.cut ∙ ap (λ (l : List ℕ). section_bytes z.form ++ l) (drop_of_length-le s g) ∙ append-nil (section_bytes z.form))));
        short = short;
      }

  sections-by : (p : Plan) (d : Bool) (m : ℕ) (v e j : Block) → sheet_line mode_of s 0 ≡ gives (d, m)
      → section false desk_vertices s m ≡ gives v
      → section false desk_edges s v.to ≡ gives e → section true most_jobs s e.to ≡ gives j → plan d v e j ≡ p → length s ≤ p.jobs.to
      → SheetForm s p
  sections-by p d m v e j a b c f q g =
      subst (SheetForm s) q (sections-form d m v e j a b c f (omega (arith, ap (λ (x : Plan). x.jobs.to) q)))

  sections-cut : (p : Plan) → sections s ≡ gives p → length s ≤ p.jobs.to → SheetForm s p
  unfolding sections
  sections-cut p a g =
      let m = onward-passed (mode_line s) _ p a in
      let v = onward-passed (section false desk_vertices s m.0.1) _ p m.2 in
      let e = onward-passed (section false desk_edges s v.0.to) _ p v.2 in
      let j = onward-passed (section true most_jobs s e.0.to) _ p e.2 in
      sections-by p m.0.0 m.0.1 v.0 e.0 j.0 m.1 v.1 e.1 j.1 (given-one j.2) g

ended-passed : (s : List ℕ) (x p : Plan) → ended s x ≡ gives p → (length s ≤ p.jobs.to) × (x ≡ p)
ended-passed s x p e = by (ltb x.jobs.to (length s)) refl e
  where
    by : (t : Bool) → ltb x.jobs.to (length s) ≡ t → cond t (refuses (sheet_fault s x.jobs.to bad_form)) (gives x) ≡ gives p
        → (length s ≤ p.jobs.to) × (x ≡ p)
    by true q h = refused-given h
    by false q h = let k : x ≡ p = given-one h in (omega (arith, ltb-false x.jobs.to (length s) q, ap (λ (y : Plan). y.jobs.to) k), k)

-- an accepted sheet is the mode line and the three sections that its plan names, and nothing more
pub accepted-form : (s : List ℕ) (p : Plan) → sheet_check s ≡ gives p → SheetForm s p
unfolding sheet_check
accepted-form s p e = by (ltb most_bytes (length s)) refl e
  where
    by : (t : Bool) → ltb most_bytes (length s) ≡ t → cond t (refuses (at too_many sheet_file 0)) (onward (sections s) (ended s)) ≡ gives p
        → SheetForm s p
    by true q h = refused-given h
    by false q h =
        let x = onward-passed (sections s) (ended s) p h in
        let y = ended-passed s x.0 p x.2 in
        sections-cut s (ltb-false most_bytes (length s) q) p (x.1 ∙ ap gives y.1) y.0

-- ---- where the parts of a sheet of that form stand
module _ (s : List ℕ) (p : Plan) (f : SheetForm s p) where
  abbrev start : ℕ
  start = length (mode_word p.directed) + 1

  abbrev vertex_bytes : List ℕ
  vertex_bytes = section_bytes f.vertices

  abbrev edge_bytes : List ℕ
  edge_bytes = section_bytes f.edges

  abbrev job_bytes : List ℕ
  job_bytes = section_bytes f.jobs

  start_is : 0 + length (mode_word p.directed) + 1 ≡ start
  start_is = omega arith

  at-mode : sheet_line mode_of s 0 ≡ gives (p.directed, start)
  at-mode =
      cut-sheet mode_of s 0 (mode_word p.directed) (vertex_bytes ++ (edge_bytes ++ job_bytes)) p.directed f.whole
      (mode-whole p.directed) (mode-value p.directed)
      ∙ ap (λ (n : ℕ). gives (p.directed, n)) start_is

  at-vertices : drop start s ≡ vertex_bytes ++ (edge_bytes ++ job_bytes)
  at-vertices =
      ap (λ (n : ℕ). drop n s) (sym start_is) ∙ drop_past s (mode_word p.directed) (vertex_bytes ++ (edge_bytes ++ job_bytes)) 0 lf
      f.whole

  at-edges : drop p.vertices.to s ≡ edge_bytes ++ job_bytes
  at-edges = section-past any_of false desk_vertices s (any_same s) start p.vertices f.vertices (edge_bytes ++ job_bytes) at-vertices

  at-jobs : drop p.edges.to s ≡ job_bytes ++ []
  at-jobs =
      section-past any_of false desk_edges s (any_same s) p.vertices.to p.edges f.edges job_bytes at-edges
      ∙ sym (append-nil job_bytes)

  at-end : length s ≤ p.jobs.to
  at-end = omega (
    arith,
    ap length (section-past job_of true most_jobs s (job-same s) p.edges.to p.jobs f.jobs [] at-jobs),
    length-drop p.jobs.to s,
  )

  -- bytes of that form are accepted with that plan
  pub form-accepted : sheet_check s ≡ gives p
  unfolding sheet_check sections
  form-accepted =
      rw (
        le-ltb most_bytes (length s) f.short,
        at-mode,
        section-back any_of false desk_vertices s (any_same s) start p.vertices f.vertices (edge_bytes ++ job_bytes) at-vertices,
        section-back any_of false desk_edges s (any_same s) p.vertices.to p.edges f.edges job_bytes at-edges,
        section-back job_of true most_jobs s (job-same s) p.edges.to p.jobs f.jobs [] at-jobs,
        le-ltb p.jobs.to (length s) at-end,
      )

  -- the lines of a section are the bytes from where its block begins to the place past it
  pub vertex-lines : f.vertices.lines ≡ take (p.vertices.to - p.vertices.from) (drop p.vertices.from s)
  vertex-lines = section-lines any_of false desk_vertices s (any_same s) start p.vertices f.vertices (edge_bytes ++ job_bytes) at-vertices

  pub edge-lines : f.edges.lines ≡ take (p.edges.to - p.edges.from) (drop p.edges.from s)
  edge-lines = section-lines any_of false desk_edges s (any_same s) p.vertices.to p.edges f.edges job_bytes at-edges

  pub job-lines : f.jobs.lines ≡ take (p.jobs.to - p.jobs.from) (drop p.jobs.from s)
  job-lines = section-lines job_of true most_jobs s (job-same s) p.edges.to p.jobs f.jobs [] at-jobs

-- a sheet is accepted with a plan exactly where its bytes have the form that the plan gives
pub sheet-accepted : (s : List ℕ) (p : Plan) → (sheet_check s ≡ gives p) ↔ SheetForm s p
sheet-accepted s p = (accepted-form s p, form-accepted s p)

-- an accepted sheet's bytes are fixed by its plan and its lines: the mode line and the three counts are those of the plan
pub sheet-fixed : (s t : List ℕ) (p : Plan) (f : SheetForm s p) (g : SheetForm t p) → f.vertices.lines ≡ g.vertices.lines
    → f.edges.lines ≡ g.edges.lines
    → f.jobs.lines ≡ g.jobs.lines → s ≡ t
sheet-fixed s t p f g a b c =
    f.whole
    ∙ ap (λ (l : List ℕ). mode_word p.directed ++ lf ∷ l)
    (both (same-section f.vertices g.vertices a) (both (same-section f.edges g.edges b) (same-section f.jobs g.jobs c)))
    ∙ sym g.whole
  where
    same-section : {A : Type 0} {word : List ℕ → Word A} {limit place : ℕ} {b : Block} (x y : SectionForm word limit place b)
        → x.lines ≡ y.lines → section_bytes x ≡ section_bytes y
    same-section {A} {word} {limit} {place} {b} x y e = let q = counts-one x.count y.count b.count x.counted y.counted in cc

    both : {k l m n : List ℕ} → k ≡ m → l ≡ n → k ++ l ≡ m ++ n
    both e h = cc
