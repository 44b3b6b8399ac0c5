-- Counting labels: the running best is the definition's next label, and forgetting puts the counts back. Assumes nothing.
use Prim.Native.Nat.{ℕ, zero, suc, ◌+◌, ◌≤◌, ◌<◌}
use mathlib.Core.Path.{◌≡◌, refl, sym, ap, ◌∙◌, subst}
use mathlib.Core.Bool.{Bool, true, false, cond}
use mathlib.Core.List.{List, [], ◌∷◌, ◌++◌}
use native.Mathlib.Omega.{arith}
use native.Mathlib.Nat.{not-suc-le-zero, add-zero}
use native.Mathlib.Decide.{ℕ_discrete, dec_lt}
use lib.ListN.{length, get_or, set, drop, get_or-eq_default, replicate, length-set, length-replicate}
use lib.Seq.{get_or-set_same, get_or-set_other, ext_get_or}
use lib.Dec.{eqb, ltb}
use borrow.Author.Tests.{eq-eqb, ne_eqb, ltb-true, ltb-false, le-ltb}
use Rattle.basis.proofs.Orders.{number-order}
use Rattle.basis.specs.Scan.{all_below, bit}
use Rattle.basis.proofs.Scans.{below_at, below-first, below_rest, below-append, bit_le}
use Rattle.basis.proofs.Areas.{replicate-at}
use Rattle.cdlp.specs.declared.label.Best.{Best}
use Rattle.cdlp.specs.Label.{times, most_common, standing, smallest_or, next_label}
use Rattle.cdlp.specs.Rounds.{labels_at}
use Rattle.cdlp.specs.Steps.{Under, best, best_with, Poll, poll, polled, polled_all, forgotten, Labelled, Heard, TwoParts}
use Rattle.cdlp.proofs.Lists.{labels-low, labels_append, labels_length, labels-step, labels-end}
use Rattle.cdlp.proofs.Labels.{Chosen, next-chosen, chosen-one}

-- a vertex of a part has a label, and its label a count, where the counts are as many as before
pub vertex-low : {part L C : List ℕ} → Labelled part L C → (i : ℕ) → i < length part → get_or part i 0 < length L
vertex-low {part = part} {L = L} h i q = below_at (length L) part h.low_part i q

pub label-low : {part L C : List ℕ} → Labelled part L C → (D : List ℕ) → length D ≡ length C → (i : ℕ) → i < length part
    → get_or L (get_or part i 0) 0 < length D
label-low {part = part} {L = L} {C = C} h D e i q = rw e (below_at (length C) L h.low_labels (get_or part i 0) (vertex-low h i q))

-- the two together, for the loops that hear and forget
pub ruleset lows = (vertex-low, label-low)

-- one label more is heard
pub hear-more : (L part : List ℕ) (i : ℕ) (C : List ℕ) (b r : Best) (whole : Poll) → i < length part
    → polled_all (labels_at 0 L (drop i part)) (poll C b) ≡ whole
    → r ≡ best_with b (get_or L (get_or part i 0) 0) (get_or C (get_or L (get_or part i 0) 0) 0 + 1)
    → polled_all (labels_at 0 L (drop (i + 1) part))
    (poll (set C (get_or L (get_or part i 0) 0) (get_or C (get_or L (get_or part i 0) 0) 0 + 1)) r)
    ≡ whole
unfolding polled_all polled
hear-more L part i C b r whole h e q =
    let l = get_or L (get_or part i 0) 0 in
    ap (λ (x : Best). polled_all (labels_at 0 L (drop (i + 1) part)) (poll (set C l (get_or C l 0 + 1)) x)) q
    ∙ sym (ap (λ (s : List ℕ). polled_all s (poll C b)) (labels-step L part i h)) ∙ e

pub hear-end : (L part : List ℕ) (i : ℕ) (S whole : Poll) → length part ≤ i → polled_all (labels_at 0 L (drop i part)) S ≡ whole → S ≡ whole
unfolding polled_all
hear-end L part i S whole h e = sym (ap (λ (s : List ℕ). polled_all s S) (labels-end L part i h)) ∙ e

pub under_more : (k j : ℕ) (C : List ℕ) (l : ℕ) → l < length C → Under (k + j) C → Under (k + (j + 1)) (set C l (get_or C l 0 + 1))
under_more k j C l h u i =
    elim (ℕ_discrete i l) as (λ _. get_or (set C l (get_or C l 0 + 1)) i 0 ≤ k + (j + 1)) [
      | yes q ↦ rw (q, get_or-set_same C l (get_or C l 0 + 1) 0 h) (let a = u l in omega arith)
      | no d ↦ rw (get_or-set_other C l i (get_or C l 0 + 1) 0 d) (let a = u i in omega arith)
    ]

-- one count more goes back to zero
pub forget-more : (L part : List ℕ) (i : ℕ) (C whole : List ℕ) → i < length part → forgotten (labels_at 0 L (drop i part)) C ≡ whole
    → forgotten (labels_at 0 L (drop (i + 1) part)) (set C (get_or L (get_or part i 0) 0) 0) ≡ whole
unfolding forgotten
forget-more L part i C whole h e = sym (ap (λ (s : List ℕ). forgotten s C) (labels-step L part i h)) ∙ e

pub forget-end : (L part : List ℕ) (i : ℕ) (C whole : List ℕ) → length part ≤ i → forgotten (labels_at 0 L (drop i part)) C ≡ whole
    → C ≡ whole
unfolding forgotten
forget-end L part i C whole h e = sym (ap (λ (s : List ℕ). forgotten s C) (labels-end L part i h)) ∙ e

-- how a label's number of times grows when l is heard
bit-same : (x l : ℕ) → x ≡ l → bit (eqb x l) ≡ 1
bit-same x l e = rw (eq-eqb x l e)

bit-other : (x l : ℕ) → (x ≡ l → ⊥) → bit (eqb x l) ≡ 0
bit-other x l d = rw (ne_eqb x l d)

-- b leads where each label x was heard T x times; before any label it is own, with no times
pub record Lead (T : ℕ → ℕ) (own : ℕ) (b : Best) : Type 0 where
  pub size : b.count ≡ T b.label
  pub most : (x : ℕ) → T x ≤ b.count
  pub low : (x : ℕ) → T x ≡ b.count → 0 < b.count → b.label ≤ x
  pub kept : b.count ≡ 0 → b.label ≡ own

abbrev heard : ℕ → (ℕ → ℕ) → ℕ → ℕ
heard l T x = bit (eqb x l) + T x

module _ (T : ℕ → ℕ) (own l : ℕ) (b : Best) (v : Lead T own b) where
  taken : b.count ≤ T l + 1 → (T l + 1 ≡ b.count → l < b.label) → Lead (heard l T) own (best l (T l + 1))
  taken g q =
      record {
        size = let e = bit-same l l refl in omega arith;
        most = λ x.
            elim (ℕ_discrete x l) as (λ _. bit (eqb x l) + T x ≤ T l + 1) [
              | yes e ↦ rw e (let o = bit-same l l refl in omega arith)
              | no d ↦ let o = bit-other x l d in let m = v.most x in omega arith
            ];
        low = λ x h p.
            elim (ℕ_discrete x l) as (λ _. l ≤ x) [
              | yes e ↦ omega arith
              | no d ↦
                  let o = bit-other x l d in
                  let m = v.most x in
                  let s : T x ≡ b.count = omega arith in
                  let a = v.low x s (omega arith) in
                  let r = q (omega arith) in
                  omega arith
            ];
        kept = λ h. absurd (let w = h in omega arith);
      }

  stays : T l + 1 ≤ b.count → (T l + 1 ≡ b.count → b.label ≤ l) → Lead (heard l T) own b
  stays g q =
      record {
        size =
            let d : (b.label ≡ l → ⊥) = (λ e. let a : T b.label ≡ T l = ap T e in let s = v.size in omega arith) in
            let o = bit-other b.label l d in
            let s = v.size in
            omega arith;
        most = λ x.
            elim (ℕ_discrete x l) as (λ _. bit (eqb x l) + T x ≤ b.count) [
              | yes e ↦ rw e (let o = bit-same l l refl in omega arith)
              | no d ↦ let o = bit-other x l d in let m = v.most x in omega arith
            ];
        low = λ x h p.
            elim (ℕ_discrete x l) as (λ _. b.label ≤ x) [
              | yes e ↦ let o = bit-same x l e in let a : T x ≡ T l = ap T e in let r = q (omega arith) in omega arith
              | no d ↦ let o = bit-other x l d in v.low x (omega arith) p
            ];
        kept = λ h. absurd (let w = h in omega arith);
      }

  -- one label more
  pub lead-heard : (k : ℕ) → k ≡ T l + 1 → Lead (heard l T) own (best_with b l k)
  unfolding best_with
  lead-heard k e = rw e (up (ltb b.count (T l + 1)) refl)
    where
      even : (t : Bool) → ltb l b.label ≡ t → T l + 1 ≡ b.count → Lead (heard l T) own (cond t (best l (T l + 1)) b)
      even true h q = let a = ltb-true l b.label h in taken (omega arith) (λ _. a)
      even false h q = let a = ltb-false l b.label h in stays (omega arith) (λ _. a)

      down : (t : Bool) → ltb (T l + 1) b.count ≡ t → T l + 1 ≤ b.count
          → Lead (heard l T) own (cond t b (cond (ltb l b.label) (best l (T l + 1)) b))
      down true h g = let a = ltb-true (T l + 1) b.count h in stays (omega arith) (λ q. absurd (let w = q in omega arith))
      down false h g = let a = ltb-false (T l + 1) b.count h in even (ltb l b.label) refl (omega arith)

      up : (t : Bool) → ltb b.count (T l + 1) ≡ t
          → Lead (heard l T) own (cond t (best l (T l + 1))
          (cond (ltb (T l + 1) b.count) b (cond (ltb l b.label) (best l (T l + 1)) b)))
      up true h = let a = ltb-true b.count (T l + 1) h in taken (omega arith) (λ q. absurd (let w = q in omega arith))
      up false h = let a = ltb-false b.count (T l + 1) h in down (ltb (T l + 1) b.count) refl a

-- the counts stand for T, and the best leads
pub record Counting (n : ℕ) (T : ℕ → ℕ) (own : ℕ) (S : Poll) : Type 0 where
  pub len : length S.counts ≡ n
  pub nums : (j : ℕ) → j < n → get_or S.counts j 0 ≡ T j
  pub leads : Lead T own S.lead

polled-one : (n : ℕ) (T : ℕ → ℕ) (own l : ℕ) (S : Poll) → l < n → Counting n T own S → Counting n (heard l T) own (polled l S)
unfolding polled
polled-one n T own l S h v =
    record {
      len = length-set S.counts l (get_or S.counts l 0 + 1) ∙ v.len;
      nums = λ j g.
          elim (ℕ_discrete j l) as (λ _. get_or (set S.counts l (get_or S.counts l 0 + 1)) j 0 ≡ bit (eqb j l) + T j) [
            | yes e ↦
                let a : l < length S.counts = rw v.len h in
                rw (e, get_or-set_same S.counts l (get_or S.counts l 0 + 1) 0 a)
                (let o = bit-same l l refl in let q = v.nums l h in omega arith)
            | no d ↦ rw (get_or-set_other S.counts l j (get_or S.counts l 0 + 1) 0 d)
                (let o = bit-other j l d in let q = v.nums j g in omega arith)
          ];
      leads = lead-heard T own l S.lead v.leads (get_or S.counts l 0 + 1) (let q = v.nums l h in omega arith);
    }

-- all of ls are heard
told : List ℕ → (ℕ → ℕ) → ℕ → ℕ
told [] T = T
told (l ∷ ls) T = told ls (heard l T)

told-times : (ls : List ℕ) (T : ℕ → ℕ) (x : ℕ) → told ls T x ≡ times eqb x ls + T x
unfolding times told
told-times [] T x = omega arith
told-times (l ∷ ls) T x = let r = told-times ls (heard l T) x in omega arith

polled-all : (n own : ℕ) (ls : List ℕ) (T : ℕ → ℕ) (S : Poll) → all_below n ls ≡ true → Counting n T own S
    → Counting n (told ls T) own (polled_all ls S)
unfolding polled_all told
polled-all n own [] T S h v = v
polled-all n own (l ∷ ls) T S h v =
    polled-all n own ls (heard l T) (polled l S) (below_rest n l ls h) (polled-one n T own l S (below-first n l ls h) v)

nothing : ℕ → ℕ
nothing x = 0

counting-start : (n own : ℕ) → Counting n nothing own (poll (replicate n 0) (best own 0))
unfolding nothing
counting-start n own =
    record {
      len = length-replicate n 0;
      nums = λ j h. replicate-at 0 n j;
      leads = record { size = refl; most = λ x. omega arith; low = λ x e h. absurd (not-suc-le-zero h); kept = λ e. refl };
    }

first-times : (l : ℕ) (ls : List ℕ) → 0 < times eqb l (l ∷ ls)
unfolding times
first-times l ls = let o = bit-same l l refl in omega arith

-- what leads in the end is the next label
lead-next : (ls : List ℕ) (own : ℕ) (b : Best) → Lead (told ls nothing) own b → b.label ≡ next_label eqb ltb own ls
unfolding next_label most_common standing smallest_or told nothing
lead-next [] own b v = v.kept v.size
lead-next (l ∷ ls) own b v =
    chosen-one number-order (l ∷ ls) b.label (next_label eqb ltb own (l ∷ ls)) here (next-chosen number-order own l ls)
  where
    at : (x : ℕ) → told (l ∷ ls) nothing x ≡ times eqb x (l ∷ ls)
    at x = let r = told-times (l ∷ ls) nothing x in r ∙ add-zero (times eqb x (l ∷ ls))

    first : 0 < b.count
    first = let a = v.most l in let e = at l in let t = first-times l ls in omega arith

    here : Chosen eqb ltb (l ∷ ls) b.label
    here =
        record {
          among = let e = at b.label in let s = v.size in let f = first in omega arith;
          most = λ x. let e = at x in let f = at b.label in let m = v.most x in let s = v.size in omega arith;
          least = λ x q. let e = at x in let f = at b.label in let s = v.size in le-ltb x b.label (v.low x (omega arith) first);
        }

polled-append : (a b : List ℕ) (S : Poll) → polled_all (a ++ b) S ≡ polled_all b (polled_all a S)
unfolding polled_all
polled-append [] b S = refl
polled-append (l ∷ a) b S = polled-append a b (polled l S)

forgotten-append : (a b C : List ℕ) → forgotten (a ++ b) C ≡ forgotten b (forgotten a C)
unfolding forgotten
forgotten-append [] b C = refl
forgotten-append (l ∷ a) b C = forgotten-append a b (set C l 0)

-- no count is above the number of labels heard
times-le : (x : ℕ) (ls : List ℕ) → times eqb x ls ≤ length ls
unfolding times
times-le x [] = omega arith
times-le x (l ∷ ls) = let r = times-le x ls in let o = bit_le (eqb x l) in omega arith

set-zero : (C : List ℕ) (l : ℕ) → get_or (set C l 0) l 0 ≡ 0
set-zero [] l = refl
set-zero (x ∷ C) zero = refl
set-zero (x ∷ C) (suc l) = set-zero C l

forgotten-length : (ls C : List ℕ) → length (forgotten ls C) ≡ length C
unfolding forgotten
forgotten-length [] C = refl
forgotten-length (l ∷ ls) C = forgotten-length ls (set C l 0) ∙ length-set C l 0

forgotten-zero : (ls C : List ℕ) (j : ℕ) → (times eqb j ls ≡ 0 → get_or C j 0 ≡ 0) → get_or (forgotten ls C) j 0 ≡ 0
unfolding forgotten times
forgotten-zero [] C j h = h refl
forgotten-zero (l ∷ ls) C j h = forgotten-zero ls (set C l 0) j (λ e.
    elim (ℕ_discrete j l) as (λ _. get_or (set C l 0) j 0 ≡ 0) [
      | yes q ↦ rw q (set-zero C l)
      | no d ↦ rw (get_or-set_other C l j 0 0 d) (h (let o = bit-other j l d in omega arith))
    ])

-- the counts and the best after the labels ls, from nothing
abbrev after : ℕ → ℕ → List ℕ → Poll
after n own ls = polled_all ls (poll (replicate n 0) (best own 0))

module _ (n own : ℕ) (L us : List ℕ) (h : all_below (length L) us ≡ true) (hL : all_below n L ≡ true) where
  counting : Counting n (told (labels_at 0 L us) nothing) own (after n own (labels_at 0 L us))
  counting =
      polled-all n own (labels_at 0 L us) nothing (poll (replicate n 0) (best own 0)) (labels-low n L us h hL) (counting-start n own)

  count_at : (j : ℕ) → j < n → get_or (after n own (labels_at 0 L us)).counts j 0 ≡ times eqb j (labels_at 0 L us)
  unfolding nothing
  count_at j g = counting.nums j g ∙ told-times (labels_at 0 L us) nothing j ∙ add-zero (times eqb j (labels_at 0 L us))

  after-under : Under (length us) (after n own (labels_at 0 L us)).counts
  after-under j =
      elim (dec_lt j n) as (λ _. get_or (after n own (labels_at 0 L us)).counts j 0 ≤ length us) [
        | yes g ↦ let e = count_at j g in let t = times-le j (labels_at 0 L us) in let l = labels_length 0 L us in omega arith
        | no g ↦ let e = get_or-eq_default (after n own (labels_at 0 L us)).counts 0 {n = j} (let k = counting.len in omega arith) in
            omega arith
      ]

  after-forgotten : forgotten (labels_at 0 L us) (after n own (labels_at 0 L us)).counts ≡ replicate n 0
  after-forgotten =
      let len : length (forgotten (labels_at 0 L us) (after n own (labels_at 0 L us)).counts)
      ≡ n = forgotten-length (labels_at 0 L us) (after n own (labels_at 0 L us)).counts ∙ counting.len in
      ext_get_or 0 (forgotten (labels_at 0 L us) (after n own (labels_at 0 L us)).counts) (replicate n 0) (len ∙ sym (length-replicate n 0))
      (λ j g. forgotten-zero (labels_at 0 L us) (after n own (labels_at 0 L us)).counts j (λ e. count_at j (omega arith) ∙ e)
      ∙ sym (replicate-at 0 n j))

-- ---- a vertex's two parts: what the steps of `settle` ask, and what they give in the end
pub labelled-in : {L a b C D : List ℕ} → TwoParts a b L C → length D ≡ length C → Labelled a L D
labelled-in {L} p e = record { low_part = p.sides.low_in; low_labels = subst (λ (k : ℕ). all_below k L ≡ true) (sym e) p.low_labels }

pub labelled_out : {L a b C D : List ℕ} → TwoParts a b L C → length D ≡ length C → Labelled b L D
labelled_out {L} p e = record { low_part = p.sides.low_out; low_labels = subst (λ (k : ℕ). all_below k L ≡ true) (sym e) p.low_labels }

pub settle-first : (L a b C : List ℕ) → TwoParts a b L C → Heard a L C
settle-first L a b C p =
    record {
      labelled = record { low_part = p.sides.low_in; low_labels = p.low_labels };
      under = λ j. let z = replicate-at {A = ℕ} 0 (length C) j in rw p.fresh (omega arith);
      short = p.sides.short_in;
    }

module _ (own : ℕ) (L a b C₀ : List ℕ) (p : TwoParts a b L C₀) (C₁ : List ℕ) (b₁ : Best)
    (e₁ : poll C₁ b₁ ≡ polled_all (labels_at 0 L a) (poll C₀ (best own 0))) where
  abbrev n : ℕ
  n = length C₀

  once : poll C₁ b₁ ≡ after n own (labels_at 0 L a)
  once = e₁ ∙ ap (λ (C : List ℕ). polled_all (labels_at 0 L a) (poll C (best own 0))) p.fresh

  once-counts : C₁ ≡ (after n own (labels_at 0 L a)).counts
  once-counts = ap (λ (S : Poll). S.counts) once

  pub settle-second : Heard b L C₁
  settle-second =
      record {
        labelled = labelled_out p (ap length once-counts ∙ (counting n own L a p.sides.low_in p.low_labels).len);
        under = λ j. let u = after-under n own L a p.sides.low_in p.low_labels j in let s = p.sides.short_in in
            rw once-counts (omega arith);
        short = p.sides.short_out;
      }

  module _ (C₂ : List ℕ) (b₂ : Best) (e₂ : poll C₂ b₂ ≡ polled_all (labels_at 0 L b) (poll C₁ b₁)) where
    low : all_below (length L) (a ++ b) ≡ true
    low = below-append (length L) a b p.sides.low_in p.sides.low_out

    twice : poll C₂ b₂ ≡ after n own (labels_at 0 L (a ++ b))
    twice =
        e₂ ∙ ap (polled_all (labels_at 0 L b)) once
        ∙ sym (polled-append (labels_at 0 L a) (labels_at 0 L b) (poll (replicate n 0) (best own 0)))
        ∙ ap (after n own) (sym (labels_append 0 L a b))

    pub settle-label : b₂.label ≡ next_label eqb ltb own (labels_at 0 L (a ++ b))
    settle-label =
        ap (λ (S : Poll). S.lead.label) twice
        ∙ lead-next (labels_at 0 L (a ++ b)) own (after n own (labels_at 0 L (a ++ b))).lead
        (counting n own L (a ++ b) low p.low_labels).leads

    pub settle-counts : (C₃ C₄ : List ℕ) → C₃ ≡ forgotten (labels_at 0 L a) C₂ → C₄ ≡ forgotten (labels_at 0 L b) C₃ → C₄ ≡ C₀
    settle-counts C₃ C₄ e₃ e₄ =
        e₄ ∙ ap (forgotten (labels_at 0 L b)) e₃ ∙ sym (forgotten-append (labels_at 0 L a) (labels_at 0 L b) C₂)
        ∙ ap (λ (s : List ℕ). forgotten s C₂) (sym (labels_append 0 L a b))
        ∙ ap (λ (S : Poll). forgotten (labels_at 0 L (a ++ b)) S.counts) twice
        ∙ after-forgotten n own L (a ++ b) low p.low_labels ∙ sym p.fresh
