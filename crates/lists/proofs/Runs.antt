-- Laws of a loop over the lines of a file: what is left of the file after a line, and what the loop keeps of its areas. Assumes nothing.
use Rattle.std.specs.Prelude.{Option, Some, None}
use Prim.Native.Nat.{ℕ, zero, suc, ◌+◌, ◌-◌, ◌≤◌, ◌<◌}
use mathlib.Core.Path.{◌≡◌, refl, sym, ap, ◌∙◌}
use mathlib.Core.List.{List, [], ◌∷◌}
use native.Mathlib.Omega.{arith}
use native.Mathlib.Nat.{add-zero}
use native.Mathlib.Numerals.{add-one}
use lib.ListN.{length, set, length-set}
use lib.Seq.{sets}
use lib.IntN.{ℤ}
use Rattle.basis.specs.Refusal.{Said, gives, refuses, vertex_file, mapped}
use Rattle.basis.specs.declared.refusal.Refusal.{Refusal}
use Rattle.basis.proofs.Saids.{given-one}
use Rattle.basis.proofs.Tests.{no-case}
use Rattle.text.specs.Line.{LineSaid, line, none, fault, Form, line_by, ident_form}
use Rattle.text.specs.File.{Before, after, unless, fault_of}
use Rattle.text.proofs.Places.{line-moves}
use Rattle.text.proofs.Files.{left, left-start, left-none, left-bad, left-good}
use Rattle.lists.specs.declared.Lines.{Lines}
use Rattle.lists.specs.Files.{vertex_test, identifiers}
use Rattle.lists.specs.Steps.{before_of, lines_at, step_by, vertex_step, ids_into}

-- a step that is not refused
abbrev pub gave : {A B : Type 0} → Option B → Lines A → Said (Option B × Lines A)
gave x d = gives (x, d)

pub gave-what : {A B : Type 0} (x y : Option B) (d e : Lines A) → gave x d ≡ gave y e → x ≡ y
gave-what x y d e h = ap (λ z. z.0) (given-one h)

pub gave-then : {A B : Type 0} (x y : Option B) (d e : Lines A) → gave x d ≡ gave y e → d ≡ e
gave-then x y d e h = ap (λ z. z.1) (given-one h)

pub some-one : {A : Type 0} {v w : A} → Some v ≡ Some w → v ≡ w
some-one h = cc

pub no-none : {A : Type 0} {v : A} {X : Type 0} → None ≡ Some v → X
no-none h = no-case cc

-- ---- what is left of a file, by a step of its reader
module _ {A : Type 0} (form : Form A) (file most : ℕ) (test : Before A → A → ℕ) (s : List ℕ) where
  -- the values that are left to a reader
  abbrev pub left_to : Lines A → Said (List A)
  left_to c = left form file most test s c.passed (before_of c.last) c.at.at

  module _ (c : Lines A) where
    abbrev read : LineSaid A → Said (Option A × Lines A)
    read x = step_by file most test c x

    abbrev past : A → ℕ → Lines A
    past v next = lines_at next (c.passed + 1) (Some v)

    pub left-lines : (d : Lines A) → gave None d ≡ read (line_by form s c.at.at) → (d.passed ≡ c.passed) × (left_to c ≡ gives [])
    left-lines d e = go (line_by form s c.at.at) refl e
      where
        go : (x : LineSaid A) → line_by form s c.at.at ≡ x → gave None d ≡ read x → (d.passed ≡ c.passed) × (left_to c ≡ gives [])
        go (none p) q h = (
          ap (λ (y : Lines A). y.passed) (gave-then None None d (lines_at p c.passed c.last) h),
          left-none form file most test s c.passed (before_of c.last) c.at.at p q,
        )
        go (fault m x p) q h = no-case cc
        go (line v next) q h = by (fault_of file most test c.passed (before_of c.last) v) h
          where
            by : (f : ℕ) → gave None d ≡ unless f file (c.passed + 1) (gave (Some v) (past v next))
                → (d.passed ≡ c.passed) × (left_to c ≡ gives [])
            by zero h = no-none (gave-what None (Some v) d (past v next) h)
            by (suc f) h = no-case cc

    pub left-refused : (r : Refusal) → c.passed ≤ c.at.at → refuses r ≡ read (line_by form s c.at.at) → left_to c ≡ refuses r
    left-refused r low e = go (line_by form s c.at.at) refl e
      where
        go : (x : LineSaid A) → line_by form s c.at.at ≡ x → refuses r ≡ read x → left_to c ≡ refuses r
        go (none p) q h = no-case cc
        go (fault m x p) q h = left-bad form file most test s c.passed (before_of c.last) c.at.at m x p q ∙ cc
        go (line v next) q h =
            left-good form file most test s c.passed (before_of c.last) c.at.at v next q low
            ∙ by (fault_of file most test c.passed (before_of c.last) v) h
          where
            by : (f : ℕ) → refuses r ≡ unless f file (c.passed + 1) (gave (Some v) (past v next))
                → unless f file (c.passed + 1) (mapped (λ vs. v ∷ vs) (left form file most test s (c.passed + 1) (after v) next))
                ≡ refuses r
            by zero h = no-case cc
            by (suc f) h = cc

    pub record Moved (v : A) (d : Lines A) : Type 0 where
      pub counted : d.passed ≡ c.passed + 1
      pub onward : c.at.at < d.at.at
      pub within : d.at.at ≤ length s
      pub same : left_to c ≡ mapped (λ vs. v ∷ vs) (left_to d)

    pub left-more : c.passed ≤ c.at.at → (v : A) (d : Lines A) → gave (Some v) d ≡ read (line_by form s c.at.at) → Moved v d
    left-more low v d e = go (line_by form s c.at.at) refl e
      where
        go : (x : LineSaid A) → line_by form s c.at.at ≡ x → gave (Some v) d ≡ read x → Moved v d
        go (none p) q h = no-none (sym (gave-what (Some v) None d (lines_at p c.passed c.last) h))
        go (fault n x p) q h = no-case cc
        go (line w next) q h = by (fault_of file most test c.passed (before_of c.last) w) refl h
          where
            by : (f : ℕ) → fault_of file most test c.passed (before_of c.last) w ≡ f
                → gave (Some v) d ≡ unless f file (c.passed + 1) (gave (Some w) (past w next)) → Moved v d
            by (suc f) g h = no-case cc
            by zero g h =
                let a : v ≡ w = some-one (gave-what (Some v) (Some w) d (past w next) h) in
                let b : d ≡ past w next = gave-then (Some v) (Some w) d (past w next) h in
                let t = line-moves form s c.at.at (line w next) (sym q) w next refl in
                rw (a, b) (record {
                  counted = refl;
                  onward = t.forward;
                  within = t.inside;
                  same = left-good form file most test s c.passed (before_of c.last) c.at.at w next q low ∙ rw g refl;
                })

-- ---- the vertex file
into_more : (ids : List ℤ) (k m : ℕ) (v : ℤ) → m ≡ k + 1 → (x : Said (List ℤ))
    → mapped (ids_into (set ids k v) m) x ≡ mapped (ids_into ids k) (mapped (λ vs. v ∷ vs) x)
into_more ids k m v e (refuses r) = refl
into_more ids k m v e (gives vs) =
    let n : k + 1 + length vs ≡ k + suc (length vs) = omega arith in
    let a : sets (set ids k v) (k + 1) vs ≡ sets (set ids k v) (suc k) vs = rw add-one in
    cc

module _ (s : List ℕ) (most : ℕ) (ids₀ : List ℤ) where
  abbrev vertices_to : Lines ℤ → Said (List ℤ)
  vertices_to c = left_to ident_form vertex_file most vertex_test s c

  abbrev listed : Said (ℕ × List ℤ)
  listed = mapped (ids_into ids₀ 0) (identifiers most s)

  -- what the loop keeps: with the lines that are left, its count and its area come out as the file says
  pub record Listing (c : Lines ℤ) (ids : List ℤ) : Type 0 where
    pub low : c.passed ≤ c.at.at
    pub within : c.at.at ≤ length s
    pub long : length ids ≡ length ids₀
    pub same : mapped (ids_into ids c.passed) (vertices_to c) ≡ listed

  pub listing_start : Listing (lines_at 0 0 None) ids₀
  listing_start =
      record {
        low = omega arith;
        within = omega arith;
        long = refl;
        same = ap (mapped (ids_into ids₀ 0)) (left-start ident_form vertex_file most vertex_test s);
      }

  module _ (c : Lines ℤ) (ids : List ℤ) (r : Listing c ids) (d : Lines ℤ) where
    module _ (z : ℤ) (told : gave (Some z) d ≡ vertex_step s most c) where
      pub listing-moved : Moved ident_form vertex_file most vertex_test s c z d
      unfolding vertex_step
      listing-moved = left-more ident_form vertex_file most vertex_test s c r.low z d told

      pub listing-more : (y : ℤ) → y ≡ z → (a : List ℤ) → a ≡ set ids (d.passed - 1) y → Listing d a
      listing-more y q a g =
          let m = listing-moved in
          let k : d.passed - 1 ≡ c.passed = omega (arith, m.counted) in
          let g' : a ≡ set ids c.passed z = g ∙ rw (q, k) refl in
          record {
            low = omega (arith, m.counted, m.onward, r.low);
            within = m.within;
            long = ap length g' ∙ length-set ids c.passed z ∙ r.long;
            same =
                rw g' (into_more ids c.passed d.passed z m.counted (vertices_to d)
                ∙ ap (mapped (ids_into ids c.passed)) (sym m.same) ∙ r.same);
          }

      pub listing-less : length s - d.at.at < length s - c.at.at
      listing-less = let m = listing-moved in omega (arith, m.onward, m.within)

    pub listing-refused : (o : Refusal) → refuses o ≡ vertex_step s most c → refuses o ≡ listed
    unfolding vertex_step
    listing-refused o e =
        ap (mapped (ids_into ids c.passed)) (sym (left-refused ident_form vertex_file most vertex_test s c o r.low e)) ∙ r.same

    pub listing-lines : gave None d ≡ vertex_step s most c → gives (d.passed, ids) ≡ listed
    unfolding vertex_step
    listing-lines e =
        let l = left-lines ident_form vertex_file most vertex_test s c d e in
        (let a = l.0 in let b = add-zero c.passed in cc) ∙ ap (mapped (ids_into ids c.passed)) (sym l.1) ∙ r.same
