-- Laws of a coded number: what stands in it can be read back, and which answers have one. Assumes nothing.
use mathlib.Core.Path.{◌≡◌, refl, sym, ap, ◌∙◌}
use mathlib.Core.Bool.{Bool, true, false, cond}
use Prim.Native.Nat.{ℕ, ◌≤◌, ◌<◌}
use native.Mathlib.Omega.{arith}
use Rattle.basis.specs.declared.refusal.Refusal.{Refusal}
use Rattle.basis.specs.Refusal.{Said, gives, refuses, at_column, plain, onward, mapped}
use Rattle.basis.proofs.Saids.{refused-given}
use Rattle.trace.specs.Code.{placed, coded, number_in, file_in, line_in, wide, Small, Readable}

-- ---- reading back

-- a refusal's number, file and line stand in its code
module _ (r : Refusal) (s : Small wide r) where
  pub number-back : number_in (placed r) ≡ r.number
  number-back = omega arith

  pub file-back : file_in (placed r) ≡ r.file
  file-back = omega arith

  pub line-back : line_in (placed r) ≡ r.line
  line-back = omega arith

-- so two refusals that have one code differ in their columns alone: change K2, "The host call keeps its number without the column"
pub placed_one : (r s : Refusal) → Small wide r → Small wide s → placed r ≡ placed s → r.column ≡ s.column → r ≡ s
placed_one r s p q e c =
    let n : r.number ≡ s.number = sym (number-back r p) ∙ ap number_in e ∙ number-back s q in
    let f : r.file ≡ s.file = sym (file-back r p) ∙ ap file_in e ∙ file-back s q in
    let l : r.line ≡ s.line = sym (line-back r p) ∙ ap line_in e ∙ line-back s q in
    let one : at_column r.number r.file r.line r.column ≡ at_column s.number s.file s.line s.column = cc in one

-- values stand in a code with number 0 and file 0, which no refusal has
module _ {A : Type 0} (value : A → ℕ) (x : A) (h : value x < wide) where
  pub values-number : number_in (coded (gives x) value) ≡ 0
  values-number = omega arith

  pub values-file : file_in (coded (gives x) value) ≡ 0
  values-file = omega arith

  pub values-back : line_in (coded (gives x) value) ≡ value x
  values-back = omega arith

-- ---- which answers have a code

pub readable-given : {A : Type 0} {room : ℕ} {value : A → ℕ} (x : A) → value x < room → Readable room (gives x) value
readable-given {room = room} {value = value} x h =
    record { values = λ y e. let q : x ≡ y = cc in rw q at h; refusals = λ r e. refused-given (sym e) }

pub readable-refused : {A : Type 0} {room : ℕ} {value : A → ℕ} (r : Refusal) → 0 < r.number → Small room r
    → Readable room (refuses r) value
readable-refused {room = room} r p h =
    let both : (0 < r.number) × Small room r = (p, h) in
    record { values = λ y e. refused-given e; refusals = λ t e. let q : r ≡ t = cc in rw q at both }

pub readable-by : {A : Type 0} {room : ℕ} {value : A → ℕ} {s t : Said A} → s ≡ t → Readable room t value → Readable room s value
readable-by e h = rw e h

-- of values that are said in other words
module _ {A B : Type 0} (f : A → B) (value : B → ℕ) where
  pub readable-mapped : {room : ℕ} (s : Said A) → Readable room (mapped f s) value → Readable room s (λ x. value (f x))
  readable-mapped s h =
      record { values = λ x e. h.values (f x) (ap (mapped f) e); refusals = λ r e. h.refusals r (ap (mapped f) e) }

  pub coded-mapped : (s : Said A) → coded s (λ x. value (f x)) ≡ coded (mapped f s) value
  coded-mapped (gives x) = refl
  coded-mapped (refuses r) = refl

-- a refusal that meets no line
pub readable-plain : {A : Type 0} {room : ℕ} {value : A → ℕ} (number : ℕ) → 0 < room → 0 < number → number ≤ 21
    → Readable room (refuses (plain number)) value
readable-plain number k p q = readable-refused (plain number) p (record { number = q; file = omega arith; line = k })

-- after a check: the refusal, or what is said where the test holds
pub readable-check : {A : Type 0} {room : ℕ} {value : A → ℕ} (t : Bool) (number : ℕ) {s : Said A} → 0 < room → 0 < number → number ≤ 21
    → (t ≡ true → Readable room s value)
    → Readable room (cond t s (refuses (plain number))) value
readable-check true number k p q h = h refl
readable-check false number k p q h = readable-plain number k p q

-- values that are not told
abbrev pub untold : {A : Type 0} → A → ℕ
untold x = 0

pub readable-silent : {A : Type 0} {room : ℕ} (x : A) → 0 < room → Readable room (gives x) untold
readable-silent x k = readable-given x k

-- what is refused does not hang on the values
module _ {A : Type 0} {room : ℕ} {value : A → ℕ} {s : Said A} (h : Readable room s value) where
  pub readable-untold : 0 < room → Readable room s untold
  readable-untold k = record { values = λ x e. k; refusals = λ r e. h.refusals r e }

  pub readable-values : (other : A → ℕ) → ((x : A) → s ≡ gives x → other x < room) → Readable room s other
  readable-values other k = record { values = k; refusals = λ r e. h.refusals r e }

-- what follows is refused where the first is
pub onward-readable : {A B : Type 0} {room : ℕ} {value : B → ℕ} (s : Said A) {f : A → Said B} → Readable room s untold
    → ((x : A) → s ≡ gives x → Readable room (f x) value)
    → Readable room (onward s f) value
onward-readable (gives x) h k = k x refl
onward-readable (refuses r) h k = let t = h.refusals r refl in readable-refused r t.0 t.1

pub mapped-readable : {A B : Type 0} {room : ℕ} (f : A → B) (s : Said A) → 0 < room → Readable room s untold
    → Readable room (mapped f s) untold
mapped-readable f s k h = onward-readable s h (λ x e. readable-silent _ k)

-- ---- an answer by its cases
module _ {A : Type 0} (value : A → ℕ) (s : Said A) where
  pub coded-refused : (r : Refusal) (k : ℕ) → s ≡ refuses r → k ≡ placed r → k ≡ coded s value
  coded-refused r k e f = f ∙ sym (ap (λ t. coded t value) e)

  pub coded-given : (x : A) → s ≡ gives x → value x ≡ coded s value
  coded-given x e = sym (ap (λ t. coded t value) e)

  pub coded_by : (t : Said A) (k : ℕ) → s ≡ t → k ≡ coded s value → k ≡ coded t value
  coded_by t k e f = f ∙ ap (λ x. coded x value) e
