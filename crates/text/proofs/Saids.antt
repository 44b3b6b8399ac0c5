-- An answer is determined by what it says: each `says` is injective. Assumes nothing.
use Prim.Native.Nat.{ℕ}
use mathlib.Core.Path.{◌≡◌, refl, sym, ap, ◌∙◌}
use Rattle.std.specs.Prelude.{Option, None, Some, Result, Ok, Err}
use lib.IntN.{ℤ}
use Rattle.basis.proofs.Saids.{one_of}
use Rattle.text.specs.Word.{Word, malformed, outside, value}
use Rattle.text.specs.Line.{LineSaid, line, none, fault, reader_says}
use Rattle.text.specs.Weighed.{weighed_says}
use Rattle.text.specs.Scan.{count_says, scan_says}
use Rattle.text.specs.declared.count.Scan.{Scan}
use Rattle.text.specs.declared.line.Cursor.{Cursor}
use Rattle.text.specs.declared.line.Fault.{Fault}

-- ---- scans
abbrev counted : Word ℕ → ℕ → Result (Scan ℕ) ℕ
counted malformed p = Err p
counted outside p = Err p
counted (value n) p = Ok (record { value = n; next = p })

count-back : (x : Result (Scan ℕ) ℕ) → counted (count_says x).said (count_says x).next ≡ x
count-back (Err p) = refl
count-back (Ok x) = refl

pub count-one : (x y : Result (Scan ℕ) ℕ) → count_says x ≡ count_says y → x ≡ y
count-one = one_of count_says (λ w. counted w.said w.next) count-back

module _ {A : Type 0} where
  abbrev scan : Word A → ℕ → Result (Scan (Option A)) ℕ
  scan malformed p = Err p
  scan outside p = Ok (record { value = None; next = p })
  scan (value v) p = Ok (record { value = Some v; next = p })

  scan-by : (p : ℕ) (o : Option A) → scan (scan_says (Ok (record { value = o; next = p }))).said p ≡ Ok (record { value = o; next = p })
  scan-by p None = refl
  scan-by p (Some v) = refl

  scan-back : (x : Result (Scan (Option A)) ℕ) → scan (scan_says x).said (scan_says x).next ≡ x
  scan-back (Err p) = refl
  scan-back (Ok x) = scan-by x.next x.value

  pub scan-one : (x y : Result (Scan (Option A)) ℕ) → scan_says x ≡ scan_says y → x ≡ y
  scan-one = one_of scan_says (λ w. scan w.said w.next) scan-back

  -- ---- lines, each with the place at which the cursor is left
  abbrev reader : LineSaid A → Cursor × Option (Result A Fault)
  reader (none p) = (record { at = p }, None)
  reader (fault n c p) = (record { at = p }, Some (Err (record { number = n; column = c })))
  reader (line v p) = (record { at = p }, Some (Ok v))

  reader-back : (k : Cursor) (x : Option (Result A Fault)) → reader (reader_says k x) ≡ (k, x)
  reader-back k None = refl
  reader-back k (Some (Err f)) = refl
  reader-back k (Some (Ok v)) = refl

  pub reader-one : (k l : Cursor) (x y : Option (Result A Fault)) → reader_says k x ≡ reader_says l y → (x ≡ y) × (k ≡ l)
  reader-one k l x y e =
      let q : (k, x) ≡ (l, y) = sym (reader-back k x) ∙ ap reader e ∙ reader-back l y in
      (ap (λ z. z.1) q, ap (λ z. z.0) q)

-- the same of an edge line with its weight
abbrev weighed : LineSaid (ℤ × (ℤ × ℕ)) → Cursor × Option (Result (ℤ × ℤ × ℕ) Fault)
weighed (none p) = (record { at = p }, None)
weighed (fault n c p) = (record { at = p }, Some (Err (record { number = n; column = c })))
weighed (line v p) = (record { at = p }, Some (Ok (v.0, v.1.0, v.1.1)))

weighed-back : (k : Cursor) (x : Option (Result (ℤ × ℤ × ℕ) Fault)) → weighed (weighed_says k x) ≡ (k, x)
weighed-back k None = refl
weighed-back k (Some (Err f)) = refl
weighed-back k (Some (Ok v)) = refl

pub weighed-one : (k l : Cursor) (x y : Option (Result (ℤ × ℤ × ℕ) Fault)) → weighed_says k x ≡ weighed_says l y → (x ≡ y) × (k ≡ l)
weighed-one k l x y e =
    let q : (k, x) ≡ (l, y) = sym (weighed-back k x) ∙ ap weighed e ∙ weighed-back l y in
    (ap (λ z. z.1) q, ap (λ z. z.0) q)
