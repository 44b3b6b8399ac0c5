-- What the code scans from a place on, without knowing where the word ends. Past the end of a file `get_or s at 0` is 0, which begins and
-- continues nothing.
use Rattle.std.specs.Prelude.{ℕ, ◌+◌, ◌-◌, ◌^◌, ◌≤◌, ◌<◌, min, List, Bool, true, false, cond, ◌&&◌, length, get_or, drop, ltb, eqb, ℤ}
use Rattle.std.specs.Prelude.{Option, None, Some, Result, Ok, Err}
use Rattle.text.specs.Bytes.{lf, space, zero_digit, one_digit, nine_digit, minus_sign}
use Rattle.text.specs.Word.{Word, malformed, outside, value, well_formed, within, run_len, run_val, ranged_of, signed_of}
use Rattle.text.specs.Decimal.{decimal_of}
use Rattle.text.specs.Stop.{decimal_stop}
use Rattle.text.specs.Line.{LineSaid, Form, up_to, line_says, both}
use Rattle.text.specs.Weight.{behind_whole, carried, behind_stop}
use Rattle.text.specs.declared.count.Scan.{Scan}
use Rattle.text.specs.declared.decimal.Decimal.{Decimal}

-- what was scanned: where it is well formed, with the place of the first byte after it; else with that of the first byte at which it
-- can't go on
pub record Scanned (A : Type 0) : Type 0 where
  pub said : Word A
  pub next : ℕ

-- the same, by its fields in order
abbrev pub scanned : {A : Type 0} → Word A → ℕ → Scanned A
scanned said next = record { said = said; next = next }

-- the byte c stands at p
unfoldable pub has_at : List ℕ → ℕ → ℕ → Bool
has_at s p c = ltb p (length s) && eqb (get_or s p 0) c

-- what the code carries of a number: itself, or 2^63 + 1 where it is larger
abbrev pub cut_number : ℕ → ℕ
cut_number n = min n 9223372036854775809

-- the digits at a place, written after those of n
unfoldable pub run_at : List ℕ → ℕ → ℕ → Scan ℕ
run_at s at n = record { value = cut_number (run_val n (drop at s)); next = at + run_len (drop at s) }

-- "A count is `0`, or a digit 1 to 9 and more digits.": from a place on
unfoldable pub count_at : List ℕ → ℕ → Scanned ℕ
count_at s at =
    cond (has_at s at zero_digit) (scanned (value 0) (at + 1))
    (cond (within one_digit nine_digit (get_or s at 0)) (scanned (value (run_val 0 (drop at s))) (at + run_len (drop at s)))
    (scanned malformed at))

-- a word's count as the code carries it
abbrev pub cut_word : Word ℕ → Word ℕ
cut_word malformed = malformed
cut_word outside = outside
cut_word (value n) = value (cut_number n)

-- the same of a scanned count; its place stays
abbrev pub saturated : Scanned ℕ → Scanned ℕ
saturated x = scanned (cut_word x.said) x.next

-- what the code read that is never out of range, by the cases of its answer: with the place after it, or the place at which it breaks off
abbrev pub read_says : {A : Type 0} → Result (Scan A) ℕ → Scanned A
read_says (Err p) = scanned malformed p
read_says (Ok x) = scanned (value x.value) x.next

-- the code's count
abbrev pub count_says : Result (Scan ℕ) ℕ → Scanned ℕ
count_says x = read_says x

-- a value that the code read, or none where it is out of range
abbrev pub word_of : {A : Type 0} → Option A → Word A
word_of None = outside
word_of (Some v) = value v

-- what the code read and may be out of range, with the place after it
abbrev pub ranged_says : {A : Type 0} → Scan (Option A) → Scanned A
ranged_says x = scanned (word_of x.value) x.next

-- the same by the cases of its answer: of an identifier, a field, or the fields of a line
abbrev pub scan_says : {A : Type 0} → Result (Scan (Option A)) ℕ → Scanned A
scan_says (Err p) = scanned malformed p
scan_says (Ok x) = ranged_says x

-- the number n, or -n, scanned up to a place: a value, or out of range
abbrev pub ranged_at : Bool → ℕ → ℕ → Scanned ℤ
ranged_at negative n next = scanned (ranged_of negative n) next

-- a scanned count as a signed number, after a `-` or not
abbrev pub signed_at : Bool → Scanned ℕ → Scanned ℤ
signed_at negative x = scanned (signed_of negative x.said) x.next

-- "An identifier is `0`, or an optional `-`, a digit 1 to 9 and more digits.": from a place on; `-0` can't go on at its `0`
unfoldable pub ident_at : List ℕ → ℕ → Scanned ℤ
ident_at s at =
    cond (has_at s at minus_sign)
    (cond (has_at s (at + 1) zero_digit) (scanned malformed (at + 1)) (signed_at true (count_at s (at + 1))))
    (signed_at false (count_at s at))

-- what was scanned, if the byte c follows it: then the place is moved past c
abbrev pub closed : {A : Type 0} → List ℕ → ℕ → Scanned A → Scanned A
closed s c x =
    cond (well_formed x.said) (cond (has_at s x.next c) (scanned x.said (x.next + 1)) (scanned malformed x.next)) x

-- the identifier at a place, if the byte c follows it
unfoldable pub field_at : List ℕ → ℕ → ℕ → Scanned ℤ
field_at s at c = closed s c (ident_at s at)

-- the code's answer for a whole word of n bytes as a decimal, by its cases: a good one stops at the end of its word
abbrev pub decimal_says : ℕ → Result Decimal ℕ → Scanned Decimal
decimal_says n (Err p) = scanned malformed p
decimal_says n (Ok d) = scanned (value d) n

-- the bytes from a place to the end of its line
abbrev pub line_from : List ℕ → ℕ → List ℕ
line_from s at = up_to lf (drop at s)

-- what those bytes say as a decimal, and the place where it breaks off, or the end of the line
unfoldable pub decimal_at : List ℕ → ℕ → Scanned Decimal
decimal_at s at = scanned (decimal_of (line_from s at)) (at + decimal_stop (line_from s at))

-- the same, if LF follows: then with the place past LF
unfoldable pub rest_at : List ℕ → ℕ → Scanned Decimal
rest_at s at = closed s lf (decimal_at s at)

-- a word and what was scanned after it
abbrev pub beside : {A B : Type 0} → Word A → Scanned B → Scanned (A × B)
beside x y = scanned (both x y.said) y.next

-- the column of the byte at p in a line that began at `at`, counted from 1
abbrev pub column_at : ℕ → ℕ → ℕ
column_at at p = p - at + 1

-- a place p behind `at`, or there, at which the column can be counted
pub record Behind (at p : ℕ) : Type 0 where
  pub onward : at ≤ p
  pub counted : p < 2 ^ 64 - 1

-- the line that began at `at`, by what was scanned
abbrev pub line_of : {A : Type 0} → ℕ → Scanned A → LineSaid A
line_of at x = line_says at x.next (column_at at x.next) x.said

-- what stands behind n wholes from a place on as a weight, as it is carried, and where it breaks off
abbrev pub behind_at : List ℕ → ℕ → ℕ → Scanned ℕ
behind_at s n p = scanned (carried (behind_whole n (drop p s))) (p + behind_stop (drop p s))

-- what the bytes from a place to the end of their line say by a form, and where they break off, if LF follows: then with the place past LF
unfoldable pub last_at : {A : Type 0} → Form A → List ℕ → ℕ → Scanned A
last_at form s at = closed s lf (scanned (form.word (line_from s at)) (at + form.stop (line_from s at)))

-- the identifier at a place and the space behind it, and what is scanned by `second` behind both
unfoldable pub two_at : {A : Type 0} → (List ℕ → ℕ → Scanned A) → List ℕ → ℕ → Scanned (ℤ × A)
two_at second s at =
    cond (well_formed (field_at s at space).said) (beside (field_at s at space).said (second s (field_at s at space).next))
    (scanned malformed (field_at s at space).next)

-- the same with the word of that form up to the end of the line
abbrev pub pair_at : {A : Type 0} → Form A → List ℕ → ℕ → Scanned (ℤ × A)
pair_at form = two_at (last_at form)
