-- The rules "Lists": what a word, the bytes of a whole field, says.
use Rattle.std.specs.Prelude.{ℕ, ◌+◌, ◌-◌, ◌*◌, ◌^◌, List, [], ◌∷◌, Bool, true, false, cond, ◌&&◌, leb, eqb, ℤ, pos, neg_ℤ}
use Rattle.basis.specs.Scan.{each}
use Rattle.text.specs.Bytes.{zero_digit, one_digit, nine_digit, minus_sign}

-- a word has the wrong form (2), is a well-formed number that is out of range (3), or has a value
pub data Word (A : Type 0) : Type 0 where
  malformed outside : Word A
  value : A → Word A

-- a word has the right form, in range or not
abbrev pub well_formed : {A : Type 0} → Word A → Bool
well_formed malformed = false
well_formed outside = true
well_formed (value v) = true

-- b is lo to hi
unfoldable pub within : ℕ → ℕ → ℕ → Bool
within lo hi b = leb lo b && leb b hi

-- a byte is a digit, `0` to `9`
abbrev pub is_digit : ℕ → Bool
is_digit b = within zero_digit nine_digit b

-- a number with one digit more
abbrev pub with_digit : ℕ → ℕ → ℕ
with_digit n b = n * 10 + (b - zero_digit)

-- how many digits stand at the front
abbrev pub run_len : List ℕ → ℕ
run_len [] = 0
run_len (b ∷ bs) = elim (is_digit b) [ true ↦ 1 + run_len bs | false ↦ 0 ]

-- the number that the digits at the front make, written after those of n
abbrev pub run_val : ℕ → List ℕ → ℕ
run_val n [] = n
run_val n (b ∷ bs) = elim (is_digit b) [ true ↦ run_val (with_digit n b) bs | false ↦ n ]

-- what may follow a `0` at the front of a count: nothing, as `007` is malformed
abbrev pub zero_of : List ℕ → Word ℕ
zero_of [] = value 0
zero_of (b ∷ bs) = malformed

-- "A count is `0`, or a digit 1 to 9 and more digits.": what a whole word says as one
abbrev pub count_of : List ℕ → Word ℕ
count_of [] = malformed
count_of (b ∷ bs) =
    cond (eqb b zero_digit) (zero_of bs) (cond (within one_digit nine_digit b && each is_digit bs) (value (run_val 0 (b ∷ bs))) malformed)

-- the number -n
abbrev pub minus_of : ℕ → ℤ
minus_of n = neg_ℤ (pos n)

-- "a well-formed number is outside -2^63 to 2^63-1": the number n, or -n
abbrev pub ranged_of : Bool → ℕ → Word ℤ
ranged_of true n = cond (leb n (2 ^ 63)) (value (minus_of n)) outside
ranged_of false n = cond (leb n (2 ^ 63 - 1)) (value (pos n)) outside

-- the same of a word that says a count, after a `-` or not; a wrong form stays one
abbrev pub signed_of : Bool → Word ℕ → Word ℤ
signed_of negative malformed = malformed
signed_of negative outside = outside
signed_of negative (value n) = ranged_of negative n

-- after a `-`: "a digit 1 to 9 and more digits"; `-0` is malformed
abbrev pub after_minus : List ℕ → Word ℤ
after_minus [] = malformed
after_minus (b ∷ bs) = cond (eqb b zero_digit) malformed (signed_of true (count_of (b ∷ bs)))

-- "An identifier is `0`, or an optional `-`, a digit 1 to 9 and more digits."
abbrev pub ident_of : List ℕ → Word ℤ
ident_of [] = malformed
ident_of (b ∷ bs) = cond (eqb b minus_sign) (after_minus bs) (signed_of false (count_of (b ∷ bs)))
