-- The bytes of a number.
use Rattle.std.specs.Prelude.{ℕ, zero, suc, ◌+◌, ◌/◌, ◌%◌, true, false, List, [], ◌∷◌, ◌++◌, ltb, ℤ, pos, negsuc}
use Rattle.text.specs.Bytes.{zero_digit, minus_sign}

-- a number below 10 is one digit, another one the digits of n / 10 and then that of n % 10; cut off after so many divisions
unfoldable pub digits : ℕ → ℕ → List ℕ
digits zero n = (zero_digit + n) ∷ []
digits (suc more) n = elim (ltb n 10) [ true ↦ (zero_digit + n) ∷ [] | false ↦ digits more (n / 10) ++ ((zero_digit + n % 10) ∷ []) ]

-- "A count is `0`, or a digit 1 to 9 and more digits": n divisions are enough, since each makes a number from 10 on smaller
unfoldable pub count_text : ℕ → List ℕ
count_text n = digits n n

-- "An identifier is `0`, or an optional `-`, a digit 1 to 9 and more digits"
unfoldable pub signed_text : ℤ → List ℕ
signed_text (pos n) = count_text n
signed_text (negsuc n) = minus_sign ∷ count_text (suc n)
