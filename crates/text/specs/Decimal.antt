-- The rules "Claims and verdicts": "a plain or scientific decimal: `0` or digits without a leading zero, optionally `.` and at least one
-- digit, optionally `e`, a sign and two digits. It has no minus before it".
use Rattle.std.specs.Prelude.{ℕ, ◌+◌, ◌-◌, ◌*◌, List, Bool, cond, ◌&&◌, ◌||◌, length, get_or, drop, ltb, leb, eqb}
use Rattle.text.specs.Bytes.{zero_digit, plus_sign, minus_sign, point_mark, power_mark}
use Rattle.text.specs.Word.{Word, malformed, value, is_digit, run_len, run_val}
use Rattle.text.specs.declared.decimal.Decimal.{Decimal}

-- Change K1: "Admit up to 17 digits before any `e`, so that usual double-precision output passes."
abbrev pub digit_limit : ℕ
digit_limit = 17

-- a decimal is digits * 10^up / 10^down
abbrev pub decimal : ℕ → ℕ → ℕ → Decimal
decimal digits up down = record { digits = digits; up = up; down = down }

-- what a digit is worth; 0 of any other byte
unfoldable pub digit_of : ℕ → ℕ
digit_of b = cond (is_digit b) (b - zero_digit) 0

-- the power of ten that is written after the digits
pub data Exponent : Type 0 where
  up down : ℕ → Exponent
  wrong : Exponent

-- where the digits after the point start; the place itself where there is no point
unfoldable pub past_point : List ℕ → ℕ → ℕ
past_point s at = cond (eqb (get_or s at 0) point_mark) (at + 1) at

-- "`0` or digits without a leading zero": of the w digits before the point, which are one at least
unfoldable pub whole_is_good : List ℕ → ℕ → Bool
whole_is_good s w = eqb w 1 || (ltb 1 w && ltb zero_digit (get_or s 0 0))

-- a power by its sign
unfoldable pub signed_power : ℕ → ℕ → Exponent
signed_power g k = cond (eqb g plus_sign) (up k) (cond (eqb g minus_sign) (down k) wrong)

-- "optionally `e`, a sign and two digits": nothing or just that, up to the end
unfoldable pub power_at : List ℕ → ℕ → Exponent
power_at s at =
    cond (eqb (length s) at) (up 0)
    (cond (eqb (length s) (at + 4) &&
    (eqb (get_or s at 0) power_mark && (is_digit (get_or s (at + 2) 0) && is_digit (get_or s (at + 3) 0))))
    (signed_power (get_or s (at + 1) 0) (digit_of (get_or s (at + 2) 0) * 10 + digit_of (get_or s (at + 3) 0)))
    wrong)

-- a number with f digits after the point, and its power
abbrev pub scaled : ℕ → ℕ → Exponent → Word Decimal
scaled n f (up k) = value (decimal n k f)
scaled n f (down k) = value (decimal n 0 (f + k))
scaled n f wrong = malformed

-- w digits before the point; f digits after it, from p on, one at least if there is a point; all of them make the number n
unfoldable pub parts_of : List ℕ → ℕ → ℕ → ℕ → ℕ → Word Decimal
parts_of s w p f n = cond (whole_is_good s w && (leb p (w + f) && leb (w + f) digit_limit)) (scaled n f (power_at s (p + f))) malformed

-- the decimal of a whole word: the digits at its front, a point or none, the digits at the front of what follows
unfoldable pub fraction_of : List ℕ → ℕ → ℕ → Word Decimal
fraction_of s w p = parts_of s w p (run_len (drop p s)) (run_val (run_val 0 s) (drop p s))

-- "For LCC it is a plain or scientific decimal": what the bytes of a whole word say as one
unfoldable pub decimal_of : List ℕ → Word Decimal
decimal_of s = fraction_of s (run_len s) (past_point s (run_len s))
