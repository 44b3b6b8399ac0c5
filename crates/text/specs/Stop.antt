-- Where a word breaks off: the place of the first byte at which no good word could go on, and the word's length where there is no such
-- byte. Past the end of a word `get_or s at 0` is 0, which continues nothing.
use Rattle.std.specs.Prelude.{ℕ, suc, ◌+◌, ◌-◌, ◌*◌, List, [], ◌∷◌, Bool, cond, ◌&&◌, ◌||◌, length, get_or, drop, ltb, eqb}
use Rattle.std.specs.Prelude.{Option, None, Some, Result, Ok, Err}
use Rattle.text.specs.Bytes.{zero_digit, one_digit, nine_digit, plus_sign, minus_sign, power_mark}
use Rattle.text.specs.Word.{within, is_digit, run_len}
use Rattle.text.specs.Decimal.{Exponent, up, down, wrong, digit_limit, decimal, digit_of, past_point, whole_is_good, signed_power}
use Rattle.text.specs.declared.decimal.Decimal.{Decimal}
use Rattle.text.specs.declared.decimal.Power.{Power}
use Rattle.text.specs.declared.decimal.Power.TheVariants as P

-- where a count breaks off: `0` goes on with nothing, a digit 1 to 9 with more digits
abbrev pub count_stop : List ℕ → ℕ
count_stop [] = 0
count_stop (b ∷ bs) = cond (eqb b zero_digit) 1 (cond (within one_digit nine_digit b) (suc (run_len bs)) 0)

-- the same after a `-`, which no `0` may follow
abbrev pub minus_stop : List ℕ → ℕ
minus_stop [] = 0
minus_stop (b ∷ bs) = cond (eqb b zero_digit) 0 (count_stop (b ∷ bs))

-- the same of an identifier
abbrev pub ident_stop : List ℕ → ℕ
ident_stop [] = 0
ident_stop (b ∷ bs) = cond (eqb b minus_sign) (suc (minus_stop bs)) (count_stop (b ∷ bs))

-- `+` or `-`
unfoldable pub is_sign : ℕ → Bool
is_sign b = eqb b plus_sign || eqb b minus_sign

-- the first of two digits that does not stand where it should, from a place on; or the place past them
unfoldable pub digits_stop : List ℕ → ℕ → ℕ
digits_stop s at = cond (is_digit (get_or s at 0)) (cond (is_digit (get_or s (at + 1) 0)) (at + 2) (at + 1)) at

-- the same of `e`, a sign and two digits
unfoldable pub power_stop : List ℕ → ℕ → ℕ
power_stop s at = cond (eqb (get_or s at 0) power_mark) (cond (is_sign (get_or s (at + 1) 0)) (digits_stop s (at + 2)) (at + 1)) at

-- w digits before the point; f after it, from p on. In turn: no digit; a digit after a leading zero; before the point, one digit too many,
-- or the point where only such a digit could follow it; no digit after the point; after the point, one digit too many; the power
unfoldable pub parts_stop : List ℕ → ℕ → ℕ → ℕ → ℕ
parts_stop s w p f =
    cond (eqb w 0) 0
    (cond (whole_is_good s w)
    (cond (ltb digit_limit p) digit_limit
    (cond (ltb (w + f) p) p
    (cond (ltb digit_limit (w + f)) (p + (digit_limit - w)) (power_stop s (p + f)))))
    1)

-- the same with all digits that stand from p on as those after the point
unfoldable pub fraction_stop : List ℕ → ℕ → ℕ → ℕ
fraction_stop s w p = parts_stop s w p (run_len (drop p s))

-- where the bytes up to the end of a line break off as a decimal
unfoldable pub decimal_stop : List ℕ → ℕ
decimal_stop s = fraction_stop s (run_len s) (past_point s (run_len s))

-- the power that two digits from a place up to the end give, after the sign g
unfoldable pub digits_power : List ℕ → ℕ → ℕ → Exponent
digits_power s at g =
    cond (eqb (length s) (at + 2) && (is_digit (get_or s at 0) && is_digit (get_or s (at + 1) 0)))
    (signed_power g (digit_of (get_or s at 0) * 10 + digit_of (get_or s (at + 1) 0)))
    wrong

-- what the digit at a place is worth, if one stands there
unfoldable pub digit_at : List ℕ → ℕ → Option ℕ
digit_at s at = cond (is_digit (get_or s at 0)) (Some (digit_of (get_or s at 0))) None

-- what two digits from a place up to the end are worth, or the place at which they break off
unfoldable pub two_digits : List ℕ → ℕ → Result ℕ ℕ
two_digits s at =
    cond (eqb (length s) (at + 2) && (is_digit (get_or s at 0) && is_digit (get_or s (at + 1) 0)))
    (Ok (digit_of (get_or s at 0) * 10 + digit_of (get_or s (at + 1) 0)))
    (Err (digits_stop s at))

-- the code's answer for a power: where it is wrong, the place at which it breaks off
abbrev pub power_word : Exponent → ℕ → Result Power ℕ
power_word (up k) stop = Ok (P.Up k)
power_word (down k) stop = Ok (P.Down k)
power_word wrong stop = Err stop

-- a number with f digits after the point, and the code's power
abbrev pub scaled_by : ℕ → ℕ → Power → Decimal
scaled_by n f (P.Up k) = decimal n k f
scaled_by n f (P.Down k) = decimal n 0 (f + k)
