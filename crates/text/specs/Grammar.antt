-- The rules "Claims and verdicts": a decimal as a grammar, its bytes by its parts, with no word on how they are scanned.
use Rattle.std.specs.Prelude.{ℕ, ◌+◌, ◌^◌, ◌≤◌, ◌<◌, ◌≡◌, Bool, true, List, [], ◌∷◌, ◌++◌, length}
use Rattle.basis.specs.Scan.{each}
use Rattle.text.specs.Bytes.{zero_digit, one_digit, nine_digit, minus_sign, plus_sign, point_mark, power_mark}
use Rattle.text.specs.Word.{within, is_digit, with_digit}
use Rattle.text.specs.Decimal.{digit_limit, decimal}
use Rattle.text.specs.declared.decimal.Decimal.{Decimal}

-- "`0` or digits without a leading zero": `0`, or a first digit and those after it
pub data WholePart : Type 0 where
  nought : WholePart
  number : ℕ → List ℕ → WholePart

-- "optionally `.` and at least one digit": nothing, or a first digit after the point and those after it
pub data FractionPart : Type 0 where
  no_point : FractionPart
  point : ℕ → List ℕ → FractionPart

-- "optionally `e`, a sign and two digits": nothing, or two digits after a `+` or a `-`
pub data PowerPart : Type 0 where
  no_power : PowerPart
  plus minus : ℕ → ℕ → PowerPart

-- "a plain or scientific decimal": its three parts
pub record Parts : Type 0 where
  pub whole : WholePart
  pub fraction : FractionPart
  pub power : PowerPart

-- the digits of the whole part, which are its bytes
abbrev pub whole_digits : WholePart → List ℕ
whole_digits nought = zero_digit ∷ []
whole_digits (number b bs) = b ∷ bs

-- the digits after the point
abbrev pub fraction_digits : FractionPart → List ℕ
fraction_digits no_point = []
fraction_digits (point b bs) = b ∷ bs

-- the same with the point
abbrev pub fraction_bytes : FractionPart → List ℕ
fraction_bytes no_point = []
fraction_bytes (point b bs) = point_mark ∷ b ∷ bs

-- the digits after the `e` and the sign
abbrev pub power_digits : PowerPart → List ℕ
power_digits no_power = []
power_digits (plus x y) = x ∷ y ∷ []
power_digits (minus x y) = x ∷ y ∷ []

-- the same with the `e` and the sign
abbrev pub power_bytes : PowerPart → List ℕ
power_bytes no_power = []
power_bytes (plus x y) = power_mark ∷ plus_sign ∷ x ∷ y ∷ []
power_bytes (minus x y) = power_mark ∷ minus_sign ∷ x ∷ y ∷ []

-- the bytes of a decimal: its parts one after another; "It has no minus before it"
abbrev pub part_bytes : Parts → List ℕ
part_bytes p = whole_digits p.whole ++ (fraction_bytes p.fraction ++ power_bytes p.power)

-- the digits "before any `e`"
abbrev pub digits_of : Parts → List ℕ
digits_of p = whole_digits p.whole ++ fraction_digits p.fraction

-- "without a leading zero": a first digit that others may follow is 1 to 9
abbrev pub leads_well : WholePart → Bool
leads_well nought = true
leads_well (number b bs) = within one_digit nine_digit b

-- what the parts must be: digits where digits stand, no leading zero, change K1 "up to 17 digits before any `e`"
pub record GoodParts (p : Parts) : Type 0 where
  pub leading : leads_well p.whole ≡ true
  pub wholes : each is_digit (whole_digits p.whole) ≡ true
  pub fractions : each is_digit (fraction_digits p.fraction) ≡ true
  pub powers : each is_digit (power_digits p.power) ≡ true
  pub few : length (digits_of p) ≤ digit_limit

-- the number that digits make, written after those of n
abbrev pub number_of : ℕ → List ℕ → ℕ
number_of n [] = n
number_of n (b ∷ bs) = number_of (with_digit n b) bs

-- the power of ten by which a decimal is multiplied
abbrev pub up_by : PowerPart → ℕ
up_by no_power = 0
up_by (plus x y) = number_of 0 (x ∷ y ∷ [])
up_by (minus x y) = 0

-- the power of ten by which it is divided, besides one for each digit after the point
abbrev pub down_by : PowerPart → ℕ
down_by no_power = 0
down_by (plus x y) = 0
down_by (minus x y) = number_of 0 (x ∷ y ∷ [])

-- the decimal that the parts say: all digits before any `e` as one number, with its powers of ten
abbrev pub parts_say : Parts → Decimal
parts_say p = decimal (number_of 0 (digits_of p)) (up_by p.power) (length (fraction_digits p.fraction) + down_by p.power)

-- the bytes have the form of a decimal, which says d
pub record DecimalForm (s : List ℕ) (d : Decimal) : Type 0 where
  pub parts : Parts
  pub good : GoodParts parts
  pub bytes : s ≡ part_bytes parts
  pub says : d ≡ parts_say parts

-- how large a decimal's numbers can be: change K1 "up to 17 digits before any `e`", one of them at least before the point, and "two digits"
-- in its power
pub record SmallDecimal (d : Decimal) : Type 0 where
  pub mantissa : d.digits < 10 ^ digit_limit
  pub raised : d.up < 100
  pub lowered : d.down < digit_limit + 99
