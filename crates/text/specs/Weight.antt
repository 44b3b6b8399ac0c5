-- Change K3: "a weight: `0` or digits without a leading zero, optionally `.` and one to six digits, no sign, from 0 to 100000"; "Weights
-- are held as whole millionths".
use Rattle.std.specs.Prelude.{
  ℕ,
  suc,
  ◌+◌,
  ◌-◌,
  ◌*◌,
  ◌^◌,
  ◌≤◌,
  min,
  ◌≡◌,
  List,
  [],
  ◌∷◌,
  ◌++◌,
  true,
  cond,
  ◌&&◌,
  length,
  take,
  drop,
  leb,
  ltb,
  eqb,
}
use Rattle.basis.specs.Limits.{most_weight}
use Rattle.basis.specs.Scan.{each}
use Rattle.text.specs.Bytes.{point_mark}
use Rattle.text.specs.Word.{Word, malformed, outside, value, is_digit, run_len, run_val, count_of}
use Rattle.text.specs.Grammar.{WholePart, FractionPart, whole_digits, fraction_digits, fraction_bytes, leads_well, number_of}
use Rattle.text.specs.Stop.{count_stop}

-- "one to six digits": how many at most
abbrev pub most_places : ℕ
most_places = 6

-- "whole millionths": how many one whole has
abbrev pub million : ℕ
million = 1000000

-- n wholes, and the number f of so many digits after the point
abbrev pub with_fraction : ℕ → ℕ → ℕ → ℕ
with_fraction n f places = n * million + f * 10 ^ (most_places - places)

-- "optionally `.` and one to six digits": what stands behind n wholes, up to the end of the word
abbrev pub behind_whole : ℕ → List ℕ → Word ℕ
behind_whole n [] = value (n * million)
behind_whole n (b ∷ bs) =
    cond (eqb b point_mark && (each is_digit bs && (ltb 0 (length bs) && leb (length bs) most_places)))
    (value (with_fraction n (run_val 0 bs) (length bs)))
    malformed

-- the same behind a whole part, by what it says; a count is never out of range
abbrev pub whole_then : Word ℕ → List ℕ → Word ℕ
whole_then malformed rest = malformed
whole_then outside rest = malformed
whole_then (value n) rest = behind_whole n rest

-- "`0` or digits without a leading zero, optionally `.` and one to six digits": the millionths that the bytes of a whole word say, however
-- many; the whole part goes as far as a count does
unfoldable pub millionths_of : List ℕ → Word ℕ
millionths_of s = whole_then (count_of (take (count_stop s) s)) (drop (count_stop s) s)

-- what is carried of a weight: itself, or the least that is "above 100000" where it is larger
abbrev pub carried : Word ℕ → Word ℕ
carried malformed = malformed
carried outside = outside
carried (value n) = value (min n (most_weight + 1))

-- "a weight": what the bytes of a whole word say as one; one above 100000 has the right form, and is refused 13 by the test of its edge
unfoldable pub weight_of : List ℕ → Word ℕ
weight_of s = carried (millionths_of s)

-- where what stands behind a whole part breaks off: at once, or behind the point after at most six digits
abbrev pub behind_stop : List ℕ → ℕ
behind_stop [] = 0
behind_stop (b ∷ bs) = cond (eqb b point_mark) (suc (min (run_len bs) most_places)) 0

-- where a weight breaks off: where its whole part does if that has no digit, else behind it
unfoldable pub weight_stop : List ℕ → ℕ
weight_stop s = cond (eqb (count_stop s) 0) 0 (count_stop s + behind_stop (drop (count_stop s) s))

-- ---- a weight as a grammar, its bytes by its parts, with no word on how they are scanned
-- the bytes have the form of a weight, which says n millionths: its whole part "`0` or digits without a leading zero", then nothing, or a
-- point and "one to six digits"
pub record WeightForm (s : List ℕ) (n : ℕ) : Type 0 where
  pub whole : WholePart
  pub fraction : FractionPart
  pub bytes : s ≡ whole_digits whole ++ fraction_bytes fraction
  pub leading : leads_well whole ≡ true
  pub wholes : each is_digit (whole_digits whole) ≡ true
  pub fractions : each is_digit (fraction_digits fraction) ≡ true
  pub few : length (fraction_digits fraction) ≤ most_places
  pub says : n ≡ with_fraction (number_of 0 (whole_digits whole)) (number_of 0 (fraction_digits fraction))
      (length (fraction_digits fraction))

-- "a weight": the bytes have the form of one
abbrev pub IsWeight : List ℕ → Type 0
IsWeight w = (n : ℕ) × WeightForm w n
