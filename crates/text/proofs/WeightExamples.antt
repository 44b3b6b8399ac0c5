-- Worked examples of edge lines with a weight and without, computed. Assumes nothing.
use mathlib.Core.Path.{◌≡◌, refl}
use mathlib.Core.Bool.{true, false}
use mathlib.Core.List.{[], ◌∷◌}
use native.Mathlib.Omega.{arith}
use lib.IntN.{pos, negsuc}
use Rattle.basis.specs.Scan.{each, mem}
use Rattle.text.specs.Bytes.{bytes}
use Rattle.text.specs.Word.{within}
use Rattle.text.specs.Grammar.{number, point}
use Rattle.text.specs.Weight.{millionths_of, weight_of, weight_stop, WeightForm}
use Rattle.text.specs.Line.{line, none, fault, line_by, two_of, two_stop}
use Rattle.text.specs.Weighed.{weighed_line, listed_line, has_weights}

-- lines with a weight
pub record WeighedLines : Type 0 where
  pub nought : weighed_line (bytes "1 2 0\n") 0 ≡ line (pos 1, (pos 2, 0)) 6
  pub half : weighed_line (bytes "1 2 0.5\n") 0 ≡ line (pos 1, (pos 2, 500000)) 8
  pub millionth : weighed_line (bytes "-3 2 0.000001\n") 0 ≡ line (negsuc 2, (pos 2, 1)) 14
  pub largest : weighed_line (bytes "1 2 100000\n") 0 ≡ line (pos 1, (pos 2, 100000000000)) 11
  pub above : weighed_line (bytes "1 2 100000.000001\n") 0 ≡ line (pos 1, (pos 2, 100000000001)) 18
  -- a weight far above 100000 is carried as the least that is
  pub far-above : weighed_line (bytes "1 2 99999999999999999999999\n") 0 ≡ line (pos 1, (pos 2, 100000000001)) 28
  pub second-line : weighed_line (bytes "1 2 0\n1 3 2.25\n") 6 ≡ line (pos 1, (pos 3, 2250000)) 15
  pub range : weighed_line (bytes "9223372036854775808 2 0.5\n") 0 ≡ fault 3 0 0
  pub second_range : weighed_line (bytes "2 9223372036854775808 100001\n") 0 ≡ fault 3 0 0
  pub form-behind-range : weighed_line (bytes "9223372036854775808 2 .5\n") 0 ≡ fault 2 23 0
  pub leading-zero : weighed_line (bytes "1 2 007\n") 0 ≡ fault 2 6 0
  pub no_fraction : weighed_line (bytes "1 2 1.\n") 0 ≡ fault 2 7 0
  pub seventh-digit : weighed_line (bytes "1 2 1.1234567\n") 0 ≡ fault 2 13 0
  pub no_whole : weighed_line (bytes "1 2 .5\n") 0 ≡ fault 2 5 0
  pub sign : weighed_line (bytes "1 2 -1\n") 0 ≡ fault 2 5 0
  pub power : weighed_line (bytes "1 2 1e+02\n") 0 ≡ fault 2 6 0
  pub second-point : weighed_line (bytes "1 2 1.5.5\n") 0 ≡ fault 2 8 0
  pub behind-six-digits : weighed_line (bytes "1 2 1.123456 \n") 0 ≡ fault 2 13 0
  pub unended : weighed_line (bytes "1 2 1.5") 0 ≡ fault 2 8 0
  pub line-ends-early : weighed_line (bytes "1 2 \n3 4 5\n") 0 ≡ fault 2 5 0

pub weighed-lines : WeighedLines
unfolding each mem within line_by two_of two_stop millionths_of weight_of weight_stop
weighed-lines =
    record {
      nought = refl;
      half = refl;
      millionth = refl;
      largest = refl;
      above = refl;
      far-above = refl;
      second-line = refl;
      range = refl;
      second_range = refl;
      form-behind-range = refl;
      leading-zero = refl;
      no_fraction = refl;
      seventh-digit = refl;
      no_whole = refl;
      sign = refl;
      power = refl;
      second-point = refl;
      behind-six-digits = refl;
      unended = refl;
      line-ends-early = refl;
    }

-- "a line that differs from the first in having a weight is 2": in a file with weights at the end of the second number, in one without at
-- the space before the weight
pub record WhichLines : Type 0 where
  pub weight-missing : listed_line true (bytes "1 2\n") 0 ≡ fault 2 4 0
  pub weight-too-many : listed_line false (bytes "1 2 3\n") 0 ≡ fault 2 4 0
  pub without : listed_line false (bytes "1 2\n") 0 ≡ line (pos 1, (pos 2, 0)) 4
  pub with-one : listed_line true (bytes "1 2 3\n") 0 ≡ line (pos 1, (pos 2, 3000000)) 6
  pub at-the-end : listed_line true (bytes "1 2 3\n") 6 ≡ none 6
  pub first-with : has_weights (bytes "1 2 3\n1 3\n") ≡ true
  pub first-without : has_weights (bytes "1 2\n1 3 3\n") ≡ false
  pub no_lines : has_weights [] ≡ false
  pub first_range : has_weights (bytes "1 9223372036854775808\n") ≡ false
  -- neither form: the column is that of the line read as one with a weight
  pub neither : has_weights (bytes "1 2 x\n") ≡ true
  pub neither-column : listed_line true (bytes "1 2 x\n") 0 ≡ fault 2 5 0
  pub unended-column : listed_line true (bytes "1 2") 0 ≡ fault 2 4 0

pub which-lines : WhichLines
unfolding each mem within line_by two_of two_stop millionths_of weight_of weight_stop has_weights
which-lines =
    record {
      weight-missing = refl;
      weight-too-many = refl;
      without = refl;
      with-one = refl;
      at-the-end = refl;
      first-with = refl;
      first-without = refl;
      no_lines = refl;
      first_range = refl;
      neither = refl;
      neither-column = refl;
      unended-column = refl;
    }

-- a word by the weight's grammar: 12.05 is 12050000 millionths; in the parts a digit is its byte, from 48 on
pub twelve : WeightForm (bytes "12.05") 12050000
unfolding each within
twelve =
    record {
      whole = number 49 (50 ∷ []);
      fraction = point 48 (53 ∷ []);
      bytes = refl;
      leading = refl;
      wholes = refl;
      fractions = refl;
      few = omega arith;
      says = refl;
    }
