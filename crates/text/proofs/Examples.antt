-- Worked examples of the definitions, computed. Assumes nothing.
use Prim.Native.Nat.{ℕ, zero, suc}
use mathlib.Core.Path.{◌≡◌, refl}
use mathlib.Core.List.{List, [], ◌∷◌, ◌++◌}
use native.Mathlib.Omega.{arith}
use lib.IntN.{pos, negsuc}
use Rattle.basis.specs.Scan.{each, mem}
use Rattle.text.specs.Bytes.{bytes}
use Rattle.text.specs.Word.{within}
use Rattle.text.specs.Decimal.{decimal, digit_of, past_point, whole_is_good, signed_power, power_at, parts_of, fraction_of, decimal_of}
use Rattle.text.specs.Grammar.{nought, number, no_point, point, no_power, plus, minus, DecimalForm}
use Rattle.text.specs.Line.{line, none, fault, line_by, two_of, two_stop, vertex_line, edge_line, claim_line, coefficient_line}
use Rattle.text.specs.Distance.{same_bytes, shared_front, distance_of, distance_stop, distance_line}
use Rattle.text.specs.declared.distance.Distance.TheVariants as D
use Rattle.text.specs.Stop.{is_sign, digits_stop, power_stop, parts_stop, fraction_stop, decimal_stop}

-- vertex lines
pub record VertexLines : Type 0 where
  pub largest : vertex_line (bytes "9223372036854775807\n") 0 ≡ line (pos 9223372036854775807) 20
  pub too_small : vertex_line (bytes "-9223372036854775809\n") 0 ≡ fault 3 0 0
  pub plus : vertex_line (bytes "+1\n") 0 ≡ fault 2 1 0
  pub zeros : vertex_line (bytes "007\n") 0 ≡ fault 2 2 0
  pub just-zero : vertex_line (bytes "0\n") 0 ≡ line (pos 0) 2
  pub empty-file : vertex_line [] 0 ≡ none 0
  pub second-line : vertex_line (bytes "1\n-3\n") 2 ≡ line (negsuc 2) 5
  pub at-the-end : vertex_line (bytes "1\n") 2 ≡ none 2
  pub past_the_end : vertex_line (bytes "1\n") 9 ≡ none 9

pub vertex-lines : VertexLines
unfolding each mem within line_by
vertex-lines =
    record {
      largest = refl;
      too_small = refl;
      plus = refl;
      zeros = refl;
      just-zero = refl;
      empty-file = refl;
      second-line = refl;
      at-the-end = refl;
      past_the_end = refl;
    }

-- Change K2, where in the line: of vertex lines, edge lines, claim lines of their form, and lines of an LCC claim
pub record WhereInLine : Type 0 where
  pub empty-line : vertex_line (bytes "\n") 0 ≡ fault 2 1 0
  pub file-ends : vertex_line (bytes "12") 0 ≡ fault 2 3 0
  pub tab-behind : vertex_line (bytes "12\t\n") 0 ≡ fault 2 3 0
  pub second-number : vertex_line (bytes "1 2\n") 0 ≡ fault 2 2 0
  pub minus-zero : vertex_line (bytes "-0\n") 0 ≡ fault 2 2 0
  pub two-zeros : vertex_line (bytes "00\n") 0 ≡ fault 2 2 0
  pub minus-alone : vertex_line (bytes "-\n") 0 ≡ fault 2 2 0
  pub behind-a-long-number : vertex_line (bytes "99999999999999999999x\n") 0 ≡ fault 2 21 0
  pub in-a-later-line : vertex_line (bytes "1\n2\n30x\n") 4 ≡ fault 2 3 4
  pub one_number : edge_line (bytes "7\n") 0 ≡ fault 2 2 0
  pub two-spaces-between : edge_line (bytes "7  8\n") 0 ≡ fault 2 3 0
  pub line-ends-early : edge_line (bytes "7 \n8 9\n") 0 ≡ fault 2 3 0
  pub form-behind-range : edge_line (bytes "99999999999999999999 -0\n") 0 ≡ fault 2 23 0
  pub claim-tab : claim_line (bytes "-3 20\t\n") 0 ≡ fault 2 6 0
  pub point-behind-all-digits : coefficient_line (bytes "7 12345678901234567.5\n") 0 ≡ fault 2 20 0
  pub power-behind-all-digits : coefficient_line (bytes "7 12345678901234567e+1\n") 0 ≡ fault 2 23 0
  pub eighteenth-digit : coefficient_line (bytes "7 123456789012345678\n") 0 ≡ fault 2 20 0
  pub point-and-line-end : coefficient_line (bytes "7 1.\n") 0 ≡ fault 2 5 0
  pub second-point : coefficient_line (bytes "7 1.5.\n") 0 ≡ fault 2 6 0
  pub third-digit-of-power : coefficient_line (bytes "7 1e+123\n") 0 ≡ fault 2 8 0
  pub power-unended : coefficient_line (bytes "7 1e") 0 ≡ fault 2 5 0
  pub good-but-unended : coefficient_line (bytes "7 1.5") 0 ≡ fault 2 6 0

pub where-in-line : WhereInLine
unfolding each mem within line_by two_of two_stop digit_of past_point whole_is_good signed_power power_at parts_of fraction_of decimal_of
    is_sign
    digits_stop power_stop parts_stop fraction_stop decimal_stop
where-in-line = record {
  empty-line = refl;
  file-ends = refl;
  tab-behind = refl;
  second-number = refl;
  minus-zero = refl;
  two-zeros = refl;
  minus-alone = refl;
  behind-a-long-number = refl;
  in-a-later-line = refl;
  one_number = refl;
  two-spaces-between = refl;
  line-ends-early = refl;
  form-behind-range = refl;
  claim-tab = refl;
  point-behind-all-digits = refl;
  power-behind-all-digits = refl;
  eighteenth-digit = refl;
  point-and-line-end = refl;
  second-point = refl;
  third-digit-of-power = refl;
  power-unended = refl;
  good-but-unended = refl;
}

-- edge lines, and a claim line of their form
pub record EdgeLines : Type 0 where
  pub edge : edge_line (bytes "-3 20\n") 0 ≡ line (negsuc 2, pos 20) 6
  pub form-first : edge_line (bytes "9223372036854775808 07\n") 0 ≡ fault 2 22 0
  pub range : edge_line (bytes "9223372036854775808 7\n") 0 ≡ fault 3 0 0
  pub second_range : edge_line (bytes "7 9223372036854775808\n") 0 ≡ fault 3 0 0
  pub two-spaces : edge_line (bytes "1  2\n") 0 ≡ fault 2 3 0
  pub tab : edge_line (bytes "1\t2\n") 0 ≡ fault 2 2 0
  pub three : edge_line (bytes "1 2 3\n") 0 ≡ fault 2 4 0
  pub next-line : edge_line (bytes "1\n2 3\n") 0 ≡ fault 2 2 0
  pub edge-unended : edge_line (bytes "1 2") 0 ≡ fault 2 4 0
  pub unreachable : claim_line (bytes "-3 9223372036854775807\n") 0 ≡ line (negsuc 2, pos 9223372036854775807) 23

pub edge-lines : EdgeLines
unfolding each mem within line_by two_of two_stop
edge-lines =
    record {
      edge = refl;
      form-first = refl;
      range = refl;
      second_range = refl;
      two-spaces = refl;
      tab = refl;
      three = refl;
      next-line = refl;
      edge-unended = refl;
      unreachable = refl;
    }

-- lines of an LCC claim
pub record CoefficientLines : Type 0 where
  pub half : coefficient_line (bytes "2 0.5\n") 0 ≡ line (pos 2, decimal 5 0 1) 6
  pub whole : coefficient_line (bytes "2 1\n") 0 ≡ line (pos 2, decimal 1 0 0) 4
  pub scientific : coefficient_line (bytes "-3 3.25e-01\n") 0 ≡ line (negsuc 2, decimal 325 0 3) 12
  pub large : coefficient_line (bytes "7 1e+02\n") 0 ≡ line (pos 7, decimal 1 2 0) 8
  -- Graphalytics' own example "2.476533217845853e-08", and the largest number of 17 digits
  pub sixteen : coefficient_line (bytes "7 2.476533217845853e-08\n") 0 ≡ line (pos 7, decimal 2476533217845853 0 23) 24
  pub seventeen : coefficient_line (bytes "7 99999999999999999e+99\n") 0 ≡ line (pos 7, decimal 99999999999999999 99 0) 24
  pub seventeen-with-zero : coefficient_line (bytes "7 0.1234567890123456\n") 0 ≡ line (pos 7, decimal 1234567890123456 0 16) 21
  pub eighteen : coefficient_line (bytes "7 0.12345678901234567\n") 0 ≡ fault 2 21 0
  pub leading-zero : coefficient_line (bytes "7 00.5\n") 0 ≡ fault 2 4 0
  pub no_whole : coefficient_line (bytes "7 .5\n") 0 ≡ fault 2 3 0
  pub no_fraction : coefficient_line (bytes "7 1.\n") 0 ≡ fault 2 5 0
  pub minus : coefficient_line (bytes "7 -1\n") 0 ≡ fault 2 3 0
  pub capital : coefficient_line (bytes "7 1E+02\n") 0 ≡ fault 2 4 0
  pub no_sign : coefficient_line (bytes "7 1e02\n") 0 ≡ fault 2 5 0
  pub one-digit : coefficient_line (bytes "7 1e+2\n") 0 ≡ fault 2 7 0
  pub range-of-first : coefficient_line (bytes "9223372036854775808 0.5\n") 0 ≡ fault 3 0 0
  pub form-of-second : coefficient_line (bytes "9223372036854775808 x\n") 0 ≡ fault 2 21 0

pub coefficient-lines : CoefficientLines
unfolding each mem within line_by two_of two_stop digit_of past_point whole_is_good signed_power power_at parts_of fraction_of decimal_of
    is_sign
    digits_stop power_stop parts_stop fraction_stop decimal_stop
coefficient-lines =
    record {
      half = refl;
      whole = refl;
      scientific = refl;
      large = refl;
      sixteen = refl;
      seventeen = refl;
      seventeen-with-zero = refl;
      eighteen = refl;
      leading-zero = refl;
      no_whole = refl;
      no_fraction = refl;
      minus = refl;
      capital = refl;
      no_sign = refl;
      one-digit = refl;
      range-of-first = refl;
      form-of-second = refl;
    }

-- words by the decimal's grammar; in the parts a digit is its byte, from 48 on
pub record Forms : Type 0 where
  pub quarter : DecimalForm (bytes "0.25") (decimal 25 0 2)
  pub small : DecimalForm (bytes "2.5e-08") (decimal 25 0 9)
  pub thousand : DecimalForm (bytes "10e+02") (decimal 10 2 0)

pub forms : Forms
unfolding each within
forms =
    record {
      quarter =
          record {
            parts = record { whole = nought; fraction = point 50 (53 ∷ []); power = no_power };
            good = record { leading = refl; wholes = refl; fractions = refl; powers = refl; few = omega arith };
            bytes = refl;
            says = refl;
          };
      small = record {
        parts = record { whole = number 50 []; fraction = point 53 []; power = minus 48 56 };
        good = record { leading = refl; wholes = refl; fractions = refl; powers = refl; few = omega arith };
        bytes = refl;
        says = refl;
      };
      thousand =
          record {
            parts = record { whole = number 49 (48 ∷ []); fraction = no_point; power = plus 48 50 };
            good = record { leading = refl; wholes = refl; fractions = refl; powers = refl; few = omega arith };
            bytes = refl;
            says = refl;
          };
    }

-- a vertex line of n nines
abbrev pub nines : ℕ → List ℕ
nines zero = bytes "\n"
nines (suc n) = bytes "9" ++ nines n

-- a line of a thousand digits, behind another one
pub long : vertex_line (bytes "1\n" ++ nines 1000) 2 ≡ fault 3 0 2
unfolding each mem within line_by
long = refl

-- lines of a claim of distances
pub record DistanceLines : Type 0 where
  pub unreached : distance_line (bytes "1 infinity\n") 0 ≡ line (pos 1, D.Infinity) 11
  pub half : distance_line (bytes "1 0.5\n") 0 ≡ line (pos 1, D.Finite (decimal 5 0 1)) 6
  pub scientific : distance_line (bytes "-3 3.25e-01\n") 0 ≡ line (negsuc 2, D.Finite (decimal 325 0 3)) 12
  pub letter-missing : distance_line (bytes "1 infinit\n") 0 ≡ fault 2 10 0
  pub letter-behind : distance_line (bytes "1 infinityx\n") 0 ≡ fault 2 11 0
  pub digit-inside : distance_line (bytes "1 inf1\n") 0 ≡ fault 2 6 0
  pub letter-alone : distance_line (bytes "1 i\n2 infinity\n") 0 ≡ fault 2 4 0
  pub capital : distance_line (bytes "1 Infinity\n") 0 ≡ fault 2 3 0
  pub minus : distance_line (bytes "1 -infinity\n") 0 ≡ fault 2 3 0
  pub unended : distance_line (bytes "1 infinity") 0 ≡ fault 2 11 0
  pub no_value : distance_line (bytes "1 \n") 0 ≡ fault 2 3 0
  pub range-of-first : distance_line (bytes "9223372036854775808 infinity\n") 0 ≡ fault 3 0 0
  pub form-of-second : distance_line (bytes "9223372036854775808 infinite\n") 0 ≡ fault 2 28 0

pub distance-lines : DistanceLines
unfolding each mem within line_by two_of two_stop digit_of past_point whole_is_good signed_power power_at parts_of fraction_of decimal_of
    is_sign
    digits_stop power_stop parts_stop fraction_stop decimal_stop same_bytes shared_front distance_of distance_stop
distance-lines =
    record {
      unreached = refl;
      half = refl;
      scientific = refl;
      letter-missing = refl;
      letter-behind = refl;
      digit-inside = refl;
      letter-alone = refl;
      capital = refl;
      minus = refl;
      unended = refl;
      no_value = refl;
      range-of-first = refl;
      form-of-second = refl;
    }
