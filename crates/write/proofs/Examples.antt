-- Worked examples of the definitions, computed. Assumes nothing.
use mathlib.Core.Path.{◌≡◌, refl}
use lib.IntN.{negsuc}
use Rattle.text.specs.Bytes.{bytes}
use Rattle.write.specs.Put.{written, put_at}
use Rattle.write.specs.Number.{digits, count_text, signed_text}
use Rattle.write.specs.Millionths.{places_text, behind_text, millionths_text}

-- small counts
pub nought : count_text 0 ≡ bytes "0"
unfolding digits count_text
nought = refl

pub seven : count_text 7 ≡ bytes "7"
unfolding digits count_text
seven = refl

pub ten : count_text 10 ≡ bytes "10"
unfolding digits count_text
ten = refl

-- the largest count
pub largest : count_text 18446744073709551615 ≡ bytes "18446744073709551615"
unfolding digits count_text
largest = refl

-- the identifier before 0, and the least one
pub minus_one : signed_text (negsuc 0) ≡ bytes "-1"
unfolding digits count_text signed_text
minus_one = refl

pub least : signed_text (negsuc 9223372036854775807) ≡ bytes "-9223372036854775808"
unfolding digits count_text signed_text
least = refl

-- millionths: whole numbers, zeros before a digit behind the point, none at the end
pub no-millionths : millionths_text 0 ≡ bytes "0"
unfolding digits count_text places_text behind_text millionths_text
no-millionths = refl

pub twelve : millionths_text 12000000 ≡ bytes "12"
unfolding digits count_text places_text behind_text millionths_text
twelve = refl

pub a_half : millionths_text 500000 ≡ bytes "0.5"
unfolding digits count_text places_text behind_text millionths_text
a_half = refl

pub one-millionth-more : millionths_text 3000001 ≡ bytes "3.000001"
unfolding digits count_text places_text behind_text millionths_text
one-millionth-more = refl

pub farthest : millionths_text 6553500000000000 ≡ bytes "6553500000"
unfolding digits count_text places_text behind_text millionths_text
farthest = refl

-- `-3` into an area of four bytes: at place 1 there is room, at place 3 there is room for the sign alone, at place 4 for none
pub fits : put_at (bytes "abcd") 1 (signed_text (negsuc 2)) ≡ written (bytes "a-3d") 3
unfolding put_at digits count_text signed_text
fits = refl

pub half-fits : put_at (bytes "abcd") 3 (signed_text (negsuc 2)) ≡ written (bytes "abc-") 4
unfolding put_at digits count_text signed_text
half-fits = refl

pub past : put_at (bytes "abcd") 4 (signed_text (negsuc 2)) ≡ written (bytes "abcd") 4
unfolding put_at digits count_text signed_text
past = refl
