-- A text as bytes, and the single bytes that the definitions speak of.
use Rattle.std.specs.Prelude.{ℕ, List, [], ◌∷◌}
use Prim.Native.Char.{code}
use Prim.Native.String.{String, [] as end, ◌∷◌ as ◌then◌}

-- the bytes of a text whose characters are below 128: how words and files are written out in definitions and examples
abbrev pub bytes : String → List ℕ
bytes end = []
bytes (c then s) = code c ∷ bytes s

-- "A line is ended by one LF": its byte
abbrev pub lf : ℕ
lf = 10

-- "with one space between": its byte
abbrev pub space : ℕ
space = 32

-- the byte of `0`, the first of the digits
abbrev pub zero_digit : ℕ
zero_digit = 48

-- the byte of `1`, the first of those that may lead a number
abbrev pub one_digit : ℕ
one_digit = 49

-- the byte of `9`, the last of the digits
abbrev pub nine_digit : ℕ
nine_digit = 57

-- the byte of `-`
abbrev pub minus_sign : ℕ
minus_sign = 45

-- the byte of `+`
abbrev pub plus_sign : ℕ
plus_sign = 43

-- the byte of `.`
abbrev pub point_mark : ℕ
point_mark = 46

-- the byte of `e`
abbrev pub power_mark : ℕ
power_mark = 101
