-- What a call answers its host, as one number.
use Rattle.std.specs.Prelude.{◌≡◌, ℕ, ◌+◌, ◌*◌, ◌/◌, ◌%◌, ◌≤◌, ◌<◌}
use Rattle.basis.specs.declared.refusal.Refusal.{Refusal}
use Rattle.basis.specs.Refusal.{Said, gives, refuses}

-- "A refusal returns its number, a file number .. and a line", at library limits: number × 10^15 + file × 10^14 + line
abbrev pub placed : Refusal → ℕ
placed r = r.number * 1000000000000000 + r.file * 100000000000000 + r.line

-- a call's values as a number, or its refusal
abbrev pub coded : {A : Type 0} → Said A → (A → ℕ) → ℕ
coded (gives x) value = value x
coded (refuses r) value = placed r

-- the number, as a host takes it out again: what stands above the last 15 digits; 0 where there are values
abbrev pub number_in : ℕ → ℕ
number_in code = code / 1000000000000000

-- the file number, the one digit above the line's 14
abbrev pub file_in : ℕ → ℕ
file_in code = code / 100000000000000 % 10

-- the line, or the values: the last 14 digits
abbrev pub line_in : ℕ → ℕ
line_in code = code % 100000000000000

-- where lines and values stand in a number: below 10^14
abbrev pub wide : ℕ
wide = 100000000000000

-- and below 10^5 in the host call's verdict, "number × 1,000,000 + file × 100,000 + line"
abbrev pub narrow : ℕ
narrow = 100000

-- "The answer is number × 1,000,000 + file × 100,000 + line."
abbrev pub host_code : Refusal → ℕ
host_code r = r.number * 1000000 + r.file * 100000 + r.line

-- the number in that answer, as a host takes it out again
abbrev pub host_number_in : ℕ → ℕ
host_number_in code = code / 1000000

-- the file number in it, the one digit above the line's five
abbrev pub host_file_in : ℕ → ℕ
host_file_in code = code / 100000 % 10

-- the line in it, the last five digits
abbrev pub host_line_in : ℕ → ℕ
host_line_in code = code % 100000

-- what can be taken out of a number again: the rules have numbers up to 21, files up to 4, and lines that have room below the file
pub record Small (room : ℕ) (r : Refusal) : Type 0 where
  pub number : r.number ≤ 21
  pub file : r.file ≤ 4
  pub line : r.line < room

-- what a call says can be taken out of its number again: values have that room too, and a refusal's number is not 0
pub record Readable {A : Type 0} (room : ℕ) (s : Said A) (value : A → ℕ) : Type 0 where
  pub values : (x : A) → s ≡ gives x → value x < room
  pub refusals : (r : Refusal) → s ≡ refuses r → (0 < r.number) × Small room r

-- a call that has no value beside its areas
abbrev pub nothing : Unit {0} → ℕ
nothing x = 0
