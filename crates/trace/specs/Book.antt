-- The rules "The group book": the seven calls, their answers as numbers.
use Rattle.std.specs.Prelude.{ℕ, ◌+◌, ◌*◌, Bool, List, ℤ}
use Rattle.basis.specs.Scan.{bit}
use Rattle.book.specs.Rules.{WalkEnd, Joining, merged, same, Outcome}
use Rattle.trace.specs.Code.{coded}

-- 1 where a join merged two groups, 0 where it found one
abbrev pub join_value : Joining → ℕ
join_value merged = 1
join_value same = 0

-- "head, with the number of moves from parent to parent that reach it": no walk has more than 16
abbrev pub head_value : WalkEnd → ℕ
head_value f = f.head * 100 + f.moves

-- 1 where two vertices are in the same group, else 0
abbrev pub same_value : Bool → ℕ
same_value one = bit one

-- a size, a count or a step limit as its own number
abbrev pub reading_value : ℕ → ℕ
reading_value k = k

-- the answer, and what stands in the area
pub record BookTold : Type 0 where
  pub answer : ℕ
  pub entries : List ℤ

-- the same, by its fields in order
abbrev pub book_told : ℕ → List ℤ → BookTold
book_told answer entries = record { answer = answer; entries = entries }

-- what a call that may write leaves
unfoldable pub book_tells : {A : Type 0} → (A → ℕ) → Outcome A (List ℤ) → BookTold
book_tells value d = book_told (coded d.said value) d.area
