-- The rules "The group book": "Two lent areas of one length, parents and sizes.": the book before change K9. No code keeps it; it is what
-- the book of one area answers like.
use Rattle.std.specs.Prelude.{List, Bool, cond, ◌&&◌, ℕ, length, get_or, set, replicate, leb, eqb}
use Rattle.basis.specs.Limits.{most_vertices}
use Rattle.basis.specs.Area.{own_numbers}
use Rattle.book.specs.Rules.{Next, stop, to, View, Machine}

-- the two areas as they stand
pub record Areas : Type 0 where
  pub parents : List ℕ
  pub sizes : List ℕ

-- the same, by its fields in order
abbrev pub areas : List ℕ → List ℕ → Areas
areas ps ss = record { parents = ps; sizes = ss }

-- "A head is its own parent"
unfoldable pub next_in : List ℕ → ℕ → Next
next_in ps v = cond (eqb (get_or ps v 0) v) stop (to (get_or ps v 0))

-- refusal 8 where "the two areas of a book differ in length or pass 65,536"
unfoldable pub fits : List ℕ → List ℕ → Bool
fits ps ss = leb (length ps) most_vertices && eqb (length ss) (length ps)

-- what the two areas show
unfoldable pub two : List ℕ → List ℕ → View
two ps ss = record { fit = fits ps ss; count = length ps; next = next_in ps; size = λ v. get_or ss v 0 }

-- "Opening sets each vertex its own parent, size 1"; a merge writes the parent of `under` and the size of `top`:
-- "the old head's size entry stays"
abbrev pub two_book : Machine
two_book = record {
  Area = Areas;
  view = λ a. two a.parents a.sizes;
  opened = λ a. areas (own_numbers (length a.parents)) (replicate (length a.parents) 1);
  merged = λ top under total a. areas (set a.parents under top) (set a.sizes top total);
}
