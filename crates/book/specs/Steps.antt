-- What the private functions' contracts cite: a walk's answer, and parts of a join.
use Rattle.std.specs.Prelude.{◌≡◌, List, ℕ, ◌+◌, ◌≤◌, ◌<◌, ℤ, length, leb, Result}
use Rattle.basis.specs.Limits.{most_vertices}
use Rattle.basis.specs.declared.refusal.Refusal.{Refusal}
use Rattle.basis.specs.Refusal.{Said, gives, said, mapped, unsound, check}
use Rattle.book.specs.Rules.{stop, WalkEnd, walk_end, most_moves, walk_from, Heads, heads, Joining, merge, Outcome}
use Rattle.book.specs.Rules.{link_heads, write_book}
use Rattle.book.specs.One.{next_here, one, one_book}
use Rattle.book.specs.Says.{says_headed}
use Rattle.book.specs.declared.Head.{Head}

-- a walk of so many moves, made one move longer by its head's going under `top`
abbrev pub one_more : ℕ → ℕ → Said WalkEnd
one_more moves top = check (leb (moves + 1) most_moves) unsound (gives (walk_end top (moves + 1)))

-- the heads of two vertices
abbrev pub says_pair : Result (ℕ × ℕ) Refusal → Said Heads
says_pair a = mapped (λ p. heads p.0 p.1) (said a)

-- a head of an area that is well lent
pub record AtHead (xs : List ℤ) (h : ℕ) : Type 0 where
  pub lent : length xs ≤ most_vertices
  pub inside : h < length xs
  pub head : next_here xs h ≡ stop

-- the end of a join whose heads are found
unfoldable pub link_one : List ℤ → ℕ → ℕ → Outcome Joining (List ℤ)
link_one xs g h = write_book one_book (link_heads (one xs) (heads g h)) xs

-- the head `under` goes under the head `top`, whose size becomes `total`
unfoldable pub hang_one : List ℤ → ℕ → ℕ → ℕ → Outcome Joining (List ℤ)
hang_one xs top under total = write_book one_book (gives (merge top under total)) xs

-- an area that is well lent, a vertex u of it, and its walk
pub record Walking (xs : List ℤ) (u : ℕ) (at : Result Head Refusal) : Type 0 where
  pub lent : length xs ≤ most_vertices
  pub inside : u < length xs
  pub walk : says_headed at ≡ walk_from (next_here xs) (length xs) u
