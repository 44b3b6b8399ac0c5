-- Change K9: "Hold one area of signed numbers: a parent at an ordinary vertex, and at a head the negative of the group's size".
use Rattle.std.specs.Prelude.{List, ℕ, suc, ℤ, pos, negsuc, neg_ℤ, length, get_or, set, replicate, leb}
use Rattle.basis.specs.Limits.{most_vertices}
use Rattle.book.specs.Rules.{Next, stop, to, View, Machine}

-- "a parent at an ordinary vertex", one that names its own place included; a head's entry is below 0: `negsuc k` is -(k + 1)
abbrev pub next_of : ℤ → Next
next_of (pos p) = to p
next_of (negsuc k) = stop

-- "at a head the negative of the group's size"; a parent says no size
abbrev pub size_of : ℤ → ℕ
size_of (pos p) = 0
size_of (negsuc k) = suc k

-- where a walk goes from v
unfoldable pub next_here : List ℤ → ℕ → Next
next_here xs v = next_of (get_or xs v (pos 0))

-- the size that stands at the head v; "a head's entry below minus the length" is a size above the length (law `Entries.low-entry`)
unfoldable pub size_here : List ℤ → ℕ → ℕ
size_here xs v = size_of (get_or xs v (pos 0))

-- what the area shows: "Refusal 8 reads as length above 65,536"
unfoldable pub one : List ℤ → View
one xs = record { fit = leb (length xs) most_vertices; count = length xs; next = next_here xs; size = size_here xs }

-- "a group of one holds -1"; a merge writes the parent of `under` and the size of `top`: "Old size entries of former heads are dropped"
abbrev pub one_book : Machine
one_book = record {
  Area = List ℤ;
  view = one;
  opened = λ xs. replicate (length xs) (neg_ℤ (pos 1));
  merged = λ top under total xs. set (set xs under (pos top)) top (neg_ℤ (pos total));
}
