-- Damaged areas, worked: what the rules say of one area of signed numbers (change K9). Assumes nothing.
use mathlib.Core.Path.{◌≡◌, refl}
use mathlib.Core.List.{List, [], ◌∷◌}
use lib.IntN.{ℤ, pos, negsuc}
use Rattle.basis.specs.Refusal.{gives, refuses, plain, unsound}
use Rattle.book.specs.Rules.{walk_end, walk, walk_from, head_of, heads_of, group_size, tally, group_count, merged, same, outcome}
use Rattle.book.specs.Rules.{above, mergeable, merge_heads, link_heads, decide, write_book, join_book}
use Rattle.book.specs.One.{next_here, size_here, one, one_book}

-- an entry that names its own place is a parent: the walk from it does not end, and it is no head
abbrev own : List ℤ
own = pos 0 ∷ negsuc 0 ∷ []

pub own-place : head_of (one own) 0 ≡ refuses (plain unsound)
unfolding head_of walk_from walk one next_here
own-place = refl

pub own-count : group_count (one own) ≡ gives 1
unfolding group_count tally one next_here
own-count = refl

-- the least number at a head, vertex 0: 9 where its size is needed, and nowhere else
abbrev least : List ℤ
least = negsuc 9223372036854775807 ∷ pos 0 ∷ negsuc 0 ∷ []

pub least-head : head_of (one least) 1 ≡ gives (walk_end 0 1)
unfolding head_of walk_from walk one next_here
least-head = refl

pub least_size : group_size (one least) 1 ≡ refuses (plain unsound)
unfolding group_size head_of walk_from walk one next_here size_here
least_size = refl

pub least-same : join_book one_book least 0 1 ≡ outcome (gives same) least
unfolding join_book write_book decide heads_of link_heads walk_from walk one next_here size_here
least-same = refl

pub least-join : join_book one_book least 1 2 ≡ outcome (refuses (plain unsound)) least
unfolding join_book write_book decide heads_of link_heads mergeable walk_from walk one next_here size_here
least-join = refl

-- minus the length is a size; sizes that make up the length merge, one more is 9
pub whole-size : group_size (one (negsuc 2 ∷ pos 0 ∷ negsuc 0 ∷ [])) 1 ≡ gives 3
unfolding group_size head_of walk_from walk one next_here size_here
whole-size = refl

pub sum-whole : join_book one_book (negsuc 1 ∷ pos 0 ∷ negsuc 0 ∷ []) 2 1 ≡ outcome (gives merged) (negsuc 2 ∷ pos 0 ∷ pos 0 ∷ [])
unfolding join_book write_book decide heads_of link_heads merge_heads above mergeable walk_from walk one next_here size_here
sum-whole = refl

pub sum-above : join_book one_book (negsuc 1 ∷ pos 0 ∷ negsuc 1 ∷ []) 2 1
    ≡ outcome (refuses (plain unsound)) (negsuc 1 ∷ pos 0 ∷ negsuc 1 ∷ [])
unfolding join_book write_book decide heads_of link_heads mergeable walk_from walk one next_here size_here
sum-above = refl

-- a path of eighteen vertices: sixteen moves end, seventeen do not
abbrev path : List ℤ
path =
    negsuc 17 ∷ pos 0 ∷ pos 1 ∷ pos 2 ∷ pos 3 ∷ pos 4 ∷ pos 5 ∷ pos 6 ∷ pos 7 ∷ pos 8 ∷ pos 9 ∷ pos 10 ∷ pos 11 ∷ pos 12 ∷ pos 13 ∷ pos 14
    ∷ pos 15 ∷ pos 16 ∷ []

pub sixteen-moves : head_of (one path) 16 ≡ gives (walk_end 0 16)
unfolding head_of walk_from walk one next_here
sixteen-moves = refl

pub seventeen-moves : head_of (one path) 17 ≡ refuses (plain unsound)
unfolding head_of walk_from walk one next_here
seventeen-moves = refl
