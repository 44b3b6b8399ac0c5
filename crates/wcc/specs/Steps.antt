-- What the kernel's private functions do and need: the joins along the arcs, and the two passes that write the labels.
use Rattle.std.specs.Prelude.{ℕ, zero, suc, ◌≤◌, ◌<◌, ◌≡◌, true, List, ℤ, pos, length, get_or, set}
use Rattle.basis.specs.Limits.{most_vertices}
use Rattle.basis.specs.Scan.{Inside}
use Rattle.book.specs.Rules.{head_of, open_book, join_each}
use Rattle.book.specs.One.{one, one_book}
use Rattle.book.specs.Series.{head_in}
use Rattle.graph.specs.Sound.{Graph, sound_graph}
use Rattle.wcc.specs.Call.{room_for}

-- the areas can be filled: the graph is sound, and each area has room for its vertices
pub record Ready (g : Graph) (result : List ℤ) (heads : List ℕ) : Type 0 where
  pub sound : sound_graph g ≡ true
  pub room : room_for g.vertices result heads ≡ true

-- the head of v in the book that stands in the result area
unfoldable pub head_here : List ℤ → ℕ → ℕ
head_here xs v = head_in (head_of (one xs) v)

-- the head of v that was noted in the working area
unfoldable pub noted : List ℕ → ℕ → ℕ
noted hs v = get_or hs v 0

-- the book after the joins along the outward arcs of the first n vertices
unfoldable pub join_arcs : (ℕ → List ℕ) → ℕ → List ℤ → List ℤ
join_arcs out zero xs = xs
join_arcs out (suc u) xs = (join_each one_book (join_arcs out u xs) u (out u)).area

-- the groups that the arcs make: the book, opened in an area, after the joins along the arcs of its n vertices
unfoldable pub grouped : (ℕ → List ℕ) → ℕ → List ℤ → List ℤ
grouped out n xs = join_arcs out n (open_book one_book xs).area

-- each vertex from n - 1 down to 0 writes its identifier at its head g: the last one written there is the smallest
unfoldable pub marked : (ℕ → ℕ) → List ℤ → ℕ → List ℤ → List ℤ
marked g ids zero R = R
marked g ids (suc v) R = marked g ids v (set R (g v) (get_or ids v (pos 0)))

-- each vertex from 0 up to n - 1 takes over what stands at its head g
unfoldable pub taken_over : (ℕ → ℕ) → ℕ → List ℤ → List ℤ
taken_over g zero R = R
taken_over g (suc v) R = set (taken_over g v R) v (get_or (taken_over g v R) (g v) (pos 0))

-- the heads of the first n vertices are among them
abbrev pub Within : ℕ → (ℕ → ℕ) → Type 0
Within n g = (v : ℕ) → v < n → g v < n

-- the labels can be written: arcs among n vertices, an identifier for each, and exactly one place for each in both areas
pub record Fitting (n : ℕ) (out : ℕ → List ℕ) (ids R : List ℤ) (hs : List ℕ) : Type 0 where
  pub few : n ≤ most_vertices
  pub inside : Inside n out
  pub named : length ids ≡ n
  pub result_room : length R ≡ n
  pub heads_room : length hs ≡ n

-- the heads that were noted can be marked: one for each place, among the places, and an identifier for each
pub record Marking (hs : List ℕ) (ids R : List ℤ) : Type 0 where
  pub within : Within (length R) (noted hs)
  pub headed : length hs ≡ length R
  pub named : length ids ≡ length R
