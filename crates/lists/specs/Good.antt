-- The rules "Lists": the files that are accepted, said of their bytes and of the identifiers in them, with no word on how they are read;
-- and the arcs that an edge file lists.
use Rattle.std.specs.Prelude.{ℕ, ◌≤◌, ◌≡◌, Bool, true, false, not, ◌&&◌, ◌||◌, List, [], ◌∷◌, ℤ, length}
use Rattle.std.specs.Int.Signed.{lt_z}
use Rattle.basis.specs.Order.{same_z, rising_by, rising_z}
use Rattle.basis.specs.Scan.{each}
use Rattle.text.specs.Word.{ident_of}
use Rattle.text.specs.Line.{two_of}
use Rattle.text.specs.File.{FileSays}
use Rattle.graph.specs.Find.{place_in, is_there}
use Rattle.lists.specs.Files.{above_pair}

-- a vertex file that lists the identifiers: at most so many, "Vertex lines strictly rise as signed numbers."
pub record GoodVertices (most : ℕ) (s : List ℕ) (ids : List ℤ) : Type 0 where
  pub lines : FileSays ident_of s ids
  pub few : length ids ≤ most
  pub rise : rising_z ids ≡ true

-- an edge file that lists the edges over the given identifiers: at most so many, "Edge lines strictly rise by first number, then second",
-- no edge joins a vertex to itself, undirected "smaller first", each end is in the vertex file
pub record GoodEdges (undirected : Bool) (most : ℕ) (ids : List ℤ) (s : List ℕ) (es : List (ℤ × ℤ)) : Type 0 where
  pub lines : FileSays (two_of ident_of ident_of) s es
  pub few : length es ≤ most
  pub rise : rising_by above_pair es ≡ true
  pub apart : each (λ e. not (same_z e.0 e.1)) es ≡ true
  pub smaller : each (λ e. not (undirected && lt_z e.1 e.0)) es ≡ true
  pub there : each (λ e. is_there (place_in ids e.0) && is_there (place_in ids e.1)) es ≡ true

-- the edge from a to b is listed
unfoldable pub has_edge : List (ℤ × ℤ) → ℤ → ℤ → Bool
has_edge [] a b = false
has_edge (e ∷ es) a b = (same_z e.0 a && same_z e.1 b) || has_edge es a b

-- the arc from a to b is one of an edge file's: the edge is listed, or undirected the other way round
abbrev pub lists_arc : Bool → List (ℤ × ℤ) → ℤ → ℤ → Bool
lists_arc undirected es a b = has_edge es a b || (undirected && has_edge es b a)
