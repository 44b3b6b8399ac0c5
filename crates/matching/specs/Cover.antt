-- Change K7 "Claims in any order": which line of a claim is a vertex's, and whether its lines name "each vertex exactly once".
use Rattle.std.specs.Prelude.{ℕ, zero, suc, ◌+◌, Bool, false, not, cond, List, [], ◌∷◌, ℤ, pos, length, get_or, take, eqb}
use Rattle.std.specs.Prelude.{Option, Some, None}
use Rattle.basis.specs.Area.{column}
use Rattle.basis.specs.Scan.{every, or_else}
use Rattle.matching.specs.Claim.{ids_of, claimed_of}

-- the first of so many places, from i on, that fails a test, counted from 1; 0 where there is none
unfoldable pub failing_place : (ℕ → Bool) → ℕ → ℕ → ℕ
failing_place p zero i = 0
failing_place p (suc n) i = cond (p i) (failing_place p n (i + 1)) (i + 1)

-- what is found is vertex v
abbrev pub is_vertex : Option ℕ → ℕ → Bool
is_vertex (Some u) v = eqb u v
is_vertex None v = false

-- a claim's lines, by the identifiers that they name: each stands for the vertex at its place, or for none
module _ (place : ℤ → Option ℕ) where
  -- the first line that names vertex v, the next line being k; 0 where none does
  unfoldable pub its_line_from : ℕ → List ℤ → ℕ → ℕ
  its_line_from k [] v = 0
  its_line_from k (id ∷ named) v = cond (is_vertex (place id) v) k (its_line_from (k + 1) named v)

  -- "A lent area maps each vertex to its claim line": the claim line of vertex v, counted from 1; 0 where it has none
  abbrev pub its_line : List ℤ → ℕ → ℕ
  its_line named v = its_line_from 1 named v

  -- vertex v has a claim line
  abbrev pub has_line : List ℤ → ℕ → Bool
  has_line named v = not (eqb (its_line named v) 0)

  -- what is found is no "unknown or already named vertex", after these lines
  abbrev pub is_new : List ℤ → Option ℕ → Bool
  is_new earlier (Some v) = eqb (its_line earlier v) 0
  is_new earlier None = false

  -- the line at place i names a vertex that no line before it names
  unfoldable pub names_new : List ℤ → ℕ → Bool
  names_new named i = is_new (take i named) (place (get_or named i (pos 0)))

  -- "the first line naming an unknown or already named vertex"; 0 where there is none
  unfoldable pub stray_line : List ℤ → ℕ
  stray_line named = failing_place (names_new named) (length named) 0

  -- "or, if none, the line after the last", where one of n vertices has no line; 0 where the claim is complete
  unfoldable pub incomplete_line : ℕ → List ℤ → ℕ
  incomplete_line n named = or_else (stray_line named) (cond (every n (has_line named)) 0 (length named + 1))

  -- the value on the claim line of vertex v; z where it has none
  unfoldable pub value_of : {A : Type 0} → A → List (ℤ × A) → ℕ → A
  value_of z l v = get_or (z ∷ claimed_of l) (its_line (ids_of l) v) z

  -- those of n vertices, in vertex order
  abbrev pub in_order : {A : Type 0} → A → ℕ → List (ℤ × A) → List A
  in_order z n l = column (value_of z l) 0 n

  -- "A mismatch is the smallest vertex at fault, reported by its claim line", where that vertex is counted from 1, or 0 is none
  abbrev pub reported_line : List ℤ → ℕ → ℕ
  reported_line named zero = 0
  reported_line named (suc v) = its_line named v
