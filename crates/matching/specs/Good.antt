-- The rules "Claims and verdicts" and change K7 "Claims in any order": when a claim is complete, when its values match, and where they
-- first do not, with no word on how they are judged; at the end the rule for claims as it was before change K7, beside which it is held.
use Rattle.std.specs.Prelude.{ℕ, suc, ◌≤◌, ◌<◌, ◌≡◌, Bool, true, false, ◌↔◌, ◌⊎◌, List, [], ℤ, pos, length, get_or}
use Rattle.basis.specs.declared.refusal.Refusal.{Refusal}
use Rattle.basis.specs.Refusal.{Said, gives, refuses, claim_file}
use Rattle.basis.specs.Order.{same_z}
use Rattle.basis.specs.Scan.{mem}
use Rattle.text.specs.Word.{Word, ident_of}
use Rattle.text.specs.Line.{two_of}
use Rattle.text.specs.Bytes.{lf}
use Rattle.text.specs.File.{joined, no_test, GoodFile, FirstFault}
use Rattle.matching.specs.Claim.{ids_of, claimed_of}
use Rattle.matching.specs.Verdict.{Verdict, matched, incomplete_at, mismatch_at, first_place, same_kind, verdict_of}

-- the least number that has P
pub record Least (P : ℕ → Type 0) (i : ℕ) : Type 0 where
  pub here : P i
  pub least : (j : ℕ) → P j → i ≤ j

-- two lists that are alike at every place
pub record Alike {A B : Type 0} (alike : A → B → Bool) (x : A) (y : B) (xs : List A) (ys : List B) : Type 0 where
  pub long : length xs ≡ length ys
  pub everywhere : (i : ℕ) → i < length xs → alike (get_or xs i x) (get_or ys i y) ≡ true

-- a place at which a list ys differs from the list xs that is asked for: another value stands there, or one of the two has ended
pub data Differs {A B : Type 0} (alike : A → B → Bool) (x : A) (y : B) (xs : List A) (ys : List B) (i : ℕ) : Type 0 where
  other : i < length xs → i < length ys → alike (get_or xs i x) (get_or ys i y) ≡ false → Differs alike x y xs ys i
  missing : length ys ≤ i → i < length xs → Differs alike x y xs ys i
  surplus : length xs ≤ i → i < length ys → Differs alike x y xs ys i

-- "equal claims exactly where components are equal": two places of n have one claim exactly where they belong together
abbrev pub EqualWhere : ℕ → (ℕ → ℕ → Type 0) → List ℤ → Type 0
EqualWhere n Together claims = (i j : ℕ) → i < n → j < n → (get_or claims i (pos 0) ≡ get_or claims j (pos 0)) ↔ Together i j

-- Graphalytics "Equivalence match": "a two-way mapping should exists that maps the system's output to be identical to reference output",
-- and its inverse
pub record TwoWay (reference output : List ℤ) : Type 0 where
  pub there : ℤ → ℤ
  pub back : ℤ → ℤ
  pub maps : (i : ℕ) → i < length reference → there (get_or output i (pos 0)) ≡ get_or reference i (pos 0)
  pub inverse : (i : ℕ) → i < length reference → back (get_or reference i (pos 0)) ≡ get_or output i (pos 0)

-- a vertex "that disagrees with a smaller one"
pub record Disagrees (labels claims : List ℤ) (i : ℕ) : Type 0 where
  pub inside : i < length labels
  pub smaller : ℕ
  pub is_smaller : smaller < i
  pub unlike : same_kind labels claims i smaller ≡ false

-- ---- lines that name identifiers, beside those of the vertices
-- the line at place i names vertex v: it is "its claim line"
pub record LineOf (ids named : List ℤ) (v i : ℕ) : Type 0 where
  pub vertex : v < length ids
  pub line : i < length named
  pub names : get_or named i (pos 0) ≡ get_or ids v (pos 0)

-- "Claim lines may come in any order, each vertex exactly once": each line names a vertex, and each vertex has one line
pub record Covers (ids named : List ℤ) : Type 0 where
  pub known : (i : ℕ) → i < length named → (v : ℕ) × LineOf ids named v i
  pub once : (v i j : ℕ) → LineOf ids named v i → LineOf ids named v j → i ≡ j
  pub all : (v : ℕ) → v < length ids → (i : ℕ) × LineOf ids named v i

-- a place at which a claim lacks a vertex: the line there is one "naming an unknown or already named vertex", or it is "the line after
-- the last" and some vertex has none
pub data Lacks (ids named : List ℤ) (i : ℕ) : Type 0 where
  unknown : i < length named → ((v : ℕ) → LineOf ids named v i → ⊥) → Lacks ids named i
  again : (v j : ℕ) → j < i → LineOf ids named v j → LineOf ids named v i → Lacks ids named i
  missing : i ≡ length named → (v : ℕ) → v < length ids → ((j : ℕ) → LineOf ids named v j → ⊥) → Lacks ids named i

-- the values of the vertices in their order, each from its claim line; z is any value
pub record ValuesOf {A : Type 0} (z : A) (ids : List ℤ) (lines : List (ℤ × A)) (values : List A) : Type 0 where
  pub long : length values ≡ length ids
  pub from : (v i : ℕ) → LineOf ids (ids_of lines) v i → get_or values v z ≡ get_or (claimed_of lines) i z

-- ---- a claim of at most so many lines, "identifier, one space, value", on vertices with these identifiers
module _ {A : Type 0} (word : List ℕ → Word A) (z : A) (most : ℕ) (ids : List ℤ) where
  -- the bytes of a claim that names each vertex exactly once, and the values that it claims of them
  pub record CompleteClaim (s : List ℕ) : Type 0 where
    pub lines : List (ℤ × A)
    pub file : GoodFile (two_of ident_of word) most no_test s lines
    pub complete : Covers ids (ids_of lines)
    pub values : List A
    pub are : ValuesOf z ids lines values

  -- those of a claim that does, with values that match
  pub record GoodClaim (Matches : List A → Type 0) (s : List ℕ) : Type 0 where
    pub claim : CompleteClaim s
    pub matches : Matches claim.values

  -- those of one that lacks a vertex at place i, and at no place before
  pub record IncompleteClaim (i : ℕ) (s : List ℕ) : Type 0 where
    pub lines : List (ℤ × A)
    pub file : GoodFile (two_of ident_of word) most no_test s lines
    pub first : Least (Lacks ids (ids_of lines)) i

  -- those of one that names each vertex exactly once, with values of which "the smallest vertex at fault" has its claim line at place i
  pub record MismatchClaim (Wrong : List A → ℕ → Type 0) (i : ℕ) (s : List ℕ) : Type 0 where
    pub claim : CompleteClaim s
    pub vertex : ℕ
    pub first : Least (Wrong claim.values) vertex
    pub reported : LineOf ids (ids_of claim.lines) vertex i

  -- what is said of a claim's bytes, where values match or are wrong at a vertex: each answer exactly where the bytes are of its kind;
  -- line i + 1 is place i
  pub record Judges (Matches : List A → Type 0) (Wrong : List A → ℕ → Type 0) (s : List ℕ) (said : Said Verdict) : Type 0 where
    pub complete : ((said ≡ gives matched) ⊎ ((i : ℕ) × (said ≡ gives (mismatch_at (suc i))))) ↔ CompleteClaim s
    pub accepted : (said ≡ gives matched) ↔ GoodClaim Matches s
    pub incomplete : (i : ℕ) → (said ≡ gives (incomplete_at (suc i))) ↔ IncompleteClaim i s
    pub mismatched : (i : ℕ) → (said ≡ gives (mismatch_at (suc i))) ↔ MismatchClaim Wrong i s
    pub refused : (r : Refusal) → (said ≡ refuses r) ↔ FirstFault (two_of ident_of word) claim_file most no_test s r

-- ---- "reordering a complete claim never changes whether it matches"
-- a list in another order: what stands at place i of the one stands at place `to i` of the other; x is any member
pub record Reordered {A : Type 0} (x : A) (l m : List A) : Type 0 where
  pub long : length l ≡ length m
  pub to : ℕ → ℕ
  pub back : ℕ → ℕ
  pub inside : (i : ℕ) → i < length l → to i < length m
  pub outside : (j : ℕ) → j < length m → back j < length l
  pub there : (i : ℕ) → i < length l → back (to i) ≡ i
  pub here : (j : ℕ) → j < length m → to (back j) ≡ j
  pub same : (i : ℕ) → i < length l → get_or m (to i) x ≡ get_or l i x

-- the bytes of two claims, the lines of the one in another order in the other; each line "is ended by one LF"
pub record Shuffled (s t : List ℕ) : Type 0 where
  pub lines : List (List ℕ)
  pub others : List (List ℕ)
  pub whole : s ≡ joined lines
  pub whole_other : t ≡ joined others
  pub unbroken : (i : ℕ) → i < length lines → mem lf (get_or lines i []) ≡ false
  pub order : Reordered [] lines others

-- the rule for a claim "in vertex order", which that of change K7 stands "in place of": "the first line whose identifier isn't the graph's
-- at that place, or the first missing or surplus line"; then "a mismatch at its first line"
abbrev pub line_by_line : {A : Type 0} → List ℤ → (List A → ℕ) → Said (List (ℤ × A)) → Said Verdict
line_by_line ids mismatch (gives l) = gives (verdict_of (first_place same_z 1 ids (ids_of l)) (mismatch (claimed_of l)))
line_by_line ids mismatch (refuses r) = refuses r
