-- The rules "Refusal numbers": what a call says, in the paper's numbers.
use Rattle.std.specs.Prelude.{ℕ, Bool, cond, Result, Ok, Err}
use Rattle.basis.specs.declared.refusal.Refusal.{Refusal}

-- Change K2: "Every refusal now has four numbers": its number, file and line, and the column, from 1, in that line
abbrev pub at_column : ℕ → ℕ → ℕ → ℕ → Refusal
at_column number file line column = record { number = number; file = file; line = line; column = column }

-- "A refusal returns its number, a file number (1 vertex, 2 edge, 3 claim, 4 sheet, 0 none) and a line counted from 1"; change K2: "the
-- column is 0 except for refusal 2 of a vertex, edge or claim line"
abbrev pub at : ℕ → ℕ → ℕ → Refusal
at number file line = at_column number file line 0

-- "or 0 where no line applies": a refusal that meets no line
abbrev pub plain : ℕ → Refusal
plain number = at number 0 0

-- "a line or count passes its limit, or the sheet is too long"
abbrev pub too_many : ℕ
too_many = 1

-- "a line or sheet has the wrong form"
abbrev pub bad_form : ℕ
bad_form = 2

-- "a well-formed number is outside -2^63 to 2^63-1"
abbrev pub out_of_range : ℕ
out_of_range = 3

-- "a line is not above the one before it"
abbrev pub not_above : ℕ
not_above = 4

-- "an edge joins a vertex to itself"
abbrev pub self_edge : ℕ
self_edge = 5

-- "undirected, and the first number is the larger"
abbrev pub larger_first : ℕ
larger_first = 6

-- "an edge names a vertex not in the vertex file"
abbrev pub unknown_vertex : ℕ
unknown_vertex = 7

-- "a lent area is too short"; of a book it "reads as length above 65,536" (change K9)
abbrev pub no_room : ℕ
no_room = 8

-- "a lent graph or book is unsound"
abbrev pub unsound : ℕ
unsound = 9

-- "a BFS root or a book vertex isn't there"
abbrev pub not_there : ℕ
not_there = 10

-- "CDLP iterations are negative or above 1,000"
abbrev pub bad_rounds : ℕ
bad_rounds = 11

-- "a mode or kernel number is unknown"
abbrev pub unknown_number : ℕ
unknown_number = 12

-- Change K3: "13, weight above 100000, after 3"
abbrev pub too_heavy : ℕ
too_heavy = 13

-- Change K3: "14, SSSP on an unweighted graph, after 9"
abbrev pub unweighted : ℕ
unweighted = 14

-- "a file number (1 vertex, 2 edge, 3 claim, 4 sheet, 0 none)"
abbrev pub vertex_file : ℕ
vertex_file = 1

-- "2 edge", of the same sentence
abbrev pub edge_file : ℕ
edge_file = 2

-- "3 claim"
abbrev pub claim_file : ℕ
claim_file = 3

-- "4 sheet"
abbrev pub sheet_file : ℕ
sheet_file = 4

-- "a definition that gives this paper's number and values for each of its cases": a call gives its values, with number 0, or refuses
pub data Said (A : Type 0) : Type 0 where
  gives : A → Said A
  refuses : Refusal → Said A

-- the same of an answer of the code
abbrev pub said : {A : Type 0} → Result A Refusal → Said A
said (Ok x) = gives x
said (Err r) = refuses r

-- "The first fault met is the answer": what a call says that goes on from what another gives, and is refused where that is
abbrev pub onward : {A B : Type 0} → Said A → (A → Said B) → Said B
onward (gives x) f = f x
onward (refuses r) f = refuses r

-- the same where nothing more is refused
abbrev pub mapped : {A B : Type 0} → (A → B) → Said A → Said B
mapped f x = onward x (λ a. gives (f a))

-- a check: what a call says where the test holds, else the refusal with its number, which "meets no line"
abbrev pub check : {A : Type 0} → Bool → ℕ → Said A → Said A
check t number s = cond t s (refuses (plain number))
