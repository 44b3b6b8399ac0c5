-- A series of calls on one book, and demand 3: what holds after every series.
use Rattle.std.specs.Prelude.{◌≡◌, Bool, true, cond, ◌↔◌, ℕ, suc, ◌+◌, ◌-◌, ◌^◌, ◌≤◌, ◌<◌, ℤ, length, take, eqb}
use mathlib.Core.List.{List, [], ◌∷◌, Memᴰ}
use Rattle.basis.specs.Refusal.{Said, gives, refuses}
use Rattle.basis.specs.Limits.{most_vertices}
use Rattle.basis.specs.Scan.{all_below}
use Rattle.basis.specs.Closure.{Linked}
use Rattle.book.specs.Rules.{View, Machine, WalkEnd, walk_end, Joining, merged, same, Each, all, stopped, tally, walk_from, open_book}
use Rattle.book.specs.Rules.{join_book, join_each, head_of, same_group, group_size, group_count, step_limit}
use Rattle.book.specs.One.{one_book}
use Rattle.book.specs.Two.{Areas, two_book}

-- a call of the book
pub data Call : Type 0 where
  opening : Call
  joining : ℕ → ℕ → Call
  joining_each : ℕ → List ℕ → Call
  heading : ℕ → Call
  comparing : ℕ → ℕ → Call
  sizing : ℕ → Call
  counting : Call
  limiting : ℕ → Call

-- what a call says
pub data Answer : Type 0 where
  opens : Said (Unit {0}) → Answer
  joins : Said Joining → Answer
  joins_each : Each → Answer
  heads : Said WalkEnd → Answer
  compares : Said Bool → Answer
  reads : Said ℕ → Answer

-- a join that was accepted
pub record Slip : Type 0 where
  pub left : ℕ
  pub right : ℕ

-- the same, by its fields in order: a join of u and v
abbrev pub slip : ℕ → ℕ → Slip
slip u v = record { left = u; right = v }

-- The book's areas, what the latest opening said, and what the calls since the latest accepted opening have done:
-- the joins accepted, the latest first, and how many of them merged two groups.
pub record State (B : Type 0) : Type 0 where
  pub area : B
  pub latest : Said (Unit {0})
  pub slips : List Slip
  pub merges : ℕ

-- the same, by its fields in order
abbrev pub state : {B : Type 0} → B → Said (Unit {0}) → List Slip → ℕ → State B
state a o js m = record { area = a; latest = o; slips = js; merges = m }

-- "opening again starts a new series"
abbrev pub after_open : {B : Type 0} → Said (Unit {0}) → B → State B → State B
after_open (gives x) a s = state a (gives x) [] 0
after_open (refuses r) a s = state a (refuses r) s.slips s.merges

-- an accepted join is put on the list, and counted where it merged
abbrev pub after_join : {B : Type 0} → ℕ → ℕ → Said Joining → B → State B → State B
after_join u v (gives merged) a s = state a s.latest (slip u v ∷ s.slips) (suc s.merges)
after_join u v (gives same) a s = state a s.latest (slip u v ∷ s.slips) s.merges
after_join u v (refuses r) a s = state a s.latest s.slips s.merges

-- the joins of u with each of a list, put one after the other on the list of those accepted
unfoldable pub put_each : ℕ → List ℕ → List Slip → List Slip
put_each u [] js = js
put_each u (w ∷ ws) js = put_each u ws (slip u w ∷ js)

-- the members of a list that were joined, by what the joins with each of them said
abbrev pub joined_of : List ℕ → Each → List ℕ
joined_of ws (all merges) = ws
joined_of ws (stopped joined merges r) = take joined ws

-- and how many of these joins merged two groups
abbrev pub merges_of : Each → ℕ
merges_of (all merges) = merges
merges_of (stopped joined merges r) = merges

-- of the joins of u with each of a list those accepted are put on that list, and those counted that merged
abbrev pub after_each : {B : Type 0} → ℕ → List ℕ → Each → B → State B → State B
after_each u ws e a s = state a s.latest (put_each u (joined_of ws e) s.slips) (s.merges + merges_of e)

-- the state that a call leaves
unfoldable pub after : (M : Machine) → State M.Area → Call → State M.Area
after M s opening = let d = open_book M s.area in after_open d.said d.area s
after M s (joining u v) = let d = join_book M s.area u v in after_join u v d.said d.area s
after M s (joining_each u ws) = let d = join_each M s.area u ws in after_each u ws d.said d.area s
after M s (heading v) = s
after M s (comparing u v) = s
after M s (sizing v) = s
after M s counting = s
after M s (limiting v) = s

-- "After any series of calls"
unfoldable pub run : (M : Machine) → State M.Area → List Call → State M.Area
run M s [] = s
run M s (c ∷ cs) = run M (after M s c) cs

-- what a call says in a state
unfoldable pub answer : (M : Machine) → State M.Area → Call → Answer
answer M s opening = opens (open_book M s.area).said
answer M s (joining u v) = joins (join_book M s.area u v).said
answer M s (joining_each u ws) = joins_each (join_each M s.area u ws).said
answer M s (heading v) = heads (head_of (M.view s.area) v)
answer M s (comparing u v) = compares (same_group (M.view s.area) u v)
answer M s (sizing v) = reads (group_size (M.view s.area) v)
answer M s counting = reads (group_count (M.view s.area))
answer M s (limiting v) = reads (step_limit (M.view s.area) v)

-- what each call of a series says, in their order
unfoldable pub answers : (M : Machine) → State M.Area → List Call → List Answer
answers M s [] = []
answers M s (c ∷ cs) = answer M s c ∷ answers M (after M s c) cs

-- u joined with each of a list, by a call each
unfoldable pub joinings : ℕ → List ℕ → List Call
joinings u [] = []
joinings u (w ∷ ws) = joining u w ∷ joinings u ws

-- "joins accepted in that series": the join of u and v is among these
abbrev pub Accepted : List Slip → ℕ → ℕ → Type 0
Accepted js u v = Memᴰ (slip u v) js

-- the head of a vertex and the moves to it, as its walk from parent to parent finds them
abbrev pub head_in : Said WalkEnd → ℕ
head_in (gives f) = f.head
head_in (refuses r) = 0

-- the moves of a walk that was made, 0 of one that was refused
abbrev pub moves_in : Said WalkEnd → ℕ
moves_in (gives f) = f.moves
moves_in (refuses r) = 0

-- the head of v in areas that show w, by its walk; 0 where the walk is refused
abbrev pub head_at : View → ℕ → ℕ
head_at w v = head_in (walk_from w.next w.count v)

-- "the number of moves from parent to parent that reach it", from v in the same areas; 0 where the walk is refused
abbrev pub moves_at : View → ℕ → ℕ
moves_at w v = moves_in (walk_from w.next w.count v)

-- "the group's size": how many vertices have v's head
abbrev pub members : View → ℕ → ℕ
members w v = tally (λ x. eqb (head_at w x) (head_at w v)) w.count

-- what a state's areas show
abbrev pub shown : (M : Machine) → State M.Area → View
shown M s = M.view s.area

-- What holds of a book of n vertices in state s, sentence by sentence of demand 3:
-- "Take a group book of up to 65,536 vertices, lent whole to each of its own calls and written only by them."
pub record Kept (M : Machine) (n : ℕ) (s : State M.Area) : Type 0 where
  -- "It opens, and from then on refuses no join of its vertices.": the latest opening was accepted
  pub opened : s.latest ≡ gives tt
  -- it is well lent still, and its vertices are those opened
  pub fit : (shown M s).fit ≡ true
  pub count : (shown M s).count ≡ n
  -- "refuses no join of its vertices": a join of two of them finds one group where their heads are equal, and merges two where they differ
  pub accepted : (u v : ℕ) → u < n → v < n
      → answer M s (joining u v) ≡ joins (gives (cond (eqb (head_at (shown M s) u) (head_at (shown M s) v)) same merged))
  -- nor any of the joins of a vertex with each of a list: it says that all were accepted, and how many merged; they do what they do by a
  -- call each
  pub all_accepted : (u : ℕ) (ws : List ℕ) → u < n → all_below n ws ≡ true
      → (answer M s (joining_each u ws) ≡ joins_each (all ((run M s (joinings u ws)).merges - s.merges)))
      × (after M s (joining_each u ws) ≡ run M s (joinings u ws))
  -- "After any series of calls since its latest opening, refused ones included, two vertices have the same head exactly when"
  -- "a chain of joins accepted in that series links them."
  pub linked : (u v : ℕ) → u < n → v < n → (head_at (shown M s) u ≡ head_at (shown M s) v) ↔ Linked (Accepted s.slips) u v
  -- and the same-group call says so
  pub compared : (u v : ℕ) → u < n → v < n
      → answer M s (comparing u v) ≡ compares (gives (eqb (head_at (shown M s) u) (head_at (shown M s) v)))
  -- "the same head": the head call gives it, with the moves of the walk to it
  pub headed : (v : ℕ) → v < n → answer M s (heading v) ≡ heads (gives (walk_end (head_at (shown M s) v) (moves_at (shown M s) v)))
  -- a head is a vertex of the book, and its own head
  pub inside : (v : ℕ) → v < n → head_at (shown M s) v < n
  pub settled : (v : ℕ) → v < n → head_at (shown M s) (head_at (shown M s) v) ≡ head_at (shown M s) v
  -- "the group's size": the size call gives the number of vertices with that head
  pub sized : (v : ℕ) → v < n → answer M s (sizing v) ≡ reads (gives (members (shown M s) v))
  -- "The walk from a vertex to its head takes at most k steps, where k is the largest whole number with 2 to the k no more than"
  -- "the group's size.": k is what the step limit call gives
  pub limited : (v : ℕ) → v < n
      → (k : ℕ) × (answer M s (limiting v) ≡ reads (gives k))
      × (2 ^ k ≤ members (shown M s) v) × (members (shown M s) v < 2 ^ suc k) × (moves_at (shown M s) v ≤ k)
  -- "The group count is the vertices opened less the series' joins that merged two groups."
  pub counted : (answer M s counting ≡ reads (gives (n - s.merges))) × (s.merges ≤ n)

-- Demand 3, for every form of book: areas that are well lent, of any content and in any state before;
-- "any series of calls since its latest opening, refused ones included": an opening and every list of calls after it, further openings
-- among them.
abbrev pub Demand3 : Machine → Type 0
Demand3 M = (s : State M.Area) → (M.view s.area).fit ≡ true → (cs : List Call)
    → Kept M (M.view s.area).count (run M s (opening ∷ cs))

-- the same of one area, "of up to 65,536 vertices"
abbrev pub Demand3One : Type 0
Demand3One = (s : State (List ℤ)) → length s.area ≤ most_vertices → (cs : List Call)
    → Kept one_book (length s.area) (run one_book s (opening ∷ cs))

-- Change K9: "For every series of calls from an opening, each answer equals the two-area book's": of areas of one length, whatever they
-- hold
abbrev pub AnswersAsTwo : Type 0
AnswersAsTwo = (s : State (List ℤ)) (t : State Areas) → length t.area.parents ≡ length s.area
    → length t.area.sizes ≡ length s.area → (cs : List Call)
    → answers one_book s (opening ∷ cs) ≡ answers two_book t (opening ∷ cs)
