-- The rules "The group book": the rules of its calls, over what a book's areas show of a vertex and not over the areas.
use Rattle.std.specs.Prelude.{Bool, true, false, cond, ◌&&◌, List, [], ◌∷◌, ℕ, zero, suc, ◌+◌, ◌^◌, leb, ltb, eqb}
use Rattle.basis.specs.declared.refusal.Refusal.{Refusal}
use Rattle.basis.specs.Refusal.{Said, gives, refuses, plain, no_room, unsound, not_there, onward, check}

-- "A head is its own parent": a walk stops at a head, and goes from any other vertex to its parent
pub data Next : Type 0 where
  stop : Next
  to : ℕ → Next

-- what a book's areas show: whether they are well lent, how many vertices they have, where a walk goes from each, and the size that stands
-- at a head
pub record View : Type 0 where
  pub fit : Bool
  pub count : ℕ
  pub next : ℕ → Next
  pub size : ℕ → ℕ

-- ---- the walk

-- "head, with the number of moves from parent to parent that reach it"
pub record WalkEnd : Type 0 where
  pub head : ℕ
  pub moves : ℕ

-- the same, by its fields in order
abbrev pub walk_end : ℕ → ℕ → WalkEnd
walk_end h k = record { head = h; moves = k }

-- one look at the parent: what is said here, at a head, or further on
abbrev pub follow : Next → Said WalkEnd → (ℕ → Said WalkEnd) → Said WalkEnd
follow stop here on = here
follow (to p) here on = on p

-- "doesn't end in 16 steps": the moves that a walk may take
abbrev pub most_moves : ℕ
most_moves = 16

-- "a walk the call needs leaves the area or doesn't end in 16 steps": from `at` in an area of n, `left` moves allowed and `moves` made
unfoldable pub walk : (ℕ → Next) → ℕ → ℕ → ℕ → ℕ → Said WalkEnd
walk next n zero moves at = follow (next at) (gives (walk_end at moves)) (λ p. refuses (plain unsound))
walk next n (suc left) moves at =
    follow (next at) (gives (walk_end at moves)) (λ p. check (ltb p n) unsound (walk next n left (moves + 1) p))

-- the walk from v, of at most so many moves
unfoldable pub walk_from : (ℕ → Next) → ℕ → ℕ → Said WalkEnd
walk_from next n v = walk next n most_moves 0 v

-- ---- calls that read; "Checks: 8, then 10, then 9"

-- "head, with the number of moves"
unfoldable pub head_of : View → ℕ → Said WalkEnd
head_of w v = check w.fit no_room (check (ltb v w.count) not_there (walk_from w.next w.count v))

-- "finds both heads"
pub record Heads : Type 0 where
  pub first : ℕ
  pub second : ℕ

-- the same, by its fields in order: the first vertex's head g, and the second's h
abbrev pub heads : ℕ → ℕ → Heads
heads g h = record { first = g; second = h }

-- two walks that both end give both heads
abbrev pub pair : Said WalkEnd → Said WalkEnd → Said Heads
pair (gives f) (gives g) = gives (heads f.head g.head)
pair (gives f) (refuses r) = refuses r
pair (refuses r) s = refuses r

-- the heads of two vertices: both are checked for 10 before any walk
unfoldable pub heads_of : View → ℕ → ℕ → Said Heads
heads_of w u v =
    check w.fit no_room
    (check (ltb u w.count) not_there
    (check (ltb v w.count) not_there
    (pair (walk_from w.next w.count u) (walk_from w.next w.count v))))

-- whether two heads are one
abbrev pub one_head : Heads → Said Bool
one_head p = gives (eqb p.first p.second)

-- "same group": whether the heads are the same
unfoldable pub same_group : View → ℕ → ℕ → Said Bool
same_group w u v = onward (heads_of w u v) one_head

-- "when size or step limit finds a head size of 0 or above the length"
abbrev pub size_at : View → WalkEnd → Said ℕ
size_at w f = check (ltb 0 (w.size f.head) && leb (w.size f.head) w.count) unsound (gives (w.size f.head))

-- "group size"
unfoldable pub group_size : View → ℕ → Said ℕ
group_size w v = onward (head_of w v) (size_at w)

-- how many numbers below n pass the test
unfoldable pub tally : (ℕ → Bool) → ℕ → ℕ
tally p zero = 0
tally p (suc n) = cond (p n) (suc (tally p n)) (tally p n)

-- a head
abbrev pub is_stop : Next → Bool
is_stop stop = true
is_stop (to p) = false

-- "group count (heads in the area)"
unfoldable pub group_count : View → Said ℕ
group_count w = check w.fit no_room (gives (tally (λ v. is_stop (w.next v)) w.count))

-- the largest j of 0 to k with 2 to the j at most s, for s above 0
unfoldable pub largest : ℕ → ℕ → ℕ
largest zero s = 0
largest (suc k) s = cond (leb (2 ^ suc k) s) (suc k) (largest k s)

-- no size that is given passes 65,536, which is 2 to the 16: the limit is no more than the moves that a walk may take
abbrev pub limit_of : ℕ → Said ℕ
limit_of s = gives (largest most_moves s)

-- "the step limit, which is the largest k with 2 to the k at most the group's size"
unfoldable pub step_limit : View → ℕ → Said ℕ
step_limit w v = onward (group_size w v) limit_of

-- ---- joining

-- what an accepted join does: it finds one group, or puts the head `under` under the head `top`, whose size becomes `total`
pub data Step : Type 0 where
  already : Step
  merge : ℕ → ℕ → ℕ → Step

-- "the smaller group's head goes under the other; at equal sizes the higher-numbered head goes under the lower":
-- whether head g, of a group of a vertices, goes above head h, of a group of b
unfoldable pub above : ℕ → ℕ → ℕ → ℕ → Bool
above a b g h = cond (ltb b a) true (cond (ltb a b) false (ltb g h))

-- refused "when a join that would merge finds a head size of 0 or a sum above the length": else groups of a and b vertices may merge in a
-- book of n
unfoldable pub mergeable : ℕ → ℕ → ℕ → Bool
mergeable n a b = ltb 0 a && ltb 0 b && leb (a + b) n

-- "The new head's size becomes the sum"
unfoldable pub merge_heads : ℕ → ℕ → ℕ → ℕ → Step
merge_heads a b g h = cond (above a b g h) (merge g h (a + b)) (merge h g (a + b))

-- "if equal, nothing changes and it is accepted"
unfoldable pub link_heads : View → Heads → Said Step
link_heads w p =
    let a = w.size p.first in
    let b = w.size p.second in
    cond (eqb p.first p.second) (gives already)
    (check (mergeable w.count a b) unsound (gives (merge_heads a b p.first p.second)))

-- "A join finds both heads": what it does then, or why it is refused
unfoldable pub decide : View → ℕ → ℕ → Said Step
decide w u v = onward (heads_of w u v) (link_heads w)

-- ---- a form of book: its areas, what they show, and what an opening and a merge write to them

-- a book in any form of areas
pub record Machine : Type 1 where
  pub Area : Type 0
  pub view : Area → View
  pub opened : Area → Area
  pub merged : ℕ → ℕ → ℕ → Area → Area

-- what a call says, and the areas as it leaves them
pub record Outcome (A B : Type 0) : Type 0 where
  pub said : Said A
  pub area : B

-- the same, by its fields in order
abbrev pub outcome : {A B : Type 0} → Said A → B → Outcome A B
outcome s a = record { said = s; area = a }

-- "opening again starts a new series", whatever the areas hold; "Refused book calls change nothing"
unfoldable pub open_book : (M : Machine) → M.Area → Outcome (Unit {0}) M.Area
open_book M a = cond (M.view a).fit (outcome (gives tt) (M.opened a)) (outcome (refuses (plain no_room)) a)

-- what an accepted join says: that it merged two groups, or found one
pub data Joining : Type 0 where
  merged : Joining
  same : Joining

-- what a join writes: where it finds one group or is refused "nothing changes"
unfoldable pub write_book : (M : Machine) → Said Step → M.Area → Outcome Joining M.Area
write_book M (gives already) a = outcome (gives same) a
write_book M (gives (merge top under total)) a = outcome (gives merged) (M.merged top under total a)
write_book M (refuses r) a = outcome (refuses r) a

-- a join of u and v
unfoldable pub join_book : (M : Machine) → M.Area → ℕ → ℕ → Outcome Joining M.Area
join_book M a u v = write_book M (decide (M.view a) u v) a

-- ---- joining one vertex with each of a list

-- what such a series of joins says: all were accepted, and how many merged two groups; or how many were accepted before the first that was
-- refused, how many of those merged two groups, and its refusal
pub data Each : Type 0 where
  all : ℕ → Each
  stopped : ℕ → ℕ → Refusal → Each

-- what it says, and the areas as it leaves them
pub record EachOutcome (B : Type 0) : Type 0 where
  pub said : Each
  pub area : B

-- the same, by its fields in order
abbrev pub each_outcome : {B : Type 0} → Each → B → EachOutcome B
each_outcome e a = record { said = e; area = a }

-- the numbers of a series that stands behind k accepted joins, m of which merged two groups
abbrev pub counted : ℕ → ℕ → Each → Each
counted k m (all merges) = all (merges + m)
counted k m (stopped joined merges r) = stopped (joined + k) (merges + m) r

-- such a series behind them
unfoldable pub behind : {B : Type 0} → ℕ → ℕ → EachOutcome B → EachOutcome B
behind k m e = each_outcome (counted k m e.said) e.area

-- a join that left the area a, and the series behind it: "Refused book calls change nothing", and nothing is joined behind a refused join
unfoldable pub and_on : {B : Type 0} → Said Joining → B → EachOutcome B → EachOutcome B
and_on (gives merged) a e = behind 1 1 e
and_on (gives same) a e = behind 1 0 e
and_on (refuses r) a e = each_outcome (stopped 0 0 r) a

-- "WCC stands on this book": u joined with each vertex of a list, one after the other, up to the first join that is refused
unfoldable pub join_each : (M : Machine) → M.Area → ℕ → List ℕ → EachOutcome M.Area
join_each M a u [] = each_outcome (all 0) a
join_each M a u (w ∷ ws) = let d = join_book M a u w in and_on d.said d.area (join_each M d.area u ws)
