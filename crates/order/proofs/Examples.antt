-- A shift worked in two orders: heads and walks that differ, and the answers that agree (change K11). Assumes nothing.
use mathlib.Core.Path.{◌≡◌, refl, ap}
use mathlib.Core.List.Memᴰ
use mathlib.Core.List.{List, [], ◌∷◌, Memᴰ}
use mathlib.Core.Bool.{true}
use mathlib.Core.Logic.{inl, inr, ⊎_elim}
use Prim.Native.Nat.{ℕ}
use lib.IntN.{ℤ, pos, negsuc}
use Rattle.basis.specs.Refusal.{gives, refuses, plain, not_there}
use Rattle.book.specs.Rules.{walk_end, walk, walk_from, head_of, heads_of, same_group, group_size, tally, group_count, largest, step_limit}
use Rattle.book.specs.Rules.{above, mergeable, merge_heads, link_heads, decide, open_book, write_book, join_book, behind, and_on, join_each}
use Rattle.book.specs.One.{next_here, size_here, one, one_book}
use Rattle.book.specs.Series.{Call, Answer, Slip, slip, State, state, put_each, after, run, answer, answers, Accepted}
use Rattle.order.specs.Order.{Paired, SamePairs, GroupsAgree}
use Rattle.order.proofs.Order.{order-free}

-- ---- "Two clerks enter the same slips in different orders": three lots, 1 joined with 0 and with 2, in an area that held other things
abbrev three : State (List ℤ)
three = state (pos 0 ∷ pos 7 ∷ negsuc 9 ∷ []) (gives tt) [] 0

abbrev one_clerk : List Call
one_clerk = Call.opening ∷ Call.joining 0 1 ∷ Call.joining 1 2 ∷ []

-- the slips of the other: the other way round, one of them twice, with a question between and a slip that names no lot of the book
abbrev other_clerk : List Call
other_clerk = Call.opening ∷ Call.joining 2 1 ∷ Call.comparing 0 2 ∷ Call.joining 0 3 ∷ Call.joining_each 1 (0 ∷ 2 ∷ []) ∷ []

pub one-slips : (run one_book three one_clerk).slips ≡ slip 1 2 ∷ slip 0 1 ∷ []
unfolding run after open_book join_book write_book decide heads_of link_heads merge_heads above mergeable walk_from walk one next_here
    size_here
one-slips = refl

pub other-slips : (run one_book three other_clerk).slips ≡ slip 1 2 ∷ slip 1 0 ∷ slip 2 1 ∷ []
unfolding run after open_book join_book write_book decide heads_of link_heads merge_heads above mergeable walk_from walk one next_here
    size_here
    put_each behind and_on join_each
other-slips = refl

-- "Heads and walks may differ"
abbrev walks : List Call
walks = Call.heading 0 ∷ Call.heading 1 ∷ Call.heading 2 ∷ []

pub one-walks : answers one_book (run one_book three one_clerk) walks
    ≡ Answer.heads (gives (walk_end 0 0)) ∷ Answer.heads (gives (walk_end 0 1)) ∷ Answer.heads (gives (walk_end 0 1)) ∷ []
unfolding answers answer head_of run after open_book join_book write_book decide heads_of link_heads merge_heads above mergeable walk_from
    walk one
    next_here size_here
one-walks = refl

pub other-walks : answers one_book (run one_book three other_clerk) walks
    ≡ Answer.heads (gives (walk_end 1 1)) ∷ Answer.heads (gives (walk_end 1 0)) ∷ Answer.heads (gives (walk_end 1 1)) ∷ []
unfolding answers answer head_of run after open_book join_book write_book decide heads_of link_heads merge_heads above mergeable walk_from
    walk one
    next_here size_here put_each behind and_on join_each
other-walks = refl

-- the answers that agree, a refusal among them
abbrev asked : List Call
asked = Call.comparing 0 2 ∷ Call.sizing 0 ∷ Call.counting ∷ Call.limiting 2 ∷ Call.comparing 0 3 ∷ []

abbrev told : List Answer
told = Answer.compares (gives true) ∷ Answer.reads (gives 3) ∷ Answer.reads (gives 1) ∷ Answer.reads (gives 1)
    ∷ Answer.compares (refuses (plain not_there)) ∷ []

pub one_told : answers one_book (run one_book three one_clerk) asked ≡ told
unfolding answers answer head_of same_group group_size group_count step_limit tally largest run after open_book join_book write_book decide
    heads_of
    link_heads merge_heads above mergeable walk_from walk one next_here size_here
one_told = refl

pub other-told : answers one_book (run one_book three other_clerk) asked ≡ told
unfolding answers answer head_of same_group group_size group_count step_limit tally largest run after open_book join_book write_book decide
    heads_of
    link_heads merge_heads above mergeable walk_from walk one next_here size_here put_each behind and_on join_each
other-told = refl

-- the pairs are the same
other_way : Slip → Slip
other_way s = slip s.right s.left

of_cons : {P : Type 0} {s x : Slip} {js : List Slip} → (s ≡ x → P) → (Memᴰ s js → P) → Memᴰ s (x ∷ js) → P
of_cons f g m = ⊎_elim f g (Memᴰ.cases_cons m)

ones-paired : (u v : ℕ) → Accepted (slip 1 2 ∷ slip 0 1 ∷ []) u v → Paired (slip 1 2 ∷ slip 1 0 ∷ slip 2 1 ∷ []) u v
unfolding other_way
ones-paired u v m =
    of_cons (λ e. inl (Memᴰ.head e))
    (of_cons (λ e. inr (Memᴰ.tail (Memᴰ.head (ap other_way e)))) (λ z. absurd (Memᴰ.not-nil z))) m

others-paired : (u v : ℕ) → Accepted (slip 1 2 ∷ slip 1 0 ∷ slip 2 1 ∷ []) u v → Paired (slip 1 2 ∷ slip 0 1 ∷ []) u v
unfolding other_way
others-paired u v m =
    of_cons (λ e. inl (Memᴰ.head e))
    (of_cons (λ e. inr (Memᴰ.tail (Memᴰ.head (ap other_way e))))
    (of_cons (λ e. inr (Memᴰ.head (ap other_way e))) (λ z. absurd (Memᴰ.not-nil z)))) m

either_way : {js ks : List Slip} → ((u v : ℕ) → Accepted js u v → Paired ks u v) → (u v : ℕ) → Paired js u v → Paired ks u v
either_way h u v p = ⊎_elim (λ m. h u v m) (λ m. ⊎_elim inr inl (h v u m)) p

pub clerks-pairs : SamePairs (run one_book three one_clerk).slips (run one_book three other_clerk).slips
clerks-pairs u v = rw (one-slips, other-slips) (either_way ones-paired u v, either_way others-paired u v)

-- so the books agree, whatever else is asked of groups
pub clerks-agree : GroupsAgree (run one_book three one_clerk) (run one_book three other_clerk)
clerks-agree = order-free three three refl _ _ (λ _. clerks-pairs)
