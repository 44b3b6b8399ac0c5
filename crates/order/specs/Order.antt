-- Change K11, "Entry order of a shift": "Two clerks enter the same slips in different orders, and the lists must agree."
use Rattle.std.specs.Prelude.{◌≡◌, List, ◌∷◌, true, ◌⊎◌, ◌↔◌, ℕ, ◌≤◌, ℤ, length}
use Rattle.basis.specs.Limits.{most_vertices}
use Rattle.basis.specs.Refusal.{gives}
use Rattle.book.specs.One.{one_book}
use Rattle.book.specs.Series.{Call, opening, comparing, sizing, counting, limiting, compares, Slip, State, Accepted}
use Rattle.book.specs.Series.{after, run, answer}

-- u and v are a pair of these joins, whichever of them was named first
abbrev pub Paired : List Slip → ℕ → ℕ → Type 0
Paired js u v = Accepted js u v ⊎ Accepted js v u

-- "hold the same pairs in any order, with repeats allowed"
abbrev pub SamePairs : List Slip → List Slip → Type 0
SamePairs js ks = (u v : ℕ) → Paired js u v ↔ Paired ks u v

-- What agrees in two books, of every number asked for, vertices or not, refusals included:
pub record GroupsAgree (s t : State (List ℤ)) : Type 0 where
  -- "same-group answers"
  pub compared : (u v : ℕ) → answer one_book s (comparing u v) ≡ answer one_book t (comparing u v)
  -- "group sizes"
  pub sized : (v : ℕ) → answer one_book s (sizing v) ≡ answer one_book t (sizing v)
  -- "and counts are equal"
  pub counted : answer one_book s counting ≡ answer one_book t counting
  -- "and step limits agree"
  pub limited : (v : ℕ) → answer one_book s (limiting v) ≡ answer one_book t (limiting v)

-- "for any two series of accepted joins from fresh books of equal size": areas of one length, whatever they hold, an opening of each and
-- any calls after it, further openings among them. The joins are those accepted since the latest opening; above 65,536, where no area
-- opens, nothing is asked of them
abbrev pub OrderFree : Type 0
OrderFree = (s t : State (List ℤ)) → length s.area ≡ length t.area → (cs ds : List Call)
    → (length s.area ≤ most_vertices → SamePairs (run one_book s (opening ∷ cs)).slips (run one_book t (opening ∷ ds)).slips)
    → GroupsAgree (run one_book s (opening ∷ cs)) (run one_book t (opening ∷ ds))

-- "a further join never turns a "same group" into "apart"", nor does any further call but an opening
abbrev pub NeverApart : Type 0
NeverApart = (s : State (List ℤ)) (cs : List Call) (c : Call) → (c ≡ opening → ⊥) → (u v : ℕ)
    → answer one_book (run one_book s (opening ∷ cs)) (comparing u v) ≡ compares (gives true)
    → answer one_book (after one_book (run one_book s (opening ∷ cs)) c) (comparing u v) ≡ compares (gives true)
