-- One walk over the outward arcs, with a cursor for each vertex, the place in the sources area that its next inward arc takes: what the
-- steps of the quick soundness check say.
use Rattle.std.specs.Prelude.{ℕ, zero, suc, ◌+◌, ◌≡◌, Bool, true, false, ◌&&◌, List, [], ◌∷◌, length, get_or, set, eqb, ltb}
use Rattle.basis.specs.Scan.{every}
use Rattle.graph.specs.Sound.{sound_part, sound_side}

-- each way is sound for itself, the outward one as a view
pub record Ways (n : ℕ) (out : ℕ → List ℕ) (off src : List ℕ) : Type 0 where
  pub arcs : ℕ
  pub outward : every n (λ v. sound_part n v (out v)) ≡ true
  pub inward : sound_side n arcs off src ≡ true

-- what a check that is lent a working area answers and leaves there
pub record ArcsChecked : Type 0 where
  pub sound : Bool
  pub cursors : List ℕ

-- the same, by its fields in order
abbrev pub arcs_checked : Bool → List ℕ → ArcsChecked
arcs_checked sound cursors = record { sound = sound; cursors = cursors }

-- u stands at w's cursor
abbrev pub is_next : List ℕ → ℕ → List ℕ → ℕ → Bool
is_next src u cursors w = ltb (get_or cursors w 0) (length src) && eqb (get_or src (get_or cursors w 0) 0) u

-- the arcs from u to a list's members, in order: u stands at the target's cursor, which moves on by one, or the walk breaks off
unfoldable pub arcs_walked : List ℕ → ℕ → List ℕ → List ℕ → ArcsChecked
arcs_walked src u [] cursors = arcs_checked true cursors
arcs_walked src u (w ∷ l) cursors =
    elim (is_next src u cursors w) [
      | true ↦ arcs_walked src u l (set cursors w (get_or cursors w 0 + 1))
      | false ↦ arcs_checked false cursors
    ]

-- the arcs of the vertices below u, in order
unfoldable pub all_walked : List ℕ → (ℕ → List ℕ) → ℕ → List ℕ → ArcsChecked
all_walked src out zero cursors = arcs_checked true cursors
all_walked src out (suc u) cursors =
    let before = all_walked src out u cursors in elim before.sound [ true ↦ arcs_walked src u (out u) before.cursors | false ↦ before ]

-- every cursor stands at the end of its vertex's part
abbrev pub at_ends : ℕ → List ℕ → List ℕ → Bool
at_ends n off cursors = every n (λ w. eqb (get_or cursors w 0) (get_or off (w + 1) 0))
