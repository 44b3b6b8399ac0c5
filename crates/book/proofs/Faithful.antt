-- The one set of equations that a form of book has to meet: what an opening and a merge write, as the areas then show it.
use mathlib.Core.Path.{◌≡◌}
use mathlib.Core.Bool.{true}
use Prim.Native.Nat.{ℕ, ◌≤◌, ◌<◌}
use Rattle.basis.specs.Limits.{most_vertices}
use Rattle.book.specs.Rules.{stop, to, View, Machine}

-- two heads that a join merges, and their groups' total
pub record Mergeable (w : View) (top under total : ℕ) : Type 0 where
  pub fit : w.fit ≡ true
  pub top_in : top < w.count
  pub under-in : under < w.count
  pub apart : top ≡ under → ⊥
  pub top_head : w.next top ≡ stop
  pub under-head : w.next under ≡ stop
  pub total-pos : 0 < total

-- the equations
pub record Faithful (M : Machine) : Type 0 where
  pub fit-within : (a : M.Area) → (M.view a).fit ≡ true → (M.view a).count ≤ most_vertices
  pub opened-fit : (a : M.Area) → (M.view a).fit ≡ true → (M.view (M.opened a)).fit ≡ true
  pub opened-count : (a : M.Area) → (M.view (M.opened a)).count ≡ (M.view a).count
  pub opened-next : (a : M.Area) (v : ℕ) → v < (M.view a).count → (M.view (M.opened a)).next v ≡ stop
  pub opened-size : (a : M.Area) (v : ℕ) → v < (M.view a).count → (M.view (M.opened a)).size v ≡ 1
  pub merged-fit : (a : M.Area) (t d s : ℕ) → (M.view (M.merged t d s a)).fit ≡ (M.view a).fit
  pub merged-count : (a : M.Area) (t d s : ℕ) → (M.view (M.merged t d s a)).count ≡ (M.view a).count
  pub merged-under : (a : M.Area) (t d s : ℕ) → Mergeable (M.view a) t d s → (M.view (M.merged t d s a)).next d ≡ to t
  pub merged-next : (a : M.Area) (t d s : ℕ) → Mergeable (M.view a) t d s → (x : ℕ) → (x ≡ d → ⊥)
      → (M.view (M.merged t d s a)).next x ≡ (M.view a).next x
  pub merged-top : (a : M.Area) (t d s : ℕ) → Mergeable (M.view a) t d s → (M.view (M.merged t d s a)).size t ≡ s
  pub merged-size : (a : M.Area) (t d s : ℕ) → Mergeable (M.view a) t d s → (x : ℕ) → (x ≡ t → ⊥) → (x ≡ d → ⊥)
      → (M.view (M.merged t d s a)).size x ≡ (M.view a).size x
