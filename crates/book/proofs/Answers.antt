-- Laws of the answers: what an answer says determines it, a refused call changes nothing, a vertex joined to itself merges nothing,
-- joins with each of a list stand up to the refused one. Assumes nothing.
use mathlib.Core.Path.{◌≡◌, refl, sym, ap, ap₂, ◌∙◌}
use mathlib.Core.List.{List, [], ◌∷◌}
use mathlib.Core.Bool.{Bool, true, false, cond}
use Prim.Native.Nat.{ℕ, suc, ◌+◌}
use native.Mathlib.Omega.{arith}
use lib.ListN.{take}
use Rattle.basis.proofs.Tests.{no-case}
use Rattle.basis.proofs.Saids.{one_of, refused-given, given-one}
use Rattle.basis.specs.declared.refusal.Refusal.{Refusal}
use Rattle.basis.specs.Refusal.{Said, gives, refuses, plain, no_room, said, onward, mapped}
use Rattle.std.specs.Prelude.{Result, Ok, Err}
use Rattle.book.specs.declared.joining.Joining as Code
use Rattle.book.specs.declared.joining.Stopped.{Stopped}
use Rattle.book.specs.declared.Head.{Head}
use Rattle.book.specs.Rules.{WalkEnd, Heads, Step, already, merge, Joining, merged, same, Machine, Outcome}
use Rattle.book.specs.Rules.{outcome, heads_of, link_heads, decide, open_book, write_book, join_book, Each}
use Rattle.book.specs.Rules.{all, stopped, EachOutcome, each_outcome, counted, behind, and_on, join_each}
use Rattle.book.specs.Says.{says_opened, as_joining, as_end, says_joined, says_joined_each, says_headed, says_compared, says_reading}
use Rattle.book.proofs.Calls.{heads-inside}
use Rattle.book.proofs.Joins.{link-already}

-- ---- two answers that say the same are the same: what is said leads back to the answer
module _ {A B : Type 0} (there : A → B) (back : B → A) (known : (a : A) → back (there a) ≡ a) where
  abbrev answered : Said B → Result A Refusal
  answered (gives x) = Ok (back x)
  answered (refuses r) = Err r

  answered-back : (a : Result A Refusal) → answered (mapped there (said a)) ≡ a
  answered-back (Ok x) = ap Ok (known x)
  answered-back (Err r) = refl

  one-answer : (a b : Result A Refusal) → mapped there (said a) ≡ mapped there (said b) → a ≡ b
  one-answer = one_of (λ a. mapped there (said a)) answered answered-back

one_said : {A : Type 0} (a b : Result A Refusal) → said a ≡ said b → a ≡ b
one_said (Ok x) (Ok y) e = ap Ok (given-one e)
one_said (Ok x) (Err r) e = refused-given (sym e)
one_said (Err r) (Ok y) e = refused-given e
one_said (Err r) (Err q) e = cc

pub one-opened : (a b : Result (Unit {0}) Refusal) → says_opened a ≡ says_opened b → a ≡ b
one-opened = one_said

abbrev joining : Joining → Code.Joining
joining merged = Code.Joining.Merged
joining same = Code.Joining.Already

joining-back : (j : Code.Joining) → joining (as_joining j) ≡ j
joining-back Code.Joining.Merged = refl
joining-back Code.Joining.Already = refl

pub one-joined : (a b : Result Code.Joining Refusal) → says_joined a ≡ says_joined b → a ≡ b
one-joined = one-answer as_joining joining joining-back

abbrev joined_each : Each → Result ℕ Stopped
joined_each (all merges) = Ok merges
joined_each (stopped joined merges r) = Err (record { joined = joined; merges = merges; refusal = r })

joined_each-back : (a : Result ℕ Stopped) → joined_each (says_joined_each a) ≡ a
joined_each-back (Ok merges) = refl
joined_each-back (Err s) = refl

pub one-joined_each : (a b : Result ℕ Stopped) → says_joined_each a ≡ says_joined_each b → a ≡ b
one-joined_each = one_of says_joined_each joined_each joined_each-back

pub one-headed : (a b : Result Head Refusal) → says_headed a ≡ says_headed b → a ≡ b
one-headed = one-answer as_end (λ f. record { head = f.head; moves = f.moves }) (λ h. refl)

pub one-compared : (a b : Result Bool Refusal) → says_compared a ≡ says_compared b → a ≡ b
one-compared = one_said

pub one-reading : (a b : Result ℕ Refusal) → says_reading a ≡ says_reading b → a ≡ b
one-reading = one_said

-- ---- "Refused book calls change nothing"
module _ (M : Machine) (a : M.Area) where
  pub open-unchanged : (r : Refusal) → (open_book M a).said ≡ refuses r → (open_book M a).area ≡ a
  unfolding open_book
  open-unchanged r e = go (M.view a).fit e
    where
      left : Bool → Outcome (Unit {0}) M.Area
      left t = cond t (outcome (gives tt) (M.opened a)) (outcome (refuses (plain no_room)) a)

      go : (t : Bool) → (left t).said ≡ refuses r → (left t).area ≡ a
      go true e = refused-given (sym e)
      go false e = refl

  pub join-unchanged : (u v : ℕ) (r : Refusal) → (join_book M a u v).said ≡ refuses r → (join_book M a u v).area ≡ a
  unfolding join_book write_book
  join-unchanged u v r e = go (decide (M.view a) u v) e
    where
      go : (d : Said Step) → (write_book M d a).said ≡ refuses r → (write_book M d a).area ≡ a
      go (gives already) e = refl
      go (gives (merge top under total)) e = refused-given (sym e)
      go (refuses s) e = refl

  -- "joining a vertex to itself merges nothing"
  pub join-itself : (v : ℕ) → (join_book M a v v).area ≡ a
  unfolding join_book decide write_book
  join-itself v = go (heads_of (M.view a) v v) refl
    where
      go : (d : Said Heads) → heads_of (M.view a) v v ≡ d
          → (write_book M (onward (heads_of (M.view a) v v) (link_heads (M.view a))) a).area ≡ a
      go (gives p) e =
          let t = (heads-inside (M.view a) v v p.first p.second e).3 in
          let q : p.first ≡ p.second = ap (λ (f : WalkEnd). f.head) (given-one (sym t.2 ∙ t.3)) in
          ap (λ s. (write_book M (onward s (link_heads (M.view a))) a).area) e
          ∙ ap (λ d. (write_book M d a).area) (link-already (M.view a) p.first p.second q)
      go (refuses r) e = ap (λ s. (write_book M (onward s (link_heads (M.view a))) a).area) e

-- ---- joins of one vertex with each of a list

-- what a join adds to those that merged
abbrev pub merges_by : Joining → ℕ
merges_by merged = 1
merges_by same = 0

module _ (M : Machine) (u : ℕ) where
  module _ (a : M.Area) (w : ℕ) (ws : List ℕ) where
    -- the first join, and those behind it
    pub each-said : (j : Joining) → (join_book M a u w).said ≡ gives j
        → join_each M a u (w ∷ ws) ≡ behind 1 (merges_by j) (join_each M (join_book M a u w).area u ws)
    unfolding join_each and_on
    each-said merged e = ap (λ (d : Said Joining). and_on d (join_book M a u w).area (join_each M (join_book M a u w).area u ws)) e
    each-said same e = ap (λ (d : Said Joining). and_on d (join_book M a u w).area (join_each M (join_book M a u w).area u ws)) e

    pub each-stopped : (r : Refusal) → (join_book M a u w).said ≡ refuses r
        → join_each M a u (w ∷ ws) ≡ each_outcome (stopped 0 0 r) (join_book M a u w).area
    unfolding join_each and_on
    each-stopped r e = ap (λ (d : Said Joining). and_on d (join_book M a u w).area (join_each M (join_book M a u w).area u ws)) e

  -- where they stop, those before the refused one stand, it changes nothing, and none behind it is made
  pub each_stands : (a : M.Area) (ws : List ℕ) (k m : ℕ) (r : Refusal) → (join_each M a u ws).said ≡ stopped k m r
      → join_each M a u (take k ws) ≡ each_outcome (all m) (join_each M a u ws).area
  unfolding join_each behind
  each_stands a [] k m r e = no-case cc
  each_stands a (w ∷ ws) k m r e = first (join_book M a u w).said refl (λ i n q f. each_stands b ws i n q f)
    where
      b : M.Area
      b = (join_book M a u w).area

      Stands : Type 0
      Stands = join_each M a u (take k (w ∷ ws)) ≡ each_outcome (all m) (join_each M a u (w ∷ ws)).area

      Behind : Type 0
      Behind = (i n : ℕ) (q : Refusal) → (join_each M b u ws).said ≡ stopped i n q
          → join_each M b u (take i ws) ≡ each_outcome (all n) (join_each M b u ws).area

      rest : (j : Joining) → (join_book M a u w).said ≡ gives j → Behind → (x : Each) → (join_each M b u ws).said ≡ x → Stands
      rest j d ih (all n) f =
          let z : all (n + merges_by j) ≡ stopped k m r = ap (counted 1 (merges_by j)) (sym f)
          ∙ sym (ap (λ (y : EachOutcome M.Area). y.said) (each-said a w ws j d)) ∙ e in
          no-case cc
      rest j d ih (stopped i n q) f =
          let z : stopped (i + 1) (n + merges_by j) q ≡ stopped k m r
          = ap (counted 1 (merges_by j)) (sym f) ∙ sym (ap (λ (y : EachOutcome M.Area). y.said) (each-said a w ws j d)) ∙ e in
          let p : i + 1 ≡ k = cc in
          let t : k ≡ suc i = omega arith in
          let o : n + merges_by j ≡ m = cc in
          ap (λ (y : ℕ). join_each M a u (take y (w ∷ ws))) t ∙ each-said a w (take i ws) j d ∙ ap (behind 1 (merges_by j)) (ih i n q f)
          ∙ ap₂ (λ (y : ℕ) (c : M.Area). each_outcome (all y) c) o
          (sym (ap (λ (y : EachOutcome M.Area). y.area) (each-said a w ws j d)))

      first : (d : Said Joining) → (join_book M a u w).said ≡ d → Behind → Stands
      first (gives j) d ih = rest j d ih (join_each M b u ws).said refl
      first (refuses q) d ih =
          let s = each-stopped a w ws q d in
          let z : stopped 0 0 q ≡ stopped k m r = sym (ap (λ (y : EachOutcome M.Area). y.said) s) ∙ e in
          let p : k ≡ 0 = cc in
          let o : ◌≡◌ {A = ℕ} 0 m = cc in
          ap (λ (y : ℕ). join_each M a u (take y (w ∷ ws))) p
          ∙ ap₂ (λ (y : ℕ) (c : M.Area). each_outcome (all y) c) o
          (sym (ap (λ (y : EachOutcome M.Area). y.area) s ∙ join-unchanged M a u w q d))
