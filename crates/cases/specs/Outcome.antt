-- The rules "Promises worth signing": "For each, prove that any two outcomes it allows are equal".
use Rattle.std.specs.Prelude.{◌≡◌}
use seplogic.Ra.Ura.{Ura}
use base.Logic.{SProp}
use prog.Memory.{Memory}
use prog.Routine.{Routine}
use types.Logic.{Logic}
use contract.Lifetimes.{Lfts}
use contract.Monad.{Fun, fact}
use denote.Triple.Entry.{Args, Res}
use denote.Triple.Clauses.{Ended, Clauses, Lasts, AtExit, at_exit}

-- a function's `requires` and `ensures`, as Rattle makes them of the source, over every model of its logic
abbrev pub Contract : Ended → Type 2
Contract f = (M : Type 1) (𝓤 : Ura M) → (𝓛 : Logic 𝓤) → (Memory → SProp 𝓤) → (Routine → Fun 𝓤) → Clauses 𝓤 f

-- a plain promise: what holds of the arguments, the answer and the arguments at exit
abbrev pub Promise : Ended → Type 1
Promise f = (κs : Lfts f.signature.lifetimes) → Args f.signature κs → Res f.signature κs → AtExit f κs → Type 0

module _ (f : Ended) (contract : Contract f) where
  -- an `ensures` of f over every model: of the arguments, the ghost value that the contract speaks of, the answer and the arguments at exit
  abbrev Ensures : Type 2
  Ensures =
      (M : Type 1) (𝓤 : Ura M) (𝓛 : Logic 𝓤) (mem : Memory → SProp 𝓤) (run : Routine → Fun 𝓤)
      (κs : Lfts f.signature.lifetimes) (a : Args f.signature κs)
      → (contract M 𝓤 𝓛 mem run κs a).ghost → Res f.signature κs → AtExit f κs → SProp 𝓤

  -- the contract's `ensures`
  abbrev pub ensured : Ensures
  ensured M 𝓤 𝓛 mem run κs a g z e = (contract M 𝓤 𝓛 mem run κs a).ensures g z e

  -- a plain promise P as an `ensures`: in every model, the fact that P holds, whatever the ghost value
  abbrev pub promised : Promise f → Ensures
  promised P M 𝓤 𝓛 mem run κs a g z e = fact 𝓤 (P κs a z e)

  -- A function has one outcome, of whose answer so much is read: z and z' are answers, w and w' what stands at exit in the areas lent
  -- for writing.
  pub record OneAs {A : Lfts f.signature.lifetimes → Type 0}
      (read : (κs : Lfts f.signature.lifetimes) → Res f.signature κs → A κs) : Type 2 where
    pub promise : Promise f
    -- the promise is the whole `ensures`
    pub told : ensured ≡ promised promise
    -- "any two outcomes it allows are equal", of the same arguments
    pub one : (κs : Lfts f.signature.lifetimes) (a : Args f.signature κs) (z z' : Res f.signature κs) (w w' : Lasts f κs a)
        → promise κs a z (at_exit f κs a w) → promise κs a z' (at_exit f κs a w')
        → (read κs z ≡ read κs z') × (w ≡ w')

  -- the same of the whole answer
  abbrev pub One : Type 2
  One = OneAs (λ κs z. z)
