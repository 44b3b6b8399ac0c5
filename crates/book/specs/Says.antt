-- "a definition that gives this paper's number and values for each of its cases", for each answer of the book.
use Rattle.std.specs.Prelude.{Bool, ℕ, Result, Ok, Err}
use Rattle.basis.specs.declared.refusal.Refusal.{Refusal}
use Rattle.basis.specs.Refusal.{Said, said, mapped}
use Rattle.book.specs.Rules.{WalkEnd, walk_end, Joining, merged, same, Each, all, stopped}
use Rattle.book.specs.declared.joining.Joining as Code
use Rattle.book.specs.declared.joining.Stopped.{Stopped}
use Rattle.book.specs.declared.Head.{Head}

-- an opening gives no value
abbrev pub says_opened : Result (Unit {0}) Refusal → Said (Unit {0})
says_opened a = said a

-- an accepted join merged two groups or found one
abbrev pub as_joining : Code.Joining → Joining
as_joining Code.Joining.Merged = merged
as_joining Code.Joining.Already = same

abbrev pub says_joined : Result Code.Joining Refusal → Said Joining
says_joined a = mapped as_joining (said a)

-- all joins of a series were accepted, or it stopped at one that was refused
abbrev pub says_joined_each : Result ℕ Stopped → Each
says_joined_each (Ok merges) = all merges
says_joined_each (Err s) = stopped s.joined s.merges s.refusal

-- the head and the moves
abbrev pub as_end : Head → WalkEnd
as_end h = walk_end h.head h.moves

abbrev pub says_headed : Result Head Refusal → Said WalkEnd
says_headed a = mapped as_end (said a)

-- whether the two are of one group
abbrev pub says_compared : Result Bool Refusal → Said Bool
says_compared a = said a

-- a size, a count or a step limit
abbrev pub says_reading : Result ℕ Refusal → Said ℕ
says_reading a = said a
