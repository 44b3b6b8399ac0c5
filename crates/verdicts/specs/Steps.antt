-- What private functions say of their work: a claim judged on what a kernel has left in its areas.
use Rattle.std.specs.Prelude.{ℕ, ◌≤◌, ◌≡◌, Bool, true, List, ℤ, pos, length, take, replicate}
use Rattle.basis.specs.Refusal.{Said, gives, refuses, no_room, check}
use Rattle.basis.specs.Area.{leaves, cleared, cleared_z}
use Rattle.graph.specs.Find.{bisected}
use Rattle.graph.specs.Sound.{Graph, sound_graph}
use Rattle.matching.specs.declared.numbers.Rule.{Rule}
use Rattle.matching.specs.Claim.{number_lines, coefficient_lines}
use Rattle.matching.specs.Verdict.{Verdict, mismatch_vertex, judged_by}
use Rattle.matching.specs.Calls.{fractions, far_within, no_decimal}
use Rattle.verdicts.specs.Reference.{Reference, bfs_reference, wcc_reference, cdlp_reference, lcc_reference}
use Rattle.verdicts.specs.Call.{then_says, verdict_says}

-- an area as it stands, or zero after a refusal
abbrev pub unless_refused : {A : Type 0} → Said Verdict → A → List A → List A
unless_refused (gives v) z l = l
unless_refused (refuses r) z l = replicate (length l) z

-- a working area is zero after a verdict, and has its size after a refusal
abbrev pub Worked : {A : Type 0} → Said Verdict → A → List A → List A → Type 0
Worked (gives v) z before after = after ≡ replicate (length before) z
Worked (refuses r) z before after = length after ≡ length before

-- where a kernel did not refuse, its n vertices have identifiers among so many
abbrev pub Known : Said (Unit {0}) → ℕ → ℕ → Type 0
Known answer n size = answer ≡ gives tt → n ≤ size

-- where there is room in all areas, there are n places in this one, of such a size
abbrev pub Roomy : Bool → ℕ → ℕ → Type 0
Roomy room n size = room ≡ true → n ≤ size

-- what was said of a claim of numbers, the result area, and the working areas for the claimed numbers and their lines
pub record Numbers : Type 0 where
  pub said : Said Verdict
  pub result : List ℤ
  pub claimed : List ℤ
  pub lines : List ℕ

-- the same, by its fields in order
abbrev pub numbers : Said Verdict → List ℤ → List ℤ → List ℕ → Numbers
numbers said result claimed lines = record { said = said; result = result; claimed = claimed; lines = lines }

-- what is said of a claim of numbers by the results of a kernel that answered so, if there is room in all areas
unfoldable pub numbers_says : Said (Unit {0}) → Bool → Rule → ℕ → List ℤ → List ℤ → List ℕ → Said Verdict
numbers_says answer room rule most ids reference s =
    then_says answer (check room no_room
    (judged_by (bisected ids) (length ids) (pos 0) (mismatch_vertex rule reference) (number_lines most s)))

-- the same by the first n identifiers and results; the result area stays, or is zero after a refusal, and the working areas are zero
unfoldable pub numbers_on : Said (Unit {0}) → Bool → Rule → ℕ → ℕ → List ℤ → List ℕ → List ℤ → List ℤ → List ℕ → Numbers
numbers_on answer room rule most n ids s result claimed lines =
    let said = numbers_says answer room rule most (take n ids) (take n result) s in
    numbers said (unless_refused said (pos 0) result) (cleared_z claimed) (cleared lines)

-- a kernel's verdict on a claim of numbers: what is said, its values in the result area, and zero in the working areas
unfoldable pub numbers_verdict : Reference → Bool → Bool → List ℤ → List ℤ → List ℕ → Numbers
numbers_verdict k sound room result claimed lines =
    let said = verdict_says k sound room in
    numbers said (leaves said (pos 0) (length result) k.values) (cleared_z claimed) (cleared lines)

-- that of BFS from a root on a lent graph, with room in all areas or not
abbrev pub bfs_verdict : Bool → ℕ → Graph → ℤ → List ℕ → List ℤ → List ℤ → List ℕ → Numbers
bfs_verdict room most g root s result claimed lines = numbers_verdict (bfs_reference most g s root) (sound_graph g) room result claimed
    lines

-- that of WCC
abbrev pub wcc_verdict : Bool → ℕ → Graph → List ℕ → List ℤ → List ℤ → List ℕ → Numbers
wcc_verdict room most g s result claimed lines = numbers_verdict (wcc_reference most g s) (sound_graph g) room result claimed lines

-- that of CDLP after so many iterations
abbrev pub cdlp_verdict : Bool → ℕ → Graph → ℤ → List ℕ → List ℤ → List ℤ → List ℕ → Numbers
cdlp_verdict room most g iterations s result claimed lines =
    numbers_verdict (cdlp_reference most g s iterations) (sound_graph g) room result claimed lines

-- what was said of a claim of coefficients, their two result areas and the working area for their lines
pub record Terms : Type 0 where
  pub said : Said Verdict
  pub first : List ℕ
  pub second : List ℕ
  pub lines : List ℕ

-- the same, by its fields in order
abbrev pub terms : Said Verdict → List ℕ → List ℕ → List ℕ → Terms
terms said first second lines = record { said = said; first = first; second = second; lines = lines }

-- what is said of a claim of coefficients by the first n fractions in a kernel's two result areas, if there is room in all areas
unfoldable pub terms_says : Said (Unit {0}) → Bool → ℕ → ℕ → List ℤ → List ℕ → List ℕ → List ℕ → Said Verdict
terms_says answer room most n ids s first second =
    then_says answer
    (check room no_room
    (judged_by (bisected (take n ids)) (length (take n ids)) no_decimal (far_within (fractions n first second)) (coefficient_lines most s)))

-- the same with the two areas, which stay or, after a refusal, are zero, and the working area
unfoldable pub terms_on : Said (Unit {0}) → Bool → ℕ → ℕ → List ℤ → List ℕ → List ℕ → List ℕ → List ℕ → Terms
terms_on answer room most n ids s first second lines =
    let said = terms_says answer room most n ids s first second in
    terms said (unless_refused said 0 first) (unless_refused said 0 second) (cleared lines)

-- a kernel's verdict on a claim of coefficients: what is said, its numerators and denominators in the two areas, zero in the working area
unfoldable pub terms_verdict : Reference → Bool → Bool → List ℕ → List ℕ → List ℕ → Terms
terms_verdict k sound room first second lines =
    let said = verdict_says k sound room in
    terms said (leaves said 0 (length first) k.numerators) (leaves said 0 (length second) k.denominators) (cleared lines)

-- that of LCC on a lent graph, with room in all areas or not
abbrev pub lcc_verdict : Bool → ℕ → Graph → List ℕ → List ℕ → List ℕ → List ℕ → Terms
lcc_verdict room most g s first second lines = terms_verdict (lcc_reference most g s) (sound_graph g) room first second lines
