-- The rules "The loaded graph" and "Kernels": what every kernel answers.
use Rattle.std.specs.Prelude.{ℕ, Bool, Result, Ok, Err}
use Rattle.basis.specs.declared.refusal.Refusal.{Refusal}
use Rattle.basis.specs.Refusal.{Said, gives, refuses, unsound, no_room, check}

-- the paper's number and values of an answer: a kernel has no values beside its areas
abbrev pub says : Result (Unit {0}) Refusal → Said (Unit {0})
says (Ok u) = gives u
says (Err r) = refuses r

-- "Kernels check 9, then 10 or 11, then 8": by whether the graph is sound, the parameter good (else the refusal with its number) and the
-- room enough
unfoldable pub kernel_says : Bool → Bool → ℕ → Bool → Said (Unit {0})
kernel_says sound given number room =
    check sound unsound (check given number (check room no_room (gives tt)))

-- the numbers of the kernels: "kernel (1 BFS, 2 WCC, 3 CDLP, 4 LCC)"
abbrev pub bfs_number : ℕ
bfs_number = 1

-- "2 WCC", of the same sentence
abbrev pub wcc_number : ℕ
wcc_number = 2

-- "3 CDLP"
abbrev pub cdlp_number : ℕ
cdlp_number = 3

-- "4 LCC"
abbrev pub lcc_number : ℕ
lcc_number = 4

-- Change K3: "It is kernel 5"
abbrev pub sssp_number : ℕ
sssp_number = 5
