-- The kernels by their numbers.
use Rattle.std.specs.Prelude.{ℕ, ◌≡◌, Result, MatchResult}
use Rattle.kernels.specs.declared.Kernel.{Kernel}
use Rattle.kernels.specs.declared.Kernel.TheVariants.{Bfs, Wcc, Cdlp, Lcc, Sssp}
use Rattle.kernels.specs.declared.UnknownKernel.{UnknownKernel}
use Rattle.kernels.specs.Answer.{bfs_number, wcc_number, cdlp_number, lcc_number, sssp_number}

-- "kernel (1 BFS, 2 WCC, 3 CDLP, 4 LCC)", and 5 of SSSP
abbrev pub number_of : Kernel → ℕ
number_of Bfs = bfs_number
number_of Wcc = wcc_number
number_of Cdlp = cdlp_number
number_of Lcc = lcc_number
number_of Sssp = sssp_number

-- a number that is no kernel's
abbrev pub Nameless : ℕ → Type 0
Nameless number = (kernel : Kernel) → number_of kernel ≡ number → ⊥

-- the result is the kernel that has this number, or the number, which no kernel has
abbrev pub Named : ℕ → Result Kernel UnknownKernel → Type 0
Named number r = MatchResult r (λ kernel. number_of kernel ≡ number) (λ e. (e.0 ≡ number) × Nameless number)
