-- What the steps of the soundness check answer, piece by piece of `sound_graph`.
use Rattle.std.specs.Prelude.{ℕ, Bool, List}
use Rattle.basis.specs.Scan.{each, mem}
use Rattle.graph.specs.Part.{part_of}

-- each arc from u to a member of a list stands at its other end
abbrev pub answered : ℕ → List ℕ → List ℕ → ℕ → List ℕ → Bool
answered n off tgt u l = each (λ w. mem u (part_of n off tgt w)) l
