use Prim.Native.Nat.{ℕ, ◌*◌, ◌<◌}
use mathlib.Core.Path.{◌≡◌}
use native.Mathlib.Omega.{arith}
use lib.ListN.{length}
use Rattle.sssp.specs.Tree.{won}
use Rattle.sssp.proofs.Winners.{won-low}
use Rattle.sssp.proofs.tree.play.Goals as goal

pub nearer-requires : goal.nearer-requires
nearer-requires c =
    let low : (k r : ℕ) → k < 2 * length c.args.tree.now → r ≡ won c.args.tree.now k
    → r < length c.args.key.now = λ k r h e.
    let a = won-low c.args.key.now c.args.tree.now c.requires.nodes k h in omega (arith, c.requires.nodes.long) in
    (low _ _ (omega arith) c.winner-a.ensures, low _ _ (omega arith) c.winner-b.ensures)
