use native.Mathlib.Omega.{arith}
use Rattle.sssp.proofs.Winners.{top-low}
use Rattle.sssp.proofs.search.nearest.Goals as goal

pub offset_bounds-key-u : goal.offset_bounds-key-u
offset_bounds-key-u c = omega (arith, top-low _ _ c.requires.played c.requires.key_len, c.winner-u.ensures)

pub bounds-key-u : goal.bounds-key-u
bounds-key-u c = omega (arith, top-low _ _ c.requires.played c.requires.key_len, c.winner-u.ensures)
