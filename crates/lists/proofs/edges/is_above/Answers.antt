use mir.Syntax.{w64}
use mir.Facts.{to_z-of_z}
use borrow.Author.Rules.{rules}
use Rattle.lists.proofs.Reading.{above-second}
use Rattle.lists.proofs.edges.is_above.Goals as goal

pub returns-then-same : goal.returns-then-same
returns-then-same c =
    above-second c.args.last c.args.edge c.in-Some.p c.in-Some.q c.in-Some.is _ _
    (to_z-of_z {w = w64} (record { sfits = search rules }))
    (to_z-of_z {w = w64} (record { sfits = search rules }))
    _ _ c.less.ensures c.if-less.false c.same.ensures c.if-same.true _ _ _ c.less-then-same.ensures
    (to_z-of_z {w = w64} (record { sfits = search rules }))
    (to_z-of_z {w = w64} (record { sfits = search rules }))
