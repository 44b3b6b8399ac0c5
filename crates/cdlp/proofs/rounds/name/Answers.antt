use mathlib.Core.Path.{◌∙◌}
use borrow.Author.Rules.{rules}
use native.Mathlib.Omega.{arith}
use lib.IntN.{pos}
use mir.Facts.{to_z-of_z}
use mir.Syntax.{w64}
use Rattle.basis.proofs.Areas.{column-none, column-more, column-end}
use Rattle.cdlp.proofs.Lists.{column-look}
use Rattle.cdlp.proofs.rounds.name.Goals as goal

pub loop-v-init : goal.loop-v-init
loop-v-init c = column-none _ _

pub loop-v-preserved : goal.loop-v-preserved
loop-v-preserved c =
    let room = c.requires.room_result in
    column-more _ c.loop-v.v _ _ _ (omega arith) c.loop-v.invariant (to_z-of_z {w = w64} (search rules))

pub returns : goal.returns
returns c =
    let room = c.requires.room_result in
    column-end _ c.loop-v.v _ _ _ (omega arith) (omega arith) c.loop-v.invariant ∙ column-look (pos 0) _ _
