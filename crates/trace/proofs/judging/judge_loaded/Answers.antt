use mir.Facts.{to_z-of_z}
use Rattle.trace.proofs.Claims.{desk-small, desk-told}
use Rattle.trace.proofs.judging.judge_loaded.Goals as goal

pub host_code-requires : goal.host_code-requires
host_code-requires c = search desk-small

pub returns : goal.returns
returns c = search (desk-told, to_z-of_z)
