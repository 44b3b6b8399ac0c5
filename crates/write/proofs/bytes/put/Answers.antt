use Rattle.write.proofs.Puts.{byte-room, byte_past}
use Rattle.write.proofs.bytes.put.Goals as goal

pub returns-then-at-out : goal.returns-then-at-out
returns-then-at-out c = search byte-room

pub returns : goal.returns
returns c = search byte_past
