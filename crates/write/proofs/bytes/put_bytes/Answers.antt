use Rattle.write.proofs.Puts.{putting-length, bytes-more, bytes-end}
use Rattle.write.proofs.bytes.put_bytes.Goals as goal

pub loop-byte-preserved : goal.loop-byte-preserved
loop-byte-preserved c = search bytes-more

pub shape_of-out : goal.shape_of-out
shape_of-out c = search putting-length

pub returns : goal.returns
returns c = search bytes-end
