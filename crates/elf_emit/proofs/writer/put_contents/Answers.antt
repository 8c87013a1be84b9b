use Rattle.std.proofs.Common.{vec_len}
use Rattle.elf_emit.proofs.Placing.{contents_more, contents_all, most_more}
use Rattle.elf_emit.proofs.writer.put_contents.Goals as goal

pub loop-part-preserved : goal.loop-part-preserved
loop-part-preserved c = record {
  bytes = contents_more c.args.parts.now c.loop-part.part-index (vec_len c.loop-part.file) (vec_len c.put_bytes.new.file) _ c.loop-part.file.items c.put_bytes.new.file.items _ c.loop-part-test.true c.in_ok-put_bytes.ensures.bytes c.in_ok-put_bytes.ensures.end c.loop-part.invariant.bytes;
  room = most_more c.args.parts.now c.loop-part.part-index (vec_len c.loop-part.file) (vec_len c.put_bytes.new.file) _ c.loop-part-test.true c.loop-part.invariant.room c.in_ok-put_bytes.ensures.bound;
}

pub returns : goal.returns
returns c = contents_all c.args.parts.now c.loop-part.part-index (vec_len c.loop-part.file) c.loop-part.file.items _ c.loop-part-test.false c.loop-part.invariant.bytes
