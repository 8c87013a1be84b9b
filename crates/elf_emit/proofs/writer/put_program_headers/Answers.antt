use Rattle.std.proofs.Common.{arith}
use Rattle.std.proofs.lemmas.Grind.{common_steps}
use Rattle.elf_emit.proofs.Placing.{headers_more, headers_all, most_more}
use Rattle.elf_emit.proofs.writer.put_program_headers.Goals as goal

pub loop-part-preserved : goal.loop-part-preserved
loop-part-preserved c = record {
  bytes = headers_more c.args.parts.now c.loop-part.part-index c.loop-part.end c.end_behind-end.result c.offset_of-offset.result _ c.loop-part.file.items c.put_program_header.new.file.items _ c.loop-part-test.true c.in_ok-put_program_header.ensures.bytes c.offset_of-offset.ensures.value c.end_behind-end.ensures.value c.loop-part.invariant.bytes;
  room = most_more c.args.parts.now c.loop-part.part-index c.loop-part.end c.end_behind-end.result _ c.loop-part-test.true c.loop-part.invariant.room c.end_behind-end.ensures.bound;
  headers = grind (arith, common_steps);
}

pub returns-clause-bytes : goal.returns-clause-bytes
returns-clause-bytes c = headers_all c.args.parts.now c.loop-part.part-index c.loop-part.end c.loop-part.file.items _ c.loop-part-test.false c.loop-part.invariant.bytes
