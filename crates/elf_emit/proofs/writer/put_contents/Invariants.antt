use Rattle.std.proofs.Common.{◌≡◌, ◌≤◌, ◌++◌, drop, vec_len}
use Rattle.elf_emit.specs.Prelude.{contents, all_shown}
use Rattle.elf_emit.proofs.Placing.{most, limit}
use Rattle.elf_emit.proofs.writer.put_contents.Given as goal

abbrev pub invariant-loop-part : goal.invariant-loop-part
invariant-loop-part l = record {
  bytes : l.file.items ++ contents (all_shown (drop l.part-index l.parts)) (vec_len l.file) ≡ l.initial.file.items ++ contents (all_shown l.parts) (vec_len l.initial.file);
  room : most (vec_len l.file) (all_shown (drop l.part-index l.parts)) ≤ limit;
}
