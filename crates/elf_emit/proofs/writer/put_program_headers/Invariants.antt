use Rattle.std.proofs.Common.{◌≡◌, ◌+◌, ◌*◌, ◌≤◌, ◌++◌, drop, length, vec_len}
use Rattle.elf_emit.specs.Prelude.{program_headers, headers_end, all_shown}
use Rattle.elf_emit.proofs.Placing.{most, limit}
use Rattle.elf_emit.proofs.writer.put_program_headers.Given as goal

abbrev pub invariant-loop-part : goal.invariant-loop-part
invariant-loop-part l = record {
  bytes : l.file.items ++ program_headers (all_shown (drop l.part-index l.parts)) l.end ≡ l.initial.file.items ++ program_headers (all_shown l.parts) (headers_end (length l.parts));
  room : most l.end (all_shown (drop l.part-index l.parts)) ≤ limit;
  headers : vec_len l.file ≡ vec_len l.initial.file + 32 * l.part-index;
}
