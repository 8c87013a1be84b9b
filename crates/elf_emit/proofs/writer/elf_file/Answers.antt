use Rattle.std.proofs.Common.{rules, vec_len}
use Rattle.elf_emit.proofs.Placing.{elf_file_parts}
use Rattle.elf_emit.proofs.writer.elf_file.Goals as goal

pub returns : goal.returns
returns c =
    elf_file_parts c.args.entry c.args.parts.now c.new-file.result.items c.put_file_header.new.file.items c.put_program_headers.new.file.items c.put_contents.new.file.items (vec_len c.put_program_headers.new.file) (search rules) (search rules) c.in_ok-put_program_headers.ensures.bytes (search rules) c.in_ok-put_contents.ensures
