use Rattle.std.proofs.Common.{append_assoc}
use Rattle.elf_emit.specs.Prelude.{program_header}
use Rattle.elf_emit.proofs.headers.put_program_header.Goals as goal

pub returns-clause-bytes : goal.returns-clause-bytes
unfolding program_header
returns-clause-bytes c =
    simp (
      c.in_ok-put_word-8.ensures.bytes,
      c.in_ok-put_word-7.ensures.bytes,
      c.in_ok-put_word-6.ensures.bytes,
      c.in_ok-put_word-5.ensures.bytes,
      c.in_ok-put_word-4.ensures.bytes,
      c.in_ok-put_word-3.ensures.bytes,
      c.in_ok-put_word-2.ensures.bytes,
      c.in_ok-put_word.ensures.bytes,
      c.flags_of.ensures,
      append_assoc,
    )
