use Rattle.std.proofs.Common.{append_assoc}
use Rattle.elf_emit.specs.Prelude.{file_header}
use Rattle.elf_emit.proofs.headers.put_file_header.Goals as goal

pub returns-clause-bytes : goal.returns-clause-bytes
unfolding file_header
returns-clause-bytes c =
    simp (
      c.in_ok-put_no_sections.ensures.bytes,
      c.in_ok-put_half-3.ensures.bytes,
      c.in_ok-put_half-2.ensures.bytes,
      c.in_ok-put_half.ensures.bytes,
      c.in_ok-put_word-4.ensures.bytes,
      c.in_ok-put_word-3.ensures.bytes,
      c.in_ok-put_word-2.ensures.bytes,
      c.in_ok-put_word.ensures.bytes,
      c.in_ok-put_identification.ensures.bytes,
      append_assoc,
    )
