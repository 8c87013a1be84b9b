use Rattle.std.proofs.Common.{append_assoc}
use Rattle.elf_emit.specs.Prelude.{no_sections}
use Rattle.elf_emit.proofs.headers.put_no_sections.Goals as goal

pub returns-clause-bytes : goal.returns-clause-bytes
unfolding no_sections
returns-clause-bytes c =
    simp (c.in_ok-put_half-3.ensures.bytes, c.in_ok-put_half-2.ensures.bytes, c.in_ok-put_half.ensures.bytes, append_assoc)
