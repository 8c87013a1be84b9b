use Rattle.std.proofs.Common.{append_assoc}
use Rattle.elf_emit.specs.Prelude.{identification}
use Rattle.elf_emit.proofs.headers.put_identification.Goals as goal

pub returns-clause-bytes : goal.returns-clause-bytes
unfolding identification
returns-clause-bytes c =
    simp (
      c.in_ok-put_word.ensures.bytes,
      c.in_ok-put_half-2.ensures.bytes,
      c.in_ok-put_half.ensures.bytes,
      c.in_ok-extend_from_slice.ensures.items,
      append_assoc,
    )
