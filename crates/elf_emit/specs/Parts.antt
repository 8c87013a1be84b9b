-- The segments that are written, as the file has them.
use Rattle.std.specs.Prelude.{◌≤◌, Bool, true, false, List, length, map}
use Rattle.std.specs.List.{sum_by}
use Rattle.elf_emit.specs.File.{FileSegment}
use Rattle.elf_emit.specs.declared.part.Part.{Part}
use Rattle.elf_emit.specs.declared.part.Rights.{Rights}
use Rattle.elf_emit.specs.declared.part.Rights.TheVariants.{Read, ReadWrite, ReadExecute}

abbrev pub can_write : Rights → Bool
can_write Read = false
can_write ReadWrite = true
can_write ReadExecute = false

abbrev pub can_execute : Rights → Bool
can_execute Read = false
can_execute ReadWrite = false
can_execute ReadExecute = true

abbrev pub shown : Part → FileSegment
shown p = record { at = p.at; size = p.size; write = can_write p.rights; exec = can_execute p.rights; bytes = p.bytes.now }

abbrev pub all_shown : List Part → List FileSegment
all_shown parts = map shown parts

-- so few segments, of at most 256 MiB, have offsets of 32 bits
pub record AreFew (segments : List FileSegment) : Type 0 where
  pub few : length segments ≤ 96
  pub small : sum_by (λ s. length s.bytes) segments ≤ 0x10000000
