-- Where the code of a loaded program lies.
use Rattle.std.specs.Prelude.{◌≡◌, ◌+◌, ◌≤◌, length, Some, slice_get}
use Rattle.space.specs.declared.program.Segment.{Segment}
use Rattle.space.specs.declared.program.Program.{Program}

-- the program has a code segment, and it ends at 0xC0000000 at most
abbrev pub HasLowCode : Program → Type 0
HasLowCode program =
    (code : Segment) × (slice_get program.segments program.code ≡ Some code) × (code.at + length code.bytes ≤ 0xC0000000)
