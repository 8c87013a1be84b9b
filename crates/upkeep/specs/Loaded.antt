-- What the segments of an accepted file are made of. This project's own.
use Rattle.std.specs.Prelude.{ℕ, ◌<◌, List}
use Rattle.std.specs.List.{All}
use Rattle.machines.specs.Prelude.{Kind, Program, Segment}
use Rattle.elf_load.specs.Prelude.{IsProgramOf}

-- each number is a byte
abbrev pub AreBytes : List ℕ → Type 0
AreBytes bytes = All (λ b. b < 256) bytes

-- each segment has bytes
abbrev pub HaveBytes : List Segment → Type 0
HaveBytes segments = All (λ s. AreBytes s.bytes) segments

-- the segments of an accepted file of bytes, the stack's among them
abbrev pub LoadedHaveBytes : Type 0
LoadedHaveBytes = (kind : Kind) (bytes : List ℕ) (p : Program) → AreBytes bytes → IsProgramOf kind bytes p → HaveBytes p.segments
