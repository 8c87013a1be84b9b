-- What a written file is in memory.
use Rattle.std.specs.Prelude.{◌≡◌, ℕ, ◌+◌, ◌-◌, ◌<◌, ◌≤◌, Bool, not, ◌&&◌, IsTrue, List, length, map, slice_index_or, AllPairs}
use Rattle.std.specs.List.{All, HoldsAt, sum_by}
use Rattle.std.specs.Prelude.{◌++◌}
use Rattle.space.specs.declared.program.Kind.TheVariants.{Ia32}
use Rattle.space.specs.declared.program.Segment.{Segment}
use Rattle.space.specs.declared.program.Program.{Program}
use Rattle.elf_load.specs.Prelude.{SharesAddress, zeros}
use Rattle.elf_emit.specs.File.{FileSegment}

-- what the segment is in memory: its bytes, and then zeros
abbrev pub in_memory : FileSegment → Segment
in_memory s = record {
  at = s.at;
  write = s.write;
  exec = s.exec;
  bytes = s.bytes ++ zeros (s.size - length s.bytes);
}

-- a code segment can be executed and not written
abbrev pub is_code : FileSegment → Bool
is_code s = s.exec && not s.write

-- a segment that can be loaded: it has memory, no more bytes than memory, and lies where user programs do
pub record IsSound (s : FileSegment) : Type 0 where
  pub some : 0 < s.size
  pub fits : length s.bytes ≤ s.size
  pub low : s.at + s.size ≤ 0xC0000000

-- no address lies in both
abbrev pub AreApart : FileSegment → FileSegment → Type 0
AreApart s t = ¬ SharesAddress s.at s.size t.at t.size

-- a file of these segments can be loaded, and the one at `code` alone is code; 256 MiB in all
pub record AreLoadable (segments : List FileSegment) (code : ℕ) : Type 0 where
  pub few : length segments ≤ 96
  pub sound : All IsSound segments
  pub apart : AllPairs AreApart segments
  pub memory : sum_by (λ s. s.size) segments ≤ 0x10000000
  pub within : code < length segments
  pub here : HoldsAt (λ s. IsTrue (is_code s)) segments code
  pub alone : (k : ℕ) (d : FileSegment) → k < length segments → IsTrue (is_code (slice_index_or segments k d)) → k ≡ code

-- the program of these segments
abbrev pub program_of : ℕ → List FileSegment → ℕ → Program
program_of entry segments code = record { kind = Ia32; entry = entry; segments = map in_memory segments; code = code }
