-- The host area: the addresses that a translation of a PowerPC program takes for itself. This project's own.
use Rattle.std.specs.Prelude.{◌≡◌, ℕ, ◌+◌, ◌%◌, ◌<◌, ◌≤◌, List, length}
use Rattle.std.specs.List.{All}
use Rattle.space.specs.declared.program.Segment.{Segment}
use Rattle.elf_load.specs.Headers.{SharesAddress}

-- the segment has an address in the area from `at` on
abbrev pub MeetsArea : Segment → ℕ → Type 0
MeetsArea s at = SharesAddress s.at (length s.bytes) at 0x0A000000

-- an area may stand at this address beside these segments
pub record IsArea (segments : List Segment) (at : ℕ) : Type 0 where
  pub aligned : at % 4096 ≡ 0
  pub low : 0x08048000 ≤ at
  pub high : at + 0x0A000000 ≤ 0xBFFF0000
  pub free : All (λ s. ¬ MeetsArea s at) segments

-- the least address at which one may stand
pub record IsHostArea (segments : List Segment) (at : ℕ) : Type 0 where
  pub area : IsArea segments at
  pub least : (lower : ℕ) → lower < at → ¬ IsArea segments lower
