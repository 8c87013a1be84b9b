-- The instructions that have a tile of ops.
use Rattle.std.specs.Prelude.{◌⊎◌}
use Rattle.machines.specs.Prelude.{Instr}
use Rattle.base_alu.specs.Tile.{IsBuilt as IsBuiltAlu}
use Rattle.base_mem.specs.Tile.{IsBuilt as IsBuiltAccess}

-- those without an access to memory, and those with one
abbrev pub IsBuiltStraight : Instr → Type 0
IsBuiltStraight i = IsBuiltAlu i ⊎ IsBuiltAccess i
