-- What holds of the tiles, for the layers above that reason on bytes.
use Rattle.std.specs.Prelude.{◌≡◌, ◌≤◌, false, length, All}
use Rattle.machines.specs.Prelude.{Map, IsMap, Instr, IsLegal}
use Rattle.reg_map.specs.Prelude.{IsPlaceable}
use Rattle.row_laws.specs.FlowWords.{is_flow}
use Rattle.symbolic_tiles.specs.Prelude.{DoesRow, IsTileOf, spelled_bytes}
use Rattle.base_mem.specs.Tile.{IsBuilt, symbolic_tile, tile}

-- each legal built instruction has a tile
abbrev pub TilesAreTiles : Type 0
TilesAreTiles = (i : Instr) → IsLegal i → IsBuilt i → IsTileOf i (symbolic_tile i)

-- as ops it does the row
abbrev pub TilesDoRows : Type 0
TilesDoRows = (i : Instr) → IsLegal i → IsBuilt i → DoesRow i (tile i)

-- each of which can be spelled over every home page
abbrev pub TilesArePlaceable : Type 0
TilesArePlaceable = (i : Instr) (m : Map) → IsLegal i → IsBuilt i → IsMap m → All IsPlaceable (tile i m)

-- at most 128 ops, and few bytes
abbrev pub TilesAreShort : Type 0
TilesAreShort = (i : Instr) (m : Map) → IsLegal i → IsBuilt i → (length (tile i m) ≤ 128) × (spelled_bytes (tile i m) ≤ 595)

-- a built instruction is no flow word
abbrev pub BuiltAreStraight : Type 0
BuiltAreStraight = (i : Instr) → IsBuilt i → is_flow i ≡ false
