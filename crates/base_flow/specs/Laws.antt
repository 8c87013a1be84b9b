-- What holds of the tiles, for the layers above that reason on bytes.
use Rattle.std.specs.Prelude.{◌≡◌, ℕ, ◌≤◌, length, Some, None}
use Rattle.machines.specs.Prelude.{Map, IsMap, Instr, IsLegal}
use Rattle.symbolic_tiles.specs.Prelude.{flows_of, FlowDoesWord, AreMarked, AreLaid, flows_room}
use Rattle.base_flow.specs.Tile.{IsBuilt, HasTile, illegal_items, tile}

-- each tile of a flow word does what its row does
abbrev pub FlowTilesDoRows : Type 0
FlowTilesDoRows = (i : Instr) (m : Map) → IsLegal i → IsMap m → HasTile i m → FlowDoesWord (Some i) m (λ at. tile i at m)

-- and that of an illegal word
abbrev pub IllegalTileDoesWord : Type 0
IllegalTileDoesWord = (m : Map) → IsMap m → FlowDoesWord None m (λ at. flows_of illegal_items m)

-- each jump of a tile leads to a mark behind it, and no mark stands twice; at most 37 items
abbrev pub FlowTilesAreMarked : Type 0
FlowTilesAreMarked = (i : Instr) (m : Map) (at : ℕ) → AreMarked (tile i at m) × (length (tile i at m) ≤ 37)

-- each op of a tile can be spelled over every home page
abbrev pub FlowTilesAreLaid : Type 0
FlowTilesAreLaid = (i : Instr) (m : Map) (at : ℕ) → IsLegal i → IsMap m → HasTile i m → AreLaid (tile i at m)

-- and a tile's bytes have room
abbrev pub FlowTilesAreShort : Type 0
FlowTilesAreShort = (i : Instr) (m : Map) (at : ℕ) → flows_room (tile i at m) ≤ 595

-- a built instruction is a flow word that has a tile where no GPR is in ebx
abbrev pub BuiltHaveTiles : Type 0
BuiltHaveTiles = (i : Instr) (m : Map) → IsBuilt i → m.ebx ≡ None → HasTile i m
