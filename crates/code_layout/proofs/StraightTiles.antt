-- What holds of the tiles of words that are no flow words, with an access and without one.
use Rattle.std.proofs.Common.{◌≡◌, ◌≤◌, false, length, All, inl, inr, refl}
use Rattle.machines.specs.Prelude.{Map, IsMap, Instr, Load, LoadUpdate, LoadIndexed, LoadIndexedUpdate, Store, StoreUpdate, StoreIndexed, StoreIndexedUpdate, Multiple, IsLegal}
use Rattle.reg_map.specs.Prelude.{IsPlaceable}
use Rattle.row_laws.specs.FlowWords.{is_flow}
use Rattle.symbolic_tiles.specs.Prelude.{DoesRow, spelled_bytes}
use Rattle.base_alu.specs.Tile.{IsBuilt as IsBuiltAlu}
use Rattle.base_mem.specs.Tile.{has_access}
use Rattle.base_alu.proofs.Straight as alu
use Rattle.base_alu.proofs.Tiles as alu_tiles
use Rattle.base_mem.proofs.Straight as access
use Rattle.base_mem.proofs.Tiles as access_tiles
use Rattle.code_layout.specs.Prelude.{IsBuiltStraight, word_ops}

pub without_access : (i : Instr) → IsBuiltAlu i → has_access i ≡ false
without_access (Load op d a imm) built = absurd built
without_access (LoadUpdate op d a imm) built = absurd built
without_access (LoadIndexed op d a b) built = absurd built
without_access (LoadIndexedUpdate op d a b) built = absurd built
without_access (Store op s a imm) built = absurd built
without_access (StoreUpdate op s a imm) built = absurd built
without_access (StoreIndexed op s a b) built = absurd built
without_access (StoreIndexedUpdate op s a b) built = absurd built
without_access (Multiple op d a imm) built = absurd built
without_access _ built = refl

pub built_are_straight : (i : Instr) → IsBuiltStraight i → is_flow i ≡ false
built_are_straight i (inl built) = alu.built_are_straight i built
built_are_straight i (inr built) = access.built_are_straight i built

pub tiles_do_rows : (i : Instr) → IsLegal i → IsBuiltStraight i → DoesRow i (word_ops i)
tiles_do_rows i legal (inl built) = rw (without_access i built) (alu_tiles.tiles_do_rows i legal built)
tiles_do_rows i legal (inr built) = rw built (access_tiles.tiles_do_rows i legal built)

pub tiles_are_placeable : (i : Instr) (m : Map) → IsLegal i → IsBuiltStraight i → IsMap m → All IsPlaceable (word_ops i m)
tiles_are_placeable i m legal (inl built) is_map = rw (without_access i built) (alu_tiles.tiles_are_placeable i m legal built is_map)
tiles_are_placeable i m legal (inr built) is_map = rw built (access_tiles.tiles_are_placeable i m legal built is_map)

pub tiles_are_short : (i : Instr) (m : Map) → IsLegal i → IsBuiltStraight i → (length (word_ops i m) ≤ 128) × (spelled_bytes (word_ops i m) ≤ 595)
tiles_are_short i m legal (inl built) = rw (without_access i built) (alu_tiles.tiles_are_short i m legal built)
tiles_are_short i m legal (inr built) = rw built (access_tiles.tiles_are_short i m legal built)
