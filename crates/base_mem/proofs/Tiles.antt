-- Each tile does its row.
use Rattle.std.proofs.lemmas.Bool.{false≢true}
use Rattle.std.proofs.Common.{arith}
use Rattle.ppc_isa.specs.declared.instr.Instr.TheVariants as instr
use Rattle.machines.specs.Prelude.{Lmw, Stmw}
use Rattle.symbolic_tiles.proofs.Placeable.{ops_placeable}
use Rattle.symbolic_tiles.proofs.Lengths.{ops_short, few_ops}
use Rattle.base_mem.specs.Tile.{symbolic_tile}
use Rattle.base_mem.specs.Laws.{TilesAreTiles, TilesDoRows, TilesArePlaceable, TilesAreShort}
use Rattle.base_mem.proofs.AccessTiles.{load_tile_does, load_update_tile_does, load_indexed_tile_does, load_indexed_update_tile_does, store_tile_does, store_update_tile_does, store_indexed_tile_does, store_indexed_update_tile_does}
use Rattle.base_mem.proofs.Many.{lmw_does, stmw_does}

pub tiles_are_tiles : TilesAreTiles
tiles_are_tiles (instr.Load op d a imm) legal built = load_tile_does op d a imm legal
tiles_are_tiles (instr.LoadUpdate op d a imm) legal built = load_update_tile_does op d a imm legal
tiles_are_tiles (instr.LoadIndexed op d a b) legal built = load_indexed_tile_does op d a b legal
tiles_are_tiles (instr.LoadIndexedUpdate op d a b) legal built = load_indexed_update_tile_does op d a b legal
tiles_are_tiles (instr.Store op s a imm) legal built = store_tile_does op s a imm legal
tiles_are_tiles (instr.StoreUpdate op s a imm) legal built = store_update_tile_does op s a imm legal
tiles_are_tiles (instr.StoreIndexed op s a b) legal built = store_indexed_tile_does op s a b legal
tiles_are_tiles (instr.StoreIndexedUpdate op s a b) legal built = store_indexed_update_tile_does op s a b legal
tiles_are_tiles (instr.Multiple Lmw d a imm) legal built = lmw_does d a imm legal
tiles_are_tiles (instr.Multiple Stmw s a imm) legal built = stmw_does s a imm legal
tiles_are_tiles _ legal built = absurd (false≢true built)

pub tiles_do_rows : TilesDoRows
tiles_do_rows i legal built = (tiles_are_tiles i legal built).does

pub tiles_are_placeable : TilesArePlaceable
tiles_are_placeable i m legal built is_map = ops_placeable m is_map (symbolic_tile i) (tiles_are_tiles i legal built).well_formed

pub tiles_are_short : TilesAreShort
tiles_are_short i m legal built =
    let room = (tiles_are_tiles i legal built).short in
    let few = few_ops m (symbolic_tile i) in
    let bytes = ops_short m (symbolic_tile i) in
    (omega (arith, room, few), omega (arith, room, bytes))
