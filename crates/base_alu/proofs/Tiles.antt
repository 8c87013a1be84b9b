-- Each tile does its row.
use Rattle.std.proofs.Common.{arith}
use Rattle.ppc_isa.specs.declared.instr.Instr.TheVariants as instr
use Rattle.machines.specs.Prelude.{Rlwinm, Rlwnm, Rlwimi, Cmpi, Cmpli, Cmp, Cmpl}
use Rattle.symbolic_tiles.proofs.Placeable.{ops_placeable}
use Rattle.symbolic_tiles.proofs.Lengths.{ops_short, few_ops}
use Rattle.base_alu.specs.Tile.{symbolic_tile}
use Rattle.base_alu.specs.Laws.{TilesAreTiles, TilesDoRows, TilesArePlaceable, TilesAreShort}
use Rattle.base_alu.proofs.ImmediateTiles.{immediate_does, logic_immediate_does}
use Rattle.base_alu.proofs.ArithmeticTiles.{arithmetic_does, unary_does}
use Rattle.base_alu.proofs.LogicTiles.{logic_does, logic_unary_does}
use Rattle.base_alu.proofs.Rotates.{rlwinm_does, rlwnm_does, rlwimi_does}
use Rattle.base_alu.proofs.SignShifts.{srawi_does}
use Rattle.base_alu.proofs.CompareTiles.{cmpi_does, cmpli_does, cmp_does, cmpl_does}
use Rattle.base_alu.proofs.CrLogic.{cr_logic_does}
use Rattle.base_alu.proofs.MoveToCr.{mtcrf_does}
use Rattle.base_alu.proofs.Moves.{mcrf_does, mfcr_does, mfspr_does, mtspr_does, sync_does, isync_does}

pub tiles_are_tiles : TilesAreTiles
tiles_are_tiles (instr.Immediate op d a imm) legal built = immediate_does op d a imm legal
tiles_are_tiles (instr.LogicImmediate op s a imm) legal built = logic_immediate_does op s a imm legal
tiles_are_tiles (instr.Arithmetic op d a b records) legal built = arithmetic_does op d a b records legal
tiles_are_tiles (instr.ArithmeticUnary op d a records) legal built = unary_does op d a records legal
tiles_are_tiles (instr.Logic op s a b records) legal built = logic_does op s a b records legal
tiles_are_tiles (instr.LogicUnary op s a records) legal built = logic_unary_does op s a records legal
tiles_are_tiles (instr.ShiftImmediate s a by records) legal built = srawi_does s a by records legal
tiles_are_tiles (instr.Rotate Rlwinm s a by mb me records) legal built = rlwinm_does s a by mb me records legal
tiles_are_tiles (instr.Rotate Rlwnm s a b mb me records) legal built = rlwnm_does s a b mb me records legal
tiles_are_tiles (instr.Rotate Rlwimi s a by mb me records) legal built = rlwimi_does s a by mb me records legal
tiles_are_tiles (instr.CompareImmediate Cmpi field a imm) legal built = cmpi_does field a imm legal
tiles_are_tiles (instr.CompareImmediate Cmpli field a imm) legal built = cmpli_does field a imm legal
tiles_are_tiles (instr.Compare Cmp field a b) legal built = cmp_does field a b legal
tiles_are_tiles (instr.Compare Cmpl field a b) legal built = cmpl_does field a b legal
tiles_are_tiles (instr.CrLogic op d a b) legal built = cr_logic_does op d a b legal
tiles_are_tiles (instr.MoveCrField to from) legal built = mcrf_does to from legal
tiles_are_tiles (instr.MoveFromCr d) legal built = mfcr_does d legal
tiles_are_tiles (instr.MoveToCr s fxm) legal built = mtcrf_does s fxm legal
tiles_are_tiles (instr.MoveFromSpr d spr) legal built = mfspr_does d spr legal
tiles_are_tiles (instr.MoveToSpr s spr) legal built = mtspr_does s spr legal
tiles_are_tiles instr.Sync legal built = sync_does
tiles_are_tiles instr.Isync legal built = isync_does
tiles_are_tiles _ legal built = absurd built

pub tiles_do_rows : TilesDoRows
tiles_do_rows i legal built = (tiles_are_tiles i legal built).does

pub tiles_are_placeable : TilesArePlaceable
tiles_are_placeable i m legal built is_map = ops_placeable m is_map (symbolic_tile i) (tiles_are_tiles i legal built).well_formed

pub tiles_are_short : TilesAreShort
tiles_are_short i m legal built =
    let room = (tiles_are_tiles i legal built).short in
    let few = few_ops m (symbolic_tile i) in
    let bytes = ops_short m (symbolic_tile i) in
    (omega (arith, room, few), omega (arith, room, bytes))
