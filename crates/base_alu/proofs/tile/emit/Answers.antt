use Rattle.std.proofs.Common.{◌≤◌, List, length, All, sym, subst}
use Rattle.machines.specs.Prelude.{Op}
use Rattle.reg_map.specs.Prelude.{IsPlaceable}
use Rattle.symbolic_tiles.specs.Prelude.{DoesRowAt}
use Rattle.base_alu.proofs.Tiles.{tiles_do_rows, tiles_are_placeable, tiles_are_short}
use Rattle.base_alu.proofs.tile.emit.Goals as goal

pub returns-clause-few : goal.returns-clause-few
returns-clause-few c = subst (λ (xs : List Op). length xs ≤ 128) (sym c.in-Ok.ensures) (tiles_are_short c.args.instr.now c.args.map.now c.requires.legal c.requires.built).0

pub returns-clause-does : goal.returns-clause-does
returns-clause-does c = subst (DoesRowAt c.args.instr.now c.args.map.now) (sym c.in-Ok.ensures) (λ area. tiles_do_rows c.args.instr.now c.requires.legal c.requires.built c.args.map.now area c.requires.map)

pub returns-clause-placeable : goal.returns-clause-placeable
returns-clause-placeable c = subst (All IsPlaceable) (sym c.in-Ok.ensures) (tiles_are_placeable c.args.instr.now c.args.map.now c.requires.legal c.requires.built c.requires.map)
