use Rattle.std.proofs.Common.{sym, subst}
use Rattle.std.proofs.lemmas.Result.{IfOk-weaker}
use Rattle.symbolic_tiles.specs.Prelude.{AreLaid}
use Rattle.base_flow.proofs.Tiles.{tile_does, tile_marked, flow_tiles_are_laid}
use Rattle.base_flow.proofs.emit.Goals as goal

pub returns-clause-does : goal.returns-clause-does
returns-clause-does c = IfOk-weaker c.tile.result _ _ (λ ops e. tile_does c.args.instr.now c.args.map.now c.args.at c.requires.legal c.requires.map c.requires.flow ops.items e) c.tile.ensures

pub returns-clause-few : goal.returns-clause-few
returns-clause-few c = IfOk-weaker c.tile.result _ _ (λ ops e. (tile_marked c.args.instr.now c.args.map.now c.args.at ops.items e).1) c.tile.ensures

pub returns-clause-marked : goal.returns-clause-marked
returns-clause-marked c = IfOk-weaker c.tile.result _ _ (λ ops e. (tile_marked c.args.instr.now c.args.map.now c.args.at ops.items e).0) c.tile.ensures

pub returns-clause-laid : goal.returns-clause-laid
returns-clause-laid c = IfOk-weaker c.tile.result _ _ (λ ops e. subst AreLaid (sym e) (flow_tiles_are_laid c.args.instr.now c.args.map.now c.args.at c.requires.legal c.requires.map c.requires.flow)) c.tile.ensures
