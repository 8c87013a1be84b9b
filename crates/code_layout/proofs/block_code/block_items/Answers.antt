use Rattle.std.proofs.Common.{◌≤◌, ◌+◌, ◌*◌, All, List, length, arith}
use Rattle.symbolic_tiles.specs.declared.flow_op.FlowOp.{FlowOp}
use Rattle.liveness.specs.Prelude.{live_at}
use Rattle.code_layout.specs.Prelude.{block_items, no_registers, no_moves, IsLaid, items_length}
use Rattle.code_layout.proofs.BuiltWords.{is_map}
use Rattle.code_layout.proofs.BlockItems.{block_laid, block_count, block_length, made_block}
use Rattle.code_layout.proofs.block_code.block_items.Goals as goal

pub returns-clause-laid : goal.returns-clause-laid
returns-clause-laid c =
    let items : List FlowOp = block_items (live_at c.args.live.now) c.args.at no_registers c.args.words.now c.args.steps.now in
    made_block (λ (xs : List FlowOp). All IsLaid xs) items c.planned.result (block_laid (live_at c.args.live.now) 6 c.args.at no_registers c.args.words.now c.args.steps.now c.requires.legal is_map c.requires.plan) c.planned.ensures

pub returns-clause-few : goal.returns-clause-few
returns-clause-few c =
    let items : List FlowOp = block_items (live_at c.args.live.now) c.args.at no_registers c.args.words.now c.args.steps.now in
    let short = c.requires.short in
    let count = block_count (live_at c.args.live.now) no_registers c.args.at no_registers c.args.words.now c.args.steps.now c.requires.legal c.requires.plan in
    made_block (λ (xs : List FlowOp). length xs ≤ 8577) items c.planned.result (omega (arith, count, short)) c.planned.ensures

pub returns-clause-length : goal.returns-clause-length
returns-clause-length c =
    let items : List FlowOp = block_items (live_at c.args.live.now) c.args.at no_registers c.args.words.now c.args.steps.now in
    made_block (λ (xs : List FlowOp). items_length no_moves xs ≤ 631 * length c.args.words.now + 5) items c.planned.result (block_length (live_at c.args.live.now) no_registers c.args.at no_registers c.args.words.now c.args.steps.now c.requires.legal c.requires.plan) c.planned.ensures
