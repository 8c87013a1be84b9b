use Rattle.std.proofs.Common.{◌≡◌, ◌<◌, ◌≤◌, ◌+◌, ◌*◌, List, ◌∙◌, length, ap, vec_len, rules, arith}
use Rattle.block_find.specs.Prelude.{all_blocks, block_at, word_count}
use Rattle.block_find.specs.declared.block.Block.{Block}
use Rattle.symbolic_tiles.specs.declared.flow_op.FlowOp.{FlowOp}
use Rattle.code_layout.specs.Prelude.{no_moves, Places, places_of, items_length, items_of, code_bytes, laying, steps_of}
use Rattle.code_layout.proofs.Laid.{laid_more, laid_all}
use Rattle.code_layout.proofs.Blocks.{nowhere, few_blocks, few_taken, block_is, words_more}
use Rattle.code_layout.proofs.layout.code.Goals as goal

pub count-block-end-requires : goal.count-block-end-requires
count-block-end-requires c =
    let s = c.args.source.now in
    few_blocks s.first s.entry s.words.now s.blocks.now c.requires.blocks c.each_is_block.ensures c.have_few_words.ensures (search rules)

pub put-requires-clause-room : goal.put-requires-clause-room
put-requires-clause-room c =
    let s = c.args.source.now in
    let few = few_taken s.first s.entry s.words.now s.blocks.now c.requires.blocks c.each_is_block.ensures c.have_few_words.ensures (search rules) c.loop-block.block in
    let bound = c.loop-block.invariant.bound in
    let items = c.in_ok-items.ensures.few in
    let same : length c.deref.result.now ≡ length c.in_ok-items.items.items = ap length c.deref.ensures.value in
    let room = c.requires.room in
    omega (arith, few, bound, items, same, room)

pub loop-block-preserved : goal.loop-block-preserved
loop-block-preserved c =
    let s = c.args.source.now in
    let all : List Block = all_blocks s.blocks.now in
    let p : Places = places_of c.args.layout.now in
    let block : Block = block_at all c.loop-block.block in
    let t = c.loop-block-test.true in
    let end = c.count-block-end.ensures in
    let lt : c.loop-block.block < length all = omega (arith, t, end) in
    let its : List FlowOp = c.deref.result.now in
    let are : its ≡ items_of (laying s.first s.decoded.now s.live.now all (steps_of s.plans.now)) block = c.deref.ensures.value ∙ c.in_ok-items.ensures.items in
    let some = (block_is s.first s.entry s.words.now s.blocks.now c.requires.blocks c.each_is_block.ensures c.loop-block.block lt).1.some in
    let long : items_length no_moves its ≤ 631 * word_count block + 5 = (search rules) in
    record {
      bytes = laid_more (laying s.first s.decoded.now s.live.now all (steps_of s.plans.now)) p c.args.layout.now.code (vec_len c.loop-block.code) (vec_len c.put.new.code) c.loop-block.block all nowhere its c.loop-block.code.items c.put.new.code.items (code_bytes (laying s.first s.decoded.now s.live.now all (steps_of s.plans.now)) p all) lt are c.in_ok-put.ensures.bytes c.in_ok-put.ensures.length c.loop-block.invariant.bytes;
      bound = (let bound = c.loop-block.invariant.bound in let more = words_more c.loop-block.block all lt in let put = c.in_ok-put.ensures.length in omega (arith, bound, more, put, long, some));
    }

pub returns-clause-bytes : goal.returns-clause-bytes
returns-clause-bytes c =
    let s = c.args.source.now in
    let all : List Block = all_blocks s.blocks.now in
    let p : Places = places_of c.args.layout.now in
    let f = c.loop-block-test.false in
    let end = c.count-block-end.ensures in
    laid_all (laying s.first s.decoded.now s.live.now all (steps_of s.plans.now)) p (c.args.layout.now.code + vec_len c.loop-block.code) c.loop-block.block all c.loop-block.code.items (code_bytes (laying s.first s.decoded.now s.live.now all (steps_of s.plans.now)) p all) (omega (arith, f, end)) c.loop-block.invariant.bytes

pub returns-clause-bound : goal.returns-clause-bound
returns-clause-bound c =
    let s = c.args.source.now in
    let few = few_taken s.first s.entry s.words.now s.blocks.now c.requires.blocks c.each_is_block.ensures c.have_few_words.ensures (search rules) c.loop-block.block in
    let bound = c.loop-block.invariant.bound in
    omega (arith, few, bound)
