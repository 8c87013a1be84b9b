use Rattle.std.proofs.Common.{◌≡◌, ◌<◌, ◌≤◌, ◌+◌, ◌*◌, List, ◌∙◌, length, ap, rules, arith}
use Rattle.block_find.specs.Prelude.{all_blocks, block_at, word_count}
use Rattle.block_find.specs.declared.block.Block.{Block}
use Rattle.symbolic_tiles.specs.declared.flow_op.FlowOp.{FlowOp}
use Rattle.code_layout.specs.Prelude.{no_moves, items_length, items_of, block_length, laying, stands_at, steps_of}
use Rattle.code_layout.proofs.Blocks.{few_blocks, few_words, block_is, words_more, stands_more, each_more, each_begins}
use Rattle.code_layout.proofs.layout.entries.Goals as goal

pub count-block-end-requires : goal.count-block-end-requires
count-block-end-requires c =
    let s = c.args.source.now in
    few_blocks s.first s.entry s.words.now s.blocks.now c.requires.blocks c.each_is_block.ensures c.have_few_words.ensures (search rules)

pub overflow_add-at-in-loop-block : goal.overflow_add-at-in-loop-block
overflow_add-at-in-loop-block c =
    let s = c.args.source.now in
    let all : List Block = all_blocks s.blocks.now in
    let block : Block = block_at all c.loop-block.block in
    let t = c.loop-block-test.true in
    let end = c.count-block-end.ensures in
    let lt : c.loop-block.block < length all = omega (arith, t, end) in
    let some = (block_is s.first s.entry s.words.now s.blocks.now c.requires.blocks c.each_is_block.ensures c.loop-block.block lt).1.some in
    let few = few_words s.first s.entry s.words.now s.blocks.now c.requires.blocks c.each_is_block.ensures c.have_few_words.ensures (search rules) c.loop-block.block lt in
    let long : c.length-at.result ≤ 631 * word_count block + 5 = (search rules) in
    let here = c.loop-block.invariant.room in
    let room = c.requires.room in
    omega (arith, some, few, long, here, room)

pub loop-block-preserved : goal.loop-block-preserved
loop-block-preserved c =
    let s = c.args.source.now in
    let all : List Block = all_blocks s.blocks.now in
    let block : Block = block_at all c.loop-block.block in
    let t = c.loop-block-test.true in
    let end = c.count-block-end.ensures in
    let lt : c.loop-block.block < length all = omega (arith, t, end) in
    let its : List FlowOp = c.deref.result.now in
    let are : its ≡ items_of (laying s.first s.decoded.now s.live.now all (steps_of s.plans.now)) block = c.deref.ensures.value ∙ c.in_ok-items.ensures.items in
    let some = (block_is s.first s.entry s.words.now s.blocks.now c.requires.blocks c.each_is_block.ensures c.loop-block.block lt).1.some in
    let long : c.length-at.result ≤ 631 * word_count block + 5 = (search rules) in
    let is : c.length-at.result ≡ block_length (laying s.first s.decoded.now s.live.now all (steps_of s.plans.now)) no_moves block = c.length-at.ensures.value ∙ ap (items_length no_moves) are in
    record {
      count = search rules;
      here = (let old = c.loop-block.invariant.here in let more = stands_more (laying s.first s.decoded.now s.live.now all (steps_of s.plans.now)) no_moves (c.args.code + 5) c.loop-block.block all lt in omega (arith, old, more, is));
      each = each_more s.first s.entry s.words.now s.blocks.now c.requires.blocks c.each_is_block.ensures c.each_begins_one.ensures (stands_at (laying s.first s.decoded.now s.live.now all (steps_of s.plans.now)) no_moves (c.args.code + 5) all) c.loop-block.entries.items c.place.result c.loop-block.at c.loop-block.block lt (search rules) c.place.ensures.place c.loop-block.invariant.here c.loop-block.invariant.each;
      room = (let here = c.loop-block.invariant.room in let more = words_more c.loop-block.block all lt in omega (arith, here, more, long, some));
    }

pub returns-clause-each : goal.returns-clause-each
returns-clause-each c =
    let s = c.args.source.now in
    let f = c.loop-block-test.false in
    let end = c.count-block-end.ensures in
    each_begins s.first s.entry s.words.now s.blocks.now c.requires.blocks c.each_is_block.ensures c.each_begins_one.ensures (laying s.first s.decoded.now s.live.now (all_blocks s.blocks.now) (steps_of s.plans.now)) (c.args.code + 5) c.loop-block.entries.items (λ i lt. c.loop-block.invariant.each i (omega (arith, lt, f, end)))
