use Rattle.code_layout.proofs.Blocks.{few_blocks}
use Rattle.code_words.specs.Words.{first_of}
use Rattle.plan_verify.specs.Failures.{HasBlocks}
use Rattle.plan_verify.proofs.Verified.{refused, verified}
use Rattle.plan_verify.proofs.plans.verify.Goals as goal

pub checked_cost-requires-clause-few : goal.checked_cost-requires-clause-few
checked_cost-requires-clause-few c =
    let words = c.in_ok-words.words.items in
    let are = c.in_ok-blocks.ensures words c.entry_place-entry.result c.in_ok-words.ensures.words c.entry_place-entry.ensures.address in
    few_blocks (first_of c.args.program.now) c.entry_place-entry.result words c.in_ok-blocks.blocks are c.each_is_block.ensures c.have_few_words.ensures c.in_ok-words.ensures.most

pub checked_cost-requires-clause-blocks : goal.checked_cost-requires-clause-blocks
checked_cost-requires-clause-blocks c =
    let words = c.in_ok-words.words.items in
    c.blocks_have_live_sets.ensures (first_of c.args.program.now) c.entry_place-entry.result words c.in_ok-blocks.blocks c.in_ok-live.live
    (c.in_ok-blocks.ensures words c.entry_place-entry.result c.in_ok-words.ensures.words c.entry_place-entry.ensures.address)
    (c.in_ok-live.ensures words c.in_ok-words.ensures.words)

pub returns-clause-good : goal.returns-clause-good
returns-clause-good c =
    let words = c.in_ok-words.words.items in
    let have : HasBlocks c.args.program.now c.in_ok-blocks.blocks c.in_ok-live.live = record {
      words = words;
      entry = c.entry_place-entry.result;
      has = c.in_ok-words.ensures.words;
      begins = c.entry_place-entry.ensures.address;
      are_blocks = c.in_ok-blocks.ensures words c.entry_place-entry.result c.in_ok-words.ensures.words c.entry_place-entry.ensures.address;
      are_live = c.in_ok-live.ensures words c.in_ok-words.ensures.words;
    } in
    verified c.args.program.now c.args.plans.now c.in_ok-blocks.blocks c.in_ok-live.live have c.checked_cost.result c.checked_cost.ensures.good c.checked_cost.ensures.cost

pub returns-clause-refused : goal.returns-clause-refused
returns-clause-refused c =
    let words = c.in_ok-words.words.items in
    let have : HasBlocks c.args.program.now c.in_ok-blocks.blocks c.in_ok-live.live = record {
      words = words;
      entry = c.entry_place-entry.result;
      has = c.in_ok-words.ensures.words;
      begins = c.entry_place-entry.ensures.address;
      are_blocks = c.in_ok-blocks.ensures words c.entry_place-entry.result c.in_ok-words.ensures.words c.entry_place-entry.ensures.address;
      are_live = c.in_ok-live.ensures words c.in_ok-words.ensures.words;
    } in
    refused c.args.program.now c.args.plans.now c.in_ok-blocks.blocks c.in_ok-live.live have c.checked_cost.result c.checked_cost.ensures.fault
