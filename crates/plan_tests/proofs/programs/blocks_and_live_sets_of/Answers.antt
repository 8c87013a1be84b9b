use Rattle.code_words.specs.Words.{first_of}
use Rattle.plan_tests.proofs.programs.blocks_and_live_sets_of.Goals as goal

pub returns : goal.returns
returns c = c.blocks_have_live_sets.ensures (first_of c.args.program.now) _ c.in_ok-_words._words.items _ _
    (c.in_ok-blocks.ensures c.in_ok-_words._words.items _ c.in_ok-_words.ensures.words c.entry_place-entry.ensures.address)
    (c.in_ok-live.ensures c.in_ok-_words._words.items c.in_ok-_words.ensures.words)
