use Rattle.std.proofs.Common.{◌<◌, List, length, sym, ◌∙◌, subst, arith}
use Rattle.std.proofs.lemmas.List.{length-map}
use Rattle.block_find.specs.Prelude.{all_blocks, block_at}
use Rattle.plan_form.specs.declared.problem.Step.{Step}
use Rattle.code_layout.specs.Prelude.{LaysWords, no_registers, words_of, steps_of}
use Rattle.code_layout.proofs.Blocks.{own_steps, plan_at}
use Rattle.code_layout.proofs.source.Source.steps_of.Goals as goal

-- the steps are those of the block's plan
own : goal.returns-clause-steps
own c =
    let s = c.args.self.now in
    let count = c.requires.plans.count in
    let among : c.args.block < length s.plans.now = omega (arith, c.requires.among, count, length-map s.plans.now (λ p. p.plan.steps.items)) in
    c.as_slice.ensures.value
    ∙ own_steps s.first s.entry s.words.now s.blocks.now c.requires.blocks c.each_is_block.ensures c.each_begins_one.ensures s.plans.now c.args.block c.index-self-block.result c.requires.among among

pub returns-clause-steps : goal.returns-clause-steps
returns-clause-steps c = own c

pub returns-clause-lays : goal.returns-clause-lays
returns-clause-lays c =
    let s = c.args.self.now in
    let plan = plan_at s.first s.entry s.words.now s.blocks.now c.requires.blocks c.each_is_block.ensures c.each_begins_one.ensures (steps_of s.plans.now) c.args.block c.requires.among in
    subst (λ (steps : List Step). LaysWords 6 no_registers (words_of s.first s.decoded.now (block_at (all_blocks s.blocks.now) c.args.block)) steps no_registers) (sym (own c ∙ plan)) (c.requires.plans.each c.args.block c.requires.among)
