use Rattle.std.proofs.Common.{ℕ, List, sym, subst}
use Rattle.machines.specs.Prelude.{Program}
use Rattle.block_find.specs.Prelude.{all_blocks}
use Rattle.code_words.specs.Words.{first_of}
use Rattle.plan_form.specs.declared.problem.BlockPlan.{BlockPlan}
use Rattle.plan_form.specs.declared.problem.Step.{Step}
use Rattle.code_layout.specs.Prelude.{ArePlansFor, IsLaidFor, steps_of}
use Rattle.code_layout.proofs.Blocks.{few_blocks}
use Rattle.translate_core.proofs.Carrying.{fits_area, carries}
use Rattle.translate_core.proofs.Planning.{plans_for}
use Rattle.translate_core.proofs.translation.translate.Goals as goal

pub best_plans-requires-clause-few : goal.best_plans-requires-clause-few
best_plans-requires-clause-few c =
    let first : ℕ = first_of c.args.program.now in
    let words = c.in_ok-_words._words.items in
    let has = c.in_ok-_words.ensures.words in
    few_blocks first c.entry_place-entry.result words c.in_ok-blocks.blocks (c.in_ok-blocks.ensures words c.entry_place-entry.result has c.entry_place-entry.ensures.address) c.each_is_block.ensures c.have_few_words.ensures c.in_ok-_words.ensures.most

pub best_plans-requires-clause-each : goal.best_plans-requires-clause-each
best_plans-requires-clause-each c =
    let first : ℕ = first_of c.args.program.now in
    let words = c.in_ok-_words._words.items in
    let has = c.in_ok-_words.ensures.words in
    c.blocks_have_live_sets.ensures first c.entry_place-entry.result words c.in_ok-blocks.blocks c.in_ok-live.live (c.in_ok-blocks.ensures words c.entry_place-entry.result has c.entry_place-entry.ensures.address) (c.in_ok-live.ensures words has)

pub lay-requires-clause-plans : goal.lay-requires-clause-plans
lay-requires-clause-plans c = λ words decoded has are.
    let first : ℕ = first_of c.args.program.now in
    subst (λ (ps : List BlockPlan). ArePlansFor first decoded (all_blocks c.in_ok-blocks.blocks) (steps_of ps)) (sym c.deref.ensures.value)
    (plans_for c.each_is_block.ensures c.blocks_have_live_sets.ensures c.valid_plans_lay.ensures first c.entry_place-entry.result words decoded c.in_ok-blocks.blocks c.in_ok-live.live c.in_ok-plans.plans.items
    (c.in_ok-blocks.ensures words c.entry_place-entry.result has c.entry_place-entry.ensures.address) (c.in_ok-live.ensures words has) are c.in_ok-plans.ensures)

pub returns-clause-carries : goal.returns-clause-carries
returns-clause-carries c =
    let P : Program = c.args.program.now in
    let plans : List (List Step) = steps_of c.in_ok-plans.plans.items in
    let code = c.in_ok-code.code in
    let area = c.host_area-area.result in
    let laid : IsLaidFor P plans area code = subst (λ (ps : List BlockPlan). IsLaidFor P (steps_of ps) area code) c.deref.ensures.value c.in_ok-code.ensures.laid in
    carries P plans area code c.in_ok-bytes.bytes.items c.file_bytes.result laid
    (fits_area P plans area code laid c.in_ok-code.ensures.table c.in_ok-code.ensures.fits)
    c.host_area-area.ensures c.in_ok-bytes.ensures.bytes c.in_ok-bytes.ensures.loads c.file_bytes.ensures.value

pub returns-clause-best : goal.returns-clause-best
returns-clause-best c =
    let words = c.in_ok-_words._words.items in
    let has = c.in_ok-_words.ensures.words in
    record {
      words = words;
      entry = c.entry_place-entry.result;
      blocks = c.in_ok-blocks.blocks;
      live = c.in_ok-live.live;
      has = has;
      begins = c.entry_place-entry.ensures.address;
      are_blocks = c.in_ok-blocks.ensures words c.entry_place-entry.result has c.entry_place-entry.ensures.address;
      are_live = c.in_ok-live.ensures words has;
      best = c.in_ok-plans.ensures;
    }

pub returns-clause-agrees : goal.returns-clause-agrees
returns-clause-agrees c = c.carrying_agrees.ensures.agrees c.args.program.now (steps_of c.in_ok-plans.plans.items) c.file_bytes.result c.file_bytes.ensures.bytes (returns-clause-carries c)
