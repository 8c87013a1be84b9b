use Rattle.ia_step.proofs.Memories.{stored, not_stored}
use Rattle.ia_step.proofs.parts.Parts.store.Goals as goal

pub returns-then-store_little-clause-leads : goal.returns-then-store_little-clause-leads
returns-then-store_little-clause-leads c = λ p core s.
    stored p c.args.self.now core _ c.args.size c.args.at c.args.value s (c.if-store_little.ensures.answer p core.bytes s.memory) (c.if-store_little.ensures.stored p core.bytes s.memory)

pub returns-else-store_little-clause-leads : goal.returns-else-store_little-clause-leads
returns-else-store_little-clause-leads c = λ p core s.
    not_stored p c.args.self.now core c.args.size c.args.at c.args.value (c.if-store_little.ensures.answer p core.bytes s.memory)
