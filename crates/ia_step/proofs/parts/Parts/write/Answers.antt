use Rattle.ia_step.proofs.Memories.{memory_at, written_at}
use Rattle.ia_step.proofs.parts.Parts.write.Goals as goal

pub returns-in_default : goal.returns-in_default
returns-in_default c = record {
  leads = λ p core s. written_at p core c.args.size _ _ _ _ c.args.value (memory_at c.args.size c.args.to core.regs c.in_default.not-Reg) (c.address.ensures p core s c.args.size) (c.store.ensures.leads p core s);
  kept = c.store.ensures.kept;
}
