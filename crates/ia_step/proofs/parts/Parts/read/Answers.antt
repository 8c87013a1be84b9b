use Rattle.ia_step.proofs.Memories.{memory_at, read_at}
use Rattle.ia_step.proofs.parts.Parts.read.Goals as goal

pub returns-in_default : goal.returns-in_default
returns-in_default c = λ p core s.
    read_at p core c.args.size _ _ _ (memory_at c.args.size c.args.from core.regs c.in_default.not-Reg) (c.address.ensures p core s c.args.size) (c.load_little.ensures p core.bytes s.memory)
