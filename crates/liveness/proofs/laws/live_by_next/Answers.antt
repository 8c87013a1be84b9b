use Rattle.liveness.proofs.LiveLaws.{live_by_next}
use Rattle.liveness.proofs.laws.live_by_next.Goals as goal

pub returns : goal.returns
returns c = λ first words l k instr lt is flow. live_by_next c.one_instruction.ensures first words l k instr lt is flow
