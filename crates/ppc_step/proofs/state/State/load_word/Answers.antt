use Rattle.ppc_step.proofs.States.{gpr_put, with_registers}
use Rattle.ppc_step.proofs.Many.{loaded_word, some_loaded}
use Rattle.ppc_step.proofs.state.State.load_word.Goals as goal

pub returns-in-Some : goal.returns-in-Some
returns-in-Some c = λ p g is inside.
    let number = some_loaded p 4 c.args.at c.in-Some.word g.bytes inside (c.in-Some.ensures p g.bytes is.memory) in
    rw (← number) (with_registers p c.args.self.now g _ _ is (gpr_put _ _ _ _ _ c.put_gpr.ensures is.registers))

pub returns-in-None : goal.returns-in-None
returns-in-None c = λ p g is inside. absurd (loaded_word p 4 c.args.at g.bytes inside (c.in-None.ensures p g.bytes is.memory))
