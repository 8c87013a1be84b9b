use Rattle.std.proofs.Common.{ℕ, cond, ◌∙◌, ap}
use Rattle.machines.specs.Prelude.{update}
use Rattle.ppc_step.proofs.States.{jumped}
use Rattle.ppc_step.proofs.state.State.jump.Goals as goal

pub returns-clause-state : goal.returns-clause-state
returns-clause-state c = λ p g is.
    jumped p c.args.self.now g c.put_lr.new.self c.args.link c.args.taken c.args.target c.behind-behind.result c.next_of-self.result is c.behind-behind.ensures
    (c.put_lr.ensures ∙ ap (λ (f : ℕ → ℕ). cond c.args.link (update f 32 c.behind-behind.result) f) is.registers) c.next_of-self.ensures
