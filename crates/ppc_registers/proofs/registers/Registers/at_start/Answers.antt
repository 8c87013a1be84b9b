use Rattle.std.proofs.Common.{replicate, refl, ◌∙◌, ap}
use Rattle.machines.specs.Prelude.{update, stack_start}
use Rattle.ppc_registers.proofs.Holding.{zeros_shown}
use Rattle.ppc_registers.proofs.registers.Registers.at_start.Goals as goal

pub returns : goal.returns
returns c = c.put_gpr.ensures ∙ ap (λ f. update f 1 stack_start) (zeros_shown (replicate 32 0) refl)
