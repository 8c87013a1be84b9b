use Rattle.machines.specs.Prelude.{guest_values, guest_row}
use Rattle.std.proofs.Common.{◌∙◌, ap}
use Rattle.ppc_step.proofs.Rows.{effect_is}
use Rattle.ppc_step.proofs.state.State.effect.Goals as goal

pub returns-clause-row : goal.returns-clause-row
returns-clause-row c = (_, c.row.ensures)

pub returns-clause-effect : goal.returns-clause-effect
returns-clause-effect c = λ p g is. c.row.ensures ∙ ap (guest_row c.args.instr.now) (c.values.ensures ∙ ap (guest_values c.args.instr.now 0) is.registers) ∙ effect_is c.args.instr.now g c.requires.other
