use Rattle.machines.specs.Prelude.{guest_values, Effect, guest_row}
use Rattle.std.proofs.Common.{◌≤◌, ◌∙◌, ap, subst, sym}
use Rattle.ppc_registers.specs.Held.{numbers}
use Rattle.ppc_step.specs.Prelude.{told}
use Rattle.ppc_step.proofs.Rows.{short, none_loaded, some_loaded}
use Rattle.ppc_step.proofs.state.State.loaded.Goals as goal

pub load_big-requires : goal.load_big-requires
load_big-requires c = subst (λ (e : Effect). e.width ≤ 4) (sym c.row-access.ensures) (short c.args.instr.now (numbers c.values.result) c.requires.load)

pub returns-in_err-loaded : goal.returns-in_err-loaded
returns-in_err-loaded c = λ p g is. rw c.from_residual.ensures
    (none_loaded p c.args.instr.now g (told c.row-access.result) c.requires.load
    (c.row-access.ensures ∙ ap (guest_row c.args.instr.now) (c.values.ensures ∙ ap (guest_values c.args.instr.now 0) is.registers)) (c.in_err-loaded.ensures p g.bytes is.memory))

pub returns : goal.returns
returns c = λ p g is.
    some_loaded p c.args.instr.now g (told c.row-access.result) c.requires.load
    (c.row-access.ensures ∙ ap (guest_row c.args.instr.now) (c.values.ensures ∙ ap (guest_values c.args.instr.now 0) is.registers)) c.in_ok-loaded.loaded (told c.row.result) (c.in_ok-loaded.ensures p g.bytes is.memory)
    (c.row.ensures ∙ ap (guest_row c.args.instr.now) (c.values-2.ensures ∙ ap (guest_values c.args.instr.now c.in_ok-loaded.loaded) is.registers))
