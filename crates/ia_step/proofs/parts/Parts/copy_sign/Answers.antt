use Rattle.std.proofs.Common.{subst, ap, sym, ◌∙◌, ◌≡◌}
use Rattle.machines.specs.Prelude.{host_values, host_row, Cdq}
use Rattle.ia_step.specs.Prelude.{choice_of, IsCore, with_reg}
use Rattle.ia_step.proofs.parts.Parts.copy_sign.Goals as goal

pub returns : goal.returns
returns c = λ p core s.
    let e : c.effect-made.result.high ≡ (host_row Cdq (host_values (choice_of c.args.choice) core (core.regs 0) 0)).high =
    ap (λ o. o.high) (c.effect-made.ensures p core s) ∙ ap (λ x. (host_row Cdq (host_values (choice_of c.args.choice) core x 0)).high) (c.reg.ensures ∙ sym (s.registers 0)) in
    subst (λ v. IsCore p c.put_reg.new.self (with_reg core 2 v)) e (c.put_reg.ensures p core s)
