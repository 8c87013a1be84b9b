use Rattle.std.proofs.Common.{subst, sym}
use Rattle.machines.specs.Prelude.{rights_of}
use Rattle.ia_step.specs.Prelude.{Leads}
use Rattle.ia_step.proofs.Going.{IsOther, other_acts}
use Rattle.ia_step.proofs.state.State.act.Goals as goal

pub returns-in_default : goal.returns-in_default
returns-in_default c =
    let o : IsOther c.args.op = record { no_unary = c.in_default.not-Unary; no_jcc = c.in_default.not-Jcc; no_jmp = c.in_default.not-Jmp; no_jump_to = c.in_default.not-JmpTo; no_call = c.in_default.not-Int80; no_trap = c.in_default.not-Int3; no_illegal = c.in_default.not-Ud2 } in
    record {
      leads = λ p h s. subst (λ o. Leads p c.plain.result c.plain.new.self o) (sym (other_acts (rights_of p) c.args.op c.args.next h o)) (c.plain.ensures.leads p h s);
      done = c.plain.ensures.done;
    }
