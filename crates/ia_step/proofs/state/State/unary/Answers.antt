use Rattle.std.proofs.Common.{subst, sym}
use Rattle.machines.specs.Prelude.{rights_of}
use Rattle.ia_step.specs.Prelude.{Leads}
use Rattle.ia_step.proofs.Going.{unary_plain}
use Rattle.ia_step.proofs.state.State.unary.Goals as goal

pub returns-in-Not : goal.returns-in-Not
returns-in-Not c = record {
  leads = λ p h s. subst (λ o. Leads p c.plain.result c.plain.new.self o) (sym (unary_plain (rights_of p) c.args.single c.args.on c.args.next h c.in-Not.is)) (c.plain.ensures.leads p h s);
  done = c.plain.ensures.done;
}
