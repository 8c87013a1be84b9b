use Rattle.std.proofs.Common.{true, subst, sym}
use Rattle.machines.specs.Prelude.{rights_of, leaves, place_of}
use Rattle.ia_step.specs.Prelude.{Led}
use Rattle.ia_step.proofs.Cores.{left, not_left, flags_left}
use Rattle.ia_step.proofs.parts.Parts.leave.Goals as goal
use Rattle.ia_step.proofs.parts.Parts.leave.Goals.{then-has_result+in_ok-write, else-has_result}

pub returns-in_err-write-clause-leads : goal.returns-in_err-write-clause-leads
returns-in_err-write-clause-leads c = λ p core e s told.
    rw (c.from_residual.ensures, c.if-has_result.true) (not_left p (place_of c.args.size c.args.to core.regs) core c.write.new.self c.args.made.now e (c.in_err-write.ensures.leads p core s) told)

pub returns-clause-leads : goal.returns-clause-leads
returns-clause-leads c = λ p core e s told.
    elim c.if-has_result.branch [
      | then-has_result+in_ok-write w ↦
          subst (λ r. Led p true (record r { flags = c.flags_of-self.result }) (leaves (rights_of p) c.args.has_result e (place_of c.args.size c.args.to core.regs) core)) (sym w.self-is)
          (subst (λ b. Led p true (record w.write.new.self { flags = c.flags_of-self.result }) (leaves (rights_of p) b e (place_of c.args.size c.args.to core.regs) core)) (sym w.if-has_result.true)
          (left p (place_of c.args.size c.args.to core.regs) core w.write.new.self c.args.made.now c.flags_of-self.result e (w.in_ok-write.ensures.leads p core s) c.flags_of-self.ensures told))
      | else-has_result w ↦
          subst (λ r. Led p true (record r { flags = c.flags_of-self.result }) (leaves (rights_of p) c.args.has_result e (place_of c.args.size c.args.to core.regs) core)) (sym w.self-is)
          (subst (λ b. Led p true (record c.args.self.now { flags = c.flags_of-self.result }) (leaves (rights_of p) b e (place_of c.args.size c.args.to core.regs) core)) (sym w.if-has_result.false)
          (flags_left p (place_of c.args.size c.args.to core.regs) core c.args.self.now c.args.made.now c.flags_of-self.result e s c.flags_of-self.ensures told))
    ]
