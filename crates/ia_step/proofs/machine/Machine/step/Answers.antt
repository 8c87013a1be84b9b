use Rattle.std.proofs.Common.{subst, sym}
use Rattle.machines.specs.Prelude.{host_machine}
use Rattle.machine_calls.specs.Phases.{stepped}
use Rattle.ia_step.specs.Prelude.{Shows}
use Rattle.ia_step.proofs.Standing.{steps}
use Rattle.ia_step.proofs.machine.Machine.step.Goals as goal

pub returns-in-Going-clause-shows : goal.returns-in-Going-clause-shows
returns-in-Going-clause-shows c = λ ops reads p o shown.
    subst (λ phase. Shows p (record { state = c.step-event.new.self; phase = phase }) (stepped (host_machine ops p) o)) (sym c.phase_after-self-inside.ensures)
    (steps p ops c.self.inside.state c.step-event.new.self c.self.inside.phase c.step-event.result o c.in-Going.is (λ h s. c.step-event.ensures.leads ops reads p h s)
    (rw (← c.self.view_is) at shown)).0

pub returns-in-Going-clause-tells : goal.returns-in-Going-clause-tells
returns-in-Going-clause-tells c = λ ops reads p o shown.
    (steps p ops c.self.inside.state c.step-event.new.self c.self.inside.phase c.step-event.result o c.in-Going.is (λ h s. c.step-event.ensures.leads ops reads p h s)
    (rw (← c.self.view_is) at shown)).1
