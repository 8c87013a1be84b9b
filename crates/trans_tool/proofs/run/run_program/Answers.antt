use Rattle.std.proofs.Common.{refl, subst, []}
use Rattle.std.specs.Prelude.{map}
use Rattle.machines.specs.Prelude.{Goes, guest_machine, guest_start, host_machine, host_start}
use Rattle.ia_step.specs.Prelude.{Shows, choice_of}
use Rattle.runner.specs.Prelude.{streams_by}
use Rattle.trans_tool.proofs.Ran.{host_ran, host_ran_partly}
use Rattle.trans_tool.proofs.run.run_program.Goals as goal

pub run-requires-clause-stands : goal.run-requires-clause-stands
run-requires-clause-stands g c = (
  guest_machine c.readings_exist.ensures.words.0 c.args.program,
  guest_start c.args.program,
  record { words = c.readings_exist.ensures.words.0; reads = c.readings_exist.ensures.words.1; program = c.args.program; is = refl; shows = c.start-machine.ensures },
)

pub run-requires-in-Ia32-clause-stands : goal.run-requires-in-Ia32-clause-stands
run-requires-in-Ia32-clause-stands g c = (
  host_machine c.readings_exist.ensures.ops.0 c.args.program,
  host_start c.args.program [],
  record { ops = c.readings_exist.ensures.ops.0; reads = c.readings_exist.ensures.ops.1; program = c.args.program; is = refl; shows = subst (λ items. Shows c.args.program c.start-machine-in-Ia32.result (Goes (host_start c.args.program (map choice_of items)))) c.new.ensures.items c.start-machine-in-Ia32.ensures },
)

pub returns-in-Ia32-clause-ran : goal.returns-in-Ia32-clause-ran
returns-in-Ia32-clause-ran g c = host_ran c.run-in-Ia32.result c.args.program c.args.steps
    (streams_by g.I.Source.left g.I.Source.faults g.O.Sink.shown g.O.Sink.faults g.E.Sink.shown g.E.Sink.faults c.args.input.now c.args.output.now c.args.errors.now)
    _ c.start-machine-in-Ia32.result c.in-Ia32.is
    (subst (λ items. Shows c.args.program c.start-machine-in-Ia32.result (Goes (host_start c.args.program (map choice_of items)))) c.new.ensures.items c.start-machine-in-Ia32.ensures)
    c.run-in-Ia32.ensures.attended

pub returns-in-Ia32-clause-partly : goal.returns-in-Ia32-clause-partly
returns-in-Ia32-clause-partly g c = host_ran_partly c.run-in-Ia32.result c.args.program c.args.steps
    (streams_by g.I.Source.left g.I.Source.faults g.O.Sink.shown g.O.Sink.faults g.E.Sink.shown g.E.Sink.faults c.args.input.now c.args.output.now c.args.errors.now)
    _ c.start-machine-in-Ia32.result c.in-Ia32.is
    (subst (λ items. Shows c.args.program c.start-machine-in-Ia32.result (Goes (host_start c.args.program (map choice_of items)))) c.new.ensures.items c.start-machine-in-Ia32.ensures)
    c.run-in-Ia32.ensures.partly
