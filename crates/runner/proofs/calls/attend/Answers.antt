use Rattle.std.proofs.Common.{sym}
use Rattle.runner.specs.Prelude.{streams_by}
use Rattle.runner.proofs.Answering.{listed_read, listed_write, if_err}
use Rattle.runner.proofs.calls.attend.Goals as goal

pub returns-in_ok-attend_read-in-Read-clause-answered :
    goal.returns-in_ok-attend_read-in-Read-clause-answered
returns-in_ok-attend_read-in-Read-clause-answered g c = λ step listed next before shows describes told.
    let e = listed_read (g.M.Machine.memory c.args.machine.now) c.args.call listed c.in-Read.is describes in
    rw e (c.in_ok-attend_read-in-Read.ensures.answered step next (streams_by g.I.Source.left g.I.Source.faults g.O.Sink.shown g.O.Sink.faults g.E.Sink.shown g.E.Sink.faults c.args.input.now c.args.output.now c.args.errors.now) before (rw (sym e) shows) told)

pub returns-in-Write-clause-answered : goal.returns-in-Write-clause-answered
returns-in-Write-clause-answered g c = λ step listed next before shows describes told.
    let w = listed_write (g.M.Machine.memory c.args.machine.now) c.args.call listed c.in-Write.is describes in
    let e = w.is in
    rw e (c.attend_write.ensures.answered step w.bytes next (streams_by g.I.Source.left g.I.Source.faults g.O.Sink.shown g.O.Sink.faults g.E.Sink.shown g.E.Sink.faults c.args.input.now c.args.output.now c.args.errors.now) before (rw (sym e) shows) w.count w.stand told)

pub returns-in_err-attend_read-in-Read-clause-in_vain : goal.returns-in_err-attend_read-in-Read-clause-in_vain
returns-in_err-attend_read-in-Read-clause-in_vain g c = if_err c.from_residual.result _ (λ step listed next before shows describes told.
    rw (listed_read (g.M.Machine.memory c.args.machine.now) c.args.call listed c.in-Read.is describes)
    (c.in_err-attend_read-in-Read.ensures.in_vain (streams_by g.I.Source.left g.I.Source.faults g.O.Sink.shown g.O.Sink.faults g.E.Sink.shown g.E.Sink.faults c.args.input.now c.args.output.now c.args.errors.now) before told))
