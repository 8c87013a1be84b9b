use Rattle.std.proofs.Common.{refl}
use Rattle.runner.specs.Prelude.{streams_by}
use Rattle.trans_tool.specs.Prelude.{IsDueRun}
use Rattle.trans_tool.proofs.Coming.{runs-told}
use Rattle.trans_tool.proofs.Completing.{translation_due, listing_due}
use Rattle.trans_tool.proofs.RunDue.{IsCalm, run_comes, calm_before, calm_behind, usage_comes, usage_told, fault_told, rose_from, due_told}
use Rattle.trans_tool.proofs.entry.top.Goals as goal

pub returns-clause-runs : goal.returns-clause-runs
returns-clause-runs g c = runs-told _ _ _
    (streams_by g.I.Source.left g.I.Source.faults g.O.Sink.shown g.O.Sink.faults g.E.Sink.shown g.E.Sink.faults c.run-ended.new.input c.run-ended.new.output c.run-ended.new.errors)
    _ c.run-ended.result c.report-cause.result (record { left = refl; faults = refl }) (record { shown = refl; faults = refl }) c.run-ended.ensures.comes c.report-cause.ensures.told

pub returns-clause-due : goal.returns-clause-due
returns-clause-due g c = λ from to bytes free. translation_due bytes _ _ _ _ from to free c.report-cause.result (returns-clause-runs g c)

pub returns-clause-due_listing : goal.returns-clause-due_listing
returns-clause-due_listing g c = λ name bytes free. listing_due bytes _ _ _ _ name free c.report-cause.result (returns-clause-runs g c)

pub returns-clause-due_run : goal.returns-clause-due_run
returns-clause-due_run g c = λ name bytes steps before words_read ops_read reads reads' free told.
    let after = streams_by g.I.Source.left g.I.Source.faults g.O.Sink.shown g.O.Sink.faults g.E.Sink.shown g.E.Sink.faults c.run-ended.new.input c.run-ended.new.output c.run-ended.new.errors in
    let calm : IsCalm _ after = record {
      input = free.input;
      output = free.output;
      errors = calm_before _ _ _ c.report-cause.ensures.later free.errors;
    } in
    let came = run_comes bytes words_read ops_read reads reads' _ _ _ _ after name steps before told free calm c.run-ended.result c.run-ended.ensures.comes in
    due_told (IsDueRun words_read ops_read bytes steps before) c.run-ended.result c.report-cause.result _ _ _ _ came c.report-cause.ensures.told (calm_behind _ _ _ c.run-ended.ensures.later free.errors)

pub returns-clause-usage_only : goal.returns-clause-usage_only
returns-clause-usage_only g c = λ usage.
    (usage_told c.run-ended.result c.report-cause.result _ _ _ _ (usage_comes _ _ _ _ c.run-ended.result usage c.run-ended.ensures.comes) c.report-cause.ensures.told, c.run-ended.ensures.untouched usage)

pub returns-clause-err_fault : goal.returns-clause-err_fault
returns-clause-err_fault g c = λ is.
    rose_from _ _ _ c.run-ended.ensures.later (fault_told c.run-ended.result c.report-cause.result _ _ _ _ c.run-ended.ensures.not_told c.report-cause.ensures.told is)
