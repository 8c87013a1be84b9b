use Rattle.liveness.proofs.WordFlows.{read_anywhere, read_before_call, read_alone, few_counts}
use Rattle.std.proofs.Common.{sym, ◌∙◌}
use Rattle.liveness.proofs.reading.read_set.Goals as goal

pub returns-then-leads_anywhere-clause-each : goal.returns-then-leads_anywhere-clause-each
returns-then-leads_anywhere-clause-each c =
    read_anywhere c.args.instr.now c.reads-read.result c.reads-read.ensures (sym c.leads_anywhere.ensures ∙ c.if-leads_anywhere.true)

pub returns-then-leads_anywhere-clause-few : goal.returns-then-leads_anywhere-clause-few
returns-then-leads_anywhere-clause-few c =
    few_counts c.args.instr.now c.reads-read.result c.reads-read.ensures _
    (read_anywhere c.args.instr.now c.reads-read.result c.reads-read.ensures (sym c.leads_anywhere.ensures ∙ c.if-leads_anywhere.true))

pub returns-then-is_call-clause-each : goal.returns-then-is_call-clause-each
returns-then-is_call-clause-each c =
    read_before_call c.args.instr.now c.reads-read.result c.reads-read.ensures c.writes.result c.unwritten.result c.writes.ensures
    (sym c.leads_anywhere.ensures ∙ c.if-leads_anywhere.false) (sym c.is_call.ensures ∙ c.if-is_call.true) c.unwritten.ensures

pub returns-then-is_call-clause-few : goal.returns-then-is_call-clause-few
returns-then-is_call-clause-few c =
    few_counts c.args.instr.now c.reads-read.result c.reads-read.ensures _
    (read_before_call c.args.instr.now c.reads-read.result c.reads-read.ensures c.writes.result c.unwritten.result c.writes.ensures
    (sym c.leads_anywhere.ensures ∙ c.if-leads_anywhere.false) (sym c.is_call.ensures ∙ c.if-is_call.true) c.unwritten.ensures)

pub returns-else-is_call-clause-each : goal.returns-else-is_call-clause-each
returns-else-is_call-clause-each c =
    read_alone c.args.instr.now c.reads-read.result c.reads-read.ensures (sym c.leads_anywhere.ensures ∙ c.if-leads_anywhere.false)
    (sym c.is_call.ensures ∙ c.if-is_call.false)
