use Rattle.trans_tool.proofs.OneDue.{one_due, one_listing, one_run}
use Rattle.trans_tool.proofs.due.one_due.Goals as goal

pub returns-clause-translation : goal.returns-clause-translation
returns-clause-translation c = λ bytes a b. one_due c.one_program.ensures c.one_fault.ensures bytes a b

pub returns-clause-listing : goal.returns-clause-listing
returns-clause-listing c = λ bytes a b. one_listing c.one_program.ensures c.one_fault.ensures bytes a b

pub returns-clause-run : goal.returns-clause-run
returns-clause-run c = λ words ops bytes steps before a b. one_run c.one_program.ensures c.one_fault.ensures words ops bytes steps before a b
