use Rattle.std.proofs.Common.{subst}
use Rattle.trans_tool.specs.Prelude.{Spelled}
use Rattle.trans_tool.proofs.entry.run.Goals as goal

pub returns-in-Some-Run-clause-untouched : goal.returns-in-Some-Run-clause-untouched
returns-in-Some-Run-clause-untouched g c = λ usage. absurd (usage.no_run c.in-Some-Run.named.file.now c.in-Some-Run.named.steps (subst (Spelled _) c.in-Some-Run.field-0-is c.in-Some-Run.ensures))

pub returns-in-Some-Run-clause-untaken : goal.returns-in-Some-Run-clause-untaken
returns-in-Some-Run-clause-untaken g c = λ none. absurd (none c.in-Some-Run.named.file.now c.in-Some-Run.named.steps (subst (Spelled _) c.in-Some-Run.field-0-is c.in-Some-Run.ensures))

pub returns-in-Some-Run-clause-unput : goal.returns-in-Some-Run-clause-unput
returns-in-Some-Run-clause-unput g c = λ listed none. absurd (none c.in-Some-Run.named.file.now c.in-Some-Run.named.steps (subst (Spelled _) c.in-Some-Run.field-0-is c.in-Some-Run.ensures))
