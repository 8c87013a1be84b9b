use Rattle.ia_alu.proofs.Choices.{defined_is_not_chosen, undefined_flag_is_chosen, undefined_result_is_chosen}
use Rattle.ia_alu.proofs.laws.undefined_alone_is_chosen.Goals as goal

pub returns-clause-defined : goal.returns-clause-defined
returns-clause-defined c = λ op v w same. defined_is_not_chosen op v w same

pub returns-clause-flags : goal.returns-clause-flags
returns-clause-flags c = λ op v f h. undefined_flag_is_chosen op v f h

pub returns-clause-results : goal.returns-clause-results
returns-clause-results c = λ op v h. undefined_result_is_chosen op v h
