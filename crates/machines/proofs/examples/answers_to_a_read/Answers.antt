use Rattle.machines.proofs.Calls.{read_answers}
use Rattle.machines.proofs.examples.answers_to_a_read.Goals as goal

pub returns : goal.returns
returns c = read_answers
