use Rattle.machines.proofs.Calls.{write_answers}
use Rattle.machines.proofs.examples.answers_to_a_write.Goals as goal

pub returns : goal.returns
returns c = write_answers
