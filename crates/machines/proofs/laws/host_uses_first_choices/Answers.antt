use Rattle.machines.proofs.Choices.{uses_first_choices}
use Rattle.machines.proofs.laws.host_uses_first_choices.Goals as goal

pub returns : goal.returns
returns c = uses_first_choices
