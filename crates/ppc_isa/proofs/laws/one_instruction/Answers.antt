use Rattle.ppc_isa.proofs.ReadWords.{one_of}
use Rattle.ppc_isa.proofs.laws.one_instruction.Goals as goal

pub returns : goal.returns
returns c w i j p q = one_of w i j p q
