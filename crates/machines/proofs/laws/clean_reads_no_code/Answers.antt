use Rattle.machines.specs.Prelude.{rights_of, code_of}
use Rattle.machines.proofs.Clean.{clean_is_same}
use Rattle.machines.proofs.laws.clean_reads_no_code.Goals as goal

pub returns : goal.returns
returns c = λ ops q h clean. clean_is_same (rights_of q) (code_of q) ops h clean
