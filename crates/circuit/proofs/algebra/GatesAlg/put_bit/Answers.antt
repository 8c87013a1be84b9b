use Rattle.std.proofs.Common.{arith}
use Rattle.circuit.proofs.Meanings.{put_means, put_owned}
use Rattle.circuit.proofs.algebra.GatesAlg.put_bit.Goals as goal

pub returns-clause-owned : goal.returns-clause-owned
returns-clause-owned c = put_owned 32 c.args.place c.args.x c.args.b _ (omega arith) c.requires.x_owned c.requires.b_owned

pub returns-clause-means : goal.returns-clause-means
returns-clause-means c = λ v. put_means c.args.place c.args.x c.args.b v c.requires.within (omega arith)
