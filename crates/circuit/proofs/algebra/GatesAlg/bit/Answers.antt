use Rattle.std.proofs.Common.{arith}
use Rattle.circuit.proofs.Values.{word_reach-at}
use Rattle.circuit.proofs.Meanings.{bit_means}
use Rattle.circuit.proofs.algebra.GatesAlg.bit.Goals as goal

pub returns-clause-owned : goal.returns-clause-owned
returns-clause-owned c = let r = word_reach-at 32 c.args.place c.args.x c.requires.within in omega (arith, r)

pub returns-clause-means : goal.returns-clause-means
returns-clause-means c = λ v. bit_means c.args.x v c.args.place c.requires.within
