use Rattle.std.proofs.Common.{arith}
use Rattle.circuit.proofs.Values.{word_reach-at}
use Rattle.circuit.proofs.Meanings.{put_owned}
use Rattle.circuit.proofs.operations.with_top_flipped.Goals as goal

pub flip-requires : goal.flip-requires
flip-requires c = let r = word_reach-at 32 31 c.args.x (omega arith) in omega (arith, r)

pub returns-clause-owned : goal.returns-clause-owned
returns-clause-owned c = let r = word_reach-at 32 31 c.args.x (omega arith) in put_owned 32 31 c.args.x c.flip.result _ (omega arith) (omega arith) (omega (arith, r, c.flip.ensures.owned))
