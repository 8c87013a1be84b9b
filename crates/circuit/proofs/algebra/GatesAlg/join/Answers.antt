use Rattle.std.proofs.Common.{◌∙◌, ap}
use Rattle.circuit.specs.Prelude.{word_value}
use Rattle.circuit.proofs.Meanings.{join_means, join_owned, owned_of}
use Rattle.circuit.proofs.algebra.GatesAlg.join.Goals as goal

pub returns-clause-owned : goal.returns-clause-owned
returns-clause-owned c = owned_of _ _ _ c.joined.ensures (join_owned c.args.b3 c.args.b2 c.args.b1 c.args.b0 _ c.requires.b3_owned c.requires.b2_owned c.requires.b1_owned c.requires.b0_owned)

pub returns-clause-means : goal.returns-clause-means
returns-clause-means c = λ v. ap (λ w. word_value 32 w v) c.joined.ensures ∙ join_means c.args.b3 c.args.b2 c.args.b1 c.args.b0 v
