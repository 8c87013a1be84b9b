use Rattle.std.proofs.Common.{◌∙◌, ap}
use Rattle.circuit.specs.Prelude.{word_value}
use Rattle.circuit.proofs.Meanings.{byte_means, byte_owned, owned_of}
use Rattle.circuit.proofs.algebra.GatesAlg.byte.Goals as goal

pub returns-clause-owned : goal.returns-clause-owned
returns-clause-owned c = owned_of _ _ _ c.byte_word.ensures (byte_owned c.args.x c.args.k _ c.requires.within c.requires.x_owned)

pub returns-clause-means : goal.returns-clause-means
returns-clause-means c = λ v. ap (λ w. word_value 32 w v) c.byte_word.ensures ∙ byte_means c.args.x c.args.k v c.requires.within
