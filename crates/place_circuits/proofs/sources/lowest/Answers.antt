use Rattle.word_kit.specs.Prelude.{byte_of}
use Rattle.place_circuits.proofs.sources.lowest.Goals as goal

pub returns-clause-means : goal.returns-clause-means
returns-clause-means c = λ w n e. c.little_word.ensures.means w (byte_of n) (c.bytes_of-bytes.ensures.means w n e)
