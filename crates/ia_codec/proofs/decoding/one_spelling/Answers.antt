use Rattle.ia_codec.proofs.Spelt.{prefix_free}
use Rattle.ia_codec.proofs.decoding.one_spelling.Goals as goal

pub returns : goal.returns
returns c a b x y p q e = prefix_free a b x y p q e
