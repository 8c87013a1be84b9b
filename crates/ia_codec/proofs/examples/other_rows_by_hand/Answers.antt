use Rattle.std.proofs.Common.{refl}
use Rattle.ia_codec.specs.Prelude.{highest_one}
use Rattle.ia_codec.proofs.examples.other_rows_by_hand.Goals as goal

pub returns : goal.returns
unfolding highest_one
returns c = record { bsr = refl; bsr_of_0 = refl; bswap = refl; neg_of_0 = refl; neg_of_least = refl }
