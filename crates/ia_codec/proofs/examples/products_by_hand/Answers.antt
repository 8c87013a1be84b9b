use Rattle.std.proofs.Common.{refl}
use Rattle.ia_codec.proofs.examples.products_by_hand.Goals as goal

pub returns : goal.returns
returns c = record { mul_long = refl; mul_short = refl; imul1_short = refl; imul1_long = refl; imul_short = refl; imul_long = refl }
