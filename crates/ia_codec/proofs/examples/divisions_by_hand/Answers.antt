use Rattle.std.proofs.Common.{refl}
use Rattle.ia_codec.proofs.examples.divisions_by_hand.Goals as goal

pub returns : goal.returns
returns c = record { div = refl; idiv = refl; by_0 = refl; too_long = refl; idiv_too_long = refl }
