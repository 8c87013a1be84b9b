-- The homes of locations.
use Rattle.std.proofs.Common.{arith}
use Rattle.std.proofs.lemmas.Bool.Decides.{nat_tests}
use Rattle.reg_map.specs.Prelude.{HomesAreApart}

pub homes_apart : HomesAreApart
homes_apart x y i j hx hy ne hi hj = (grind (arith, nat_tests), grind (arith, nat_tests))
