-- Tests joined from the left.
use Rattle.std.proofs.Common.{◌≡◌, Bool, true, false, ◌||◌, refl}

pub joined : (a b c d e : Bool) → (((a || b) || c) || d) || e ≡ a || b || c || d || e
joined true b c d e = refl
joined false true c d e = refl
joined false false true d e = refl
joined false false false true e = refl
joined false false false false e = refl
