use Rattle.std.proofs.Common.{refl}
use Rattle.worked_rows.proofs.host.sums.Goals as goal

pub returns : goal.returns
returns c = record { overflows = refl; carries = refl; least_twice = refl; adds_the_carry = refl; carry_overflows = refl; carries_through = refl; no_carry = refl; borrows = refl; least_less_1 = refl; takes_the_borrow = refl; borrows_through = refl; no_borrow = refl; compares = refl }
