use Rattle.std.proofs.Common.{◌≡◌, take}
use Rattle.offer_make.proofs.Firsts.{six_of}
use Rattle.offer_make.proofs.candidates.first_six.Given as goal

abbrev pub invariant-loop-gpr : goal.invariant-loop-gpr
invariant-loop-gpr l = l.six.items ≡ six_of (take l.gpr-index l.gprs)
