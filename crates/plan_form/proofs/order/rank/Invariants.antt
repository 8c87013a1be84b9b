use Rattle.std.proofs.Common.{◌≡◌, ℕ, ◌<◌, get_or, false}
use Rattle.machines.specs.Prelude.{Map}
use Rattle.plan_form.specs.Prelude.{is_alone}
use Rattle.plan_form.proofs.order.rank.Given as goal

abbrev pub invariant-loop-index : goal.invariant-loop-index
invariant-loop-index l = (k : ℕ) (d : Map) → k < l.index → let m = get_or l.problem.maps.items k d in is_alone l.gpr m.ebx m.esi m.edi ≡ false
