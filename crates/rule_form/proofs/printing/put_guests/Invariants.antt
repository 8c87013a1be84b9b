use Rattle.std.proofs.Common.{◌≡◌, ◌≤◌, ◌-◌, ◌++◌, map, take}
use Rattle.rule_body.specs.Prelude.{guests_of}
use Rattle.rule_form.specs.Prelude.{GuestLine}
use Rattle.rule_form.proofs.Printed.{lines}
use Rattle.rule_form.proofs.printing.put_guests.Given as goal

abbrev pub invariant-loop-guest : goal.invariant-loop-guest
invariant-loop-guest l = record { out : l.out.items ≡ l.fn.out.items ++ lines (map GuestLine (take l.place (guests_of l.goal))); few : l.place ≤ 3 }

abbrev pub decreases-loop-guest : goal.decreases-loop-guest
decreases-loop-guest l = 3 - l.place
