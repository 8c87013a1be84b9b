use Rattle.std.proofs.Common.{◌≡◌, ◌+◌, drop}
use Rattle.rule_lines.specs.Lines.{nth_slot}
use Rattle.rule_lines.proofs.places.nth_slot.Given as goal

abbrev pub invariant-loop-k : goal.invariant-loop-k
invariant-loop-k l = l.k + nth_slot (drop l.k l.slots) l.left ≡ nth_slot l.slots l.n
