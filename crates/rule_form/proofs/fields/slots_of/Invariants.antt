use Rattle.std.proofs.Common.{◌≡◌, false, map, take, drop, length}
use Rattle.std.specs.List.{AllByRecursion}
use Rattle.rule_form.specs.Prelude.{letter}
use Rattle.rule_form.proofs.fields.slots_of.Given as goal

abbrev pub invariant-loop-i : goal.invariant-loop-i
invariant-loop-i l = record { letters : map letter (take l.i l.slots) ≡ take l.i l.word; clear : AllByRecursion (λ x. x ≡ false) (drop l.i l.slots); size : length l.slots ≡ 6 }
