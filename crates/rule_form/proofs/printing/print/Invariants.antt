use Rattle.std.proofs.Common.{◌≡◌, map, take}
use Rattle.rule_form.specs.Prelude.{written, text_of}
use Rattle.rule_form.proofs.printing.print.Given as goal

abbrev pub invariant-loop-rule : goal.invariant-loop-rule
invariant-loop-rule l = l.out.items ≡ text_of (map written (take l.rule-index l.rules))
