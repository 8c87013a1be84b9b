use Rattle.std.proofs.Common.{◌≡◌, take}
use Rattle.rule_lines.specs.Lines.{lines_for}
use Rattle.rule_lines.proofs.lines.body_lines.Given as goal

abbrev pub invariant-loop-i : goal.invariant-loop-i
invariant-loop-i l = l.lines.items ≡ take l.i (lines_for l.goal l.body)
