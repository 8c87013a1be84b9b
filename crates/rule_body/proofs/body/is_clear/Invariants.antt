use Rattle.std.proofs.Common.{◌≡◌, take}
use Rattle.std.specs.List.{AllByRecursion}
use Rattle.rule_body.specs.Prelude.{no_line}
use Rattle.rule_body.proofs.body.is_clear.Given as goal

abbrev pub invariant-loop-line : goal.invariant-loop-line
invariant-loop-line l = AllByRecursion (λ line. line ≡ no_line) (take l.line-index l.lines)
