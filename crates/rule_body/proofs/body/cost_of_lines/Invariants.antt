use Rattle.std.proofs.Common.{◌≡◌, ◌≤◌, ◌*◌, sum_by, take}
use Rattle.ia_codec.specs.Prelude.{cost_of}
use Rattle.rule_body.specs.Prelude.{HostLine}
use Rattle.rule_body.proofs.body.cost_of_lines.Given as goal

abbrev pub invariant-loop-line : goal.invariant-loop-line
invariant-loop-line l = record { sum : l.total ≡ sum_by (λ (line : HostLine). cost_of line.op) (take l.line-index l.lines); most : l.total ≤ 22 * l.line-index }
