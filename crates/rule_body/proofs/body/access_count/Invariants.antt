use Rattle.std.proofs.Common.{◌≡◌, ◌≤◌, count_by, take}
use Rattle.rule_body.specs.Prelude.{HostLine, accesses}
use Rattle.rule_body.proofs.body.access_count.Given as goal

abbrev pub invariant-loop-line : goal.invariant-loop-line
invariant-loop-line l = record { count : l.count ≡ count_by (λ (line : HostLine). accesses line.op) (take l.line-index l.lines); few : l.count ≤ l.line-index }
