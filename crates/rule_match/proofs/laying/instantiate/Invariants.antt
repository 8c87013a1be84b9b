use Rattle.std.proofs.Common.{◌≡◌, List, map, take}
use Rattle.machines.specs.Prelude.{Instr}
use Rattle.rule_soundness.specs.Prelude.{AreWordsOf, laid_line}
use Rattle.rule_match.specs.Bindings.{match_of}
use Rattle.rule_match.proofs.laying.instantiate.Given as goal

abbrev pub invariant-loop-line : goal.invariant-loop-line
invariant-loop-line l = (found : List Instr) → AreWordsOf l.window found → l.ops.items ≡ map (laid_line (match_of found l.binding)) (take l.line-index l.line-items)
