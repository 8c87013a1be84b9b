use Rattle.std.proofs.Common.{◌≡◌, List, drop}
use Rattle.machines.specs.Prelude.{Instr}
use Rattle.rule_body.specs.Prelude.{guests_of, AreGuests}
use Rattle.rule_soundness.specs.Prelude.{AreWordsOf}
use Rattle.rule_match.specs.Matching.{register_read}
use Rattle.rule_match.proofs.reading.gpr_at.Given as goal

abbrev pub invariant-loop-place : goal.invariant-loop-place
invariant-loop-place l = (words found : List Instr) → AreGuests (guests_of l.goal) words → AreWordsOf l.window found → register_read words found l.number ≡ register_read (drop l.place words) (drop l.place found) l.number
