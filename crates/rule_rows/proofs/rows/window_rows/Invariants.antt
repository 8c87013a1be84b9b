use Rattle.std.proofs.Common.{◌≡◌, List, take}
use Rattle.machines.specs.Prelude.{Instr}
use Rattle.rule_body.specs.Prelude.{guests_of, AreGuests}
use Rattle.rule_rows.specs.Rows.{rows_for}
use Rattle.rule_rows.proofs.rows.window_rows.Given as goal

abbrev pub invariant-loop-place : goal.invariant-loop-place
invariant-loop-place l = (words : List Instr) → AreGuests (guests_of l.goal) words → l.rows.items ≡ take l.place (rows_for l.goal words)
