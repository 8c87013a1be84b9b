use Rattle.std.proofs.Common.{◌≡◌, ◌≤◌, ◌*◌, List, take}
use Rattle.std.specs.List.{sum_by}
use Rattle.machines.specs.Prelude.{Instr}
use Rattle.rule_body.specs.Prelude.{guests_of, AreGuests}
use Rattle.rule_soundness.specs.Fields.{load_width}
use Rattle.rule_rows.proofs.rows.window_width.Given as goal

abbrev pub invariant-loop-place : goal.invariant-loop-place
invariant-loop-place l = ((words : List Instr) → AreGuests (guests_of l.goal) words → l.width ≡ sum_by load_width (take l.place words)) × (l.width ≤ 4 * l.place)
