use Rattle.std.proofs.Common.{take}
use Rattle.line_text.specs.Lines.{IsFree}
use Rattle.line_text.proofs.pieces.cut.Given as goal

abbrev pub invariant-loop-i : goal.invariant-loop-i
invariant-loop-i l = IsFree l.by (take l.i l.text)
