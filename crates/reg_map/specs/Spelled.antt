-- Each op has one spelling (this project's own choice among those of the Intel SDM, volume 2): between
-- registers the one with the register operand as the source, from memory the one that loads.
use Rattle.std.specs.Prelude.{ℕ}
use Rattle.machines.specs.Prelude.{AluOp, Operand, Reg, Op, AluTo, AluFrom, MovTo, MovFrom}

-- mov to,from
abbrev pub mov_from : ℕ → Operand → Op
mov_from to (Reg r) = MovTo (Reg to) r
mov_from to from = MovFrom to from

-- op to,from
abbrev pub alu_from : AluOp → ℕ → Operand → Op
alu_from op to (Reg r) = AluTo op (Reg to) r
alu_from op to from = AluFrom op to from
