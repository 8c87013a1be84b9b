-- Logic: Power ISA Book I, 3.3.13. Bit by bit; nand, nor and eqv are complements, andc and orc take one of rB.
use Rattle.std.specs.Prelude.{ℕ}
use Rattle.word_kit.specs.Prelude.{word_and, word_or, word_xor}
use Rattle.ppc_isa.specs.Instruction.{LogicImmediateOp, Ori, Oris, Xori, Xoris, Andi, Andis}

-- the immediate stands as the word that it is taken for, so the shifted forms are as the others
abbrev pub logic_immediate : LogicImmediateOp → ℕ → ℕ → ℕ
logic_immediate Ori s b = word_or s b
logic_immediate Oris s b = word_or s b
logic_immediate Xori s b = word_xor s b
logic_immediate Xoris s b = word_xor s b
logic_immediate Andi s b = word_and s b
logic_immediate Andis s b = word_and s b
