-- Rotates with a mask: Power ISA Book I, 3.3.14.
use Rattle.std.specs.Prelude.{ℕ}
use Rattle.word_kit.specs.Prelude.{complement, word_and, word_or, rotated, mask}
use Rattle.ppc_isa.specs.Instruction.{RotateOp, Rlwinm, Rlwnm, Rlwimi}
use Rattle.ppc_isa.specs.Effect.{GuestValues}

-- rlwnm turns by the low five bits of rB; rlwimi keeps the bits of rA outside the mask
abbrev pub rotate : RotateOp → ℕ → ℕ → ℕ → GuestValues → ℕ
rotate Rlwinm by mb me v = word_and (rotated v.s by) (mask mb me)
rotate Rlwnm by mb me v = word_and (rotated v.s v.b) (mask mb me)
rotate Rlwimi by mb me v = word_or (word_and (rotated v.s by) (mask mb me)) (word_and v.a (complement (mask mb me)))
