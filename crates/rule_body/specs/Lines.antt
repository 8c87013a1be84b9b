-- Which ops a body may have, for a window. This project's own.
use Rattle.std.specs.Prelude.{◌≡◌, ◌⊎◌, ℕ, ◌+◌, ◌-◌, ◌*◌, ◌%◌, ◌^◌, ◌<◌, ◌≤◌, ◌==◌, ◌&&◌, ◌||◌, nat_lt, Bool, false, IsTrue, List, Option, Some, None, slice_get, IsBitSet}
use Rattle.std.specs.List.{AllByRecursion}
use Rattle.word_kit.specs.Prelude.{sign_extended}
use Rattle.ia_codec.specs.declared.op.Operand.{Operand}
use Rattle.ia_codec.specs.declared.op.Operand.TheVariants.{Reg, Abs, Base, Pair}
use Rattle.ia_codec.specs.declared.op.Op.{Op}
use Rattle.ia_codec.specs.Prelude.{IsInProfile}
use Rattle.rule_body.specs.declared.line.Hole.{Hole}
use Rattle.rule_body.specs.declared.line.Hole.TheVariants.{S, Z, H, N}
use Rattle.rule_body.specs.declared.line.HostLine.{HostLine}
use Rattle.rule_body.specs.declared.operands.OpParts.{OpParts}
use Rattle.rule_body.specs.Templates.{Template, slot_count, HasConstant}
use Rattle.rule_body.specs.Ops.{is_straight, parts, filled, registers}

-- eax, ecx and edx, and as many of ebx, esi and edi as there are slots
abbrev pub is_usable : ℕ → ℕ → Bool
is_usable slots r = nat_lt r 3 || (r == 3 && nat_lt 0 slots) || (r == 6 && nat_lt 1 slots) || (r == 7 && nat_lt 2 slots)

-- The bytes from an offset of the home page are of the home of a parameter that stands there, parameter k + 1 at 4 * (k + 1),
-- or of the homes of other locations, from 128 up to 147.
abbrev pub IsHome : List Bool → ℕ → ℕ → Type 0
IsHome slots offset width =
    ((k : ℕ) × (offset ≡ 4 * (k + 1)) × (slice_get slots k ≡ Some false)) ⊎ ((128 ≤ offset) × (offset + width ≤ 148))

-- no byte is the home of a dead location, cr0 to cr7 from 136 on and then ca, so, ov and xc
abbrev pub IsKept : ℕ → ℕ → ℕ → Type 0
IsKept dead offset width = (b : ℕ) → offset ≤ b → b < offset + width → 136 ≤ b → IsBitSet dead (b - 128) → ⊥

-- absolute operands are homes, and what is written there isn't dead; sums are operands of moves and lea alone
abbrev pub IsOperandFor : Template → OpParts → Option Operand → Type 0
IsOperandFor t p None = Unit {0}
IsOperandFor t p (Some (Reg m)) = Unit {0}
IsOperandFor t p (Some (Abs offset)) = IsHome t.slots offset p.width × (IsTrue p.written → IsKept t.dead offset p.width)
IsOperandFor t p (Some (Base b d)) = IsTrue p.moves
IsOperandFor t p (Some (Pair b x s d)) = IsTrue p.moves

-- a hole is filled with the constant of a word, in a field that is 0
abbrev pub IsHoleFor : Template → Op → Option (Hole × ℕ) → Type 0
IsHoleFor t op None = Unit {0}
IsHoleFor t op (Some hole) = HasConstant t.guests hole.1 × (filled op ≡ Some 0)

-- the number with which a constant fills a hole: as signed, as unsigned, multiplied by 65536, as signed and negated
abbrev pub hole_value : Hole → ℕ → ℕ
hole_value S c = sign_extended 16 c
hole_value Z c = c
hole_value H c = 65536 * c
hole_value N c = (2 ^ 32 - sign_extended 16 c) % 2 ^ 32

-- Each register and operand may stand there, and so may the hole.
pub record IsHostLine (t : Template) (line : HostLine) : Type 0 where
  pub profile : IsInProfile line.op
  pub straight : IsTrue (is_straight line.op)
  pub registers : AllByRecursion (λ r. IsTrue (is_usable (slot_count t.slots) r)) (registers line.op)
  pub operand : IsOperandFor t (parts line.op) (parts line.op).operand
  pub hole : IsHoleFor t line.op line.hole
