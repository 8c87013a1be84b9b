-- Shifts and rotates: the Intel SDM, volume 2, under SAL/SAR/SHL/SHR and RCL/RCR/ROL/ROR. The count is below 32. As
-- there, a count of 0 changes no flag, and OF is defined for a count of 1 alone.
use Rattle.std.specs.Prelude.{ℕ, ◌-◌, ◌%◌, Bool, true, false, cond, not, eqb}
use Rattle.word_kit.specs.Prelude.{is_negative, same, bit_of, shifted_left, shifted_right, shifted_arith, rotated}
use Rattle.ia_codec.specs.Types.{ShiftOp, Rol, Ror, Shl, Shr, Sar}
use Rattle.ia_codec.specs.Effect.{Flags, HostValues, HostEffect}
use Rattle.ia_codec.specs.Sums.{gives}

-- to turn to the right by a count is to turn to the left by the rest of 32
abbrev pub shift_result : ShiftOp → ℕ → ℕ → ℕ
shift_result Rol x count = rotated x count
shift_result Ror x count = rotated x (32 - count)
shift_result Shl x count = shifted_left x count
shift_result Shr x count = shifted_right x count
shift_result Sar x count = shifted_arith x count

-- CF, for a count above 0: the last bit that left; of a rotate, where that bit has come in
abbrev pub shift_carry : ShiftOp → ℕ → ℕ → Bool
shift_carry Rol x count = bit_of (rotated x count) 0
shift_carry Ror x count = bit_of (rotated x (32 - count)) 31
shift_carry Shl x count = bit_of x (32 - count)
shift_carry Shr x count = bit_of x (count - 1)
shift_carry Sar x count = bit_of x (count - 1)

-- OF, for the count 1
abbrev pub shift_overflow : ShiftOp → ℕ → Bool
shift_overflow Rol x = not (same (shift_carry Rol x 1) (is_negative (shift_result Rol x 1)))
shift_overflow Ror x = not (same (bit_of (shift_result Ror x 1) 31) (bit_of (shift_result Ror x 1) 30))
shift_overflow Shl x = not (same (shift_carry Shl x 1) (is_negative (shift_result Shl x 1)))
shift_overflow Shr x = is_negative x
shift_overflow Sar x = false

-- rotates leave ZF and SF as they are
abbrev pub is_rotate : ShiftOp → Bool
is_rotate Rol = true
is_rotate Ror = true
is_rotate Shl = false
is_rotate Shr = false
is_rotate Sar = false

-- a count of 0 leaves each flag as it is; OF is free for a count above 1
abbrev pub shift_flags : ShiftOp → ℕ → HostValues → Flags
shift_flags op count v = record {
  cf = cond (eqb count 0) v.flags.cf (shift_carry op v.x count);
  zf = cond (is_rotate op) v.flags.zf (cond (eqb count 0) v.flags.zf (eqb (shift_result op v.x count) 0));
  sf = cond (is_rotate op) v.flags.sf (cond (eqb count 0) v.flags.sf (is_negative (shift_result op v.x count)));
  of = cond (eqb count 0) v.flags.of (cond (eqb count 1) (shift_overflow op v.x) v.free_flags.of);
}

-- by the low five bits of a count
abbrev pub shift_row : ShiftOp → ℕ → HostValues → HostEffect
shift_row op count v = gives (shift_result op v.x (count % 32)) (shift_flags op (count % 32) v) v
