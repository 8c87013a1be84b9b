-- What an op reads and what it gives, as values. Which registers and bytes they come from and go to is said by the
-- machine. This project's own; the flags are those of the Intel SDM, volume 1, 3.4.3.1.
use Rattle.std.specs.Prelude.{ℕ, Bool, false}

-- carry, zero, sign, overflow
pub record Flags : Type 0 where
  pub cf : Bool
  pub zf : Bool
  pub sf : Bool
  pub of : Bool

-- The old values: `x` of the first operand, `y` of the second one, a single one or the immediate, `high` of edx, and
-- the flags; `free` and `free_flags` are the processor's choice where the manual leaves a result or a flag undefined.
pub record HostValues : Type 0 where
  pub x : ℕ
  pub y : ℕ
  pub high : ℕ
  pub flags : Flags
  pub free : ℕ
  pub free_flags : Flags

-- The result, for products and divisions the second one, the new flags, whether the op's condition holds, and whether
-- it faults.
pub record HostEffect : Type 0 where
  pub result : ℕ
  pub high : ℕ
  pub flags : Flags
  pub holds : Bool
  pub faults : Bool

-- nothing is changed
abbrev pub unchanged : HostValues → HostEffect
unchanged v = record { result = v.x; high = v.high; flags = v.flags; holds = false; faults = false }
