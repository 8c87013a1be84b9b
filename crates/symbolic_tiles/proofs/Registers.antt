-- Registers and immediates are words, fields of CR have four bits.
use Rattle.std.proofs.Common.{◌≡◌, ℕ, ◌+◌, ◌/◌, ◌^◌, ◌<◌, false, arith}
use Rattle.std.proofs.lemmas.Bool.Decides.{nat_tests}
use Rattle.machines.specs.Prelude.{sign_extended, difference_flags, Guest}
use Rattle.reg_map.specs.Prelude.{location_range, AreInRange}
use Rattle.symbolic_tiles.specs.Prelude.{SymbolicState}

pub word : (x : ℕ) → x < 32 → x < 34
word x h = omega arith

-- a register's value
pub gpr : (g : Guest) (x : ℕ) → AreInRange g → x < 32 → g.locs x < 2 ^ 32
gpr g x range h = let r = range x (omega arith) in grind (arith, nat_tests)

pub extended_word : (imm : ℕ) → imm < 2 ^ 16 → sign_extended 16 imm < 2 ^ 32
extended_word imm lt = grind (arith, nat_tests)

-- the field of CR that has bit n
pub field_small : (g : Guest) (n : ℕ) → AreInRange g → n < 32 → g.locs (34 + n / 4) < 16
field_small g n range ln = let r = range (34 + n / 4) (omega arith) in let l : n / 4 < 8 = omega arith in small (n / 4) l r
  where
    small : (f : ℕ) → f < 8 → g.locs (34 + f) < location_range (34 + f) → g.locs (34 + f) < 16
    small f l r = grind (arith, nat_tests)

-- the flags are those of a difference, and nothing else has changed
abbrev pub HasFlags : ℕ → ℕ → Guest → SymbolicState → Type 0
HasFlags x y g s = (s.flags ≡ difference_flags x y false) × (s.locs ≡ g.locs) × (s.bytes ≡ g.bytes)
