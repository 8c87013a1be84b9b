-- Bits of places.
use Rattle.std.specs.Prelude.{◌<◌, ◌≤◌, ◌+◌, ◌/◌, ◌%◌, ◌^◌, ℕ}
use Rattle.place_circuits.specs.declared.fields.Field.{Field}

pub record IsField (field : Field) : Type 0 where
  pub place : field.place < 64
  pub some : 1 ≤ field.count
  pub within : field.low + field.count ≤ 32

-- the number that the bits are
abbrev pub field_value : Field → (ℕ → ℕ) → ℕ
field_value field t = t field.place / 2 ^ field.low % 2 ^ field.count
