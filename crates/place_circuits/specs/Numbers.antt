-- Numbers of rows and ops that are written, or filled with a constant of 16 bits.
use Rattle.std.specs.Prelude.{ℕ, ◌%◌, ◌^◌, ◌<◌}
pub use Rattle.rule_body.specs.Prelude.{hole_value}
use Rattle.place_circuits.specs.declared.constants.Number.{Number}
use Rattle.place_circuits.specs.declared.constants.Number.TheVariants.{Written, Filled}

-- a written number is a word, and one of a constant names a place
abbrev pub IsNumber : Number → Type 0
IsNumber (Written n) = n < 2 ^ 32
IsNumber (Filled hole place) = place < 64

-- the number, where the places hold these; a constant is the lowest 16 bits of its place
abbrev pub number_value : Number → (ℕ → ℕ) → ℕ
number_value (Written n) t = n
number_value (Filled hole place) t = hole_value hole (t place % 2 ^ 16)
