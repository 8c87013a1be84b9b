-- Compares and traps: Power ISA Book I, 3.3.10 and 3.3.11.
use Rattle.std.specs.Prelude.{ℕ, Bool, true, false, ◌&&◌, ◌||◌, eqb}
use Rattle.word_kit.specs.Prelude.{is_less, bit_of}

-- the five bits of TO choose tests, from the left: less, greater, equal, and less and greater as unsigned numbers
abbrev pub trap_holds : ℕ → ℕ → ℕ → Bool
trap_holds to x y =
    (bit_of to 4 && is_less x y true) || (bit_of to 3 && is_less y x true) || (bit_of to 2 && eqb x y) || (bit_of to 1 && is_less x y false) || (bit_of to 0 && is_less y x false)
