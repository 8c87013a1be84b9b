-- The home page, this project's own: where each location stands when no register of the host holds it.
-- Offsets count from the page's start. A location is its number: GPR g is g, LR is 32, CTR 33, CR field f is 34 + f,
-- and CA, SO, OV and the byte count XC of XER are 42 to 45.
use Rattle.std.specs.Prelude.{◌≢◌, ℕ, ◌+◌, ◌*◌, ◌<◌, ◌^◌, Bool, cond, ltb}

-- the home word of GPR g
abbrev pub gpr_home : ℕ → ℕ
gpr_home g = 4 * g

-- the home byte of CR field f, with LT 8, GT 4, EQ 2 and SO 1
abbrev pub cr_home : ℕ → ℕ
cr_home f = 136 + f

-- how many locations there are
abbrev pub location_count : ℕ
location_count = 46

-- GPRs, LR and CTR are words, the others bytes
abbrev pub is_word_location : ℕ → Bool
is_word_location x = ltb x 34

-- the home of any location, and how many bytes it has
abbrev pub home : ℕ → ℕ
home x = cond (is_word_location x) (4 * x) (102 + x)

abbrev pub home_size : ℕ → ℕ
home_size x = cond (is_word_location x) 4 1

-- the values of a location are below this: a word, a CR field of four bits, a bit of XER, or XC of seven bits
abbrev pub location_range : ℕ → ℕ
location_range x = cond (is_word_location x) (2 ^ 32) (cond (ltb x 42) 16 (cond (ltb x 45) 2 128))

-- every home lies in the home page, and no two share a byte
abbrev pub HomesAreApart : Type 0
HomesAreApart =
    (x y i j : ℕ) → x < location_count → y < location_count → x ≢ y → i < home_size x → j < home_size y →
    (home x + i < 4096) × (home x + i ≢ home y + j)
