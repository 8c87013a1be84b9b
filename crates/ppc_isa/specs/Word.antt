-- Power ISA Book I describes a word of 32 bits as fields from the left, each a width in bits and a value.
use Rattle.std.specs.Prelude.{ℕ, ◌+◌, ◌*◌, ◌^◌, ◌<◌, List, [], ◌∷◌}

pub record Field : Type 0 where
  pub width : ℕ
  pub value : ℕ

abbrev pub bits : ℕ → ℕ → Field
bits n v = record { width = n; value = v }

-- how many bits the fields have
abbrev pub width : List Field → ℕ
width [] = 0
width (f ∷ fs) = f.width + width fs

-- the number whose bits the fields are
abbrev pub word : List Field → ℕ
word [] = 0
word (f ∷ fs) = f.value * 2 ^ width fs + word fs

-- each value fits its field
abbrev pub Fit : List Field → Type 0
Fit [] = Unit {0}
Fit (f ∷ fs) = (f.value < 2 ^ f.width) × Fit fs
