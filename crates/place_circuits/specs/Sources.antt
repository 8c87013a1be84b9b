-- What rows and ops read of places.
use Rattle.std.specs.Prelude.{◌⊎◌, ◌≡◌, ◌<◌, ◌≤◌, ◌+◌, ℕ, false, Option, Some, None}
use Rattle.word_kit.specs.Prelude.{sum_word, shifted_left}
use Rattle.row_runs.specs.Accesses.{little_number, cut}
use Rattle.place_circuits.specs.Numbers.{IsNumber, number_value}
use Rattle.place_circuits.specs.declared.sources.Address.{Address}
use Rattle.place_circuits.specs.declared.sources.Source.{Source}
use Rattle.place_circuits.specs.declared.sources.Source.TheVariants.{Zero, Place, Lowest, Bytes, Own, Sum}

-- 1, 2 or 4 bytes
abbrev pub IsWidth : ℕ → Type 0
IsWidth width = (width ≡ 1) ⊎ (width ≡ 2) ⊎ (width ≡ 4)

abbrev pub IsIndex : Option (ℕ × ℕ) → Type 0
IsIndex None = Unit {0}
IsIndex (Some index) = (index.0 < 64) × (index.1 < 4)

pub record IsAddress (a : Address) : Type 0 where
  pub base : a.base < 64
  pub index : IsIndex a.index
  pub displacement : IsNumber a.displacement

-- the base, and with an index the sum with the index, shifted to the left by its second number
abbrev pub indexed : ℕ → Option (ℕ × ℕ) → (ℕ → ℕ) → ℕ
indexed base None t = t base
indexed base (Some index) t = sum_word (t base) (shifted_left (t index.0) index.1) false

abbrev pub address_value : Address → (ℕ → ℕ) → ℕ
address_value a t = sum_word (indexed a.base a.index t) (number_value a.displacement t) false

-- so many bytes at places one after another
pub record AreBytes (first count : ℕ) : Type 0 where
  pub width : IsWidth count
  pub room : first + count ≤ 64

abbrev pub IsSource : Source → Type 0
IsSource Zero = Unit {0}
IsSource (Place p) = p < 64
IsSource (Lowest p width) = (p < 64) × IsWidth width
IsSource (Bytes first width) = AreBytes first width
IsSource (Own n) = IsNumber n
IsSource (Sum a) = IsAddress a

-- 0, a place, its lowest bytes, the bytes at places one after another, the lowest first, a number, or an address
abbrev pub source_value : Source → (ℕ → ℕ) → ℕ
source_value Zero t = 0
source_value (Place p) t = t p
source_value (Lowest p width) t = cut width (t p)
source_value (Bytes first width) t = little_number width (λ k. t (first + k))
source_value (Own n) t = number_value n t
source_value (Sum a) t = address_value a t
