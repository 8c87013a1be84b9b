-- What a run accesses. This project's own.
use Rattle.std.specs.Prelude.{◌≡◌, ◌+◌, ◌%◌, ◌^◌, ◌==◌, if◌then◌else◌, ℕ, Bool, true, List}
use Rattle.std.specs.List.{All}
use Rattle.word_kit.specs.Prelude.{byte_of, joined}

-- Whether it loads, how many bytes, from which address on, and for a store the bytes that are stored, as the number whose
-- highest byte comes first.
pub record Accessed : Type 0 where
  pub loads : Bool
  pub width : ℕ
  pub address : ℕ
  pub stored : ℕ

-- the number that so many bytes are, 4, 2 or 1: the first is the highest one, or the lowest one
abbrev pub big_number : ℕ → (ℕ → ℕ) → ℕ
big_number width bytes = if width == 4 then joined (bytes 0) (bytes 1) (bytes 2) (bytes 3) else if width == 2 then joined 0 0 (bytes 0) (bytes 1) else joined 0 0 0 (bytes 0)

abbrev pub little_number : ℕ → (ℕ → ℕ) → ℕ
little_number width bytes = if width == 4 then joined (bytes 3) (bytes 2) (bytes 1) (bytes 0) else if width == 2 then joined 0 0 (bytes 1) (bytes 0) else joined 0 0 0 (bytes 0)

-- the number that the lowest bytes of a number are, and the one of the same bytes in the other order
abbrev pub cut : ℕ → ℕ → ℕ
cut width n = little_number width (byte_of n)

abbrev pub turned : ℕ → ℕ → ℕ
turned width n = big_number width (byte_of n)

-- An oracle answers loads: the bytes from an address on. This one is a memory with a byte at each address.
abbrev pub bytes_at : (ℕ → ℕ) → ℕ → ℕ → ℕ
bytes_at memory address k = memory ((address + k) % 2 ^ 32)

-- an oracle that answers every load with the same bytes, whatever its address is
abbrev pub always : (ℕ → ℕ) → ℕ → ℕ → ℕ
always bytes address = bytes

-- the oracle answers each load of these with those bytes
abbrev pub Finds : (ℕ → ℕ → ℕ) → (ℕ → ℕ) → List Accessed → Type 0
Finds oracle bytes accesses = All (λ x. x.loads ≡ true → oracle x.address ≡ bytes) accesses
