-- The memory of a running program: its segments with the bytes that stand in them now. Each byte may be read, and written where its segment may be. This project's own.
use Rattle.std.specs.Prelude.{◌≡◌, ℕ, ◌+◌, ◌-◌, ◌%◌, ◌^◌, ◌<◌, Bool, true, ◌&&◌, nat_le, nat_lt, ◌==◌, if◌then◌else◌, IsTrue, Option, Some, None, option_and_then, List, length, map, drop, find, slice_get, slice_set, AllPairs}
use Rattle.std.specs.List.{list_any}
use Rattle.byteorder.specs.Endian.{big_number}
use Rattle.space.specs.declared.program.Segment.{Segment}

-- `code` is the place of the segment whose bytes are run
pub record Memory : Type 0 where
  pub segments : List Segment
  pub code : ℕ

-- the address lies in the segment
abbrev pub has_address : ℕ → Segment → Bool
has_address a s = nat_le s.at a && nat_lt a (s.at + length s.bytes)

-- no address lies in two segments
abbrev pub AreApart : List Segment → Type 0
AreApart segments =
    AllPairs (λ s t. (a : ℕ) → has_address a s ≡ true → has_address a t ≡ true → ⊥) segments

-- the byte at an address, or None where the address lies in no segment
abbrev pub byte_at : Memory → ℕ → Option ℕ
byte_at m a = option_and_then (λ s. slice_get s.bytes (a - s.at)) (find (has_address a) m.segments)

-- the segment permits the address, to be written where that is asked
abbrev pub permits : Bool → ℕ → Segment → Bool
permits writable a s = if writable then (s.write && has_address a s) else has_address a s

-- the address lies in a segment, or in a writable one where that is asked
abbrev pub is_permitted : Memory → Bool → ℕ → Bool
is_permitted m writable a = list_any (permits writable a) m.segments

-- the same for each of so many addresses, which go on at 0 behind the last one
abbrev pub ArePermitted : Memory → Bool → (at count : ℕ) → Type 0
ArePermitted m writable at count = (k : ℕ) → k < count → IsTrue (is_permitted m writable ((at + k) % 2 ^ 32))

-- the segment with this byte at the address, if the address lies in it
abbrev pub put_byte : ℕ → ℕ → Segment → Segment
put_byte a b s = if has_address a s then record s { bytes = slice_set s.bytes (a - s.at) b } else s

-- the memory with this byte at the address, and all else as it is
abbrev pub with_byte : Memory → ℕ → ℕ → Memory
with_byte m a b = record m { segments = map (put_byte a b) m.segments }

-- a word of four bytes stands at the address, aligned, and all of it in the segment
abbrev pub has_word : ℕ → Segment → Bool
has_word a s = (a % 4 == 0) && nat_le s.at a && nat_le (a + 4) (s.at + length s.bytes)

-- the word of the code at an address, the highest byte first
abbrev pub word_in : ℕ → Segment → Option ℕ
word_in a s = if has_word a s then Some (big_number 4 (drop (a - s.at) s.bytes)) else None

abbrev pub code_word : Memory → ℕ → Option ℕ
code_word m a = option_and_then (word_in a) (slice_get m.segments m.code)

-- the bytes from an address of the segment on to its end
abbrev pub bytes_from : ℕ → Segment → Option (List ℕ)
bytes_from a s = if has_address a s then Some (drop (a - s.at) s.bytes) else None

-- the same for the code
abbrev pub code_from : Memory → ℕ → Option (List ℕ)
code_from m a = option_and_then (bytes_from a) (slice_get m.segments m.code)
