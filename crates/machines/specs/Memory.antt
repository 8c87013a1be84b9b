-- Memory: a byte for each address, and what a program's segments say of each address. This project's own.
use Rattle.std.specs.Prelude.{ℕ, zero, suc, ◌+◌, ◌-◌, ◌*◌, ◌/◌, ◌%◌, ◌^◌, Bool, true, false, cond, ◌&&◌, ◌||◌, eqb, ltb, leb, List, [], ◌∷◌, length, get_or, Option, Some, None, slice_get}
use Rattle.space.specs.declared.program.Program.{Program}
use Rattle.space.specs.declared.program.Segment.{Segment}

-- f, but v at k
abbrev pub update : (ℕ → ℕ) → ℕ → ℕ → ℕ → ℕ
update f k v x = cond (eqb x k) v (f x)

-- Addresses wrap at 2^32 throughout.

-- the number whose n bytes stand from a on, the lowest first
unfoldable pub load : ℕ → ℕ → (ℕ → ℕ) → ℕ
load zero a bytes = 0
load (suc n) a bytes = bytes (a % 2 ^ 32) + 256 * load n (a + 1) bytes

-- the memory in which the n lowest bytes of v stand from a on, the lowest first
unfoldable pub store : ℕ → ℕ → ℕ → (ℕ → ℕ) → ℕ → ℕ
store zero a v bytes = bytes
store (suc n) a v bytes = store n (a + 1) (v / 256) (update bytes (a % 2 ^ 32) (v % 256))

-- the same with the highest byte first
unfoldable pub load_big : ℕ → ℕ → (ℕ → ℕ) → ℕ
load_big zero a bytes = 0
load_big (suc n) a bytes = bytes (a % 2 ^ 32) * 256 ^ n + load_big n (a + 1) bytes

unfoldable pub store_big : ℕ → ℕ → ℕ → (ℕ → ℕ) → ℕ → ℕ
store_big zero a v bytes = bytes
store_big (suc n) a v bytes = store_big n (a + 1) v (update bytes (a % 2 ^ 32) (v / 256 ^ n % 256))

-- the n bytes from a on
unfoldable pub block : ℕ → ℕ → (ℕ → ℕ) → List ℕ
block zero a bytes = []
block (suc n) a bytes = bytes (a % 2 ^ 32) ∷ block n (a + 1) bytes

-- the memory in which these bytes stand from a on
unfoldable pub put_block : ℕ → List ℕ → (ℕ → ℕ) → ℕ → ℕ
put_block a [] bytes = bytes
put_block a (b ∷ bs) bytes = put_block (a + 1) bs (update bytes (a % 2 ^ 32) (b % 256))

-- each of the n addresses from a on passes the test
unfoldable pub each_byte : (ℕ → Bool) → ℕ → ℕ → Bool
each_byte test zero a = true
each_byte test (suc n) a = test (a % 2 ^ 32) && each_byte test n (a + 1)

-- which addresses lie in a segment, and which of them may be written
pub record Rights : Type 0 where
  pub held : ℕ → Bool
  pub writable : ℕ → Bool

-- bytes that are run: where they begin, and which they are
pub record Code : Type 0 where
  pub at : ℕ
  pub bytes : List ℕ

-- the address lies in the segment of so many bytes
abbrev pub is_within : ℕ → ℕ → ℕ → Bool
is_within at count a = leb at a && ltb a (at + count)

unfoldable pub is_held : List Segment → ℕ → Bool
is_held [] a = false
is_held (s ∷ ss) a = is_within s.at (length s.bytes) a || is_held ss a

unfoldable pub is_writable : List Segment → ℕ → Bool
is_writable [] a = false
is_writable (s ∷ ss) a = (s.write && is_within s.at (length s.bytes) a) || is_writable ss a

-- the byte at an address before the first step; 0 where no segment has one
unfoldable pub first_bytes : List Segment → ℕ → ℕ
first_bytes [] a = 0
first_bytes (s ∷ ss) a = cond (is_within s.at (length s.bytes) a) (get_or s.bytes (a - s.at) 0) (first_bytes ss a)

abbrev pub rights_of : Program → Rights
rights_of p = record { held = is_held p.segments; writable = is_writable p.segments }

abbrev pub code_in : Option Segment → Code
code_in None = record { at = 0; bytes = [] }
code_in (Some s) = record { at = s.at; bytes = s.bytes }

-- No step writes the code segment, so what is run are the program's own bytes.
abbrev pub code_of : Program → Code
code_of p = code_in (slice_get p.segments p.code)

-- the address lies in the code
abbrev pub is_code : Code → ℕ → Bool
is_code code a = is_within code.at (length code.bytes) a

-- the code's byte at an address in it
abbrev pub code_byte : Code → ℕ → ℕ
code_byte code a = get_or code.bytes (a - code.at) 0
