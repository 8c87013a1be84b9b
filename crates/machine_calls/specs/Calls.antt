-- A call that waits for its answer: what is listed of it, its buffer, and what an answer gives. This project's own.
use Rattle.std.specs.Prelude.{◌≡◌, ℕ, Bool, true, false, Result, Ok, Err}
use Rattle.machines.specs.Prelude.{Call, CallKind, Program, ArePermitted, ListedCall, Read, Write, Close, Given, Gives, Fails, block, put_block, each_byte, rights_of}
use Rattle.space.specs.declared.call.CallKind.TheVariants as kind
use Rattle.space.specs.Memory.{Memory}
use Rattle.access.specs.Kept.{Keeps}

abbrev pub listed_as : CallKind → (fd at count : ℕ) → (ℕ → ℕ) → ListedCall
listed_as kind.Read fd at count bytes = Read fd count
listed_as kind.Write fd at count bytes = Write fd (block count at bytes)
listed_as kind.Close fd at count bytes = Close fd

-- what a report lists of a call, where memory is this
abbrev pub listed_call : Call → (ℕ → ℕ) → ListedCall
listed_call c bytes = listed_as c.kind c.fd c.at c.count bytes

-- the buffer of a read may be written, that of a write may be read
abbrev pub has_right : CallKind → Memory → (at count : ℕ) → Type 0
has_right kind.Read m at count = ArePermitted m true at count
has_right kind.Write m at count = ArePermitted m false at count
has_right kind.Close m at count = Unit {0}

abbrev pub HasBuffer : Call → Memory → Type 0
HasBuffer c m = has_right c.kind m c.at c.count

-- the same of a program's memory, as a test
abbrev pub is_buffer : Program → CallKind → (at count : ℕ) → Bool
is_buffer p kind.Read at count = each_byte (rights_of p).writable count at
is_buffer p kind.Write at count = each_byte (rights_of p).held count at
is_buffer p kind.Close at count = true

-- A call whose buffer begins here is given a result, and the bytes that come with it stand in its buffer; or an error, and
-- memory stays.
abbrev pub IsGiven : Program → (ℕ → ℕ) → ℕ → Given → Result ℕ ℕ → Memory → Type 0
IsGiven p bytes at (Gives value to_buffer) result m = (result ≡ Ok value) × Keeps p (put_block at to_buffer bytes) m
IsGiven p bytes at (Fails error) result m = (result ≡ Err error) × Keeps p bytes m
