-- Accesses: Power ISA Book I, 3.3.2 to 3.3.6. A number in memory has its highest byte first.
use Rattle.std.specs.Prelude.{ℕ, ◌+◌, ◌-◌, ◌*◌, ◌%◌, ◌^◌}
use Rattle.word_kit.specs.Prelude.{sign_extended, byte_of, joined}
use Rattle.ppc_isa.specs.Effect.{GuestValues, Effect, LoadAccess, StoreAccess, unchanged}

-- the effective address
abbrev pub address_of : ℕ → GuestValues → ℕ
address_of x v = (x + v.b) % 2 ^ 32

-- the bytes of a number the other way round
abbrev pub word_reversed : ℕ → ℕ
word_reversed x = joined (byte_of x 0) (byte_of x 1) (byte_of x 2) (byte_of x 3)

abbrev pub half_reversed : ℕ → ℕ
half_reversed x = joined 0 0 (byte_of x 0) (byte_of x 1)

-- a half read as signed
abbrev pub half_extended : ℕ → ℕ
half_extended x = sign_extended 16 (x % 2 ^ 16)

abbrev pub byte_extended : ℕ → ℕ
byte_extended x = sign_extended 8 (x % 2 ^ 8)

-- so many bytes from an address on are loaded, and rD gets a number made of them
abbrev pub loads : ℕ → ℕ → ℕ → GuestValues → Effect
loads width x result v = record (unchanged v) { d = result; address = address_of x v; width = width; kind = LoadAccess }

abbrev pub stores : ℕ → ℕ → ℕ → GuestValues → Effect
stores width x number v = record (unchanged v) { address = address_of x v; stored = number; width = width; kind = StoreAccess }

-- with update, rA gets the address
abbrev pub updates : Effect → Effect
updates e = record e { a = e.address }

-- from register d to register 31, four bytes each
abbrev pub multiple_width : ℕ → ℕ
multiple_width d = 4 * (32 - d)
