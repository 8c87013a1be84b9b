-- When a host state represents a guest state under a register map. This project's own.
use Rattle.std.specs.Prelude.{◌≡◌, ℕ, ◌+◌, ◌<◌, ◌≤◌, ◌^◌, ◌⊎◌, Bool, true, Option, Some, None}
use Rattle.machines.specs.Prelude.{Map, Rights, Guest, Core, Place, Register, value_at}
use Rattle.reg_map.specs.Home.{home, home_size, location_count, location_range}
use Rattle.reg_map.specs.Place.{slot_of}
use Rattle.machines.specs.Host.{Memory}

abbrev pub in_slot : Option ℕ → Place → Place
in_slot (Some register) at_home = Register register
in_slot None at_home = at_home

-- a location is in the cache register that holds it, else in its home
abbrev pub location_place : Map → ℕ → ℕ → Place
location_place map area x = in_slot (slot_of map x) (Memory (home_size x) (area + home x))

-- The home page: 4096 bytes of the host below 2^32 that may be read and written and lie in no segment of the guest.
pub record IsHomePage (area : ℕ) (guest host : Rights) : Type 0 where
  pub low : area + 4096 ≤ 2 ^ 32
  pub held : (i : ℕ) → i < 4096 → host.held (area + i) ≡ true
  pub writable : (i : ℕ) → i < 4096 → host.writable (area + i) ≡ true
  pub apart : (a : ℕ) → guest.held a ≡ true → (a < area) ⊎ (area + 4096 ≤ a)

-- The host has every address of the guest's segments, and may write it where the guest may.
pub record HasSegments (guest host : Rights) : Type 0 where
  pub held : (a : ℕ) → guest.held a ≡ true → host.held a ≡ true
  pub writable : (a : ℕ) → guest.held a ≡ true → host.writable a ≡ guest.writable a

-- Each live location's value is at its place, and each byte of the guest's segments is the same.
pub record Represents (map : Map) (area : ℕ) (live : ℕ → Type 0) (held : ℕ → Bool) (g : Guest) (core : Core) : Type 0 where
  pub locs : (x : ℕ) → x < location_count → live x → value_at core (location_place map area x) ≡ g.locs x
  pub bytes : (a : ℕ) → held a ≡ true → core.bytes a ≡ g.bytes a

-- each location has a value that it can have
abbrev pub AreInRange : Guest → Type 0
AreInRange g = (x : ℕ) → x < location_count → g.locs x < location_range x
