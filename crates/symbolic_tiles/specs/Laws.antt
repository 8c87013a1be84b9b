-- What holds of places, of ops wherever they stand, and of memory.
use Rattle.std.specs.Prelude.{◌≡◌, ◌≢◌, ℕ, ◌+◌, ◌<◌, ◌≤◌, ◌^◌, ◌⊎◌, Bool, true, false, Some}
use Rattle.machines.specs.Prelude.{Map, Program, update, Rights, rights_of, Guest, Core, Host, reads, puts, host_acts, Op}
use Rattle.reg_map.specs.Prelude.{home, home_size, location_count, slot_of, location_place, IsHomePage, Represents}
use Rattle.symbolic_tiles.specs.Perform.{is_jump, op_outcome, then_at}
use Rattle.symbolic_tiles.specs.Row.{IsUnowned, WritesHeld, Window, TilePrecondition, TilePostcondition}

-- A place of a live location has its value and can be read.
abbrev pub PlacesAreRead : Type 0
PlacesAreRead =
    (m : Map) (area : ℕ) (guest host : Rights) (live : ℕ → Bool) (g : Guest) (core : Core) (x : ℕ) →
    IsHomePage area guest host → Represents m area (λ y. live y ≡ true) guest.held g core → x < location_count → live x ≡ true → reads host core (location_place m area x) ≡ Some (g.locs x)

-- What is behind the write of a location's place: its new value is represented and all else as before; the registers in
-- which it isn't and the bytes that are nobody's are kept.
pub record IsWritten (m : Map) (area : ℕ) (guest : Rights) (live : ℕ → Bool) (g : Guest) (x v : ℕ) (before after : Core) : Type 0 where
  pub represents : Represents m area (λ y. live y ≡ true) guest.held (record g { locs = update g.locs x v }) after
  pub registers : (r : ℕ) → slot_of m x ≢ Some r → after.regs r ≡ before.regs r
  pub memory : (a : ℕ) → IsUnowned m area guest.held a → after.bytes a ≡ before.bytes a

-- A place can be written with any number that fits it.
abbrev pub PlacesAreWritten : Type 0
PlacesAreWritten =
    (m : Map) (area : ℕ) (guest host : Rights) (live : ℕ → Bool) (g : Guest) (core : Core) (x v : ℕ) →
    IsHomePage area guest host → Represents m area (λ y. live y ≡ true) guest.held g core → x < location_count → v < 256 ^ home_size x →
    (after : Core) × (puts host core (location_place m area x) v ≡ Some after) × IsWritten m area guest live g x v core after

-- Where an op stands that is no jump decides nothing but the next op's address.
abbrev pub OpsStandAnywhere : Type 0
OpsStandAnywhere = (rights : Rights) (op : Op) (next : ℕ) (h : Host) → is_jump op ≡ false → host_acts rights op next h ≡ then_at next (op_outcome rights op h.choices h.core)

-- every byte outside the home page, and the homes of GPRs that registers hold
pub record KeepsMemory (m : Map) (area : ℕ) (before after : Core) : Type 0 where
  pub outside : (a : ℕ) → (a < area) ⊎ (area + 4096 ≤ a) → after.bytes a ≡ before.bytes a
  pub homes : (x i r : ℕ) → x < location_count → i < home_size x → slot_of m x ≡ Some r → after.bytes (area + home x + i) ≡ before.bytes (area + home x + i)

-- Ops that do what instructions without a store do keep all of that.
abbrev pub LoadsKeepMemory : Type 0
LoadsKeepMemory =
    (window : Window) (m : Map) (area : ℕ) (guest host : Rights) (g g' : Guest) (before after : Core) →
    TilePrecondition window m area guest host g before → TilePostcondition window m area guest g g' before after → g'.bytes ≡ g.bytes → KeepsMemory m area before after

-- what a program may write it holds
abbrev pub ProgramsWriteHeld : Type 0
ProgramsWriteHeld = (p : Program) → WritesHeld (rights_of p)
