-- When ops do on the host what instructions do on the guest. This project's own.
use Rattle.std.specs.Prelude.{◌≡◌, ◌≢◌, ℕ, zero, suc, ◌+◌, ◌%◌, ◌^◌, ◌<◌, Bool, true, false, List, [], ◌∷◌, map, Option, Some, None, Contains}
use Rattle.machines.specs.Prelude.{Map, Instr, IsMap, Access, NoAccess, LoadAccess, StoreAccess, locations_written, Op, Condition, condition_holds, eax, ecx, edx, Outcome, Goes, Rights, Guest, effect_of, guest_acts, Choice, Core, value_at}
use Rattle.reg_map.specs.Prelude.{home, home_size, location_count, location_range, slot_of, location_place, IsHomePage, Represents, AreInRange}
use Rattle.symbolic_tiles.specs.Perform.{perform}
use Rattle.symbolic_tiles.specs.Relocated.{op_at}

-- the fact holds of the core, and there is one
abbrev pub GoesThrough : Option Core → (Core → Type 0) → Type 0
GoesThrough None P = ⊥
GoesThrough (Some core) P = P core

-- the n addresses from a on
abbrev pub span : ℕ → ℕ → List ℕ
span zero a = []
span (suc n) a = a % 2 ^ 32 ∷ span n (a + 1)

-- the addresses of the bytes that an access loads, and of those that it stores
abbrev pub loaded : Access → ℕ → ℕ → List ℕ
loaded NoAccess width address = []
loaded LoadAccess width address = span width address
loaded StoreAccess width address = []

abbrev pub stored : Access → ℕ → ℕ → List ℕ
stored NoAccess width address = []
stored LoadAccess width address = []
stored StoreAccess width address = span width address

-- What instructions do together: how they go on from a state, with no fetch between them; the addresses of memory that
-- they load from and store to; the locations that they may write; those whose values no later word needs; and, where the
-- last of them is a conditional branch and the ops leave its condition in the flags, that condition and whether the
-- branch is taken.
pub record Window : Type 0 where
  pub outcome : Rights → Guest → Outcome Guest
  pub loads : Guest → List ℕ
  pub stores : Guest → List ℕ
  pub writes : List ℕ
  pub dead : ℕ → Bool
  pub condition : Option Condition
  pub taken : Guest → Bool

-- every location
abbrev pub Any : ℕ → Type 0
Any x = Unit {0}

-- a byte of neither the guest's memory nor a home at which a location stands
pub record IsUnowned (map : Map) (area : ℕ) (held : ℕ → Bool) (a : ℕ) : Type 0 where
  pub no_guest : held a ≡ false
  pub no_home : (x i : ℕ) → x < location_count → i < home_size x → slot_of map x ≡ None → a ≢ area + home x + i

-- what every state that the machine comes to has: words in registers and bytes in memory
pub record IsCore (core : Core) : Type 0 where
  pub words : (r : ℕ) → core.regs r < 2 ^ 32
  pub bytes : (a : ℕ) → core.bytes a < 256

-- what may be written is held
abbrev pub WritesHeld : Rights → Type 0
WritesHeld r = (a : ℕ) → r.writable a ≡ true → r.held a ≡ true

-- The host state in which the ops are run, and the guest state that it represents. Of the guest's memory the host needs
-- no more than the window's own bytes.
pub record TilePrecondition (window : Window) (map : Map) (area : ℕ) (guest host : Rights) (g : Guest) (core : Core) : Type 0 where
  pub page : IsHomePage area guest host
  pub writes_held : WritesHeld guest
  pub loads : (a : ℕ) → Contains (window.loads g) a → host.held a ≡ true
  pub stores : (a : ℕ) → Contains (window.stores g) a → host.writable a ≡ true
  pub represents : Represents map area Any guest.held g core
  pub in_range : AreInRange g
  pub is_core : IsCore core

-- The core behind the ops represents the guest's next state, on all locations but the dead ones, and each location's
-- place has a value in its range. A register other than the temporaries eax, ecx, edx is kept unless a location stands
-- in it that may be written. Of memory there is kept what is neither the guest's nor a home in use: all else outside the
-- home page, and in it the homes of GPRs that registers hold. The flags have the window's condition.
pub record TilePostcondition (window : Window) (map : Map) (area : ℕ) (guest : Rights) (g g' : Guest) (before after : Core) : Type 0 where
  pub represents : Represents map area (λ x. window.dead x ≡ false) guest.held g' after
  pub in_range : (x : ℕ) → x < location_count → value_at after (location_place map area x) < location_range x
  pub registers : (r : ℕ) → r ≢ eax → r ≢ ecx → r ≢ edx → ((x : ℕ) → Contains window.writes x → slot_of map x ≢ Some r) → after.regs r ≡ before.regs r
  pub memory : (a : ℕ) → IsUnowned map area guest.held a → after.bytes a ≡ before.bytes a
  pub condition : (c : Condition) → window.condition ≡ Some c → condition_holds c after.flags ≡ window.taken g
  pub is_core : IsCore after

-- The ops do what the window does, at this map and area: with any rights, also where the host has nothing of the
-- guest's memory but the access, from each state that represents the guest, and for every list of choices.
abbrev pub Implements : Window → Map → ℕ → List Op → Type 0
Implements window map area ops =
    (guest host : Rights) (g g' : Guest) (core : Core) (choices : List Choice) →
    TilePrecondition window map area guest host g core → window.outcome guest g ≡ Goes g' → GoesThrough (perform host ops choices core) (TilePostcondition window map area guest g g' core)

-- the window of one instruction, behind which every location may be needed
abbrev pub window_of : Instr → Window
window_of i = record {
  outcome = λ guest g. guest_acts guest i (effect_of i g) g;
  loads = λ g. let e = effect_of i g in loaded e.kind e.width e.address;
  stores = λ g. let e = effect_of i g in stored e.kind e.width e.address;
  writes = locations_written i;
  dead = λ x. false;
  condition = None;
  taken = λ g. (effect_of i g).taken;
}

-- a tile does what its instruction's row does, under every map and at every area
abbrev pub DoesRow : Instr → (Map → List Op) → Type 0
DoesRow i tile = (m : Map) (area : ℕ) → IsMap m → Implements (window_of i) m area (map (op_at area) (tile m))

-- ops do what an instruction's row does, under a map and at every area
abbrev pub DoesRowAt : Instr → Map → List Op → Type 0
DoesRowAt i m ops = (area : ℕ) → Implements (window_of i) m area (map (op_at area) ops)
