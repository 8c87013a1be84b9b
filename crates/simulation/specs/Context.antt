-- The two machines between which a simulation is told, and what each step of theirs leaves alone. This project's own.
use Rattle.std.specs.Prelude.{◌≡◌, ℕ, ◌+◌, ◌*◌, ◌%◌, ◌^◌, ◌<◌, ◌≤◌, ◌⊎◌, Bool, true, false, cond, drop, Option}
use Rattle.machines.specs.Prelude.{Outside, AnswerValue, Instr, Map, IsMap, Condition, condition_holds, Outcome, Goes, Asks, Ends, Rights, load, Guest, guest_executes, Core, Host, value_at}
use Rattle.reg_map.specs.Prelude.{location_count, location_range, location_place, Represents, AreInRange}
use Rattle.symbolic_tiles.specs.Prelude.{IsCore}

-- What no step changes: the rights to memory, the home page's address, the bytes that the written file lays out, both
-- machines, where `hold` stands; for each guest address the register map under which the block there begins and the
-- host address to which an edge leads, and that of the door, to which the table leads: the block, or the adapter before
-- it; the first code word's address, how many there are, and where the table stands; and which locations are live before
-- the word at an address.
pub record SimulationContext : Type 0 where
  pub guest : Rights
  pub host : Rights
  pub area : ℕ
  pub image : ℕ → ℕ
  pub guest_step : Guest → Outcome Guest
  pub host_step : Host → Outcome Host
  pub hold : ℕ
  pub entry_map : ℕ → Map
  pub target : ℕ → ℕ
  pub door : ℕ → ℕ
  pub first : ℕ
  pub count : ℕ
  pub table : ℕ
  pub live : ℕ → ℕ → Bool

-- bytes that may not be written are the same in both
abbrev pub KeepsUnwritten : Rights → Core → Core → Type 0
KeepsUnwritten rights before after = (a : ℕ) → rights.writable a ≡ false → after.bytes a ≡ before.bytes a

-- the same of what a step leads to, behind a call under every answer
abbrev pub StepKeepsUnwritten : Rights → Core → Outcome Host → Type 0
StepKeepsUnwritten rights before (Goes h) = KeepsUnwritten rights before h.core
StepKeepsUnwritten rights before (Asks call next) = (a : AnswerValue) → KeepsUnwritten rights before (next a).core
StepKeepsUnwritten rights before (Ends e) = Unit {0}

module _ (s : SimulationContext) where
  -- a code word stands at a guest address: this instruction's, or an illegal one
  abbrev pub IsWordAt : ℕ → Option Instr → Type 0
  IsWordAt a word = (g : Guest) → g.next ≡ a → s.guest_step g ≡ guest_executes s.guest word g

  -- no code word stands at a guest address
  abbrev pub IsOffCode : ℕ → Type 0
  IsOffCode a = (g : Guest) → g.next ≡ a → s.guest_step g ≡ Ends Outside

  -- at a host address stands a jump, however it is spelt
  abbrev pub JumpsTo : ℕ → ℕ → Type 0
  JumpsTo a to = (h : Host) → h.eip ≡ a → s.host_step h ≡ Goes (record { core = h.core; eip = to; choices = drop 1 h.choices })

  -- at a host address stands a jump that leads on by a condition on the flags
  abbrev pub ForksAt : Condition → ℕ → ℕ → ℕ → Type 0
  ForksAt c a holds fails = (h : Host) → h.eip ≡ a → s.host_step h ≡ Goes (record { core = h.core; eip = cond (condition_holds c h.core.flags) holds fails; choices = drop 1 h.choices })

  -- what every state has that the guest comes to: values that its locations can have, and bytes in its segments
  pub record IsGuest (g : Guest) : Type 0 where
    pub in_range : AreInRange g
    pub bytes : (a : ℕ) → s.guest.held a ≡ true → g.bytes a < 256

  -- the same of what an outcome leads to, behind a call under every answer
  abbrev pub LeadsToGuests : Outcome Guest → Type 0
  LeadsToGuests (Goes g) = IsGuest g
  LeadsToGuests (Asks call next) = (a : AnswerValue) → IsGuest (next a)
  LeadsToGuests (Ends e) = Unit {0}

  -- The relation on one pair of states. The host represents the guest under the map, on what is live at the guest's next
  -- word; each location's place has a value that the location can have; and bytes that may not be written are as the file
  -- lays them, as those of the table, of the code and of unwritable segments.
  pub record MatchesState (map : Map) (g : Guest) (core : Core) : Type 0 where
    pub is_map : IsMap map
    pub is_guest : IsGuest g
    pub represents : Represents map s.area (λ x. s.live g.next x ≡ true) s.guest.held g core
    pub in_range : (x : ℕ) → x < location_count → value_at core (location_place map s.area x) < location_range x
    pub is_core : IsCore core
    pub unwritten : (a : ℕ) → s.host.writable a ≡ false → core.bytes a ≡ s.image a

  -- the other guest is the same, but for locations that aren't live at the next word
  pub record Alike (g other : Guest) : Type 0 where
    pub next : other.next ≡ g.next
    pub locs : (x : ℕ) → s.live g.next x ≡ true → other.locs x ≡ g.locs x
    pub bytes : other.bytes ≡ g.bytes

  abbrev pub AreAlike : Outcome Guest → Outcome Guest → Type 0
  AreAlike (Goes g) (Goes other) = Alike g other
  AreAlike (Asks call next) (Asks asked others) = (asked ≡ call) × ((a : AnswerValue) → Alike (next a) (others a))
  AreAlike (Ends e) (Ends other) = other ≡ e
  AreAlike _ _ = ⊥

  -- What isn't live before a word makes no difference: its row has the same outcome, but for what isn't live behind it.
  abbrev pub LiveIsEnough : Type 0
  LiveIsEnough = (word : Option Instr) (g other : Guest) → IsWordAt g.next word → IsGuest g → IsGuest other → Alike g other → AreAlike (guest_executes s.guest word g) (guest_executes s.guest word other)

  -- The table of doors: a word for each code word, which can be read and not written. Off the code words the door is `hold`.
  pub record HasTable : Type 0 where
    pub aligned : s.first % 4 ≡ 0
    pub low : s.first + 4 * s.count ≤ 2 ^ 32
    pub first_word : s.first < 2 ^ 32
    pub count_word : 4 * s.count < 2 ^ 32
    pub table_low : s.table + 4 * s.count ≤ 2 ^ 32
    pub held : (i : ℕ) → i < 4 * s.count → s.host.held (s.table + i) ≡ true
    pub unwritable : (i : ℕ) → i < 4 * s.count → s.host.writable (s.table + i) ≡ false
    pub words : (k : ℕ) → k < s.count → load 4 (s.table + 4 * k) s.image ≡ s.door (s.first + 4 * k)
    pub off : (w : ℕ) → w < 2 ^ 32 → w % 4 ≡ 0 → (w < s.first) ⊎ (s.first + 4 * s.count ≤ w) → s.door w ≡ s.hold
