-- What no step of either machine makes different. This project's own.
use Rattle.std.specs.Prelude.{◌≡◌, ℕ, true, List, Option}
use Rattle.machines.specs.Prelude.{Instr, Program, Guest, Rights, Code, Fetched, Host, ReadsWords, rights_of, guest_machine, host_step}
use Rattle.reg_map.specs.Prelude.{IsHomePage, HasSegments}
use Rattle.symbolic_tiles.specs.Prelude.{WritesHeld}
use Rattle.simulation.specs.Prelude.{SimulationContext, IsGuest, LeadsToGuests, StepKeepsUnwritten, LiveIsEnough}

-- no step writes a byte that may not be written
abbrev pub HostKeepsUnwritten : Type 0
HostKeepsUnwritten =
    (rights : Rights) (code : Code) (reading : List ℕ → Option Fetched) (h : Host) →
    StepKeepsUnwritten rights h.core (host_step rights code reading h)

-- the host of a context with these rights keeps them so
abbrev pub ContextKeepsUnwritten : Type 0
ContextKeepsUnwritten =
    (s : SimulationContext) (code : Code) (reading : List ℕ → Option Fetched) → ((h : Host) → s.host_step h ≡ host_step s.host code reading h) →
    (h : Host) → StepKeepsUnwritten s.host h.core (s.host_step h)

-- The guest of a context runs a program, and the host has the guest's memory and, apart from it, the home page.
pub record RunsGuest (s : SimulationContext) (reading : ℕ → Option Instr) (P : Program) : Type 0 where
  pub reads : ReadsWords reading
  pub rights : s.guest ≡ rights_of P
  pub steps : (g : Guest) → s.guest_step g ≡ guest_machine reading P g
  pub page : IsHomePage s.area s.guest s.host
  pub segments : HasSegments s.guest s.host
  pub writes_held : WritesHeld s.guest

-- every step of it leads from a state of the guest to states of the guest
abbrev pub GuestsStayGuests : Type 0
GuestsStayGuests = (s : SimulationContext) (reading : ℕ → Option Instr) (P : Program) → RunsGuest s reading P → (g : Guest) → IsGuest s g → LeadsToGuests s (s.guest_step g)

-- where every location is live, guests that are alike are the same, and so is what their rows do
abbrev pub AllLiveIsEnough : Type 0
AllLiveIsEnough = (s : SimulationContext) → ((w x : ℕ) → s.live w x ≡ true) → LiveIsEnough s
