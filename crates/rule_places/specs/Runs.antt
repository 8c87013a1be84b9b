-- When rows and lines over numbered places do what a window and a body do. This project's own.
use Rattle.std.specs.Prelude.{◌≡◌, ◌+◌, ◌^◌, ◌<◌, ◌≤◌, ℕ, true, false, List, [], length}
use Rattle.machines.specs.Prelude.{Goes, Instr, Rights, Guest, Choice, Core}
use Rattle.reg_map.specs.Prelude.{AreInRange}
use Rattle.symbolic_tiles.specs.Prelude.{IsCore}
use Rattle.simulation.specs.Prelude.{rows_of}
use Rattle.rule_body.specs.declared.goal.Goal.{Goal}
use Rattle.rule_body.specs.declared.body.Body.{Body}
use Rattle.rule_soundness.specs.Prelude.{Match}
use Rattle.row_runs.specs.Windows.{guest_steps}
use Rattle.row_runs.specs.Bodies.{BodyRun, host_steps}
use Rattle.row_circuits.specs.declared.rows.WindowRow.{WindowRow}
use Rattle.row_circuits.specs.declared.lines.BodyLine.{BodyLine}
use Rattle.window_circuits.specs.Runs.{row_at, line_at}
use Rattle.rule_places.specs.Accesses.{seen, AreAway, AreFound, AreInside}
use Rattle.rule_places.specs.Guests.{GuestRan, ShowsGuest, plain_window}
use Rattle.rule_places.specs.Hosts.{HostRan, ShowsHost, picks_of}

-- Wherever the window goes on, and memory has bytes where it is held, the rows over the guest's memory, begun at places that show the
-- guest, show the guest behind it.
abbrev pub RunsWindow : Goal → List Instr → Match → ℕ → List WindowRow → Type 0
RunsWindow goal words m width rows =
    (rights : Rights) (g g' : Guest) (t : ℕ → ℕ) → AreInRange g → ((a : ℕ) → rights.held a ≡ true → g.bytes a < 256) → ShowsGuest goal m g.locs t → rows_of rights (plain_window goal words m) g ≡ Goes g' →
    GuestRan goal words m width rights g g' (guest_steps (length rows) (seen width g.bytes) (row_at rows) (record { places = t; accesses = []; taken = false }))

-- where a body's run may be made: the home page can be read and written, and the run has one access at most, of other bytes, which may
-- be accessed, and loads what stands there
pub record MayRun (area : ℕ) (host : Rights) (core : Core) (oracle : ℕ → ℕ → ℕ) (end : BodyRun) : Type 0 where
  pub low : area + 4096 ≤ 2 ^ 32
  pub held : (i : ℕ) → i < 4096 → host.held (area + i) ≡ true
  pub writable : (i : ℕ) → i < 4096 → host.writable (area + i) ≡ true
  pub few : length end.accesses ≤ 1
  pub inside : AreInside host.held host.writable end.accesses
  pub away : AreAway area end.accesses
  pub found : AreFound oracle core.bytes end.accesses

-- Begun at places that show the core, and over any oracle that answers its loads with the core's memory, the lines show the core
-- behind the ops.
abbrev pub RunsBody : Goal → Body → Match → List BodyLine → Type 0
RunsBody goal body m lines =
    (area : ℕ) (host : Rights) (core : Core) (choices : List Choice) (oracle : ℕ → ℕ → ℕ) (start : BodyRun) → IsCore core → ShowsHost goal m area core start → start.accesses ≡ [] →
    let end = host_steps (length lines) oracle (line_at lines) (picks_of choices) start in
    MayRun area host core oracle end → (after : Core) × HostRan goal body m area host choices core after end
