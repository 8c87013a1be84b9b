-- The rows of a window do over numbers what its words do on the guest. This project's own.
use Rattle.std.specs.Prelude.{◌≡◌, ℕ, ◌<◌, ◌^◌, true, false, List, [], length, Contains}
use Rattle.machines.specs.Prelude.{Instr, Goes, Rights, Guest}
use Rattle.reg_map.specs.Prelude.{AreInRange}
use Rattle.simulation.specs.Prelude.{rows_of}
use Rattle.rule_body.specs.declared.goal.Goal.{Goal}
use Rattle.rule_body.specs.Prelude.{IsGoal, IsWindow, guests_of}
use Rattle.rule_soundness.specs.Prelude.{Match, loads_of, stores_of}
use Rattle.row_runs.specs.Windows.{WindowRun, guest_steps}
use Rattle.window_circuits.specs.Runs.{row_at}
use Rattle.rule_places.specs.Accesses.{seen}
use Rattle.rule_places.specs.Guests.{ShowsGuest, GuestRan, plain_window}
use Rattle.rule_rows.specs.Rows.{rows_for, window_width}

-- The places show a guest at the first word of a window, whose accesses may all be made.
pub record StartsWindow (goal : Goal) (words : List Instr) (m : Match) (rights : Rights) (g : Guest) (start : WindowRun) : Type 0 where
  pub is_goal : IsGoal goal
  pub window : IsWindow (guests_of goal) words
  pub constants : (j : ℕ) → m.constant j < 2 ^ 16
  pub in_range : AreInRange g
  pub bytes : (a : ℕ) → rights.held a ≡ true → g.bytes a < 256
  pub loads : (a : ℕ) → Contains (loads_of (plain_window goal words m) g) a → rights.held a ≡ true
  pub stores : (a : ℕ) → Contains (stores_of (plain_window goal words m) g) a → rights.writable a ≡ true
  pub shows : ShowsGuest goal m g.locs start.places
  pub accesses : start.accesses ≡ []
  pub taken : start.taken ≡ false

-- The rows in turn, over numbers, where a memory answers their load.
abbrev pub rows_run : Goal → List Instr → (ℕ → ℕ) → WindowRun → WindowRun
rows_run goal words memory start = guest_steps (length (rows_for goal words)) (seen (window_width words) memory) (row_at (rows_for goal words)) start

-- Then the window goes on to a state, and the run of its rows shows that state and the accesses by which the window came there.
abbrev pub WindowsRun : Type 0
WindowsRun =
    (goal : Goal) (words : List Instr) (m : Match) (rights : Rights) (g : Guest) (start : WindowRun) → StartsWindow goal words m rights g start →
    (g' : Guest) × (rows_of rights (plain_window goal words m) g ≡ Goes g') × GuestRan goal words m (window_width words) rights g g' (rows_run goal words g.bytes start)
