-- The guest as numbered places. This project's own.
use Rattle.std.specs.Prelude.{◌≡◌, ◌≢◌, ◌+◌, ◌<◌, ℕ, List, length}
use Rattle.std.specs.List.{flat_map}
use Rattle.machines.specs.Prelude.{Instr, Rights, Guest, cr_word, xer_word, lr, ctr}
use Rattle.reg_map.specs.Prelude.{AreInRange}
use Rattle.rule_body.specs.declared.goal.Goal.{Goal}
use Rattle.rule_body.specs.Prelude.{guests_of, template_of}
use Rattle.rule_body.specs.Templates.{HasConstant}
use Rattle.rule_soundness.specs.Prelude.{Match, laid_words, loads_of, stores_of, taken_of}
use Rattle.rule_renaming.specs.Plain.{plain}
use Rattle.row_runs.specs.Windows.{WindowRun}
use Rattle.rule_places.specs.Accesses.{loads_at, stores_at, behind_accesses, IsOneAccess, AreInside}

-- The places hold the parameters, each being the GPR of its own number, CR, XER, LR, CTR, and the constants.
pub record ShowsGuest (goal : Goal) (m : Match) (locs : ℕ → ℕ) (t : ℕ → ℕ) : Type 0 where
  pub parameters : (k : ℕ) → k < length (template_of goal).slots → t k ≡ locs (k + 1)
  pub cr : t 6 ≡ cr_word locs
  pub xer : t 7 ≡ xer_word locs
  pub lr : t 11 ≡ locs lr
  pub ctr : t 12 ≡ locs ctr
  pub constants : (j : ℕ) → HasConstant (guests_of goal) j → t (20 + j) ≡ m.constant j

-- the window of a goal with each parameter as the GPR of its own number
abbrev pub plain_window : Goal → List Instr → Match → List Instr
plain_window goal words m = laid_words (plain m) 0 (guests_of goal) words

-- A run over numbers shows where the window leads from a state: its places show the state behind it, and its accesses are the
-- window's, each of which may be made. GPRs that are no parameters stay.
pub record GuestRan (goal : Goal) (words : List Instr) (m : Match) (width : ℕ) (rights : Rights) (g g' : Guest) (run : WindowRun) : Type 0 where
  pub shows : ShowsGuest goal m g'.locs run.places
  pub others : (x : ℕ) → x < 32 → ((k : ℕ) → k < length (template_of goal).slots → x ≢ k + 1) → g'.locs x ≡ g.locs x
  pub in_range : AreInRange g'
  pub taken : run.taken ≡ taken_of (plain_window goal words m) g
  pub one_access : IsOneAccess width run.accesses
  pub inside : AreInside rights.held rights.writable run.accesses
  pub loads : loads_of (plain_window goal words m) g ≡ flat_map loads_at run.accesses
  pub stores : stores_of (plain_window goal words m) g ≡ flat_map stores_at run.accesses
  pub bytes : (a : ℕ) → g'.bytes a ≡ behind_accesses run.accesses g.bytes a
