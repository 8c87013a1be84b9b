-- The run of a machine that is given by its step, and when the run of one machine agrees with that of another.
use Rattle.std.specs.Prelude.{◌≡◌, ◌≢◌, ℕ, zero, suc, ◌+◌, ◌*◌, ◌≤◌, List, [], ◌∷◌}
use Rattle.space.specs.declared.call.End.{End}
use Rattle.space.specs.declared.call.End.TheVariants.{Running, Outside, Dry}
use Rattle.space.specs.Reports.{ListedCall, AnswerValue, Report, ended, listed, going_on}

-- what one step does: the machine goes on, or asks for the answer to a call, or ends
pub data Outcome (S : Type 0) : Type 0 where
  Goes : S → Outcome S
  Asks : ListedCall → (AnswerValue → S) → Outcome S
  Ends : End → Outcome S

module _ {S : Type 0} where
  -- what an outcome reports, where `rest` is what the run from the next state on reports
  abbrev pub reported : (List AnswerValue → S → Report) → List AnswerValue → Outcome S → Report
  reported rest answers (Goes s) = rest answers s
  -- a call is listed before its answer, and with no answer left the run is dry
  reported rest [] (Asks call next) = listed call (ended Dry)
  reported rest (a ∷ answers) (Asks call next) = listed call (rest answers (next a))
  reported rest answers (Ends e) = ended e

  -- what n steps from s report, where the calls get these answers in turn
  abbrev pub run : (S → Outcome S) → ℕ → List AnswerValue → S → Report
  run step zero answers s = ended Running
  run step (suc n) answers s = reported (run step n) answers (step s)

  -- the fact `rest` holds of the state that an outcome leads to, if it leads to one
  abbrev pub After : (List AnswerValue → S → Type 0) → List AnswerValue → Outcome S → Type 0
  After rest answers (Goes s) = rest answers s
  After rest [] (Asks call next) = Unit {0}
  After rest (a ∷ answers) (Asks call next) = rest answers (next a)
  After rest answers (Ends e) = Unit {0}

  -- P holds of each state from which one of the n steps is made
  abbrev pub Along : (S → Type 0) → (S → Outcome S) → ℕ → List AnswerValue → S → Type 0
  Along P step zero answers s = Unit {0}
  Along P step (suc n) answers s = P s × After (Along P step n) answers (step s)

-- holds of every state
abbrev pub Anywhere : {S : Type 0} → S → Type 0
Anywhere s = Unit {0}

-- The guest's report after n steps, and the host's after m. Where the guest has not gone outside, the reports are the
-- same, and the host has made enough steps for n. Where it has, the host has made the same calls and goes on.
pub record AgreesAt (n m : ℕ) (guest_report host_report : Report) : Type 0 where
  pub inside : guest_report.ending ≢ Outside → (n ≤ 64 * (m + 1)) × (host_report ≡ guest_report)
  pub outside : guest_report.ending ≡ Outside → host_report ≡ going_on guest_report

-- for n steps of the guest there are m of the host, all clean and not too many, at which it agrees
pub record HasAgreeingRun {G H : Type 0} (guest : G → Outcome G) (host : H → Outcome H) (IsClean : H → Type 0) (n : ℕ) (answers : List AnswerValue) (g : G) (h : H) : Type 0 where
  pub m : ℕ
  pub soon : m ≤ 256 * (n + 1)
  pub clean : Along IsClean host m answers h
  pub agrees : AgreesAt n m (run guest n answers g) (run host m answers h)

-- From h the host agrees with the guest from g: for every list of answers, also wrong and short ones, and every n. What
-- the host's processor leaves open is chosen by its state, which holds the choices still to come.
abbrev pub AgreesFrom : {G H : Type 0} → (G → Outcome G) → (H → Outcome H) → (H → Type 0) → G → H → Type 0
AgreesFrom guest host IsClean g h = (answers : List AnswerValue) (n : ℕ) → HasAgreeingRun guest host IsClean n answers g h
