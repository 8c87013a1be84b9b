-- What holds of the two machines.
use Rattle.std.specs.Prelude.{◌≡◌, ◌≢◌, ℕ, ◌+◌, ◌<◌, List, ◌++◌, Option}
use Rattle.space.specs.declared.program.Program.{Program}
use Rattle.space.specs.declared.call.End.TheVariants.{Running}
use Rattle.space.specs.Reports.{ListedCall, AnswerValue}
use Rattle.ppc_isa.specs.declared.instr.Instr.{Instr}
use Rattle.ppc_isa.specs.Legal.{ReadsWords}
use Rattle.machines.specs.Readings.{Fetched, ReadsOps}
use Rattle.machines.specs.Guest.{guest_run}
use Rattle.machines.specs.Host.{Choice, choice_at, host_run}

-- a run that is over reports the same after more steps
abbrev pub GuestStaysOver : Type 0
GuestStaysOver =
    (words : ℕ → Option Instr) (p : Program) (answers : List AnswerValue) (n more : ℕ) →
    (guest_run words p answers n).ending ≢ Running → guest_run words p answers (n + more) ≡ guest_run words p answers n

abbrev pub HostStaysOver : Type 0
HostStaysOver =
    (ops : List ℕ → Option Fetched) (p : Program) (answers : List AnswerValue) (choices : List Choice) (n more : ℕ) →
    (host_run ops p answers choices n).ending ≢ Running → host_run ops p answers choices (n + more) ≡ host_run ops p answers choices n

-- a longer run makes the calls of a shorter one first
abbrev pub GuestKeepsCalls : Type 0
GuestKeepsCalls =
    (words : ℕ → Option Instr) (p : Program) (answers : List AnswerValue) (n more : ℕ) →
    (later : List ListedCall) × ((guest_run words p answers (n + more)).calls ≡ (guest_run words p answers n).calls ++ later)

abbrev pub HostKeepsCalls : Type 0
HostKeepsCalls =
    (ops : List ℕ → Option Fetched) (p : Program) (answers : List AnswerValue) (choices : List Choice) (n more : ℕ) →
    (later : List ListedCall) × ((host_run ops p answers choices (n + more)).calls ≡ (host_run ops p answers choices n).calls ++ later)

-- the runs are told over any reading, and there is one and no other
abbrev pub HasWordReading : Type 0
HasWordReading = (words : ℕ → Option Instr) × ReadsWords words

abbrev pub HasOpReading : Type 0
HasOpReading = (ops : List ℕ → Option Fetched) × ReadsOps ops

abbrev pub HaveOneWordReading : Type 0
HaveOneWordReading = (f g : ℕ → Option Instr) → ReadsWords f → ReadsWords g → (w : ℕ) → f w ≡ g w

abbrev pub HaveOneOpReading : Type 0
HaveOneOpReading = (f g : List ℕ → Option Fetched) → ReadsOps f → ReadsOps g → (bytes : List ℕ) → f bytes ≡ g bytes

-- The report after m steps depends on the choices up to that of the last step alone, which is 9 + (m - 1).
abbrev pub UsesFirstChoices : Type 0
UsesFirstChoices =
    (ops : List ℕ → Option Fetched) (p : Program) (answers : List AnswerValue) (choices others : List Choice) (m : ℕ) →
    ((k : ℕ) → k < 9 + m → choice_at choices k ≡ choice_at others k) → host_run ops p answers choices m ≡ host_run ops p answers others m
