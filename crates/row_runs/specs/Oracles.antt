-- From loads that are answered with given bytes to loads from a memory. This project's own.
use Rattle.std.specs.Prelude.{◌≡◌, ℕ, Bool, true, false}
use Rattle.ppc_isa.specs.declared.instr.Instr.{Instr}
use Rattle.ppc_isa.specs.Effect.{GuestValues, Access, NoAccess, LoadAccess, StoreAccess}
use Rattle.ppc_isa.specs.Rows.{guest_row}
use Rattle.row_runs.specs.Accesses.{Finds, always}
use Rattle.row_runs.specs.Windows.{Row, WindowRun, with_loaded, guest_steps}
use Rattle.row_runs.specs.Bodies.{Line, Pick, BodyRun, host_steps}

abbrev pub is_load : Access → Bool
is_load NoAccess = false
is_load LoadAccess = true
is_load StoreAccess = false

-- What a row accesses doesn't wait for what it loads, and a row that loads nothing reads nothing that was loaded.
pub record IsPrompt (i : Instr) (v : GuestValues) (n m : ℕ) : Type 0 where
  pub kind : (guest_row i (with_loaded v n)).kind ≡ (guest_row i (with_loaded v m)).kind
  pub width : (guest_row i (with_loaded v n)).width ≡ (guest_row i (with_loaded v m)).width
  pub address : (guest_row i (with_loaded v n)).address ≡ (guest_row i (with_loaded v m)).address
  pub still : is_load (guest_row i (with_loaded v n)).kind ≡ false → guest_row i (with_loaded v n) ≡ guest_row i (with_loaded v m)

abbrev pub RowsArePrompt : Type 0
RowsArePrompt = (i : Instr) (v : GuestValues) (n m : ℕ) → IsPrompt i v n m

-- Where an oracle answers each load of a window with the same bytes, the window does what it does where every load is answered
-- so.
abbrev pub WindowsLoadAlike : Type 0
WindowsLoadAlike =
    (n : ℕ) (oracle : ℕ → ℕ → ℕ) (bytes : ℕ → ℕ) (rows : ℕ → Row) (start : WindowRun) →
    Finds oracle bytes (guest_steps n oracle rows start).accesses → guest_steps n oracle rows start ≡ guest_steps n (always bytes) rows start

-- A window and a body are told apart by no memory in which the window's loads find the bytes: where they have the same accesses
-- when every load is answered with these, they do over that memory what they do then, each loading at its own addresses.
abbrev pub SameAccessesLoadAlike : Type 0
SameAccessesLoadAlike =
    (n m : ℕ) (oracle : ℕ → ℕ → ℕ) (bytes : ℕ → ℕ) (rows : ℕ → Row) (lines : ℕ → Line) (picks : ℕ → Pick) (guest : WindowRun) (host : BodyRun) →
    (guest_steps n (always bytes) rows guest).accesses ≡ (host_steps m (always bytes) lines picks host).accesses →
    Finds oracle bytes (guest_steps n oracle rows guest).accesses →
    (guest_steps n oracle rows guest ≡ guest_steps n (always bytes) rows guest) × (host_steps m oracle lines picks host ≡ host_steps m (always bytes) lines picks host)
