-- Ops of the host one after another, as numbers: which values they read and where their results go is what each line says of
-- numbered places. The processor chooses what an op leaves undefined, and an oracle answers loads. This project's own.
use Rattle.std.specs.Prelude.{ℕ, zero, suc, ◌++◌, ◌∷◌, [], Bool, true, false, List, Option, None, Some}
use Rattle.ia_codec.specs.declared.op.Op.{Op}
use Rattle.ia_codec.specs.Prelude.{Flags, HostEffect, host_row}
use Rattle.row_runs.specs.Accesses.{Accessed, little_number, turned}

-- so many bytes from an address on
pub record Bytes : Type 0 where
  pub width : ℕ
  pub address : (ℕ → ℕ) → ℕ

-- an operand: a number made of the places, or bytes that are loaded, the lowest first
pub data Operand : Type 0 where
  Own : (number : (ℕ → ℕ) → ℕ) → Operand
  Loaded : (bytes : Bytes) → Operand

-- an op, its operands, the places behind it, and the bytes that its result is stored to
pub record Line : Type 0 where
  pub op : Op
  pub x : (ℕ → ℕ) → ℕ
  pub y : Operand
  pub high : (ℕ → ℕ) → ℕ
  pub puts : HostEffect → (ℕ → ℕ) → ℕ → ℕ
  pub stores : Option Bytes

-- what the processor chooses for one op
pub record Pick : Type 0 where
  pub value : ℕ
  pub flags : Flags

-- where a run of lines stands: its places, its flags, and its accesses so far
pub record BodyRun : Type 0 where
  pub places : ℕ → ℕ
  pub flags : Flags
  pub accesses : List Accessed

abbrev pub operand : (ℕ → ℕ → ℕ) → Operand → (ℕ → ℕ) → ℕ
operand oracle (Own number) places = number places
operand oracle (Loaded bytes) places = little_number bytes.width (oracle (bytes.address places))

abbrev pub operand_accesses : Operand → (ℕ → ℕ) → List Accessed
operand_accesses (Own number) places = []
operand_accesses (Loaded bytes) places = record { loads = true; width = bytes.width; address = bytes.address places; stored = 0 } ∷ []

abbrev pub result_accesses : Option Bytes → ℕ → (ℕ → ℕ) → List Accessed
result_accesses None result places = []
result_accesses (Some bytes) result places = record { loads = false; width = bytes.width; address = bytes.address places; stored = turned bytes.width result } ∷ []

-- what an op gives where its second operand is y
abbrev pub line_effect : Line → Pick → BodyRun → ℕ → HostEffect
line_effect line pick run y = host_row line.op (record { x = line.x run.places; y = y; high = line.high run.places; flags = run.flags; free = pick.value; free_flags = pick.flags })

abbrev pub behind_line : Line → Pick → BodyRun → ℕ → BodyRun
behind_line line pick run y =
    let e = line_effect line pick run y in
    record {
      places = line.puts e run.places;
      flags = e.flags;
      accesses = (run.accesses ++ operand_accesses line.y run.places) ++ result_accesses line.stores e.result run.places;
    }

abbrev pub host_step : (ℕ → ℕ → ℕ) → Line → Pick → BodyRun → BodyRun
host_step oracle line pick run = behind_line line pick run (operand oracle line.y run.places)

-- the first n lines
unfoldable pub host_steps : ℕ → (ℕ → ℕ → ℕ) → (ℕ → Line) → (ℕ → Pick) → BodyRun → BodyRun
host_steps zero oracle lines picks run = run
host_steps (suc n) oracle lines picks run = host_step oracle (lines n) (picks n) (host_steps n oracle lines picks run)

abbrev pub no_pick : Pick
no_pick = record { value = 0; flags = record { cf = false; zf = false; sf = false; of = false } }

-- whether the condition of an op holds on the flags
abbrev pub condition_holds : Op → BodyRun → Bool
condition_holds op run = (host_row op (record { x = 0; y = 0; high = 0; flags = run.flags; free = 0; free_flags = no_pick.flags })).holds
