-- Rows of a window over places. The guest's places are six general registers, CR, XER, LR and CTR, and constants.
use Rattle.std.specs.Prelude.{◌≡◌, ◌<◌, ◌≤◌, ◌==◌, not, if◌then◌else◌, ℕ, Bool, true, Option, Some, None}
use Rattle.circuit.specs.Prelude.{lit_truth, lit_reach}
use Rattle.ppc_isa.specs.Legal.{IsLegal}
use Rattle.ppc_isa.specs.Effect.{GuestValues, Effect}
use Rattle.ppc_isa.specs.Rows.{guest_row}
use Rattle.ppc_isa.specs.declared.instr.Instr.{Instr}
use Rattle.row_runs.specs.Accesses.{big_number}
use Rattle.row_runs.specs.Oracles.{is_load}
use Rattle.row_runs.specs.Windows.{Row, WindowRun}
use Rattle.access_circuits.specs.Lists.{AreAccesses, AccessesOwned}
use Rattle.place_circuits.specs.Places.{HoldsPlaces, PlacesOwned, with_place}
use Rattle.place_circuits.specs.Sources.{IsSource, source_value}
use Rattle.row_circuits.specs.declared.rows.WindowRow.{WindowRow}
use Rattle.row_circuits.specs.declared.rows.WindowCircuit.{WindowCircuit}

abbrev pub cr_place : ℕ
cr_place = 6

abbrev pub xer_place : ℕ
xer_place = 7

abbrev pub lr_place : ℕ
lr_place = 11

abbrev pub ctr_place : ℕ
ctr_place = 12

abbrev pub IsTarget : Option ℕ → Type 0
IsTarget None = Unit {0}
IsTarget (Some p) = p < 64

-- so many bytes are what the instruction loads: 0 exactly where it loads nothing, whatever it reads
pub record IsLoadWidth (instr : Instr) (width : ℕ) : Type 0 where
  pub loads : (v : GuestValues) → is_load (guest_row instr v).kind ≡ not (width == 0)
  pub wide : (v : GuestValues) → is_load (guest_row instr v).kind ≡ true → width ≡ (guest_row instr v).width

-- the number that is loaded where a load finds the bytes, and 0 where nothing is loaded
abbrev pub loaded_number : ℕ → (ℕ → ℕ) → ℕ
loaded_number width bytes = if width == 0 then 0 else big_number width bytes

pub record IsWindowRow (row : WindowRow) : Type 0 where
  pub legal : IsLegal row.instr
  pub width : IsLoadWidth row.instr row.width
  pub a : IsSource row.a
  pub b : IsSource row.b
  pub s : IsSource row.s
  pub d_to : IsTarget row.d_to
  pub a_to : IsTarget row.a_to

-- a number at a place, if it goes anywhere
abbrev pub with_target : Option ℕ → ℕ → (ℕ → ℕ) → ℕ → ℕ
with_target None n t = t
with_target (Some p) n t = with_place p n t

abbrev pub row_reads : WindowRow → (ℕ → ℕ) → GuestValues
row_reads row t = record {
  a = source_value row.a t;
  b = source_value row.b t;
  s = source_value row.s t;
  cr = t cr_place;
  xer = t xer_place;
  lr = t lr_place;
  ctr = t ctr_place;
  loaded = 0;
}

abbrev pub row_puts : WindowRow → Effect → (ℕ → ℕ) → ℕ → ℕ
row_puts row e t = with_place ctr_place e.ctr (with_place lr_place e.lr (with_place xer_place e.xer (with_place cr_place e.cr (with_target row.a_to e.a (with_target row.d_to e.d t)))))

-- the row as it runs over numbers
abbrev pub row_of : WindowRow → Row
row_of row = record { instr = row.instr; reads = row_reads row; puts = row_puts row }

-- the gates show where a run stands
pub record ShowsWindow (w : ℕ → Bool) (window : WindowCircuit) (run : WindowRun) : Type 0 where
  pub places : HoldsPlaces w window.places run.places
  pub accesses : AreAccesses w window.accesses.items run.accesses
  pub taken : lit_truth window.taken w ≡ run.taken

pub record WindowOwned (extent : ℕ) (window : WindowCircuit) : Type 0 where
  pub places : PlacesOwned extent window.places
  pub accesses : AccessesOwned extent window.accesses.items
  pub taken : lit_reach window.taken ≤ extent
