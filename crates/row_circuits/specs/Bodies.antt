-- Lines of a body over places: the host's place 15 is edx.
use Rattle.std.specs.Prelude.{◌≡◌, ◌≤◌, ℕ, Bool, Option, Some, None}
use Rattle.circuit.specs.Prelude.{lit_truth, lit_reach}
use Rattle.ia_codec.specs.Prelude.{IsInProfile, HostValues, host_row}
use Rattle.row_runs.specs.Bodies.{Line, Bytes, BodyRun, Operand as Read, Own as OwnRead, Loaded as LoadedRead}
use Rattle.access_circuits.specs.Lists.{AreAccesses, AccessesOwned}
use Rattle.place_circuits.specs.Places.{HoldsPlaces, PlacesOwned}
use Rattle.place_circuits.specs.Sources.{IsSource, IsAddress, source_value, address_value}
use Rattle.place_circuits.specs.Results.{AreResults, put_values}
use Rattle.place_circuits.specs.declared.sources.Address.{Address}
use Rattle.place_circuits.specs.declared.results.Results.{Results}
use Rattle.place_circuits.specs.declared.results.Results.TheVariants.{Nowhere, Into, Lowest, Bytes as ToBytes, Both, High, Store}
use Rattle.row_circuits.specs.Choices.{left_values}
use Rattle.row_circuits.specs.declared.lines.Operand.{Operand}
use Rattle.row_circuits.specs.declared.lines.Operand.TheVariants.{Own, Loaded}
use Rattle.row_circuits.specs.declared.lines.BodyLine.{BodyLine}
use Rattle.row_circuits.specs.declared.lines.BodyCircuit.{BodyCircuit}

abbrev pub edx_place : ℕ
edx_place = 15

abbrev pub IsOperand : Operand → Type 0
IsOperand (Own source) = IsSource source
IsOperand (Loaded address width) = IsAddress address

-- an op of the profile, over places that there are, that leaves undefined no more than is said
pub record IsBodyLine (line : BodyLine) : Type 0 where
  pub profile : IsInProfile line.op
  pub x : IsSource line.x
  pub y : IsOperand line.y
  pub results : AreResults line.results
  pub leaves : (v : HostValues) → host_row line.op v ≡ host_row line.op (left_values line.leaves v)

abbrev pub bytes_from : Address → ℕ → Bytes
bytes_from address width = record { width = width; address = address_value address }

abbrev pub operand_read : Operand → Read
operand_read (Own source) = OwnRead (source_value source)
operand_read (Loaded address width) = LoadedRead (bytes_from address width)

abbrev pub stored_to : Results → Option Bytes
stored_to Nowhere = None
stored_to (Into p) = None
stored_to (Lowest p width) = None
stored_to (ToBytes first width) = None
stored_to (Both p q) = None
stored_to (High q) = None
stored_to (Store address width) = Some (bytes_from address width)

-- the line as it runs over numbers
abbrev pub line_of : BodyLine → Line
line_of line = record {
  op = line.op;
  x = source_value line.x;
  y = operand_read line.y;
  high = λ t. t edx_place;
  puts = λ e t. put_values line.results e.result e.high t;
  stores = stored_to line.results;
}

-- the gates show where a run stands
pub record ShowsBody (w : ℕ → Bool) (body : BodyCircuit) (run : BodyRun) : Type 0 where
  pub places : HoldsPlaces w body.places run.places
  pub accesses : AreAccesses w body.accesses.items run.accesses
  pub cf : lit_truth body.cf w ≡ run.flags.cf
  pub zf : lit_truth body.zf w ≡ run.flags.zf
  pub sf : lit_truth body.sf w ≡ run.flags.sf
  pub of : lit_truth body.of w ≡ run.flags.of

pub record BodyOwned (extent : ℕ) (body : BodyCircuit) : Type 0 where
  pub places : PlacesOwned extent body.places
  pub accesses : AccessesOwned extent body.accesses.items
  pub cf : lit_reach body.cf ≤ extent
  pub zf : lit_reach body.zf ≤ extent
  pub sf : lit_reach body.sf ≤ extent
  pub of : lit_reach body.of ≤ extent
