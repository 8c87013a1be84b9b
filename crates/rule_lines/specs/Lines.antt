-- The lines of a body over numbered places. This project's own.
use Rattle.std.specs.Prelude.{ℕ, zero, suc, ◌+◌, ◌-◌, ◌/◌, ◌<◌, ◌==◌, nat_lt, if◌then◌else◌, Bool, true, false, List, [], ◌∷◌, map as list_map, Option, Some, None}
use Rattle.machines.specs.Prelude.{Operand, Reg, Abs, Base, Pair, Op, eax, ecx, edx, ebx, esi}
use Rattle.rule_body.specs.declared.goal.Goal.{Goal}
use Rattle.rule_body.specs.declared.body.Body.{Body}
use Rattle.rule_body.specs.declared.line.Hole.{Hole}
use Rattle.rule_body.specs.declared.line.HostLine.{HostLine}
use Rattle.rule_body.specs.Prelude.{IsHome, lines_of, parts, template_of}
use Rattle.rule_soundness.specs.Shapes.{Source as Reads, Zero as ReadsNone, OperandValue, OwnNumber, CountByte, AddressValue, x_source, y_source, Destination, Nowhere as PutsNone, ToOperand, ToByte, ToBoth, ToHigh, destination, own_number, leaves_result, leaves_cf, leaves_zf, leaves_sf, leaves_of}
use Rattle.place_circuits.specs.declared.constants.Number.{Number}
use Rattle.place_circuits.specs.declared.constants.Number.TheVariants.{Written, Filled}
use Rattle.place_circuits.specs.declared.sources.Address.{Address}
use Rattle.place_circuits.specs.declared.sources.Source.{Source}
use Rattle.place_circuits.specs.declared.sources.Source.TheVariants.{Zero, Place, Lowest, Bytes, Own, Sum}
use Rattle.place_circuits.specs.declared.results.Results.{Results}
use Rattle.place_circuits.specs.declared.results.Results.TheVariants.{Nowhere, Into, Lowest as IntoLowest, Bytes as IntoBytes, Both, High, Store}
use Rattle.row_circuits.specs.declared.choices.Leaves.{Leaves}
use Rattle.row_circuits.specs.declared.lines.Operand.{Operand as Second}
use Rattle.row_circuits.specs.declared.lines.Operand.TheVariants.{Own as OwnSecond, Loaded}
use Rattle.row_circuits.specs.declared.lines.BodyLine.{BodyLine}

-- the n-th of the parameters that stand in slots, counted from 0
unfoldable pub nth_slot : List Bool → ℕ → ℕ
nth_slot [] n = 0
nth_slot (true ∷ slots) zero = 0
nth_slot (true ∷ slots) (suc n) = suc (nth_slot slots n)
nth_slot (false ∷ slots) n = suc (nth_slot slots n)

-- the place of a register of a body: ebx, esi and edi are parameters, in order
abbrev pub register_place : List Bool → ℕ → ℕ
register_place slots r =
    if r == eax then 13
    else if r == ecx then 14
    else if r == edx then 15
    else nth_slot slots (if r == ebx then 0 else if r == esi then 1 else 2)

-- The constant that fills an op's immediate, and the one that fills the displacement of a sum: the immediate has a hole first.
abbrev pub has_number : Option ℕ → Bool
has_number None = false
has_number (Some n) = true

abbrev pub immediate_hole : HostLine → Option (Hole × ℕ)
immediate_hole line = if has_number (parts line.op).immediate then line.hole else None

abbrev pub displacement_hole : HostLine → Option (Hole × ℕ)
displacement_hole line = if has_number (parts line.op).immediate then None else if (parts line.op).moves then line.hole else None

-- the number that is written, or the constant of word j, at place 20 + j
abbrev pub number_for : Option (Hole × ℕ) → ℕ → Number
number_for None n = Written n
number_for (Some (hole, j)) n = Filled hole (20 + j)

-- So many bytes of the home page: parameter k + 1 at home stands at 4 * (k + 1), and from 128 on each byte has its place.
abbrev pub home_source : ℕ → ℕ → Source
home_source size offset = if nat_lt offset 128 then Lowest (offset / 4 - 1) size else Bytes (offset - 96) size

abbrev pub home_results : ℕ → ℕ → Results
home_results size offset = if nat_lt offset 128 then IntoLowest (offset / 4 - 1) size else IntoBytes (offset - 96) size

-- what an op may leave undefined
abbrev pub leaves_of_op : Op → Leaves
leaves_of_op op = record { value = leaves_result op; cf = leaves_cf op; zf = leaves_zf op; sf = leaves_sf op; of = leaves_of op }

module _ (slots : List Bool) where
  -- the sum of registers that an operand is
  abbrev pub address_for : Option (Hole × ℕ) → Operand → Address
  address_for hole (Base b d) = record { base = register_place slots b; index = None; displacement = number_for hole d }
  address_for hole (Pair b x s d) = record { base = register_place slots b; index = Some (register_place slots x, s); displacement = number_for hole d }
  address_for hole operand = record { base = 0; index = None; displacement = Written 0 }

  -- an operand that is a register or stands in the home page
  abbrev pub own_source : ℕ → Operand → Source
  own_source size (Reg r) = Place (register_place slots r)
  own_source size (Abs offset) = home_source size offset
  own_source size operand = Zero

  -- where a value of an op comes from
  abbrev pub source_for : HostLine → Reads → Source
  source_for line ReadsNone = Zero
  source_for line (OperandValue size operand) = own_source size operand
  source_for line OwnNumber = Own (number_for (immediate_hole line) (own_number line.op))
  source_for line CountByte = Lowest 14 1
  source_for line (AddressValue operand) = Sum (address_for (displacement_hole line) operand)

  -- an operand that is a sum of registers is loaded
  abbrev pub second_operand : HostLine → ℕ → Operand → Second
  second_operand line size (Reg r) = OwnSecond (own_source size (Reg r))
  second_operand line size (Abs offset) = OwnSecond (own_source size (Abs offset))
  second_operand line size operand = Loaded (address_for (displacement_hole line) operand) size

  abbrev pub second_for : HostLine → Reads → Second
  second_for line (OperandValue size operand) = second_operand line size operand
  second_for line source = OwnSecond (source_for line source)

  -- the results of an operand: a register has all of it, or its lowest byte
  abbrev pub operand_results : HostLine → ℕ → Operand → Results
  operand_results line size (Reg r) = Into (register_place slots r)
  operand_results line size (Abs offset) = home_results size offset
  operand_results line size operand = Store (address_for (displacement_hole line) operand) size

  abbrev pub byte_results : HostLine → Operand → Results
  byte_results line (Reg r) = IntoLowest (register_place slots r) 1
  byte_results line operand = operand_results line 1 operand

  -- where the results of an op go
  abbrev pub results_for : HostLine → Destination → Results
  results_for line PutsNone = Nowhere
  results_for line (ToOperand size operand) = operand_results line size operand
  results_for line (ToByte operand) = byte_results line operand
  results_for line ToBoth = Both 13 15
  results_for line ToHigh = High 15

  -- a line of a body over places
  abbrev pub line_for : HostLine → BodyLine
  line_for line = record {
    op = line.op;
    leaves = leaves_of_op line.op;
    x = source_for line (x_source line.op);
    y = second_for line (y_source line.op);
    results = results_for line (destination line.op);
  }

-- the lines of a body for a goal
abbrev pub lines_for : Goal → Body → List BodyLine
lines_for goal body = list_map (line_for (template_of goal).slots) (lines_of body)

-- what a line needs to have places: its homes are those of the body, and its constant is of one of three words
abbrev pub IsPlaced : List Bool → ℕ → Operand → Type 0
IsPlaced slots size (Abs offset) = IsHome slots offset size
IsPlaced slots size operand = Unit {0}

abbrev pub HasPlace : Option (Hole × ℕ) → Type 0
HasPlace None = Unit {0}
HasPlace (Some (hole, j)) = j < 3

abbrev pub IsPlacedSource : List Bool → Reads → Type 0
IsPlacedSource slots (OperandValue size operand) = IsPlaced slots size operand
IsPlacedSource slots source = Unit {0}

abbrev pub IsPlacedDestination : List Bool → Destination → Type 0
IsPlacedDestination slots (ToOperand size operand) = IsPlaced slots size operand
IsPlacedDestination slots (ToByte operand) = IsPlaced slots 1 operand
IsPlacedDestination slots to = Unit {0}

pub record IsPlacedLine (slots : List Bool) (line : HostLine) : Type 0 where
  pub x : IsPlacedSource slots (x_source line.op)
  pub y : IsPlacedSource slots (y_source line.op)
  pub to : IsPlacedDestination slots (destination line.op)
  pub hole : HasPlace line.hole
