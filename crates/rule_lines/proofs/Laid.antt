-- The op that is laid for a line, with each parameter as the GPR of its own number: it has the line's sources, row and destination.
-- This project's own.
use Rattle.std.proofs.Common.{◌≡◌, ℕ, ◌<◌, ◌%◌, ◌^◌, Bool, true, false, if◌then◌else◌, cond, eqb, List, [], Option, Some, None, refl, arith}
use Rattle.machines.specs.Prelude.{Operand, Reg, AluOp, Add, Or, Adc, Sbb, And, Sub, Xor, Cmp, Op, AluTo, AluFrom, AluImm, TestReg, TestImm, Unary, Imul, MovTo, MovFrom, MovImm, MovToImm, MovHalfTo, MovByteTo, MovByteFrom, Shift, ShiftByCl, Lea, Extend, Bswap, Set, Cmov, Bsr, Cdq, Not, Neg, Mul, Imul1, MovzxByte, MovzxHalf, MovsxByte, MovsxHalf, HostValues, HostEffect, host_row, alu_row, one_if, condition_holds, Rights, Choice, Core, choice_at, does, goes_to}
use Rattle.symbolic_tiles.specs.Prelude.{is_jump, op_outcome, operand_at, op_at}
use Rattle.symbolic_tiles.proofs.Rooms.{alu_word, shift_word, product_word, swapped_word, copies_word, scan_word, widened_word}
use Rattle.symbolic_tiles.proofs.Products.{high_word}
use Rattle.rule_body.specs.declared.line.Hole.{Hole}
use Rattle.rule_body.specs.declared.line.HostLine.{HostLine}
use Rattle.rule_body.specs.Prelude.{is_straight, parts}
use Rattle.rule_soundness.specs.Prelude.{Match, hole_value, displaced, placed_operand, laid_line, summed, op_loads, op_stores}
use Rattle.rule_soundness.specs.Shapes.{Source, Zero, OperandValue, OwnNumber, CountByte, AddressValue, x_source, y_source, Destination, Nowhere, ToOperand, ToByte, ToBoth, ToHigh, alu_destination, destination, own_number}
use Rattle.rule_renaming.specs.Plain.{plain}
use Rattle.rule_lines.specs.Lines.{immediate_hole, displacement_hole}

-- the addresses of a source that is loaded, and of a destination that is stored to
abbrev pub source_span : Source → (ℕ → ℕ) → List ℕ
source_span (OperandValue size operand) regs = summed size operand regs
source_span source regs = []

abbrev pub destination_span : Destination → (ℕ → ℕ) → List ℕ
destination_span (ToOperand size operand) regs = summed size operand regs
destination_span (ToByte operand) regs = summed 1 operand regs
destination_span to regs = []

module _ (m : Match) (area : ℕ) where
  -- a number that a hole fills
  abbrev pub filled_by : Option (Hole × ℕ) → ℕ → ℕ
  filled_by None n = n
  filled_by (Some hole) n = hole_value hole.0 (m.constant hole.1)

  abbrev pub displaced_by : Option (Hole × ℕ) → Operand → Operand
  displaced_by None operand = operand
  displaced_by (Some hole) operand = displaced (hole_value hole.0 (m.constant hole.1)) operand

  -- an operand over the home page
  abbrev pub laid_operand : Option (Hole × ℕ) → Operand → Operand
  laid_operand hole operand = operand_at area (placed_operand (plain m) (displaced_by hole operand))

  abbrev pub laid_source : Option (Hole × ℕ) → Source → Source
  laid_source hole (OperandValue size operand) = OperandValue size (laid_operand hole operand)
  laid_source hole (AddressValue operand) = AddressValue (laid_operand hole operand)
  laid_source hole Zero = Zero
  laid_source hole OwnNumber = OwnNumber
  laid_source hole CountByte = CountByte

  abbrev pub laid_destination : Option (Hole × ℕ) → Destination → Destination
  laid_destination hole (ToOperand size operand) = ToOperand size (laid_operand hole operand)
  laid_destination hole (ToByte operand) = ToByte (laid_operand hole operand)
  laid_destination hole Nowhere = Nowhere
  laid_destination hole ToBoth = ToBoth
  laid_destination hole ToHigh = ToHigh

  abbrev pub laid : HostLine → Op
  laid line = op_at area (laid_line (plain m) line)

  pub record IsLaid (host : Rights) (line : HostLine) : Type 0 where
    pub straight : is_straight (laid line) ≡ true
    pub jump : is_jump (laid line) ≡ false
    pub outcome : (choices : List Choice) (core : Core) → op_outcome host (laid line) choices core ≡ goes_to host 0 (record { core = core; eip = 0; choices = choices }) (does host (laid line) (choice_at choices 0) core)
    pub row : (v : HostValues) → host_row (laid line) v ≡ host_row line.op v
    pub x : x_source (laid line) ≡ laid_source (displacement_hole line) (x_source line.op)
    pub y : y_source (laid line) ≡ laid_source (displacement_hole line) (y_source line.op)
    pub to : destination (laid line) ≡ laid_destination (displacement_hole line) (destination line.op)
    pub number : own_number (laid line) ≡ filled_by (immediate_hole line) (own_number line.op)
    pub loads : (regs : ℕ → ℕ) → op_loads (laid line) regs ≡ (if (parts line.op).moves then source_span (y_source (laid line)) regs else [])
    pub stores : (regs : ℕ → ℕ) → op_stores (laid line) regs ≡ (if (parts line.op).moves then destination_span (destination (laid line)) regs else [])

  alu_laid : (hole : Option (Hole × ℕ)) (op : AluOp) (to : Operand) → alu_destination op (laid_operand hole to) ≡ laid_destination hole (alu_destination op to)
  alu_laid hole Add to = refl
  alu_laid hole Or to = refl
  alu_laid hole Adc to = refl
  alu_laid hole Sbb to = refl
  alu_laid hole And to = refl
  alu_laid hole Sub to = refl
  alu_laid hole Xor to = refl
  alu_laid hole Cmp to = refl

  pub line_laid : (host : Rights) (op : Op) (hole : Option (Hole × ℕ)) → is_straight op ≡ true → IsLaid host (record { op = op; hole = hole })
  unfolding is_straight parts
  line_laid host (AluTo op to from) None straight = record { straight = refl; jump = refl; outcome = λ choices core. refl; row = λ v. refl; x = refl; y = refl; to = alu_laid None op to; number = refl; loads = λ regs. refl; stores = λ regs. refl }
  line_laid host (AluTo op to from) (Some hole) straight = record { straight = refl; jump = refl; outcome = λ choices core. refl; row = λ v. refl; x = refl; y = refl; to = alu_laid None op to; number = refl; loads = λ regs. refl; stores = λ regs. refl }
  line_laid host (AluFrom op to from) None straight = record { straight = refl; jump = refl; outcome = λ choices core. refl; row = λ v. refl; x = refl; y = refl; to = alu_laid None op (Reg to); number = refl; loads = λ regs. refl; stores = λ regs. refl }
  line_laid host (AluFrom op to from) (Some hole) straight = record { straight = refl; jump = refl; outcome = λ choices core. refl; row = λ v. refl; x = refl; y = refl; to = alu_laid None op (Reg to); number = refl; loads = λ regs. refl; stores = λ regs. refl }
  line_laid host (AluImm op to imm) None straight = record { straight = refl; jump = refl; outcome = λ choices core. refl; row = λ v. refl; x = refl; y = refl; to = alu_laid None op to; number = refl; loads = λ regs. refl; stores = λ regs. refl }
  line_laid host (AluImm op to imm) (Some hole) straight = record { straight = refl; jump = refl; outcome = λ choices core. refl; row = λ v. refl; x = refl; y = refl; to = alu_laid None op to; number = refl; loads = λ regs. refl; stores = λ regs. refl }
  line_laid host (TestReg a b) None straight = record { straight = refl; jump = refl; outcome = λ choices core. refl; row = λ v. refl; x = refl; y = refl; to = refl; number = refl; loads = λ regs. refl; stores = λ regs. refl }
  line_laid host (TestReg a b) (Some hole) straight = record { straight = refl; jump = refl; outcome = λ choices core. refl; row = λ v. refl; x = refl; y = refl; to = refl; number = refl; loads = λ regs. refl; stores = λ regs. refl }
  line_laid host (TestImm a imm) None straight = record { straight = refl; jump = refl; outcome = λ choices core. refl; row = λ v. refl; x = refl; y = refl; to = refl; number = refl; loads = λ regs. refl; stores = λ regs. refl }
  line_laid host (TestImm a imm) (Some hole) straight = record { straight = refl; jump = refl; outcome = λ choices core. refl; row = λ v. refl; x = refl; y = refl; to = refl; number = refl; loads = λ regs. refl; stores = λ regs. refl }
  line_laid host (Unary Not on) None straight = record { straight = refl; jump = refl; outcome = λ choices core. refl; row = λ v. refl; x = refl; y = refl; to = refl; number = refl; loads = λ regs. refl; stores = λ regs. refl }
  line_laid host (Unary Not on) (Some hole) straight = record { straight = refl; jump = refl; outcome = λ choices core. refl; row = λ v. refl; x = refl; y = refl; to = refl; number = refl; loads = λ regs. refl; stores = λ regs. refl }
  line_laid host (Unary Neg on) None straight = record { straight = refl; jump = refl; outcome = λ choices core. refl; row = λ v. refl; x = refl; y = refl; to = refl; number = refl; loads = λ regs. refl; stores = λ regs. refl }
  line_laid host (Unary Neg on) (Some hole) straight = record { straight = refl; jump = refl; outcome = λ choices core. refl; row = λ v. refl; x = refl; y = refl; to = refl; number = refl; loads = λ regs. refl; stores = λ regs. refl }
  line_laid host (Unary Mul on) None straight = record { straight = refl; jump = refl; outcome = λ choices core. refl; row = λ v. refl; x = refl; y = refl; to = refl; number = refl; loads = λ regs. refl; stores = λ regs. refl }
  line_laid host (Unary Mul on) (Some hole) straight = record { straight = refl; jump = refl; outcome = λ choices core. refl; row = λ v. refl; x = refl; y = refl; to = refl; number = refl; loads = λ regs. refl; stores = λ regs. refl }
  line_laid host (Unary Imul1 on) None straight = record { straight = refl; jump = refl; outcome = λ choices core. refl; row = λ v. refl; x = refl; y = refl; to = refl; number = refl; loads = λ regs. refl; stores = λ regs. refl }
  line_laid host (Unary Imul1 on) (Some hole) straight = record { straight = refl; jump = refl; outcome = λ choices core. refl; row = λ v. refl; x = refl; y = refl; to = refl; number = refl; loads = λ regs. refl; stores = λ regs. refl }
  line_laid host (Imul to from) None straight = record { straight = refl; jump = refl; outcome = λ choices core. refl; row = λ v. refl; x = refl; y = refl; to = refl; number = refl; loads = λ regs. refl; stores = λ regs. refl }
  line_laid host (Imul to from) (Some hole) straight = record { straight = refl; jump = refl; outcome = λ choices core. refl; row = λ v. refl; x = refl; y = refl; to = refl; number = refl; loads = λ regs. refl; stores = λ regs. refl }
  line_laid host (MovTo to from) None straight = record { straight = refl; jump = refl; outcome = λ choices core. refl; row = λ v. refl; x = refl; y = refl; to = refl; number = refl; loads = λ regs. refl; stores = λ regs. refl }
  line_laid host (MovTo to from) (Some hole) straight = record { straight = refl; jump = refl; outcome = λ choices core. refl; row = λ v. refl; x = refl; y = refl; to = refl; number = refl; loads = λ regs. refl; stores = λ regs. refl }
  line_laid host (MovFrom to from) None straight = record { straight = refl; jump = refl; outcome = λ choices core. refl; row = λ v. refl; x = refl; y = refl; to = refl; number = refl; loads = λ regs. refl; stores = λ regs. refl }
  line_laid host (MovFrom to from) (Some hole) straight = record { straight = refl; jump = refl; outcome = λ choices core. refl; row = λ v. refl; x = refl; y = refl; to = refl; number = refl; loads = λ regs. refl; stores = λ regs. refl }
  line_laid host (MovImm to imm) None straight = record { straight = refl; jump = refl; outcome = λ choices core. refl; row = λ v. refl; x = refl; y = refl; to = refl; number = refl; loads = λ regs. refl; stores = λ regs. refl }
  line_laid host (MovImm to imm) (Some hole) straight = record { straight = refl; jump = refl; outcome = λ choices core. refl; row = λ v. refl; x = refl; y = refl; to = refl; number = refl; loads = λ regs. refl; stores = λ regs. refl }
  line_laid host (MovToImm to imm) None straight = record { straight = refl; jump = refl; outcome = λ choices core. refl; row = λ v. refl; x = refl; y = refl; to = refl; number = refl; loads = λ regs. refl; stores = λ regs. refl }
  line_laid host (MovToImm to imm) (Some hole) straight = record { straight = refl; jump = refl; outcome = λ choices core. refl; row = λ v. refl; x = refl; y = refl; to = refl; number = refl; loads = λ regs. refl; stores = λ regs. refl }
  line_laid host (MovHalfTo to from) None straight = record { straight = refl; jump = refl; outcome = λ choices core. refl; row = λ v. refl; x = refl; y = refl; to = refl; number = refl; loads = λ regs. refl; stores = λ regs. refl }
  line_laid host (MovHalfTo to from) (Some hole) straight = record { straight = refl; jump = refl; outcome = λ choices core. refl; row = λ v. refl; x = refl; y = refl; to = refl; number = refl; loads = λ regs. refl; stores = λ regs. refl }
  line_laid host (MovByteTo to from) None straight = record { straight = refl; jump = refl; outcome = λ choices core. refl; row = λ v. refl; x = refl; y = refl; to = refl; number = refl; loads = λ regs. refl; stores = λ regs. refl }
  line_laid host (MovByteTo to from) (Some hole) straight = record { straight = refl; jump = refl; outcome = λ choices core. refl; row = λ v. refl; x = refl; y = refl; to = refl; number = refl; loads = λ regs. refl; stores = λ regs. refl }
  line_laid host (MovByteFrom to from) None straight = record { straight = refl; jump = refl; outcome = λ choices core. refl; row = λ v. refl; x = refl; y = refl; to = refl; number = refl; loads = λ regs. refl; stores = λ regs. refl }
  line_laid host (MovByteFrom to from) (Some hole) straight = record { straight = refl; jump = refl; outcome = λ choices core. refl; row = λ v. refl; x = refl; y = refl; to = refl; number = refl; loads = λ regs. refl; stores = λ regs. refl }
  line_laid host (Shift op to by) None straight = record { straight = refl; jump = refl; outcome = λ choices core. refl; row = λ v. refl; x = refl; y = refl; to = refl; number = refl; loads = λ regs. refl; stores = λ regs. refl }
  line_laid host (Shift op to by) (Some hole) straight = record { straight = refl; jump = refl; outcome = λ choices core. refl; row = λ v. refl; x = refl; y = refl; to = refl; number = refl; loads = λ regs. refl; stores = λ regs. refl }
  line_laid host (ShiftByCl op to) None straight = record { straight = refl; jump = refl; outcome = λ choices core. refl; row = λ v. refl; x = refl; y = refl; to = refl; number = refl; loads = λ regs. refl; stores = λ regs. refl }
  line_laid host (ShiftByCl op to) (Some hole) straight = record { straight = refl; jump = refl; outcome = λ choices core. refl; row = λ v. refl; x = refl; y = refl; to = refl; number = refl; loads = λ regs. refl; stores = λ regs. refl }
  line_laid host (Lea to from) None straight = record { straight = refl; jump = refl; outcome = λ choices core. refl; row = λ v. refl; x = refl; y = refl; to = refl; number = refl; loads = λ regs. refl; stores = λ regs. refl }
  line_laid host (Lea to from) (Some hole) straight = record { straight = refl; jump = refl; outcome = λ choices core. refl; row = λ v. refl; x = refl; y = refl; to = refl; number = refl; loads = λ regs. refl; stores = λ regs. refl }
  line_laid host (Extend MovzxByte to from) None straight = record { straight = refl; jump = refl; outcome = λ choices core. refl; row = λ v. refl; x = refl; y = refl; to = refl; number = refl; loads = λ regs. refl; stores = λ regs. refl }
  line_laid host (Extend MovzxByte to from) (Some hole) straight = record { straight = refl; jump = refl; outcome = λ choices core. refl; row = λ v. refl; x = refl; y = refl; to = refl; number = refl; loads = λ regs. refl; stores = λ regs. refl }
  line_laid host (Extend MovzxHalf to from) None straight = record { straight = refl; jump = refl; outcome = λ choices core. refl; row = λ v. refl; x = refl; y = refl; to = refl; number = refl; loads = λ regs. refl; stores = λ regs. refl }
  line_laid host (Extend MovzxHalf to from) (Some hole) straight = record { straight = refl; jump = refl; outcome = λ choices core. refl; row = λ v. refl; x = refl; y = refl; to = refl; number = refl; loads = λ regs. refl; stores = λ regs. refl }
  line_laid host (Extend MovsxByte to from) None straight = record { straight = refl; jump = refl; outcome = λ choices core. refl; row = λ v. refl; x = refl; y = refl; to = refl; number = refl; loads = λ regs. refl; stores = λ regs. refl }
  line_laid host (Extend MovsxByte to from) (Some hole) straight = record { straight = refl; jump = refl; outcome = λ choices core. refl; row = λ v. refl; x = refl; y = refl; to = refl; number = refl; loads = λ regs. refl; stores = λ regs. refl }
  line_laid host (Extend MovsxHalf to from) None straight = record { straight = refl; jump = refl; outcome = λ choices core. refl; row = λ v. refl; x = refl; y = refl; to = refl; number = refl; loads = λ regs. refl; stores = λ regs. refl }
  line_laid host (Extend MovsxHalf to from) (Some hole) straight = record { straight = refl; jump = refl; outcome = λ choices core. refl; row = λ v. refl; x = refl; y = refl; to = refl; number = refl; loads = λ regs. refl; stores = λ regs. refl }
  line_laid host (Bswap reg) None straight = record { straight = refl; jump = refl; outcome = λ choices core. refl; row = λ v. refl; x = refl; y = refl; to = refl; number = refl; loads = λ regs. refl; stores = λ regs. refl }
  line_laid host (Bswap reg) (Some hole) straight = record { straight = refl; jump = refl; outcome = λ choices core. refl; row = λ v. refl; x = refl; y = refl; to = refl; number = refl; loads = λ regs. refl; stores = λ regs. refl }
  line_laid host (Set condition to) None straight = record { straight = refl; jump = refl; outcome = λ choices core. refl; row = λ v. refl; x = refl; y = refl; to = refl; number = refl; loads = λ regs. refl; stores = λ regs. refl }
  line_laid host (Set condition to) (Some hole) straight = record { straight = refl; jump = refl; outcome = λ choices core. refl; row = λ v. refl; x = refl; y = refl; to = refl; number = refl; loads = λ regs. refl; stores = λ regs. refl }
  line_laid host (Cmov condition to from) None straight = record { straight = refl; jump = refl; outcome = λ choices core. refl; row = λ v. refl; x = refl; y = refl; to = refl; number = refl; loads = λ regs. refl; stores = λ regs. refl }
  line_laid host (Cmov condition to from) (Some hole) straight = record { straight = refl; jump = refl; outcome = λ choices core. refl; row = λ v. refl; x = refl; y = refl; to = refl; number = refl; loads = λ regs. refl; stores = λ regs. refl }
  line_laid host (Bsr to from) None straight = record { straight = refl; jump = refl; outcome = λ choices core. refl; row = λ v. refl; x = refl; y = refl; to = refl; number = refl; loads = λ regs. refl; stores = λ regs. refl }
  line_laid host (Bsr to from) (Some hole) straight = record { straight = refl; jump = refl; outcome = λ choices core. refl; row = λ v. refl; x = refl; y = refl; to = refl; number = refl; loads = λ regs. refl; stores = λ regs. refl }
  line_laid host Cdq None straight = record { straight = refl; jump = refl; outcome = λ choices core. refl; row = λ v. refl; x = refl; y = refl; to = refl; number = refl; loads = λ regs. refl; stores = λ regs. refl }
  line_laid host Cdq (Some hole) straight = record { straight = refl; jump = refl; outcome = λ choices core. refl; row = λ v. refl; x = refl; y = refl; to = refl; number = refl; loads = λ regs. refl; stores = λ regs. refl }
  line_laid host _ hole straight = absurd cc

-- A byte that goes to a register or to memory is below 256, and an op that puts one, or edx alone, keeps the flags.
abbrev pub IsTamePut : Destination → HostEffect → HostValues → Type 0
IsTamePut (ToByte operand) e v = (e.result < 256) × (e.flags ≡ v.flags)
IsTamePut ToHigh e v = e.flags ≡ v.flags
IsTamePut to e v = Unit {0}

alu_tame : (op : AluOp) (to : Operand) (e : HostEffect) (v : HostValues) → IsTamePut (alu_destination op to) e v
alu_tame Add to e v = tt
alu_tame Or to e v = tt
alu_tame Adc to e v = tt
alu_tame Sbb to e v = tt
alu_tame And to e v = tt
alu_tame Sub to e v = tt
alu_tame Xor to e v = tt
alu_tame Cmp to e v = tt

one_small : (b : Bool) → one_if b < 256
one_small true = omega arith
one_small false = omega arith

pub op_tame : (op : Op) (v : HostValues) → is_straight op ≡ true → IsTamePut (destination op) (host_row op v) v
unfolding is_straight
op_tame (AluTo op to from) v straight = alu_tame op to (host_row (AluTo op to from) v) v
op_tame (AluFrom op to from) v straight = alu_tame op (Reg to) (host_row (AluFrom op to from) v) v
op_tame (AluImm op to imm) v straight = alu_tame op to (host_row (AluImm op to imm) v) v
op_tame (TestReg a b) v straight = tt
op_tame (TestImm a imm) v straight = tt
op_tame (Unary Not on) v straight = tt
op_tame (Unary Neg on) v straight = tt
op_tame (Unary Mul on) v straight = tt
op_tame (Unary Imul1 on) v straight = tt
op_tame (Imul to from) v straight = tt
op_tame (MovTo to from) v straight = tt
op_tame (MovFrom to from) v straight = tt
op_tame (MovImm to imm) v straight = tt
op_tame (MovToImm to imm) v straight = tt
op_tame (MovHalfTo to from) v straight = tt
op_tame (MovByteTo to from) v straight = tt
op_tame (MovByteFrom to from) v straight = (omega arith, refl)
op_tame (Shift op to by) v straight = tt
op_tame (ShiftByCl op to) v straight = tt
op_tame (Lea to from) v straight = tt
op_tame (Extend MovzxByte to from) v straight = tt
op_tame (Extend MovzxHalf to from) v straight = tt
op_tame (Extend MovsxByte to from) v straight = tt
op_tame (Extend MovsxHalf to from) v straight = tt
op_tame (Bswap reg) v straight = tt
op_tame (Set condition to) v straight = (one_small (condition_holds condition v.flags), refl)
op_tame (Cmov condition to from) v straight = tt
op_tame (Bsr to from) v straight = tt
op_tame Cdq v straight = refl
op_tame _ v straight = absurd cc

moved_word : (b : Bool) (x y : ℕ) → x < 2 ^ 32 → y < 2 ^ 32 → cond b y x < 2 ^ 32
moved_word true x y hx hy = hy
moved_word false x y hx hy = hx

small_word : (b : Bool) → one_if b < 2 ^ 32
small_word true = omega arith
small_word false = omega arith

alu_high : (op : AluOp) (v : HostValues) → v.high < 2 ^ 32 → (alu_row op v).high < 2 ^ 32
alu_high Add v h = h
alu_high Or v h = h
alu_high Adc v h = h
alu_high Sbb v h = h
alu_high And v h = h
alu_high Sub v h = h
alu_high Xor v h = h
alu_high Cmp v h = h

-- what an op gives of words is a word
abbrev pub AreWords : HostEffect → Type 0
AreWords e = (e.result < 2 ^ 32) × (e.high < 2 ^ 32)

pub op_words : (op : Op) (v : HostValues) → is_straight op ≡ true → v.x < 2 ^ 32 → v.y < 2 ^ 32 → v.high < 2 ^ 32 → v.free < 2 ^ 32 → AreWords (host_row op v)
unfolding is_straight
op_words (AluTo op to from) v straight hx hy hh hf = (alu_word op v hx hy, alu_high op v hh)
op_words (AluFrom op to from) v straight hx hy hh hf = (alu_word op v hx hy, alu_high op v hh)
op_words (AluImm op to imm) v straight hx hy hh hf = (alu_word op v hx hy, alu_high op v hh)
op_words (TestReg a b) v straight hx hy hh hf = (hx, hh)
op_words (TestImm a imm) v straight hx hy hh hf = (hx, hh)
op_words (Unary Not on) v straight hx hy hh hf = (omega (arith, hy), hh)
op_words (Unary Neg on) v straight hx hy hh hf = (omega arith, hh)
op_words (Unary Mul on) v straight hx hy hh hf = (product_word v.x v.y, high_word v.x v.y false hx hy)
op_words (Unary Imul1 on) v straight hx hy hh hf = (product_word v.x v.y, high_word v.x v.y true hx hy)
op_words (Imul to from) v straight hx hy hh hf = (product_word v.x v.y, hh)
op_words (MovTo to from) v straight hx hy hh hf = (hy, hh)
op_words (MovFrom to from) v straight hx hy hh hf = (hy, hh)
op_words (MovImm to imm) v straight hx hy hh hf = (hy, hh)
op_words (MovToImm to imm) v straight hx hy hh hf = (hy, hh)
op_words (MovHalfTo to from) v straight hx hy hh hf = (omega arith, hh)
op_words (MovByteTo to from) v straight hx hy hh hf = (omega arith, hh)
op_words (MovByteFrom to from) v straight hx hy hh hf = (omega arith, hh)
op_words (Shift op to by) v straight hx hy hh hf = (shift_word op v.x (by % 32) hx, hh)
op_words (ShiftByCl op to) v straight hx hy hh hf = (shift_word op v.x (v.y % 32) hx, hh)
op_words (Lea to from) v straight hx hy hh hf = (hy, hh)
op_words (Extend MovzxByte to from) v straight hx hy hh hf = (widened_word MovzxByte to 0 v, hh)
op_words (Extend MovzxHalf to from) v straight hx hy hh hf = (widened_word MovzxHalf to 0 v, hh)
op_words (Extend MovsxByte to from) v straight hx hy hh hf = (widened_word MovsxByte to 0 v, hh)
op_words (Extend MovsxHalf to from) v straight hx hy hh hf = (widened_word MovsxHalf to 0 v, hh)
op_words (Bswap reg) v straight hx hy hh hf = (swapped_word v.y, hh)
op_words (Set condition to) v straight hx hy hh hf = (small_word (condition_holds condition v.flags), hh)
op_words (Cmov condition to from) v straight hx hy hh hf = (moved_word (condition_holds condition v.flags) v.x v.y hx hy, hh)
op_words (Bsr to from) v straight hx hy hh hf = (scan_word (eqb v.y 0) v.free v.y hf, hh)
op_words Cdq v straight hx hy hh hf = (hx, copies_word v.x)
op_words _ v straight hx hy hh hf = absurd cc
