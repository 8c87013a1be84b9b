-- A program of four words, and its translation by plans. This project's own.
use Rattle.std.specs.Prelude.{ℕ, ◌+◌, ◌-◌, ◌^◌, cond, eqb, true, false, List, [], ◌∷◌, ◌++◌, Some, None}
use Rattle.std.specs.List.{flat_map}
use Rattle.byteorder.specs.Endian.{little_bytes}
use Rattle.machines.specs.Prelude.{PowerPc, Ia32, Program, Instr, Immediate, Branch, Addi, Map, spelling, AluImm, MovTo, MovFrom, Jmp, Add, Reg, Abs, ebx, esi}
use Rattle.reg_map.specs.Prelude.{gpr_home}
use Rattle.base_alu.specs.Tile.{tile as alu_tile}
use Rattle.base_flow.specs.Prelude.{tile as flow_tile}
use Rattle.symbolic_tiles.specs.Prelude.{Window, window_of}
use Rattle.code_layout.specs.Prelude.{no_registers, Moves, Places, items_bytes}
use Rattle.simulation.specs.Prelude.{rows_of, PlanStep, Move, Tile, FlowTile}
use Rattle.laid_code.specs.Prelude.{Interface, plan_items}
use Rattle.elf_emit.specs.Prelude.{written_segments}

-- addi r3,r3,1; addi r3,r3,2; addi r3,r3,3; b to the first, from this address on
abbrev pub first : ℕ
first = 0x10000

abbrev pub adds : ℕ → Instr
adds n = Immediate Addi 3 3 n

abbrev pub back : Instr
back = Branch 0xFFFFFD false false

abbrev pub words : List ℕ
words = 0x38630001 ∷ 0x38630002 ∷ 0x38630003 ∷ 0x4BFFFFF4 ∷ []

abbrev pub word_bytes : List ℕ
word_bytes = 0x38 ∷ 0x63 ∷ 0 ∷ 1 ∷ 0x38 ∷ 0x63 ∷ 0 ∷ 2 ∷ 0x38 ∷ 0x63 ∷ 0 ∷ 3 ∷ 0x4B ∷ 0xFF ∷ 0xFF ∷ 0xF4 ∷ []

abbrev pub program : Program
program = record {
  kind = PowerPc;
  entry = first;
  segments = record { at = first; write = false; exec = true; bytes = word_bytes } ∷ [];
  code = 0;
}

-- r3 in ebx, or in esi
abbrev pub in_ebx : Map
in_ebx = record { ebx = Some 3; esi = None; edi = None }

abbrev pub in_esi : Map
in_esi = record { ebx = None; esi = Some 3; edi = None }

-- The blocks of the first three words begin with no GPR in a register, that of the last with r3 in ebx.
abbrev pub entry_map : ℕ → Map
entry_map w = cond (eqb w 0x1000C) in_ebx no_registers

-- so they take for granted, and that every location is live
abbrev pub interface : Interface
interface = record { entry_map = entry_map; live = λ w x. true }

-- the moves to the map under which a block begins: from each of the three maps
abbrev pub from_none : ℕ → Moves
from_none w = cond (eqb w 0x1000C) ((in_ebx, MovFrom ebx (Abs (gpr_home 3)) ∷ []) ∷ []) []

abbrev pub from_esi : ℕ → Moves
from_esi w = (no_registers, MovTo (Abs (gpr_home 3)) esi ∷ []) ∷ from_none w

abbrev pub from_ebx : ℕ → Moves
from_ebx w = cond (eqb w 0x1000C) [] ((no_registers, MovTo (Abs (gpr_home 3)) ebx ∷ []) ∷ [])

-- the second word and the third as one window
abbrev pub both_adds : Window
both_adds = record {
  outcome = λ rights g. rows_of rights (adds 2 ∷ adds 3 ∷ []) g;
  loads = λ g. [];
  stores = λ g. [];
  writes = 3 ∷ [];
  dead = λ x. false;
  condition = None;
  taken = λ g. false;
}

-- one base tile, under the empty map
abbrev pub one : ℕ → PlanStep
one n = Tile (adds n ∷ []) (window_of (adds n)) (alu_tile (adds n) no_registers)

-- the move and the window of the first block
abbrev pub behind_one : List PlanStep
behind_one = Move in_esi (MovFrom esi (Abs (gpr_home 3)) ∷ []) ∷ Tile (adds 2 ∷ adds 3 ∷ []) both_adds (AluImm Add (Reg esi) 5 ∷ []) ∷ []

-- the block of the first three words, that of the last, and those of the second and the third as single words
abbrev pub first_plan : List PlanStep
first_plan = one 1 ∷ behind_one

abbrev pub last_plan : List PlanStep
last_plan = FlowTile (Some back) (flow_tile back 0x1000C in_ebx) ∷ []

abbrev pub second_plan : List PlanStep
second_plan = one 2 ∷ []

abbrev pub third_plan : List PlanStep
third_plan = one 3 ∷ []

-- the host area; `hold`, the blocks behind it, and the adapter to the last word's block
abbrev pub area : ℕ
area = 0x08048000

abbrev pub hold : ℕ
hold = area + 0x81000

abbrev pub first_block : ℕ
first_block = hold + 5

abbrev pub last_block : ℕ
last_block = hold + 52

abbrev pub second_block : ℕ
second_block = hold + 63

abbrev pub third_block : ℕ
third_block = hold + 86

abbrev pub adapter : ℕ
adapter = hold + 115

-- where edges lead
abbrev pub target : ℕ → ℕ
target w = cond (eqb w 0x10000) first_block (cond (eqb w 0x10004) second_block (cond (eqb w 0x10008) third_block (cond (eqb w 0x1000C) last_block hold)))

abbrev pub places : (ℕ → Moves) → Places
places switch = record { area = area; hold = hold; table = area + 0x1000; first = first; count = 4; targets = target; switch = switch }

-- each block's bytes, and those of the adapter, which is a plan without steps
abbrev pub block : (ℕ → Moves) → ℕ → ℕ → List PlanStep → List ℕ
block switch w here steps = items_bytes (places switch) here (plan_items w steps)

abbrev pub code : List ℕ
code =
    spelling (Jmp (2 ^ 32 - 5))
    ++ (block from_esi 0x10000 first_block first_plan
    ++ (block from_ebx 0x1000C last_block last_plan
    ++ (block from_none 0x10004 second_block second_plan
    ++ (block from_none 0x10008 third_block third_plan
    ++ block from_none 0x1000C adapter []))))

abbrev pub entries : List ℕ
entries = first_block ∷ second_block ∷ third_block ∷ adapter ∷ []

abbrev pub table : List ℕ
table = flat_map (little_bytes 4) entries

-- the file's program: the source's segment, then home page, table and code
abbrev pub translation : Program
translation = record { kind = Ia32; entry = first_block; segments = written_segments program.segments area table code; code = 3 }
