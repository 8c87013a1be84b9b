-- How many bytes the ops of tiles have, and how many ops there are.
use Rattle.std.proofs.Common.{◌≡◌, ℕ, ◌+◌, ◌*◌, ◌≤◌, List, [], ◌∷◌, ◌++◌, length, Option, Some, None, arith}
use Rattle.machines.specs.Prelude.{Map, Operand, Reg, Abs, Op, Unary, MovTo, MovToImm, Imul, Bsr, spelling}
use Rattle.reg_map.specs.Prelude.{slot_of, place_in, mov_from, alu_from}
use Rattle.symbolic_tiles.specs.Prelude.{SymbolicOperand, Temporary, Location, Byte, Half, Word, SymbolicOp, Mov, MovImmediate, Put, PutImmediate, Alu, AluImmediate, Test, TestImmediate, Invert, Negate, Multiply, MultiplyWide, Divide, ShiftBy, ShiftCl, Widen, SwapBytes, MoveIf, Scan, Signs, FetchByte, PutByte, SetByte, Load, Store, operand_of, wide_op, op_of, ops_of, TileItem, Do, JumpIf, Label, LoadEbx, BranchTo, BranchIndirect, Interrupt, Trap, Undefined, flow_of, flows_of, doing, flow_room, flows_room, most_bytes, room_of, spelled_bytes}

-- an op with an operand has no more bytes than with a home
by_operand : (m : Map) (source : SymbolicOperand) (f : Operand → Op) (n : ℕ) → ((r : ℕ) → length (spelling (f (Reg r))) ≤ n) → ((d : ℕ) → length (spelling (f (Abs d))) ≤ n) → length (spelling (f (operand_of m source))) ≤ n
by_operand m (Temporary r) f n h k = h r
by_operand m (Location x) f n h k = by_slot (slot_of m x)
  where
    by_slot : (o : Option ℕ) → length (spelling (f (place_in o x))) ≤ n
    by_slot (Some r) = h r
    by_slot None = k (4 * x)

pub op_short : (m : Map) (l : SymbolicOp) → length (spelling (op_of m l)) ≤ most_bytes l
op_short m (Mov r source) = by_operand m source (mov_from r) 6 (λ q. omega arith) (λ d. omega arith)
op_short m (MovImmediate r v) = omega arith
op_short m (Put x r) = by_operand m (Location x) (λ o. MovTo o r) 6 (λ q. omega arith) (λ d. omega arith)
op_short m (PutImmediate x v) = by_operand m (Location x) (λ o. MovToImm o v) 10 (λ q. omega arith) (λ d. omega arith)
op_short m (Alu op r source) = by_operand m source (alu_from op r) 6 (λ q. omega arith) (λ d. omega arith)
op_short m (AluImmediate op r v) = omega arith
op_short m (Test r q) = omega arith
op_short m (TestImmediate r v) = omega arith
op_short m (Invert r) = omega arith
op_short m (Negate r) = omega arith
op_short m (Multiply r source) = by_operand m source (Imul r) 7 (λ q. omega arith) (λ d. omega arith)
op_short m (MultiplyWide signed source) = by_operand m source (Unary (wide_op signed)) 6 (λ q. omega arith) (λ d. omega arith)
op_short m (Divide signed r) = omega arith
op_short m (ShiftBy op r n) = omega arith
op_short m (ShiftCl op r) = omega arith
op_short m (Widen op r q) = omega arith
op_short m (SwapBytes r) = omega arith
op_short m (MoveIf condition r q) = omega arith
op_short m (Scan r source) = by_operand m source (Bsr r) 7 (λ q. omega arith) (λ d. omega arith)
op_short m Signs = omega arith
op_short m (FetchByte r x) = omega arith
op_short m (PutByte x r) = omega arith
op_short m (SetByte condition x) = omega arith
op_short m (Load Byte r b d) = omega arith
op_short m (Load Half r b d) = omega arith
op_short m (Load Word r b d) = omega arith
op_short m (Store Byte b d r) = omega arith
op_short m (Store Half b d r) = omega arith
op_short m (Store Word b d r) = omega arith

pub ops_short : (m : Map) (ops : List SymbolicOp) → spelled_bytes (ops_of ops m) ≤ room_of ops
ops_short m [] = omega arith
ops_short m (l ∷ ops) = let a = op_short m l in let b = ops_short m ops in omega (arith, a, b)

pub at_least : (l : SymbolicOp) → 5 ≤ most_bytes l
at_least (PutImmediate x v) = omega arith
at_least (Multiply r source) = omega arith
at_least (Scan r source) = omega arith
at_least (FetchByte r x) = omega arith
at_least (SetByte condition x) = omega arith
at_least (SwapBytes r) = omega arith
at_least (Load size r b d) = omega arith
at_least (Store size b d r) = omega arith
at_least _ = omega arith

pub few_ops : (m : Map) (ops : List SymbolicOp) → 5 * length (ops_of ops m) ≤ room_of ops
few_ops m [] = omega arith
few_ops m (l ∷ ops) = let a = at_least l in let b = few_ops m ops in omega (arith, a, b)

pub room_append : (xs ys : List SymbolicOp) → room_of (xs ++ ys) ≡ room_of xs + room_of ys
room_append [] ys = omega arith
room_append (x ∷ xs) ys = let e = room_append xs ys in omega (arith, e)

-- the same of items
abbrev pub item_room : TileItem → ℕ
item_room (Do l) = most_bytes l
item_room (JumpIf c mark) = 6
item_room (Label mark) = 0
item_room (BranchTo target) = 41
item_room BranchIndirect = 32
item_room _ = 6

abbrev pub items_room : List TileItem → ℕ
items_room [] = 0
items_room (item ∷ items) = item_room item + items_room items

item_short : (m : Map) (item : TileItem) → flow_room (flow_of m item) ≤ item_room item
item_short m (Do l) = op_short m l
item_short m (JumpIf c mark) = omega arith
item_short m (Label mark) = omega arith
item_short m (LoadEbx x) = by_operand m (Location x) (mov_from 3) 6 (λ q. omega arith) (λ d. omega arith)
item_short m (BranchTo target) = omega arith
item_short m BranchIndirect = omega arith
item_short m Interrupt = omega arith
item_short m Trap = omega arith
item_short m Undefined = omega arith

pub items_short : (m : Map) (items : List TileItem) → flows_room (flows_of items m) ≤ items_room items
items_short m [] = omega arith
items_short m (item ∷ items) = let a = item_short m item in let b = items_short m items in omega (arith, a, b)

-- ops before items
pub doing_room : (ops : List SymbolicOp) (items : List TileItem) → items_room (doing ops items) ≡ room_of ops + items_room items
doing_room [] items = omega arith
doing_room (l ∷ ops) items = let e = doing_room ops items in omega (arith, e)
