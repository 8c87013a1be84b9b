-- When symbolic ops are a tile of an instruction that is no flow word (this project's own).
use Rattle.std.specs.Prelude.{ℕ, ◌≤◌, ◌+◌, List, [], ◌∷◌, length}
use Rattle.machines.specs.Prelude.{Instr, Op, spelling}
use Rattle.symbolic_tiles.specs.Row.{DoesRow}
use Rattle.symbolic_tiles.specs.SymbolicOps.{SymbolicOp, PutImmediate, Multiply, Scan, FetchByte, SetByte, SwapBytes, Load, Store, AreWellFormed, ops_of}

-- Under no map has an op more bytes: an opcode of one byte or two, ModRM, and a displacement or a number, or both where a
-- number is put into a home (Intel SDM volume 2, 2.1). bswap has 2 and counts as 5, so that bytes bound the number of ops, too.
abbrev pub most_bytes : SymbolicOp → ℕ
most_bytes (PutImmediate x v) = 10
most_bytes (Multiply r source) = 7
most_bytes (Scan r source) = 7
most_bytes (FetchByte r x) = 7
most_bytes (SetByte condition x) = 7
most_bytes (SwapBytes r) = 5
most_bytes (Load size r b d) = 7
most_bytes (Store size b d r) = 7
most_bytes _ = 6

abbrev pub room_of : List SymbolicOp → ℕ
room_of [] = 0
room_of (op ∷ ops) = most_bytes op + room_of ops

-- the bytes of ops, as they are spelled
abbrev pub spelled_bytes : List Op → ℕ
spelled_bytes [] = 0
spelled_bytes (op ∷ ops) = length (spelling op) + spelled_bytes ops

-- They are well-formed, have so few bytes that the code of every program has room, and do what the instruction's row does,
-- under every map and at every area.
pub record IsTileOf (i : Instr) (ops : List SymbolicOp) : Type 0 where
  pub well_formed : AreWellFormed ops
  pub short : room_of ops ≤ 595
  pub does : DoesRow i (ops_of ops)
