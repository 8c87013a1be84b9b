-- The ends of tiles that leave a comparison in a field of CR (this project's own): bit 8 where less, 4 where greater, 2 where
-- equal, and SO.
use Rattle.std.specs.Prelude.{ℕ, ◌+◌, Bool, true, false, List, [], ◌∷◌}
use Rattle.machines.specs.Prelude.{Or, Condition, Equal, Less}
use Rattle.symbolic_tiles.specs.SymbolicOps.{Temporary, SymbolicOp, MovImmediate, Alu, Test, MoveIf, FetchByte, PutByte}

-- behind a comparison, its outcome goes into field f; `less` is the condition of less
abbrev pub field_ops : ℕ → Condition → List SymbolicOp
field_ops f less = MovImmediate 1 4 ∷ MovImmediate 2 2 ∷ MoveIf Equal 1 2 ∷ MovImmediate 2 8 ∷ MoveIf less 1 2 ∷ FetchByte 2 43 ∷ Alu Or 1 (Temporary 2) ∷ PutByte (34 + f) 1 ∷ []

-- Rc: the result in eax is compared with zero, into field 0
abbrev pub record_ops : Bool → List SymbolicOp
record_ops true = Test 0 0 ∷ field_ops 0 Less
record_ops false = []
