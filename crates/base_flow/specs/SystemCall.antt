-- The tile of sc (this project's own): the guest's call is made by int 0x80. Both kernels number exit 1, read 3,
-- write 4, close 6; exit_group is 234 on PowerPC and 252 on IA-32. Every other number is answered with
-- error 38, ENOSYS. PowerPC tells an error by CR0's SO and the error's number in r3; IA-32 by a result
-- from -4095 to -1. Label 0 is that of exit_group, 1 of the call, 2 where eax has an error's number negated, 3 where ecx has
-- an error's number, 4 behind both answers.
use Rattle.std.specs.Prelude.{ℕ, List, [], ◌∷◌, Some, None}
use Rattle.machines.specs.Prelude.{Cmp, And, Or, Equal, NotBelow}
use Rattle.symbolic_tiles.specs.declared.symbolic_op.SymbolicOperand.TheVariants.{Temporary, Location}
use Rattle.symbolic_tiles.specs.declared.symbolic_op.SymbolicOp.TheVariants.{Mov, MovImmediate, Put, AluImmediate, Negate, FetchByte, PutByte}
use Rattle.symbolic_tiles.specs.declared.tile_item.TileItem.{TileItem}
use Rattle.symbolic_tiles.specs.declared.tile_item.TileItem.TheVariants.{Do, JumpIf, Label, LoadEbx, BranchTo, Interrupt}

unfoldable pub done_items : ℕ → List TileItem
done_items next = Label 4 ∷ BranchTo next ∷ []

unfoldable pub error_items : ℕ → List TileItem
error_items next = Label 3 ∷ Do (Put 3 1) ∷ Do (FetchByte 1 34) ∷ Do (AluImmediate Or 1 1) ∷ Do (PutByte 34 1) ∷ done_items next

unfoldable pub failure_items : ℕ → List TileItem
failure_items next = Label 2 ∷ Do (Negate 0) ∷ Do (Mov 1 (Temporary 0)) ∷ error_items next

unfoldable pub success_items : ℕ → List TileItem
success_items next = Do (Put 3 0) ∷ Do (FetchByte 1 34) ∷ Do (AluImmediate And 1 14) ∷ Do (PutByte 34 1) ∷ JumpIf None 4 ∷ failure_items next

unfoldable pub answer_items : ℕ → List TileItem
answer_items next = Do (AluImmediate Cmp 0 0xFFFFF001) ∷ JumpIf (Some NotBelow) 2 ∷ success_items next

unfoldable pub request_items : ℕ → List TileItem
request_items next = Label 0 ∷ Do (MovImmediate 0 252) ∷ Label 1 ∷ LoadEbx 3 ∷ Do (Mov 1 (Location 4)) ∷ Do (Mov 2 (Location 5)) ∷ Interrupt ∷ answer_items next

unfoldable pub selection_items : ℕ → List TileItem
selection_items next =
    Do (Mov 0 (Location 0))
    ∷ Do (AluImmediate Cmp 0 234) ∷ JumpIf (Some Equal) 0
    ∷ Do (AluImmediate Cmp 0 1) ∷ JumpIf (Some Equal) 1
    ∷ Do (AluImmediate Cmp 0 3) ∷ JumpIf (Some Equal) 1
    ∷ Do (AluImmediate Cmp 0 4) ∷ JumpIf (Some Equal) 1
    ∷ Do (AluImmediate Cmp 0 6) ∷ JumpIf (Some Equal) 1
    ∷ Do (MovImmediate 1 38) ∷ JumpIf None 3 ∷ request_items next
