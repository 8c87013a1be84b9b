-- Built instructions are no flow words.
use Rattle.std.proofs.Common.{refl}
use Rattle.machines.specs.Prelude.{Branch, BranchConditional, BranchRegister, Trap, TrapImmediate, SystemCall}
use Rattle.base_alu.specs.Laws.{BuiltAreStraight}

pub built_are_straight : BuiltAreStraight
built_are_straight (Branch target absolute link) built = absurd built
built_are_straight (BranchConditional bo bi target absolute link) built = absurd built
built_are_straight (BranchRegister op bo bi link) built = absurd built
built_are_straight (Trap to a b) built = absurd built
built_are_straight (TrapImmediate to a imm) built = absurd built
built_are_straight SystemCall built = absurd built
built_are_straight _ built = refl
