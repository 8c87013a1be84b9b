-- Built instructions are no flow words.
use Rattle.std.proofs.lemmas.Bool.{false≢true}
use Rattle.std.proofs.Common.{refl}
use Rattle.machines.specs.Prelude.{Branch, BranchConditional, BranchRegister, Trap, TrapImmediate, SystemCall}
use Rattle.base_mem.specs.Laws.{BuiltAreStraight}

pub built_are_straight : BuiltAreStraight
built_are_straight (Branch target absolute link) built = absurd (false≢true built)
built_are_straight (BranchConditional bo bi target absolute link) built = absurd (false≢true built)
built_are_straight (BranchRegister op bo bi link) built = absurd (false≢true built)
built_are_straight (Trap to a b) built = absurd (false≢true built)
built_are_straight (TrapImmediate to a imm) built = absurd (false≢true built)
built_are_straight SystemCall built = absurd (false≢true built)
built_are_straight _ built = refl
