-- That valid plans lay words. This project's own.
use Rattle.std.specs.Prelude.{ℕ, Bool, List, Option}
use Rattle.machines.specs.Prelude.{Instr}
use Rattle.block_find.specs.declared.block.Block.{Block}
use Rattle.liveness.specs.Prelude.{Sets}
use Rattle.plan_form.specs.declared.problem.Problem.{Problem}
use Rattle.plan_form.specs.declared.problem.Step.{Step}
use Rattle.plan_form.specs.Prelude.{IsFull, IsValidPlan}
use Rattle.offer_make.specs.Problem.{IsBlockOf, IsProblemOf}
use Rattle.code_layout.specs.Prelude.{AreDecodedAs, LaysWords, no_registers}

-- a valid plan of a block's problem under empty boundary maps lays the block's words, decoded, from no register to no register
abbrev pub ValidPlansLay : Type 0
ValidPlansLay =
    (live : Sets) (block : Block) (leader : Bool) (q : Problem) (steps : List Step) (cost : ℕ) (decoded : List (Option Instr)) →
    IsBlockOf live block → IsProblemOf block no_registers no_registers leader live q → IsFull q → IsValidPlan q steps cost → AreDecodedAs block.words decoded →
    LaysWords 6 no_registers decoded steps no_registers
