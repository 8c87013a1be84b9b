-- The best plans of a program's blocks. This project's own.
use Rattle.std.specs.Prelude.{◌≡◌, ℕ, ◌+◌, ◌*◌, Bool, nat_lt, List, length, Some, slice_get}
use Rattle.block_find.specs.declared.block.Block.{Block}
use Rattle.block_find.specs.declared.block.Blocks.{Blocks}
use Rattle.block_find.specs.Prelude.{AreBlocksOf, all_blocks, block_at}
use Rattle.code_words.specs.Words.{HasWords, first_of}
use Rattle.liveness.specs.Prelude.{Sets, AreLive}
use Rattle.machines.specs.Prelude.{Program}
use Rattle.plan_form.specs.declared.problem.BlockPlan.{BlockPlan}
use Rattle.plan_form.specs.declared.problem.Problem.{Problem}
use Rattle.plan_form.specs.Prelude.{IsFull, values_of}
use Rattle.offer_make.specs.Problem.{IsProblemOf}
use Rattle.tile_plan.specs.Solution.{IsSolution}
use Rattle.code_layout.specs.Prelude.{no_registers}

-- The plan is the block's, under empty maps: its steps are those to be chosen in the block's problem, and its labels certify that
-- no valid plan costs less.
pub record IsBestPlan (live : Sets) (block : Block) (leader : Bool) (plan : BlockPlan) : Type 0 where
  pub at : plan.at ≡ block.at
  pub words : plan.words ≡ length block.words
  pub entry : plan.entry ≡ no_registers
  pub exit : plan.exit ≡ no_registers
  pub problem : Problem
  pub is_problem : IsProblemOf block no_registers no_registers leader live problem
  pub is_full : IsFull problem
  pub solved : IsSolution problem plan.plan.steps.items (values_of plan.labels)

-- one for each block, in their order
pub record AreBestPlans (live : Sets) (blocks : Blocks) (plans : List BlockPlan) : Type 0 where
  pub count : length plans ≡ length (all_blocks blocks)
  pub each : (k : ℕ) (plan : BlockPlan) → slice_get plans k ≡ Some plan → IsBestPlan live (block_at (all_blocks blocks) k) (nat_lt k (length blocks.leaders)) plan

-- They are the best plans of a program: of its code words' blocks, by what is live before each word.
pub record HasBestPlans (P : Program) (plans : List BlockPlan) : Type 0 where
  pub words : List ℕ
  pub entry : ℕ
  pub blocks : Blocks
  pub live : Sets
  pub has : HasWords P (first_of P) words
  pub begins : P.entry ≡ first_of P + 4 * entry
  pub are_blocks : AreBlocksOf (first_of P) entry words blocks
  pub are_live : AreLive (first_of P) words live
  pub best : AreBestPlans live blocks plans
