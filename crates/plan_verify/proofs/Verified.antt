-- From the blocks to the program that has them.
use Rattle.std.proofs.Common.{◌≡◌, ℕ, List, Result, Ok, Err, IfOk, IfErr}
use Rattle.block_find.specs.declared.block.Blocks.{Blocks}
use Rattle.liveness.specs.Prelude.{Sets}
use Rattle.machines.specs.Prelude.{Program}
use Rattle.plan_form.specs.declared.problem.BlockPlan.{BlockPlan}
use Rattle.plan_verify.specs.declared.fault.PlanFault.{PlanFault}
use Rattle.plan_verify.specs.declared.fault.PlanFault.TheVariants.{Bad, Memory}
use Rattle.plan_verify.specs.Failures.{AreGood, AreVerified, HasBlocks, IsFaultIn, IsRefusal, leaders_cost}

module _ (P : Program) (plans : List BlockPlan) (blocks : Blocks) (live : Sets) (have : HasBlocks P blocks live) where
  pub verified : (r : Result ℕ PlanFault) → IfOk r (λ _. AreGood live blocks plans) → IfOk r (λ total. total ≡ leaders_cost blocks plans) → IfOk r (λ total. AreVerified P plans total)
  verified (Ok total) good cost = record { blocks = blocks; live = live; have = have; good = good; total_is = cost }
  verified (Err fault) good cost = tt

  pub refused : (r : Result ℕ PlanFault) → IfErr r (λ fault. IsFaultIn live blocks plans fault) → IfErr r (λ fault. IsRefusal P plans fault)
  refused (Ok total) fault = tt
  refused (Err (Bad number place)) fault = record { blocks = blocks; live = live; have = have; first = fault }
  refused (Err (Memory none)) fault = tt
