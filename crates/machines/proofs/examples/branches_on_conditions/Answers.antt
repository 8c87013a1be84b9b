use Rattle.machines.proofs.BranchSmall.{compare_branches, counter_branches, branch_links, equal_traps}
use Rattle.machines.proofs.examples.branches_on_conditions.Goals as goal

pub returns : goal.returns
returns c = record { compares = compare_branches; counts = counter_branches; links = branch_links; traps = equal_traps }
