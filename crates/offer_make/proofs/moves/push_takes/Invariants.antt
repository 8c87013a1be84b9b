use Rattle.std.proofs.Common.{◌≡◌, ◌++◌, map, take}
use Rattle.reg_map.specs.declared.moves.Move.TheVariants.{Take}
use Rattle.offer_make.proofs.moves.push_takes.Given as goal

abbrev pub invariant-loop-gpr : goal.invariant-loop-gpr
invariant-loop-gpr l = l.steps.items ≡ l.initial.steps.items ++ map (Take l.slot) (take l.gpr-index l.candidates)
