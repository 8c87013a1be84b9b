use Rattle.std.proofs.Common.{ℕ, List, ℤ}
use Rattle.sat_core.specs.Prelude.{IsGuided}
use Rattle.sat_core.proofs.guide.Guide.decide.Given as goal

abbrev pub invariant-loop-literal : goal.invariant-loop-literal
invariant-loop-literal l = (known : List (List ℤ)) (room : ℕ) → IsGuided known room l.fn.self.levels → IsGuided known room l.self.levels
