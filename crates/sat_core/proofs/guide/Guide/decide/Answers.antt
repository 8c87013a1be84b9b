use Rattle.std.proofs.Common.{◌∙◌}
use Rattle.sat_core.proofs.guide.Guide.decide.Goals as goal

pub returns-then-branch : goal.returns-then-branch
returns-then-branch c = λ known room h.
    let g = c.loop-literal.invariant known room h in
    record { leveled = c.in_ok-decide.ensures.leveled known g.leveled; room_is = c.in_ok-decide.ensures.room ∙ g.room_is }

pub loop-literal-preserved : goal.loop-literal-preserved
loop-literal-preserved c = λ known room h.
    let g = c.loop-literal.invariant known room h in
    record { leveled = c.in_ok-decide.ensures.leveled known g.leveled; room_is = c.in_ok-decide.ensures.room ∙ g.room_is }
