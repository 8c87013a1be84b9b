use Rattle.std.proofs.Common.{ap, ◌∙◌, false}
use Rattle.machines.specs.Prelude.{host_row}
use Rattle.ia_step.proofs.Cores.{values_shown}
use Rattle.ia_step.proofs.parts.Parts.effect.Goals as goal

pub returns : goal.returns
returns c = λ p core s.
    c.in-Ok.ensures.gives.means (λ n. false) tt
    ∙ ap (host_row c.args.op) (values_shown p c.args.self.now core c.args.choice c.flags-free.result c.args.x c.args.y c.reg.result c.word.result s c.reg.ensures c.word.ensures c.flags-free.ensures)
