use Rattle.code_layout.proofs.Laying.{nowhere}
use Rattle.code_layout.proofs.places.Layout.target.Goals as goal

pub returns-in-None : goal.returns-in-None
returns-in-None c = nowhere c.args.self.now.first c.args.self.now.entries.now c.args.self.now.code c.args.address c.in-None.ensures
