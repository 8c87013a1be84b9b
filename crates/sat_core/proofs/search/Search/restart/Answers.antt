use Rattle.std.proofs.Common.{◌∙◌, ap, refl}
use Rattle.sat_core.specs.Prelude.{known}
use Rattle.sat_core.proofs.search.Search.restart.Goals as goal

pub returns-clause-restarts : goal.returns-clause-restarts
returns-clause-restarts c = record {
  formula = refl;
  steps = refl;
  room = c.restart.ensures.room;
  bare = ap (λ v. v.items) c.replace.ensures.after ∙ c.new.ensures.items;
  ready = λ literals at h. c.restart.ensures.ready (known c.args.self.now) literals at h;
}
