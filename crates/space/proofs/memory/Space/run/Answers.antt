use Rattle.std.proofs.Common.{◌≡◌, Some}
use Rattle.std.specs.Prelude.{position}
use Rattle.space.specs.Memory.{permits}
use Rattle.space.proofs.Lookup.{found_passes, has_of_permits, any_none, run_is_permitted}
use Rattle.space.proofs.memory.Space.run.Goals as goal

pub count_from-requires : goal.count_from-requires
count_from-requires c =
    let some : Some c.in-Some.place ≡ position (permits c.args.writable c.args.at) c.self.inside.segments.items = rw (← c.self.view_is) at c.in-Some.ensures in
    has_of_permits c.args.writable c.args.at c.index.result.now
    (found_passes (permits c.args.writable c.args.at) c.self.inside.segments.items c.in-Some.place c.index.result.now some c.index.ensures)

pub returns-in-Some-clause-given : goal.returns-in-Some-clause-given
returns-in-Some-clause-given c =
    let some : Some c.in-Some.place ≡ position (permits c.args.writable c.args.at) c.self.inside.segments.items = rw (← c.self.view_is) at c.in-Some.ensures in
    rw (← c.self.view_is)
    (run_is_permitted c.self.inside.segments.items c.args.writable c.args.at c.in-Some.place c.count_from.result c.index.result.now some c.index.ensures c.count_from.ensures.inside)

pub returns-in-None-clause-none : goal.returns-in-None-clause-none
returns-in-None-clause-none c =
    λ some none. any_none (permits c.args.writable c.args.at) c.args.self.now.segments c.in-None.ensures
