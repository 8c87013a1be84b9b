use Rattle.std.proofs.Common.{◌≡◌, Some, false, ◌∙◌}
use Rattle.std.specs.Prelude.{position}
use Rattle.space.specs.Memory.{permits, has_address}
use Rattle.space.proofs.Lookup.{found_passes, byte_found, no_byte}
use Rattle.space.proofs.memory.Space.read.Goals as goal

pub get-requires : goal.get-requires
get-requires c =
    let some : Some c.in-Some.place ≡ position (permits false c.args.at) c.self.inside.segments.items = rw (← c.self.view_is) at c.in-Some.ensures in
    found_passes (has_address c.args.at) c.self.inside.segments.items c.in-Some.place c.index.result.now some c.index.ensures

pub returns-in-Some : goal.returns-in-Some
returns-in-Some c =
    let some : Some c.in-Some.place ≡ position (permits false c.args.at) c.self.inside.segments.items = rw (← c.self.view_is) at c.in-Some.ensures in
    rw (← c.self.view_is) (c.get.ensures
    ∙ byte_found (record { segments = c.self.inside.segments.items; code = c.self.inside.code }) c.args.at c.in-Some.place c.index.result.now some c.index.ensures)

pub returns-in-None : goal.returns-in-None
returns-in-None c = no_byte c.args.self.now c.args.at c.in-None.ensures
