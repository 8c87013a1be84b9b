use Rattle.std.proofs.Common.{◌≡◌, Some, true, sym}
use Rattle.std.specs.Prelude.{position}
use Rattle.space.specs.Memory.{permits}
use Rattle.space.proofs.Lookup.{found_passes, has_of_permits, any_some, any_none}
use Rattle.space.proofs.Written.{set_keeps_apart, put_is_with_byte}
use Rattle.space.proofs.memory.Space.write.Goals as goal

pub put-requires : goal.put-requires
put-requires c =
    let some : Some c.in-Some.place ≡ position (permits true c.args.at) c.self.inside.segments.items = rw (← c.self.view_is) at c.in-Some.ensures in
    has_of_permits true c.args.at c.index_mut.result.now
    (found_passes (permits true c.args.at) c.self.inside.segments.items c.in-Some.place c.index_mut.result.now some c.index_mut.ensures.value)

pub invariant_of-self : goal.invariant_of-self
invariant_of-self c =
    let some : Some c.in-Some.place ≡ position (permits true c.args.at) c.self.inside.segments.items = rw (← c.self.view_is) at c.in-Some.ensures in
    set_keeps_apart c.self.inside.segments.items c.args.at c.args.byte c.in-Some.place c.index_mut.result.now c.put.new.s
    c.self.invariant some c.index_mut.ensures.value c.put.ensures

pub returns-in-Some-clause-answer : goal.returns-in-Some-clause-answer
returns-in-Some-clause-answer c =
    sym (any_some (permits true c.args.at) c.args.self.now.segments c.in-Some.place c.index_mut.result.now c.in-Some.ensures)

pub returns-in-Some-clause-written : goal.returns-in-Some-clause-written
returns-in-Some-clause-written c =
    let some : Some c.in-Some.place ≡ position (permits true c.args.at) c.self.inside.segments.items = rw (← c.self.view_is) at c.in-Some.ensures in
    rw (← c.self.view_is)
    (put_is_with_byte (record { segments = c.self.inside.segments.items; code = c.self.inside.code }) c.args.at c.args.byte c.in-Some.place
    c.index_mut.result.now c.put.new.s c.self.invariant some c.index_mut.ensures.value c.put.ensures)

pub returns-in-None-clause-answer : goal.returns-in-None-clause-answer
returns-in-None-clause-answer c = sym (any_none (permits true c.args.at) c.args.self.now.segments c.in-None.ensures)
