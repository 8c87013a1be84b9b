use Rattle.std.proofs.Common.{refl, sym, subst, ◌∙◌}
use Rattle.std.specs.List.{All}
use Rattle.watched_literals.specs.Prelude.{IsWithin}
use Rattle.sat_core.specs.Prelude.{IsGained, known}
use Rattle.sat_core.proofs.Reaching.{taught-back}
use Rattle.sat_core.proofs.search.Search.lesson.Goals as goal

pub minimize-requires-clause-ready : goal.minimize-requires-clause-ready
minimize-requires-clause-ready c =
    let s = c.args.self.now in
    let a = c.requires.above in (
      known s,
      c.restart-assumed.ensures.restarts.ready a.0 a.1 a.2,
      subst (λ xs. IsGained (known s) xs c.args.last) (sym (c.deref.ensures.value ∙ c.restart-assumed.ensures.assumed)) c.requires.gained,
    )

pub minimize-requires-clause-within : goal.minimize-requires-clause-within
minimize-requires-clause-within c =
    subst (All (IsWithin c.restart-assumed.new.self.propagator.trail.room)) (sym (c.deref.ensures.value ∙ c.restart-assumed.ensures.assumed))
    (subst (λ n. All (IsWithin n) c.args.self.now.assumed.items) (sym c.restart-assumed.ensures.restarts.room) c.requires.within)

pub returns : goal.returns
returns c =
    let s = c.args.self.now in
    let a = c.requires.above in
    let r = c.restart-assumed.ensures.restarts in
    let ready = r.ready a.0 a.1 a.2 in
    let gained = subst (λ xs. IsGained (known s) xs c.args.last) (sym (c.deref.ensures.value ∙ c.restart-assumed.ensures.assumed)) c.requires.gained in
    let m = c.in_ok-minimize.ensures in
    taught-back c.args.root _ s c.restart-assumed.new.self _ c.in_ok-minimize.field-0.items c.requires
    (record { formula = r.formula; steps = r.steps; room = r.room; bare = r.bare; ready = r.ready }) refl refl refl m.room
    (m.ready (known s) ready) (m.lesson (known s) ready gained) m.within
