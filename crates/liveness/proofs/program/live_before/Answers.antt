use Rattle.std.proofs.Common.{◌≡◌, ℕ, ◌<◌, ◌↔◌, List, length, sym, ◌∙◌, ap, subst}
use Rattle.std.specs.Prelude.{slice_index}
use Rattle.liveness.specs.Prelude.{Has, Flow}
use Rattle.liveness.specs.Flows.{IsLive}
use Rattle.liveness.proofs.Bridge.{are_live}
use Rattle.liveness.proofs.program.live_before.Goals as goal

pub returns : goal.returns
returns c =
    let same : c.deref.result.now ≡ c.in_ok-flows.flows.items = c.deref.ensures.value in
    let each : (k l : ℕ) → k < length c.in_ok-flows.flows.items → Has (slice_index c.in_ok-bits.bits.items k) l ↔ IsLive c.in_ok-flows.flows.items l k =
    subst (λ (fs : List Flow). (k l : ℕ) → k < length fs → Has (slice_index c.in_ok-bits.bits.items k) l ↔ IsLive fs l k) same c.in_ok-bits.ensures.each in
    are_live c.args.code.now.first c.args.code.now.words.now c.in_ok-flows.flows.items c.in_ok-flows.ensures c.new.result c.new.ensures.first
    (ap (λ (bs : List ℕ). length bs) c.new.ensures.bits ∙ c.in_ok-bits.ensures.count ∙ ap (λ (fs : List Flow). length fs) same)
    (subst (λ (bs : List ℕ). (k l : ℕ) → k < length c.in_ok-flows.flows.items → Has (slice_index bs k) l ↔ IsLive c.in_ok-flows.flows.items l k) (sym c.new.ensures.bits) each)
