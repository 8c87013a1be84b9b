-- Guests that are alike where every location is live.
use Rattle.std.proofs.Common.{◌≡◌, ℕ, true, refl, sym, ap, ◌∙◌, subst}
use Rattle.std.proofs.Math.Path.{fun_ext}
use Rattle.machines.specs.Prelude.{Outcome, Goes, Asks, Ends, Guest, guest_executes}
use Rattle.simulation.specs.Prelude.{SimulationContext, Alike, AreAlike}
use Rattle.upkeep.specs.Steps.{AllLiveIsEnough}

abbrev made : (ℕ → ℕ) → ℕ → (ℕ → ℕ) → Guest
made locs next bytes = record { locs = locs; next = next; bytes = bytes }

module _ (s : SimulationContext) where
  alike_to_itself : (g : Guest) → Alike s g g
  alike_to_itself g = record { next = refl; locs = λ x live. refl; bytes = refl }

  are_alike : (o : Outcome Guest) → AreAlike s o o
  are_alike (Goes g) = alike_to_itself g
  are_alike (Asks call next) = (refl, λ a. alike_to_itself (next a))
  are_alike (Ends e) = refl

  same : ((w x : ℕ) → s.live w x ≡ true) → (g other : Guest) → Alike s g other → other ≡ g
  same live g other alike =
      let locs : other.locs ≡ g.locs = fun_ext (λ x. alike.locs x (live g.next x)) in
      ap (λ (f : ℕ → ℕ). made f other.next other.bytes) locs ∙ ap (λ (n : ℕ). made g.locs n other.bytes) alike.next ∙ ap (λ (f : ℕ → ℕ). made g.locs g.next f) alike.bytes

pub all_live : AllLiveIsEnough
all_live s live word g other stands is_guest is_other alike =
    subst (λ t. AreAlike s (guest_executes s.guest word g) (guest_executes s.guest word t)) (sym (same s live g other alike)) (are_alike s (guest_executes s.guest word g))
