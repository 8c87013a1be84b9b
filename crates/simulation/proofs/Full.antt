-- The guest that the host represents with nothing dead, and what every walk of the host keeps.
use Rattle.std.proofs.Common.{◌≡◌, ℕ, ◌<◌, Bool, true, false, cond, ltb, Option, Some, None, refl, sym, ap, ◌∙◌, subst}
use Rattle.std.proofs.lemmas.Bool.{ltb-true, lt-ltb}
use Rattle.machines.specs.Prelude.{Map, Anywhere, Walks, stays, walks, Guest, Core, Host, value_at}
use Rattle.reg_map.specs.Prelude.{location_count, location_range, location_place, Represents, AreInRange}
use Rattle.symbolic_tiles.specs.Prelude.{GoesThrough, Any}
use Rattle.simulation.specs.Prelude.{SimulationContext, IsGuest, MatchesState, Alike, StepKeepsUnwritten}

-- the guest with the values that the places have, and beyond the locations its own
abbrev pub full : Map → ℕ → Core → Guest → Guest
full map area core g = record g { locs = λ x. cond (ltb x location_count) (value_at core (location_place map area x)) (g.locs x) }

pub full_at : (map : Map) (area : ℕ) (core : Core) (g : Guest) (x : ℕ) → x < location_count → (full map area core g).locs x ≡ value_at core (location_place map area x)
full_at map area core g x lx = ap (λ b. cond b (value_at core (location_place map area x)) (g.locs x)) (lt-ltb x location_count lx)

module _ (s : SimulationContext) (map : Map) (g : Guest) (core : Core) (matches : MatchesState s map g core) where
  abbrev shown : Guest
  shown = full map s.area core g

  pub full_alike : Alike s g shown
  full_alike = record { next = refl; locs = λ x alive. by_test x alive (ltb x location_count) refl; bytes = refl }
    where
      by_test : (x : ℕ) → s.live g.next x ≡ true → (b : Bool) → ltb x location_count ≡ b → cond b (value_at core (location_place map s.area x)) (g.locs x) ≡ g.locs x
      by_test x alive true e = matches.represents.locs x (ltb-true x location_count e) alive
      by_test x alive false e = refl

  pub full_represents : Represents map s.area Any s.guest.held shown core
  full_represents = record { locs = λ x lx t. sym (full_at map s.area core g x lx); bytes = matches.represents.bytes }

  pub full_in_range : AreInRange shown
  full_in_range x lx = subst (λ v. v < location_range x) (sym (full_at map s.area core g x lx)) (matches.in_range x lx)

  pub full_guest : IsGuest s shown
  full_guest = record { in_range = full_in_range; bytes = matches.is_guest.bytes }

-- where a fact holds through, there is a core
pub goes_to : (o : Option Core) (P : Core → Type 0) → GoesThrough o P → (core : Core) × (o ≡ Some core) × P core
goes_to None P h = absurd h
goes_to (Some core) P h = (core, refl, h)

-- bytes that may not be written are the file's
abbrev pub IsUnwritten : SimulationContext → Core → Type 0
IsUnwritten s core = (a : ℕ) → s.host.writable a ≡ false → core.bytes a ≡ s.image a

module _ (s : SimulationContext) (keeps : (h : Host) → StepKeepsUnwritten s.host h.core (s.host_step h)) where
  pub walk_keeps : (j : ℕ) (h h' : Host) → Walks Anywhere s.host_step j h h' → IsUnwritten s h.core → IsUnwritten s h'.core
  walk_keeps j h h' stays kept = kept
  walk_keeps j h h' (walks {j = i} {t = h1} c e w) kept = walk_keeps i h1 h' w (λ a no. subst (StepKeepsUnwritten s.host h.core) e (keeps h) a no ∙ kept a no)
