-- What is neither the guest's nor a home in use, in plain terms.
use Rattle.std.proofs.Common.{◌≡◌, ◌≢◌, ℕ, ◌+◌, ◌<◌, ◌≤◌, ◌⊎◌, inl, inr, Bool, true, false, Option, Some, None, refl, sym, ap, ◌∙◌, arith}
use Rattle.machines.specs.Prelude.{Map, Rights, Core}
use Rattle.reg_map.specs.Prelude.{home, home_size, slot_of, IsHomePage}
use Rattle.reg_map.proofs.Homes.{homes_apart}
use Rattle.symbolic_tiles.specs.Prelude.{GoesThrough, IsUnowned, LoadsKeepMemory}
use Rattle.symbolic_tiles.proofs.Places.{home_within}

module _ (m : Map) (area : ℕ) (guest host : Rights) (page : IsHomePage area guest host) where
  pub outside_unowned : (a : ℕ) → guest.held a ≡ false → (a < area) ⊎ (area + 4096 ≤ a) → IsUnowned m area guest.held a
  outside_unowned a h far = record { no_guest = h; no_home = λ y j ly lj e q. let w = home_within y j ly lj in omega (arith, q, far, w) }

  page_not_held : (a : ℕ) → area ≤ a → a < area + 4096 → guest.held a ≡ false
  page_not_held a le lt = by_held (guest.held a) refl
    where
      by_held : (b : Bool) → guest.held a ≡ b → b ≡ false
      by_held false h = refl
      by_held true h = absurd (let p = page.apart a h in omega (arith, p, le, lt))

  pub home_unowned : (x i r : ℕ) → x < 46 → i < home_size x → slot_of m x ≡ Some r → IsUnowned m area guest.held (area + home x + i)
  home_unowned x i r lx li slot = record {
    no_guest = let w = home_within x i lx li in page_not_held (area + home x + i) (omega arith) (omega (arith, w));
    no_home = λ y j ly lj e q. by_place y j ly lj e q (grind arith);
  }
    where
      none : (o : Option ℕ) → o ≡ None → o ≡ Some r → ⊥
      none None p q = cc
      none (Some t) p q = cc

      by_place : (y j : ℕ) → y < 46 → j < home_size y → slot_of m y ≡ None → area + home x + i ≡ area + home y + j → (x ≡ y) ⊎ (x ≢ y) → ⊥
      by_place y j ly lj e q (inl s) = none (slot_of m x) (ap (slot_of m) s ∙ e) slot
      by_place y j ly lj e q (inr ne) = (homes_apart x y i j lx ly ne li lj).1 (omega (arith, q))

pub loads_keep_memory : LoadsKeepMemory
loads_keep_memory window m area guest host g g' before after ready done same = record {
  outside = λ a far. by_held a far (guest.held a) refl;
  homes = λ x i r lx li slot. done.memory (area + home x + i) (home_unowned m area guest host ready.page x i r lx li slot);
}
  where
    by_held : (a : ℕ) → (a < area) ⊎ (area + 4096 ≤ a) → (b : Bool) → guest.held a ≡ b → after.bytes a ≡ before.bytes a
    by_held a far true h = done.represents.bytes a h ∙ ap (λ f. f a) same ∙ sym (ready.represents.bytes a h)
    by_held a far false h = done.memory a (outside_unowned m area guest host ready.page a h far)

-- a core that there is
pub goes_to : (o : Option Core) (P : Core → Type 0) → GoesThrough o P → (core : Core) × (o ≡ Some core) × P core
goes_to None P h = absurd h
goes_to (Some core) P h = (core, refl, h)
