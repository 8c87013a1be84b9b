-- What places hold and how they are written; what a program may write.
use Rattle.std.proofs.Common.{◌≡◌, ◌≢◌, ℕ, Bool, true, false, ◌&&◌, ◌||◌, ◌⊎◌, List, [], ◌∷◌, length, Some, refl, sym, ap, ◌∙◌, subst, ⊎_elim, arith}
use Rattle.machines.specs.Prelude.{Segment, update, is_within, is_held, is_writable, value_at, put_at}
use Rattle.reg_map.specs.Prelude.{location_place}
use Rattle.symbolic_tiles.specs.Prelude.{PlacesAreRead, PlacesAreWritten, ProgramsWriteHeld}
use Rattle.symbolic_tiles.proofs.Memory.{update_same, update_other}
use Rattle.symbolic_tiles.proofs.Places.{put_same, put_other, place_apart, place_fits, place_bytes, place_unowned, place_registers, read_place, write_place}

pub places_are_read : PlacesAreRead
places_are_read m area guest host live g core x page represents lx alive = read_place m area guest host page x core lx ∙ ap Some (represents.locs x lx alive)

pub places_are_written : PlacesAreWritten
places_are_written m area guest host live g core x v page represents lx fit = (
  put_at core (location_place m area x) v,
  write_place m area guest host page x v core lx,
  record {
    represents = record {
      locs = λ y ly alive. ⊎_elim (same y) (λ ne. put_other core (location_place m area x) (location_place m area y) v (place_apart m area page.low y x ly lx ne) ∙ represents.locs y ly alive ∙ sym (update_other g.locs x v y ne)) (is_same y);
      bytes = λ a held. place_bytes m area page.low x v a core lx (page.apart a held) ∙ represents.bytes a held;
    };
    registers = λ r ne. place_registers m area page.low x v r core ne;
    memory = λ a un. place_unowned m area page.low guest.held x v a core lx un;
  },
)
  where
    is_same : (y : ℕ) → (y ≡ x) ⊎ (y ≢ x)
    is_same y = grind arith

    same : (y : ℕ) → y ≡ x → value_at (put_at core (location_place m area x) v) (location_place m area y) ≡ update g.locs x v y
    same y e = subst (λ z. value_at (put_at core (location_place m area x) v) (location_place m area z) ≡ update g.locs x v z) (sym e) (put_same core (location_place m area x) v (place_fits m area page.low x v lx fit) ∙ sym (update_same g.locs x v))

segments_write_held : (ss : List Segment) (a : ℕ) → is_writable ss a ≡ true → is_held ss a ≡ true
unfolding is_writable is_held
segments_write_held [] a h = absurd cc
segments_write_held (s ∷ ss) a h = by_tests s.write (is_within s.at (length s.bytes) a) (is_writable ss a) (is_held ss a) h (segments_write_held ss a)
  where
    by_tests : (w i r k : Bool) → ((w && i) || r) ≡ true → (r ≡ true → k ≡ true) → (i || k) ≡ true
    by_tests w true r k h rest = refl
    by_tests true false r k h rest = rest h
    by_tests false false r k h rest = rest h

pub programs_write_held : ProgramsWriteHeld
programs_write_held p a h = segments_write_held p.segments a h
