-- The guest stays in range: its next state is represented by a host, behind the word's tile under no registers.
use Rattle.std.proofs.Common.{◌≡◌, ℕ, zero, suc, ◌+◌, ◌^◌, ◌<◌, ◌≤◌, ◌⊎◌, Bool, true, false, cond, [], Option, Some, None, refl, sym, ap, ◌∙◌, subst, ⊎_elim, arith}
use Rattle.std.proofs.lemmas.Bool.Decides.{nat_tests}
use Rattle.machines.specs.Prelude.{Instr, IsLegal, Flags, Outcome, Goes, Asks, Ends, Outside, Guest, Core, Program, behind, effect_of, guest_acts, guest_executes, is_code_word, word_of_code, code_of, value_at, put_at}
use Rattle.reg_map.specs.Prelude.{home_size, location_range, location_place, Represents}
use Rattle.row_laws.specs.FlowWords.{is_flow}
use Rattle.base_flow.specs.Prelude.{tile as flow_tile}
use Rattle.base_flow.proofs.Tiles.{flow_tiles_do_rows}
use Rattle.symbolic_tiles.specs.Prelude.{perform, Any, IsCore, IsStraight, TilePrecondition, TilePostcondition, window_of, Exit, Leaves, Leaps, Stops, Calls, Falls, FitsGoing, Fits, flow}
use Rattle.symbolic_tiles.proofs.Memory.{store_byte}
use Rattle.symbolic_tiles.proofs.Places.{put_same, put_other, place_apart, place_fits, place_bytes}
use Rattle.symbolic_tiles.proofs.Done.{range_size}
use Rattle.symbolic_tiles.proofs.Straight.{rows_are_straight, accesses_are_inside}
use Rattle.code_layout.specs.Prelude.{no_registers, word_ops, ops_at}
use Rattle.code_layout.proofs.BuiltWords.{is_map, straight_word, has_tile}
use Rattle.code_layout.proofs.StraightTiles.{tiles_do_rows}
use Rattle.simulation.specs.Prelude.{SimulationContext, IsGuest, LeadsToGuests}
use Rattle.simulation.proofs.Full.{goes_to}
use Rattle.upkeep.specs.Steps.{RunsGuest, GuestsStayGuests}

abbrev no_flags : Flags
no_flags = record { cf = false; zf = false; sf = false; of = false }

byte_or_zero : (b : Bool) (v : ℕ) → (b ≡ true → v < 256) → cond b v 0 < 256
byte_or_zero true v small = small refl
byte_or_zero false v small = omega arith

module _ (s : SimulationContext) (g : Guest) (is : IsGuest s g) where
  -- a host with the guest's bytes alone
  abbrev bare : Core
  bare = record { regs = λ r. 0; flags = no_flags; bytes = λ a. cond (s.guest.held a) (g.bytes a) 0 }

  -- and with the values of the first so many locations at their homes
  standing : ℕ → Core
  standing zero = bare
  standing (suc n) = put_at (standing n) (location_place no_registers s.area n) (g.locs n)

  standing_core : (n : ℕ) → IsCore (standing n)
  unfolding standing
  standing_core zero = record { words = λ r. omega arith; bytes = λ a. byte_or_zero (s.guest.held a) (g.bytes a) (is.bytes a) }
  standing_core (suc n) = record { words = (standing_core n).words; bytes = λ a. store_byte (home_size n) _ (g.locs n) (standing n).bytes a ((standing_core n).bytes a) }

  module _ (low : s.area + 4096 ≤ 2 ^ 32) where
    same_or_less : (x n : ℕ) → x < suc n → (x ≡ n) ⊎ (x < n)
    same_or_less x n lt = grind (arith, nat_tests)

    standing_locs : (n : ℕ) → n ≤ 46 → (x : ℕ) → x < n → value_at (standing n) (location_place no_registers s.area x) ≡ g.locs x
    unfolding standing
    standing_locs zero le x lt = absurd (omega arith)
    standing_locs (suc n) le x lt = ⊎_elim here (before (λ less. standing_locs n (omega arith) x less)) (same_or_less x n lt)
      where
        here : x ≡ n → value_at (standing (suc n)) (location_place no_registers s.area x) ≡ g.locs x
        here e = subst (λ y. value_at (standing (suc n)) (location_place no_registers s.area y) ≡ g.locs y) (sym e) (
            put_same (standing n) (location_place no_registers s.area n) (g.locs n) (place_fits no_registers s.area low n (g.locs n) (omega arith) (range_size n (g.locs n) (is.in_range n (omega arith)))))

        before : (x < n → value_at (standing n) (location_place no_registers s.area x) ≡ g.locs x) → x < n → value_at (standing (suc n)) (location_place no_registers s.area x) ≡ g.locs x
        before old less =
            put_other (standing n) (location_place no_registers s.area n) (location_place no_registers s.area x) (g.locs n) (place_apart no_registers s.area low x n (omega arith) (omega arith) (λ e. omega (arith, less, e)))
            ∙ old less

    standing_bytes : (n : ℕ) → n ≤ 46 → (a : ℕ) → s.guest.held a ≡ true → (a < s.area) ⊎ (s.area + 4096 ≤ a) → (standing n).bytes a ≡ g.bytes a
    unfolding standing
    standing_bytes zero le a held far = ap (λ (b : Bool). cond b (g.bytes a) 0) held
    standing_bytes (suc n) le a held far = place_bytes no_registers s.area low n (g.locs n) a (standing n) (omega arith) far ∙ standing_bytes n (omega arith) a held far

module _ (s : SimulationContext) (reading : ℕ → Option Instr) (P : Program) (runs : RunsGuest s reading P) (g : Guest) (is : IsGuest s g) where
  abbrev core : Core
  core = standing s g is 46

  represents : Represents no_registers s.area Any s.guest.held g core
  represents = record {
    locs = λ x lx t. standing_locs s g is runs.page.low 46 (omega arith) x lx;
    bytes = λ a held. standing_bytes s g is runs.page.low 46 (omega arith) a held (runs.page.apart a held);
  }

  -- a state that a host represents is the guest's
  shown : (g' : Guest) (after : Core) → ((x : ℕ) → x < 46 → value_at after (location_place no_registers s.area x) ≡ g'.locs x) → ((x : ℕ) → x < 46 → value_at after (location_place no_registers s.area x) < location_range x) →
      ((a : ℕ) → s.guest.held a ≡ true → after.bytes a ≡ g'.bytes a) → IsCore after → IsGuest s g'
  shown g' after locs range bytes is_core = record {
    in_range = λ x lx. subst (λ v. v < location_range x) (locs x lx) (range x lx);
    bytes = λ a held. subst (λ v. v < 256) (bytes a held) (is_core.bytes a);
  }

  module _ (i : Instr) (legal : IsLegal i) where
    straight : is_flow i ≡ false → (o : Outcome Guest) → guest_acts s.guest i (effect_of i g) g ≡ o → IsStraight (behind g.next) o → LeadsToGuests s o
    straight e (Goes g') goes next =
        let inside = accesses_are_inside i s.guest g g' e runs.writes_held goes in
        let ready : TilePrecondition (window_of i) no_registers s.area s.guest s.host g core = record {
          page = runs.page;
          writes_held = runs.writes_held;
          loads = λ a c. runs.segments.held a (inside.loads a c);
          stores = λ a c. let w = inside.stores a c in runs.segments.writable a w.0 ∙ w.1;
          represents = represents;
          in_range = is.in_range;
          is_core = standing_core s g is 46;
        } in
        let d = goes_to (perform s.host (ops_at s.area (word_ops i no_registers)) [] core) (TilePostcondition (window_of i) no_registers s.area s.guest g g' core) (tiles_do_rows i legal (straight_word i e) no_registers s.area is_map s.guest s.host g g' core [] ready goes) in
        shown g' d.0 (λ x lx. d.2.represents.locs x lx refl) d.2.in_range d.2.represents.bytes d.2.is_core
    straight e (Asks call next) goes never = absurd never
    straight e (Ends how) goes next = tt

    going : (g' : Guest) (exit : Exit) → FitsGoing no_registers s.area s.guest core g' exit → IsGuest s g'
    going g' (Leaves target after) fits = record { in_range = fits.1.in_range; bytes = λ a held. subst (λ v. v < 256) (fits.1.represents.bytes a held) (fits.1.is_core.bytes a) }
    going g' (Leaps after) fits = record { in_range = fits.1.in_range; bytes = λ a held. subst (λ v. v < 256) (fits.1.represents.bytes a held) (fits.1.is_core.bytes a) }
    going g' (Stops e) fits = absurd fits
    going g' (Calls call exits) fits = absurd fits
    going g' Falls fits = absurd fits

    leads : (o : Outcome Guest) (exit : Exit) → Fits no_registers s.area s.guest core o exit → LeadsToGuests s o
    leads (Goes g') exit fits = going g' exit fits
    leads (Asks call next) (Calls asked exits) fits = λ a. going (next a) (exits a) (fits.1 a)
    leads (Asks call next) (Leaves target after) fits = absurd fits
    leads (Asks call next) (Leaps after) fits = absurd fits
    leads (Asks call next) (Stops e) fits = absurd fits
    leads (Asks call next) Falls fits = absurd fits
    leads (Ends e) exit fits = tt

    by_flow : (b : Bool) → is_flow i ≡ b → LeadsToGuests s (guest_executes s.guest (Some i) g)
    by_flow false e = straight e (guest_acts s.guest i (effect_of i g) g) refl (rows_are_straight i s.guest g e)
    by_flow true e = leads (guest_executes s.guest (Some i) g) (flow s.host s.area (flow_tile i g.next no_registers) None [] core) (
        flow_tiles_do_rows i no_registers legal is_map (has_tile i e) s.area s.guest s.host g core [] (record {
          page = runs.page;
          segments = runs.segments;
          writes_held = runs.writes_held;
          represents = represents;
          in_range = is.in_range;
          is_core = standing_core s g is 46;
        }))

  executes : (o : Option Instr) → ((i : Instr) → o ≡ Some i → IsLegal i) → LeadsToGuests s (guest_executes s.guest o g)
  executes None legal = tt
  executes (Some i) legal = by_flow i (legal i refl) (is_flow i) refl

  fetches : (b : Bool) → LeadsToGuests s (cond b (guest_executes s.guest (reading (word_of_code (code_of P) g.next)) g) (Ends Outside))
  fetches true = executes (reading (word_of_code (code_of P) g.next)) (λ i e. (runs.reads.found (word_of_code (code_of P) g.next) i e).legal)
  fetches false = tt

pub guests_stay : GuestsStayGuests
guests_stay s reading P runs g is = subst (LeadsToGuests s) (sym (runs.steps g)) (subst (λ r. LeadsToGuests s (cond (is_code_word (code_of P) g.next) (guest_executes r (reading (word_of_code (code_of P) g.next)) g) (Ends Outside))) runs.rights (fetches s reading P runs g is (is_code_word (code_of P) g.next)))
