-- The tiles of flow words: they go on, call, or end.
use Rattle.std.proofs.Common.{◌≡◌, ◌≢◌, ℕ, suc, ◌+◌, ◌*◌, ◌<◌, ◌≤◌, ◌⊎◌, inl, inr, List, length, Option, None, Contains, refl, sym, ap, ◌∙◌, subst, arith}
use Rattle.machines.specs.Prelude.{End, Outside, Map, Instr, IsMap, Outcome, Goes, Asks, Ends, Anywhere, Walks, stays, walks, onward, called, over, lost, Guest, guest_executes, Core, Host}
use Rattle.space.specs.declared.call.End.TheVariants as ends
use Rattle.reg_map.specs.Prelude.{location_range}
use Rattle.symbolic_tiles.specs.declared.flow_op.FlowOp.{FlowOp}
use Rattle.symbolic_tiles.specs.Prelude.{leap_target, Exit, Leaves, Leaps, Stops, Calls, Falls, IsBefore, IsBehind, FitsGoing, Fits, flow, EdgeCode, Reaches}
use Rattle.symbolic_tiles.proofs.Walked.{flows_are_walked}
use Rattle.code_layout.specs.Prelude.{no_registers}
use Rattle.simulation.specs.Prelude.{SimulationContext, IsGuest, LeadsToGuests, MatchesState, Alike, AreAlike, StepKeepsUnwritten, EdgeAt, SwitchAt, LeapAt, DoorAt, FlowAt, Simulates, on_edge, IsTranslation}
use Rattle.simulation.proofs.Full.{full, full_alike, full_represents, full_in_range, full_guest, IsUnwritten, walk_keeps}
use Rattle.simulation.proofs.Switches.{Steps, enters}
use Rattle.simulation.proofs.Leaps.{Leapt}
use Rattle.simulation.proofs.Leaps.{leaps as leaps_to}
use Rattle.runs.proofs.Walking.{join_walks}

is_outside : (e : End) → (e ≡ Outside) ⊎ (e ≢ Outside)
is_outside ends.Running = inr (λ x. cc)
is_outside (ends.Exit code) = inr (λ x. cc)
is_outside ends.Trap = inr (λ x. cc)
is_outside ends.Illegal = inr (λ x. cc)
is_outside ends.Outside = inl refl
is_outside ends.Dry = inr (λ x. cc)
is_outside ends.DivideFault = inr (λ x. cc)

module _ (s : SimulationContext) where
  -- behind a flow tile: on an edge or, behind the indirect sequence, at the door
  pub record Lands (p most : ℕ) (g : Guest) (h : Host) : Type 0 where
    pub j : ℕ
    pub p' : ℕ
    pub h' : Host
    pub few : j ≤ most + 6
    pub slow : p + 1 ≤ 64 * j + p'
    pub host_walks : Walks Anywhere s.host_step j h h'
    pub meets : Simulates s p' 0 g h'

module _ (s : SimulationContext) (t : IsTranslation s) (map : Map) (is_map : IsMap map) (labels : ℕ → ℕ) (edges : List EdgeCode) (leaps : List ℕ) (edges_stand : (e : EdgeCode) → Contains edges e → EdgeAt s map e.target e.at) (leaps_stand : (at : ℕ) → Contains leaps at → (map ≡ no_registers) × LeapAt s at) where
  abbrev Reached : ℕ → Exit → Host → Type 0
  Reached most exit h = Reaches s.host s.area s.host_step labels edges leaps most exit h

  -- g' is the guest, and the exit is that of the guest that is shown
  lands : (p most : ℕ) (before : Core) (g' shown : Guest) (exit : Exit) (h : Host) → p < 64 → IsUnwritten s h.core → IsGuest s g' → Alike s g' shown → FitsGoing map s.area s.guest before shown exit → Reached most exit h → Lands s p most g' h
  lands p most before g' shown (Leaves target core) h lt_p unwritten is_guest alike fits r =
      let behind = subst (IsBehind map s.area s.guest shown before) (sym r.5) fits.1 in
      let matches : MatchesState s map g' r.1.core = record {
        is_map = is_map;
        is_guest = is_guest;
        represents = record {
          locs = λ x lx alive. behind.represents.locs x lx tt ∙ alike.locs x alive;
          bytes = λ a held. behind.represents.bytes a held ∙ ap (λ f. f a) alike.bytes;
        };
        in_range = λ x lx. subst (λ v. v < location_range x) (sym (behind.represents.locs x lx tt)) (behind.in_range x lx);
        is_core = behind.is_core;
        unwritten = walk_keeps s t.keeps r.0 h r.1 r.3 unwritten;
      } in
      let edge : EdgeAt s map g'.next r.1.eip = subst (λ w. EdgeAt s map w r.1.eip) (fits.0 ∙ alike.next) (edges_stand _ r.4) in
      record { j = r.0; p' = suc p; h' = r.1; few = omega (arith, r.2); slow = omega arith; host_walks = r.3; meets = on_edge map edge.0 matches edge.2 (omega arith) (omega (arith, edge.1)) }
  lands p most before g' shown (Leaps core) h lt_p unwritten is_guest alike fits r =
      let behind = subst (IsBehind map s.area s.guest shown before) (sym r.5) fits.1 in
      let matches : MatchesState s map g' r.1.core = record {
        is_map = is_map;
        is_guest = is_guest;
        represents = record {
          locs = λ x lx alive. behind.represents.locs x lx tt ∙ alike.locs x alive;
          bytes = λ a held. behind.represents.bytes a held ∙ ap (λ f. f a) alike.bytes;
        };
        in_range = λ x lx. subst (λ v. v < location_range x) (sym (behind.represents.locs x lx tt)) (behind.in_range x lx);
        is_core = behind.is_core;
        unwritten = walk_keeps s t.keeps r.0 h r.1 r.3 unwritten;
      } in
      let leap = leaps_stand r.1.eip r.4 in
      let d = leaps_to s t map g' r.1 matches (ap leap_target r.5 ∙ fits.0 ∙ alike.next) leap.1 in
      by_door r.0 r.1 r.2 r.3 leap.0 d (t.doors g'.next)
    where
      by_door : (i : ℕ) (h1 : Host) → i ≤ most → Walks Anywhere s.host_step i h h1 → map ≡ no_registers → (d : Leapt s t map g' h1) → DoorAt s g'.next → Lands s p most g' h
      by_door i h1 le w empty d (inl at) = record {
        j = i + d.j;
        p' = 0;
        h' = d.h';
        few = omega (arith, le, d.few);
        slow = omega (arith, d.some);
        host_walks = join_walks Anywhere s.host_step i d.j h h1 d.h' w d.host_walks;
        meets = enters s t 0 g' d.h' map (omega arith) (empty ∙ sym at.1) d.matches (d.here ∙ at.0);
      }
      by_door i h1 le w empty d (inr edge) = record {
        j = i + d.j;
        p' = suc p;
        h' = d.h';
        few = omega (arith, le, d.few);
        slow = omega arith;
        host_walks = join_walks Anywhere s.host_step i d.j h h1 d.h' w d.host_walks;
        meets = on_edge map edge.0 d.matches (subst (λ a. SwitchAt s g'.next edge.0 map a) (sym d.here) (subst (λ m. SwitchAt s g'.next edge.0 m (s.door g'.next)) (sym empty) edge.2)) (omega arith) (omega (arith, edge.1));
      }
  lands p most before g' shown (Stops e) h lt_p unwritten is_guest alike fits r = absurd fits
  lands p most before g' shown (Calls call exits) h lt_p unwritten is_guest alike fits r = absurd fits
  lands p most before g' shown Falls h lt_p unwritten is_guest alike fits r = absurd fits

  -- the outcome is the guest's, and the other one that of the guest that is shown
  pub by_exit : (p q most : ℕ) (g : Guest) (h : Host) (outcome shown : Outcome Guest) (exit : Exit) → p < 64 → q ≤ 40 → most ≤ 100 → IsUnwritten s h.core → s.guest_step g ≡ outcome → LeadsToGuests s outcome → AreAlike s outcome shown → Fits map s.area s.guest h.core shown exit → Reached most exit h → Steps s p q g h
  by_exit p q most g h (Goes g') (Goes shown) exit lt_p le_q few unwritten step guests alike fits r =
      let d = lands p most h.core g' shown exit h lt_p unwritten guests alike fits r in
      onward (record {
        k = 1;
        j = d.j;
        p' = d.p';
        q' = 0;
        g' = g';
        h' = d.h';
        guest_walks = walks tt step stays;
        host_walks = d.host_walks;
        meets = d.meets;
        in_block = omega arith;
        slow = omega (arith, d.slow);
        fast = omega (arith, d.few);
      })
  by_exit p q most g h (Ends e) (Ends shown) exit lt_p le_q few unwritten step guests same fits r = by_end (is_outside e) fits
    where
      by_end : (e ≡ Outside) ⊎ (e ≢ Outside) → (shown ≡ Outside) ⊎ (exit ≡ Stops shown) → Steps s p q g h
      by_end (inl o) f = lost (record { k = 0; g' = g; guest_walks = stays; goes_outside = step ∙ ap Ends o; in_block = omega arith })
      by_end (inr n) (inl o) = absurd (n (sym same ∙ o))
      by_end (inr n) (inr f) =
          let d = subst (λ x. Reached most x h) f r in
          over (record { j = d.0; h1 = d.1; how = e; inside = n; guest_ends = step; host_walks = d.3; host_ends = d.4 ∙ ap Ends same; clean = tt; soon = omega (arith, d.2) })
  by_exit p q most g h (Asks call next) (Asks call' next') (Calls asked exits) lt_p le_q few unwritten step guests alike fits r =
      let kept : IsUnwritten s r.2.core = walk_keeps s t.keeps r.0 h r.2 r.5 unwritten in
      let after : StepKeepsUnwritten s.host r.2.core (Asks asked r.3) = subst (StepKeepsUnwritten s.host r.2.core) r.6 (t.keeps r.2) in
      called (record {
        j = r.0;
        h1 = r.2;
        call = call;
        guest_next = next;
        host_next = r.3;
        guest_asks = step;
        host_walks = r.5;
        host_asks = r.6 ∙ ap (λ c. Asks c r.3) (fits.0 ∙ alike.0);
        clean = tt;
        soon = omega (arith, r.4);
        answered = λ a. let d = lands p r.1 h.core (next a) (next' a) (exits a) (r.3 a) lt_p (λ x no. after a x no ∙ kept x no) (guests a) (alike.1 a) (fits.1 a) (r.7 a) in record {
          i = d.j;
          p' = d.p';
          q' = 0;
          h' = d.h';
          host_walks = d.host_walks;
          meets = d.meets;
          slow = omega (arith, d.slow);
          fast = omega (arith, d.few, r.4);
        };
      })
  by_exit p q most g h (Asks call next) (Asks call' next') _ lt_p le_q few unwritten step guests alike fits r = absurd fits
  by_exit p q most g h _ _ exit lt_p le_q few unwritten step guests alike fits r = absurd alike

module _ (s : SimulationContext) (t : IsTranslation s) where
  pub by_flow : (p q : ℕ) (g : Guest) (h : Host) (map : Map) (word : Option Instr) (items : List FlowOp) → MatchesState s map g h.core → FlowAt s map g.next word items h.eip → p < 64 → q ≤ 40 → Steps s p q g h
  by_flow p q g h map word items matches st lt_p le_q =
      let shown = full map s.area h.core g in
      let alike = full_alike s map g h.core matches in
      let before : IsBefore map s.area s.guest s.host shown h.core = record {
        page = t.page;
        segments = t.segments;
        writes_held = t.writes_held;
        represents = full_represents s map g h.core matches;
        in_range = full_in_range s map g h.core matches;
        is_core = matches.is_core;
      } in
      by_exit s t map matches.is_map st.labels st.edges st.leaps st.edges_stand st.leaps_stand p q (length items) g h (guest_executes s.guest word g) (guest_executes s.guest word shown) (flow s.host s.area items None h.choices h.core) lt_p le_q st.tile.few matches.unwritten (st.tile.fetched g refl) (subst (LeadsToGuests s) (st.tile.fetched g refl) (t.guests g matches.is_guest)) (t.live word g shown st.tile.fetched matches.is_guest (full_guest s map g h.core matches) alike)
      (st.tile.fits shown h.core h.choices refl before) (flows_are_walked s.host s.area s.host_step st.labels st.edges st.leaps items None h.eip h st.stand refl)
