-- Tiles, and tiles with a branch.
use Rattle.std.proofs.Common.{◌≡◌, ℕ, ◌+◌, ◌≤◌, Bool, true, false, cond, List, ◌∷◌, length, Some, refl, sym, ap, ◌∙◌, subst, arith}
use Rattle.std.proofs.lemmas.List.{length-map}
use Rattle.machines.specs.Prelude.{Map, Instr, Op, Condition, condition_holds, Outcome, Goes, Asks, Ends, Anywhere, Walks, stays, walks, onward, lost, Guest, Choice, Core, Host}
use Rattle.runs.proofs.Walking.{join_walks}
use Rattle.symbolic_tiles.specs.Prelude.{perform, Window, TilePrecondition, TilePostcondition}
use Rattle.symbolic_tiles.proofs.Walked.{ops_are_walked}
use Rattle.simulation.specs.Prelude.{rows_of, behind_all, SimulationContext, LeadsToGuests, MatchesState, PlanStep, Tile, BranchTile, word_count, room, HasFewMoves, EdgeAt, SwitchAt, TileAt, IsUnneeded, BlockAt, at_block, on_edge, IsTranslation}
use Rattle.code_layout.specs.Prelude.{op_at, ops_at}
use Rattle.simulation.proofs.Windows.{Passes, is_next, words_pass, words_guests, other_goes}
use Rattle.simulation.proofs.Full.{goes_to, full, full_alike, full_represents, full_in_range, full_guest, walk_keeps}
use Rattle.simulation.proofs.Switches.{Steps, jumped}

not_dead : (dead live : Bool) → (dead ≡ true → live ≡ false) → live ≡ true → dead ≡ false
not_dead false live unneeded alive = refl
not_dead true live unneeded alive = let e = unneeded refl in let f : true ≡ false = sym alive ∙ e in absurd cc

module _ (s : SimulationContext) where
  -- behind the ops of a tile whose words go on
  pub record Passed (map : Map) (words : List Instr) (window : Window) (ops : List Op) (g g' : Guest) (h : Host) (b : ℕ) : Type 0 where
    pub shown : Guest
    pub shown_after : Guest
    pub core : Core
    pub left : List Choice
    pub here : shown.next ≡ g.next
    pub shown_goes : rows_of s.guest words shown ≡ Goes shown_after
    pub next : shown_after.next ≡ g'.next
    pub host_walks : Walks Anywhere s.host_step (length ops) h (record { core = core; eip = b; choices = left })
    pub condition : (c : Condition) → window.condition ≡ Some c → condition_holds c core.flags ≡ window.taken shown
    pub matches : MatchesState s map g' core

module _ (s : SimulationContext) (t : IsTranslation s) where
  pub passes : (map : Map) (words : List Instr) (window : Window) (ops : List Op) (g g' : Guest) (h : Host) (b : ℕ) → MatchesState s map g h.core → TileAt s map g.next words window ops h.eip b → rows_of s.guest words g ≡ Goes g' → IsUnneeded s window g'.next → Passed s map words window ops g g' h b
  passes map words window ops g g' h b matches tile goes unneeded =
      let shown = full map s.area h.core g in
      let other = other_goes s t.guests t.live words g.next g shown g' tile.0.fetched (is_next s words g) matches.is_guest (full_guest s map g h.core matches) (full_alike s map g h.core matches) goes in
      let outcome : window.outcome s.guest shown ≡ Goes other.0 = tile.0.rows shown ∙ other.1 in
      let ready : TilePrecondition window map s.area s.guest s.host shown h.core = record {
        page = t.page;
        writes_held = t.writes_held;
        loads = λ a c. t.segments.held a (tile.0.inside.loads shown other.0 a outcome c);
        stores = λ a c. let w = tile.0.inside.stores shown other.0 a outcome c in t.segments.writable a w.0 ∙ w.1;
        represents = full_represents s map g h.core matches;
        in_range = full_in_range s map g h.core matches;
        is_core = matches.is_core;
      } in
      let d = goes_to (perform s.host (ops_at s.area ops) h.choices h.core) (TilePostcondition window map s.area s.guest shown other.0 h.core) (tile.0.does s.guest s.host shown other.0 h.core h.choices ready outcome) in
      let w = ops_are_walked s.host s.host_step (ops_at s.area ops) h.eip b h d.0 tile.1 refl d.1 in
      let walked = subst (λ n. Walks Anywhere s.host_step n h (record { core = d.0; eip = b; choices = w.0 })) (length-map ops (op_at s.area)) w.1 in
      record {
        shown = shown;
        shown_after = other.0;
        core = d.0;
        left = w.0;
        here = refl;
        shown_goes = other.1;
        next = other.2.next;
        host_walks = walked;
        condition = d.2.condition;
        matches = record {
          is_guest = subst (LeadsToGuests s) goes (words_guests s t.guests words g.next g tile.0.fetched (is_next s words g) matches.is_guest);
          is_map = matches.is_map;
          represents = record {
            locs = λ x lx alive. d.2.represents.locs x lx (not_dead (window.dead x) (s.live g'.next x) (unneeded x) alive) ∙ other.2.locs x alive;
            bytes = λ a held. d.2.represents.bytes a held ∙ ap (λ f. f a) other.2.bytes;
          };
          in_range = d.2.in_range;
          is_core = d.2.is_core;
          unwritten = walk_keeps s t.keeps (length ops) h (record { core = d.0; eip = b; choices = w.0 }) walked matches.unwritten;
        };
      }

  pub by_tile : (p q : ℕ) (g : Guest) (h : Host) (map : Map) (words : List Instr) (window : Window) (ops : List Op) (steps : List PlanStep) → MatchesState s map g h.core → BlockAt s map g.next h.eip (Tile words window ops ∷ steps) → p + (length words + word_count steps) ≤ 64 → HasFewMoves steps → room steps ≤ 40 → q ≤ 40 → Steps s p q g h
  by_tile p q g h map words window ops steps matches st in_block few few_first le_q = by_rows (rows_of s.guest words g) refl (words_pass s words g.next g st.1.0.fetched (is_next s words g))
    where
      by_rows : (o : Outcome Guest) → rows_of s.guest words g ≡ o → Passes s (length words) g o → Steps s p q g h
      by_rows (Goes g') goes w =
          let next = st.3 g g' refl goes in
          let d = passes map words window ops g g' h st.0 matches st.1 goes (subst (IsUnneeded s window) (sym next) st.2) in
          onward (record {
            k = length words;
            j = length ops;
            p' = p + length words;
            q' = 0;
            g' = g';
            h' = record { core = d.core; eip = st.0; choices = d.left };
            guest_walks = w;
            host_walks = d.host_walks;
            meets = at_block map steps d.matches (subst (λ k. BlockAt s map k st.0 steps) (sym next) st.4) (omega arith) few (omega arith);
            in_block = omega arith;
            slow = omega arith;
            fast = omega (arith, st.1.0.some, st.1.0.few);
          })
      by_rows (Asks call next) goes w = absurd w
      by_rows (Ends how) goes w = lost (record { k = w.0; g' = w.1; guest_walks = w.3; goes_outside = w.4; in_block = omega (arith, w.2) })

  pub by_branch_tile : (p q : ℕ) (g : Guest) (h : Host) (map : Map) (words : List Instr) (window : Window) (ops : List Op) (condition : Condition) (target : ℕ) (steps : List PlanStep) → MatchesState s map g h.core → BlockAt s map g.next h.eip (BranchTile words window ops condition target ∷ steps) → p + (length words + word_count steps) ≤ 64 → q ≤ 40 → Steps s p q g h
  by_branch_tile p q g h map words window ops condition target steps matches st in_block le_q = by_rows (rows_of s.guest words g) refl (words_pass s words g.next g st.3.0.fetched (is_next s words g))
    where
      after_all : ℕ
      after_all = behind_all g.next words

      on : (g' : Guest) (h1 : Host) (to at : ℕ) → g'.next ≡ to → Walks Anywhere s.guest_step (length words) g g' → Walks Anywhere s.host_step (length ops) h h1 → s.host_step h1 ≡ Goes (jumped s at h1) → MatchesState s map g' h1.core → EdgeAt s map to at → Steps s p q g h
      on g' h1 to at next w hw jump matches' edge = onward (record {
        k = length words;
        j = length ops + 1;
        p' = p + length words;
        q' = 0;
        g' = g';
        h' = jumped s at h1;
        guest_walks = w;
        host_walks = join_walks Anywhere s.host_step (length ops) 1 h h1 (jumped s at h1) hw (walks tt jump stays);
        meets = on_edge map edge.0 matches' (subst (λ k. SwitchAt s k edge.0 map at) (sym next) edge.2) (omega arith) (omega (arith, edge.1));
        in_block = omega arith;
        slow = omega arith;
        fast = omega (arith, st.3.0.some, st.3.0.few);
      })

      either : (b : Bool) → IsUnneeded s window (cond b target after_all)
      either true = st.5
      either false = st.6

      by_taken : (g' : Guest) (h1 : Host) (b : Bool) → g'.next ≡ cond b target after_all → Walks Anywhere s.guest_step (length words) g g' → Walks Anywhere s.host_step (length ops) h h1 → s.host_step h1 ≡ Goes (jumped s (cond b st.1 st.2) h1) → MatchesState s map g' h1.core → Steps s p q g h
      by_taken g' h1 true next w hw jump matches' = on g' h1 target st.1 next w hw jump matches' st.9
      by_taken g' h1 false next w hw jump matches' = on g' h1 after_all st.2 next w hw jump matches' st.10

      by_rows : (o : Outcome Guest) → rows_of s.guest words g ≡ o → Passes s (length words) g o → Steps s p q g h
      by_rows (Goes g') goes w =
          let d = passes map words window ops g g' h st.0 matches st.3 goes (subst (IsUnneeded s window) (sym (st.7 g g' refl goes)) (either (window.taken g))) in
          let h1 : Host = record { core = d.core; eip = st.0; choices = d.left } in
          let next : g'.next ≡ cond (window.taken d.shown) target after_all = sym d.next ∙ st.7 d.shown d.shown_after d.here d.shown_goes in
          by_taken g' h1 (window.taken d.shown) next w d.host_walks (st.8 h1 refl ∙ ap (λ b. Goes (jumped s (cond b st.1 st.2) h1)) (d.condition condition st.4)) d.matches
      by_rows (Asks call next) goes w = absurd w
      by_rows (Ends how) goes w = lost (record { k = w.0; g' = w.1; guest_walks = w.3; goes_outside = w.4; in_block = omega (arith, w.2) })
