-- Moves, edges and `hold`.
use Rattle.std.proofs.Common.{◌≡◌, ℕ, zero, suc, ◌+◌, ◌*◌, ◌≤◌, ◌⊎◌, inl, inr, List, [], ◌∷◌, length, drop, refl, sym, ap, ◌∙◌, subst, arith}
use Rattle.std.proofs.lemmas.List.{length-map}
use Rattle.machines.specs.Prelude.{Map, Op, Anywhere, reported, run, Walks, stays, walks, Advance, onward, lost, Guest, Choice, Core, Host}
use Rattle.symbolic_tiles.specs.Prelude.{perform, OpsAt}
use Rattle.symbolic_tiles.proofs.Walked.{ops_are_walked}
use Rattle.code_layout.specs.Prelude.{op_at, ops_at}
use Rattle.simulation.specs.Prelude.{SimulationContext, IsOffCode, JumpsTo, MatchesState, PlanStep, Move, word_count, room, HasFewMoves, IsMove, SwitchAt, BlockAt, Begins, Simulates, at_block, on_edge, off_code, IsTranslation, HoldHolds}
use Rattle.simulation.proofs.Full.{goes_to}

module _ (s : SimulationContext) where
  -- what the simulation is asked for from states that meet
  abbrev pub Steps : ℕ → ℕ → Guest → Host → Type 0
  Steps p q g h = Advance s.guest_step s.host_step Anywhere (Simulates s) p q g h

  -- where a jump leads
  abbrev pub jumped : ℕ → Host → Host
  jumped to h = record { core = h.core; eip = to; choices = drop 1 h.choices }

  -- behind a move
  pub record Moved (to : Map) (ops : List Op) (g : Guest) (h : Host) (b : ℕ) : Type 0 where
    pub core : Core
    pub left : List Choice
    pub host_walks : Walks Anywhere s.host_step (length ops) h (record { core = core; eip = b; choices = left })
    pub matches : MatchesState s to g core

  pub moves : (map to : Map) (ops : List Op) (g : Guest) (h : Host) (b : ℕ) → MatchesState s map g h.core → IsMove s g.next map to ops → OpsAt s.host s.host_step h.eip (ops_at s.area ops) b → Moved to ops g h b
  moves map to ops g h b matches move stand =
      let d = goes_to (perform s.host (ops_at s.area ops) h.choices h.core) (MatchesState s to g) (move.moves g h.core h.choices refl matches) in
      let w = ops_are_walked s.host s.host_step (ops_at s.area ops) h.eip b h d.0 stand refl d.1 in
      record { core = d.0; left = w.0; host_walks = subst (λ n. Walks Anywhere s.host_step n h (record { core = d.0; eip = b; choices = w.0 })) (length-map ops (op_at s.area)) w.1; matches = d.2 }

  -- from `hold` the host goes on for ever and lists nothing
  pub at_hold : JumpsTo s s.hold s.hold → HoldHolds s
  at_hold holds zero answers h here = refl
  at_hold holds (suc m) answers h here = ap (reported (run s.host_step m) answers) (holds h here) ∙ at_hold holds m answers (jumped s.hold h) refl

  pub by_gone : (p q : ℕ) (g : Guest) (h : Host) → IsOffCode s g.next → p ≤ 64 → Steps p q g h
  by_gone p q g h off le_p = lost (record { k = 0; g' = g; guest_walks = stays; goes_outside = off g refl; in_block = omega arith })

module _ (s : SimulationContext) (t : IsTranslation s) where
  -- the host stands where an edge to the guest's next word leads: at its block, or at `hold`
  pub enters : (q : ℕ) (g : Guest) (h : Host) (map : Map) → q ≤ 28 → map ≡ s.entry_map g.next → MatchesState s map g h.core → h.eip ≡ s.target g.next → Simulates s 0 q g h
  enters q g h map le_q e matches here = by_block (t.blocks g.next)
    where
      by_block : Begins s g.next ⊎ (IsOffCode s g.next × (s.target g.next ≡ s.hold)) → Simulates s 0 q g h
      by_block (inl b) =
          at_block map b.steps matches (subst (λ a. BlockAt s map g.next a b.steps) (sym here) (subst (λ m. BlockAt s m g.next (s.target g.next) b.steps) (sym e) b.stands)) (omega (arith, b.in_block)) b.few (omega (arith, b.few_first))
      by_block (inr o) = off_code o.0 (here ∙ o.1) (omega arith) le_q

  pub by_switch : (p q : ℕ) (g : Guest) (h : Host) (map : Map) (maps : List Map) → MatchesState s map g h.core → SwitchAt s g.next maps map h.eip → p ≤ 64 → q + 2 * length maps ≤ 26 → Steps s p q g h
  by_switch p q g h map [] matches st le_p le_q =
      onward (record {
        k = 0;
        j = 1;
        p' = 0;
        q' = q + 2;
        g' = g;
        h' = jumped s (s.target g.next) h;
        guest_walks = stays;
        host_walks = walks tt (st.1 h refl) stays;
        meets = enters (q + 2) g (jumped s (s.target g.next) h) map (omega arith) st.0 matches refl;
        in_block = omega arith;
        slow = omega arith;
        fast = omega arith;
      })
  by_switch p q g h map (to ∷ maps) matches st le_p le_q =
      let d = moves s map to st.0 g h st.1 matches st.2 st.3 in
      onward (record {
        k = 0;
        j = length st.0;
        p' = p;
        q' = q + 2;
        g' = g;
        h' = record { core = d.core; eip = st.1; choices = d.left };
        guest_walks = stays;
        host_walks = d.host_walks;
        meets = on_edge to maps d.matches st.4 le_p (omega arith);
        in_block = omega arith;
        slow = omega arith;
        fast = omega (arith, st.2.short);
      })

  pub by_move : (p q : ℕ) (g : Guest) (h : Host) (map to : Map) (ops : List Op) (steps : List PlanStep) → MatchesState s map g h.core → BlockAt s map g.next h.eip (Move to ops ∷ steps) → p + word_count steps ≤ 64 → HasFewMoves steps → q + (2 + room steps) ≤ 40 → Steps s p q g h
  by_move p q g h map to ops steps matches st in_block few le_q =
      let d = moves s map to ops g h st.0 matches st.1 st.2 in
      onward (record {
        k = 0;
        j = length ops;
        p' = p;
        q' = q + 2;
        g' = g;
        h' = record { core = d.core; eip = st.0; choices = d.left };
        guest_walks = stays;
        host_walks = d.host_walks;
        meets = at_block to steps d.matches st.3 in_block few (omega arith);
        in_block = omega arith;
        slow = omega arith;
        fast = omega (arith, st.1.short);
      })
