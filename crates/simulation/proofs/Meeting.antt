-- The relation is kept by each kind of step, and leads back to a block or to `hold`.
use Rattle.std.proofs.Common.{◌≡◌, ℕ, ◌+◌, ◌≤◌, ◌⊎◌, inl, inr, List, [], ◌∷◌, length, refl, sym, ◌∙◌, subst, arith}
use Rattle.machines.specs.Prelude.{Map, Anywhere, Walks, stays, walks, Guest, Host}
use Rattle.runs.proofs.Walking.{join_walks}
use Rattle.code_layout.specs.Prelude.{no_registers}
use Rattle.simulation.specs.Prelude.{SimulationContext, IsOffCode, MatchesState, PlanStep, Move, Tile, BranchTile, FlowTile, word_count, room, HasFewMoves, SwitchAt, DoorAt, BlockAt, Begins, Simulates, at_block, on_edge, off_code, IsTranslation, Starts, SimulationIsBounded, SimulationAdvances, Settled, in_block, holding, SimulationSettles}
use Rattle.simulation.proofs.Switches.{Steps, jumped, moves, by_gone, enters, by_switch, by_move}
use Rattle.simulation.proofs.Tiles.{by_tile, by_branch_tile}
use Rattle.simulation.proofs.Flows.{by_flow}

pub bounded : (s : SimulationContext) → SimulationIsBounded s
bounded s p q g h (at_block map steps matches st fits few le_q) = (omega arith, omega arith)
bounded s p q g h (on_edge map maps matches st le_p le_q) = (omega arith, omega arith)
bounded s p q g h (off_code off here le_p le_q) = (omega arith, omega arith)

module _ (s : SimulationContext) (t : IsTranslation s) where
  by_steps : (p q : ℕ) (g : Guest) (h : Host) (map : Map) (steps : List PlanStep) → MatchesState s map g h.core → BlockAt s map g.next h.eip steps → p + word_count steps ≤ 64 → HasFewMoves steps → q + room steps ≤ 40 → Steps s p q g h
  by_steps p q g h map [] matches st fits few le_q = by_switch s t p q g h map st.0 matches st.2 (omega arith) (omega (arith, st.1))
  by_steps p q g h map (Move to ops ∷ steps) matches st fits few le_q = by_move s t p q g h map to ops steps matches st fits few.1 le_q
  by_steps p q g h map (Tile words window ops ∷ steps) matches st fits few le_q = by_tile s t p q g h map words window ops steps matches st fits few.1 few.0 (omega arith)
  by_steps p q g h map (BranchTile words window ops condition target ∷ steps) matches st fits few le_q = by_branch_tile s t p q g h map words window ops condition target steps matches st fits (omega arith)
  by_steps p q g h map (FlowTile word items ∷ steps) matches st fits few le_q = by_flow s t p q g h map word items matches st (omega arith) (omega arith)

  pub advances : SimulationAdvances s
  advances p q g h (at_block map steps matches st fits few le_q) = by_steps p q g h map steps matches st fits few le_q
  advances p q g h (on_edge map maps matches st le_p le_q) = by_switch s t p q g h map maps matches st le_p le_q
  advances p q g h (off_code off here le_p le_q) = by_gone s p q g h off le_p

  pub starts : (g : Guest) (h : Host) → Starts s g h → Simulates s 0 0 g h
  starts g h start = by_door (t.doors g.next)
    where
      by_door : DoorAt s g.next → Simulates s 0 0 g h
      by_door (inl at) = enters s t 0 g h no_registers (omega arith) (sym at.1) start.matches (start.here ∙ at.0)
      by_door (inr edge) = on_edge no_registers edge.0 start.matches (subst (λ a. SwitchAt s g.next edge.0 no_registers a) (sym start.here) edge.2) (omega arith) (omega (arith, edge.1))

  abbrev Settles : Guest → Host → Type 0
  Settles g h = (j : ℕ) × (h' : Host) × Walks Anywhere s.host_step j h h' × Settled s g h'

  -- where an edge leads
  at_target : (g : Guest) (h : Host) (map : Map) → map ≡ s.entry_map g.next → MatchesState s map g h.core → h.eip ≡ s.target g.next → Settled s g h
  at_target g h map e matches here = by_block (t.blocks g.next)
    where
      by_block : Begins s g.next ⊎ (IsOffCode s g.next × (s.target g.next ≡ s.hold)) → Settled s g h
      by_block (inl b) = in_block map b.steps matches (subst (λ a. BlockAt s map g.next a b.steps) (sym here) (subst (λ m. BlockAt s m g.next (s.target g.next) b.steps) (sym e) b.stands)) b.in_block
      by_block (inr o) = holding o.0 (here ∙ o.1)

  by_maps : (maps : List Map) (g : Guest) (h : Host) (map : Map) → MatchesState s map g h.core → SwitchAt s g.next maps map h.eip → Settles g h
  by_maps [] g h map matches st = (1, jumped s (s.target g.next) h, walks tt (st.1 h refl) stays, at_target g (jumped s (s.target g.next) h) map st.0 matches refl)
  by_maps (to ∷ maps) g h map matches st =
      let d = moves s map to st.0 g h st.1 matches st.2 st.3 in
      let h1 : Host = record { core = d.core; eip = st.1; choices = d.left } in
      let r = by_maps maps g h1 to d.matches st.4 in
      (length st.0 + r.0, r.1, join_walks Anywhere s.host_step (length st.0) r.0 h h1 r.1 d.host_walks r.2, r.3)

  pub settles : SimulationSettles s
  settles p q g h (at_block map steps matches st fits few le_q) = (0, h, stays, in_block map steps matches st (omega arith))
  settles p q g h (on_edge map maps matches st le_p le_q) = by_maps maps g h map matches st
  settles p q g h (off_code off here le_p le_q) = (0, h, stays, holding off here)
