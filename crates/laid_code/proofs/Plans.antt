-- Where the bytes of a plan's items stand, its block stands.
use Rattle.std.proofs.Common.{◌≡◌, ℕ, suc, ◌+◌, Bool, cond, List, [], ◌∷◌, ◌++◌, drop, Option, Contains, refl, ap, ◌∙◌, arith, Some, sym}
use Rattle.machines.specs.Prelude.{Map, condition_number, Op, Condition, Goes, Code, Fetched}
use Rattle.symbolic_tiles.specs.declared.flow_op.FlowOp.{FlowOp}
use Rattle.symbolic_tiles.specs.declared.flow_op.FlowOp.TheVariants.{Plain, Jump, Mark, Edge, Leap}
use Rattle.symbolic_tiles.specs.Prelude.{OpsAt}
use Rattle.code_layout.specs.Prelude.{Moves, plain, ops_at, item_length, items_length, before_mark, items_bytes}
use Rattle.simulation.specs.Prelude.{behind_all, SimulationContext, ForksAt, PlanStep, Move, Tile, BranchTile, FlowTile, EdgeAt, BlockAt}
use Rattle.laid_code.specs.Prelude.{HasBytes, RunsCode, ArePlaceable, labels_of, edges_of, leaps_of, places_of, AreSwitches, ArePlaced, plan_items, last_map, AreRight, PlansStand}
use Rattle.laid_code.proofs.Items.{taken, code_is, first_item, other_items, behind_mark_at, op_at_place, jump_at_place, edge_stands, items_stand}

-- where an indirect sequence begins, the items have one
leap_among : (switch : ℕ → Moves) (here : ℕ) (items : List FlowOp) (a : ℕ) → Contains (leaps_of switch here items) a → Contains items Leap
leap_among switch here [] a (k, lt, is) = absurd (omega (arith, lt))
leap_among switch here (Leap ∷ items) a c = (0, omega arith, refl)
leap_among switch here (Plain op ∷ items) a c = let r = leap_among switch (here + item_length switch (Plain op)) items a c in (suc r.0, omega (arith, r.1), r.2)
leap_among switch here (Jump number mark ∷ items) a c = let r = leap_among switch (here + item_length switch (Jump number mark)) items a c in (suc r.0, omega (arith, r.1), r.2)
leap_among switch here (Mark mark ∷ items) a c = let r = leap_among switch here items a c in (suc r.0, omega (arith, r.1), r.2)
leap_among switch here (Edge target ∷ items) a c = let r = leap_among switch (here + item_length switch (Edge target)) items a c in (suc r.0, omega (arith, r.1), r.2)

module _ (s : SimulationContext) (switch : ℕ → Moves) (code : Code) (reading : List ℕ → Option Fetched) (runs : RunsCode s code reading) (placed : ArePlaced s) where
  -- ops before other items
  pub plain_stand : (ops : List Op) (rest : List FlowOp) (here : ℕ) → ArePlaceable ops → HasBytes code here (items_bytes (places_of s switch) here (plain ops ++ rest)) →
      (end : ℕ) × OpsAt s.host s.host_step here (ops_at s.area ops) end × HasBytes code end (items_bytes (places_of s switch) end rest) × (here + items_length switch (plain ops ++ rest) ≡ end + items_length switch rest)
  unfolding items_length
  plain_stand [] rest here ok h = (here, refl, h, refl)
  plain_stand (op ∷ ops) rest here ok h =
      let on = plain_stand ops rest (here + item_length switch (Plain op)) ok.1 (other_items s code reading switch runs here (Plain op) (plain ops ++ rest) h) in
      (on.0, (here + item_length switch (Plain op), op_at_place s code reading switch runs here op (plain ops ++ rest) placed.area ok.0 h, on.1), on.2, omega (arith, on.3))

  edge_first : (map : Map) (next here : ℕ) (rest : List FlowOp) → AreSwitches s map switch → HasBytes code here (items_bytes (places_of s switch) here (Edge next ∷ rest)) → EdgeAt s map next here
  edge_first map next here rest switches h = edge_stands s map code reading switch runs placed.area placed.targets switches next here (first_item s code reading switch runs here (Edge next) rest h)

  -- a jump on the condition over one edge to another
  fork_stands : (map : Map) (condition : Condition) (next target here : ℕ) → AreSwitches s map switch → HasBytes code here (items_bytes (places_of s switch) here (Jump (condition_number condition) 0 ∷ Edge next ∷ Mark 0 ∷ Edge target ∷ [])) →
      (holds : ℕ) × (fails : ℕ) × ForksAt s condition here holds fails × EdgeAt s map target holds × EdgeAt s map next fails
  unfolding before_mark
  fork_stands map condition next target here switches h =
      let jump : FlowOp = Jump (condition_number condition) 0 in
      let fails : ℕ = here + item_length switch jump in
      let holds : ℕ = fails + item_length switch (Edge next) in
      let behind = other_items s code reading switch runs here jump (Edge next ∷ Mark 0 ∷ Edge target ∷ []) h in
      let last = behind_mark_at s code reading switch runs holds 0 (Edge target ∷ []) (other_items s code reading switch runs fails (Edge next) (Mark 0 ∷ Edge target ∷ []) behind) in (
        holds,
        fails,
        (λ host at.
            jump_at_place s code reading switch runs here (condition_number condition) 0 holds (Edge next ∷ Mark 0 ∷ Edge target ∷ []) (Some condition, sym (code_is condition)) (omega arith) h host at
            ∙ ap (λ (b : Bool). Goes (record { core = host.core; eip = cond b holds fails; choices = drop 1 host.choices })) (taken condition host.core.flags)),
        edge_first map target holds [] switches last,
        edge_first map next fails (Mark 0 ∷ Edge target ∷ []) switches behind,
      )

  pub steps_stand : (map : Map) (w here : ℕ) (steps : List PlanStep) → AreSwitches s (last_map map steps) switch → AreRight s map w steps → HasBytes code here (items_bytes (places_of s switch) here (plan_items w steps)) → BlockAt s map w here steps
  steps_stand map w here [] switches right h = edge_first map w here [] switches h
  steps_stand map w here (Move to ops ∷ steps) switches right h =
      let p = plain_stand ops (plan_items w steps) here right.1 h in
      (p.0, right.0, p.1, steps_stand to w p.0 steps switches right.2 p.2)
  steps_stand map w here (Tile words window ops ∷ steps) switches right h =
      let p = plain_stand ops (plan_items (behind_all w words) steps) here right.1 h in
      (p.0, (right.0, p.1), right.2, right.3, steps_stand map (behind_all w words) p.0 steps switches right.4 p.2)
  steps_stand map w here (BranchTile words window ops condition target ∷ steps) switches right h =
      let p = plain_stand ops (Jump (condition_number condition) 0 ∷ Edge (behind_all w words) ∷ Mark 0 ∷ Edge target ∷ []) here right.1 h in
      let f = fork_stands map condition (behind_all w words) target p.0 switches p.2 in
      (p.0, f.0, f.1, (right.0, p.1), right.2, right.3, right.4, right.5, f.2, f.3, f.4)
  steps_stand map w here (FlowTile word items ∷ steps) switches right h =
      let stand = items_stand s map switch code reading here items runs placed switches right.1 right.2 h in
      record {
        tile = right.0;
        labels = labels_of switch here items;
        edges = edges_of switch here items;
        leaps = leaps_of switch here items;
        stand = stand.0;
        edges_stand = stand.1;
        leaps_stand = λ at c. (right.3 (leap_among switch here items at c), stand.2 at c);
      }

pub plans_stand : PlansStand
plans_stand s switch code reading map w here steps runs placed switches right h = steps_stand s switch code reading runs placed map w here steps switches right h
