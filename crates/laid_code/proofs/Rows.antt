-- What tiles need of the instructions that translation is built for.
use Rattle.std.proofs.Common.{◌≡◌, ℕ, ◌≤◌, Bool, true, false, List, [], ◌∷◌, All, length, Some, refl, ap, ◌∙◌, subst, arith}
use Rattle.machines.specs.Prelude.{Map, IsMap, IsLegal, Instr, Outcome, Goes, Asks, Ends, Rights, Guest, behind, guest_acts, effect_of, Op}
use Rattle.row_laws.specs.FlowWords.{is_flow}
use Rattle.base_flow.specs.Prelude.{tile as flow_tile}
use Rattle.symbolic_tiles.specs.Prelude.{window_of, Implements, WritesHeld, FlowDoesWord, IsStraight, AreMarked}
use Rattle.code_layout.proofs.StraightTiles.{tiles_do_rows, tiles_are_placeable, tiles_are_short}
use Rattle.code_layout.proofs.BuiltWords.{is_map, straight_word, has_tile}
use Rattle.code_layout.proofs.BlockItems.{flows_laid}
use Rattle.base_flow.proofs.Tiles.{flow_tiles_are_laid, flow_tiles_do_rows, flow_tiles_are_marked}
use Rattle.symbolic_tiles.proofs.Straight.{rows_are_straight, accesses_are_inside}
use Rattle.simulation.specs.Prelude.{rows_of, IsQuiet, SimulationContext, IsWordAt, IsTile, LeadsTo}
use Rattle.code_layout.specs.Prelude.{no_registers, word_ops, ops_at, IsLaid, IsPlaceable}
use Rattle.laid_code.specs.Prelude.{ArePlaceable}
use Rattle.std.proofs.lemmas.List.Elements.{All-head, All-tail}

pub each_placeable : (ops : List Op) → All IsPlaceable ops → ArePlaceable ops
each_placeable [] h = tt
each_placeable (op ∷ ops) h = (All-head IsPlaceable op ops h, each_placeable ops (All-tail IsPlaceable op ops h))

-- an instruction that is no flow word, with a tile of ops under every map
pub record IsStraightWord (i : Instr) : Type 0 where
  pub straight : is_flow i ≡ false
  pub few : (m : Map) → length (word_ops i m) ≤ 128
  pub placeable : (m : Map) → IsMap m → ArePlaceable (word_ops i m)
  pub does : (m : Map) → IsMap m → (area : ℕ) → Implements (window_of i) m area (ops_at area (word_ops i m))

-- a flow word, with a tile of items under no registers
pub record IsFlowingWord (i : Instr) : Type 0 where
  pub flow : is_flow i ≡ true
  pub few : (at : ℕ) → length (flow_tile i at no_registers) ≤ 100
  pub marked : (at : ℕ) → AreMarked (flow_tile i at no_registers)
  pub laid : (at : ℕ) → All IsLaid (flow_tile i at no_registers)
  pub does : FlowDoesWord (Some i) no_registers (λ at. flow_tile i at no_registers)

-- the row of an instruction as the only one of its window
one_row : (o : Outcome Guest) (rights : Rights) (i : Instr) (g : Guest) → guest_acts rights i (effect_of i g) g ≡ o → o ≡ rows_of rights (i ∷ []) g
one_row (Goes g') rights i g e = rw e refl
one_row (Asks call next) rights i g e = rw e refl
one_row (Ends how) rights i g e = rw e refl

quiet_if_straight : (next : ℕ) (o : Outcome Guest) → IsStraight next o → IsQuiet o
quiet_if_straight next (Goes g) h = tt
quiet_if_straight next (Asks call after) h = h
quiet_if_straight next (Ends e) h = h

module _ (s : SimulationContext) (writes_held : WritesHeld s.guest) (i : Instr) (word : IsStraightWord i) where
  row_is : (g : Guest) → (window_of i).outcome s.guest g ≡ rows_of s.guest (i ∷ []) g
  row_is g = one_row (guest_acts s.guest i (effect_of i g) g) s.guest i g refl

  -- its tile does the word at a guest address
  pub straight_tile : (m : Map) → IsMap m → (w : ℕ) → IsWordAt s w (Some i) → IsTile s m w (i ∷ []) (window_of i) (word_ops i m)
  straight_tile m is_map_of w fetched = record {
    some = omega arith;
    few = word.few m;
    fetched = (fetched, (λ g. quiet_if_straight (behind g.next) (guest_acts s.guest i (effect_of i g) g) (rows_are_straight i s.guest g word.straight)), tt);
    rows = row_is;
    inside = record {
      loads = λ g g' a e c. (accesses_are_inside i s.guest g g' word.straight writes_held e).loads a c;
      stores = λ g g' a e c. (accesses_are_inside i s.guest g g' word.straight writes_held e).stores a c;
    };
    does = word.does m is_map_of s.area;
  }

  -- and leads to the next word
  pub straight_leads : (w : ℕ) → LeadsTo s w (i ∷ []) (λ g. behind w)
  straight_leads w g g' at e = subst (IsStraight (behind g.next)) (row_is g ∙ e) (rows_are_straight i s.guest g word.straight) ∙ ap behind at

-- each instruction is the one or the other
pub data Kind (i : Instr) : Type 0 where
  straight : IsStraightWord i → Kind i
  flowing : IsFlowingWord i → Kind i

pub kind_of : (i : Instr) → IsLegal i → Kind i
kind_of i legal = by_flow (is_flow i) refl
  where
    by_flow : (b : Bool) → is_flow i ≡ b → Kind i
    by_flow false e = straight (record {
      straight = e;
      few = λ m. (tiles_are_short i m legal (straight_word i e)).0;
      placeable = λ m is_map_of. each_placeable (word_ops i m) (tiles_are_placeable i m legal (straight_word i e) is_map_of);
      does = λ m is_map_of area. tiles_do_rows i legal (straight_word i e) m area is_map_of;
    })
    by_flow true e = flowing (record {
      flow = e;
      few = λ at. let m = flow_tiles_are_marked i no_registers at in omega (arith, m.1);
      marked = λ at. (flow_tiles_are_marked i no_registers at).0;
      laid = λ at. flows_laid (flow_tile i at no_registers) (flow_tiles_are_laid i no_registers at legal is_map (has_tile i e));
      does = flow_tiles_do_rows i no_registers legal is_map (has_tile i e);
    })
