-- The block of decoded words by its plan: moves, and one base tile a word.
use Rattle.std.proofs.Common.{◌≡◌, ℕ, zero, suc, ◌+◌, ◌*◌, ◌≤◌, Bool, true, false, cond, List, [], ◌∷◌, ◌++◌, length, Option, Some, None, if◌then◌else◌, refl, sym, ap, subst, arith}
use Rattle.std.proofs.lemmas.Bool.{false≢true}
use Rattle.machines.specs.Prelude.{Map, IsMap, Instr, behind, guest_executes}
use Rattle.reg_map.specs.Prelude.{IsHomePage, is_live, move_code, moved, moved_gpr}
use Rattle.reg_map.proofs.Moving.{moves_move_one}
use Rattle.plan_form.specs.declared.problem.Step.{Step}
use Rattle.plan_form.specs.declared.problem.Step.TheVariants.{Go, Lay}
use Rattle.row_laws.specs.FlowWords.{is_flow}
use Rattle.base_flow.specs.Prelude.{tile as flow_tile, illegal_items}
use Rattle.base_flow.proofs.Tiles.{illegal_tile_does_word}
use Rattle.symbolic_tiles.specs.Prelude.{flows_of, window_of, WritesHeld, Fits, FlowDoesWord, flow, AreMarked}
use Rattle.symbolic_tiles.specs.declared.flow_op.FlowOp.{FlowOp}
use Rattle.simulation.specs.Prelude.{SimulationContext, IsWordAt, PlanStep, Move, Tile, FlowTile, MoveCodesMove, word_count, room, HasFewMoves}
use Rattle.code_layout.specs.Prelude.{IsEnding, IsLegalDecoded, LaysWords, no_registers, ops_in, plain, tile_items, word_ops, block_items, IsLaid}
use Rattle.code_layout.proofs.BlockItems.{move_placeable}
use Rattle.code_layout.proofs.BuiltWords.{is_map}
use Rattle.std.specs.List.{All}
use Rattle.laid_code.specs.Prelude.{plan_items, last_map, AreRight}
use Rattle.laid_code.proofs.Rows.{each_placeable, IsFlowingWord, straight_tile, straight_leads, Kind, straight as straight_kind, flowing, kind_of}

-- the step of a word's tile under a map, before other steps
abbrev tile_steps : ℕ → Map → Option Instr → List PlanStep → List PlanStep
tile_steps at map None rest = FlowTile None (flows_of illegal_items map) ∷ []
tile_steps at map (Some i) rest = if is_flow i then FlowTile (Some i) (flow_tile i at map) ∷ [] else Tile (i ∷ []) (window_of i) (word_ops i map) ∷ rest

-- the steps of a block's plan over its words, the first of which stands at a guest address
unfoldable pub plan_of : (ℕ → ℕ) → ℕ → Map → List (Option Instr) → List Step → List PlanStep
plan_of live at map [] steps = []
plan_of live at map (word ∷ words) [] = []
plan_of live at map (word ∷ words) (Go move ∷ steps) = Move (moved map move) (ops_in (move_code map move (live at))) ∷ plan_of live at (moved map move) (word ∷ words) steps
plan_of live at map (word ∷ words) (Lay tile ∷ steps) = tile_steps at map word (plan_of live (behind at) map words steps)

tile_items_are : (at : ℕ) (map : Map) (word : Option Instr) (items : List FlowOp) (steps : List PlanStep) → items ≡ plan_items (behind at) steps → tile_items at map word items ≡ plan_items at (tile_steps at map word steps)
tile_items_are at map None items steps e = refl
tile_items_are at map (Some i) items steps e = by_flow (is_flow i)
  where
    by_flow : (b : Bool) → cond b (flow_tile i at map) (plain (word_ops i map) ++ items) ≡ plan_items at (cond b (FlowTile (Some i) (flow_tile i at map) ∷ []) (Tile (i ∷ []) (window_of i) (word_ops i map) ∷ steps))
    by_flow true = refl
    by_flow false = ap (λ (rest : List FlowOp). plain (word_ops i map) ++ rest) e

module _ (live : ℕ → ℕ) where
  -- their items are the block's
  pub plan_items_are : (at : ℕ) (map : Map) (words : List (Option Instr)) (steps : List Step) → block_items live at map words steps ≡ plan_items at (plan_of live at map words steps)
  unfolding block_items plan_of
  plan_items_are at map [] steps = refl
  plan_items_are at map (word ∷ words) [] = refl
  plan_items_are at map (word ∷ words) (Go move ∷ steps) = ap (λ (rest : List FlowOp). plain (ops_in (move_code map move (live at))) ++ rest) (plan_items_are at (moved map move) (word ∷ words) steps)
  plan_items_are at map (word ∷ words) (Lay tile ∷ steps) = tile_items_are at map word _ (plan_of live (behind at) map words steps) (plan_items_are (behind at) map words steps)

  -- they end under the last map
  tile_map : (at : ℕ) (map last : Map) (word : Option Instr) (steps : List PlanStep) → (IsEnding word → map ≡ last) → last_map map steps ≡ last → last_map map (tile_steps at map word steps) ≡ last
  tile_map at map last None steps ending e = ending tt
  tile_map at map last (Some i) steps ending e = by_flow (is_flow i) refl
    where
      by_flow : (b : Bool) → is_flow i ≡ b → last_map map (cond b (FlowTile (Some i) (flow_tile i at map) ∷ []) (Tile (i ∷ []) (window_of i) (word_ops i map) ∷ steps)) ≡ last
      by_flow true f = ending f
      by_flow false f = e

  pub plan_map : (moves at : ℕ) (map last : Map) (words : List (Option Instr)) (steps : List Step) → LaysWords moves map words steps last → last_map map (plan_of live at map words steps) ≡ last
  unfolding plan_of
  plan_map moves at map last [] [] lays = lays
  plan_map moves at map last [] (step ∷ steps) lays = absurd lays
  plan_map moves at map last (word ∷ words) [] lays = absurd lays
  plan_map moves at map last (word ∷ words) (Go move ∷ steps) lays = plan_map lays.0 at (moved map move) last (word ∷ words) steps lays.3
  plan_map moves at map last (word ∷ words) (Lay tile ∷ steps) lays = tile_map at map last word (plan_of live (behind at) map words steps) lays.1 (plan_map 6 (behind at) map last words steps lays.2)

  -- they stand for no more words
  tile_words : (at : ℕ) (map : Map) (word : Option Instr) (steps : List PlanStep) → word_count (tile_steps at map word steps) ≤ 1 + word_count steps
  tile_words at map None steps = omega arith
  tile_words at map (Some i) steps = by_flow (is_flow i)
    where
      by_flow : (b : Bool) → word_count (cond b (FlowTile (Some i) (flow_tile i at map) ∷ []) (Tile (i ∷ []) (window_of i) (word_ops i map) ∷ steps)) ≤ 1 + word_count steps
      by_flow true = omega arith
      by_flow false = omega arith

  pub plan_count : (at : ℕ) (map : Map) (words : List (Option Instr)) (steps : List Step) → word_count (plan_of live at map words steps) ≤ length words
  unfolding plan_of
  plan_count at map [] steps = omega arith
  plan_count at map (word ∷ words) [] = omega arith
  plan_count at map (word ∷ words) (Go move ∷ steps) = plan_count at (moved map move) (word ∷ words) steps
  plan_count at map (word ∷ words) (Lay tile ∷ steps) = omega (arith, tile_words at map word (plan_of live (behind at) map words steps), plan_count (behind at) map words steps)

  -- before a tile stand as many moves as may
  tile_room : (at : ℕ) (map : Map) (word : Option Instr) (steps : List PlanStep) → room (tile_steps at map word steps) ≡ 0
  tile_room at map None steps = refl
  tile_room at map (Some i) steps = by_flow (is_flow i)
    where
      by_flow : (b : Bool) → room (cond b (FlowTile (Some i) (flow_tile i at map) ∷ []) (Tile (i ∷ []) (window_of i) (word_ops i map) ∷ steps)) ≡ 0
      by_flow true = refl
      by_flow false = refl

  pub first_room : (moves at : ℕ) (map last : Map) (word : Option Instr) (words : List (Option Instr)) (steps : List Step) → LaysWords moves map (word ∷ words) steps last → room (plan_of live at map (word ∷ words) steps) ≤ 2 * moves
  unfolding plan_of
  first_room moves at map last word words [] lays = absurd lays
  first_room moves at map last word words (Go move ∷ steps) lays = omega (arith, lays.1, first_room lays.0 at (moved map move) last word words steps lays.3)
  first_room moves at map last word words (Lay tile ∷ steps) lays = omega (arith, tile_room at map word (plan_of live (behind at) map words steps))

  any_room : (moves at : ℕ) (map last : Map) (words : List (Option Instr)) (steps : List Step) → moves ≤ 6 → LaysWords moves map words steps last → room (plan_of live at map words steps) ≤ 40
  unfolding plan_of
  any_room moves at map last [] steps le lays = omega arith
  any_room moves at map last (word ∷ words) steps le lays = omega (arith, le, first_room moves at map last word words steps lays)

  tile_few : (at : ℕ) (map : Map) (word : Option Instr) (steps : List PlanStep) → room steps ≤ 40 → HasFewMoves steps → HasFewMoves (tile_steps at map word steps)
  tile_few at map None steps room_left few = (omega arith, tt)
  tile_few at map (Some i) steps room_left few = by_flow (is_flow i)
    where
      by_flow : (b : Bool) → HasFewMoves (cond b (FlowTile (Some i) (flow_tile i at map) ∷ []) (Tile (i ∷ []) (window_of i) (word_ops i map) ∷ steps))
      by_flow true = (omega arith, tt)
      by_flow false = (room_left, few)

  pub plan_few : (moves at : ℕ) (map last : Map) (words : List (Option Instr)) (steps : List Step) → moves ≤ 6 → LaysWords moves map words steps last → HasFewMoves (plan_of live at map words steps)
  unfolding plan_of
  plan_few moves at map last [] [] le lays = tt
  plan_few moves at map last [] (step ∷ steps) le lays = absurd lays
  plan_few moves at map last (word ∷ words) [] le lays = absurd lays
  plan_few moves at map last (word ∷ words) (Go move ∷ steps) le lays =
      let few = first_room lays.0 at (moved map move) last word words steps lays.3 in
      (omega (arith, few, lays.1, le), plan_few lays.0 at (moved map move) last (word ∷ words) steps (omega (arith, lays.1, le)) lays.3)
  plan_few moves at map last (word ∷ words) (Lay tile ∷ steps) le lays =
      tile_few at map word (plan_of live (behind at) map words steps) (any_room 6 (behind at) map last words steps (omega arith) lays.2) (plan_few 6 (behind at) map last words steps (omega arith) lays.2)

module _ (s : SimulationContext) (writes_held : WritesHeld s.guest) where
  -- from a guest address on stand these words, as far as they are fetched
  abbrev pub AreFetched : ℕ → List (Option Instr) → Type 0
  AreFetched at [] = Unit {0}
  AreFetched at (word ∷ words) = IsWordAt s at word × IsLegalDecoded word × AreFetched (behind at) words

  -- the tile of a flow word or of an illegal one
  flow_right : (at : ℕ) (word : Option Instr) (tile : ℕ → List FlowOp) → IsWordAt s at word → length (tile at) ≤ 100 → AreMarked (tile at) → FlowDoesWord word no_registers tile → All IsLaid (tile at) →
      AreRight s no_registers at (FlowTile word (tile at) ∷ [])
  flow_right at word tile fetched few marked does laid = (
    record {
      few = few;
      fetched = fetched;
      fits = λ g core choices here before. subst (λ (w : ℕ). Fits no_registers s.area s.guest core (guest_executes s.guest word g) (flow s.host s.area (tile w) None choices core)) here (does s.area s.guest s.host g core choices before);
    },
    laid,
    marked,
    (λ leaps. refl),
  )

  module _ (live : ℕ → ℕ) (lives : (w x : ℕ) → s.live w x ≡ is_live (live w) x) (page : IsHomePage s.area s.guest s.host) (codes_move : MoveCodesMove) where
    one_laid : (item : FlowOp) → IsLaid item → All IsLaid (item ∷ [])
    one_laid item h zero d lt = h
    one_laid item h (suc k) d lt = absurd (omega arith)

    under_none : (at : ℕ) (map : Map) (i : Instr) (word : IsFlowingWord i) → map ≡ no_registers → IsWordAt s at (Some i) → AreRight s map at (FlowTile (Some i) (flow_tile i at map) ∷ [])
    under_none at map i word empty fetched = subst (λ (m : Map). AreRight s m at (FlowTile (Some i) (flow_tile i at m) ∷ [])) (sym empty) (flow_right at (Some i) (λ w. flow_tile i w no_registers) fetched (word.few at) (word.marked at) word.does (word.laid at))

    by_kind : (at : ℕ) (map : Map) (i : Instr) (steps : List PlanStep) → Kind i → IsMap map → (is_flow i ≡ true → map ≡ no_registers) → IsWordAt s at (Some i) → AreRight s map (behind at) steps → AreRight s map at (tile_steps at map (Some i) steps)
    by_kind at map i steps (flowing word) is_map_of ending fetched right =
        subst (λ (b : Bool). AreRight s map at (cond b (FlowTile (Some i) (flow_tile i at map) ∷ []) (Tile (i ∷ []) (window_of i) (word_ops i map) ∷ steps))) (sym word.flow) (under_none at map i word (ending word.flow) fetched)
    by_kind at map i steps (straight_kind word) is_map_of ending fetched right =
        subst (λ (b : Bool). AreRight s map at (cond b (FlowTile (Some i) (flow_tile i at map) ∷ []) (Tile (i ∷ []) (window_of i) (word_ops i map) ∷ steps))) (sym word.straight) (
          straight_tile s writes_held i word map is_map_of at fetched,
          word.placeable map is_map_of,
          (λ x e. absurd (false≢true e)),
          straight_leads s writes_held i word at,
          right,
        )

    -- each step does its word, or moves a GPR
    pub plan_right : (moves at : ℕ) (map : Map) (words : List (Option Instr)) (steps : List Step) → IsMap map → LaysWords moves map words steps no_registers → AreFetched at words → AreRight s map at (plan_of live at map words steps)
    unfolding plan_of
    plan_right moves at map [] steps is_map_of lays fetched = tt
    plan_right moves at map (word ∷ words) [] is_map_of lays fetched = absurd lays
    plan_right moves at map (word ∷ words) (Go move ∷ steps) is_map_of lays fetched = (
      codes_move s page map move at (live at) is_map_of lays.2 (sym (lives at (moved_gpr map move))),
      each_placeable (ops_in (move_code map move (live at))) (move_placeable map move (live at) is_map_of lays.2),
      plan_right lays.0 at (moved map move) (word ∷ words) steps (moves_move_one map move is_map_of lays.2).is_map lays.3 fetched,
    )
    plan_right moves at map (None ∷ words) (Lay tile ∷ steps) is_map_of lays fetched =
        subst (λ (m : Map). AreRight s m at (FlowTile None (flows_of illegal_items m) ∷ [])) (sym (lays.1 tt)) (flow_right at None (λ w. flows_of illegal_items no_registers) fetched.0 (omega arith) tt (illegal_tile_does_word no_registers is_map) (one_laid _ (λ area low. tt)))
    plan_right moves at map (Some i ∷ words) (Lay tile ∷ steps) is_map_of lays fetched =
        by_kind at map i (plan_of live (behind at) map words steps) (kind_of i fetched.1) is_map_of lays.1 fetched.0 (plan_right 6 (behind at) map words steps is_map_of lays.2 fetched.2)
