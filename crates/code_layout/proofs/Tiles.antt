-- The items of a block, made one step of its plan at a time.
use Rattle.std.proofs.Common.{◌≡◌, ◌≤◌, ◌<◌, ◌+◌, ℕ, suc, Bool, true, false, cond, List, [], ◌∷◌, ◌++◌, length, get_or, drop, Option, Some, None, refl, ap, sym, ◌∙◌, subst, append_assoc, drop-cons, inl, inr, arith}
use Rattle.std.proofs.lemmas.Bool.{cases_lt}
use Rattle.std.proofs.lemmas.List.{append-nil, drop_all}
use Rattle.machines.specs.Prelude.{Instr, Map, IsMap, behind as next_address}
use Rattle.row_laws.specs.FlowWords.{is_flow}
use Rattle.base_flow.specs.Prelude.{tile as flow_tile}
use Rattle.symbolic_tiles.specs.declared.flow_op.FlowOp.{FlowOp}
use Rattle.symbolic_tiles.specs.declared.flow_op.FlowOp.TheVariants.{Edge}
use Rattle.reg_map.specs.declared.moves.Move.{Move}
use Rattle.reg_map.specs.Prelude.{IsPossible, move_code, moved}
use Rattle.reg_map.proofs.Moving.{moves_move_one}
use Rattle.plan_form.specs.declared.problem.Step.{Step}
use Rattle.plan_form.specs.declared.problem.Step.TheVariants.{Go, Lay}
use Rattle.plan_form.specs.declared.problem.Tile.{Tile}
use Rattle.code_layout.specs.Prelude.{IsEnding, LaysWords, no_registers, ops_in, plain, tile_items, word_ops, block_items}

-- a tile that doesn't end its block, before other items
tile_before : (at : ℕ) (map : Map) (word : Option Instr) (rest : List FlowOp) → (IsEnding word → ⊥) → tile_items at map word [] ++ rest ≡ tile_items at map word rest
tile_before at map None rest goes_on = absurd (goes_on tt)
tile_before at map (Some i) rest goes_on = by_flow (is_flow i) refl
  where
    by_flow : (b : Bool) → is_flow i ≡ b → cond b (flow_tile i at map) (plain (word_ops i map) ++ []) ++ rest ≡ cond b (flow_tile i at map) (plain (word_ops i map) ++ rest)
    by_flow true e = absurd (goes_on e)
    by_flow false e = ap (λ (x : List FlowOp). x ++ rest) (append-nil (plain (word_ops i map)))

-- a tile that does
tile_last : (at : ℕ) (map : Map) (word : Option Instr) (rest : List FlowOp) → IsEnding word → tile_items at map word [] ≡ tile_items at map word rest
tile_last at map None rest ends = refl
tile_last at map (Some i) rest ends = ap (λ (b : Bool). cond b (flow_tile i at map) (plain (word_ops i map) ++ [])) ends ∙ sym (ap (λ (b : Bool). cond b (flow_tile i at map) (plain (word_ops i map) ++ rest)) ends)

-- What stands already, and the items that are left, are the whole; and the steps that are left lay the words that are left.
pub record IsUnderWay (live : ℕ → ℕ) (words : List (Option Instr)) (steps : List Step) (k place here : ℕ) (map : Map) (old whole : List FlowOp) : Type 0 where
  pub so : old ++ block_items live here map (drop place words) (drop k steps) ≡ whole
  pub moves : ℕ
  pub lays : LaysWords moves map (drop place words) (drop k steps) no_registers
  pub is_map : IsMap map

module _ (live : ℕ → ℕ) (words : List (Option Instr)) (steps : List Step) (k place here : ℕ) (map : Map) (old whole : List FlowOp) (way : IsUnderWay live words steps k place here map old whole) where
  -- the step at hand, and the ones behind it
  steps_cut : (d step : Step) → k < length steps → get_or steps k d ≡ step → drop k steps ≡ step ∷ drop (k + 1) steps
  steps_cut d step lt is =
      let next : suc k ≡ k + 1 = omega arith in
      drop-cons steps k d lt ∙ ap (λ (x : Step). x ∷ drop (suc k) steps) is ∙ ap (λ (j : ℕ). step ∷ drop j steps) next

  module _ (d step : Step) (lt : k < length steps) (is : get_or steps k d ≡ step) where
    lays_step : LaysWords way.moves map (drop place words) (step ∷ drop (k + 1) steps) no_registers
    lays_step = subst (λ (xs : List Step). LaysWords way.moves map (drop place words) xs no_registers) (steps_cut d step lt is) way.lays

    so_step : old ++ block_items live here map (drop place words) (step ∷ drop (k + 1) steps) ≡ whole
    so_step = subst (λ (xs : List Step). old ++ block_items live here map (drop place words) xs ≡ whole) (steps_cut d step lt is) way.so

    -- there is a word for it
    pub some_word : place < length words
    some_word = elim (cases_lt place (length words)) [
      | inl less ↦ less
      | inr le ↦ absurd (subst (λ (ws : List (Option Instr)). LaysWords way.moves map ws (step ∷ drop (k + 1) steps) no_registers) (drop_all place words le) lays_step)
    ]

    abbrev word : Option Instr
    word = get_or words place None

    words_cut : drop place words ≡ word ∷ drop (place + 1) words
    words_cut = let next : suc place ≡ place + 1 = omega arith in drop-cons words place None some_word ∙ ap (λ (j : ℕ). word ∷ drop j words) next

    lays_word : LaysWords way.moves map (word ∷ drop (place + 1) words) (step ∷ drop (k + 1) steps) no_registers
    lays_word = subst (λ (ws : List (Option Instr)). LaysWords way.moves map ws (step ∷ drop (k + 1) steps) no_registers) words_cut lays_step

    so_word : old ++ block_items live here map (word ∷ drop (place + 1) words) (step ∷ drop (k + 1) steps) ≡ whole
    so_word = subst (λ (ws : List (Option Instr)). old ++ block_items live here map ws (step ∷ drop (k + 1) steps) ≡ whole) words_cut so_step

  module _ (d : Step) (move : Move) (lt : k < length steps) (is : get_or steps k d ≡ Go move) where
    abbrev goes : (left : ℕ) × (way.moves ≡ suc left) × IsPossible map move × LaysWords left (moved map move) (word d (Go move) lt is ∷ drop (place + 1) words) (drop (k + 1) steps) no_registers
    goes = lays_word d (Go move) lt is

    pub possible : IsPossible map move
    possible = goes.2

    pub move_more : (to : Map) (bits : ℕ) (new : List FlowOp) → to ≡ moved map move → bits ≡ live here → new ≡ old ++ plain (ops_in (move_code map move bits)) → IsUnderWay live words steps (k + 1) place here to new whole
    unfolding block_items
    move_more to bits new is_to are_bits made =
        let cut = words_cut d (Go move) lt is in
        subst (λ (m : Map). IsUnderWay live words steps (k + 1) place here m new whole) (sym is_to) (record {
          so = so_there new bits are_bits made;
          moves = goes.0;
          lays = subst (λ (ws : List (Option Instr)). LaysWords goes.0 (moved map move) ws (drop (k + 1) steps) no_registers) (sym cut) goes.3;
          is_map = (moves_move_one map move way.is_map goes.2).is_map;
        })
      where
        so_there : (new : List FlowOp) (bits : ℕ) → bits ≡ live here → new ≡ old ++ plain (ops_in (move_code map move bits)) → new ++ block_items live here (moved map move) (drop place words) (drop (k + 1) steps) ≡ whole
        so_there new bits are_bits made =
            let cut = words_cut d (Go move) lt is in
            let rest : List FlowOp = block_items live here (moved map move) (word d (Go move) lt is ∷ drop (place + 1) words) (drop (k + 1) steps) in
            ap (λ (ws : List (Option Instr)). new ++ block_items live here (moved map move) ws (drop (k + 1) steps)) cut
            ∙ ap (λ (x : List FlowOp). x ++ rest) (made ∙ ap (λ (b : ℕ). old ++ plain (ops_in (move_code map move b))) are_bits)
            ∙ append_assoc old (plain (ops_in (move_code map move (live here)))) rest
            ∙ so_word d (Go move) lt is

  module _ (d : Step) (tile : Tile) (lt : k < length steps) (is : get_or steps k d ≡ Lay tile) where
    abbrev here_word : Option Instr
    here_word = word d (Lay tile) lt is

    tile_so : old ++ tile_items here map here_word (block_items live (next_address here) map (drop (place + 1) words) (drop (k + 1) steps)) ≡ whole
    unfolding block_items
    tile_so = so_word d (Lay tile) lt is

    pub ending : IsEnding here_word → map ≡ no_registers
    ending = (lays_word d (Lay tile) lt is).1

    pub ending_last : (new : List FlowOp) → IsEnding here_word → new ≡ old ++ tile_items here map here_word [] → new ≡ whole
    ending_last new ends made = made ∙ ap (λ (x : List FlowOp). old ++ x) (tile_last here map here_word _ ends) ∙ tile_so

    pub tile_more : (next : ℕ) (new : List FlowOp) → (IsEnding here_word → ⊥) → next ≡ next_address here → new ≡ old ++ tile_items here map here_word [] → IsUnderWay live words steps (k + 1) (place + 1) next map new whole
    tile_more next new goes_on is_next made =
        let rest : List FlowOp = block_items live (next_address here) map (drop (place + 1) words) (drop (k + 1) steps) in
        record {
          so = ap (λ (a : ℕ). new ++ block_items live a map (drop (place + 1) words) (drop (k + 1) steps)) is_next
              ∙ ap (λ (x : List FlowOp). x ++ rest) made ∙ append_assoc old (tile_items here map here_word []) rest
              ∙ ap (λ (x : List FlowOp). old ++ x) (tile_before here map here_word rest goes_on) ∙ tile_so;
          moves = 6;
          lays = (lays_word d (Lay tile) lt is).2;
          is_map = way.is_map;
        }

  -- behind the last step no word is left
  pub edge_last : (new : List FlowOp) → length steps ≤ k → new ≡ old ++ Edge here ∷ [] → new ≡ whole
  unfolding block_items
  edge_last new le made = made ∙ by_words (drop place words) (subst (λ (xs : List Step). LaysWords way.moves map (drop place words) xs no_registers) (drop_all k steps le) way.lays) (subst (λ (xs : List Step). old ++ block_items live here map (drop place words) xs ≡ whole) (drop_all k steps le) way.so)
    where
      by_words : (ws : List (Option Instr)) → LaysWords way.moves map ws [] no_registers → old ++ block_items live here map ws [] ≡ whole → old ++ Edge here ∷ [] ≡ whole
      by_words [] lays so = so
      by_words (w ∷ ws) lays so = absurd lays
