-- What holds of a block's items: they are laid out, and few, and have few bytes.
use Rattle.std.proofs.Common.{◌≡◌, ◌≤◌, ◌<◌, ◌+◌, ◌*◌, ℕ, zero, suc, Bool, true, false, cond, List, [], ◌∷◌, ◌++◌, All, length, Option, Some, None, refl, subst, sym, arith, Result, Ok, Err, Vec, Global, IfOk, if◌then◌else◌}
use Rattle.std.proofs.lemmas.Bool.Decides.{nat_tests}
use Rattle.std.proofs.Math.ListN as list
use Rattle.std.proofs.lemmas.List.{length-map}
use Rattle.std.proofs.lemmas.List.Elements.{All-head, All-tail}
use Rattle.ia_codec.specs.Reading.{condition_of_number}
use Rattle.machines.specs.Prelude.{Map, IsMap, IsLegal, Instr, Op, Ud2, Condition, spelling, behind as next_address}
use Rattle.symbolic_tiles.specs.declared.flow_op.FlowOp.{FlowOp}
use Rattle.symbolic_tiles.specs.declared.flow_op.FlowOp.TheVariants.{Plain, Jump, Mark, Edge, Leap}
use Rattle.row_laws.specs.FlowWords.{is_flow}
use Rattle.symbolic_tiles.specs.Prelude.{AreLaid, flow_room, flows_room, spelled_bytes}
use Rattle.code_layout.proofs.StraightTiles.{tiles_are_placeable, tiles_are_short}
use Rattle.base_flow.specs.Prelude.{tile as flow_tile}
use Rattle.base_flow.proofs.Room.{flow_tiles_are_short}
use Rattle.base_flow.proofs.Tiles.{flow_tiles_are_laid, flow_tiles_are_marked}
use Rattle.reg_map.specs.declared.moves.Move.{Move}
use Rattle.reg_map.specs.declared.moves.Move.TheVariants.{Drop, Take}
use Rattle.reg_map.specs.Prelude.{IsPossible, MovesOne, is_live, move_code, move_op, moved, moved_gpr}
use Rattle.reg_map.proofs.Moving.{moves_move_one}
use Rattle.plan_form.specs.declared.problem.Step.{Step}
use Rattle.plan_form.specs.declared.problem.Step.TheVariants.{Go, Lay}
use Rattle.code_layout.specs.Prelude.{IsEnding, IsLegalDecoded, LaysWords, no_registers, no_moves, ops_in, plain, tile_items, word_ops, IsPlaceable, IsLaid, block_items, items_length, item_length, jump_on}
use Rattle.code_layout.proofs.BuiltWords.{is_map, straight_word, has_tile}

length_append : (xs ys : List FlowOp) → items_length no_moves (xs ++ ys) ≡ items_length no_moves xs + items_length no_moves ys
unfolding items_length
length_append [] ys = omega arith
length_append (x ∷ xs) ys = omega (arith, length_append xs ys)

plain_length : (ops : List Op) → items_length no_moves (plain ops) ≡ spelled_bytes ops
unfolding items_length
plain_length [] = omega arith
plain_length (op ∷ ops) = let e = plain_length ops in omega (arith, e)

jump_length : (c : Option Condition) → length (spelling (jump_on c 0)) ≤ 6
jump_length (Some c) = omega arith
jump_length None = omega arith

item_short : (item : FlowOp) → item_length no_moves item ≤ flow_room item
item_short (Plain op) = omega arith
item_short (Jump code mark) = jump_length (condition_of_number code)
item_short (Mark mark) = omega arith
item_short (Edge target) = omega arith
item_short Leap = omega arith

flows_short : (items : List FlowOp) → items_length no_moves items ≤ flows_room items
unfolding items_length
flows_short [] = omega arith
flows_short (item ∷ items) = let a = item_short item in let b = flows_short items in omega (arith, a, b)

-- a move has one op of six bytes, or none
move_length : (map : Map) (move : Move) (bits : ℕ) → items_length no_moves (plain (ops_in (move_code map move bits))) ≤ 6
unfolding items_length
move_length map move bits = by_live move (is_live bits (moved_gpr map move))
  where
    by_live : (go : Move) (alive : Bool) → items_length no_moves (plain (ops_in (if alive then Some (move_op map go) else None))) ≤ 6
    by_live go false = omega arith
    by_live (Drop slot) true = omega arith
    by_live (Take slot g) true = omega arith

move_count : (map : Map) (move : Move) (bits : ℕ) → length (plain (ops_in (move_code map move bits))) ≤ 1
move_count map move bits = by_live (is_live bits (moved_gpr map move))
  where
    by_live : (alive : Bool) → length (plain (ops_in (if alive then Some (move_op map move) else None))) ≤ 1
    by_live false = omega arith
    by_live true = omega arith

-- a tile before other items
straight_length : (i : Instr) (map : Map) (rest : List FlowOp) → IsLegal i → is_flow i ≡ false → items_length no_moves (plain (word_ops i map) ++ rest) ≤ 595 + items_length no_moves rest
straight_length i map rest legal straight =
    omega (arith, (tiles_are_short i map legal (straight_word i straight)).1, plain_length (word_ops i map), length_append (plain (word_ops i map)) rest)

tile_length : (at : ℕ) (map : Map) (word : Option Instr) (rest : List FlowOp) → IsLegalDecoded word → items_length no_moves (tile_items at map word rest) ≤ 595 + items_length no_moves rest
unfolding items_length
tile_length at map None rest legal = omega arith
tile_length at map (Some i) rest legal = by_flow (is_flow i) refl
  where
    by_flow : (b : Bool) → is_flow i ≡ b → items_length no_moves (cond b (flow_tile i at map) (plain (word_ops i map) ++ rest)) ≤ 595 + items_length no_moves rest
    by_flow true e = omega (arith, flows_short (flow_tile i at map), flow_tiles_are_short i map at)
    by_flow false e = straight_length i map rest legal e

straight_count : (i : Instr) (map : Map) (rest : List FlowOp) → IsLegal i → is_flow i ≡ false → length (plain (word_ops i map) ++ rest) ≤ 128 + length rest
straight_count i map rest legal straight =
    omega (arith, (tiles_are_short i map legal (straight_word i straight)).0, list.length-append (plain (word_ops i map)) rest, length-map (word_ops i map) (λ op. Plain op))

tile_count : (at : ℕ) (map : Map) (word : Option Instr) (rest : List FlowOp) → IsLegalDecoded word → length (tile_items at map word rest) ≤ 128 + length rest
tile_count at map None rest legal = omega arith
tile_count at map (Some i) rest legal = by_flow (is_flow i) refl
  where
    by_flow : (b : Bool) → is_flow i ≡ b → length (cond b (flow_tile i at map) (plain (word_ops i map) ++ rest)) ≤ 128 + length rest
    by_flow true e = omega (arith, (flow_tiles_are_marked i map at).1)
    by_flow false e = straight_count i map rest legal e

-- the bytes that words still to be laid may have, with so many moves to begin with, and their items
abbrev bytes_left : ℕ → List (Option Instr) → ℕ
bytes_left moves [] = 5
bytes_left moves (word ∷ words) = 6 * moves + 631 * length words + 600

bytes_on : (moves : ℕ) (word : Option Instr) (words : List (Option Instr)) → 595 + bytes_left 6 words ≤ bytes_left moves (word ∷ words)
bytes_on moves word [] = omega arith
bytes_on moves word (next ∷ words) = omega arith

abbrev items_left : ℕ → List (Option Instr) → ℕ
items_left moves [] = 1
items_left moves (word ∷ words) = moves + 134 * length words + 129

items_on : (moves : ℕ) (word : Option Instr) (words : List (Option Instr)) → 128 + items_left 6 words ≤ items_left moves (word ∷ words)
items_on moves word [] = omega arith
items_on moves word (next ∷ words) = omega arith

module _ (live : ℕ → ℕ) (last : Map) where
  bytes_few : (moves at : ℕ) (map : Map) (words : List (Option Instr)) (steps : List Step) → All IsLegalDecoded words → LaysWords moves map words steps last → items_length no_moves (block_items live at map words steps) ≤ bytes_left moves words
  unfolding block_items items_length
  bytes_few moves at map [] steps legal lays = omega arith
  bytes_few moves at map (word ∷ words) [] legal lays = absurd lays
  bytes_few moves at map (word ∷ words) (Go move ∷ steps) legal lays =
      let rest : List FlowOp = block_items live at (moved map move) (word ∷ words) steps in
      omega (arith, lays.1, move_length map move (live at), length_append (plain (ops_in (move_code map move (live at)))) rest, bytes_few lays.0 at (moved map move) (word ∷ words) steps legal lays.3)
  bytes_few moves at map (word ∷ words) (Lay tile ∷ steps) legal lays =
      let rest : List FlowOp = block_items live (next_address at) map words steps in
      omega (arith, tile_length at map word rest (All-head IsLegalDecoded word words legal), bytes_on moves word words, bytes_few 6 (next_address at) map words steps (All-tail IsLegalDecoded word words legal) lays.2)

  items_few : (moves at : ℕ) (map : Map) (words : List (Option Instr)) (steps : List Step) → All IsLegalDecoded words → LaysWords moves map words steps last → length (block_items live at map words steps) ≤ items_left moves words
  unfolding block_items
  items_few moves at map [] steps legal lays = omega arith
  items_few moves at map (word ∷ words) [] legal lays = absurd lays
  items_few moves at map (word ∷ words) (Go move ∷ steps) legal lays =
      let rest : List FlowOp = block_items live at (moved map move) (word ∷ words) steps in
      omega (arith, lays.1, move_count map move (live at), list.length-append (plain (ops_in (move_code map move (live at)))) rest, items_few lays.0 at (moved map move) (word ∷ words) steps legal lays.3)
  items_few moves at map (word ∷ words) (Lay tile ∷ steps) legal lays =
      let rest : List FlowOp = block_items live (next_address at) map words steps in
      omega (arith, tile_count at map word rest (All-head IsLegalDecoded word words legal), items_on moves word words, items_few 6 (next_address at) map words steps (All-tail IsLegalDecoded word words legal) lays.2)

  pub block_length : (at : ℕ) (map : Map) (words : List (Option Instr)) (steps : List Step) → All IsLegalDecoded words → LaysWords 6 map words steps last → items_length no_moves (block_items live at map words steps) ≤ 631 * length words + 5
  block_length at map words steps legal lays = let few = bytes_few 6 at map words steps legal lays in by_words words few
    where
      by_words : (ws : List (Option Instr)) → items_length no_moves (block_items live at map words steps) ≤ bytes_left 6 ws → items_length no_moves (block_items live at map words steps) ≤ 631 * length ws + 5
      by_words [] few = omega (arith, few)
      by_words (w ∷ ws) few = omega (arith, few)

  pub block_count : (at : ℕ) (map : Map) (words : List (Option Instr)) (steps : List Step) → All IsLegalDecoded words → LaysWords 6 map words steps last → length (block_items live at map words steps) ≤ 134 * length words + 1
  block_count at map words steps legal lays = let few = items_few 6 at map words steps legal lays in by_words words few
    where
      by_words : (ws : List (Option Instr)) → length (block_items live at map words steps) ≤ items_left 6 ws → length (block_items live at map words steps) ≤ 134 * length ws + 1
      by_words [] few = omega (arith, few)
      by_words (w ∷ ws) few = omega (arith, few)

pub flows_laid : (items : List FlowOp) → AreLaid items → All IsLaid items
flows_laid [] h k d lt = absurd (omega arith)
flows_laid (Plain op ∷ items) h zero d lt = h.0
flows_laid (Jump code mark ∷ items) h zero d lt = tt
flows_laid (Mark mark ∷ items) h zero d lt = tt
flows_laid (Edge target ∷ items) h zero d lt = tt
flows_laid (Leap ∷ items) h zero d lt = tt
flows_laid (item ∷ items) h (suc k) d lt = flows_laid items h.1 k d (omega arith)

plain_laid : (ops : List Op) (rest : List FlowOp) → All IsPlaceable ops → All IsLaid rest → All IsLaid (plain ops ++ rest)
plain_laid [] rest h r k d lt = r k d lt
plain_laid (op ∷ ops) rest h r zero d lt = All-head IsPlaceable op ops h
plain_laid (op ∷ ops) rest h r (suc k) d lt = plain_laid ops rest (All-tail IsPlaceable op ops h) r k d (omega arith)

one_laid : (item : FlowOp) → IsLaid item → All IsLaid (item ∷ [])
one_laid item h zero d lt = h
one_laid item h (suc k) d lt = absurd (omega arith)

-- a move's op can be spelled over every home page
pub move_placeable : (map : Map) (move : Move) (bits : ℕ) → IsMap map → IsPossible map move → All IsPlaceable (ops_in (move_code map move bits))
move_placeable map move bits is_map possible = by_live (is_live bits (moved_gpr map move))
  where
    one : MovesOne map move
    one = moves_move_one map move is_map possible

    placed : (go : Move) → moved_gpr map go < 32 → IsPlaceable (move_op map go)
    placed (Drop slot) low area room = grind (arith, nat_tests)
    placed (Take slot g) low area room = grind (arith, nat_tests)

    by_live : (alive : Bool) → All IsPlaceable (ops_in (if alive then Some (move_op map move) else None))
    by_live false k d lt = absurd (omega arith)
    by_live true zero d lt = placed move one.gpr
    by_live true (suc k) d lt = absurd (omega arith)

-- a tile before other items
tile_laid : (at : ℕ) (map : Map) (word : Option Instr) (rest : List FlowOp) → IsLegalDecoded word → IsMap map → (IsEnding word → map ≡ no_registers) → All IsLaid rest → All IsLaid (tile_items at map word rest)
tile_laid at map None rest legal is_map_of ending behind = one_laid (Plain Ud2) (λ area low. tt)
tile_laid at map (Some i) rest legal is_map_of ending behind = by_flow (is_flow i) refl
  where
    by_flow : (b : Bool) → is_flow i ≡ b → All IsLaid (cond b (flow_tile i at map) (plain (word_ops i map) ++ rest))
    by_flow true e = subst (λ (m : Map). All IsLaid (flow_tile i at m)) (sym (ending e)) (flows_laid (flow_tile i at no_registers) (flow_tiles_are_laid i no_registers at legal is_map (has_tile i e)))
    by_flow false e = plain_laid (word_ops i map) rest (tiles_are_placeable i map legal (straight_word i e) is_map_of) behind

pub block_laid : (live : ℕ → ℕ) (moves at : ℕ) (map : Map) (words : List (Option Instr)) (steps : List Step) → All IsLegalDecoded words → IsMap map → LaysWords moves map words steps no_registers → All IsLaid (block_items live at map words steps)
unfolding block_items
block_laid live moves at map [] steps legal is_map_of lays = one_laid (Edge at) tt
block_laid live moves at map (word ∷ words) [] legal is_map_of lays = absurd lays
block_laid live moves at map (word ∷ words) (Go move ∷ steps) legal is_map_of lays =
    plain_laid (ops_in (move_code map move (live at))) _ (move_placeable map move (live at) is_map_of lays.2)
    (block_laid live lays.0 at (moved map move) (word ∷ words) steps legal (moves_move_one map move is_map_of lays.2).is_map lays.3)
block_laid live moves at map (word ∷ words) (Lay tile ∷ steps) legal is_map_of lays =
    tile_laid at map word _ (All-head IsLegalDecoded word words legal) is_map_of lays.1
    (block_laid live 6 (next_address at) map words steps (All-tail IsLegalDecoded word words legal) is_map_of lays.2)

-- what holds of a block's items holds of those that are made
pub made_block : {E : Type 0} (P : List FlowOp → Type 0) (items : List FlowOp) (result : Result (Vec FlowOp Global) E) → P items → IfOk result (λ v. v.items ≡ items) → IfOk result (λ v. P v.items)
made_block P items (Ok v) holds made = subst P (sym made) holds
made_block P items (Err e) holds made = tt
