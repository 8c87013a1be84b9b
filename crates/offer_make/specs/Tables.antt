-- The tables of a problem, in order: by place, then by map, then by step. This project's own.
use Rattle.std.specs.Prelude.{ℕ, ◌+◌, ◌*◌, ◌%◌, ◌^◌, ◌==◌, ◌&&◌, ◌||◌, not, Bool, true, false, List, [], ◌∷◌, ◌++◌, map, filter, slice_index_or, Option, Some, None}
use Rattle.std.specs.List.{flat_map, range_with_len}
use Rattle.machines.specs.Prelude.{Map, Instr}
use Rattle.reg_map.specs.declared.moves.Move.{Move}
use Rattle.reg_map.specs.declared.moves.Move.TheVariants.{Drop, Take}
use Rattle.reg_map.specs.Prelude.{content, slot_of}
use Rattle.plan_form.specs.declared.problem.Tile.TheVariants.{Base}
use Rattle.plan_form.specs.declared.problem.Offer.{Offer}
use Rattle.plan_form.specs.declared.problem.MovePrice.{MovePrice}
use Rattle.offer_make.specs.Prices.{move_price, base_price}

abbrev pub is_empty : Option ℕ → Bool
is_empty None = true
is_empty (Some g) = false

-- A full slot may be dropped. An empty one may take a GPR that no slot holds.
abbrev pub may_move : Map → Move → Bool
may_move m (Drop slot) = not (is_empty (content m slot))
may_move m (Take slot g) = is_empty (content m slot) && is_empty (slot_of m g)

abbrev pub slots : List ℕ
slots = range_with_len 0 3

-- Drop by slot, then Take by slot and candidate
abbrev pub all_moves : List ℕ → List Move
all_moves candidates = map Drop slots ++ flat_map (λ slot. map (Take slot) candidates) slots

-- the moves between the maps, by the map that they lead from
abbrev pub moves_between : List ℕ → List Map → List MovePrice
moves_between candidates maps =
    flat_map (λ m. map (λ step. record { place = 0; map = m; step = step; price = 0 }) (filter (may_move m) (all_moves candidates))) maps

-- a move at a place, where these locations are live
abbrev pub priced_at : (ℕ → ℕ) → ℕ → MovePrice → MovePrice
priced_at live place move = record { place = place; map = move.map; step = move.step; price = move_price (live place) move.map move.step }

-- the moves at the first so many places
abbrev pub moves_of : ℕ → (ℕ → ℕ) → List ℕ → List Map → List MovePrice
moves_of count live candidates maps = flat_map (λ place. map (priced_at live place) (moves_between candidates maps)) (range_with_len 0 count)

abbrev pub is_same_content : Option ℕ → Option ℕ → Bool
is_same_content None None = true
is_same_content None (Some h) = false
is_same_content (Some g) None = false
is_same_content (Some g) (Some h) = g == h

abbrev pub is_same_map : Map → Map → Bool
is_same_map m n = is_same_content m.ebx n.ebx && is_same_content m.esi n.esi && is_same_content m.edi n.edi

-- what leads to the last place stands under the exit map alone
abbrev pub may_lie : ℕ → Map → Offer → Bool
may_lie last exit offer = not (offer.to == last) || is_same_map offer.map exit

-- the offers at all places before the last, where these tiles may be laid at a place under a map
abbrev pub offers_of : ℕ → Map → List Map → (ℕ → Map → List Offer) → List Offer
offers_of last exit maps tiles = flat_map (λ place. flat_map (λ m. filter (may_lie last exit) (tiles place m)) maps) (range_with_len 0 last)

-- the address of the word at a place of a block that begins at an address
abbrev pub word_address : ℕ → ℕ → ℕ
word_address at place = (at + 4 * place) % 2 ^ 32

-- a base tile alone, at its price under a map
abbrev pub base_tile : ℕ → (Map → ℕ) → Map → List Offer
base_tile place price m = record { from = place; to = place + 1; map = m; tile = Base; price = price m } ∷ []

-- the base tile of each word of a block, decoded, alone
abbrev pub base_tiles : ℕ → List (Option Instr) → ℕ → Map → List Offer
base_tiles at decoded place = base_tile place (base_price (slice_index_or decoded place None) (word_address at place))
