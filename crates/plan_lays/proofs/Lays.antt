-- A walk through a block's problem lays the words that are left, step by step.
use Rattle.std.proofs.Common.{◌≡◌, ◌≢◌, ℕ, suc, ◌+◌, ◌<◌, ◌≤◌, ◌⊎◌, inl, inr, Bool, List, [], ◌∷◌, length, drop, filter, slice_index, Option, Some, None, refl, sym, ap, ◌∙◌, subst, drop-cons, arith}
use Rattle.std.specs.List.{Contains, flat_map, range_with_len}
use Rattle.std.proofs.lemmas.Bool.{cases_lt}
use Rattle.std.proofs.lemmas.List.{drop_all}
use Rattle.machines.specs.Prelude.{Map, Instr}
use Rattle.block_find.specs.declared.block.Block.{Block}
use Rattle.block_find.specs.Prelude.{IsFlowWord, legal, illegal}
use Rattle.liveness.specs.Prelude.{Sets}
use Rattle.reg_map.specs.Prelude.{moved}
use Rattle.plan_form.specs.declared.problem.Step.{Step}
use Rattle.plan_form.specs.declared.problem.Step.TheVariants.{Go, Lay}
use Rattle.plan_form.specs.declared.problem.Tile.{Tile}
use Rattle.plan_form.specs.declared.problem.Tile.TheVariants.{Base}
use Rattle.plan_form.specs.declared.problem.Offer.{Offer}
use Rattle.plan_form.specs.declared.problem.Problem.{Problem}
use Rattle.plan_form.specs.Prelude.{Node, IsWalk, IsFullOver, last}
use Rattle.offer_make.specs.Problem.{IsProblemOf}
use Rattle.offer_make.specs.Tables.{may_lie, base_tiles}
use Rattle.offer_make.proofs.Elements.{flat_map-to, filter-to, single}
use Rattle.code_layout.specs.Prelude.{IsDecodedAs, decoded_at, AreDecodedAs, IsEnding, LaysWords, no_registers}
use Rattle.plan_lays.specs.Laws.{ValidPlansLay}

-- an offer of a block's problem is a base tile, of one word
pub record IsOneBase (o : Offer) : Type 0 where
  pub tile : o.tile ≡ Base
  pub onward : o.to ≡ o.from + 1

one_base : (block : Block) (entry exit : Map) (leader : Bool) (live : Sets) (q : Problem) → IsProblemOf block entry exit leader live q → (o : Offer) → Contains q.offers.items o → IsOneBase o
one_base block entry exit leader live q is o c =
    let n : ℕ = length block.words in
    let tiles = base_tiles block.at is.decoded in
    let f = flat_map-to (λ (place : ℕ). flat_map (λ (m : Map). filter (may_lie n exit) (tiles place m)) q.maps.items) (range_with_len 0 n) o (subst (λ (l : List Offer). Contains l o) is.offers c) in
    let g = flat_map-to (λ (m : Map). filter (may_lie n exit) (tiles f.0 m)) q.maps.items o f.2 in
    let h = filter-to (may_lie n exit) (tiles f.0 g.0) o g.2 in
    let same = single _ o h.0 in
    subst IsOneBase same (record { tile = refl; onward = refl })

-- a word that ends a block is a flow word
flow_if : (word : ℕ) (o : Option Instr) → IsDecodedAs word o → IsEnding o → IsFlowWord word
flow_if word None h ends = illegal h
flow_if word (Some i) h ends = legal i h ends

module _ (q : Problem) (candidates : List ℕ) (price : ℕ → ℕ → ℕ) (full : IsFullOver q candidates price) (decoded : List (Option Instr)) (count : last q ≡ length decoded)
    (ends_empty : q.exit ≡ no_registers) (bases : (o : Offer) → Contains q.offers.items o → IsOneBase o) (straight : (k : ℕ) → k + 1 < length decoded → IsEnding (decoded_at decoded k) → ⊥) where
  cut : (place : ℕ) → place < length decoded → drop place decoded ≡ decoded_at decoded place ∷ drop (place + 1) decoded
  cut place lt = let next : suc place ≡ place + 1 = omega arith in drop-cons decoded place None lt ∙ ap (λ (j : ℕ). decoded_at decoded place ∷ drop j decoded) next

  laid : (steps : List Step) (moves place : ℕ) (map : Map) (cost : ℕ) → IsWalk q moves (record { place = place; map = map }) steps cost → LaysWords moves map (drop place decoded) steps no_registers
  laid [] moves place map cost walk =
      let at : place ≡ last q = ap (λ (u : Node). u.place) walk.0 in
      let le : length decoded ≤ place = omega (arith, at, count) in
      subst (λ (ws : List (Option Instr)). LaysWords moves map ws [] no_registers) (sym (drop_all place decoded le)) (ap (λ (u : Node). u.map) walk.0 ∙ ends_empty)
  laid (Go move ∷ steps) moves place map cost walk =
      let after : ℕ = walk.1 in
      let can = (full.moves (record { place = place; map = map; step = move; price = walk.0 })).0 walk.4.0 in
      let lt : place < length decoded = let p = can.place in omega (arith, p, count) in
      let rest = laid steps after place (moved map move) walk.3 (subst (λ (u : Node). IsWalk q after u steps walk.3) walk.4.1 walk.6) in
      subst (λ (ws : List (Option Instr)). LaysWords moves map ws (Go move ∷ steps) no_registers) (sym (cut place lt))
      (after, walk.5, can.possible, subst (λ (ws : List (Option Instr)). LaysWords after (moved map move) ws steps no_registers) (cut place lt) rest)
  laid (Lay tile ∷ steps) moves place map cost walk =
      let after : ℕ = walk.1 in
      let v : Node = walk.2 in
      let offer : Offer = record { from = place; to = v.place; map = map; tile = tile; price = walk.0 } in
      let base = bases offer walk.4.0 in
      let is = full.offers offer walk.4.0 in
      let onward : v.place ≡ place + 1 = base.onward in
      let within : v.place ≤ last q = is.within in
      let lt : place < length decoded = omega (arith, onward, within, count) in
      let to : v ≡ record { place = place + 1; map = map } = ap (λ (n : ℕ). record { place = n; map = v.map }) onward ∙ ap (λ (m : Map). record { place = place + 1; map = m }) walk.4.1 in
      let rest = laid steps 6 (place + 1) map walk.3 (subst (λ (n : ℕ). IsWalk q n (record { place = place + 1; map = map }) steps walk.3) walk.5 (subst (λ (u : Node). IsWalk q after u steps walk.3) to walk.6)) in
      let ending : IsEnding (decoded_at decoded place) → map ≡ no_registers = λ ends. elim (cases_lt (place + 1) (length decoded)) [
        | inl less ↦ absurd (straight place less ends)
        | inr le ↦ is.at_end (omega (arith, onward, within, count, le)) ∙ ends_empty
      ] in
      subst (λ (ws : List (Option Instr)). LaysWords moves map ws (Lay tile ∷ steps) no_registers) (sym (cut place lt)) (base.tile, ending, rest)

pub valid_plans_lay : ValidPlansLay
valid_plans_lay live block leader q steps cost decoded of is full plan are =
    let places : q.places ≡ length block.words + 1 = is.places in
    let count : last q ≡ length decoded = let c = are.count in omega (arith, places, c) in
    laid q full.0 full.1 full.2 decoded count is.exit_is (one_base block no_registers no_registers leader live q is)
    (λ k lt ends.
    let c = are.count in
    let less : k < length block.words = omega (arith, lt, c) in
    let flow : IsFlowWord (slice_index block.words k) = flow_if (slice_index block.words k) (decoded_at decoded k) (are.each k less) ends in
    of.is.straight k (omega (arith, lt, c)) (subst IsFlowWord (of.is.each k less) flow))
    steps 6 0 no_registers cost (subst (λ (m : Map). IsWalk q 6 (record { place = 0; map = m }) steps cost) is.entry_is plan)
