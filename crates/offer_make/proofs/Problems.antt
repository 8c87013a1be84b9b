-- What the parts of a block's problem need of the block.
use Rattle.std.proofs.Common.{◌≡◌, inl, inr, ℕ, ◌+◌, ◌-◌, ◌<◌, Bool, true, false, List, length, get_or, Option, Some, None, refl, sym, subst, ap, ◌∙◌, arith}
use Rattle.std.specs.Prelude.{slice_index}
use Rattle.std.specs.List.{All}
use Rattle.std.proofs.lemmas.Bool.{cases_lt, false≢true}
use Rattle.std.proofs.lemmas.List.Elements.{Contains-get_or}
use Rattle.machines.specs.Prelude.{Map, Instr, SystemCall, IsMap, HasOneInstruction}
use Rattle.reg_map.specs.Prelude.{IsPossible}
use Rattle.row_laws.specs.FlowWords.{is_flow}
use Rattle.block_find.specs.declared.block.Block.{Block}
use Rattle.block_find.specs.Prelude.{IsFlowWord, legal, IsBlockAt}
use Rattle.plan_form.specs.declared.problem.MovePrice.{MovePrice}
use Rattle.offer_make.specs.Maps.{AreMapsOver}
use Rattle.offer_make.specs.Prices.{base_price, HasBaseTile, HaveBaseTiles, BasePricesAreLow}
use Rattle.offer_make.specs.Problem.{has_target, NamesTarget, AreBoundaryMaps, IsReadAs, AreReadAs}
use Rattle.offer_make.specs.Tables.{moves_between}
use Rattle.offer_make.proofs.Moving.{between-to, may-possible}
use Rattle.offer_make.proofs.Pricing.{leaves-straight, leaves-at-end}

pub maps-are : (candidates : List ℕ) (maps : List Map) → AreMapsOver candidates maps → All IsMap maps
maps-are candidates maps h k d within = ((h.each (get_or maps k d)).0 (Contains-get_or maps k d within)).is_map

abbrev pub IsPossibleMove : MovePrice → Type 0
IsPossibleMove move = IsMap move.map × IsPossible move.map move.step

pub moves-possible : (candidates : List ℕ) (maps : List Map) → All (λ g. g < 32) candidates → AreMapsOver candidates maps → All IsPossibleMove (moves_between candidates maps)
moves-possible candidates maps registers h k d within =
    let f = between-to candidates maps (get_or (moves_between candidates maps) k d) (Contains-get_or (moves_between candidates maps) k d within) in
    subst IsPossibleMove f.5 (((h.each f.0).0 f.2).is_map, may-possible candidates registers f.0 f.1 f.3 f.4)

module _ (first : ℕ) (words : List ℕ) (place : ℕ) (block : Block) (entry exit : Map) (leader : Bool) (decoded : List (Option Instr))
    (is : IsBlockAt first words place block) (boundary : AreBoundaryMaps block entry exit leader) (read : AreReadAs block.words decoded)
    (one : (w : ℕ) → HasOneInstruction w) where
  straight-tile : (word : ℕ) (o : Option Instr) (m : Map) → IsReadAs word o → ¬ (IsFlowWord word) → HasBaseTile o m
  straight-tile word None m h other = tt
  straight-tile word (Some i) m h other = (h.legal, leaves-straight i m (falls (is_flow i) refl))
    where
      falls : (b : Bool) → is_flow i ≡ b → is_flow i ≡ false
      falls false e = e
      falls true e = absurd (other (legal i h e))

  end-tile : (word : ℕ) (o : Option Instr) → word ≡ slice_index block.words (length block.words - 1) → IsReadAs word o → HasBaseTile o exit
  end-tile word None e h = tt
  end-tile word (Some i) e h = (h.legal, leaves-at-end i exit (λ call. (boundary.at_end (subst IsFlowWord e (legal i h (ap is_flow call))) (λ names. nowhere call (subst NamesTarget (sym e) names))).0))
    where
      nowhere : i ≡ SystemCall → NamesTarget word → ⊥
      nowhere call names = false≢true (ap has_target (sym call ∙ one word i names.0 h names.1) ∙ names.2)

  pub have-tiles : HaveBaseTiles decoded exit
  have-tiles = record {
    before = λ k m less. (let count = read.count in
        straight-tile (slice_index block.words k) (get_or decoded k None) m (read.each k (omega (arith, less, count)))
        (λ flow. is.straight k (omega (arith, less, count)) (subst IsFlowWord (is.each k (omega (arith, less, count))) flow)));
    at_end = λ k end. (let count = read.count in
        let some = is.some in
        let here : k ≡ length block.words - 1 = omega (arith, end, count, some) in
        end-tile (slice_index block.words k) (get_or decoded k None) (ap (slice_index block.words) here) (read.each k (omega (arith, end, count))));
  }

-- each of these base tiles costs less than 1024
pub tiles-low : BasePricesAreLow → (decoded : List (Option Instr)) (exit : Map) (at : ℕ → ℕ) → HaveBaseTiles decoded exit
    → (k : ℕ) (m : Map) → k < length decoded → (k + 1 ≡ length decoded → m ≡ exit) → base_price (get_or decoded k None) (at k) m < 1024
tiles-low low decoded exit at have k m less ends = elim (cases_lt (k + 1) (length decoded)) [
  | inl more ↦ low (get_or decoded k None) (at k) m (have.before k m more)
  | inr past ↦
      let end : k + 1 ≡ length decoded = omega (arith, past, less) in
      low (get_or decoded k None) (at k) m (subst (HasBaseTile (get_or decoded k None)) (sym (ends end)) (have.at_end k end))
]
