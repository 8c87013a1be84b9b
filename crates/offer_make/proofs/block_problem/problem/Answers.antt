use Rattle.std.proofs.Common.{ℕ, ◌+◌, ◌-◌, ◌/◌, List, length, map, slice_index, refl, sym, subst, ap, ◌∙◌, arith}
use Rattle.std.specs.List.{All, flat_map, range_with_len}
use Rattle.machines.specs.Prelude.{IsMap}
use Rattle.plan_form.specs.declared.problem.MovePrice.{MovePrice}
use Rattle.offer_make.specs.Candidates.{AreCandidates}
use Rattle.offer_make.specs.Maps.{AreMapsOver}
use Rattle.offer_make.specs.Prices.{HaveBaseTiles}
use Rattle.offer_make.specs.Problem.{AreReadAs, live_before}
use Rattle.offer_make.specs.Tables.{moves_between, priced_at, moves_of, offers_of, word_address, base_tiles}
use Rattle.offer_make.proofs.Full.{full}
use Rattle.offer_make.proofs.Problems.{maps-are, IsPossibleMove, moves-possible, have-tiles, tiles-low}
use Rattle.offer_make.proofs.block_problem.problem.Goals as goal

pub moves-requires-clause-possible : goal.moves-requires-clause-possible
moves-requires-clause-possible c =
    let found = c.in_ok-candidates.candidates.items in
    let maps = c.in_ok-maps.maps.items in
    let over = subst (λ l. AreMapsOver l maps) c.deref.ensures.value c.in_ok-maps.ensures in
    let same = c.deref-4.ensures.value ∙ c.in_ok-between.ensures ∙ ap (λ l. moves_between l c.deref-3.result.now) c.deref-2.ensures.value ∙ ap (moves_between found) c.deref-3.ensures.value in
    subst (All IsPossibleMove) (sym same) (moves-possible found maps c.in_ok-candidates.ensures.registers over)

pub offers-requires-clause-maps : goal.offers-requires-clause-maps
offers-requires-clause-maps c =
    let maps = c.in_ok-maps.maps.items in
    let over = subst (λ l. AreMapsOver l maps) c.deref.ensures.value c.in_ok-maps.ensures in
    subst (All IsMap) (sym c.deref-6.ensures.value) (maps-are c.in_ok-candidates.candidates.items maps over)

pub offers-requires-clause-tiles : goal.offers-requires-clause-tiles
offers-requires-clause-tiles c =
    let block = c.requires.block in
    let decoded = c.in_ok-decoded.decoded.items in
    let read = subst (λ l. AreReadAs l decoded) c.as_slice-words.ensures c.in_ok-decoded.ensures in
    subst (λ l. HaveBaseTiles l c.args.exit.now) (sym c.deref-5.ensures.value)
    (have-tiles c.args.live.now.first block.words block.place c.args.block.now c.args.entry.now c.args.exit.now c.args.leader decoded block.is c.requires.boundary read c.one_instruction.ensures)

pub returns-clause-full : goal.returns-clause-full
returns-clause-full c =
    let block = c.requires.block in
    let is = block.is in
    let words = c.args.block.now.words in
    let at = c.args.block.now.at in
    let live = live_before c.args.live.now c.args.block.now in
    let found = c.in_ok-candidates.candidates.items in
    let maps = c.in_ok-maps.maps.items in
    let decoded = c.in_ok-decoded.decoded.items in
    let exit = c.args.exit.now in
    let over = subst (λ l. AreMapsOver l maps) c.deref.ensures.value c.in_ok-maps.ensures in
    let read = subst (λ l. AreReadAs l decoded) c.as_slice-words.ensures c.in_ok-decoded.ensures in
    let count = read.count in
    let have = have-tiles c.args.live.now.first block.words block.place c.args.block.now c.args.entry.now exit c.args.leader decoded is c.requires.boundary read c.one_instruction.ensures in
    let same = c.deref-4.ensures.value ∙ c.in_ok-between.ensures ∙ ap (λ l. moves_between l c.deref-3.result.now) c.deref-2.ensures.value ∙ ap (moves_between found) c.deref-3.ensures.value in
    let moves = c.in_ok-moves.ensures
    ∙ ap (λ (f : ℕ). flat_map (λ place. map (priced_at (λ p. slice_index c.args.live.now.bits ((at - f) / 4 + p)) place) c.deref-4.result.now) (range_with_len 0 (length c.as_slice-words.result.now))) c.first.ensures
    ∙ ap (λ (b : List MovePrice). flat_map (λ place. map (priced_at live place) b) (range_with_len 0 (length c.as_slice-words.result.now))) same
    ∙ ap (λ (l : List ℕ). moves_of (length l) live found maps) c.as_slice-words.ensures in
    let offers = c.in_ok-offers.ensures ∙ ap (λ l. offers_of (length l) exit c.deref-6.result.now (base_tiles at l)) c.deref-5.ensures.value
    ∙ ap (λ m. offers_of (length decoded) exit m (base_tiles at decoded)) c.deref-6.ensures.value
    ∙ ap (λ (n : ℕ). offers_of n exit maps (base_tiles at decoded)) count in
    let some = is.some in
    let short = is.short in
    full (length words) live at found decoded _ some short (ap (λ (l : List ℕ). length l + 1) c.as_slice-words.ensures)
    c.in_ok-candidates.ensures.few c.in_ok-candidates.ensures.registers over c.in_ok-candidates.ensures.entry c.in_ok-candidates.ensures.exit
    moves offers (λ k m less ends. tiles-low c.base_prices_are_low.ensures decoded exit (word_address at) have k m (omega (arith, less, count)) (λ e. ends (omega (arith, e, count)))) c.moves_move_one.ensures

pub returns-clause-problem : goal.returns-clause-problem
returns-clause-problem c =
    let at = c.args.block.now.at in
    let live = live_before c.args.live.now c.args.block.now in
    let found = c.in_ok-candidates.candidates.items in
    let maps = c.in_ok-maps.maps.items in
    let decoded = c.in_ok-decoded.decoded.items in
    let exit = c.args.exit.now in
    let over = subst (λ l. AreMapsOver l maps) c.deref.ensures.value c.in_ok-maps.ensures in
    let read = subst (λ l. AreReadAs l decoded) c.as_slice-words.ensures c.in_ok-decoded.ensures in
    let count = read.count in
    let same = c.deref-4.ensures.value ∙ c.in_ok-between.ensures ∙ ap (λ l. moves_between l c.deref-3.result.now) c.deref-2.ensures.value ∙ ap (moves_between found) c.deref-3.ensures.value in
    let moves = c.in_ok-moves.ensures
    ∙ ap (λ (f : ℕ). flat_map (λ place. map (priced_at (λ p. slice_index c.args.live.now.bits ((at - f) / 4 + p)) place) c.deref-4.result.now) (range_with_len 0 (length c.as_slice-words.result.now))) c.first.ensures
    ∙ ap (λ (b : List MovePrice). flat_map (λ place. map (priced_at live place) b) (range_with_len 0 (length c.as_slice-words.result.now))) same
    ∙ ap (λ (l : List ℕ). moves_of (length l) live found maps) c.as_slice-words.ensures in
    let offers = c.in_ok-offers.ensures ∙ ap (λ l. offers_of (length l) exit c.deref-6.result.now (base_tiles at l)) c.deref-5.ensures.value
    ∙ ap (λ m. offers_of (length decoded) exit m (base_tiles at decoded)) c.deref-6.ensures.value
    ∙ ap (λ (n : ℕ). offers_of n exit maps (base_tiles at decoded)) count in
    record {
      candidates = found;
      decoded = decoded;
      candidates_are = subst (λ l. AreCandidates l c.args.entry.now exit c.args.leader found) c.as_slice-words.ensures c.in_ok-candidates.ensures.candidates;
      decoded_are = read;
      places = ap (λ (l : List ℕ). length l + 1) c.as_slice-words.ensures;
      entry_is = refl;
      exit_is = refl;
      maps = over;
      moves = moves;
      offers = offers;
    }
