-- What a loop over a program's blocks needs of them.
use Rattle.std.proofs.Common.{◌≡◌, ◌≢◌, ◌≤◌, ◌<◌, ◌+◌, ℕ, suc, inl, inr, true, false, List, [], ◌∷◌, All, length, get_or, set, slice_index, take, drop, Option, None, sym, ap, ◌∙◌, arith}
use Rattle.std.specs.List.{sum_by}
use Rattle.std.proofs.lemmas.Bool.{cases_lt}
use Rattle.std.proofs.lemmas.List.{take_more, get_or-map, get_or-set_same, get_or-set_other, length-take, length-drop}
use Rattle.std.proofs.lemmas.List.Elements.{All-take, All-drop, All-from_get_or}
use Rattle.std.specs.List.{position_or_len}
use Rattle.std.specs.Prelude.{◌==◌, slice_index_or}
use Rattle.std.proofs.lemmas.Bool.Decides.{nat_tests}
use Rattle.std.proofs.lemmas.List.Sums.{position_or_len_is, sum_by-append, sum_by-cons, sum_by_push, sum_by-take-le, sum_by_more_le}
use Rattle.machines.specs.Prelude.{Instr}
use Rattle.block_find.specs.Prelude.{address_of, AreBlocksOf, all_blocks, block_at, word_count, IsBlockAt, EachIsBlock, EachBeginsOne, AllHaveFewWords}
use Rattle.block_find.specs.declared.block.Block.{Block}
use Rattle.block_find.specs.declared.block.Blocks.{Blocks}
use Rattle.symbolic_tiles.specs.declared.flow_op.FlowOp.{FlowOp}
use Rattle.plan_form.specs.declared.problem.BlockPlan.{BlockPlan}
use Rattle.plan_form.specs.declared.problem.Step.{Step}
use Rattle.code_layout.specs.Prelude.{AreDecodedAs, IsLegalDecoded, Laying, no_registers, place_of, Moves, no_moves, block_items, words_of, items_of, block_length, stands_at, steps_in, steps_of, BeginsAt}
use Rattle.code_layout.proofs.Laid.{all_legal}

abbrev pub nowhere : Block
nowhere = record { at = 0; words = [] }

no_more : (blocks : List Block) → ((i : ℕ) → i < length blocks → 1 ≤ word_count (block_at blocks i)) → length blocks ≤ sum_by word_count blocks
no_more [] some = omega arith
no_more (block ∷ blocks) some = let rest = no_more blocks (λ i lt. some (suc i) (omega arith)) in let one : 1 ≤ word_count block = some 0 (omega arith) in omega (arith, rest, one, sum_by-cons word_count block blocks)

-- the words from a place on are legal or illegal, as all are
pub part_legal : (words : List ℕ) (decoded : List (Option Instr)) (n k : ℕ) → AreDecodedAs words decoded → All IsLegalDecoded (take n (drop k decoded))
part_legal words decoded n k are = All-take IsLegalDecoded n (drop k decoded) (All-drop IsLegalDecoded k decoded (All-from_get_or IsLegalDecoded decoded None (all_legal words decoded are)))

-- a block's items are made of its words, by its plan
pub items_are : (by : Laying) (at : ℕ) (words : List (Option Instr)) (steps : List Step) (block : Block) (items : List FlowOp) → at ≡ block.at → words ≡ words_of by.first by.decoded block → steps ≡ by.steps block →
    items ≡ block_items by.live at no_registers words steps → items ≡ items_of by block
items_are by at words steps block items here are plan made =
    made ∙ ap (λ (a : ℕ). block_items by.live a no_registers words steps) here ∙ ap (λ (ws : List (Option Instr)). block_items by.live block.at no_registers ws steps) are
    ∙ ap (λ (xs : List Step). block_items by.live block.at no_registers (words_of by.first by.decoded block) xs) plan

pub stands_more : (by : Laying) (switch : ℕ → Moves) (here i : ℕ) (blocks : List Block) → i < length blocks → stands_at by switch here blocks i + block_length by switch (block_at blocks i) ≡ stands_at by switch here blocks (i + 1)
stands_more by switch here i blocks lt =
    let more : sum_by (block_length by switch) (take (i + 1) blocks) ≡ sum_by (block_length by switch) (take i blocks) + block_length by switch (block_at blocks i) =
    ap (sum_by (block_length by switch)) (take_more blocks i nowhere lt) ∙ sum_by_push (block_length by switch) (take i blocks) (block_at blocks i) in
    omega (arith, more)

pub words_more : (i : ℕ) (blocks : List Block) → i < length blocks → sum_by word_count (take i blocks) + word_count (block_at blocks i) ≡ sum_by word_count (take (i + 1) blocks)
words_more i blocks lt = sym (ap (sum_by word_count) (take_more blocks i nowhere lt) ∙ sum_by_push word_count (take i blocks) (block_at blocks i))

module _ (first : ℕ) (words : List ℕ) (k : ℕ) (block : Block) (is : IsBlockAt first words k block) where
  pub place_is : place_of first block.at ≡ k
  place_is = let at = is.begins in omega (arith, at)

  pub from_first : first ≤ block.at
  from_first = let at = is.begins in omega (arith, at)

  pub place_among : place_of first block.at < length words
  place_among = let w = is.within in let s = is.some in omega (arith, place_is, w, s)

  pub part_within : place_of first block.at + length block.words ≤ length words
  part_within = let w = is.within in omega (arith, place_is, w)

  pub part_count : (decoded : List (Option Instr)) → length decoded ≡ length words → length (words_of first decoded block) ≡ length block.words
  part_count decoded count =
      let a = length-take (length block.words) (drop (place_of first block.at) decoded) in
      let b = length-drop (place_of first block.at) decoded in
      omega (arith, a, b, part_within, count)

module _ (first entry : ℕ) (words : List ℕ) (blocks : Blocks) (are : AreBlocksOf first entry words blocks) (each : EachIsBlock) where
  abbrev all : List Block
  all = all_blocks blocks

  pub block_is : (i : ℕ) → i < length all → (k : ℕ) × IsBlockAt first words k (block_at all i)
  block_is i lt = each first entry words blocks are i lt

  abbrev place : ℕ → ℕ
  place i = place_of first (block_at all i).at

  module _ (few : AllHaveFewWords) (short : length words ≤ 131072) where
    all_few : sum_by word_count all ≤ 262144
    all_few =
        let h = few first entry words blocks are in
        let leaders = h.leaders in
        let singles = h.singles in
        let both = sum_by-append word_count blocks.leaders blocks.singles in
        omega (arith, leaders, singles, both, short)

    pub few_blocks : length all ≤ 262144
    few_blocks = let h = no_more all (λ i lt. (block_is i lt).1.some) in omega (arith, h, all_few)

    pub few_words : (i : ℕ) → i < length all → sum_by word_count (take i all) + word_count (block_at all i) ≤ 262144
    few_words i lt = omega (arith, sum_by_more_le word_count all i nowhere lt, all_few)

    pub few_taken : (i : ℕ) → sum_by word_count (take i all) ≤ 262144
    few_taken i = omega (arith, sum_by-take-le word_count all i, all_few)

  module _ (begin : EachBeginsOne) where
    -- no two blocks begin at one word
    apart : (i j : ℕ) → i < length all → j < length all → place i ≡ place j → i ≡ j
    apart i j li lj same =
        let bi = block_is i li in
        let bj = block_is j lj in
        let pi : place i ≡ bi.0 = place_is first words bi.0 (block_at all i) bi.1 in
        let pj : place j ≡ bj.0 = place_is first words bj.0 (block_at all j) bj.1 in
        let k : bj.0 ≡ bi.0 = omega (arith, pi, pj, same) in
        let among : bi.0 < length words = let w = bi.1.within in let s = bi.1.some in omega (arith, w, s) in
        let one = begin first entry words blocks are bi.0 among in
        one.only i li bi.1.begins ∙ sym (one.only j lj (bj.1.begins ∙ ap (address_of first) k))

    -- the address of one more block is kept
    pub each_more : (value : ℕ → ℕ) (table : List ℕ) (at to j : ℕ) → j < length all → length table ≡ length words → at ≡ place j → to ≡ value j → ((i : ℕ) → i < j → slice_index table (place i) ≡ value i) →
        (i : ℕ) → i < j + 1 → slice_index (set table at to) (place i) ≡ value i
    each_more value table at to j lj count here is old i lt = elim (cases_lt i j) [
      | inl less ↦ (
          let ne : place i ≢ at = λ e. (let same : i ≡ j = apart i j (omega arith) lj (e ∙ here) in omega arith) in
          get_or-set_other table at (place i) to 0 ne ∙ old i less)
      | inr ge ↦ (
          let same : i ≡ j = omega arith in
          let low : at < length table = let b = block_is j lj in let p = place_among first words b.0 (block_at all j) b.1 in omega (arith, p, here, count) in
          ap (λ (p : ℕ). slice_index (set table at to) p) (ap place same ∙ sym here) ∙ get_or-set_same table at to 0 low ∙ is ∙ sym (ap value same))
    ]

    -- so each word's block begins where the table says
    pub each_begins : (by : Laying) (start : ℕ) (table : List ℕ) → ((i : ℕ) → i < length all → slice_index table (place i) ≡ stands_at by no_moves start all i) →
        (k : ℕ) → k < length words → BeginsAt by no_moves start all (address_of first k) (slice_index table k)
    each_begins by start table kept k lt =
        let one = begin first entry words blocks are k lt in
        let at = one.begins in
        let here : place one.place ≡ k = omega (arith, at) in
        record {
          place = one.place;
          within = one.within;
          begins = one.begins;
          stands = sym (ap (slice_index table) here) ∙ kept one.place one.within;
        }

    -- a block stands among all where it stands
    stands_among : (i : ℕ) → i < length all → position_or_len (λ other. other.at == (block_at all i).at) all ≡ i
    stands_among i lt = position_or_len_is (λ other. other.at == (block_at all i).at) all i nowhere (omega (arith, lt)) (λ k less. earlier k less (differs (block_at all k).at (block_at all i).at)) (λ within. itself (block_at all i).at)
      where
        itself : (n : ℕ) → (n == n) ≡ true
        itself n = grind (arith, nat_tests)

        differs : (m n : ℕ) → (m ≢ n) → (m == n) ≡ false
        differs m n ne = grind (arith, nat_tests)

        earlier : (k : ℕ) → k < i → (((block_at all k).at ≢ (block_at all i).at) → ((block_at all k).at == (block_at all i).at) ≡ false) → ((block_at all k).at == (block_at all i).at) ≡ false
        earlier k less differ = differ (λ e. (let same : k ≡ i = apart k i (omega arith) lt (ap (place_of first) e) in omega arith))

    -- so its plan is that at its place
    pub plan_at : (plans : List (List Step)) (i : ℕ) → i < length all → steps_in all plans (block_at all i) ≡ slice_index_or plans i []
    plan_at plans i lt = ap (λ (k : ℕ). slice_index_or plans k []) (stands_among i lt)

    -- the steps of the plan at its place
    pub own_steps : (plans : List BlockPlan) (i : ℕ) (d : BlockPlan) → i < length all → i < length plans → (get_or plans i d).plan.steps.items ≡ steps_in all (steps_of plans) (block_at all i)
    own_steps plans i d lt among = sym (plan_at (steps_of plans) i lt ∙ get_or-map (λ p. p.plan.steps.items) plans i d [] among)
