-- How many words the blocks have between them.
use Rattle.std.proofs.Common.{◌≡◌, ℕ, zero, suc, ◌+◌, ◌<◌, ◌≤◌, List, [], ◌∷◌, Bool, false, not, filter, length, take, refl, sym, ◌∙◌, ap, subst, arith}
use Rattle.std.specs.Prelude.{slice_index_or}
use Rattle.std.specs.List.{sum_by, range_with_len}
use Rattle.std.proofs.lemmas.List.{take_more, take_all, get_or_past, length-map}
use Rattle.std.proofs.lemmas.List.Elements.{All-from_get_or}
use Rattle.std.proofs.lemmas.List.Filters.{length-filter_both}
use Rattle.std.proofs.lemmas.List.FromFn.{length-range_with_len}
use Rattle.std.proofs.lemmas.List.Sums.{sum_by-append, sum_by-le}
use Rattle.block_find.specs.Prelude.{AreBlocksOf, past, start, count_of, alone, singles_of, block_at, word_count, HaveFewWords, AllHaveFewWords, Block, Blocks, Run}
use Rattle.block_find.proofs.SingleRuns.{run_at}
use Rattle.block_find.proofs.Standing as stand
use Rattle.block_find.proofs.Standing.{count_is}

-- there are no more singles than words
single_runs_few : (leads : List Bool) (n : ℕ) → length (singles_of leads n) ≤ n
single_runs_few leads n =
    let parts = length-filter_both (λ k. not (slice_index_or leads k false)) (λ k. not (not (slice_index_or leads k false))) (λ k. refl) (range_with_len 0 n) in
    let count = length-range_with_len 0 n in
    let kept = length-map (filter (λ k. not (slice_index_or leads k false)) (range_with_len 0 n)) alone in
    omega (arith, parts, count, kept)

module _ (first entry : ℕ) (words : List ℕ) (blocks : Blocks) (are : AreBlocksOf first entry words blocks) where
  abbrev nowhere : Block
  nowhere = record { at = 0; words = [] }

  leader_words : (i : ℕ) → i < length are.runs → word_count (block_at blocks.leaders i) ≡ count_of are.runs (length words) i
  leader_words i lt =
      ap word_count (stand.leader_is first entry words blocks are i lt)
      ∙ count_is first words (slice_index_or are.runs i (past (length words))) (are.runs_are.are.ends i lt).within

  up_to : (i : ℕ) → i ≤ length are.runs → sum_by word_count (take i blocks.leaders) ≡ start are.runs (length words) i
  up_to zero le = sym are.runs_are.are.from_first
  up_to (suc i) le =
      let lt : i < length are.runs = omega arith in
      let within : i < length blocks.leaders = omega (arith, stand.leader_count first entry words blocks are) in
      let e : suc i ≡ i + 1 = omega arith in
      let more : sum_by word_count (take (i + 1) blocks.leaders) ≡ sum_by word_count (take i blocks.leaders) + sum_by word_count (block_at blocks.leaders i ∷ []) =
      ap (λ (bs : List Block). sum_by word_count bs) (take_more blocks.leaders i nowhere within) ∙ sum_by-append word_count (take i blocks.leaders) (block_at blocks.leaders i ∷ []) in
      let last : sum_by word_count (block_at blocks.leaders i ∷ []) ≡ word_count (block_at blocks.leaders i) = omega arith in
      let before = up_to i (omega arith) in
      let count = leader_words i lt in
      let next = are.runs_are.are.adjoins i lt in
      subst (λ (m : ℕ). sum_by word_count (take m blocks.leaders) ≡ start are.runs (length words) m) (sym e) (omega (arith, more, last, before, count, next))

  leaders_sum : sum_by word_count blocks.leaders ≡ length words
  leaders_sum =
      ap (λ (bs : List Block). sum_by word_count bs) (sym (take_all (length are.runs) blocks.leaders (omega (arith, stand.leader_count first entry words blocks are))))
      ∙ up_to (length are.runs) (omega arith)
      ∙ ap (λ (r : Run). r.at) (get_or_past are.runs (length are.runs) (past (length words)) (omega arith))

  single_words : (i : ℕ) → i < length blocks.singles → word_count (block_at blocks.singles i) ≤ 1
  single_words i lt =
      let count : length blocks.singles ≡ length (singles_of are.leads (length words)) = stand.single_count first entry words blocks are in
      let within : i < length (singles_of are.leads (length words)) = omega arith in
      let singles = stand.of_singles first entry words blocks are in
      let below = singles.below i within in let one = singles.one i within in
      let is : word_count (block_at blocks.singles i) ≡ (run_at (singles_of are.leads (length words)) i).count =
      ap word_count (stand.single_is first entry words blocks are i within) ∙ count_is first words (run_at (singles_of are.leads (length words)) i) (omega arith) in
      omega arith

  singles_sum : sum_by word_count blocks.singles ≤ length words
  singles_sum =
      let few = sum_by-le word_count 1 blocks.singles (All-from_get_or (λ (b : Block). word_count b ≤ 1) blocks.singles nowhere single_words) in
      let count = stand.single_count first entry words blocks are in
      let runs = single_runs_few are.leads (length words) in
      omega (arith, few, count, runs)

  few_words : HaveFewWords words blocks
  few_words = record { leaders = leaders_sum; singles = singles_sum }

pub all_have_few_words : AllHaveFewWords
all_have_few_words first entry words blocks are = few_words first entry words blocks are
