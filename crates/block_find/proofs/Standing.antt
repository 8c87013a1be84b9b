-- Each block has its words, and each word begins one block.
use Rattle.std.proofs.Common.{◌≡◌, ℕ, ◌+◌, ◌-◌, ◌*◌, ◌<◌, ◌≤◌, inl, inr, List, [], Bool, true, false, length, take, drop, refl, sym, ◌∙◌, ap, subst, arith}
use Rattle.std.specs.Prelude.{slice_index_or}
use Rattle.std.proofs.lemmas.Bool.{cases_lt}
use Rattle.std.proofs.lemmas.List.{get_or_append_left, length-map, get_or-append_right, get_or-map, get_or_past, get_or-take, get_or-drop, length-take, length-drop}
use Rattle.std.proofs.Math.ListN.{length-append}
use Rattle.block_find.specs.Prelude.{IsFlow, Names, address_of, most, IsIn, flow, AreBlocksOf, past, start, block_of, singles_of, block_at, all_blocks, IsBlockAt, BeginsOne, BeginsLeader, EachIsBlock, EachBeginsOne, LeadsToLeaders, Block, Blocks, Run}
use Rattle.block_find.specs.Blocks.{named}
use Rattle.block_find.proofs.SingleRuns.{run_at, AreSingles, are_singles}

-- a run as a block
module _ (first : ℕ) (words : List ℕ) (run : Run) (within : run.at + run.count ≤ length words) where
  pub count_is : length (take run.count (drop run.at words)) ≡ run.count
  count_is = let a = length-take run.count (drop run.at words) in let b = length-drop run.at words in omega (arith, a, b)

  pub is_block_at : 1 ≤ run.count → run.count ≤ most → ((j : ℕ) → j + 1 < run.count → ¬ (IsFlow words (run.at + j))) → IsBlockAt first words run.at (block_of first words run)
  is_block_at some short straight = record {
    begins = refl;
    some = omega (arith, count_is);
    short = omega (arith, count_is);
    within = omega (arith, count_is);
    each = λ j lt. get_or-take run.count (drop run.at words) j 0 (omega (arith, count_is)) ∙ get_or-drop run.at words j 0;
    straight = λ j lt. straight j (omega (arith, count_is));
  }

module _ (first entry : ℕ) (words : List ℕ) (blocks : Blocks) (are : AreBlocksOf first entry words blocks) where
  abbrev pub leader_run : ℕ → Run
  leader_run i = slice_index_or are.runs i (past (length words))

  abbrev pub singles : List Run
  singles = singles_of are.leads (length words)

  pub of_singles : AreSingles are.leads singles (length words)
  of_singles = are_singles are.leads (length words)

  pub leader_count : length blocks.leaders ≡ length are.runs
  leader_count = ap (λ (bs : List Block). length bs) are.leaders_are ∙ length-map are.runs (block_of first words)

  pub single_count : length blocks.singles ≡ length singles
  single_count = ap (λ (bs : List Block). length bs) are.singles_are ∙ length-map singles (block_of first words)

  all_count : length (all_blocks blocks) ≡ length are.runs + length singles
  all_count = let a = length-append blocks.leaders blocks.singles in let b = leader_count in let c = single_count in omega (arith, a, b, c)

  pub leader_is : (i : ℕ) → i < length are.runs → block_at blocks.leaders i ≡ block_of first words (leader_run i)
  leader_is i lt = ap (λ (bs : List Block). block_at bs i) are.leaders_are ∙ get_or-map (block_of first words) are.runs i (past (length words)) (record { at = 0; words = [] }) lt

  pub single_is : (i : ℕ) → i < length singles → block_at blocks.singles i ≡ block_of first words (run_at singles i)
  single_is i lt = ap (λ (bs : List Block). block_at bs i) are.singles_are ∙ get_or-map (block_of first words) singles i (past 0) (record { at = 0; words = [] }) lt

  leader_among : (i : ℕ) → i < length are.runs → block_at (all_blocks blocks) i ≡ block_of first words (leader_run i)
  leader_among i lt = get_or_append_left blocks.leaders blocks.singles (record { at = 0; words = [] }) i (omega (arith, leader_count, lt)) ∙ leader_is i lt

  single_among : (i : ℕ) → length are.runs ≤ i → i < length are.runs + length singles → block_at (all_blocks blocks) i ≡ block_of first words (run_at singles (i - length are.runs))
  single_among i ge lt = get_or-append_right blocks.leaders blocks.singles (length are.runs) i (record { at = 0; words = [] }) leader_count ge ∙ single_is (i - length are.runs) (omega arith)

  leader_block : (i : ℕ) → i < length are.runs → IsBlockAt first words (leader_run i).at (block_of first words (leader_run i))
  leader_block i lt =
      let block = are.runs_are.are.ends i lt in
      is_block_at first words (leader_run i) block.within block.some (are.divide.short i lt)
      (λ j less f. let same : (leader_run i).at + (j + 1) - 1 ≡ (leader_run i).at + j = omega arith in
      block.not_before (j + 1) (omega arith) less (flow (subst (λ (k : ℕ). IsFlow words k) (sym same) f)))

  single_block : (i : ℕ) → i < length singles → IsBlockAt first words (run_at singles i).at (block_of first words (run_at singles i))
  single_block i lt =
      let below = of_singles.below i lt in let one = of_singles.one i lt in
      is_block_at first words (run_at singles i) (omega arith) (omega arith) (omega arith) (λ j less. absurd (omega arith))

  pub each_is_block : (i : ℕ) → i < length (all_blocks blocks) → (k : ℕ) × IsBlockAt first words k (block_at (all_blocks blocks) i)
  each_is_block i lt = elim (cases_lt i (length are.runs)) [
    | inl less ↦ ((leader_run i).at, subst (λ (b : Block). IsBlockAt first words (leader_run i).at b) (sym (leader_among i less)) (leader_block i less))
    | inr ge ↦ (
        let within : i < length are.runs + length singles = omega (arith, all_count, lt) in (
          (run_at singles (i - length are.runs)).at,
          subst (λ (b : Block). IsBlockAt first words (run_at singles (i - length are.runs)).at b) (sym (single_among i ge within))
              (single_block (i - length are.runs) (omega arith)),
        ))
  ]

  same_leader : (i j : ℕ) → i < length are.runs → j < length are.runs → (leader_run i).at ≡ (leader_run j).at → i ≡ j
  same_leader i j a b e = elim (cases_lt i j) [
    | inl lt ↦ (let c = are.runs_are.ascending i j lt b in absurd (omega arith))
    | inr le ↦ elim (cases_lt j i) [ inl lt ↦ (let c = are.runs_are.ascending j i lt a in absurd (omega arith)) | inr ge ↦ omega arith ]
  ]

  same_single : (i j : ℕ) → i < length singles → j < length singles → (run_at singles i).at ≡ (run_at singles j).at → i ≡ j
  same_single i j a b e = elim (cases_lt i j) [
    | inl lt ↦ (let c = of_singles.ascending i j lt b in absurd (omega arith))
    | inr le ↦ elim (cases_lt j i) [ inl lt ↦ (let c = of_singles.ascending j i lt a in absurd (omega arith)) | inr ge ↦ omega arith ]
  ]

  -- what the run of a block begins with
  leader_begins : (i k : ℕ) → i < length are.runs → (block_at (all_blocks blocks) i).at ≡ address_of first k → (leader_run i).at ≡ k
  leader_begins i k lt e = let at = ap (λ (b : Block). b.at) (leader_among i lt) in omega (arith, at, e)

  single_begins : (i k : ℕ) → length are.runs ≤ i → i < length are.runs + length singles → (block_at (all_blocks blocks) i).at ≡ address_of first k
      → (run_at singles (i - length are.runs)).at ≡ k
  single_begins i k ge lt e = let at = ap (λ (b : Block). b.at) (single_among i ge lt) in omega (arith, at, e)

  leader_begins_one : (k : ℕ) → IsIn are.leads k → BeginsOne first (all_blocks blocks) k
  leader_begins_one k is =
      let e = are.runs_are.every k is in record {
        place = e.0;
        within = omega (arith, all_count, e.1);
        begins = ap (λ (b : Block). b.at) (leader_among e.0 e.1) ∙ ap (λ (j : ℕ). address_of first j) e.2;
        only = λ i lt at. elim (cases_lt i (length are.runs)) [
          | inl less ↦ same_leader i e.0 less e.1 (leader_begins i k less at ∙ sym e.2)
          | inr ge ↦ (
              let within : i < length are.runs + length singles = omega (arith, all_count, lt) in
              let here = single_begins i k ge within at in
              absurd (of_singles.single (i - length are.runs) (omega arith) (subst (λ (j : ℕ). IsIn are.leads j) (sym here) is)))
        ];
      }

  single_begins_one : (k : ℕ) → k < length words → ¬ (IsIn are.leads k) → BeginsOne first (all_blocks blocks) k
  single_begins_one k below not =
      let f = of_singles.found k below not in
      let low : length are.runs ≤ length are.runs + f.0 = omega arith in
      let high : length are.runs + f.0 < length are.runs + length singles = let lt = f.1 in omega arith in
      let back : length are.runs + f.0 - length are.runs ≡ f.0 = omega arith in record {
        place = length are.runs + f.0;
        within = omega (arith, all_count, high);
        begins = ap (λ (b : Block). b.at) (single_among (length are.runs + f.0) low high) ∙ ap (λ (i : ℕ). address_of first (run_at singles i).at) back
            ∙ ap (λ (j : ℕ). address_of first j) f.2;
        only = λ i lt at. elim (cases_lt i (length are.runs)) [
          | inl less ↦ absurd (not (subst (λ (j : ℕ). IsIn are.leads j) (leader_begins i k less at) (are.runs_are.are.leads i less)))
          | inr ge ↦ (
              let within : i < length are.runs + length singles = omega (arith, all_count, lt) in
              let e : i - length are.runs ≡ f.0 = same_single (i - length are.runs) f.0 (omega arith) f.1 (single_begins i k ge within at ∙ sym f.2) in omega arith)
        ];
      }

  pub begins_one : (k : ℕ) → k < length words → BeginsOne first (all_blocks blocks) k
  begins_one k lt = by (slice_index_or are.leads k false) refl where
    by : (b : Bool) → slice_index_or are.leads k false ≡ b → BeginsOne first (all_blocks blocks) k
    by true on = leader_begins_one k on
    by false off = single_begins_one k lt (λ is. (let no : true ≡ false = sym is ∙ off in cc))

  begins_leader : (k : ℕ) → IsIn are.leads k → BeginsLeader first blocks k
  begins_leader k is =
      let e = are.runs_are.every k is in
      (e.0, omega (arith, leader_count, e.1), ap (λ (b : Block). b.at) (leader_is e.0 e.1) ∙ ap (λ (j : ℕ). address_of first j) e.2)

  behind_leader : (i k : ℕ) → k < length words → i < length are.runs → (leader_run i).at + (leader_run i).count ≡ k → IsIn are.leads k
  behind_leader i k lt within e = elim (cases_lt (i + 1) (length are.runs)) [
    | inl next ↦ subst (λ (j : ℕ). IsIn are.leads j) (sym (are.runs_are.are.adjoins i within) ∙ e) (are.runs_are.are.leads (i + 1) next)
    | inr last ↦ (
        let end : start are.runs (length words) (i + 1) ≡ length words = ap (λ (r : Run). r.at) (get_or_past are.runs (i + 1) (past (length words)) last) in
        let to = are.runs_are.are.adjoins i within in absurd (omega arith))
  ]

  pub leads_to_leaders : (k : ℕ) → k < length words → ((p : ℕ) → p < length words → Names first words p k → BeginsLeader first blocks k)
      × ((i : ℕ) → i < length blocks.leaders → (block_at blocks.leaders i).at + 4 * length (block_at blocks.leaders i).words ≡ address_of first k → BeginsLeader first blocks k)
  leads_to_leaders k lt = (
    λ p within names. begins_leader k ((are.leaders.each k).1 (lt, named p within names)),
    λ i below e. (
        let within : i < length are.runs = omega (arith, leader_count, below) in
        let at : (block_at blocks.leaders i).at ≡ address_of first (leader_run i).at = ap (λ (b : Block). b.at) (leader_is i within) in
        let count : length (block_at blocks.leaders i).words ≡ (leader_run i).count =
        ap (λ (b : Block). length b.words) (leader_is i within) ∙ count_is first words (leader_run i) (are.runs_are.are.ends i within).within in
        begins_leader k (behind_leader i k lt within (omega (arith, at, count, e)))),
  )

pub all_are_blocks : EachIsBlock
all_are_blocks first entry words blocks are = each_is_block first entry words blocks are

pub all_begin_one : EachBeginsOne
all_begin_one first entry words blocks are = begins_one first entry words blocks are

pub all_lead_to_leaders : LeadsToLeaders
all_lead_to_leaders first entry words blocks are = leads_to_leaders first entry words blocks are
