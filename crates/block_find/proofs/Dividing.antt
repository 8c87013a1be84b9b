-- The blocks of the leaders divide the words.
use Rattle.std.proofs.Common.{◌≡◌, ◌≢◌, ℕ, zero, suc, ◌+◌, ◌-◌, ◌<◌, ◌≤◌, ◌⊎◌, inl, inr, List, [], ◌∷◌, ◌++◌, Bool, length, refl, sym, ◌∙◌, ap, subst, arith}
use Rattle.std.specs.Prelude.{slice_index_or}
use Rattle.std.proofs.lemmas.Bool.{cases_lt}
use Rattle.std.proofs.lemmas.Bool.Decides.{eqb_tells}
use Rattle.std.proofs.lemmas.List.{get_or_append_left, get_or_push, get_or_default, get_or_past}
use Rattle.std.proofs.Math.ListN.{length-append}
use Rattle.block_find.specs.Prelude.{Run, most, IsIn, MayEnd, flow, leader, full, over, IsBlock, behind_full, AreLeaders, AreBlocks, AreAllBlocks, Divide, IsInRun, past, start, count_of}
use Rattle.block_find.specs.Blocks.{zeroth, behind_flow}

-- between a leader and the next one, or the end of the words, stands one block
module _ (first entry : ℕ) (words : List ℕ) (leads : List Bool) (leaders : AreLeaders first entry words (IsIn leads)) (at e : ℕ) (lead : IsIn leads at) (lt : at < e) (le : e ≤ length words)
    (none : (j : ℕ) → at < j → j < e → ¬ (IsIn leads j)) where
  -- no word ends the block earlier, unless it is number 64
  not_early : (j : ℕ) → 1 ≤ j → j < e - at → j ≢ 64 → MayEnd words (IsIn leads) at j → ⊥
  not_early j pos less ne (flow f) = none (at + j) (omega arith) (omega arith) ((leaders.each (at + j)).1 (omega arith, behind_flow (at + j - 1) (omega arith) f (omega arith)))
  not_early j pos less ne (leader l) = none (at + j) (omega arith) (omega arith) l
  not_early j pos less ne (full x) = ne x
  not_early j pos less ne (over x) = omega arith

  not_long : 64 < e - at → ⊥
  not_long long = none (at + 64) (omega arith) (omega arith) ((leaders.each (at + 64)).1 (omega arith, behind_full at lead block refl)) where
    block : IsBlock words (IsIn leads) at 64
    block = record {
      some = omega arith;
      within = omega arith;
      ends = full refl;
      not_before = λ j pos less. not_early j pos (omega arith) (omega arith);
    }

  pub gap_block : (e ≡ length words) ⊎ IsIn leads e → IsBlock words (IsIn leads) at (e - at)
  gap_block why = record {
    some = omega arith;
    within = omega arith;
    ends = ends why;
    not_before = λ j pos less. not_early j pos less (λ same. not_long (omega arith));
  } where
    to : at + (e - at) ≡ e
    to = omega arith

    ends : (e ≡ length words) ⊎ IsIn leads e → MayEnd words (IsIn leads) at (e - at)
    ends (inl x) = over (to ∙ x)
    ends (inr l) = leader (subst (λ (j : ℕ). IsIn leads j) (sym to) l)

  -- one block more
  pub one_more : (blocks : List Run) → AreBlocks words (IsIn leads) blocks at → (e ≡ length words) ⊎ IsIn leads e
      → AreBlocks words (IsIn leads) (blocks ++ record { at = at; count = e - at } ∷ []) e
  one_more blocks are why = record {
    from_first = begins 0 (omega arith) ∙ are.from_first;
    leads = λ i within. subst (λ (k : ℕ). IsIn leads k) (sym (begins i (omega (arith, more)))) (elim (cases_lt i (length blocks)) [
      | inl old ↦ are.leads i old
      | inr new ↦ subst (λ (k : ℕ). IsIn leads k) (sym (starts_at i (omega (arith, more)))) lead
    ]);
    ends = λ i within. elim (cases_lt i (length blocks)) [
      | inl old ↦ subst (λ (b : Run). IsBlock words (IsIn leads) b.at b.count) (sym (kept i old)) (are.ends i old)
      | inr new ↦ subst (λ (b : Run). IsBlock words (IsIn leads) b.at b.count) (sym (added i (omega (arith, more)))) (gap_block why)
    ];
    adjoins = λ i within. elim (cases_lt i (length blocks)) [
      | inl old ↦ ap (λ (b : Run). b.at + b.count) (kept i old) ∙ are.adjoins i old ∙ sym (begins (i + 1) (omega arith))
      | inr new ↦ ap (λ (b : Run). b.at + b.count) (added i (omega (arith, more))) ∙ to ∙ sym (ap (λ (b : Run). b.at) (get_or_past (blocks ++ last ∷ []) (i + 1) (past e) (omega (arith, more))))
    ];
  } where
    last : Run
    last = record { at = at; count = e - at }

    to : at + (e - at) ≡ e
    to = omega arith

    more : length (blocks ++ last ∷ []) ≡ length blocks + 1
    more = length-append blocks (last ∷ [])

    kept : (i : ℕ) → i < length blocks → slice_index_or (blocks ++ last ∷ []) i (past e) ≡ slice_index_or blocks i (past at)
    kept i lt = get_or_append_left blocks (last ∷ []) (past e) i lt ∙ get_or_default blocks i (past e) (past at) lt

    added : (i : ℕ) → i ≡ length blocks → slice_index_or (blocks ++ last ∷ []) i (past e) ≡ last
    added i same = get_or_push blocks last (past e) i (sym same)

    starts_at : (i : ℕ) → i ≡ length blocks → start blocks at i ≡ at
    starts_at i same = ap (λ (b : Run). b.at) (get_or_past blocks i (past at) (omega arith))

    begins : (i : ℕ) → i ≤ length blocks → start (blocks ++ last ∷ []) e i ≡ start blocks at i
    begins i le = elim (cases_lt i (length blocks)) [
      | inl lt ↦ ap (λ (b : Run). b.at) (kept i lt)
      | inr ge ↦ (let same : i ≡ length blocks = omega arith in ap (λ (b : Run). b.at) (added i same) ∙ sym (starts_at i same))
    ]

pub no_blocks : (words : List ℕ) (leads : List Bool) → AreBlocks words (IsIn leads) [] 0
no_blocks words leads = record {
  from_first = refl;
  leads = λ i lt. absurd (omega arith);
  ends = λ i lt. absurd (omega arith);
  adjoins = λ i lt. absurd (omega arith);
}

module _ (first entry : ℕ) (words : List ℕ) (leads : List Bool) (leaders : AreLeaders first entry words (IsIn leads)) (blocks : List Run)
    (are : AreBlocks words (IsIn leads) blocks (length words)) where
  abbrev at : ℕ → ℕ
  at i = start blocks (length words) i

  abbrev count : ℕ → ℕ
  count i = count_of blocks (length words) i

  next_higher : (i : ℕ) → i < length blocks → at i < at (i + 1)
  next_higher i lt = omega (arith, are.adjoins i lt, (are.ends i lt).some)

  higher : (d i : ℕ) → i + d < length blocks → at i < at (i + d + 1)
  higher zero i lt = subst (λ (j : ℕ). at i < at (j + 1)) (omega arith) (next_higher i (omega arith))
  higher (suc d) i lt =
      let before = higher d i (omega arith) in
      let next : at (i + d + 1) < at (i + d + 1 + 1) = next_higher (i + d + 1) (omega arith) in
      let same : i + d + 1 + 1 ≡ i + suc d + 1 = omega arith in
      let step : at (i + d + 1) < at (i + suc d + 1) = subst (λ (j : ℕ). at (i + d + 1) < at j) same next in
      omega arith

  rises : (i j : ℕ) → i < j → j ≤ length blocks → at i < at j
  rises i j lt le = subst (λ (k : ℕ). at i < at k) (let e : i + (j - i - 1) + 1 ≡ j = omega arith in e) (higher (j - i - 1) i (omega arith))

  found : (m k : ℕ) → m ≤ length blocks → k < at m → (i : ℕ) × IsInRun words blocks i k
  found zero k le lt = absurd (omega (arith, are.from_first))
  found (suc m) k le lt = elim (cases_lt k (at m)) [
    | inl below ↦ found m k (omega arith) below
    | inr here ↦ (let next : at m + count m ≡ at (suc m) = are.adjoins m (omega arith) ∙ ap (λ (j : ℕ). at j) (omega arith) in (m, (omega arith, here, omega arith)))
  ]

  ends_all : at (length blocks) ≡ length words
  ends_all = ap (λ (b : Run). b.at) (get_or_past blocks (length blocks) (past (length words)) (omega arith))

  covered : (k : ℕ) → k < length words → (i : ℕ) × IsInRun words blocks i k
  covered k lt = found (length blocks) k (omega arith) (omega (arith, ends_all))

  not_both : (i j k : ℕ) → i < j → IsInRun words blocks i k → IsInRun words blocks j k → ⊥
  not_both i j k lt a b =
      let end = are.adjoins i a.0 in
      let high = a.2 in let low = b.1 in let within = b.0 in
      elim (cases_lt (i + 1) j) [
        | inl far ↦ (let r = rises (i + 1) j far (omega arith) in omega arith)
        | inr near ↦ (let same : i + 1 ≡ j = omega arith in let r : at (i + 1) ≡ at j = ap (λ (x : ℕ). at x) same in omega arith)
      ]

  once : (i j k : ℕ) → IsInRun words blocks i k → IsInRun words blocks j k → i ≡ j
  once i j k a b = elim (cases_lt i j) [
    | inl lt ↦ absurd (not_both i j k lt a b)
    | inr le ↦ elim (cases_lt j i) [
      | inl lt ↦ absurd (not_both j i k lt b a)
      | inr ge ↦ omega arith
    ]
  ]

  short : (i : ℕ) → i < length blocks → count i ≤ most
  short i lt = elim (cases_lt 64 (count i)) [
    | inl long ↦ absurd ((are.ends i lt).not_before 64 (omega arith) long (full refl))
    | inr le ↦ le
  ]

  every : (k : ℕ) → IsIn leads k → (i : ℕ) × (i < length blocks) × (at i ≡ k)
  every k is =
      let found = covered k ((leaders.each k).0 is).0 in
      let i = found.0 in let inside = found.1 in (
        i,
        inside.0,
        elim (cases_lt (at i) k) [
          | inl lt ↦ (let to : at i + (k - at i) ≡ k = omega arith in let high = inside.2 in
              absurd ((are.ends i inside.0).not_before (k - at i) (omega arith) (omega arith) (leader (subst (λ (j : ℕ). IsIn leads j) (sym to) is))))
          | inr ge ↦ (let low = inside.1 in omega arith)
        ],
      )

  pub all_blocks : AreAllBlocks words (IsIn leads) blocks
  all_blocks = record { are = are; ascending = λ i j lt within. rises i j lt (omega arith); every = every }

  pub divide : Divide words blocks
  divide = record { covered = covered; once = once; short = short }

-- the blocks before a leader `at`, the last one before word `place`
pub record IsOpen (words : List ℕ) (leads : List Bool) (blocks : List Run) (at place : ℕ) : Type 0 where
  pub below : at < place
  pub lead : IsIn leads at
  pub none : (j : ℕ) → at < j → j < place → ¬ (IsIn leads j)
  pub before : AreBlocks words (IsIn leads) blocks at

module _ (first entry : ℕ) (words : List ℕ) (leads : List Bool) (leaders : AreLeaders first entry words (IsIn leads)) where
  pub open_first : 0 < length words → (blocks : List Run) → blocks ≡ [] → IsOpen words leads blocks 0 1
  open_first some blocks e = record {
    below = omega arith;
    lead = (leaders.each 0).1 (some, zeroth refl);
    none = λ j lo hi. absurd (omega arith);
    before = subst (λ (xs : List Run). AreBlocks words (IsIn leads) xs 0) (sym e) (no_blocks words leads);
  }

  module _ (blocks after : List Run) (at at' place : ℕ) (is : IsOpen words leads blocks at place) (lt : place < length words) where
    pub open_leader : IsIn leads place → after ≡ blocks ++ record { at = at; count = place - at } ∷ [] → at' ≡ place → IsOpen words leads after at' (place + 1)
    open_leader lead e same = subst (λ (x : ℕ). IsOpen words leads after x (place + 1)) (sym same) (record {
      below = omega arith;
      lead = lead;
      none = λ j lo hi. absurd (omega arith);
      before = subst (λ (xs : List Run). AreBlocks words (IsIn leads) xs place) (sym e)
          (let below = is.below in one_more first entry words leads leaders at place is.lead is.below (omega arith) is.none blocks is.before (inr lead));
    })

    pub open_other : ¬ (IsIn leads place) → after ≡ blocks → at' ≡ at → IsOpen words leads after at' (place + 1)
    open_other not e same = subst (λ (x : ℕ). IsOpen words leads after x (place + 1)) (sym same) (subst (λ (xs : List Run). IsOpen words leads xs at (place + 1)) (sym e) (record {
      below = let below = is.below in omega arith;
      lead = is.lead;
      none = λ j lo hi. elim (eqb_tells j place) [
        | inl here ↦ (λ h. not (subst (λ (i : ℕ). IsIn leads i) here.1 h))
        | inr ne ↦ (let other : j ≢ place = ne.1 in is.none j lo (omega arith))
      ];
      before = is.before;
    }))

  pub closed : (blocks after : List Run) (at place : ℕ) → IsOpen words leads blocks at place → place ≡ length words
      → after ≡ blocks ++ record { at = at; count = length words - at } ∷ [] → AreBlocks words (IsIn leads) after (length words)
  closed blocks after at place is done e = subst (λ (xs : List Run). AreBlocks words (IsIn leads) xs (length words)) (sym e)
      (let below = is.below in one_more first entry words leads leaders at (length words) is.lead (omega arith) (omega arith) (λ j lo hi. is.none j lo (omega arith)) blocks is.before (inl refl))
