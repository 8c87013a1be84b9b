-- Leaders are found from the marks, one word after another.
use Rattle.std.proofs.Common.{◌≡◌, ◌≢◌, ℕ, ◌+◌, ◌-◌, ◌<◌, ◌≤◌, ◌⊎◌, ◌↔◌, inl, inr, List, [], ◌∷◌, ◌++◌, Bool, true, false, length, get_or, ◌==◌, ◌||◌, if◌then◌else◌, refl, sym, ◌∙◌, ap, subst, arith}
use Rattle.std.specs.Prelude.{slice_index_or}
use Rattle.std.proofs.lemmas.Bool.{cases_lt}
use Rattle.std.proofs.lemmas.Bool.Decides.{eqb_tells}
use Rattle.std.proofs.lemmas.List.{get_or_append_left, get_or_push, get_or_default}
use Rattle.std.proofs.Math.ListN.{length-append}
use Rattle.block_find.specs.Blocks as say
use Rattle.block_find.specs.Prelude.{IsIn, MayEnd, flow, leader, full, over, IsBlock, Begins, AreLeaders, Marks, AreMarked, IsFar, AreCut, next_run_of}
use Rattle.block_find.specs.Marks as mark
use Rattle.block_find.proofs.Marking.{in_within}

-- what is in a list to which one more is added
module _ (xs : List Bool) (b : Bool) where
  abbrev More : List Bool
  More = xs ++ b ∷ []

  pub below : (k : ℕ) → k < length xs → slice_index_or More k false ≡ slice_index_or xs k false
  below k lt = get_or_append_left xs (b ∷ []) false k lt

  pub at_end : (k : ℕ) → length xs ≡ k → slice_index_or More k false ≡ b
  at_end k e = get_or_push xs b false k e

  in_more : (k : ℕ) → k < length xs → IsIn xs k → IsIn More k
  in_more k lt is = below k lt ∙ is

  in_less : (k : ℕ) → k < length xs → IsIn More k → IsIn xs k
  in_less k lt is = sym (below k lt) ∙ is

  far_more : (k : ℕ) → k ≤ length xs → IsFar xs k → IsFar More k
  far_more k le (j, e, is, none) = (j, e, in_more j (omega arith) is, λ i lo hi h. none i lo hi (in_less i (omega arith) h))

  far_less : (k : ℕ) → k ≤ length xs → IsFar More k → IsFar xs k
  far_less k le (j, e, is, none) = (j, e, in_less j (omega arith) is, λ i lo hi h. none i lo hi (in_more i (omega arith) h))

module _ (marks leads : List Bool) (place run : ℕ) (cut : AreCut marks leads place run) where
  old_each : (b : Bool) (k : ℕ) → k < place → IsIn (leads ++ b ∷ []) k ↔ IsIn marks k ⊎ IsFar (leads ++ b ∷ []) k
  old_each b k lt =
      let n = cut.count in (
        λ is. elim ((cut.each k lt).0 (in_less leads b k (omega arith) is)) [
          | inl m ↦ inl m
          | inr far ↦ inr (far_more leads b k (omega arith) far)
        ],
        λ h. in_more leads b k (omega arith) ((cut.each k lt).1 (elim h [
          | inl m ↦ inl m
          | inr far ↦ inr (far_less leads b k (omega arith) far)
        ])),
      )

  -- word `place` is a leader
  pub cut_here : (0 < place → IsIn marks place ⊎ (run ≡ 64)) → (place ≡ 0 → IsIn marks place) → AreCut marks (leads ++ true ∷ []) (place + 1) 1
  cut_here why zeroth =
      let n = cut.count in
      let more : length (leads ++ true ∷ []) ≡ place + 1 = length-append leads (true ∷ []) ∙ ap (λ (m : ℕ). m + 1) n in
      let here : IsIn (leads ++ true ∷ []) place = at_end leads true place n in
      record {
        count = more;
        short = omega arith;
        within = omega arith;
        started = λ _. omega arith;
        last = λ _. let e : place + 1 - 1 ≡ place = omega arith in subst (λ (j : ℕ). IsIn (leads ++ true ∷ []) j) (sym e) here;
        none_behind = λ j lo hi. absurd (omega arith);
        each = λ k lt. elim (eqb_tells k place) [
          | inl e ↦ subst (λ (j : ℕ). IsIn (leads ++ true ∷ []) j ↔ IsIn marks j ⊎ IsFar (leads ++ true ∷ []) j) (sym e.1) ((λ _. reason), (λ _. here))
          | inr e ↦ (let ne : k ≢ place = e.1 in old_each true k (omega arith))
        ];
      }
    where
      far : run ≡ 64 → 0 < place → IsFar (leads ++ true ∷ []) place
      far e pos = let within = cut.within in far_more leads true place (let n = cut.count in omega arith)
          (place - run, omega arith, cut.last (omega arith), cut.none_behind)

      reason : IsIn marks place ⊎ IsFar (leads ++ true ∷ []) place
      reason = elim (cases_lt 0 place) [
        | inl pos ↦ elim (why pos) [ inl m ↦ inl m | inr e ↦ inr (far e pos) ]
        | inr le ↦ inl (zeroth (omega arith))
      ]

  -- word `place` isn't a leader
  pub cut_behind : ¬ (IsIn marks place) → run ≢ 64 → 0 < place → AreCut marks (leads ++ false ∷ []) (place + 1) (run + 1)
  cut_behind unmarked ne pos =
      let n = cut.count in let short = cut.short in let within = cut.within in let started = cut.started pos in
      let more : length (leads ++ false ∷ []) ≡ place + 1 = length-append leads (false ∷ []) ∙ ap (λ (m : ℕ). m + 1) n in
      let same : place + 1 - (run + 1) ≡ place - run = omega arith in
      record {
        count = more;
        short = omega arith;
        within = omega arith;
        started = λ _. omega arith;
        last = λ _. subst (λ (j : ℕ). IsIn (leads ++ false ∷ []) j) (sym same) (in_more leads false (place - run) (omega arith) (cut.last started));
        none_behind = λ j lo hi is. elim (eqb_tells j place) [
          | inl e ↦ not_here (subst (λ (i : ℕ). IsIn (leads ++ false ∷ []) i) e.1 is)
          | inr e ↦ (let other : j ≢ place = e.1 in cut.none_behind j (omega arith) (omega arith) (in_less leads false j (omega arith) is))
        ];
        each = λ k lt. elim (eqb_tells k place) [
          | inl e ↦ subst (λ (j : ℕ). IsIn (leads ++ false ∷ []) j ↔ IsIn marks j ⊎ IsFar (leads ++ false ∷ []) j) (sym e.1) ((λ is. absurd (not_here is)), (λ h. absurd (no_reason h)))
          | inr e ↦ (let other : k ≢ place = e.1 in old_each false k (omega arith))
        ];
      }
    where
      not_here : IsIn (leads ++ false ∷ []) place → ⊥
      not_here is = let no : true ≡ false = sym is ∙ at_end leads false place cut.count in cc

      not_far : IsFar leads place → ⊥
      not_far (j, e, is, none) =
          let short = cut.short in let within = cut.within in let started = cut.started pos in
          none (place - run) (omega arith) (omega arith) (cut.last started)

      no_reason : IsIn marks place ⊎ IsFar (leads ++ false ∷ []) place → ⊥
      no_reason (inl m) = unmarked m
      no_reason (inr far) = not_far (far_less leads false place (let n = cut.count in omega arith) far)

  module _ (next : ℕ) (zeroth : place ≡ 0 → IsIn marks place) where
    is_one : next ≡ 1 → (0 < place → IsIn marks place ⊎ (run ≡ 64)) → AreCut marks (leads ++ (next == 1) ∷ []) (place + 1) next
    is_one e why = subst (λ (x : ℕ). AreCut marks (leads ++ (x == 1) ∷ []) (place + 1) x) (sym e) (cut_here why zeroth)

    one_more : next ≡ run + 1 → ¬ (IsIn marks place) → run ≢ 64 → 0 < place → AreCut marks (leads ++ (next == 1) ∷ []) (place + 1) next
    one_more e unmarked ne pos =
        let started = cut.started pos in
        elim (eqb_tells next 1) [
          | inl same ↦ (let one = same.1 in absurd (omega arith))
          | inr other ↦ subst (λ (b : Bool). AreCut marks (leads ++ b ∷ []) (place + 1) next) (sym other.0)
              (subst (λ (x : ℕ). AreCut marks (leads ++ false ∷ []) (place + 1) x) (sym e) (cut_behind unmarked ne pos))
        ]

    by_tests : (m t : Bool) → m ≡ slice_index_or marks place false → (t ≡ true → run ≡ 64) → (t ≡ false → run ≢ 64) → next ≡ (if (m || t) then 1 else run + 1)
        → AreCut marks (leads ++ (next == 1) ∷ []) (place + 1) next
    by_tests true t me far less e = is_one e (λ _. inl (sym me))
    by_tests false true me far less e = is_one e (λ _. inr (far refl))
    by_tests false false me far less e =
        let unmarked : ¬ (IsIn marks place) = λ is. (let no : false ≡ true = me ∙ is in cc) in
        one_more e unmarked (less refl) (elim (cases_lt 0 place) [ inl pos ↦ pos | inr le ↦ absurd (unmarked (zeroth (omega arith))) ])

  pub cut_more : (m : Bool) (next : ℕ) → (place ≡ 0 → IsIn marks place) → m ≡ get_or marks place m → place < length marks → next ≡ next_run_of m run
      → AreCut marks (leads ++ (next == 1) ∷ []) (place + 1) next
  cut_more m next zeroth me lt e = by_tests next zeroth m (run == 64) (me ∙ get_or_default marks place m false lt)
      (λ t. elim (eqb_tells run 64) [ inl s ↦ s.1 | inr s ↦ (let no : true ≡ false = sym t ∙ s.0 in cc) ])
      (λ f. elim (eqb_tells run 64) [ inl s ↦ (let no : true ≡ false = sym s.0 ∙ f in cc) | inr s ↦ s.1 ]) e

pub cut_none : (marks : List Bool) → AreCut marks [] 0 0
cut_none marks = record {
  count = refl;
  short = omega arith;
  within = omega arith;
  started = λ lt. absurd (omega arith);
  last = λ lt. absurd (omega arith);
  none_behind = λ j lo hi. absurd (omega arith);
  each = λ k lt. absurd (omega arith);
}

-- the leaders that are found are the leaders
module _ (first e : ℕ) (words : List ℕ) (marks leads : List Bool) (run : ℕ) (marked : AreMarked first e words (length words) marks) (cut : AreCut marks leads (length words) run) where
  marked_leads : (k : ℕ) → k < length words → Marks first e words (length words) k → IsIn leads k
  marked_leads k lt m = (cut.each k lt).1 (inl ((marked.each k).1 (lt, m)))

  block_of_far : (k j : ℕ) → k < length words → j + 64 ≡ k → ((i : ℕ) → j < i → i < k → ¬ (IsIn leads i)) → IsBlock words (IsIn leads) j 64
  block_of_far k j lt same none = record {
    some = omega arith;
    within = omega arith;
    ends = full refl;
    not_before = not_before;
  } where
    not_before : (i : ℕ) → 1 ≤ i → i < 64 → MayEnd words (IsIn leads) j i → ⊥
    not_before i pos less (flow f) = none (j + i) (omega arith) (omega arith) (marked_leads (j + i) (omega arith) (mark.behind_flow (j + i - 1) (omega arith) f (omega arith)))
    not_before i pos less (leader l) = none (j + i) (omega arith) (omega arith) l
    not_before i pos less (full x) = omega arith
    not_before i pos less (over x) = omega arith

  begins : (k : ℕ) → k < length words → IsIn marks k ⊎ IsFar leads k → Begins first e words (IsIn leads) k
  begins k lt (inl m) = by_mark (((marked.each k).0 m).1) where
    by_mark : Marks first e words (length words) k → Begins first e words (IsIn leads) k
    by_mark (mark.zeroth x) = say.zeroth x
    by_mark (mark.starts x) = say.starts x
    by_mark (mark.named p within x) = say.named p within x
    by_mark (mark.behind_flow p within f x) = say.behind_flow p within f x
  begins k lt (inr (j, same, is, none)) = say.behind_full j is (block_of_far k j lt same none) same

  leads_there : (k : ℕ) → k < length words → Begins first e words (IsIn leads) k → IsIn leads k
  leads_there k lt (say.zeroth x) = marked_leads k lt (mark.zeroth x)
  leads_there k lt (say.starts x) = marked_leads k lt (mark.starts x)
  leads_there k lt (say.named p within x) = marked_leads k lt (mark.named p within x)
  leads_there k lt (say.behind_flow p within f x) = marked_leads k lt (mark.behind_flow p within f x)
  leads_there k lt (say.behind_full p is block same) = (cut.each k lt).1 (inr (p, same, is, none)) where
    none : (i : ℕ) → p < i → i < k → IsIn leads i → ⊥
    none i lo hi h =
        let to : p + (i - p) ≡ i = omega arith in
        block.not_before (i - p) (omega arith) (omega arith) (leader (subst (λ (j : ℕ). IsIn leads j) (sym to) h))

  pub are_leaders : AreLeaders first e words (IsIn leads)
  are_leaders = record {
    each = λ k. (
      λ is. (let n = cut.count in let lt = in_within leads k is in let within : k < length words = omega arith in (within, begins k within ((cut.each k within).0 is))),
      λ h. leads_there k h.0 h.1,
    );
  }
