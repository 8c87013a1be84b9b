-- One more word marks leaders.
use Rattle.std.proofs.Common.{◌≡◌, ◌≢◌, ℕ, ◌+◌, ◌<◌, ◌⊎◌, inl, inr, List, Bool, true, false, length, set, sym, ◌∙◌, ap, subst, arith, get_or-set_same, get_or-set_other}
use Rattle.std.specs.Prelude.{slice_index_or}
use Rattle.std.proofs.lemmas.Bool.{cases_lt}
use Rattle.std.proofs.lemmas.Bool.Decides.{eqb_tells}
use Rattle.std.proofs.lemmas.List.{get_or_past}
use Rattle.block_find.specs.Prelude.{IsFlow, Names, IsIn, Marks, AreMarked, Gains}
use Rattle.block_find.specs.Marks.{zeroth, starts, named, behind_flow}

pub in_within : (xs : List Bool) (k : ℕ) → IsIn xs k → k < length xs
in_within xs k is = elim (cases_lt k (length xs)) [
  | inl lt ↦ lt
  | inr past ↦ (let no : true ≡ false = sym is ∙ get_or_past xs k false past in cc)
]

-- what is in a list in which one more is set
module _ (xs : List Bool) (t : ℕ) (lt : t < length xs) where
  pub is_set : IsIn (set xs t true) t
  is_set = get_or-set_same xs t true false lt

  pub still_in : (k : ℕ) → IsIn xs k → IsIn (set xs t true) k
  still_in k is = elim (eqb_tells k t) [
    | inl e ↦ ap (λ (j : ℕ). slice_index_or (set xs t true) j false) e.1 ∙ is_set
    | inr e ↦ get_or-set_other xs t k true false e.1 ∙ is
  ]

  pub was_in : (k : ℕ) → IsIn (set xs t true) k → (k ≡ t) ⊎ IsIn xs k
  was_in k is = elim (eqb_tells k t) [
    | inl e ↦ inl e.1
    | inr e ↦ inr (sym (get_or-set_other xs t k true false e.1) ∙ is)
  ]

-- the one place that is asked for is marked
pub gains_one : (xs : List Bool) (t : ℕ) (adds : ℕ → Type 0) → t < length xs → adds t → ((k : ℕ) → adds k → k ≡ t) → Gains xs adds (set xs t true)
gains_one xs t adds lt holds only k = (
  λ is. elim (was_in xs t lt k is) [
    | inl e ↦ inr (omega (arith, lt, e), subst adds (sym e) holds)
    | inr old ↦ inl old
  ],
  λ h. elim h [
    | inl old ↦ still_in xs t lt k old
    | inr new ↦ ap (λ (j : ℕ). slice_index_or (set xs t true) j false) (only k new.1) ∙ is_set xs t lt
  ],
)

pub gains_none : (xs : List Bool) (adds : ℕ → Type 0) → ((k : ℕ) → k < length xs → ¬ (adds k)) → Gains xs adds xs
gains_none xs adds none k = (
  λ is. inl is,
  λ h. elim h [ inl old ↦ old | inr new ↦ absurd (none k new.0 new.1) ],
)

module _ (first e : ℕ) (words : List ℕ) (place : ℕ) where
  one_more : (k : ℕ) → Marks first e words place k → Marks first e words (place + 1) k
  one_more k (zeroth x) = zeroth x
  one_more k (starts x) = starts x
  one_more k (named p lt x) = named p (omega arith) x
  one_more k (behind_flow p lt f x) = behind_flow p (omega arith) f x

  abbrev Behind : ℕ → Type 0
  Behind k = IsFlow words place × (place + 1 ≡ k)

  before_or_now : (k : ℕ) → Marks first e words (place + 1) k → Marks first e words place k ⊎ (Names first words place k ⊎ Behind k)
  before_or_now k (zeroth x) = inl (zeroth x)
  before_or_now k (starts x) = inl (starts x)
  before_or_now k (named p lt x) = elim (eqb_tells p place) [
    | inl s ↦ inr (inl (subst (λ (q : ℕ). Names first words q k) s.1 x))
    | inr s ↦ (let ne : p ≢ place = s.1 in inl (named p (omega arith) x))
  ]
  before_or_now k (behind_flow p lt f x) = elim (eqb_tells p place) [
    | inl s ↦ inr (inr (subst (λ (q : ℕ). IsFlow words q) s.1 f, ap (λ (q : ℕ). q + 1) (sym s.1) ∙ x))
    | inr s ↦ (let ne : p ≢ place = s.1 in inl (behind_flow p (omega arith) f x))
  ]

  pub marked_by : (marks middle after : List Bool) → AreMarked first e words place marks → length middle ≡ length words → length after ≡ length words
      → Gains marks (Names first words place) middle → Gains middle Behind after → place < length words → AreMarked first e words (place + 1) after
  marked_by marks middle after are m n names behind lt = record {
    count = n;
    each = λ k. (
      λ is. (let within = in_within after k is in (omega arith, why k is)),
      λ mark. elim (before_or_now k mark.1) [
        | inl old ↦ (behind k).1 (inl ((names k).1 (inl ((are.each k).1 (mark.0, old)))))
        | inr new ↦ elim new [
          | inl x ↦ (behind k).1 (inl ((names k).1 (inr (let c = are.count in let w = mark.0 in omega arith, x))))
          | inr x ↦ (behind k).1 (inr (let w = mark.0 in omega arith, x))
        ]
      ],
    );
  } where
    why : (k : ℕ) → IsIn after k → Marks first e words (place + 1) k
    why k is = elim ((behind k).0 is) [
      | inl early ↦ elim ((names k).0 early) [
        | inl old ↦ one_more k ((are.each k).0 old).1
        | inr new ↦ named place (omega arith) new.1
      ]
      | inr late ↦ behind_flow place (omega arith) late.1.0 late.1.1
    ]
