-- What looking at a watching clause keeps.
use Rattle.std.proofs.Common.{◌≡◌, ◌≢◌, ◌⊎◌, inl, inr, ℕ, ◌<◌, ◌≤◌, ◌+◌, ◌-◌, Bool, true, false, List, [], ◌∷◌, ◌++◌, ℤ, pos, neg_ℤ, length, take, set, get_or, refl, sym, subst, ap, ◌∙◌, arith, length-append, append-nil, true≢false}
use Rattle.std.proofs.lemmas.Bool.{false≢true, cases_eq}
use Rattle.std.specs.List.{All, Contains}
use Rattle.std.proofs.lemmas.List.Elements.{All-contains, Contains-append_left, Contains-append_right, Contains-append_cases, Contains-push, Contains-push_cases, Contains-get_or}
use Rattle.std.proofs.lemmas.List.{take-append-le, take_more, length-set, get_or-set_same, get_or-set_other, get_or_default, get_or_read}
use Rattle.std.proofs.Math.Seq.{take-length}
use Rattle.std.proofs.Math.IntN.{neg_ℤ-neg_ℤ}
use Rattle.word_kit.specs.Prelude.{AreClauses}
use Rattle.watched_literals.specs.Prelude.{IsMadeTrue, IsUnit, IsFalse, IsSettled, AllSettled, Grows, unset, Pair, code, IsWithin, IsWatch, no_pair, IsPair, IsStore, IsFree, IsTrueIn, IsStored, AllWatched, Moves, AreHandled, Rises, Fails, Propagator, Keeps, Rewatches, Visits}
use Rattle.watched_literals.specs.Propagation.IsMadeTrue.{unit}
use Rattle.watched_literals.proofs.Trails.{same_or_not, grows-unit, extends-on, Contains-take, neg-literal}
use Rattle.watched_literals.proofs.Truths.{code-injective}

pub Contains-none : {P : Type 0} (x : ℕ) → Contains [] x → P
Contains-none x h = absurd (omega (arith, h.1))

-- ---- CLOSURE: where no watch is false without a true literal beside it, each clause is settled

pub all-settled : (state : Propagator) (off : ℤ) (pending : List ℕ) (visited trail : List ℤ)
    → IsStored state off pending → AllWatched state.clauses.items state.pairs.items visited trail → AllSettled state.clauses.items visited trail
all-settled state off pending visited trail s a clause known =
    subst (IsSettled visited trail) is (go (a known.0 known.1))
  where
    is : get_or state.clauses.items known.0 [] ≡ clause
    is = get_or_default state.clauses.items known.0 [] clause known.1 ∙ known.2

    go : IsTrueIn trail (get_or state.clauses.items known.0 []) ⊎ IsFree visited (get_or state.pairs.items known.0 no_pair) → IsSettled visited trail (get_or state.clauses.items known.0 [])
    go (inl t) = inl t
    go (inr free) =
        let w = s.watched known.0 known.1 in
        inr ((get_or state.pairs.items known.0 no_pair).one, (get_or state.pairs.items known.0 no_pair).other, w.apart, w.one_in, w.other_in, free.0, free.1)

-- ---- a trail rises

pub rises-keeps : (clauses : List (List ℤ)) (old new : List ℤ) → Rises clauses old new → (x : ℤ) → Contains old x → Contains new x
rises-keeps clauses old new g x h = subst (λ xs. Contains xs x) (sym g.extends.1) (Contains-append_left old g.extends.0 x h)

pub rises-same : (clauses : List (List ℤ)) (trail : List ℤ) → Rises clauses trail trail
rises-same clauses trail = record {
  extends = ([], sym (append-nil trail));
  made = λ known among falses h. h;
  consistent = λ h. h;
  measured = omega arith;
}

pub rises-on : (clauses : List (List ℤ)) (a b c : List ℤ) → Rises clauses a b → Rises clauses b c → Rises clauses a c
rises-on clauses a b c g h = record {
  extends = extends-on a b c g.extends h.extends;
  made = λ known among falses m. h.made known among falses (g.made known among falses m);
  consistent = λ m. h.consistent (g.consistent m);
  measured = omega (arith, g.measured, h.measured);
}

store-clauses : (room : ℕ) (clauses : List (List ℤ)) → ((place : ℕ) → place < length clauses → All (IsWithin room) (get_or clauses place []))
    → AreClauses clauses
store-clauses room clauses within k d h j e i =
    let is = get_or_default clauses k d [] h in
    (subst (λ c. All (IsWithin room) c) (sym is) (within k h) j e i).is_literal

rises-unit : (room : ℕ) (clauses : List (List ℤ)) (place : ℕ) (trail : List ℤ) (literal : ℤ)
    → ((p : ℕ) → p < length clauses → All (IsWithin room) (get_or clauses p [])) → place < length clauses
    → IsUnit trail (get_or clauses place []) literal → Rises clauses trail (trail ++ literal ∷ [])
rises-unit room clauses place trail literal within h u = record {
  extends = (literal ∷ [], refl);
  made = λ known among falses made x m. elim (Contains-push_cases trail literal x m) [
    | inl before ↦ made x before
    | inr e ↦ subst (IsMadeTrue known falses) e
        (unit (get_or clauses place []) literal (among (get_or clauses place []) (Contains-get_or clauses place [] h)) u.inside
        (λ other i ne. made (neg_ℤ other) (u.others other i ne)))
  ];
  consistent = g.consistent;
  measured = g.measured;
}
  where
    g : Grows clauses trail (trail ++ literal ∷ [])
    g = grows-unit clauses trail (get_or clauses place []) literal (store-clauses room clauses within) (Contains-get_or clauses place [] h) u

fails-false : (clauses : List (List ℤ)) (place : ℕ) (trail : List ℤ) → place < length clauses → IsFalse trail (get_or clauses place []) → Fails clauses trail
fails-false clauses place trail h off known among falses made =
    (get_or clauses place [], among (get_or clauses place []) (Contains-get_or clauses place [] h), λ l i. made (neg_ℤ l) (off l i))

pub fails-risen : (clauses : List (List ℤ)) (old new : List ℤ) → Rises clauses old new → Fails clauses new → Fails clauses old
fails-risen clauses old new r f known among falses made = f known among falses (r.made known among falses made)

-- ---- watches move

pub moves-same : (trail : List ℤ) (pairs : List Pair) → Moves trail pairs pairs
moves-same trail pairs part sub place free = free

pub moves-on : (one two : List ℤ) (a b c : List Pair) → ((x : ℤ) → Contains one x → Contains two x) → Moves one a b → Moves two b c → Moves one a c
moves-on one two a b c up m n part sub place free = n part (λ x h. up x (sub x h)) place (m part sub place free)

moves-set : (trail : List ℤ) (pairs : List Pair) (place : ℕ) (one other : ℤ) → place < length pairs → IsWatch (get_or pairs place no_pair) other
    → (¬ Contains trail (neg_ℤ one)) → Moves trail pairs (set pairs place (record { one = one; other = other }))
moves-set trail pairs place one other h watch none part sub p free = elim (cases_eq p place) [
  | inl e ↦ subst (λ q. IsFree part (get_or (set pairs place new) q no_pair)) (sym e)
      (subst (IsFree part) (sym (get_or-set_same pairs place new no_pair h)) ((λ m. none (sub (neg_ℤ one) m)), λ m. kept (subst (λ q. IsFree part (get_or pairs q no_pair)) e free) watch m))
  | inr ne ↦ subst (IsFree part) (sym (get_or-set_other pairs place p new no_pair ne)) free
]
  where
    new : Pair
    new = record { one = one; other = other }

    kept : IsFree part (get_or pairs place no_pair) → IsWatch (get_or pairs place no_pair) other → Contains part (neg_ℤ other) → ⊥
    kept f (inl e) m = f.0 (subst (λ x. Contains part (neg_ℤ x)) e m)
    kept f (inr e) m = f.1 (subst (λ x. Contains part (neg_ℤ x)) e m)

-- ---- rows

pub row-more : (rows : List (List ℕ)) (k : ℕ) (more : List ℕ) (j p : ℕ) → k < length rows → Contains (get_or rows j []) p
    → Contains (get_or (set rows k (get_or rows k [] ++ more)) j []) p
row-more rows k more j p within h = elim (cases_eq j k) [
  | inl e ↦ subst (λ q. Contains (get_or (set rows k (get_or rows k [] ++ more)) q []) p) (sym e)
      (subst (λ r. Contains r p) (sym (get_or-set_same rows k (get_or rows k [] ++ more) [] within))
      (Contains-append_left (get_or rows k []) more p (subst (λ q. Contains (get_or rows q []) p) e h)))
  | inr ne ↦ subst (λ r. Contains r p) (sym (get_or-set_other rows k j (get_or rows k [] ++ more) [] ne)) h
]

pub row-here : (rows : List (List ℕ)) (k : ℕ) (more : List ℕ) (p : ℕ) → k < length rows → Contains more p
    → Contains (get_or (set rows k (get_or rows k [] ++ more)) k []) p
row-here rows k more p within h =
    subst (λ r. Contains r p) (sym (get_or-set_same rows k (get_or rows k [] ++ more) [] within)) (Contains-append_right (get_or rows k []) more p h)

pub row-cases : (rows : List (List ℕ)) (k : ℕ) (more : List ℕ) (j p : ℕ) → k < length rows → Contains (get_or (set rows k (get_or rows k [] ++ more)) j []) p
    → Contains (get_or rows j []) p ⊎ Contains more p
row-cases rows k more j p within h = elim (cases_eq j k) [
  | inl e ↦
      let m = subst (λ r. Contains r p) (get_or-set_same rows k (get_or rows k [] ++ more) [] within)
      (subst (λ q. Contains (get_or (set rows k (get_or rows k [] ++ more)) q []) p) e h) in
      elim (Contains-append_cases (get_or rows k []) more p m) [
        | inl a ↦ inl (subst (λ q. Contains (get_or rows q []) p) (sym e) a)
        | inr b ↦ inr b
      ]
  | inr ne ↦ inl (subst (λ r. Contains r p) (get_or-set_other rows k j (get_or rows k [] ++ more) [] ne) h)
]

pub one-of : (place p : ℕ) → Contains (place ∷ []) p → place ≡ p
one-of place p h = elim (Contains-push_cases [] place p h) [ inl none ↦ Contains-none p none | inr e ↦ e ]

-- the row of a literal with one place more
abbrev pub listed-in : List (List ℕ) → ℤ → ℕ → List (List ℕ)
listed-in rows literal place = set rows (code literal) (get_or rows (code literal) [] ++ place ∷ [])

-- a clause that stays in the row of `off`
store-keep : (state : Propagator) (off : ℤ) (pending : List ℕ) (place : ℕ)
    → code off < state.trail.room → IsStored state off (pending ++ place ∷ [])
    → IsStore state.trail.room state.clauses.items state.pairs.items (listed-in state.rows.items off place) off pending
store-keep state off pending place within s = record {
  paired = s.paired;
  rowed = length-set state.rows.items (code off) (get_or state.rows.items (code off) [] ++ place ∷ []) ∙ s.rowed;
  within = s.within;
  watched = s.watched;
  bounded = λ row p m. elim (row-cases state.rows.items (code off) (place ∷ []) row p k m) [
    | inl h ↦ s.bounded row p h
    | inr h ↦ s.awaited p (Contains-append_right pending (place ∷ []) p h)
  ];
  awaited = λ p m. s.awaited p (Contains-append_left pending (place ∷ []) p m);
  complete = λ p h literal w. elim (s.complete p h literal w) [
    | inl m ↦ inl (row-more state.rows.items (code off) (place ∷ []) (code literal) p k m)
    | inr m ↦ elim (Contains-append_cases pending (place ∷ []) p m.1) [
      | inl before ↦ inr (m.0, before)
      | inr here ↦ inl (subst (λ l. Contains (get_or (listed-in state.rows.items off place) (code l) []) p) (sym m.0)
          (row-here state.rows.items (code off) (place ∷ []) p k here))
    ]
  ];
}
  where
    k : code off < length state.rows.items
    k = omega (arith, within, s.rowed)

-- a clause one of whose watches moves from `off` to another literal
store-move : (state : Propagator) (off : ℤ) (pending : List ℕ) (place : ℕ) (one other : ℤ)
    → IsStored state off (pending ++ place ∷ []) → place < length state.clauses.items → Contains (get_or state.clauses.items place []) one → one ≢ other
    → IsWatch (get_or state.pairs.items place no_pair) other → other ≢ off → code one < state.trail.room
    → IsStore state.trail.room state.clauses.items (set state.pairs.items place (record { one = one; other = other })) (listed-in state.rows.items one place) off pending
store-move state off pending place one other s inside one_in apart watch ne within = record {
  paired = length-set state.pairs.items place new ∙ s.paired;
  rowed = length-set state.rows.items (code one) (get_or state.rows.items (code one) [] ++ place ∷ []) ∙ s.rowed;
  within = s.within;
  watched = λ p h. elim (cases_eq p place) [
    | inl e ↦ subst (λ q. IsPair (get_or state.clauses.items q []) (get_or (set state.pairs.items place new) q no_pair)) (sym e)
        (subst (IsPair (get_or state.clauses.items place [])) (sym (get_or-set_same state.pairs.items place new no_pair j))
        (record { one_in = one_in; other_in = other_in watch; apart = apart }))
    | inr away ↦ subst (IsPair (get_or state.clauses.items p [])) (sym (get_or-set_other state.pairs.items place p new no_pair away)) (s.watched p h)
  ];
  bounded = λ row p m. elim (row-cases state.rows.items (code one) (place ∷ []) row p k m) [
    | inl h ↦ s.bounded row p h
    | inr h ↦ s.awaited p (Contains-append_right pending (place ∷ []) p h)
  ];
  awaited = λ p m. s.awaited p (Contains-append_left pending (place ∷ []) p m);
  complete = λ p h literal w. elim (cases_eq p place) [
    | inl e ↦ here p e literal (subst (λ q. IsWatch q literal) (ap (λ q. get_or (set state.pairs.items place new) q no_pair) e ∙ get_or-set_same state.pairs.items place new no_pair j) w)
    | inr away ↦ elim (s.complete p h literal (subst (λ q. IsWatch q literal) (get_or-set_other state.pairs.items place p new no_pair away) w)) [
      | inl m ↦ inl (row-more state.rows.items (code one) (place ∷ []) (code literal) p k m)
      | inr m ↦ elim (Contains-append_cases pending (place ∷ []) p m.1) [
        | inl before ↦ inr (m.0, before)
        | inr same ↦ absurd (away (sym (one-of place p same)))
      ]
    ]
  ];
}
  where
    new : Pair
    new = record { one = one; other = other }

    k : code one < length state.rows.items
    k = omega (arith, within, s.rowed)

    j : place < length state.pairs.items
    j = omega (arith, inside, s.paired)

    other_in : IsWatch (get_or state.pairs.items place no_pair) other → Contains (get_or state.clauses.items place []) other
    other_in (inl e) = subst (Contains (get_or state.clauses.items place [])) (sym e) (s.watched place inside).one_in
    other_in (inr e) = subst (Contains (get_or state.clauses.items place [])) (sym e) (s.watched place inside).other_in

    after : List (List ℕ)
    after = set state.rows.items (code one) (get_or state.rows.items (code one) [] ++ place ∷ [])

    here : (p : ℕ) → p ≡ place → (literal : ℤ) → IsWatch new literal → Contains (get_or after (code literal) []) p ⊎ ((literal ≡ off) × Contains pending p)
    here p e literal (inl is) = inl (subst (λ l. Contains (get_or after (code l) []) p) (sym is)
        (row-here state.rows.items (code one) (place ∷ []) p k (0, omega arith, sym e)))
    here p e literal (inr is) = elim (s.complete place inside other watch) [
      | inl m ↦ inl (subst (λ l. Contains (get_or after (code l) []) p) (sym is)
          (row-more state.rows.items (code one) (place ∷ []) (code other) p k (subst (Contains (get_or state.rows.items (code other) [])) (sym e) m)))
      | inr m ↦ absurd (ne m.0)
    ]

-- the row of `off` is taken out
pub store-start : (state : Propagator) (off any : ℤ) → code off < state.trail.room
    → IsStored state any [] → IsStore state.trail.room state.clauses.items state.pairs.items (set state.rows.items (code off) []) off (get_or state.rows.items (code off) [])
store-start state off any within s = record {
  paired = s.paired;
  rowed = length-set state.rows.items (code off) [] ∙ s.rowed;
  within = s.within;
  watched = s.watched;
  bounded = λ row p m. elim (cases_eq row (code off)) [
    | inl e ↦ Contains-none p (subst (λ r. Contains r p) (ap (λ q. get_or (set state.rows.items (code off) []) q []) e ∙ get_or-set_same state.rows.items (code off) [] [] k) m)
    | inr ne ↦ s.bounded row p (subst (λ r. Contains r p) (get_or-set_other state.rows.items (code off) row [] [] ne) m)
  ];
  awaited = λ p m. s.bounded (code off) p m;
  complete = λ p h literal w. elim (s.complete p h literal w) [
    | inl m ↦ elim (cases_eq (code literal) (code off)) [
      | inl e ↦ inr (code-injective literal off e, subst (λ q. Contains (get_or state.rows.items q []) p) e m)
      | inr ne ↦ inl (subst (λ r. Contains r p) (sym (get_or-set_other state.rows.items (code off) (code literal) [] [] ne)) m)
    ]
    | inr m ↦ Contains-none p m.1
  ];
}
  where
    k : code off < length state.rows.items
    k = omega (arith, within, s.rowed)

-- what is pending goes back into the row of `off`
pub store-back : (state : Propagator) (off any : ℤ) (pending : List ℕ) → code off < state.trail.room
    → IsStored state off pending
    → IsStore state.trail.room state.clauses.items state.pairs.items (set state.rows.items (code off) (get_or state.rows.items (code off) [] ++ pending)) any []
store-back state off any pending within s = record {
  paired = s.paired;
  rowed = length-set state.rows.items (code off) (get_or state.rows.items (code off) [] ++ pending) ∙ s.rowed;
  within = s.within;
  watched = s.watched;
  bounded = λ row p m. elim (row-cases state.rows.items (code off) pending row p k m) [ inl h ↦ s.bounded row p h | inr h ↦ s.awaited p h ];
  awaited = λ p m. Contains-none p m;
  complete = λ p h literal w. elim (s.complete p h literal w) [
    | inl m ↦ inl (row-more state.rows.items (code off) pending (code literal) p k m)
    | inr m ↦ inl (subst (λ l. Contains (get_or (set state.rows.items (code off) (get_or state.rows.items (code off) [] ++ pending)) (code l) []) p) (sym m.0)
        (row-here state.rows.items (code off) pending p k m.1))
  ];
}
  where
    k : code off < length state.rows.items
    k = omega (arith, within, s.rowed)

-- nothing is pending any more
pub store-end : (state : Propagator) (off any : ℤ)
    → IsStored state off [] → IsStored state any []
store-end state off any s = record {
  paired = s.paired;
  rowed = s.rowed;
  within = s.within;
  watched = s.watched;
  bounded = s.bounded;
  awaited = s.awaited;
  complete = λ p h literal w. elim (s.complete p h literal w) [ inl m ↦ inl m | inr m ↦ Contains-none p m.1 ];
}

-- ---- what is handled

pub true-more : (old new clause : List ℤ) → ((x : ℤ) → Contains old x → Contains new x) → IsTrueIn old clause → IsTrueIn new clause
true-more old new clause up t = (t.0, t.1, up t.0 t.2)

handled-keep : (clauses : List (List ℤ)) (off : ℤ) (pairs : List Pair) (pending : List ℕ) (place : ℕ) (old new : List ℤ)
    → ((x : ℤ) → Contains old x → Contains new x) → IsTrueIn new (get_or clauses place [])
    → AreHandled clauses off pairs (pending ++ place ∷ []) old → AreHandled clauses off pairs pending new
handled-keep clauses off pairs pending place old new up t h p within w = elim (h p within w) [
  | inl m ↦ elim (Contains-push_cases pending place p m) [
    | inl before ↦ inl before
    | inr e ↦ inr (subst (λ q. IsTrueIn new (get_or clauses q [])) e t)
  ]
  | inr is ↦ inr (true-more old new (get_or clauses p []) up is)
]

handled-move : (clauses : List (List ℤ)) (off : ℤ) (pairs : List Pair) (pending : List ℕ) (place : ℕ) (trail : List ℤ) (one other : ℤ)
    → place < length pairs → one ≢ off → other ≢ off
    → AreHandled clauses off pairs (pending ++ place ∷ []) trail
    → AreHandled clauses off (set pairs place (record { one = one; other = other })) pending trail
handled-move clauses off pairs pending place trail one other j not_one not_other h p within w = elim (cases_eq p place) [
  | inl e ↦ absurd (not_here (subst (λ q. IsWatch q off) (ap (λ q. get_or (set pairs place new) q no_pair) e ∙ get_or-set_same pairs place new no_pair j) w))
  | inr ne ↦ elim (h p within (subst (λ q. IsWatch q off) (get_or-set_other pairs place p new no_pair ne) w)) [
    | inl m ↦ elim (Contains-push_cases pending place p m) [
      | inl before ↦ inl before
      | inr e ↦ absurd (ne (sym e))
    ]
    | inr is ↦ inr is
  ]
]
  where
    new : Pair
    new = record { one = one; other = other }

    not_here : IsWatch new off → ⊥
    not_here (inl e) = not_one (sym e)
    not_here (inr e) = not_other (sym e)

-- ---- the cases of `rewatch`

flip : (x y : ℤ) → neg_ℤ x ≡ y → x ≡ neg_ℤ y
flip x y e = sym (neg_ℤ-neg_ℤ x) ∙ ap neg_ℤ e

-- a state with the same clauses, and these watches, rows, pending places and true literals
pub record Becomes (old new : Propagator) (watched : List Pair) (listed : List (List ℕ)) (awaited : List ℕ) (true_now : List ℤ) : Type 0 where
  pub keeps : Keeps old new
  pub pairs : new.pairs.items ≡ watched
  pub rows : new.rows.items ≡ listed
  pub pending : new.pending ≡ awaited
  pub literals : new.trail.literals ≡ true_now

stored-becomes : (old new : Propagator) (pairs : List Pair) (rows : List (List ℕ)) (pending : List ℕ) (literals : List ℤ) (off : ℤ) (places : List ℕ)
    → Becomes old new pairs rows pending literals → IsStore old.trail.room old.clauses.items pairs rows off places → IsStored new off places
stored-becomes old new pairs rows pending literals off places b s =
    subst (λ n. IsStore n new.clauses.items new.pairs.items new.rows.items off places) (sym b.keeps.room)
    (subst (λ cs. IsStore old.trail.room cs new.pairs.items new.rows.items off places) (sym b.keeps.clauses)
    (subst (λ ps. IsStore old.trail.room old.clauses.items ps new.rows.items off places) (sym b.pairs)
    (subst (λ rs. IsStore old.trail.room old.clauses.items pairs rs off places) (sym b.rows) s)))

handled-becomes : (old new : Propagator) (pairs : List Pair) (rows : List (List ℕ)) (pending : List ℕ) (literals : List ℤ) (off : ℤ) (places : List ℕ)
    → Becomes old new pairs rows pending literals → AreHandled old.clauses.items off pairs places literals
    → AreHandled new.clauses.items off new.pairs.items places new.trail.literals
handled-becomes old new pairs rows pending literals off places b h =
    subst (λ cs. AreHandled cs off new.pairs.items places new.trail.literals) (sym b.keeps.clauses)
    (subst (λ ps. AreHandled old.clauses.items off ps places new.trail.literals) (sym b.pairs)
    (subst (λ xs. AreHandled old.clauses.items off pairs places xs) (sym b.literals) h))

rewatched : (off : ℤ) (place : ℕ) (old new : Propagator) (pairs : List Pair) (rows : List (List ℕ)) (pending : List ℕ) (literals : List ℤ) (fails : Bool)
    → Becomes old new pairs rows pending literals → IsStore old.trail.room old.clauses.items pairs rows off pending
    → Moves old.trail.literals old.pairs.items pairs → Rises old.clauses.items old.trail.literals literals
    → (AreHandled old.clauses.items off old.pairs.items (old.pending ++ place ∷ []) old.trail.literals → AreHandled old.clauses.items off pairs pending literals)
    → (fails ≡ true → Fails old.clauses.items old.trail.literals) → (fails ≡ false → pending ≡ old.pending)
    → Rewatches off place old new fails
rewatched off place old new pairs rows pending literals fails b s m r h f rest = record {
  stored = subst (IsStored new off) (sym b.pending) (stored-becomes old new pairs rows pending literals off pending b s);
  moves = subst (Moves old.trail.literals old.pairs.items) (sym b.pairs) m;
  rises = subst (Rises old.clauses.items old.trail.literals) (sym b.literals) r;
  handled = λ k. subst (λ ps. AreHandled new.clauses.items off new.pairs.items ps new.trail.literals) (sym b.pending)
      (handled-becomes old new pairs rows pending literals off pending b (h k));
  failure = f;
  rest = λ e. b.pending ∙ rest e;
}

watch-in : (s : Propagator) (off : ℤ) (pending : List ℕ) (place : ℕ) (other : ℤ) → IsStored s off pending → place < length s.clauses.items
    → IsWatch (get_or s.pairs.items place no_pair) other → Contains (get_or s.clauses.items place []) other
watch-in s off pending place other h inside (inl e) = subst (Contains (get_or s.clauses.items place [])) (sym e) (h.watched place inside).one_in
watch-in s off pending place other h inside (inr e) = subst (Contains (get_or s.clauses.items place [])) (sym e) (h.watched place inside).other_in

pub rewatch-true : (old new : Propagator) (off : ℤ) (place : ℕ) (other : ℤ) → IsStored old off (old.pending ++ place ∷ [])
    → code off < old.trail.room → IsWatch (get_or old.pairs.items place no_pair) other → Contains old.trail.literals other
    → Becomes old new old.pairs.items (listed-in old.rows.items off place) old.pending old.trail.literals
    → Rewatches off place old new false
rewatch-true old new off place other s within watch is_true b =
    rewatched off place old new old.pairs.items (listed-in old.rows.items off place) old.pending old.trail.literals false b
    (store-keep old off old.pending place within s)
    (moves-same old.trail.literals old.pairs.items) (rises-same old.clauses.items old.trail.literals)
    (handled-keep old.clauses.items off old.pairs.items old.pending place old.trail.literals old.trail.literals (λ x m. m)
    (other, watch-in old off (old.pending ++ place ∷ []) place other s (s.awaited place (Contains-push old.pending place)) watch, is_true))
    (λ e. absurd (false≢true e)) (λ e. refl)

pub rewatch-move : (old new : Propagator) (off : ℤ) (place : ℕ) (one other : ℤ) → IsStored old off (old.pending ++ place ∷ [])
    → IsWatch (get_or old.pairs.items place no_pair) other → other ≢ off → Contains old.trail.literals (neg_ℤ off)
    → Contains (get_or old.clauses.items place []) one → one ≢ other → (¬ Contains old.trail.literals (neg_ℤ one))
    → Becomes old new (set old.pairs.items place (record { one = one; other = other })) (listed-in old.rows.items one place) old.pending old.trail.literals
    → Rewatches off place old new false
rewatch-move old new off place one other s watch ne false_off one_in apart none b =
    rewatched off place old new (set old.pairs.items place (record { one = one; other = other })) (listed-in old.rows.items one place) old.pending old.trail.literals false b
    (store-move old off old.pending place one other s inside one_in apart watch ne
    (All-contains (IsWithin old.trail.room) (get_or old.clauses.items place []) one (s.within place inside) one_in).code_in)
    (moves-set old.trail.literals old.pairs.items place one other j watch none) (rises-same old.clauses.items old.trail.literals)
    (handled-move old.clauses.items off old.pairs.items old.pending place old.trail.literals one other j
    (λ e. none (subst (λ x. Contains old.trail.literals (neg_ℤ x)) (sym e) false_off)) ne)
    (λ e. absurd (false≢true e)) (λ e. refl)
  where
    inside : place < length old.clauses.items
    inside = s.awaited place (Contains-push old.pending place)

    j : place < length old.pairs.items
    j = omega (arith, inside, s.paired)

pub rewatch-false : (old new : Propagator) (off : ℤ) (place : ℕ) (other : ℤ) → IsStored old off (old.pending ++ place ∷ [])
    → Contains old.trail.literals (neg_ℤ other)
    → ((l : ℤ) → Contains (get_or old.clauses.items place []) l → l ≢ other → Contains old.trail.literals (neg_ℤ l))
    → Becomes old new old.pairs.items old.rows.items (old.pending ++ place ∷ []) old.trail.literals
    → Rewatches off place old new true
rewatch-false old new off place other s off_other others b =
    rewatched off place old new old.pairs.items old.rows.items (old.pending ++ place ∷ []) old.trail.literals true b s
    (moves-same old.trail.literals old.pairs.items) (rises-same old.clauses.items old.trail.literals) (λ h. h)
    (λ e. fails-false old.clauses.items place old.trail.literals (s.awaited place (Contains-push old.pending place)) (λ l i. elim (same_or_not l other) [
      | inl same ↦ subst (λ x. Contains old.trail.literals (neg_ℤ x)) (sym same) off_other
      | inr ne ↦ others l i ne
    ]))
    (λ e. absurd (true≢false e))

pub unit-of : (s : Propagator) (off : ℤ) (pending : List ℕ) (place : ℕ) (other : ℤ)
    → IsStored s off pending → place < length s.clauses.items → IsWatch (get_or s.pairs.items place no_pair) other
    → (¬ Contains s.trail.literals other) → (¬ Contains s.trail.literals (neg_ℤ other))
    → ((l : ℤ) → Contains (get_or s.clauses.items place []) l → l ≢ other → Contains s.trail.literals (neg_ℤ l))
    → IsUnit s.trail.literals (get_or s.clauses.items place []) other
unit-of s off pending place other h inside watch not_true not_false others =
    record { inside = watch-in s off pending place other h inside watch; not_true = not_true; not_false = not_false; others = others }

pub rewatch-unit : (old new : Propagator) (off : ℤ) (place : ℕ) (other : ℤ) → IsStored old off (old.pending ++ place ∷ [])
    → code off < old.trail.room → IsUnit old.trail.literals (get_or old.clauses.items place []) other
    → Becomes old new old.pairs.items (listed-in old.rows.items off place) old.pending (old.trail.literals ++ other ∷ [])
    → Rewatches off place old new false
rewatch-unit old new off place other s within u b =
    rewatched off place old new old.pairs.items (listed-in old.rows.items off place) old.pending (old.trail.literals ++ other ∷ []) false b
    (store-keep old off old.pending place within s)
    (moves-same old.trail.literals old.pairs.items)
    (rises-unit old.trail.room old.clauses.items place old.trail.literals other s.within (s.awaited place (Contains-push old.pending place)) u)
    (handled-keep old.clauses.items off old.pairs.items old.pending place old.trail.literals (old.trail.literals ++ other ∷ [])
    (λ x m. Contains-append_left old.trail.literals (other ∷ []) x m) (other, u.inside, Contains-push old.trail.literals other))
    (λ e. absurd (false≢true e)) (λ e. refl)

-- ---- the clauses that watch a literal are visited

pub keeps-on : (a b c : Propagator) → Keeps a b → Keeps b c → Keeps a c
keeps-on a b c k l = record { clauses = l.clauses ∙ k.clauses; room = l.room ∙ k.room; refuted = l.refuted ∙ k.refuted }

pub keeps-same : (s : Propagator) → Keeps s s
keeps-same s = record { clauses = refl; room = refl; refuted = refl }

pub record IsVisiting (off : ℤ) (first s : Propagator) (pending : List ℕ) : Type 0 where
  pub keeps : Keeps first s
  pub stored : IsStored s off pending
  pub moves : Moves first.trail.literals first.pairs.items s.pairs.items
  pub rises : Rises first.clauses.items first.trail.literals s.trail.literals
  pub handled : AreHandled s.clauses.items off s.pairs.items pending s.trail.literals

-- the row of `off` was taken out
pub visiting-begin : (first s : Propagator) (off any : ℤ) (row : ℕ) (seen : List ℕ) → IsWithin first.trail.room off → IsStored first any []
    → row ≡ code off → seen ≡ get_or first.rows.items row seen → first.pending ≡ []
    → Becomes first s first.pairs.items (set first.rows.items row first.pending) seen first.trail.literals
    → IsVisiting off first s s.pending
visiting-begin first s off any row seen within h at is none b = record {
  keeps = b.keeps;
  stored = subst (IsStored s off) (sym own) (stored-becomes first s first.pairs.items (set rows row first.pending) seen first.trail.literals off (get_or rows (code off) []) b
      (subst (λ xs. IsStore first.trail.room first.clauses.items first.pairs.items (set rows row xs) off (get_or rows (code off) [])) (sym none)
      (subst (λ k. IsStore first.trail.room first.clauses.items first.pairs.items (set rows k []) off (get_or rows (code off) [])) (sym at)
      (store-start first off any within.code_in h))));
  moves = subst (Moves first.trail.literals first.pairs.items) (sym b.pairs) (moves-same first.trail.literals first.pairs.items);
  rises = subst (Rises first.clauses.items first.trail.literals) (sym b.literals) (rises-same first.clauses.items first.trail.literals);
  handled = subst (λ ps. AreHandled s.clauses.items off s.pairs.items ps s.trail.literals) (sym own)
      (handled-becomes first s first.pairs.items (set rows row first.pending) seen first.trail.literals off (get_or rows (code off) []) b
      (λ p i w. elim (h.complete p i off w) [ inl m ↦ inl m | inr m ↦ Contains-none p m.1 ]));
}
  where
    rows : List (List ℕ)
    rows = first.rows.items

    own : s.pending ≡ get_or first.rows.items (code off) []
    own = b.pending ∙ get_or_read first.rows.items row seen (omega (arith, at, within.code_in, h.rowed)) is [] ∙ ap (λ k. get_or first.rows.items k []) at

-- a place was taken out of the pending ones, and all else stays
pub visiting-popped : (off : ℤ) (place : ℕ) (first old new : Propagator) → old.pending ≡ new.pending ++ place ∷ [] → new.clauses ≡ old.clauses
    → new.pairs ≡ old.pairs → new.rows ≡ old.rows → new.trail ≡ old.trail → new.refuted ≡ old.refuted
    → IsVisiting off first old old.pending → IsVisiting off first new (new.pending ++ place ∷ [])
visiting-popped off place first old new e clauses pairs rows trail refuted v = record {
  keeps = record {
    clauses = ap (λ cs. cs.items) clauses ∙ v.keeps.clauses;
    room = ap (λ t. t.room) trail ∙ v.keeps.room;
    refuted = refuted ∙ v.keeps.refuted;
  };
  stored = subst (λ t. IsStore t.room new.clauses.items new.pairs.items new.rows.items off (new.pending ++ place ∷ [])) (sym trail)
      (subst (λ cs. IsStore old.trail.room cs.items new.pairs.items new.rows.items off (new.pending ++ place ∷ [])) (sym clauses)
      (subst (λ ps. IsStore old.trail.room old.clauses.items ps.items new.rows.items off (new.pending ++ place ∷ [])) (sym pairs)
      (subst (λ rs. IsStore old.trail.room old.clauses.items old.pairs.items rs.items off (new.pending ++ place ∷ [])) (sym rows)
      (subst (IsStored old off) e v.stored))));
  moves = subst (λ ps. Moves first.trail.literals first.pairs.items ps.items) (sym pairs) v.moves;
  rises = subst (λ t. Rises first.clauses.items first.trail.literals t.literals) (sym trail) v.rises;
  handled = subst (λ t. AreHandled new.clauses.items off new.pairs.items (new.pending ++ place ∷ []) t.literals) (sym trail)
      (subst (λ cs. AreHandled cs.items off new.pairs.items (new.pending ++ place ∷ []) old.trail.literals) (sym clauses)
      (subst (λ ps. AreHandled old.clauses.items off ps.items (new.pending ++ place ∷ []) old.trail.literals) (sym pairs)
      (subst (λ p. AreHandled old.clauses.items off old.pairs.items p old.trail.literals) e v.handled)));
}

pub visiting-more : (off : ℤ) (place : ℕ) (first mid new : Propagator) (fails : Bool) → IsVisiting off first mid (mid.pending ++ place ∷ [])
    → Keeps mid new → Rewatches off place mid new fails → IsVisiting off first new new.pending
visiting-more off place first mid new fails v k r = record {
  keeps = keeps-on first mid new v.keeps k;
  stored = r.stored;
  moves = moves-on first.trail.literals mid.trail.literals first.pairs.items mid.pairs.items new.pairs.items
      (rises-keeps first.clauses.items first.trail.literals mid.trail.literals v.rises) v.moves r.moves;
  rises = rises-on first.clauses.items first.trail.literals mid.trail.literals new.trail.literals v.rises
      (subst (λ cs. Rises cs mid.trail.literals new.trail.literals) v.keeps.clauses r.rises);
  handled = r.handled v.handled;
}

-- a clause is false, and what is pending went back into the row of `off`
pub visits-ended : (literal off : ℤ) (place : ℕ) (first mid new last : Propagator) (row : ℕ) (own appended rest : List ℕ) (fails : Bool)
    → IsWithin first.trail.room off → IsVisiting off first mid (mid.pending ++ place ∷ []) → Keeps mid new → Rewatches off place mid new fails → fails ≡ true
    → row ≡ code off → own ≡ get_or new.rows.items row own → appended ≡ own ++ new.pending → rest ≡ []
    → Becomes new last new.pairs.items (set new.rows.items row appended) rest new.trail.literals
    → Visits literal first last true
visits-ended literal off place first mid new last row own appended rest fails within v k r is_false at is e none b = record {
  stored = stored-becomes new last new.pairs.items (set new.rows.items row appended) rest new.trail.literals (pos 0) [] b
      (subst (λ xs. IsStore new.trail.room new.clauses.items new.pairs.items (set new.rows.items row xs) (pos 0) []) (sym g)
      (subst (λ n. IsStore new.trail.room new.clauses.items new.pairs.items (set new.rows.items n (get_or new.rows.items (code off) [] ++ new.pending)) (pos 0) []) (sym at)
      (store-back new off (pos 0) new.pending in_room r.stored)));
  idle = b.pending ∙ none;
  moves = subst (Moves first.trail.literals first.pairs.items) (sym b.pairs) next.moves;
  rises = subst (Rises first.clauses.items first.trail.literals) (sym b.literals) next.rises;
  handled = λ h. absurd (h refl);
  failure = λ t. fails-risen first.clauses.items first.trail.literals mid.trail.literals v.rises
      (subst (λ cs. Fails cs mid.trail.literals) v.keeps.clauses (r.failure is_false));
}
  where
    next : IsVisiting off first new new.pending
    next = visiting-more off place first mid new fails v k r

    in_room : code off < new.trail.room
    in_room = omega (arith, within.code_in, next.keeps.room)

    g : appended ≡ get_or new.rows.items (code off) [] ++ new.pending
    g = e ∙ ap (λ o. o ++ new.pending)
        (get_or_read new.rows.items row own (omega (arith, at, in_room, r.stored.rowed)) is [] ∙ ap (λ n. get_or new.rows.items n []) at)

-- no place is left
pub visits-done : (literal off : ℤ) (first s last : Propagator) → off ≡ neg_ℤ literal → s.pending ≡ [] → IsVisiting off first s s.pending
    → Becomes s last s.pairs.items s.rows.items [] s.trail.literals → Visits literal first last false
visits-done literal off first s last e none v b = record {
  stored = stored-becomes s last s.pairs.items s.rows.items [] s.trail.literals (pos 0) [] b
      (store-end s off (pos 0) (subst (IsStored s off) none v.stored));
  idle = b.pending;
  moves = subst (Moves first.trail.literals first.pairs.items) (sym b.pairs) v.moves;
  rises = subst (Rises first.clauses.items first.trail.literals) (sym b.literals) v.rises;
  handled = λ h. subst (λ l. AreHandled last.clauses.items l last.pairs.items [] last.trail.literals) e
      (handled-becomes s last s.pairs.items s.rows.items [] s.trail.literals off [] b
      (subst (λ p. AreHandled s.clauses.items off s.pairs.items p s.trail.literals) none v.handled));
  failure = λ t. absurd (false≢true t);
}

-- ---- the trail is visited literal by literal

pub watched-more : (literal : ℤ) (n : ℕ) (old new : Propagator) (fails : Bool) → n < length old.trail.literals → literal ≡ get_or old.trail.literals n (pos 0)
    → fails ≢ true → AllWatched old.clauses.items old.pairs.items (take n old.trail.literals) old.trail.literals → Keeps old new → Visits literal old new fails
    → AllWatched new.clauses.items new.pairs.items (take (n + 1) new.trail.literals) new.trail.literals
watched-more literal n old new fails within is ok a k v p h =
    elim (a p (omega (arith, h, ap length k.clauses))) [
      | inl t ↦ inl (true-more before after (get_or new.clauses.items p []) (rises-keeps old.clauses.items before after v.rises)
          (subst (λ cs. IsTrueIn before (get_or cs p [])) (sym k.clauses) t))
      | inr free ↦ go (v.moves (take n before) (Contains-take before n) p free)
          (same_or_not (neg_ℤ literal) pair.one) (same_or_not (neg_ℤ literal) pair.other)
    ]
  where
    before : List ℤ
    before = old.trail.literals

    after : List ℤ
    after = new.trail.literals

    pair : Pair
    pair = get_or new.pairs.items p no_pair

    front : take (n + 1) after ≡ take (n + 1) before
    front = ap (take (n + 1)) v.rises.extends.1 ∙ take-append-le (n + 1) before v.rises.extends.0 (omega (arith, within))

    ends : take (n + 1) after ≡ take n before ++ literal ∷ []
    ends = front ∙ take_more before n (pos 0) within ∙ ap (λ x. take n before ++ x ∷ []) (sym is)

    by : IsWatch pair (neg_ℤ literal) → IsTrueIn after (get_or new.clauses.items p [])
    by w = elim (v.handled ok p h w) [ inl none ↦ Contains-none p none | inr t ↦ t ]

    free-more : (x : ℤ) → (neg_ℤ literal ≢ x) → (¬ Contains (take n before) (neg_ℤ x)) → ¬ Contains (take (n + 1) after) (neg_ℤ x)
    free-more x ne none m = elim (Contains-push_cases (take n before) literal (neg_ℤ x) (subst (λ xs. Contains xs (neg_ℤ x)) ends m)) [
      | inl earlier ↦ none earlier
      | inr e ↦ ne (ap neg_ℤ e ∙ neg_ℤ-neg_ℤ x)
    ]

    go : IsFree (take n before) pair → (neg_ℤ literal ≡ pair.one) ⊎ (neg_ℤ literal ≢ pair.one) → (neg_ℤ literal ≡ pair.other) ⊎ (neg_ℤ literal ≢ pair.other)
        → IsTrueIn after (get_or new.clauses.items p []) ⊎ IsFree (take (n + 1) after) pair
    go free (inl e) other = inl (by (inl e))
    go free (inr ne) (inl e) = inl (by (inr e))
    go free (inr ne) (inr mo) = inr ((λ m. free-more pair.one ne free.0 m), (λ m. free-more pair.other mo free.1 m))

pub watched-all : (clauses : List (List ℤ)) (pairs : List Pair) (trail : List ℤ) (n : ℕ) → length trail ≤ n → n ≤ length trail
    → AllWatched clauses pairs (take n trail) trail → AllWatched clauses pairs trail trail
watched-all clauses pairs trail n low high h =
    let at : n ≡ length trail = omega arith in
    subst (λ xs. AllWatched clauses pairs xs trail) (ap (λ m. take m trail) at ∙ take-length trail) h

-- ---- GOING BACK: the watches of a longer trail serve each shorter one

pub watched-back : (clauses : List (List ℤ)) (old new : List Pair) (part trail : List ℤ) → ((x : ℤ) → Contains part x → Contains trail x)
    → Moves trail old new → AllWatched clauses old part part → AllWatched clauses new part part
watched-back clauses old new part trail sub m a p h = elim (a p h) [ inl t ↦ inl t | inr free ↦ inr (m part sub p free) ]

-- ---- what is read of the store

pub inside-of : (s : Propagator) (off : ℤ) (pending : List ℕ) (place : ℕ) → IsStored s off (pending ++ place ∷ []) → place < length s.clauses.items
inside-of s off pending place h = h.awaited place (Contains-push pending place)

pub watch-at : (s : Propagator) (off : ℤ) (pending : List ℕ) (place : ℕ) (pair : Pair) (other : ℤ) → IsStored s off pending → place < length s.clauses.items
    → pair ≡ get_or s.pairs.items place pair → IsWatch pair other → IsWatch (get_or s.pairs.items place no_pair) other
watch-at s off pending place pair other h inside e w =
    subst (λ q. IsWatch q other) (get_or_read s.pairs.items place pair (omega (arith, inside, h.paired)) e no_pair) w

pub watch-within : (s : Propagator) (off : ℤ) (pending : List ℕ) (place : ℕ) (other : ℤ) → IsStored s off pending → place < length s.clauses.items
    → IsWatch (get_or s.pairs.items place no_pair) other → IsWithin s.trail.room other
watch-within s off pending place other h inside w =
    All-contains (IsWithin s.trail.room) (get_or s.clauses.items place []) other (h.within place inside) (watch-in s off pending place other h inside w)

pub watch-apart : (s : Propagator) (off : ℤ) (pending : List ℕ) (place : ℕ) (pair : Pair) → IsStored s off pending → place < length s.clauses.items
    → pair ≡ get_or s.pairs.items place pair → pair.one ≢ pair.other
watch-apart s off pending place pair h inside e =
    subst (λ q. q.one ≢ q.other) (sym (get_or_read s.pairs.items place pair (omega (arith, inside, h.paired)) e no_pair)) (h.watched place inside).apart

pub opposite-within : (room : ℕ) (l : ℤ) → IsWithin room l → IsWithin room (neg_ℤ l)
opposite-within room l w = record {
  is_literal = neg-literal l w.is_literal;
  code_in = w.opposite_in;
  opposite_in = subst (λ x. code x < room) (sym (neg_ℤ-neg_ℤ l)) w.code_in;
}

pub clause-read : (clauses : List (List ℤ)) (place : ℕ) (item seen : List ℤ) → place < length clauses → item ≡ get_or clauses place item → seen ≡ item
    → seen ≡ get_or clauses place []
clause-read clauses place item seen h is same = same ∙ get_or_read clauses place item h is []

-- ---- `propagate`

pub rises-longer : (clauses : List (List ℤ)) (old new : List ℤ) → Rises clauses old new → length old ≤ length new
rises-longer clauses old new g = omega (arith, ap length g.extends.1, length-append old g.extends.0)

pub measure-falls : (clauses : List (List ℤ)) (old new : List ℤ) (n : ℕ) → n < length old → Rises clauses old new
    → unset clauses new + length new - (n + 1) < unset clauses old + length old - n
measure-falls clauses old new n within g = go (unset clauses new) (length new) (unset clauses old) (length old) within g.measured (rises-longer clauses old new g)
  where
    go : (a b c d : ℕ) → n < d → a + b ≤ c + d → d ≤ b → a + b - (n + 1) < c + d - n
    go a b c d h k l = omega arith
