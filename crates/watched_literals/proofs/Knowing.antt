-- Known clauses: how one more is added, and whether one follows.
use Rattle.std.proofs.Common.{◌≡◌, ◌≢◌, ◌⊎◌, inl, inr, ℕ, ◌<◌, ◌≤◌, ◌+◌, ◌-◌, Bool, true, false, cond, List, [], ◌∷◌, ◌++◌, ℤ, pos, neg_ℤ, length, take, get_or, refl, sym, subst, ap, ◌∙◌, arith, length-append, true≢false}
use Rattle.std.proofs.lemmas.Bool.{false≢true, cases_lt}
use Rattle.std.specs.Bool.{Decides}
use Rattle.std.specs.List.{All, Contains}
use Rattle.std.proofs.lemmas.List.Elements.{All-contains, Contains-append_left, Contains-push, Contains-push_cases}
use Rattle.std.proofs.lemmas.List.{length-set, get_or_past, get_or_append_left}
use Rattle.std.proofs.Math.Seq.{take-append_seam, take-append-add, get_or-append_seam}
use Rattle.word_kit.specs.Prelude.{IsLiteral}
use Rattle.watched_literals.specs.Prelude.{IsMadeTrue, HasConflict, Follows, AreMadeTrue, IsConsistent, IsUnit, IsFalse, AllSettled, Extends, IsDenied, Denies, Pair, Propagator, code, IsWithin, IsWatch, no_pair, IsPair, IsStore, IsStored, IsFree, IsTrueIn, AllWatched, Moves, AreAmong, Keeps, Propagates, Watches, IsOpenAt, AreHeld, IsAbove, IsOpen, IsReady, IsTried, Spreads, StaysWatched, Implies}
use Rattle.watched_literals.specs.Propagation.IsMadeTrue.{unit}
use Rattle.watched_literals.proofs.Trails.{Contains-nil, Contains-take, consistent-push, extends-on, made-more, conflict-more, not-following}
use Rattle.watched_literals.proofs.Trails.{cut-back}
use Rattle.watched_literals.proofs.Watching.{listed-in, Contains-none, row-more, row-here, row-cases, one-of, true-more, all-settled, rises-keeps, moves-same, watched-back}

-- ---- how a clause stands

pub open-two : (trail clause : List ℤ) (n : ℕ) (one literal : ℤ) → IsUnit trail (take n clause) one → Contains clause literal
    → (¬ Contains trail (neg_ℤ literal)) → one ≢ literal → IsOpenAt trail clause one literal
open-two trail clause n one literal u inside free ne = record {
  one_in = Contains-take clause n one u.inside;
  other_in = inside;
  apart = ne;
  one_free = u.not_false;
  other_free = free;
}

-- ---- refuted or not

pub open-of : (b : Bool) (X Y : Type 0) → b ≡ false → cond b X Y → Y
open-of b X Y e r = subst (λ a. cond a X Y) e r

pub of-open : (b : Bool) (X Y : Type 0) → b ≡ false → Y → cond b X Y
of-open b X Y e r = subst (λ a. cond a X Y) (sym e) r

pub refuted-of : (b : Bool) (X Y : Type 0) → b ≡ true → cond b X Y → X
refuted-of b X Y e r = subst (λ a. cond a X Y) e r

pub of-refuted : (b : Bool) (X Y : Type 0) → b ≡ true → X → cond b X Y
of-refuted b X Y e r = subst (λ a. cond a X Y) (sym e) r

pub open-at : (known : List (List ℤ)) (s : Propagator) → s.refuted ≡ false → IsReady known s → IsOpen known s s.trail.literals
open-at known s e ready = open-of s.refuted (HasConflict known []) (IsOpen known s s.trail.literals) e ready

pub open-ready : (known : List (List ℤ)) (s : Propagator) → s.refuted ≡ false → IsOpen known s s.trail.literals → IsReady known s
open-ready known s e o = of-open s.refuted (HasConflict known []) (IsOpen known s s.trail.literals) e o

pub refuted-at : (known : List (List ℤ)) (s : Propagator) → s.refuted ≡ true → IsReady known s → HasConflict known []
refuted-at known s e ready = refuted-of s.refuted (HasConflict known []) (IsOpen known s s.trail.literals) e ready

pub refuted-ready : (known : List (List ℤ)) (s : Propagator) → s.refuted ≡ true → HasConflict known [] → IsReady known s
refuted-ready known s e h = of-refuted s.refuted (HasConflict known []) (IsOpen known s s.trail.literals) e h

-- ---- nothing is known

pub open-none : (s : Propagator) → s.clauses.items ≡ [] → s.pairs.items ≡ [] → s.pending ≡ [] → s.trail.literals ≡ [] → length s.rows.items ≡ s.trail.room
    → All (λ row. row ≡ []) s.rows.items → IsOpen [] s s.trail.literals
open-none s clauses pairs pending literals rowed empty = record {
  stored = record {
    paired = ap length pairs ∙ sym (ap length clauses);
    rowed = rowed;
    within = λ p h. absurd (none p h);
    watched = λ p h. absurd (none p h);
    bounded = λ row p m. Contains-none p (subst (λ r. Contains r p) (bare row) m);
    awaited = λ p m. Contains-none p m;
    complete = λ p h. absurd (none p h);
  };
  idle = pending;
  among = λ c h. subst (λ cs. Contains cs c) clauses h;
  held = λ c h. absurd (omega (arith, h.1));
  made = λ x h. Contains-nil x (subst (λ xs. Contains xs x) literals h);
  consistent = λ x h. Contains-nil x (subst (λ xs. Contains xs x) literals h);
  watched = λ p h. absurd (none p h);
}
  where
    none : (p : ℕ) → p < length s.clauses.items → ⊥
    none p h = omega (arith, h, ap length clauses)

    bare : (row : ℕ) → get_or s.rows.items row [] ≡ []
    bare row = elim (cases_lt row (length s.rows.items)) [ inl less ↦ empty row [] less | inr past ↦ get_or_past s.rows.items row [] past ]

-- ---- one clause more is watched

pub store-add : (state : Propagator) (off : ℤ) (clause : List ℤ) (one other : ℤ) (place : ℕ)
    → IsStored state off [] → All (IsWithin state.trail.room) clause → IsPair clause (record { one = one; other = other }) → place ≡ length state.clauses.items
    → IsStore state.trail.room (state.clauses.items ++ clause ∷ []) (state.pairs.items ++ (record { one = one; other = other }) ∷ [])
    (listed-in (listed-in state.rows.items one place) other place) off []
store-add state off clause one other place s within pair here = record {
  paired = omega (arith, s.paired, length-append state.clauses.items (clause ∷ []), length-append state.pairs.items (new ∷ []));
  rowed = length-set mid (code other) (get_or mid (code other) [] ++ place ∷ []) ∙ length-set state.rows.items (code one) (get_or state.rows.items (code one) [] ++ place ∷ []) ∙ s.rowed;
  within = λ p h. elim (split p h) [
    | inl less ↦ subst (All (IsWithin state.trail.room)) (sym (get_or_append_left state.clauses.items (clause ∷ []) [] p less)) (s.within p less)
    | inr e ↦ subst (All (IsWithin state.trail.room)) (sym (clause-at p e)) within
  ];
  watched = λ p h. elim (split p h) [
    | inl less ↦ subst (λ c. IsPair c (get_or after p no_pair)) (sym (get_or_append_left state.clauses.items (clause ∷ []) [] p less))
        (subst (IsPair (get_or state.clauses.items p [])) (sym (pair-before p less)) (s.watched p less))
    | inr e ↦ subst (λ c. IsPair c (get_or after p no_pair)) (sym (clause-at p e)) (subst (IsPair clause) (sym (pair-at p e)) pair)
  ];
  bounded = λ row p m. longer p (elim (row-cases mid (code other) (place ∷ []) row p in_mid m) [
    | inl h ↦ elim (row-cases state.rows.items (code one) (place ∷ []) row p in_rows h) [
      | inl k ↦ inl (s.bounded row p k)
      | inr k ↦ inr (sym (one-of place p k) ∙ here)
    ]
    | inr h ↦ inr (sym (one-of place p h) ∙ here)
  ]);
  awaited = λ p m. Contains-none p m;
  complete = λ p h literal w. inl (elim (split p h) [
    | inl less ↦ elim (s.complete p less literal (subst (λ q. IsWatch q literal) (pair-before p less) w)) [
      | inl m ↦ row-more mid (code other) (place ∷ []) (code literal) p in_mid (row-more state.rows.items (code one) (place ∷ []) (code literal) p in_rows m)
      | inr m ↦ Contains-none p m.1
    ]
    | inr e ↦ newest p e literal (subst (λ q. IsWatch q literal) (pair-at p e) w)
  ]);
}
  where
    new : Pair
    new = record { one = one; other = other }

    after : List Pair
    after = state.pairs.items ++ new ∷ []

    mid : List (List ℕ)
    mid = listed-in state.rows.items one place

    one_within : IsWithin state.trail.room one
    one_within = All-contains (IsWithin state.trail.room) clause one within pair.one_in

    other_within : IsWithin state.trail.room other
    other_within = All-contains (IsWithin state.trail.room) clause other within pair.other_in

    in_rows : code one < length state.rows.items
    in_rows = omega (arith, one_within.code_in, s.rowed)

    in_mid : code other < length mid
    in_mid = omega (arith, other_within.code_in, s.rowed, length-set state.rows.items (code one) (get_or state.rows.items (code one) [] ++ place ∷ []))

    split : (p : ℕ) → p < length (state.clauses.items ++ clause ∷ []) → (p < length state.clauses.items) ⊎ (p ≡ length state.clauses.items)
    split p h = elim (cases_lt p (length state.clauses.items)) [ inl less ↦ inl less | inr past ↦ inr (omega (arith, h, past, length-append state.clauses.items (clause ∷ []))) ]

    longer : (p : ℕ) → (p < length state.clauses.items) ⊎ (p ≡ length state.clauses.items) → p < length (state.clauses.items ++ clause ∷ [])
    longer p (inl h) = omega (arith, h, length-append state.clauses.items (clause ∷ []))
    longer p (inr h) = omega (arith, h, length-append state.clauses.items (clause ∷ []))

    clause-at : (p : ℕ) → p ≡ length state.clauses.items → get_or (state.clauses.items ++ clause ∷ []) p [] ≡ clause
    clause-at p e = ap (λ q. get_or (state.clauses.items ++ clause ∷ []) q []) e ∙ get_or-append_seam state.clauses.items clause [] []

    pair-at : (p : ℕ) → p ≡ length state.clauses.items → get_or after p no_pair ≡ new
    pair-at p e = ap (λ q. get_or after q no_pair) (e ∙ sym s.paired) ∙ get_or-append_seam state.pairs.items new [] no_pair

    pair-before : (p : ℕ) → p < length state.clauses.items → get_or after p no_pair ≡ get_or state.pairs.items p no_pair
    pair-before p less = get_or_append_left state.pairs.items (new ∷ []) no_pair p (omega (arith, less, s.paired))

    newest : (p : ℕ) → p ≡ length state.clauses.items → (literal : ℤ) → IsWatch new literal
        → Contains (get_or (listed-in mid other place) (code literal) []) p
    newest p e literal (inl is) = subst (λ l. Contains (get_or (listed-in mid other place) (code l) []) p) (sym is)
        (row-more mid (code other) (place ∷ []) (code one) p in_mid (row-here state.rows.items (code one) (place ∷ []) p in_rows (0, omega arith, here ∙ sym e)))
    newest p e literal (inr is) = subst (λ l. Contains (get_or (listed-in mid other place) (code l) []) p) (sym is)
        (row-here mid (code other) (place ∷ []) p in_mid (0, omega arith, here ∙ sym e))

pub watched-add : (clauses : List (List ℤ)) (pairs : List Pair) (trail clause : List ℤ) (new : Pair) → length pairs ≡ length clauses
    → AllWatched clauses pairs trail trail → IsFree trail new → AllWatched (clauses ++ clause ∷ []) (pairs ++ new ∷ []) trail trail
watched-add clauses pairs trail clause new paired a free p h = elim (cases_lt p (length clauses)) [
  | inl less ↦
      let e : get_or (clauses ++ clause ∷ []) p [] ≡ get_or clauses p [] = get_or_append_left clauses (clause ∷ []) [] p less in
      let f : get_or (pairs ++ new ∷ []) p no_pair ≡ get_or pairs p no_pair = get_or_append_left pairs (new ∷ []) no_pair p (omega (arith, less, paired)) in
      elim (a p less) [
        | inl t ↦ inl (subst (IsTrueIn trail) (sym e) t)
        | inr k ↦ inr (subst (IsFree trail) (sym f) k)
      ]
  | inr past ↦
      let at : p ≡ length pairs = omega (arith, h, past, paired, length-append clauses (clause ∷ [])) in
      inr (subst (IsFree trail) (sym (ap (λ q. get_or (pairs ++ new ∷ []) q no_pair) at ∙ get_or-append_seam pairs new [] no_pair)) free)
]

-- ---- the known clauses are one more

more : (known : List (List ℤ)) (clause : List ℤ) (c : List ℤ) → Contains known c → Contains (known ++ clause ∷ []) c
more known clause c h = Contains-append_left known (clause ∷ []) c h

made-known : (known : List (List ℤ)) (clause trail : List ℤ) → AreMadeTrue known [] trail → AreMadeTrue (known ++ clause ∷ []) [] trail
made-known known clause trail h x m = made-more known (known ++ clause ∷ []) [] [] (more known clause) (λ y k. k) x (h x m)

-- a clause that has a true literal
pub added-true : (known : List (List ℤ)) (clause : List ℤ) (s : Propagator) (trail : List ℤ) → IsTrueIn trail clause → IsOpen known s trail
    → IsOpen (known ++ clause ∷ []) s trail
added-true known clause s trail t o = record {
  stored = o.stored;
  idle = o.idle;
  among = λ c h. more known clause c (o.among c h);
  held = λ c h. elim (Contains-push_cases known clause c h) [ inl k ↦ o.held c k | inr e ↦ inl (subst (IsTrueIn trail) e t) ];
  made = made-known known clause trail o.made;
  consistent = o.consistent;
  watched = o.watched;
}

-- a clause that is watched from now on
pub added-open : (known : List (List ℤ)) (clause : List ℤ) (old new : Propagator) (pair : Pair) (trail : List ℤ) → IsOpenAt trail clause pair.one pair.other
    → Watches clause pair old new → IsOpen known old trail → IsOpen (known ++ clause ∷ []) new trail
added-open known clause old new pair trail at w o = record {
  stored = w.stored;
  idle = w.pending ∙ o.idle;
  among = λ c h. elim (Contains-push_cases old.clauses.items clause c (subst (λ cs. Contains cs c) w.clauses h)) [
    | inl k ↦ more known clause c (o.among c k)
    | inr is ↦ subst (Contains (known ++ clause ∷ [])) is (Contains-push known clause)
  ];
  held = λ c h. elim (Contains-push_cases known clause c h) [
    | inl k ↦ elim (o.held c k) [
      | inl t ↦ inl t
      | inr i ↦ inr (subst (λ cs. Contains cs c) (sym w.clauses) (Contains-append_left old.clauses.items (clause ∷ []) c i))
    ]
    | inr is ↦ inr (subst (λ cs. Contains cs c) (sym w.clauses) (subst (Contains (old.clauses.items ++ clause ∷ [])) is (Contains-push old.clauses.items clause)))
  ];
  made = made-known known clause trail o.made;
  consistent = o.consistent;
  watched = subst (λ cs. AllWatched cs new.pairs.items trail trail) (sym w.clauses)
      (subst (λ ps. AllWatched (old.clauses.items ++ clause ∷ []) ps trail trail) (sym w.pairs)
      (watched-add old.clauses.items old.pairs.items trail clause pair o.stored.paired o.watched (at.one_free, at.other_free)));
}

-- the same clauses and watches
pub record Alike (old new : Propagator) : Type 0 where
  pub clauses : new.clauses.items ≡ old.clauses.items
  pub pairs : new.pairs.items ≡ old.pairs.items
  pub rows : new.rows.items ≡ old.rows.items
  pub pending : new.pending ≡ old.pending
  pub room : new.trail.room ≡ old.trail.room

pub stored-alike : (old new : Propagator) → Alike old new → IsStored old (pos 0) [] → IsStored new (pos 0) []
stored-alike old new a s =
    subst (λ n. IsStore n new.clauses.items new.pairs.items new.rows.items (pos 0) []) (sym a.room)
    (subst (λ cs. IsStore old.trail.room cs new.pairs.items new.rows.items (pos 0) []) (sym a.clauses)
    (subst (λ ps. IsStore old.trail.room old.clauses.items ps new.rows.items (pos 0) []) (sym a.pairs)
    (subst (λ rs. IsStore old.trail.room old.clauses.items old.pairs.items rs (pos 0) []) (sym a.rows) s)))

pub open-alike : (known : List (List ℤ)) (old new : Propagator) (trail : List ℤ) → Alike old new → IsOpen known old trail → IsOpen known new trail
open-alike known old new trail a o = record {
  stored = stored-alike old new a o.stored;
  idle = a.pending ∙ o.idle;
  among = subst (λ cs. AreAmong cs known) (sym a.clauses) o.among;
  held = subst (λ cs. AreHeld known cs trail) (sym a.clauses) o.held;
  made = o.made;
  consistent = o.consistent;
  watched = subst (λ cs. AllWatched cs new.pairs.items trail trail) (sym a.clauses)
      (subst (λ ps. AllWatched old.clauses.items ps trail trail) (sym a.pairs) o.watched);
}

-- a clause whose last literal becomes true
made-unit : (known : List (List ℤ)) (clause trail : List ℤ) (literal : ℤ) → IsUnit trail clause literal → AreMadeTrue known [] trail
    → AreMadeTrue (known ++ clause ∷ []) [] (trail ++ literal ∷ [])
made-unit known clause trail literal u h x m = elim (Contains-push_cases trail literal x m) [
  | inl before ↦ made-known known clause trail h x before
  | inr e ↦ subst (IsMadeTrue (known ++ clause ∷ []) []) e
      (unit clause literal (Contains-push known clause) u.inside (λ other i ne. made-known known clause trail h (neg_ℤ other) (u.others other i ne)))
]

pub added-unit : (known : List (List ℤ)) (clause : List ℤ) (old mid new : Propagator) (literal : ℤ) → IsUnit old.trail.literals clause literal
    → IsLiteral literal → Alike old mid → mid.trail.literals ≡ old.trail.literals ++ literal ∷ [] → Keeps mid new → Propagates mid new false
    → IsOpen known old old.trail.literals → IsOpen (known ++ clause ∷ []) new new.trail.literals
added-unit known clause old mid new literal u l a is k p o = record {
  stored = p.stored;
  idle = p.idle;
  among = subst (λ cs. AreAmong cs (known ++ clause ∷ [])) (sym same) (λ c h. more known clause c (o.among c h));
  held = λ c h. elim (Contains-push_cases known clause c h) [
    | inl m ↦ elim (o.held c m) [
      | inl t ↦ inl (true-more old.trail.literals new.trail.literals c (λ x n. keeps x (before x n)) t)
      | inr i ↦ inr (subst (λ cs. Contains cs c) (sym same) i)
    ]
    | inr e ↦ inl (subst (IsTrueIn new.trail.literals) e
        (literal, u.inside, keeps literal (subst (λ xs. Contains xs literal) (sym is) (Contains-push old.trail.literals literal))))
  ];
  made = p.rises.made (known ++ clause ∷ []) (subst (λ cs. AreAmong cs (known ++ clause ∷ [])) (sym a.clauses) (λ c h. more known clause c (o.among c h))) []
      (subst (AreMadeTrue (known ++ clause ∷ []) []) (sym is) (made-unit known clause old.trail.literals literal u o.made));
  consistent = p.rises.consistent (subst IsConsistent (sym is) (consistent-push old.trail.literals literal l u.not_true u.not_false o.consistent));
  watched = p.watched (λ e. false≢true e);
}
  where
    same : new.clauses.items ≡ old.clauses.items
    same = k.clauses ∙ a.clauses

    before : (x : ℤ) → Contains old.trail.literals x → Contains mid.trail.literals x
    before x m = subst (λ xs. Contains xs x) (sym is) (Contains-append_left old.trail.literals (literal ∷ []) x m)

    keeps : (x : ℤ) → Contains mid.trail.literals x → Contains new.trail.literals x
    keeps = rises-keeps mid.clauses.items mid.trail.literals new.trail.literals p.rises

pub added-conflict : (known : List (List ℤ)) (clause : List ℤ) (old mid new : Propagator) (literal : ℤ) → IsUnit old.trail.literals clause literal
    → Alike old mid → mid.trail.literals ≡ old.trail.literals ++ literal ∷ [] → Propagates mid new true
    → IsOpen known old old.trail.literals → HasConflict (known ++ clause ∷ []) []
added-conflict known clause old mid new literal u a is p o =
    p.failure refl (known ++ clause ∷ []) (subst (λ cs. AreAmong cs (known ++ clause ∷ [])) (sym a.clauses) (λ c h. more known clause c (o.among c h))) []
    (subst (AreMadeTrue (known ++ clause ∷ []) []) (sym is) (made-unit known clause old.trail.literals literal u o.made))

-- a clause with one literal left was added, and what propagation says is kept
pub added-ready : (known : List (List ℤ)) (clause : List ℤ) (old mid new last : Propagator) (literal : ℤ) (fails : Bool) → IsUnit old.trail.literals clause literal
    → IsLiteral literal → Alike old mid → mid.trail.literals ≡ old.trail.literals ++ literal ∷ [] → Keeps mid new → Propagates mid new fails
    → Alike new last → last.trail.literals ≡ new.trail.literals → last.refuted ≡ fails
    → IsOpen known old old.trail.literals → IsReady (known ++ clause ∷ []) last
added-ready known clause old mid new last literal true u l a is k p b same r o =
    refuted-ready (known ++ clause ∷ []) last r
    (added-conflict known clause old mid new literal u a is p o)
added-ready known clause old mid new last literal false u l a is k p b same r o =
    open-ready (known ++ clause ∷ []) last r
    (subst (IsOpen (known ++ clause ∷ []) last) (sym same)
    (open-alike (known ++ clause ∷ []) new last new.trail.literals b (added-unit known clause old mid new literal u l a is k p o)))

-- a clause that is false
pub added-false : (known : List (List ℤ)) (clause : List ℤ) (s : Propagator) (trail : List ℤ) → IsFalse trail clause → IsOpen known s trail
    → HasConflict (known ++ clause ∷ []) []
added-false known clause s trail f o =
    (clause, Contains-push known clause, λ x i. made-known known clause trail o.made (neg_ℤ x) (f x i))

pub added-refuted : (known : List (List ℤ)) (clause : List ℤ) → HasConflict known [] → HasConflict (known ++ clause ∷ []) []
added-refuted known clause h = conflict-more known (known ++ clause ∷ []) [] [] (more known clause) (λ x k. k) h

-- the queue begins with the new literal
pub watched-front : (clauses : List (List ℤ)) (pairs : List Pair) (trail now : List ℤ) (n : ℕ) → n ≡ length trail → Extends trail now
    → AllWatched clauses pairs trail trail → AllWatched clauses pairs (take n now) now
watched-front clauses pairs trail now n at e a =
    subst (λ xs. AllWatched clauses pairs xs now) (sym (ap (take n) e.1 ∙ ap (λ m. take m (trail ++ e.0)) at ∙ take-append_seam trail e.0))
    (λ p h. elim (a p h) [
      | inl t ↦ inl (true-more trail now (get_or clauses p []) (λ x m. subst (λ xs. Contains xs x) (sym e.1) (Contains-append_left trail e.0 x m)) t)
      | inr free ↦ inr free
    ])

-- ---- whether a clause follows

pub tried-denied : (clause : List ℤ) (old new : Propagator) → IsStored old (pos 0) [] → old.pending ≡ [] → Alike old new
    → Denies clause old.trail.literals new.trail.literals true → IsTried clause old new true
tried-denied clause old new s idle a d = record {
  stored = stored-alike old new a s;
  idle = a.pending ∙ idle;
  moves = subst (Moves old.trail.literals old.pairs.items) (sym a.pairs) (moves-same old.trail.literals old.pairs.items);
  extends = d.1;
  follows = λ e known among made. d.0 known made;
  fails = λ e. absurd (true≢false e);
}

pub known-settled : (s : Propagator) (known : List (List ℤ)) (old trail : List ℤ) → IsStored s (pos 0) []
    → AllWatched s.clauses.items s.pairs.items trail trail → AreHeld known s.clauses.items old
    → ((x : ℤ) → Contains old x → Contains trail x) → AllSettled known trail trail
known-settled s known old trail stored a held up clause h = elim (held clause h) [
  | inl t ↦ inl (true-more old trail clause up t)
  | inr i ↦ all-settled s (pos 0) [] trail trail stored a clause i
]

pub tried-end : (clause : List ℤ) (old mid new : Propagator) (verdict : Bool) → Alike old mid → IsDenied clause clause old.trail.literals mid.trail.literals
    → Keeps mid new → Propagates mid new verdict → IsTried clause old new verdict
tried-end clause old mid new verdict a d k p = record {
  stored = p.stored;
  idle = p.idle;
  moves = λ part sub place free. p.moves part (λ x m. before x (sub x m)) place (subst (λ ps. IsFree part (get_or ps place no_pair)) (sym a.pairs) free);
  extends = extends-on old.trail.literals mid.trail.literals new.trail.literals d.extends p.rises.extends;
  follows = λ e known among made. inr (p.failure e known (subst (λ cs. AreAmong cs known) (sym a.clauses) among) clause (d.made known made));
  fails = λ e known held ok.
      not-following known clause new.trail.literals (p.rises.consistent (d.consistent ok))
      (known-settled new known old.trail.literals new.trail.literals p.stored (p.watched (λ t. true≢false (sym t ∙ e)))
      (subst (λ cs. AreHeld known cs old.trail.literals) (sym (k.clauses ∙ a.clauses)) held) (λ x m. keeps x (before x m)))
      (λ l i. keeps (neg_ℤ l) (d.denied l i));
}
  where
    before : (x : ℤ) → Contains old.trail.literals x → Contains mid.trail.literals x
    before x m = subst (λ xs. Contains xs x) (sym d.extends.1) (Contains-append_left old.trail.literals d.extends.0 x m)

    keeps : (x : ℤ) → Contains mid.trail.literals x → Contains new.trail.literals x
    keeps = rises-keeps mid.clauses.items mid.trail.literals new.trail.literals p.rises

pub tried-verdict : (known : List (List ℤ)) (clause : List ℤ) (old new : Propagator) (verdict : Bool) → IsTried clause old new verdict
    → IsOpen known old old.trail.literals → Decides verdict (Follows known clause)
tried-verdict known clause old new true t o = (λ e. t.follows refl known o.among o.made, λ f. refl)
tried-verdict known clause old new false t o = (λ e. absurd (false≢true e), λ f. absurd (t.fails refl known o.held o.consistent f))

-- going back
pub tried-back : (known : List (List ℤ)) (clause : List ℤ) (old mid new : Propagator) (verdict : Bool) (count : ℕ) → Keeps old mid → IsTried clause old mid verdict
    → count ≡ length old.trail.literals → Alike mid new → new.trail.literals ≡ take count mid.trail.literals
    → IsOpen known old old.trail.literals → IsOpen known new new.trail.literals
tried-back known clause old mid new verdict count k t at a is o =
    subst (IsOpen known new) (sym (cut-back old.trail.literals mid.trail.literals new.trail.literals count at t.extends is))
    (open-alike known mid new old.trail.literals a (record {
      stored = t.stored;
      idle = t.idle;
      among = subst (λ cs. AreAmong cs known) (sym k.clauses) o.among;
      held = subst (λ cs. AreHeld known cs old.trail.literals) (sym k.clauses) o.held;
      made = o.made;
      consistent = o.consistent;
      watched = subst (λ cs. AllWatched cs mid.pairs.items old.trail.literals old.trail.literals) (sym k.clauses)
          (watched-back old.clauses.items old.pairs.items mid.pairs.items old.trail.literals old.trail.literals (λ x m. m) t.moves o.watched);
    }))

pub leaves-first : (trail done : List ℤ) (literal : ℤ) → IsFalse trail done → (¬ Contains trail literal) → (¬ Contains trail (neg_ℤ literal))
    → IsUnit trail (done ++ literal ∷ []) literal
leaves-first trail done literal h fresh free = record {
  inside = Contains-push done literal;
  not_true = fresh;
  not_false = free;
  others = λ x m ne. elim (Contains-push_cases done literal x m) [ inl before ↦ h x before | inr e ↦ absurd (ne (sym e)) ];
}

pub leaves-again : (trail done : List ℤ) (literal one : ℤ) → one ≡ literal → IsUnit trail done one → IsUnit trail (done ++ literal ∷ []) one
leaves-again trail done literal one e u = record {
  inside = Contains-append_left done (literal ∷ []) one u.inside;
  not_true = u.not_true;
  not_false = u.not_false;
  others = λ x m ne. elim (Contains-push_cases done literal x m) [ inl before ↦ u.others x before ne | inr is ↦ absurd (ne (sym is ∙ sym e)) ];
}

pub watches-added : (old new : Propagator) (clause : List ℤ) (one other : ℤ) (place : ℕ) (mid : List (List ℕ)) → IsStored old (pos 0) []
    → All (IsWithin old.trail.room) clause → IsPair clause (record { one = one; other = other }) → place ≡ length old.clauses.items
    → new.clauses.items ≡ old.clauses.items ++ clause ∷ [] → new.pairs.items ≡ old.pairs.items ++ (record { one = one; other = other }) ∷ []
    → mid ≡ listed-in old.rows.items one place → new.rows.items ≡ listed-in mid other place → new.pending ≡ old.pending → new.trail.room ≡ old.trail.room
    → Watches clause (record { one = one; other = other }) old new
watches-added old new clause one other place mid s within pair here e f g h idle room = record {
  clauses = e;
  pairs = f;
  pending = idle;
  stored = subst (λ n. IsStore n new.clauses.items new.pairs.items new.rows.items (pos 0) []) (sym room)
      (subst (λ cs. IsStore old.trail.room cs new.pairs.items new.rows.items (pos 0) []) (sym e)
      (subst (λ ps. IsStore old.trail.room (old.clauses.items ++ clause ∷ []) ps new.rows.items (pos 0) []) (sym f)
      (subst (λ rs. IsStore old.trail.room (old.clauses.items ++ clause ∷ []) (old.pairs.items ++ (record { one = one; other = other }) ∷ []) rs (pos 0) [])
      (sym (h ∙ ap (λ m. listed-in m other place) g)) (store-add old (pos 0) clause one other place s within pair here))));
}

-- ---- something is assumed

pub assumed-above : (known : List (List ℤ)) (root : List ℤ) (old mid new : Propagator) (fails : Bool) → Extends root mid.trail.literals → Alike old mid
    → Keeps mid new → Propagates mid new fails → IsOpen known old root → IsOpen known new root
assumed-above known root old mid new fails e a k p o = record {
  stored = p.stored;
  idle = p.idle;
  among = subst (λ cs. AreAmong cs known) (sym same) o.among;
  held = subst (λ cs. AreHeld known cs root) (sym same) o.held;
  made = o.made;
  consistent = o.consistent;
  watched = subst (λ cs. AllWatched cs new.pairs.items root root) (sym same)
      (watched-back old.clauses.items old.pairs.items new.pairs.items root mid.trail.literals
      (λ x m. subst (λ xs. Contains xs x) (sym e.1) (Contains-append_left root e.0 x m))
      (subst (λ ps. Moves mid.trail.literals ps new.pairs.items) a.pairs p.moves) o.watched);
}
  where
    same : new.clauses.items ≡ old.clauses.items
    same = k.clauses ∙ a.clauses

pub assumed-spreads : (known : List (List ℤ)) (root : List ℤ) (old mid new : Propagator) (fails : Bool) → Extends root mid.trail.literals → Alike old mid
    → Keeps mid new → Propagates mid new fails → IsOpen known old root → Spreads known mid.trail.literals new.trail.literals fails
assumed-spreads known root old mid new true e a k p o =
    (p.failure refl known (subst (λ cs. AreAmong cs known) (sym a.clauses) o.among), p.rises.extends)
assumed-spreads known root old mid new false e a k p o = record {
  extends = p.rises.extends;
  made = p.rises.made known (subst (λ cs. AreAmong cs known) (sym a.clauses) o.among);
  consistent = p.rises.consistent;
  settled = known-settled new known root new.trail.literals p.stored (p.watched (λ t. false≢true t))
      (subst (λ cs. AreHeld known cs root) (sym (k.clauses ∙ a.clauses)) o.held)
      (λ x m. rises-keeps mid.clauses.items mid.trail.literals new.trail.literals p.rises x (subst (λ xs. Contains xs x) (sym e.1) (Contains-append_left root e.0 x m)));
}

pub above-more : (root trail now : List ℤ) (literal : ℤ) → Extends root trail → now ≡ trail ++ literal ∷ [] → Extends root now
above-more root trail now literal e is = extends-on root trail now e (literal ∷ [], is)

-- back at the root
pub above-back : (known : List (List ℤ)) (root : List ℤ) (old new : Propagator) (count : ℕ) → count ≡ length root → Alike old new
    → new.trail.literals ≡ take count old.trail.literals → IsAbove known root old → IsOpen known new new.trail.literals
above-back known root old new count at a is h =
    subst (IsOpen known new) (sym (cut-back root old.trail.literals new.trail.literals count at h.above is)) (open-alike known old new root a h.base)

-- ---- a clause that is unit is learned above the root

pub unit-front : (clauses : List (List ℤ)) (pairs : List Pair) (trail now clause : List ℤ) (new : Pair) (literal : ℤ) (n : ℕ) → length pairs ≡ length clauses
    → n ≡ length trail → now ≡ trail ++ literal ∷ [] → Contains clause literal → AllWatched clauses pairs trail trail
    → AllWatched (clauses ++ clause ∷ []) (pairs ++ new ∷ []) (take n now) now
unit-front clauses pairs trail now clause new literal n paired at is inside a p h = elim (cases_lt p (length clauses)) [
  | inl less ↦
      let e : get_or (clauses ++ clause ∷ []) p [] ≡ get_or clauses p [] = get_or_append_left clauses (clause ∷ []) [] p less in
      let f : get_or (pairs ++ new ∷ []) p no_pair ≡ get_or pairs p no_pair = get_or_append_left pairs (new ∷ []) no_pair p (omega (arith, less, paired)) in
      elim (watched-front clauses pairs trail now n at (literal ∷ [], is) a p less) [
        | inl t ↦ inl (subst (IsTrueIn now) (sym e) t)
        | inr k ↦ inr (subst (IsFree (take n now)) (sym f) k)
      ]
  | inr past ↦
      let at_end : p ≡ length clauses = omega (arith, h, past, length-append clauses (clause ∷ [])) in
      inl (subst (IsTrueIn now) (sym (ap (λ q. get_or (clauses ++ clause ∷ []) q []) at_end ∙ get_or-append_seam clauses clause [] []))
      (literal, inside, subst (λ xs. Contains xs literal) (sym is) (Contains-push trail literal)))
]

module _ (clause : List ℤ) (literal other : ℤ) (old mid now new : Propagator) (fails : Bool) (u : IsUnit old.trail.literals clause literal)
    (other_in : Contains clause other) (apart : other ≢ literal) (stored : IsStored old (pos 0) []) (trail : mid.trail ≡ old.trail)
    (w : Watches clause (record { one = literal; other = other }) old mid) (a : Alike mid now)
    (is : now.trail.literals ≡ old.trail.literals ++ literal ∷ []) (refuted : now.refuted ≡ old.refuted) (k : Keeps now new) (p : Propagates now new fails) where
  abbrev pair : Pair
  pair = record { one = literal; other = other }

  unit-free : (part : List ℤ) → ((x : ℤ) → Contains part x → Contains old.trail.literals x) → (¬ Contains part (neg_ℤ other)) → IsFree part pair
  unit-free part sub free = ((λ m. u.not_false (sub (neg_ℤ literal) m)), free)

  before : (x : ℤ) → Contains old.trail.literals x → Contains now.trail.literals x
  before x m = subst (λ xs. Contains xs x) (sym is) (Contains-append_left old.trail.literals (literal ∷ []) x m)

  unit-above : (known : List (List ℤ)) (root : List ℤ) → IsAbove known root old → (¬ Contains root (neg_ℤ other)) → IsAbove (known ++ clause ∷ []) root new
  unit-above known root h free =
      let up : Extends root now.trail.literals = extends-on root old.trail.literals now.trail.literals h.above (literal ∷ [], is) in
      let root_in : (x : ℤ) → Contains root x → Contains old.trail.literals x = λ x m. subst (λ xs. Contains xs x) (sym h.above.1) (Contains-append_left root h.above.0 x m) in
      let f = unit-free root root_in free in
      record {
        open_root = k.refuted ∙ refuted ∙ h.open_root;
        base = assumed-above (known ++ clause ∷ []) root mid now new fails up a k p
            (added-open known clause old mid pair root (record { one_in = u.inside; other_in = other_in; apart = λ e. apart (sym e); one_free = f.0; other_free = f.1 }) w h.base);
        above = extends-on root now.trail.literals new.trail.literals up p.rises.extends;
      }

  pub implied : Implies clause other old new fails
  implied = record {
    refuted = k.refuted ∙ refuted;
    extends = extends-on old.trail.literals now.trail.literals new.trail.literals (literal ∷ [], is) p.rises.extends;
    above = unit-above;
    watched = λ part sub free h.
        subst (λ cs. AllWatched cs new.pairs.items part part) (sym (k.clauses ∙ a.clauses ∙ w.clauses))
        (watched-back (old.clauses.items ++ clause ∷ []) (old.pairs.items ++ pair ∷ []) new.pairs.items part now.trail.literals (λ x m. before x (sub x m))
        (subst (λ ps. Moves now.trail.literals ps new.pairs.items) (a.pairs ∙ w.pairs) p.moves)
        (watched-add old.clauses.items old.pairs.items part clause pair stored.paired h (unit-free part sub free)));
    complete = p.watched;
  }

-- what was assumed leaves the invariant of watches as it was below
pub assumed-stays : (old mid new : Propagator) (fails : Bool) → ((x : ℤ) → Contains old.trail.literals x → Contains mid.trail.literals x) → Alike old mid
    → Keeps mid new → Propagates mid new fails → StaysWatched old new
assumed-stays old mid new fails up a k p part sub h =
    subst (λ cs. AllWatched cs new.pairs.items part part) (sym (k.clauses ∙ a.clauses))
    (watched-back old.clauses.items old.pairs.items new.pairs.items part mid.trail.literals (λ x m. up x (sub x m))
    (subst (λ ps. Moves mid.trail.literals ps new.pairs.items) a.pairs p.moves) h)

-- a root that is longer than this stays below what is kept
pub above-cut : (root old new : List ℤ) (count : ℕ) → length root ≤ count → Extends root old → new ≡ take count old → Extends root new
above-cut root old new count within e is = (
  take (count - length root) e.0,
  is ∙ ap (take count) e.1 ∙ ap (λ n. take n (root ++ e.0)) at ∙ take-append-add root e.0 (count - length root),
)
  where
    at : count ≡ length root + (count - length root)
    at = omega (arith, within)
