-- How trails grow, and what stays settled.
use Rattle.std.proofs.Common.{◌≡◌, ◌≢◌, ◌⊎◌, inl, inr, ℕ, zero, suc, ◌<◌, ◌≤◌, ◌+◌, Bool, true, false, not, cond, ◌||◌, List, [], ◌∷◌, ◌++◌, ℤ, pos, negsuc, neg_ℤ, length, take, get_or, refl, sym, subst, ap, ◌∙◌, arith, length-append, append_assoc, append-nil, true≢false, None, Some, Option}
use Rattle.std.proofs.lemmas.Bool.{false≢true}
use Rattle.std.specs.List.{All, Contains, filter, flat_map, list_any}
use Rattle.std.specs.Bool.{Decides}
use Rattle.std.specs.Ordering.{int_eq}
use Rattle.std.proofs.lemmas.Bool.Decides.{Decides-int_eq, Decides-not}
use Rattle.std.proofs.lemmas.List.Elements.{All-contains, All-push, All-take, All-contains_itself, Contains-append_left, Contains-append_right, Contains-push, Contains-push_cases, Contains-get_or}
use Rattle.std.proofs.Math.IntN.{neg_ℤ-neg_ℤ}
use Rattle.std.proofs.lemmas.List.{take_more, take-take}
use Rattle.std.proofs.Math.Seq.{take-length, take-append_seam}
use Rattle.indexmap.specs.IndexSet.{insert_key}
use Rattle.word_kit.specs.Prelude.{IsLiteral, AreClauses}
use Rattle.watched_literals.specs.Prelude.{IsMadeTrue, HasConflict, Follows, IsConsistent, IsSettled, AllSettled, IsUnit, Leaves, Extends, IsDenied, Denies, unset, Grows}
use Rattle.watched_literals.specs.Propagation.IsMadeTrue.{opposite, unit}

-- two numbers are the same or they aren't
pub same_or_not : (x y : ℤ) → (x ≡ y) ⊎ (x ≢ y)
same_or_not x y = go (int_eq x y) (Decides-int_eq x y)
  where
    go : (b : Bool) → Decides b (x ≡ y) → (x ≡ y) ⊎ (x ≢ y)
    go true d = inl (d.0 refl)
    go false d = inr (λ e. grind (arith, d.1 e))

pub Contains-nil : {P : Type 0} (x : ℤ) → Contains [] x → P
Contains-nil x h = absurd (omega (arith, h.1))

pub Contains-cons : (y : ℤ) (ys : List ℤ) (x : ℤ) → Contains (y ∷ ys) x → (y ≡ x) ⊎ Contains ys x
Contains-cons y ys x h = place h.0 h.1 h.2
  where
    place : (k : ℕ) → k < length (y ∷ ys) → get_or (y ∷ ys) k x ≡ x → (y ≡ x) ⊎ Contains ys x
    place zero within is = inl is
    place (suc k) within is = inr (k, omega (arith, within), is)

pub Contains-take : (xs : List ℤ) (n : ℕ) (x : ℤ) → Contains (take n xs) x → Contains xs x
Contains-take xs n x h = All-contains (Contains xs) (take n xs) x (All-take (Contains xs) n xs (All-contains_itself xs)) h

-- whether a literal is in a list, by the test
pub lists : (xs : List ℤ) (x : ℤ) → Decides (list_any (int_eq x) xs) (Contains xs x)
lists [] x = (λ e. absurd (false≢true e), λ h. Contains-nil x h)
lists (y ∷ ys) x = go (int_eq x y) (Decides-int_eq x y) (list_any (int_eq x) ys) (lists ys x)
  where
    go : (b : Bool) → Decides b (x ≡ y) → (r : Bool) → Decides r (Contains ys x) → Decides (b || r) (Contains (y ∷ ys) x)
    go true d r rest = (λ e. (0, omega arith, sym (d.0 refl)), λ h. refl)
    go false d r rest = (λ e. Contains-append_right (y ∷ []) ys x (rest.0 e), λ h. elim (Contains-cons y ys x h) [ inl e ↦ absurd (false≢true (d.1 (sym e))) | inr k ↦ rest.1 k ])

-- what `!=` answers
pub differs : (x y : ℤ) → not (int_eq x y) ≡ true → x ≢ y
differs x y = (Decides-not (int_eq x y) (Decides-int_eq x y)).0

pub equals : (x y : ℤ) → not (int_eq x y) ≡ false → x ≡ y
equals x y = go (int_eq x y) (Decides-int_eq x y)
  where
    go : (b : Bool) → Decides b (x ≡ y) → not b ≡ false → x ≡ y
    go true d e = d.0 refl
    go false d e = absurd (true≢false e)

-- the item of a loop over a slice
pub item-inside : (xs : List ℤ) (i : ℕ) (x : ℤ) → i < length xs → x ≡ get_or xs i x → Contains xs x
item-inside xs i x below is = subst (Contains xs) (sym is) (Contains-get_or xs i x below)

pub take-item : (xs : List ℤ) (i : ℕ) (x : ℤ) → i < length xs → x ≡ get_or xs i x → take (i + 1) xs ≡ take i xs ++ x ∷ []
take-item xs i x below is = take_more xs i x below ∙ ap (λ y. take i xs ++ y ∷ []) (sym is)

pub listed : (xs : List ℤ) (x : ℤ) → list_any (int_eq x) xs ≡ true → Contains xs x
listed xs x e = (lists xs x).0 e

pub unlisted : (xs : List ℤ) (x : ℤ) → list_any (int_eq x) xs ≡ false → ¬ Contains xs x
unlisted xs x e h = true≢false (sym ((lists xs x).1 h) ∙ e)

pub contains_or_not : (xs : List ℤ) (x : ℤ) → Contains xs x ⊎ (¬ Contains xs x)
contains_or_not xs x = go (list_any (int_eq x) xs) (lists xs x)
  where
    go : (b : Bool) → Decides b (Contains xs x) → Contains xs x ⊎ (¬ Contains xs x)
    go true d = inl (d.0 refl)
    go false d = inr (λ h. false≢true (d.1 h))

pub tested : (xs : List ℤ) (x : ℤ) → ¬ Contains xs x → list_any (int_eq x) xs ≡ false
tested xs x none = go (list_any (int_eq x) xs) (lists xs x)
  where
    go : (b : Bool) → Decides b (Contains xs x) → b ≡ false
    go true d = absurd (none (d.0 refl))
    go false d = refl

-- ---- how many literals aren't true
counted-less : (p q : ℤ → Bool) → ((x : ℤ) → q x ≡ true → p x ≡ true) → (xs : List ℤ) → length (filter q xs) ≤ length (filter p xs)
counted-less p q less [] = omega arith
counted-less p q less (x ∷ xs) = go (p x) (q x) (less x) (counted-less p q less xs)
  where
    go : (a b : Bool) → (b ≡ true → a ≡ true) → length (filter q xs) ≤ length (filter p xs)
        → length (cond b (x ∷ filter q xs) (filter q xs)) ≤ length (cond a (x ∷ filter p xs) (filter p xs))
    go true true l h = omega arith
    go true false l h = omega arith
    go false true l h = absurd (false≢true (l refl))
    go false false l h = h

counted-fewer : (p q : ℤ → Bool) (at : ℤ) → ((x : ℤ) → q x ≡ true → p x ≡ true) → p at ≡ true → q at ≡ false
    → (xs : List ℤ) → Contains xs at → length (filter q xs) + 1 ≤ length (filter p xs)
counted-fewer p q at less yes_p no_q [] h = Contains-nil at h
counted-fewer p q at less yes_p no_q (x ∷ xs) h = elim (Contains-cons x xs at h) [
  | inl e ↦ here (p x) (q x) (ap p e ∙ yes_p) (ap q e ∙ no_q) (counted-less p q less xs)
  | inr k ↦ there (p x) (q x) (less x) (counted-fewer p q at less yes_p no_q xs k)
]
  where
    here : (a b : Bool) → a ≡ true → b ≡ false → length (filter q xs) ≤ length (filter p xs)
        → length (cond b (x ∷ filter q xs) (filter q xs)) + 1 ≤ length (cond a (x ∷ filter p xs) (filter p xs))
    here true true e f h = absurd (true≢false f)
    here true false e f h = omega arith
    here false b e f h = absurd (false≢true e)

    there : (a b : Bool) → (b ≡ true → a ≡ true) → length (filter q xs) + 1 ≤ length (filter p xs)
        → length (cond b (x ∷ filter q xs) (filter q xs)) + 1 ≤ length (cond a (x ∷ filter p xs) (filter p xs))
    there true true l h = omega arith
    there true false l h = omega arith
    there false true l h = absurd (false≢true (l refl))
    there false false l h = h

mentioned : (clauses : List (List ℤ)) (clause : List ℤ) (x : ℤ) → Contains clauses clause → Contains clause x
    → Contains (flat_map (λ c. c) clauses) x
mentioned [] clause x h inside = absurd (omega (arith, h.1))
mentioned (c ∷ cs) clause x h inside = place (λ k within is. mentioned cs clause x (k, within, is) inside) h.0 h.1 h.2
  where
    place : ((k : ℕ) → k < length cs → get_or cs k clause ≡ clause → Contains (flat_map (λ c. c) cs) x)
        → (k : ℕ) → k < length (c ∷ cs) → get_or (c ∷ cs) k clause ≡ clause → Contains (flat_map (λ c. c) (c ∷ cs)) x
    place rest zero within is = Contains-append_left c (flat_map (λ c. c) cs) x (subst (λ d. Contains d x) (sym is) inside)
    place rest (suc k) within is = Contains-append_right c (flat_map (λ c. c) cs) x (rest k (omega (arith, within)) is)

not-not : (b c : Bool) → (c ≡ true → b ≡ true) → not b ≡ true → not c ≡ true
not-not b true l h = absurd (false≢true (sym (ap not (l refl)) ∙ h))
not-not b false l h = refl

unset-fewer : (clauses : List (List ℤ)) (trail clause : List ℤ) (literal : ℤ) → Contains clauses clause → Contains clause literal
    → (¬ Contains trail literal) → unset clauses (trail ++ literal ∷ []) + 1 ≤ unset clauses trail
unset-fewer clauses trail clause literal known inside fresh =
    counted-fewer (λ x. not (list_any (int_eq x) trail)) (λ x. not (list_any (int_eq x) (trail ++ literal ∷ []))) literal
    (λ x h. not-not (list_any (int_eq x) (trail ++ literal ∷ [])) (list_any (int_eq x) trail)
    (λ e. (lists (trail ++ literal ∷ []) x).1 (Contains-append_left trail (literal ∷ []) x (listed trail x e))) h)
    (ap not (tested trail literal fresh))
    (ap not ((lists (trail ++ literal ∷ []) literal).1 (Contains-push trail literal)))
    (flat_map (λ c. c) clauses)
    (mentioned clauses clause literal known inside)

-- ---- a unit clause
pub neg-differs : (x : ℤ) → IsLiteral x → x ≡ neg_ℤ x → ⊥
neg-differs (pos zero) h e = absurd (omega (arith, h.nonzero))
neg-differs (pos (suc n)) h e = cc
neg-differs (negsuc n) h e = cc

pub consistent-push : (trail : List ℤ) (literal : ℤ) → IsLiteral literal → (¬ Contains trail literal) → (¬ Contains trail (neg_ℤ literal))
    → IsConsistent trail → IsConsistent (trail ++ literal ∷ [])
consistent-push trail literal l fresh free ok x one two =
    elim (Contains-push_cases trail literal x one) [
      | inl a ↦ elim (Contains-push_cases trail literal (neg_ℤ x) two) [
        | inl b ↦ ok x a b
        | inr e ↦ free (subst (Contains trail) (sym (neg_ℤ-neg_ℤ x) ∙ ap neg_ℤ (sym e)) a)
      ]
      | inr d ↦ elim (Contains-push_cases trail literal (neg_ℤ x) two) [
        | inl b ↦ free (subst (λ y. Contains trail (neg_ℤ y)) (sym d) b)
        | inr e ↦ neg-differs literal l (e ∙ ap neg_ℤ (sym d))
      ]
    ]

pub grows-unit : (clauses : List (List ℤ)) (trail clause : List ℤ) (literal : ℤ) → AreClauses clauses → Contains clauses clause
    → IsUnit trail clause literal → Grows clauses trail (trail ++ literal ∷ [])
grows-unit clauses trail clause literal cs known u =
    let is_literal = All-contains IsLiteral clause literal (All-contains (All IsLiteral) clauses clause cs known) u.inside in
    record {
      extends = (literal ∷ [], refl);
      made = λ falses h x m. elim (Contains-push_cases trail literal x m) [
        | inl before ↦ h x before
        | inr e ↦ subst (IsMadeTrue clauses falses) e (unit clause literal known u.inside (λ other i ne. h (neg_ℤ other) (u.others other i ne)))
      ];
      consistent = consistent-push trail literal is_literal u.not_true u.not_false;
      literals = λ h. All-push IsLiteral trail literal h is_literal;
      measured = omega (arith, unset-fewer clauses trail clause literal known u.inside u.not_true, length-append trail (literal ∷ []));
    }

-- ---- the literal of a clause that is left
pub leaves-same : (trail done : List ℤ) (literal : ℤ) (left : Option ℤ) → Leaves trail done left → Contains trail (neg_ℤ literal)
    → Leaves trail (done ++ literal ∷ []) left
leaves-same trail done literal None h false_here = λ x m. elim (Contains-push_cases done literal x m) [
  | inl before ↦ h x before
  | inr e ↦ subst (λ y. Contains trail (neg_ℤ y)) e false_here
]
leaves-same trail done literal (Some one) h false_here = record {
  inside = Contains-append_left done (literal ∷ []) one h.inside;
  not_true = h.not_true;
  not_false = h.not_false;
  others = λ x m ne. elim (Contains-push_cases done literal x m) [
    | inl before ↦ h.others x before ne
    | inr e ↦ subst (λ y. Contains trail (neg_ℤ y)) e false_here
  ];
}

pub leaves-all : (trail clause : List ℤ) (n : ℕ) (left : Option ℤ) → length clause ≤ n → n ≤ length clause → Leaves trail (take n clause) left
    → Leaves trail clause left
leaves-all trail clause n left low high h =
    let at : n ≡ length clause = omega arith in
    subst (λ xs. Leaves trail xs left) (ap (λ m. take m clause) at ∙ take-length clause) h

pub inserted : (trail : List ℤ) (x : ℤ) → (¬ Contains trail x) → insert_key int_eq trail x ≡ trail ++ x ∷ []
inserted trail x fresh = ap (λ b. cond b trail (trail ++ x ∷ [])) (tested trail x fresh)

pub extends-on : (a b c : List ℤ) → Extends a b → Extends b c → Extends a c
extends-on a b c g h = (g.0 ++ h.0, h.1 ∙ ap (λ xs. xs ++ h.0) g.1 ∙ append_assoc a g.0 h.0)

-- ---- more clauses, and more literals set to false
pub made-more : (clauses clauses' : List (List ℤ)) (falses falses' : List ℤ) → ((c : List ℤ) → Contains clauses c → Contains clauses' c)
    → ((x : ℤ) → Contains falses x → Contains falses' x) → (l : ℤ) → IsMadeTrue clauses falses l → IsMadeTrue clauses' falses' l
made-more clauses clauses' falses falses' cs fs _ (opposite l h) = opposite l (fs (neg_ℤ l) h)
made-more clauses clauses' falses falses' cs fs _ (unit clause l known inside others) =
    unit clause l (cs clause known) inside (λ other i ne. made-more clauses clauses' falses falses' cs fs (neg_ℤ other) (others other i ne))

pub conflict-more : (clauses clauses' : List (List ℤ)) (falses falses' : List ℤ) → ((c : List ℤ) → Contains clauses c → Contains clauses' c)
    → ((x : ℤ) → Contains falses x → Contains falses' x) → HasConflict clauses falses → HasConflict clauses' falses'
conflict-more clauses clauses' falses falses' cs fs h = (h.0, cs h.0 h.1, λ l i. made-more clauses clauses' falses falses' cs fs (neg_ℤ l) (h.2 l i))

-- ---- a literal and its opposite
unit-conflict : (clauses : List (List ℤ)) (falses : List ℤ) (clause : List ℤ) (l : ℤ) → Contains clauses clause
    → ((other : ℤ) → Contains clause other → other ≢ l → IsMadeTrue clauses falses (neg_ℤ other)) → IsMadeTrue clauses falses (neg_ℤ l)
    → HasConflict clauses falses
unit-conflict clauses falses clause l known others made = (
  clause,
  known,
  λ x i. elim (same_or_not x l) [
    | inl e ↦ subst (λ y. IsMadeTrue clauses falses (neg_ℤ y)) (sym e) made
    | inr ne ↦ others x i ne
  ],
)

pub both-made : (clauses : List (List ℤ)) (falses : List ℤ) (l m : ℤ) → m ≡ neg_ℤ l → IsMadeTrue clauses falses l → IsMadeTrue clauses falses m
    → Follows clauses falses
both-made clauses falses _ m e (unit clause l known inside others) made =
    inr (unit-conflict clauses falses clause l known others (subst (IsMadeTrue clauses falses) e made))
both-made clauses falses _ _ e (opposite l h) (unit clause m known inside others) =
    inr (unit-conflict clauses falses clause m known others
    (subst (IsMadeTrue clauses falses) (sym (neg_ℤ-neg_ℤ l) ∙ ap neg_ℤ (sym e)) (opposite l h)))
both-made clauses falses _ _ e (opposite l h) (opposite m k) =
    inl (l, subst (Contains falses) (ap neg_ℤ e ∙ neg_ℤ-neg_ℤ l) k, h)

-- ---- the literals of a clause are set to false
pub denied-start : (clause old : List ℤ) → IsDenied clause [] old old
denied-start clause old = record {
  extends = ([], sym (append-nil old));
  made = λ clauses h x m. made-more clauses clauses [] clause (λ c k. k) (λ y k. Contains-nil y k) x (h x m);
  consistent = λ h. h;
  literals = λ h. h;
  denied = λ x m. Contains-nil x m;
}

pub neg-literal : (l : ℤ) → IsLiteral l → IsLiteral (neg_ℤ l)
neg-literal (pos zero) h = h
neg-literal (pos (suc n)) h = record { nonzero = h.nonzero; within = h.within }
neg-literal (negsuc n) h = record { nonzero = h.nonzero; within = h.within }

denied-push : (clause done old now : List ℤ) (literal : ℤ) → Contains clause literal → IsLiteral literal → (¬ Contains now literal)
    → (¬ Contains now (neg_ℤ literal)) → IsDenied clause done old now → IsDenied clause (done ++ literal ∷ []) old (now ++ neg_ℤ literal ∷ [])
denied-push clause done old now literal inside is fresh free d = record {
  extends = extends-on old now (now ++ neg_ℤ literal ∷ []) d.extends (neg_ℤ literal ∷ [], refl);
  made = λ clauses h x m. elim (Contains-push_cases now (neg_ℤ literal) x m) [
    | inl before ↦ d.made clauses h x before
    | inr e ↦ opposite x (subst (Contains clause) (sym (neg_ℤ-neg_ℤ literal) ∙ ap neg_ℤ e) inside)
  ];
  consistent = λ h. consistent-push now (neg_ℤ literal) (neg-literal literal is) free
      (λ m. fresh (subst (Contains now) (neg_ℤ-neg_ℤ literal) m)) (d.consistent h);
  literals = λ h. All-push IsLiteral now (neg_ℤ literal) (d.literals h) (neg-literal literal is);
  denied = λ x m. elim (Contains-push_cases done literal x m) [
    | inl before ↦ Contains-append_left now (neg_ℤ literal ∷ []) (neg_ℤ x) (d.denied x before)
    | inr e ↦ subst (λ y. Contains (now ++ neg_ℤ literal ∷ []) (neg_ℤ y)) e (Contains-push now (neg_ℤ literal))
  ];
}

pub denied-more : (clause done old now new : List ℤ) (literal : ℤ) → Contains clause literal → IsLiteral literal → (¬ Contains now literal)
    → new ≡ insert_key int_eq now (neg_ℤ literal) → IsDenied clause done old now → IsDenied clause (done ++ literal ∷ []) old new
denied-more clause done old now new literal inside is fresh e d = elim (contains_or_not now (neg_ℤ literal)) [
  | inl there ↦ subst (IsDenied clause (done ++ literal ∷ []) old)
      (sym (e ∙ ap (λ b. cond b now (now ++ neg_ℤ literal ∷ [])) ((lists now (neg_ℤ literal)).1 there)))
      (record {
        extends = d.extends;
        made = d.made;
        consistent = d.consistent;
        literals = d.literals;
        denied = λ x m. elim (Contains-push_cases done literal x m) [
          | inl before ↦ d.denied x before
          | inr same ↦ subst (λ y. Contains now (neg_ℤ y)) same there
        ];
      })
  | inr free ↦ subst (IsDenied clause (done ++ literal ∷ []) old) (sym (e ∙ inserted now (neg_ℤ literal) free))
      (denied-push clause done old now literal inside is fresh free d)
]

pub denied-true : (clause done old now : List ℤ) (literal : ℤ) → Contains clause literal → Contains now literal → IsDenied clause done old now
    → Denies clause old now true
denied-true clause done old now literal inside there d = (
  (λ clauses h. both-made clauses clause literal (neg_ℤ literal) refl (d.made clauses h literal there)
      (opposite (neg_ℤ literal) (subst (Contains clause) (sym (neg_ℤ-neg_ℤ literal)) inside))),
  d.extends,
)

-- ---- what is made true is on a trail that makes nothing more true
pub closed : (clauses : List (List ℤ)) (falses trail : List ℤ) → IsConsistent trail → AllSettled clauses trail trail
    → ((l : ℤ) → Contains falses l → Contains trail (neg_ℤ l)) → (l : ℤ) → IsMadeTrue clauses falses l → Contains trail l
closed clauses falses trail ok settled denied _ (opposite l h) = subst (Contains trail) (neg_ℤ-neg_ℤ l) (denied (neg_ℤ l) h)
closed clauses falses trail ok settled denied _ (unit clause l known inside others) =
    go (λ x i ne. closed clauses falses trail ok settled denied (neg_ℤ x) (others x i ne)) (settled clause known)
  where
    go : ((x : ℤ) → Contains clause x → x ≢ l → Contains trail (neg_ℤ x)) → IsSettled trail trail clause → Contains trail l
    go rest (inl h) = elim (same_or_not h.0 l) [
      | inl e ↦ subst (Contains trail) e h.2
      | inr ne ↦ absurd (ok h.0 h.2 (rest h.0 h.1 ne))
    ]
    go rest (inr h) = elim (same_or_not h.0 l) [
      | inl e ↦ absurd (h.6 (rest h.1 h.4 (λ f. h.2 (e ∙ sym f))))
      | inr ne ↦ absurd (h.5 (rest h.0 h.3 ne))
    ]

pub no-conflict : (clauses : List (List ℤ)) (falses trail : List ℤ) → IsConsistent trail → AllSettled clauses trail trail
    → ((l : ℤ) → Contains falses l → Contains trail (neg_ℤ l)) → ¬ HasConflict clauses falses
no-conflict clauses falses trail ok settled denied h = go (settled h.0 h.1)
  where
    off : (x : ℤ) → Contains h.0 x → Contains trail (neg_ℤ x)
    off x i = closed clauses falses trail ok settled denied (neg_ℤ x) (h.2 x i)

    go : IsSettled trail trail h.0 → ⊥
    go (inl s) = ok s.0 s.2 (off s.0 s.1)
    go (inr s) = s.5 (off s.0 s.3)

pub not-following : (clauses : List (List ℤ)) (clause trail : List ℤ) → IsConsistent trail → AllSettled clauses trail trail
    → ((l : ℤ) → Contains clause l → Contains trail (neg_ℤ l)) → ¬ Follows clauses clause
not-following clauses clause trail ok settled denied (inl t) =
    ok (neg_ℤ t.0) (denied t.0 t.1) (denied (neg_ℤ t.0) t.2)
not-following clauses clause trail ok settled denied (inr h) = no-conflict clauses clause trail ok settled denied h

pub follows-refuted : (clauses : List (List ℤ)) (clause : List ℤ) → HasConflict clauses [] → Decides true (Follows clauses clause)
follows-refuted clauses clause h =
    (λ e. inr (conflict-more clauses clauses [] clause (λ c k. k) (λ x k. Contains-nil x k) h), λ f. refl)

pub cut-back : (old now new : List ℤ) (n : ℕ) → n ≡ length old → Extends old now → new ≡ take n now → new ≡ old
cut-back old now new n at e is = is ∙ ap (take n) e.1 ∙ ap (λ m. take m (old ++ e.0)) at ∙ take-append_seam old e.0

-- a literal that doesn't stand before a place
pub fresh-before : (trail : List ℤ) (place start : ℕ) (x : ℤ) → start ≤ place → list_any (int_eq x) (take place trail) ≡ false
    → ¬ Contains (take start trail) x
fresh-before trail place start x within e m = unlisted (take place trail) x e
    (Contains-take (take place trail) start x (subst (λ xs. Contains xs x) (sym (take-take start place trail within)) m))
