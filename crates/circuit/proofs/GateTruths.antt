-- The clauses of a gate are true exactly where its variable has the truth of the gate.
use Rattle.std.proofs.Common.{◌≡◌, ℕ, zero, suc, ◌+◌, ◌<◌, ◌^◌, Bool, true, false, not, cond, ◌&&◌, ◌||◌, List, [], ◌∷◌, ◌++◌, Some, refl, sym, subst, arith, length, IsTrue, ℤ, pos, negsuc, neg_ℤ, slice_get}
use Rattle.std.specs.List.{Any, list_any}
use Rattle.std.proofs.lemmas.List.{take_at, drop_at}
use Rattle.std.proofs.lemmas.List.Elements.{All-head, All-tail, All-cons, All-nil, All-take, All-drop, All-append}
use Rattle.std.proofs.lemmas.List.Folds.{Any-from_list_any, list_any-from_Any}
use Rattle.word_kit.specs.Prelude.{same, Satisfies, literal_truth, variable}
use Rattle.circuit.specs.Prelude.{signed_reach, node_reach, GateSays, gate_clauses, chosen_clauses, Node, Input, And, Xor, Free}

not_not : (b : Bool) → b ≡ not (not b)
not_not true = refl
not_not false = refl

-- a literal and its opposite have opposite truths
pub truth_neg : (z : ℤ) (w : ℕ → Bool) → 0 < variable z → literal_truth (neg_ℤ z) w ≡ not (literal_truth z w)
truth_neg (pos zero) w h = absurd (omega arith)
truth_neg (pos (suc n)) w h = refl
truth_neg (negsuc n) w h = not_not (w (suc n))

pub nonzero : (z : ℤ) → signed_reach z < 2 ^ 31 → 0 < variable z
nonzero (pos zero) h = absurd (omega arith)
nonzero (pos (suc n)) h = omega arith
nonzero (negsuc n) h = omega arith

-- whether a clause has a true literal
abbrev holds : (ℕ → Bool) → List ℤ → Bool
holds w clause = list_any (λ l. literal_truth l w) clause

holds_of : (w : ℕ → Bool) (c : List ℤ) → Any (λ l. IsTrue (literal_truth l w)) c → holds w c ≡ true
holds_of w c h = list_any-from_Any (λ l. literal_truth l w) c h

any_of : (w : ℕ → Bool) (c : List ℤ) → holds w c ≡ true → Any (λ l. IsTrue (literal_truth l w)) c
any_of w c h = Any-from_list_any (λ l. literal_truth l w) c h

and_out : (b x y m p q : Bool) → m ≡ not b → p ≡ not x → q ≡ not y → (m || (x || false)) ≡ true → (m || (y || false)) ≡ true → (b || (p || (q || false))) ≡ true → b ≡ x && y
and_out true true true m p q e f g h i j = refl
and_out true true false m p q e f g h i j = absurd (cc (e, i))
and_out true false y m p q e f g h i j = absurd (cc (e, h))
and_out false true true m p q e f g h i j = absurd (cc (f, g, j))
and_out false true false m p q e f g h i j = refl
and_out false false y m p q e f g h i j = refl

abbrev AndClauses : Bool → Bool → Bool → Bool → Bool → Bool → Type 0
AndClauses b x y m p q = ((m || (x || false)) ≡ true) × ((m || (y || false)) ≡ true) × ((b || (p || (q || false))) ≡ true)

and_plain : (b x y : Bool) → b ≡ x && y → AndClauses b x y (not b) (not x) (not y)
and_plain true true true h = (refl, refl, refl)
and_plain true true false h = absurd cc
and_plain true false y h = absurd cc
and_plain false true true h = absurd cc
and_plain false true false h = (refl, refl, refl)
and_plain false false true h = (refl, refl, refl)
and_plain false false false h = (refl, refl, refl)

and_in : (b x y m p q : Bool) → m ≡ not b → p ≡ not x → q ≡ not y → b ≡ x && y → AndClauses b x y m p q
and_in b x y m p q e f g h =
    subst (λ r. AndClauses b x y m p r) (sym g) (subst (λ r. AndClauses b x y m r (not y)) (sym f) (subst (λ r. AndClauses b x y r (not x) (not y)) (sym e) (and_plain b x y h)))

xor_out : (b x y m p q : Bool) → m ≡ not b → p ≡ not x → q ≡ not y → (m || (x || (y || false))) ≡ true → (m || (p || (q || false))) ≡ true → (b || (p || (y || false))) ≡ true → (b || (x || (q || false))) ≡ true
    → b ≡ not (same x y)
xor_out true true true m p q e f g h i j k = absurd (cc (e, f, g, i))
xor_out true true false m p q e f g h i j k = refl
xor_out true false true m p q e f g h i j k = refl
xor_out true false false m p q e f g h i j k = absurd (cc (e, h))
xor_out false true true m p q e f g h i j k = refl
xor_out false true false m p q e f g h i j k = absurd (cc (f, j))
xor_out false false true m p q e f g h i j k = absurd (cc (g, k))
xor_out false false false m p q e f g h i j k = refl

abbrev XorClauses : Bool → Bool → Bool → Bool → Bool → Bool → Type 0
XorClauses b x y m p q = ((m || (x || (y || false))) ≡ true) × ((m || (p || (q || false))) ≡ true) × ((b || (p || (y || false))) ≡ true) × ((b || (x || (q || false))) ≡ true)

xor_plain : (b x y : Bool) → b ≡ not (same x y) → XorClauses b x y (not b) (not x) (not y)
xor_plain true true true h = absurd cc
xor_plain true true false h = (refl, refl, refl, refl)
xor_plain true false true h = (refl, refl, refl, refl)
xor_plain true false false h = absurd cc
xor_plain false true true h = (refl, refl, refl, refl)
xor_plain false true false h = absurd cc
xor_plain false false true h = absurd cc
xor_plain false false false h = (refl, refl, refl, refl)

xor_in : (b x y m p q : Bool) → m ≡ not b → p ≡ not x → q ≡ not y → b ≡ not (same x y) → XorClauses b x y m p q
xor_in b x y m p q e f g h =
    subst (λ r. XorClauses b x y m p r) (sym g) (subst (λ r. XorClauses b x y m r (not y)) (sym f) (subst (λ r. XorClauses b x y r (not x) (not y)) (sym e) (xor_plain b x y h)))

abbrev Holding : (ℕ → Bool) → List ℤ → Type 0
Holding w clause = Any (λ literal. IsTrue (literal_truth literal w)) clause

three_out : (w : ℕ → Bool) (a b c : List ℤ) (ds : List (List ℤ)) → Satisfies w (a ∷ b ∷ c ∷ ds) → (holds w a ≡ true) × (holds w b ≡ true) × (holds w c ≡ true) × Satisfies w ds
three_out w a b c ds h =
    let P = λ (k : List ℤ). Holding w k in
    let s = All-tail P a (b ∷ c ∷ ds) h in
    let t = All-tail P b (c ∷ ds) s in
    (holds_of w a (All-head P a (b ∷ c ∷ ds) h), holds_of w b (All-head P b (c ∷ ds) s), holds_of w c (All-head P c ds t), All-tail P c ds t)

three_in : (w : ℕ → Bool) (a b c : List ℤ) (ds : List (List ℤ)) → holds w a ≡ true → holds w b ≡ true → holds w c ≡ true → Satisfies w ds → Satisfies w (a ∷ b ∷ c ∷ ds)
three_in w a b c ds p q r s =
    let P = λ (k : List ℤ). Holding w k in
    All-cons P a (b ∷ c ∷ ds) (any_of w a p) (All-cons P b (c ∷ ds) (any_of w b q) (All-cons P c ds (any_of w c r) s))

-- where the clauses of a gate hold, its variable has its truth
pub gate_from_clauses : (n : Node) (v : ℕ) (w : ℕ → Bool) → 0 < v → node_reach n < 2 ^ 31 → Satisfies w (gate_clauses (pos v) n) → GateSays n (w v) w
gate_from_clauses (Input i) v w p r h = tt
gate_from_clauses (And x y) v w p r h =
    let m = truth_neg (pos v) w p in
    let a = truth_neg x w (nonzero x (omega arith)) in
    let b = truth_neg y w (nonzero y (omega arith)) in
    let s = three_out w (neg_ℤ (pos v) ∷ x ∷ []) (neg_ℤ (pos v) ∷ y ∷ []) (pos v ∷ neg_ℤ x ∷ neg_ℤ y ∷ []) [] h in
    and_out (w v) (literal_truth x w) (literal_truth y w) _ _ _ m a b s.0 s.1 s.2
gate_from_clauses (Xor x y) v w p r h =
    let m = truth_neg (pos v) w p in
    let a = truth_neg x w (nonzero x (omega arith)) in
    let b = truth_neg y w (nonzero y (omega arith)) in
    let s = three_out w (neg_ℤ (pos v) ∷ x ∷ y ∷ []) (neg_ℤ (pos v) ∷ neg_ℤ x ∷ neg_ℤ y ∷ []) (pos v ∷ neg_ℤ x ∷ y ∷ []) ((pos v ∷ x ∷ neg_ℤ y ∷ []) ∷ []) h in
    let d = holds_of w (pos v ∷ x ∷ neg_ℤ y ∷ []) (All-head (λ k. Holding w k) (pos v ∷ x ∷ neg_ℤ y ∷ []) [] s.3) in
    xor_out (w v) (literal_truth x w) (literal_truth y w) _ _ _ m a b s.0 s.1 s.2 d
gate_from_clauses (Free f place) v w p r h = tt

-- and the other way round
pub clauses_from_gate : (n : Node) (v : ℕ) (w : ℕ → Bool) → 0 < v → node_reach n < 2 ^ 31 → GateSays n (w v) w → Satisfies w (gate_clauses (pos v) n)
clauses_from_gate (Input i) v w p r h = All-nil (λ k. Holding w k)
clauses_from_gate (And x y) v w p r h =
    let m = truth_neg (pos v) w p in
    let a = truth_neg x w (nonzero x (omega arith)) in
    let b = truth_neg y w (nonzero y (omega arith)) in
    let s = and_in (w v) (literal_truth x w) (literal_truth y w) _ _ _ m a b h in
    three_in w (neg_ℤ (pos v) ∷ x ∷ []) (neg_ℤ (pos v) ∷ y ∷ []) (pos v ∷ neg_ℤ x ∷ neg_ℤ y ∷ []) [] s.0 s.1 s.2 (All-nil (λ k. Holding w k))
clauses_from_gate (Xor x y) v w p r h =
    let m = truth_neg (pos v) w p in
    let a = truth_neg x w (nonzero x (omega arith)) in
    let b = truth_neg y w (nonzero y (omega arith)) in
    let s = xor_in (w v) (literal_truth x w) (literal_truth y w) _ _ _ m a b h in
    three_in w (neg_ℤ (pos v) ∷ x ∷ y ∷ []) (neg_ℤ (pos v) ∷ neg_ℤ x ∷ neg_ℤ y ∷ []) (pos v ∷ neg_ℤ x ∷ y ∷ []) ((pos v ∷ x ∷ neg_ℤ y ∷ []) ∷ []) s.0 s.1 s.2 (All-cons (λ k. Holding w k) (pos v ∷ x ∷ neg_ℤ y ∷ []) [] (any_of w (pos v ∷ x ∷ neg_ℤ y ∷ []) s.3) (All-nil (λ k. Holding w k)))
clauses_from_gate (Free f place) v w p r h = All-nil (λ k. Holding w k)

-- the parts of clauses that hold
pub satisfies_left : (w : ℕ → Bool) (cs bs : List (List ℤ)) → Satisfies w (cs ++ bs) → Satisfies w cs
satisfies_left w cs bs h = subst (Satisfies w) (take_at cs bs (length cs) refl) (All-take (λ k. Holding w k) (length cs) (cs ++ bs) h)

pub satisfies_right : (w : ℕ → Bool) (cs bs : List (List ℤ)) → Satisfies w (cs ++ bs) → Satisfies w bs
satisfies_right w cs bs h = subst (Satisfies w) (drop_at cs bs (length cs) refl) (All-drop (λ k. Holding w k) (length cs) (cs ++ bs) h)

-- the clauses of a chosen node hold where all of them do
pub chosen_out : (w : ℕ → Bool) (chosen : ℕ → Bool) (v : ℕ) (ns : List Node) (j : ℕ) (n : Node) → Satisfies w (chosen_clauses chosen v ns) → slice_get ns j ≡ Some n → chosen (v + j) ≡ true → Satisfies w (gate_clauses (pos (v + j)) n)
unfolding chosen_clauses
chosen_out w chosen v [] j n s h t = absurd cc
chosen_out w chosen v (m ∷ ms) zero n s h t =
    let e : m ≡ n = cc in
    let z : v + zero ≡ v = omega arith in
    let c : chosen v ≡ true = subst (λ k. chosen k ≡ true) z t in
    let l = satisfies_left w (cond (chosen v) (gate_clauses (pos v) m) []) (chosen_clauses chosen (v + 1) ms) s in
    let g = subst (λ b. Satisfies w (cond b (gate_clauses (pos v) m) [])) c l in
    subst (λ k. Satisfies w (gate_clauses (pos k) n)) (sym z) (subst (λ q. Satisfies w (gate_clauses (pos v) q)) e g)
chosen_out w chosen v (m ∷ ms) (suc i) n s h t =
    let z : v + 1 + i ≡ v + suc i = omega arith in
    let r = satisfies_right w (cond (chosen v) (gate_clauses (pos v) m) []) (chosen_clauses chosen (v + 1) ms) s in
    subst (λ k. Satisfies w (gate_clauses (pos k) n)) z (chosen_out w chosen (v + 1) ms i n r h (subst (λ k. chosen k ≡ true) (sym z) t))

satisfies_cond : (w : ℕ → Bool) (b : Bool) (cs : List (List ℤ)) → (b ≡ true → Satisfies w cs) → Satisfies w (cond b cs [])
satisfies_cond w true cs h = h refl
satisfies_cond w false cs h = All-nil (λ k. Holding w k)

-- all of them hold where those of each chosen node do
pub chosen_in : (w : ℕ → Bool) (chosen : ℕ → Bool) (v : ℕ) (ns : List Node) → ((j : ℕ) (n : Node) → slice_get ns j ≡ Some n → chosen (v + j) ≡ true → Satisfies w (gate_clauses (pos (v + j)) n)) → Satisfies w (chosen_clauses chosen v ns)
unfolding chosen_clauses
chosen_in w chosen v [] h = All-nil (λ k. Holding w k)
chosen_in w chosen v (m ∷ ms) h =
    let z : v + zero ≡ v = omega arith in
    All-append (λ k. Holding w k) (cond (chosen v) (gate_clauses (pos v) m) []) (chosen_clauses chosen (v + 1) ms)
    (satisfies_cond w (chosen v) (gate_clauses (pos v) m) (λ c. subst (λ k. Satisfies w (gate_clauses (pos k) m)) z (h zero m refl (subst (λ k. chosen k ≡ true) (sym z) c))))
    (chosen_in w chosen (v + 1) ms (λ j n e c. let y : v + suc j ≡ v + 1 + j = omega arith in
    subst (λ k. Satisfies w (gate_clauses (pos k) n)) y (h (suc j) n e (subst (λ k. chosen k ≡ true) (sym y) c))))
