-- Clauses that are appended one after another.
use Rattle.std.proofs.Common.{◌≡◌, ℕ, ◌+◌, ◌<◌, ◌≤◌, Bool, true, false, cond, List, [], ◌∷◌, ◌++◌, Result, Ok, Err, OnOk, refl, sym, ◌∙◌, ap, subst, length, drop, append_assoc, append-nil, ℤ, pos, get_or}
use Rattle.std.proofs.lemmas.List.{drop_more, drop_all}
use Rattle.circuit.specs.Prelude.{gate_clauses, chosen_clauses, Node}

pub two_alike : {T : Type 0} {a b x y : T} → a ≡ x → b ≡ y → a ∷ b ∷ [] ≡ x ∷ y ∷ []
two_alike e f = cc

pub three_alike : {T : Type 0} {a b c x y z : T} → a ≡ x → b ≡ y → c ≡ z → a ∷ b ∷ c ∷ [] ≡ x ∷ y ∷ z ∷ []
three_alike e f g = cc

four_alike : {T : Type 0} {a b c d x y z w : T} → a ≡ x → b ≡ y → c ≡ z → d ≡ w → a ∷ b ∷ c ∷ d ∷ [] ≡ x ∷ y ∷ z ∷ w ∷ []
four_alike e f g h = cc

pub three_more : {T E : Type 0} (r : Result T E) (old a b new : List (List ℤ)) (p q s x y z : List ℤ) → a ≡ old ++ p ∷ [] → b ≡ a ++ q ∷ [] → OnOk r (new ≡ b ++ s ∷ [])
    → p ≡ x → q ≡ y → s ≡ z → OnOk r (new ≡ old ++ x ∷ y ∷ z ∷ [])
three_more (Ok u) old a b new p q s x y z e f h i j k = h ∙ rw (f, e) (append_assoc (old ++ p ∷ []) (q ∷ []) (s ∷ []) ∙ append_assoc old (p ∷ []) (q ∷ s ∷ []) ∙ ap (λ l. old ++ l) (three_alike i j k))
three_more (Err u) old a b new p q s x y z e f h i j k = tt

pub four_more : {T E : Type 0} (r : Result T E) (old a b c new : List (List ℤ)) (p q s t x y z w : List ℤ) → a ≡ old ++ p ∷ [] → b ≡ a ++ q ∷ [] → c ≡ b ++ s ∷ [] → OnOk r (new ≡ c ++ t ∷ [])
    → p ≡ x → q ≡ y → s ≡ z → t ≡ w → OnOk r (new ≡ old ++ x ∷ y ∷ z ∷ w ∷ [])
four_more (Ok u) old a b c new p q s t x y z w e f g h i j k l =
    h ∙ rw (g, f, e) (append_assoc (old ++ p ∷ [] ++ q ∷ []) (s ∷ []) (t ∷ []) ∙ append_assoc (old ++ p ∷ []) (q ∷ []) (s ∷ t ∷ []) ∙ append_assoc old (p ∷ []) (q ∷ s ∷ t ∷ []) ∙ ap (λ m. old ++ m) (four_alike i j k l))
four_more (Err u) old a b c new p q s t x y z w e f g h i j k l = tt

chosen_at : (chosen : ℕ → Bool) (v : ℕ) (n : Node) (ns : List Node) → chosen_clauses chosen v (n ∷ ns) ≡ cond (chosen v) (gate_clauses (pos v) n) [] ++ chosen_clauses chosen (v + 1) ns
unfolding chosen_clauses
chosen_at chosen v n ns = refl

-- what is left of the clauses, from a node on
abbrev pub clauses_left : (ℕ → Bool) → List Node → ℕ → List (List ℤ)
clauses_left chosen ns k = chosen_clauses chosen (k + 1) (drop k ns)

left_step : (chosen : ℕ → Bool) (ns : List Node) (k : ℕ) (d : Node) → k < length ns → clauses_left chosen ns k ≡ cond (chosen (k + 1)) (gate_clauses (pos (k + 1)) (get_or ns k d)) [] ++ clauses_left chosen ns (k + 1)
left_step chosen ns k d h = ap (λ l. chosen_clauses chosen (k + 1) l) (drop_more ns k d h) ∙ chosen_at chosen (k + 1) (get_or ns k d) (drop (k + 1) ns)

pub push_chosen : (chosen : ℕ → Bool) (ns : List Node) (k : ℕ) (d : Node) (v : ℤ) (whole out new : List (List ℤ)) → k < length ns → v ≡ pos (k + 1) → chosen (k + 1) ≡ true → new ≡ out ++ gate_clauses v (get_or ns k d)
    → out ++ clauses_left chosen ns k ≡ whole → new ++ clauses_left chosen ns (k + 1) ≡ whole
push_chosen chosen ns k d v whole out new l e c f h =
    let i : clauses_left chosen ns k ≡ gate_clauses (pos (k + 1)) (get_or ns k d) ++ clauses_left chosen ns (k + 1) = left_step chosen ns k d l ∙ rw c refl in
    let j : out ++ (gate_clauses (pos (k + 1)) (get_or ns k d) ++ clauses_left chosen ns (k + 1)) ≡ whole = subst (λ q. out ++ q ≡ whole) i h in
    rw (f, e) (append_assoc out (gate_clauses (pos (k + 1)) (get_or ns k d)) (clauses_left chosen ns (k + 1)) ∙ j)

pub pass_chosen : (chosen : ℕ → Bool) (ns : List Node) (k : ℕ) (n : Node) (whole out : List (List ℤ)) → k < length ns → chosen (k + 1) ≡ false
    → out ++ clauses_left chosen ns k ≡ whole → out ++ clauses_left chosen ns (k + 1) ≡ whole
pass_chosen chosen ns k n whole out l c h =
    let i : clauses_left chosen ns k ≡ clauses_left chosen ns (k + 1) = left_step chosen ns k n l ∙ rw c refl in
    rw (← i) h

chosen_none : (chosen : ℕ → Bool) (v : ℕ) → chosen_clauses chosen v [] ≡ []
unfolding chosen_clauses
chosen_none chosen v = refl

pub chosen_all : (chosen : ℕ → Bool) (ns : List Node) (k : ℕ) (whole out : List (List ℤ)) → length ns ≤ k → out ++ clauses_left chosen ns k ≡ whole → out ≡ whole
chosen_all chosen ns k whole out l h =
    let i : clauses_left chosen ns k ≡ [] = ap (λ l. chosen_clauses chosen (k + 1) l) (drop_all k ns l) ∙ chosen_none chosen (k + 1) in
    sym (append-nil out) ∙ (rw (← i) h)
