-- The variable behind a number: the listed ones in order, and behind them others that are apart from all listed ones.
use Rattle.std.proofs.Common.{◌≡◌, ◌⊎◌, inl, inr, ℕ, zero, suc, ◌<◌, ◌≤◌, ◌+◌, ◌*◌, List, [], ◌∷◌, ◌++◌, ℤ, pos, negsuc, neg_ℤ, length, get_or, refl, sym, subst, ap, ◌∙◌, arith, length-append, append-nil, append_assoc, Bool, true, false, cond, nat_eq, map, true≢false, eq-eqb, nat_abs, Some, slice_get}
use Rattle.std.proofs.lemmas.Bool.{cases_lt}
use Rattle.std.proofs.lemmas.List.{get_or_default, get_or_past, get_or_append_left}
use Rattle.std.proofs.Math.Seq.{get_or-append_seam}
use Rattle.std.specs.List.{Contains}
use Rattle.std.proofs.lemmas.List.Elements.{Contains-get_or}
use Rattle.watched_literals.specs.Prelude.{total, name, AreNames, behind, IsNumbered, Grown, code, IsWithin}
use Rattle.std.specs.List.{All, list_any}
use lib.Signed.{lt_z}
use Rattle.std.proofs.lemmas.Int.{ints}
use Rattle.word_kit.specs.Prelude.{variable, IsLiteral}
use Rattle.std.proofs.lemmas.List.Folds.{list_any_at}
use Rattle.std.proofs.lemmas.Option.{get_or_from_slice_get}
use Rattle.indexmap.specs.IndexSet.{insert_key}
use Rattle.std.proofs.Math.IntN.{neg_ℤ-neg_ℤ}

below-total : (vs : List ℕ) (i : ℕ) → get_or vs i 0 ≤ total vs
below-total [] i = omega arith
below-total (v ∷ vs) zero = omega arith
below-total (v ∷ vs) (suc i) = omega (arith, below-total vs i)

module _ (vs : List ℕ) (h : AreNames vs) where
  listed : (i : ℕ) → i < length vs → name vs i ≡ get_or vs i 0
  listed i less = get_or_default vs i (total vs + 1 + i) 0 less

  unlisted : (i : ℕ) → length vs ≤ i → name vs i ≡ total vs + 1 + i
  unlisted i past = get_or_past vs i (total vs + 1 + i) past

  pub name-apart : (i j : ℕ) → name vs i ≡ name vs j → i ≡ j
  name-apart i j e = go (cases_lt i (length vs)) (cases_lt j (length vs))
    where
      go : (i < length vs) ⊎ (length vs ≤ i) → (j < length vs) ⊎ (length vs ≤ j) → i ≡ j
      go (inl a) (inl b) = h.apart i j a b (sym (listed i a) ∙ e ∙ listed j b)
      go (inl a) (inr b) = absurd (omega (arith, listed i a, unlisted j b, below-total vs i, e))
      go (inr a) (inl b) = absurd (omega (arith, unlisted i a, listed j b, below-total vs j, e))
      go (inr a) (inr b) = omega (arith, unlisted i a, unlisted j b, e)

  pub name-nonzero : (i : ℕ) → 0 < name vs i
  name-nonzero i = elim (cases_lt i (length vs)) [
    | inl a ↦ let n = listed i a in let m = h.nonzero i a in omega (arith, n, m)
    | inr b ↦ omega (arith, unlisted i b)
  ]

  pub behind-keeps : (x : ℤ) → behind vs (neg_ℤ x) ≡ neg_ℤ (behind vs x)
  behind-keeps (pos zero) = refl
  behind-keeps (pos (suc i)) = refl
  behind-keeps (negsuc i) = sym (neg_ℤ-neg_ℤ (pos (name vs i)))

  pos-same : (a b : ℕ) → pos a ≡ pos b → a ≡ b
  pos-same a b e = cc

  signs : (a b : ℕ) → 0 < a → 0 < b → pos a ≡ neg_ℤ (pos b) → ⊥
  signs a zero p q e = omega (arith, q)
  signs a (suc b) p q e = cc

  pub behind-apart : (x y : ℤ) → behind vs x ≡ behind vs y → x ≡ y
  behind-apart (pos zero) (pos zero) e = refl
  behind-apart (pos zero) (pos (suc j)) e = absurd (omega (arith, pos-same 0 (name vs j) e, name-nonzero j))
  behind-apart (pos zero) (negsuc j) e =
      absurd (omega (arith, pos-same 0 (name vs j) (ap neg_ℤ e ∙ neg_ℤ-neg_ℤ (pos (name vs j))), name-nonzero j))
  behind-apart (pos (suc i)) (pos zero) e = absurd (omega (arith, pos-same (name vs i) 0 e, name-nonzero i))
  behind-apart (pos (suc i)) (pos (suc j)) e = let k = name-apart i j (pos-same (name vs i) (name vs j) e) in ap (λ n. pos (suc n)) k
  behind-apart (pos (suc i)) (negsuc j) e = absurd (signs (name vs i) (name vs j) (name-nonzero i) (name-nonzero j) e)
  behind-apart (negsuc i) (pos zero) e =
      absurd (omega (arith, pos-same (name vs i) 0 (sym (neg_ℤ-neg_ℤ (pos (name vs i))) ∙ ap neg_ℤ e), name-nonzero i))
  behind-apart (negsuc i) (pos (suc j)) e = absurd (signs (name vs j) (name vs i) (name-nonzero j) (name-nonzero i) (sym e))
  behind-apart (negsuc i) (negsuc j) e =
      let k = name-apart i j (pos-same (name vs i) (name vs j) (sym (neg_ℤ-neg_ℤ (pos (name vs i))) ∙ ap neg_ℤ e ∙ neg_ℤ-neg_ℤ (pos (name vs j)))) in
      ap negsuc k

-- ---- the list grows

name-longer : (vs more : List ℕ) (i : ℕ) → i < length vs → name (vs ++ more) i ≡ name vs i
name-longer vs more i less =
    get_or_append_left vs more (total (vs ++ more) + 1 + i) i less ∙ get_or_default vs i (total (vs ++ more) + 1 + i) (total vs + 1 + i) less

pub behind-longer : (vs more : List ℕ) (x : ℤ) → IsNumbered vs x → behind (vs ++ more) x ≡ behind vs x
behind-longer vs more (pos zero) n = refl
behind-longer vs more (pos (suc i)) n = let w = n.within in ap pos (name-longer vs more i (omega (arith, w)))
behind-longer vs more (negsuc i) n = let w = n.within in ap (λ v. neg_ℤ (pos v)) (name-longer vs more i (omega (arith, w)))

pub numbered-longer : (vs more : List ℕ) (x : ℤ) → IsNumbered vs x → IsNumbered (vs ++ more) x
numbered-longer vs more x n = let w = n.within in record { is_literal = n.is_literal; within = omega (arith, w, length-append vs more) }

pub names-none : AreNames []
names-none = record { nonzero = λ i h. absurd (omega (arith, h)); apart = λ i j h. absurd (omega (arith, h)) }

pub names-more : (vs : List ℕ) (v : ℕ) → 0 < v → AreNames vs → (¬ Contains vs v) → AreNames (vs ++ v ∷ [])
names-more vs v p h fresh = record {
  nonzero = λ i within. nonzero i within (cases_lt i (length vs));
  apart = λ i j a b e. apart i j a b e (cases_lt i (length vs)) (cases_lt j (length vs));
}
  where
    old : (i : ℕ) → i < length vs → get_or (vs ++ v ∷ []) i 0 ≡ get_or vs i 0
    old i less = get_or_append_left vs (v ∷ []) 0 i less

    new : (i : ℕ) → i < length (vs ++ v ∷ []) → length vs ≤ i → get_or (vs ++ v ∷ []) i 0 ≡ v
    new i within past =
        let at : i ≡ length vs = omega (arith, within, past, length-append vs (v ∷ [])) in
        ap (λ k. get_or (vs ++ v ∷ []) k 0) at ∙ get_or-append_seam vs v [] 0

    nonzero : (i : ℕ) → i < length (vs ++ v ∷ []) → (i < length vs) ⊎ (length vs ≤ i) → 0 < get_or (vs ++ v ∷ []) i 0
    nonzero i within (inl less) = subst (λ n. 0 < n) (sym (old i less)) (h.nonzero i less)
    nonzero i within (inr past) = subst (λ n. 0 < n) (sym (new i within past)) p

    apart : (i j : ℕ) → i < length (vs ++ v ∷ []) → j < length (vs ++ v ∷ []) → get_or (vs ++ v ∷ []) i 0 ≡ get_or (vs ++ v ∷ []) j 0
        → (i < length vs) ⊎ (length vs ≤ i) → (j < length vs) ⊎ (length vs ≤ j) → i ≡ j
    apart i j a b e (inl x) (inl y) = h.apart i j x y (sym (old i x) ∙ e ∙ old j y)
    apart i j a b e (inl x) (inr y) = absurd (fresh (subst (Contains vs) (sym (old i x) ∙ e ∙ new j b y) (Contains-get_or vs i 0 x)))
    apart i j a b e (inr x) (inl y) = absurd (fresh (subst (Contains vs) (sym (old j y) ∙ sym e ∙ new i a x) (Contains-get_or vs j 0 y)))
    apart i j a b e (inr x) (inr y) = omega (arith, a, b, x, y, length-append vs (v ∷ []))

-- ---- a variable is inserted

not-listed : (vs : List ℕ) (v : ℕ) → list_any (nat_eq v) vs ≡ false → ¬ Contains vs v
not-listed vs v e h = true≢false (sym (list_any_at (nat_eq v) vs h.0 v h.1 (eq-eqb v (get_or vs h.0 v) (sym h.2))) ∙ e)

pub grown-insert : (vs new : List ℕ) (v : ℕ) → 0 < v → AreNames vs → new ≡ insert_key nat_eq vs v → Grown vs new
grown-insert vs new v p h e = go (list_any (nat_eq v) vs) refl e
  where
    go : (b : Bool) → list_any (nat_eq v) vs ≡ b → new ≡ cond b vs (vs ++ v ∷ []) → Grown vs new
    go true k f = subst (Grown vs) (sym f) (record { more = ([], sym (append-nil vs)); names = h })
    go false k f = subst (Grown vs) (sym f) (record { more = (v ∷ [], refl); names = names-more vs v p h (not-listed vs v k) })

pub name-found : (vs : List ℕ) (place v k : ℕ) → slice_get vs place ≡ Some k → k ≡ v → name vs place ≡ v
name-found vs place v k e f = get_or_from_slice_get vs place k (total vs + 1 + place) e ∙ f

pub grown-on : (a b c : List ℕ) → Grown a b → Grown b c → Grown a c
grown-on a b c g h = record {
  more = (g.more.0 ++ h.more.0, h.more.1 ∙ ap (λ xs. xs ++ h.more.0) g.more.1 ∙ append_assoc a g.more.0 h.more.0);
  names = h.names;
}

pub all-longer : (vs new : List ℕ) (xs : List ℤ) → Grown vs new → All (IsNumbered vs) xs → All (IsNumbered new) xs
all-longer vs new xs g h k d within = subst (λ ns. IsNumbered ns (get_or xs k d)) (sym g.more.1) (numbered-longer vs g.more.0 (get_or xs k d) (h k d within))

pub map-longer : (vs new : List ℕ) (xs : List ℤ) → Grown vs new → All (IsNumbered vs) xs → map (behind new) xs ≡ map (behind vs) xs
map-longer vs new [] g h = refl
map-longer vs new (x ∷ xs) g h =
    let here : behind new x ≡ behind vs x = ap (λ ns. behind ns x) g.more.1 ∙ behind-longer vs g.more.0 x (h 0 x (omega arith)) in
    let rest : map (behind new) xs ≡ map (behind vs) xs = map-longer vs new xs g (λ k d w. h (suc k) d (omega (arith, w))) in
    ap (λ y. y ∷ map (behind new) xs) here ∙ ap (λ ys. behind vs x ∷ ys) rest

pub magnitude : (z : ℤ) → variable z ≡ nat_abs z
magnitude (pos n) = refl
magnitude (negsuc n) = refl

pub negative-is : (z : ℤ) → lt_z z (pos 0) ≡ true → neg_ℤ (pos (nat_abs z)) ≡ z
negative-is (pos n) e = absurd (grind (arith, ints, e))
negative-is (negsuc n) e = refl

pub nonnegative-is : (z : ℤ) → lt_z z (pos 0) ≡ false → pos (nat_abs z) ≡ z
nonnegative-is (pos n) e = refl
nonnegative-is (negsuc n) e = absurd (grind (arith, ints, e))

-- ---- lists of clauses

pub clauses-longer : (vs new : List ℕ) (cs : List (List ℤ)) → Grown vs new → All (λ c. All (IsNumbered vs) c) cs → All (λ c. All (IsNumbered new) c) cs
clauses-longer vs new cs g h k d within = all-longer vs new (get_or cs k d) g (h k d within)

pub map-clauses : (vs new : List ℕ) (cs : List (List ℤ)) → Grown vs new → All (λ c. All (IsNumbered vs) c) cs
    → map (map (behind new)) cs ≡ map (map (behind vs)) cs
map-clauses vs new [] g h = refl
map-clauses vs new (c ∷ cs) g h =
    let here : map (behind new) c ≡ map (behind vs) c = map-longer vs new c g (h 0 [] (omega arith)) in
    let rest = map-clauses vs new cs g (λ k d w. h (suc k) d (omega (arith, w))) in
    ap (λ y. y ∷ map (map (behind new)) cs) here ∙ ap (λ ys. map (behind vs) c ∷ ys) rest

-- ---- arrays that have room for numbered literals

own-code : (l : ℤ) (top : ℕ) → variable l ≤ top → code l < 2 * top + 2
own-code (pos n) top h = omega (arith, h)
own-code (negsuc n) top h = omega (arith, h)

opposite-code : (l : ℤ) (top : ℕ) → 0 < variable l → variable l ≤ top → code (neg_ℤ l) < 2 * top + 2
opposite-code (pos zero) top p h = absurd (omega (arith, p))
opposite-code (pos (suc n)) top p h = omega (arith, h)
opposite-code (negsuc n) top p h = omega (arith, h)

pub within-of : (l : ℤ) (top room : ℕ) → room ≡ 2 * top + 2 → IsLiteral l → variable l ≤ top → IsWithin room l
within-of l top room e is h = subst (λ r. IsWithin r l) (sym e) (record {
  is_literal = is;
  code_in = own-code l top h;
  opposite_in = opposite-code l top is.nonzero h;
})
