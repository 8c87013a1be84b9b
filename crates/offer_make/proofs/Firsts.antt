-- The first of GPRs, each once.
use Rattle.std.proofs.Common.{◌≡◌, ◌≢◌, ◌⊎◌, inl, inr, ℕ, zero, suc, ◌<◌, ◌≤◌, ◌==◌, Bool, true, false, not, ◌||◌, cond, List, [], ◌∷◌, ◌++◌, length, get_or, take, filter, if◌then◌else◌, refl, sym, subst, ap, ◌∙◌, arith}
use Rattle.std.specs.List.{All, AllPairs, Contains, list_any}
use Rattle.std.proofs.lemmas.Bool.Decides.{nat_tests}
use Rattle.std.proofs.lemmas.List.{take_all, take-append-le, get_or-take, length-take, length_push}
use Rattle.std.proofs.lemmas.List.Elements.{All-take, All-contains, Contains-append_left, Contains-get_or, filter-append}
use Rattle.std.proofs.lemmas.List.Kept.{AllPairs-cons, AllPairs-filter}
use Rattle.offer_make.specs.Candidates.{firsts}
use Rattle.offer_make.proofs.Elements.{none, first, later, cons-cases, filter-from, filter-to}

abbrev other_than : ℕ → ℕ → Bool
other_than g h = not (h == g)

abbrev pub has : List ℕ → ℕ → Bool
has xs x = list_any (λ h. h == x) xs

same : (g x : ℕ) → (g == x) ≡ true → g ≡ x
same g x e = grind (arith, nat_tests)

equal : (g x : ℕ) → g ≡ x → (g == x) ≡ true
equal g x e = grind (arith, nat_tests)

pub has-to : (xs : List ℕ) (x : ℕ) → has xs x ≡ true → Contains xs x
has-to [] x e = absurd cc
has-to (g ∷ gprs) x e = go (g == x) refl e (λ h. has-to gprs x h)
  where
    go : (b : Bool) → (g == x) ≡ b → (b || has gprs x) ≡ true → (has gprs x ≡ true → Contains gprs x) → Contains (g ∷ gprs) x
    go true f h rest = subst (Contains (g ∷ gprs)) (same g x f) (first g gprs)
    go false f h rest = later g x gprs (rest h)

pub has-from : (xs : List ℕ) (x : ℕ) → Contains xs x → has xs x ≡ true
has-from [] x c = absurd (none x c)
has-from (g ∷ gprs) x c = elim (cons-cases g x gprs c) [
  | inl e ↦ ap (λ (b : Bool). b || has gprs x) (equal g x e)
  | inr rest ↦ let f = has-from gprs x rest in either (g == x) f
]
  where
    either : (b : Bool) → has gprs x ≡ true → (b || has gprs x) ≡ true
    either true f = refl
    either false f = f

abbrev unless_had : Bool → ℕ → List ℕ
unless_had b x = if b then [] else x ∷ []

turned : (g x : ℕ) → (x == g) ≡ (g == x)
turned g x = grind (arith, nat_tests)

-- one more
firsts-push : (xs : List ℕ) (x : ℕ) → firsts (xs ++ x ∷ []) ≡ firsts xs ++ unless_had (has xs x) x
firsts-push [] x = refl
firsts-push (g ∷ gprs) x =
    ap (λ l. g ∷ filter (other_than g) l) (firsts-push gprs x)
    ∙ ap (λ l. g ∷ l) (filter-append (other_than g) (firsts gprs) (unless_had (has gprs x) x) ∙ ap (λ l. filter (other_than g) (firsts gprs) ++ l) (kept (has gprs x)))
  where
    one : (b : Bool) → cond (not b) (x ∷ []) [] ≡ unless_had (b || false) x
    one true = refl
    one false = refl

    kept : (b : Bool) → filter (other_than g) (unless_had b x) ≡ unless_had ((g == x) || b) x
    kept false = ap (λ (b : Bool). cond (not b) (x ∷ []) []) (turned g x) ∙ one (g == x)
    kept true = none_left (g == x)
      where
        none_left : (b : Bool) → [] ≡ unless_had (b || true) x
        none_left true = refl
        none_left false = refl

pub firsts-to : (xs : List ℕ) (x : ℕ) → Contains (firsts xs) x → Contains xs x
firsts-to [] x c = c
firsts-to (g ∷ gprs) x c = elim (cons-cases g x (filter (other_than g) (firsts gprs)) c) [
  | inl e ↦ subst (Contains (g ∷ gprs)) e (first g gprs)
  | inr rest ↦ later g x gprs (firsts-to gprs x (filter-to (other_than g) (firsts gprs) x rest).0)
]

pub firsts-from : (xs : List ℕ) (x : ℕ) → Contains xs x → Contains (firsts xs) x
firsts-from [] x c = c
firsts-from (g ∷ gprs) x c = elim (cons-cases g x gprs c) [
  | inl e ↦ subst (Contains (g ∷ filter (other_than g) (firsts gprs))) e (first g (filter (other_than g) (firsts gprs)))
  | inr rest ↦ go (x == g) refl (firsts-from gprs x rest)
]
  where
    go : (b : Bool) → (x == g) ≡ b → Contains (firsts gprs) x → Contains (g ∷ filter (other_than g) (firsts gprs)) x
    go true e c = subst (Contains (g ∷ filter (other_than g) (firsts gprs))) (sym (same x g e)) (first g (filter (other_than g) (firsts gprs)))
    go false e c = later g x (filter (other_than g) (firsts gprs)) (filter-from (other_than g) (firsts gprs) x c (ap not e))

-- the loop over them keeps six at most
abbrev pub six_of : List ℕ → List ℕ
six_of xs = take 6 (firsts xs)

pub six-kept : (xs six : List ℕ) (x : ℕ) → six ≡ six_of xs → (6 ≤ length six) ⊎ Contains six x → six ≡ six_of (xs ++ x ∷ [])
six-kept xs six x e (inl full) =
    let n = length-take 6 (firsts xs) in
    let l = ap length e in
    e ∙ sym (ap (take 6) (firsts-push xs x) ∙ take-append-le 6 (firsts xs) (unless_had (has xs x) x) (omega (arith, n, l, full)))
six-kept xs six x e (inr c) =
    let among = All-contains (Contains xs) six x (subst (All (Contains xs)) (sym e) (All-take (Contains xs) 6 (firsts xs) (λ k d within. firsts-to xs (get_or (firsts xs) k d) (Contains-get_or (firsts xs) k d within)))) c in
    e ∙ sym (ap (take 6) (firsts-push xs x ∙ ap (λ b. firsts xs ++ unless_had b x) (has-from xs x among) ∙ nothing (firsts xs)))
  where
    nothing : (l : List ℕ) → l ++ [] ≡ l
    nothing [] = refl
    nothing (y ∷ l) = ap (λ r. y ∷ r) (nothing l)

pub six-pushed : (xs six : List ℕ) (x : ℕ) → six ≡ six_of xs → length six < 6 → ¬ (Contains six x) → six ++ x ∷ [] ≡ six_of (xs ++ x ∷ [])
six-pushed xs six x e few new =
    let n = length-take 6 (firsts xs) in
    let l = ap length e in
    let low : length (firsts xs) < 6 = omega (arith, n, l, few) in
    let whole : six ≡ firsts xs = e ∙ take_all 6 (firsts xs) (omega (arith, low)) in
    let p = length_push (firsts xs) x in
    ap (λ r. r ++ x ∷ []) whole
    ∙ sym (ap (take 6) (firsts-push xs x ∙ ap (λ b. firsts xs ++ unless_had b x) (lacks (has xs x) refl whole))
    ∙ take_all 6 (firsts xs ++ x ∷ []) (omega (arith, p, low)))
  where
    lacks : (b : Bool) → has xs x ≡ b → six ≡ firsts xs → b ≡ false
    lacks false h whole = refl
    lacks true h whole = absurd (new (subst (λ r. Contains r x) (sym whole) (firsts-from xs x (has-to xs x h))))

pub distinct : (xs : List ℕ) → AllPairs (λ g h. g ≢ h) (firsts xs)
distinct [] = λ i j d less within. absurd (omega (arith, within))
distinct (g ∷ gprs) =
    AllPairs-cons (λ g h. g ≢ h) g (filter (other_than g) (firsts gprs))
    (λ k d within. (let c = filter-to (other_than g) (firsts gprs) (get_or (filter (other_than g) (firsts gprs)) k d) (Contains-get_or (filter (other_than g) (firsts gprs)) k d within) in unlike _ c.1))
    (AllPairs-filter (λ g h. g ≢ h) (other_than g) (firsts gprs) (distinct gprs))
  where
    unlike : (h : ℕ) → not (h == g) ≡ true → g ≢ h
    unlike h e = grind (arith, nat_tests)

pub pairs-take : {X : Type 0} (R : X → X → Type 0) (n : ℕ) (xs : List X) → AllPairs R xs → AllPairs R (take n xs)
pairs-take R n xs h i j d less within =
    let l = length-take n xs in
    let a = get_or-take n xs i d (omega (arith, l, less, within)) in
    let b = get_or-take n xs j d (omega (arith, l, within)) in
    subst (λ x. R x (get_or (take n xs) j d)) (sym a) (subst (R (get_or xs i d)) (sym b) (h i j d less (omega (arith, l, within))))

-- what is among the first six of some GPRs is so of these and more
firsts-begin : (xs ys : List ℕ) → (rest : List ℕ) × (firsts (xs ++ ys) ≡ firsts xs ++ rest)
firsts-begin [] ys = (firsts ys, refl)
firsts-begin (g ∷ gprs) ys =
    let r = firsts-begin gprs ys in
    (filter (other_than g) r.0, ap (λ l. g ∷ filter (other_than g) l) r.1 ∙ ap (λ l. g ∷ l) (filter-append (other_than g) (firsts gprs) r.0))

filter-short : (p : ℕ → Bool) (xs : List ℕ) → length (filter p xs) ≤ length xs
filter-short p [] = omega arith
filter-short p (x ∷ xs) = let s = filter-short p xs in go (p x) s
  where
    go : (b : Bool) → length (filter p xs) ≤ length xs → length (cond b (x ∷ filter p xs) (filter p xs)) ≤ length (x ∷ xs)
    go true s = omega (arith, s)
    go false s = omega (arith, s)

firsts-short : (xs : List ℕ) → length (firsts xs) ≤ length xs
firsts-short [] = omega arith
firsts-short (g ∷ gprs) = let a = filter-short (other_than g) (firsts gprs) in let b = firsts-short gprs in omega (arith, a, b)

pub six-of-few : (xs ys : List ℕ) (x : ℕ) → length xs ≤ 6 → Contains xs x → Contains (six_of (xs ++ ys)) x
six-of-few xs ys x few c =
    let r = firsts-begin xs ys in
    let s = firsts-short xs in
    let f : Contains (firsts xs) x = firsts-from xs x c in
    let g : Contains (firsts (xs ++ ys)) x = subst (λ l. Contains l x) (sym r.1) (Contains-append_left (firsts xs) r.0 x f) in
    let le : f.0 < 6 = omega (arith, s, few, f.1) in
    let a = ap (λ l. get_or l f.0 x) r.1 in
    let l = length-take 6 (firsts (xs ++ ys)) in
    let h = Contains-append_left (firsts xs) r.0 x f in
    let m = ap length r.1 in
    (f.0, (let k = longer (firsts xs) r.0 in omega (arith, l, m, k, le, f.1)), get_or-take 6 (firsts (xs ++ ys)) f.0 x le ∙ a ∙ within (firsts xs) r.0 f.0 f.1 ∙ f.2)
  where
    longer : (a b : List ℕ) → length a ≤ length (a ++ b)
    longer [] b = omega arith
    longer (y ∷ a) b = let k = longer a b in omega (arith, k)

    within : (a b : List ℕ) (k : ℕ) → k < length a → get_or (a ++ b) k x ≡ get_or a k x
    within [] b k less = absurd (omega (arith, less))
    within (y ∷ a) b zero less = refl
    within (y ∷ a) b (suc k) less = within a b k (omega (arith, less))
