-- The elements of lists that are made of lists.
use Rattle.std.proofs.Common.{◌≡◌, ◌⊎◌, inl, inr, ℕ, suc, ◌+◌, ◌<◌, Bool, true, false, cond, List, [], ◌∷◌, ◌++◌, get_or, map, filter, refl, sym, subst, ap, ◌∙◌, arith}
use Rattle.std.specs.List.{AllPairs, Contains, flat_map, range_with_len}
use Rattle.std.proofs.lemmas.List.Elements.{Contains-append_left, Contains-append_right, Contains-append_cases, Contains-get_or, filter-append}
use Rattle.std.proofs.lemmas.List.Kept.{AllPairs-cons}
use Rattle.std.proofs.lemmas.List.FromFn.{length-range_with_len, get_or-range_with_len, map-range_with_len_more}
use Rattle.std.proofs.lemmas.List.Concat.{flat_map-append}

pub single : {X : Type 0} (x y : X) → Contains (x ∷ []) y → x ≡ y
single x y c = let z : c.0 ≡ 0 = omega (arith, c.1) in ap (λ i. get_or (x ∷ []) i y) (sym z) ∙ c.2

pub first : {X : Type 0} (x : X) (xs : List X) → Contains (x ∷ xs) x
first x xs = Contains-get_or (x ∷ xs) 0 x (omega arith)

pub later : {X : Type 0} (x y : X) (xs : List X) → Contains xs y → Contains (x ∷ xs) y
later x y xs c = Contains-append_right (x ∷ []) xs y c

pub cons-cases : {X : Type 0} (x y : X) (xs : List X) → Contains (x ∷ xs) y → (x ≡ y) ⊎ Contains xs y
cons-cases x y xs c = elim (Contains-append_cases (x ∷ []) xs y c) [ inl a ↦ inl (single x y a) | inr b ↦ inr b ]

pub none : {X : Type 0} (x : X) → Contains [] x → ⊥
none x c = omega (arith, c.1)

module _ {X A : Type 0} (f : X → List A) where
  pub flat_map-from : (xs : List X) (x : X) (y : A) → Contains xs x → Contains (f x) y → Contains (flat_map f xs) y
  flat_map-from [] x y c d = absurd (none x c)
  flat_map-from (z ∷ xs) x y c d = elim (cons-cases z x xs c) [
    | inl e ↦ Contains-append_left (f z) (flat_map f xs) y (subst (λ w. Contains (f w) y) (sym e) d)
    | inr rest ↦ Contains-append_right (f z) (flat_map f xs) y (flat_map-from xs x y rest d)
  ]

  pub flat_map-to : (xs : List X) (y : A) → Contains (flat_map f xs) y → (x : X) × Contains xs x × Contains (f x) y
  flat_map-to [] y c = absurd (none y c)
  flat_map-to (z ∷ xs) y c = elim (Contains-append_cases (f z) (flat_map f xs) y c) [
    | inl here ↦ (z, first z xs, here)
    | inr rest ↦ let r = flat_map-to xs y rest in (r.0, later z r.0 xs r.1, r.2)
  ]

module _ {X A : Type 0} (f : X → A) where
  pub map-from : (xs : List X) (x : X) → Contains xs x → Contains (map f xs) (f x)
  map-from [] x c = absurd (none x c)
  map-from (z ∷ xs) x c = elim (cons-cases z x xs c) [
    | inl e ↦ subst (λ w. Contains (f z ∷ map f xs) (f w)) e (first (f z) (map f xs))
    | inr rest ↦ later (f z) (f x) (map f xs) (map-from xs x rest)
  ]

  pub map-to : (xs : List X) (y : A) → Contains (map f xs) y → (x : X) × Contains xs x × (f x ≡ y)
  map-to [] y c = absurd (none y c)
  map-to (z ∷ xs) y c = elim (cons-cases (f z) y (map f xs) c) [
    | inl e ↦ (z, first z xs, e)
    | inr rest ↦ let r = map-to xs y rest in (r.0, later z r.0 xs r.1, r.2)
  ]

module _ {X : Type 0} (p : X → Bool) where
  pub filter-from : (xs : List X) (x : X) → Contains xs x → p x ≡ true → Contains (filter p xs) x
  filter-from [] x c e = absurd (none x c)
  filter-from (z ∷ xs) x c e = elim (cons-cases z x xs c) [
    | inl same ↦ subst (λ b. Contains (cond b (z ∷ filter p xs) (filter p xs)) x) (sym (ap p same ∙ e)) (subst (Contains (z ∷ filter p xs)) same (first z (filter p xs)))
    | inr rest ↦ behind (p z) (filter-from xs x rest e)
  ]
    where
      behind : (b : Bool) → Contains (filter p xs) x → Contains (cond b (z ∷ filter p xs) (filter p xs)) x
      behind true c = later z x (filter p xs) c
      behind false c = c

  pub filter-to : (xs : List X) (x : X) → Contains (filter p xs) x → Contains xs x × (p x ≡ true)
  filter-to [] x c = absurd (none x c)
  filter-to (z ∷ xs) x c = kept (p z) refl (λ d. filter-to xs x d) c
    where
      kept : (b : Bool) → p z ≡ b → (Contains (filter p xs) x → Contains xs x × (p x ≡ true)) → Contains (cond b (z ∷ filter p xs) (filter p xs)) x → Contains (z ∷ xs) x × (p x ≡ true)
      kept true e behind c = elim (cons-cases z x (filter p xs) c) [
        | inl same ↦ (subst (Contains (z ∷ xs)) same (first z xs), sym (ap p same) ∙ e)
        | inr rest ↦ let r = behind rest in (later z x xs r.0, r.1)
      ]
      kept false e behind c = let r = behind c in (later z x xs r.0, r.1)

pub range-more : {A : Type 0} (f : ℕ → List A) (n : ℕ) → flat_map f (range_with_len 0 (n + 1)) ≡ flat_map f (range_with_len 0 n) ++ f n
range-more f n =
    ap (flat_map f) (sym (map-same (range_with_len 0 (n + 1))) ∙ map-range_with_len_more (λ x. x) 0 n n (omega arith) ∙ ap (λ l. l ++ n ∷ []) (map-same (range_with_len 0 n)))
    ∙ flat_map-append f (range_with_len 0 n) (n ∷ []) ∙ ap (λ l. flat_map f (range_with_len 0 n) ++ l) (nothing (f n))
  where
    map-same : (xs : List ℕ) → map (λ x. x) xs ≡ xs
    map-same [] = refl
    map-same (x ∷ xs) = ap (λ l. x ∷ l) (map-same xs)

    nothing : {A : Type 0} (l : List A) → l ++ [] ≡ l
    nothing [] = refl
    nothing (y ∷ l) = ap (λ r. y ∷ r) (nothing l)

-- a filter of a range, with one more
filter-range : (p : ℕ → Bool) (n : ℕ) → filter p (range_with_len 0 (n + 1)) ≡ filter p (range_with_len 0 n) ++ cond (p n) (n ∷ []) []
filter-range p n =
    ap (filter p) (sym (map-same (range_with_len 0 (n + 1))) ∙ map-range_with_len_more (λ x. x) 0 n n (omega arith) ∙ ap (λ l. l ++ n ∷ []) (map-same (range_with_len 0 n)))
    ∙ filter-append p (range_with_len 0 n) (n ∷ [])
  where
    map-same : (xs : List ℕ) → map (λ x. x) xs ≡ xs
    map-same [] = refl
    map-same (x ∷ xs) = ap (λ l. x ∷ l) (map-same xs)

pub filter-range-take : (p : ℕ → Bool) (xs : List ℕ) (n : ℕ) → p n ≡ true → (xs ++ filter p (range_with_len 0 n)) ++ n ∷ [] ≡ xs ++ filter p (range_with_len 0 (n + 1))
filter-range-take p xs n e =
    ++-assoc xs (filter p (range_with_len 0 n)) (n ∷ [])
    ∙ ap (λ l. xs ++ l) (sym (filter-range p n ∙ ap (λ (b : Bool). filter p (range_with_len 0 n) ++ cond b (n ∷ []) []) e))
  where
    ++-assoc : (a b c : List ℕ) → (a ++ b) ++ c ≡ a ++ (b ++ c)
    ++-assoc [] b c = refl
    ++-assoc (x ∷ a) b c = ap (λ l. x ∷ l) (++-assoc a b c)

pub filter-range-leave : (p : ℕ → Bool) (n : ℕ) → p n ≡ false → filter p (range_with_len 0 n) ≡ filter p (range_with_len 0 (n + 1))
filter-range-leave p n e =
    sym (filter-range p n ∙ ap (λ (b : Bool). filter p (range_with_len 0 n) ++ cond b (n ∷ []) []) e ∙ nothing (filter p (range_with_len 0 n)))
  where
    nothing : (l : List ℕ) → l ++ [] ≡ l
    nothing [] = refl
    nothing (y ∷ l) = ap (λ r. y ∷ r) (nothing l)

pub range-from : (n k : ℕ) → k < n → Contains (range_with_len 0 n) k
range-from n k less =
    let e = length-range_with_len 0 n in
    let z : 0 + k ≡ k = omega arith in
    (k, omega (arith, e, less), get_or-range_with_len 0 n k k less ∙ z)

pub range-to : (n k : ℕ) → Contains (range_with_len 0 n) k → k < n
range-to n k c =
    let e = length-range_with_len 0 n in
    let less : c.0 < n = omega (arith, c.1, e) in
    let f = get_or-range_with_len 0 n c.0 k less in
    let g = c.2 in omega (arith, f, g, less)

-- order

module _ {X : Type 0} (S : X → X → Type 0) where
  pub pairs-with : (R : X → X → Type 0) (xs : List X) → AllPairs R xs → ((a b : X) → R a b → Contains xs a → Contains xs b → S a b) → AllPairs S xs
  pairs-with R xs h f i j d less within =
      f (get_or xs i d) (get_or xs j d) (h i j d less within) (Contains-get_or xs i d (omega (arith, less, within))) (Contains-get_or xs j d within)

  pairs-append : (xs ys : List X) → AllPairs S xs → AllPairs S ys → ((a b : X) → Contains xs a → Contains ys b → S a b) → AllPairs S (xs ++ ys)
  pairs-append [] ys h k f = k
  pairs-append (x ∷ xs) ys h k f =
      AllPairs-cons S x (xs ++ ys)
      (λ n d within. elim (Contains-append_cases xs ys (get_or (xs ++ ys) n d) (Contains-get_or (xs ++ ys) n d within)) [
        | inl a ↦ subst (S x) a.2 (h 0 (suc a.0) (get_or (xs ++ ys) n d) (omega arith) (let w = a.1 in omega (arith, w)))
        | inr b ↦ f x (get_or (xs ++ ys) n d) (first x xs) b
      ])
      (pairs-append xs ys (λ i j d less within. h (suc i) (suc j) d (omega (arith, less)) (omega (arith, within))) k (λ a b c e. f a b (later x a xs c) e))

  pub pairs-flat_map : {Y : Type 0} (f : Y → List X) (R : Y → Y → Type 0) (ys : List Y) → AllPairs R ys → ((y : Y) → Contains ys y → AllPairs S (f y))
      → ((y z : Y) (a b : X) → R y z → Contains ys y → Contains ys z → Contains (f y) a → Contains (f z) b → S a b) → AllPairs S (flat_map f ys)
  pairs-flat_map f R [] h inside across = λ i j d less within. absurd (omega (arith, within))
  pairs-flat_map f R (y ∷ ys) h inside across =
      pairs-append (f y) (flat_map f ys) (inside y (first y ys))
      (pairs-flat_map f R ys (λ i j d less within. h (suc i) (suc j) d (omega (arith, less)) (omega (arith, within))) (λ z c. inside z (later y z ys c))
      (λ z w a b r c d. across z w a b r (later y z ys c) (later y w ys d)))
      (λ a b c e. (let t = flat_map-to f ys b e in
      across y t.0 a b (subst (R y) t.1.2 (h 0 (suc t.1.0) t.0 (omega arith) (let w = t.1.1 in omega (arith, w)))) (first y ys) (later y t.0 ys t.1) c t.2))

pub pairs-range : (n : ℕ) → AllPairs (λ a b. a < b) (range_with_len 0 n)
pairs-range n i j d less within =
    let e = length-range_with_len 0 n in
    let a = get_or-range_with_len 0 n i d (omega (arith, e, less, within)) in
    let b = get_or-range_with_len 0 n j d (omega (arith, e, within)) in
    omega (arith, a, b, less)
