-- The bytes that a window's load finds. This project's own.
use Rattle.std.proofs.Common.{◌≡◌, ℕ, zero, suc, ◌+◌, ◌%◌, ◌^◌, ◌<◌, ◌≤◌, Bool, true, false, cond, nat_lt, if◌then◌else◌, List, [], ◌∷◌, ◌++◌, Contains, refl, sym, ap, ◌∙◌, subst, arith}
use Rattle.std.specs.List.{flat_map}
use Rattle.std.proofs.Math.Path.{fun_ext}
use Rattle.std.proofs.lemmas.Bool.Decides.{nat_tests}
use Rattle.std.proofs.lemmas.List.Elements.{All-nil, All-cons, All-get_or, Contains-append_left}
use Rattle.symbolic_tiles.specs.Prelude.{span}
use Rattle.row_laws.proofs.Lists.{first_in, later_in}
use Rattle.row_runs.specs.Accesses.{Accessed, Finds}
use Rattle.rule_places.specs.Accesses.{loads_at, seen, AreFound, IsOneAccess}

-- what a memory shows from the first of these addresses on
abbrev pub found : List ℕ → ℕ → (ℕ → ℕ) → ℕ → ℕ
found [] width bytes k = 0
found (a ∷ rest) width bytes k = seen width bytes a k

below : (k n : ℕ) → k < n → nat_lt k n ≡ true
below k n lt = grind (arith, nat_tests)

not_below : (k : ℕ) → nat_lt k 0 ≡ false
not_below k = grind (arith, nat_tests)

-- from the first of a span on it shows what it shows from its address on
pub found_span : (width a : ℕ) (bytes : ℕ → ℕ) → found (span width a ++ []) width bytes ≡ seen width bytes a
found_span zero a bytes = fun_ext (λ k. sym (ap (λ b. if b then bytes ((a + k) % 2 ^ 32) else 0) (not_below k)))
found_span (suc w) a bytes = fun_ext (λ k. let e : (a % 2 ^ 32 + k) % 2 ^ 32 ≡ (a + k) % 2 ^ 32 = omega arith in ap (λ z. if nat_lt k (suc w) then bytes z else 0) e)

abbrev IsAnswered : (ℕ → ℕ → ℕ) → (ℕ → ℕ) → Accessed → Type 0
IsAnswered oracle bytes x = x.loads ≡ true → oracle x.address ≡ bytes

abbrev IsRead : (ℕ → ℕ → ℕ) → (ℕ → ℕ) → Accessed → Type 0
IsRead oracle memory x = x.loads ≡ true → (k : ℕ) → k < x.width → oracle x.address k ≡ memory ((x.address + k) % 2 ^ 32)

abbrev HasWidth : ℕ → Accessed → Type 0
HasWidth width x = x.loads ≡ true → x.width ≡ width

-- where something is loaded by one access, what is found at the addresses that were loaded is what the load finds
pub finds : (width : ℕ) (bytes : ℕ → ℕ) (xs : List Accessed) → IsOneAccess width xs → Finds (seen width bytes) (found (flat_map loads_at xs) width bytes) xs
finds width bytes [] one = All-nil (IsAnswered (seen width bytes) (found [] width bytes))
finds width bytes (x ∷ []) one = All-cons (IsAnswered (seen width bytes) (found (flat_map loads_at (x ∷ [])) width bytes)) x [] (λ loads. here x.loads loads refl) (All-nil (IsAnswered (seen width bytes) (found (flat_map loads_at (x ∷ [])) width bytes)))
  where
    wide : x.loads ≡ true → x.width ≡ width
    wide = All-get_or (HasWidth width) (x ∷ []) 0 x (omega arith) one.loads

    here : (b : Bool) → x.loads ≡ true → x.loads ≡ b → seen width bytes x.address ≡ found (flat_map loads_at (x ∷ [])) width bytes
    here true loads e = sym (ap (λ b. found (cond b (span x.width x.address) [] ++ []) width bytes) loads ∙ ap (λ w. found (span w x.address ++ []) width bytes) (wide loads) ∙ found_span width x.address bytes)
    here false loads e = absurd cc
finds width bytes (x ∷ y ∷ ys) one = let few = one.few in absurd (omega (arith, few))

-- what is found of a memory is bytes where those loaded are
in_span : (n a k : ℕ) → k < n → Contains (span n a) ((a + k) % 2 ^ 32)
in_span zero a k lt = absurd (omega (arith, lt))
in_span (suc n) a zero lt = let e : (a + 0) % 2 ^ 32 ≡ a % 2 ^ 32 = omega arith in subst (λ (z : ℕ). Contains (a % 2 ^ 32 ∷ span n (a + 1)) z) (sym e) (first_in (a % 2 ^ 32) (span n (a + 1)))
in_span (suc n) a (suc k) lt = let e : (a + suc k) % 2 ^ 32 ≡ (a + 1 + k) % 2 ^ 32 = omega arith in later_in (a % 2 ^ 32) ((a + suc k) % 2 ^ 32) (span n (a + 1)) (subst (λ (z : ℕ). Contains (span n (a + 1)) z) (sym e) (in_span n (a + 1) k (omega (arith, lt))))

pub load_bytes : (x : Accessed) (k : ℕ) → x.loads ≡ true → k < x.width → Contains (loads_at x) ((x.address + k) % 2 ^ 32)
load_bytes x k loads lt = subst (λ (b : Bool). Contains (cond b (span x.width x.address) []) ((x.address + k) % 2 ^ 32)) (sym loads) (in_span x.width x.address k lt)

seen_small : (width a k : ℕ) (bytes : ℕ → ℕ) (b : Bool) → ((k : ℕ) → k < width → bytes ((a + k) % 2 ^ 32) < 256) → nat_lt k width ≡ b → (if b then bytes ((a + k) % 2 ^ 32) else 0) < 256
seen_small width a k bytes true small e = small k (grind (arith, nat_tests))
seen_small width a k bytes false small e = omega arith

pub found_small : (width : ℕ) (bytes : ℕ → ℕ) (xs : List Accessed) → IsOneAccess width xs → ((a : ℕ) → Contains (flat_map loads_at xs) a → bytes a < 256) → (k : ℕ) → found (flat_map loads_at xs) width bytes k < 256
found_small width bytes [] one small k = omega arith
found_small width bytes (x ∷ []) one small k = by_kind x.loads refl
  where
    wide : x.loads ≡ true → x.width ≡ width
    wide = All-get_or (HasWidth width) (x ∷ []) 0 x (omega arith) one.loads

    by_kind : (b : Bool) → x.loads ≡ b → found (cond b (span x.width x.address) [] ++ []) width bytes k < 256
    by_kind false e = omega arith
    by_kind true e = subst (λ w. found (span w x.address ++ []) width bytes k < 256) (sym (wide e)) (subst (λ f. f k < 256) (sym (found_span width x.address bytes))
        (seen_small width x.address k bytes (nat_lt k width) (λ j lt. small ((x.address + j) % 2 ^ 32) (Contains-append_left (loads_at x) [] ((x.address + j) % 2 ^ 32) (load_bytes x j e (subst (λ w. j < w) (sym (wide e)) lt)))) refl))
found_small width bytes (x ∷ y ∷ ys) one small k = let few = one.few in absurd (omega (arith, few))

-- past the width nothing is found
pub found_none : (xs : List ℕ) (width : ℕ) (bytes : ℕ → ℕ) (k : ℕ) → width ≤ k → found xs width bytes k ≡ 0
found_none [] width bytes k ge = refl
found_none (a ∷ rest) width bytes k ge = let e : nat_lt k width ≡ false = grind (arith, nat_tests) in ap (λ b. if b then bytes ((a + k) % 2 ^ 32) else 0) e

-- an oracle that is one memory answers loads with the bytes of another where both have them
pub found_core : (width : ℕ) (bytes core : ℕ → ℕ) (xs : List Accessed) → IsOneAccess width xs → ((a : ℕ) → Contains (flat_map loads_at xs) a → core a ≡ bytes a) → AreFound (seen width bytes) core xs
found_core width bytes core [] one same = All-nil (IsRead (seen width bytes) core)
found_core width bytes core (x ∷ []) one same = All-cons (IsRead (seen width bytes) core) x [] here (All-nil (IsRead (seen width bytes) core))
  where
    here : x.loads ≡ true → (k : ℕ) → k < x.width → seen width bytes x.address k ≡ core ((x.address + k) % 2 ^ 32)
    here e k lt =
        let wide : x.width ≡ width = All-get_or (HasWidth width) (x ∷ []) 0 x (omega arith) one.loads e in
        let t : nat_lt k width ≡ true = let l : k < width = omega (arith, lt, wide) in below k width l in
        ap (λ b. if b then bytes ((x.address + k) % 2 ^ 32) else 0) t ∙ sym (same ((x.address + k) % 2 ^ 32) (Contains-append_left (loads_at x) [] ((x.address + k) % 2 ^ 32) (load_bytes x k e lt)))
found_core width bytes core (x ∷ y ∷ ys) one same = let few = one.few in absurd (omega (arith, few))
