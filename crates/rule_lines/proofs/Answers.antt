-- Parts of accesses. This project's own.
use Rattle.std.proofs.Common.{◌≡◌, ℕ, zero, suc, ◌+◌, ◌-◌, ◌%◌, ◌^◌, ◌<◌, ◌≤◌, true, List, [], ◌∷◌, ◌++◌, length, slice_index_or, Contains, refl, sym, ap, ◌∙◌, subst, arith, length-append}
use Rattle.std.specs.List.{All, flat_map}
use Rattle.std.proofs.lemmas.Grind.{flat_map-append}
use Rattle.std.proofs.lemmas.List.{get_or_append_left, append-nil}
use Rattle.std.proofs.lemmas.List.Elements.{Contains-append_left, Contains-append_right}
use Rattle.std.proofs.Math.Seq.{get_or-append_right}
use Rattle.machines.specs.Prelude.{Rights}
use Rattle.symbolic_tiles.specs.Prelude.{span}
use Rattle.row_runs.specs.Accesses.{Accessed}
use Rattle.rule_places.specs.Accesses.{loads_at, stores_at}
use Rattle.rule_lines.specs.Runs.{span_of, AreAnswered}
use Rattle.rule_lines.proofs.Memory.{span_has}
use Rattle.rule_lines.proofs.Reading.{IsFar}

all_left : (P : Accessed → Type 0) (xs ys : List Accessed) → All P (xs ++ ys) → All P xs
all_left P xs ys h k d lt = let n = length-append xs ys in subst P (get_or_append_left xs ys d k lt) (h k d (omega (arith, n, lt)))

all_right : (P : Accessed → Type 0) (xs ys : List Accessed) → All P (xs ++ ys) → All P ys
all_right P xs ys h k d lt =
    let n = length-append xs ys in
    let i : length xs + k - length xs ≡ k = omega arith in
    subst P (get_or-append_right xs ys (length xs + k) d (omega arith) ∙ ap (λ j. slice_index_or ys j d) i) (h (length xs + k) d (omega (arith, n, lt)))

module _ (f : Accessed → List ℕ) (xs ys : List Accessed) (a : ℕ) where
  in_left : Contains (flat_map f xs) a → Contains (flat_map f (xs ++ ys)) a
  in_left c = subst (λ (l : List ℕ). Contains l a) (sym (flat_map-append f xs ys)) (Contains-append_left (flat_map f xs) (flat_map f ys) a c)

  in_right : Contains (flat_map f ys) a → Contains (flat_map f (xs ++ ys)) a
  in_right c = subst (λ (l : List ℕ). Contains l a) (sym (flat_map-append f xs ys)) (Contains-append_right (flat_map f xs) (flat_map f ys) a c)

module _ (area : ℕ) (host : Rights) (oracle : ℕ → ℕ → ℕ) where
  abbrev IsFound : (ℕ → ℕ) → Accessed → Type 0
  IsFound bytes x = x.loads ≡ true → (k : ℕ) → k < x.width → oracle x.address k ≡ bytes ((x.address + k) % 2 ^ 32)

  pub answered_left : (bytes : ℕ → ℕ) (xs ys : List Accessed) → AreAnswered area host oracle bytes (xs ++ ys) → AreAnswered area host oracle bytes xs
  answered_left bytes xs ys h = record {
    few = let n = length-append xs ys in let f = h.few in omega (arith, n, f);
    far = λ a c. h.far a (in_left span_of xs ys a c);
    inside = record { loaded = λ a c. h.inside.loaded a (in_left loads_at xs ys a c); stored = λ a c. h.inside.stored a (in_left stores_at xs ys a c) };
    finds = all_left (IsFound bytes) xs ys h.finds;
  }

  pub answered_right : (bytes : ℕ → ℕ) (xs ys : List Accessed) → AreAnswered area host oracle bytes (xs ++ ys) → AreAnswered area host oracle bytes ys
  answered_right bytes xs ys h = record {
    few = let n = length-append xs ys in let f = h.few in omega (arith, n, f);
    far = λ a c. h.far a (in_right span_of xs ys a c);
    inside = record { loaded = λ a c. h.inside.loaded a (in_right loads_at xs ys a c); stored = λ a c. h.inside.stored a (in_right stores_at xs ys a c) };
    finds = all_right (IsFound bytes) xs ys h.finds;
  }

  abbrev Finds : (ℕ → ℕ) → List Accessed → Type 0
  Finds bytes xs = All (IsFound bytes) xs

  -- where there is no access yet, the next finds what stands there still
  finds_still : (bytes bytes' : ℕ → ℕ) (ys : List Accessed) → length ys ≤ 1 → ((a : ℕ) → Contains (flat_map span_of ys) a → bytes' a ≡ bytes a) → Finds bytes ys → Finds bytes' ys
  finds_still bytes bytes' [] few same h = λ k d lt. absurd (omega (arith, lt))
  finds_still bytes bytes' (y ∷ []) few same h = λ k d lt. at k d lt
    where
      at : (k : ℕ) (d : Accessed) → k < length (y ∷ []) → (slice_index_or (y ∷ []) k d).loads ≡ true → (i : ℕ) → i < (slice_index_or (y ∷ []) k d).width →
          oracle (slice_index_or (y ∷ []) k d).address i ≡ bytes' (((slice_index_or (y ∷ []) k d).address + i) % 2 ^ 32)
      at zero d lt loads i li =
          h 0 d lt loads i li ∙ sym (same ((y.address + i) % 2 ^ 32) (subst (λ (l : List ℕ). Contains l ((y.address + i) % 2 ^ 32)) (sym (append-nil (span y.width y.address))) (span_has y.width y.address i li)))
      at (suc k) d lt loads i li = absurd (omega (arith, lt))
  finds_still bytes bytes' (y ∷ z ∷ ys) few same h = absurd (omega (arith, few))

  pub answered_behind : (bytes bytes' : ℕ → ℕ) (xs ys : List Accessed) → (xs ≡ [] → (a : ℕ) → IsFar area a → bytes' a ≡ bytes a) → AreAnswered area host oracle bytes (xs ++ ys) → AreAnswered area host oracle bytes' ys
  answered_behind bytes bytes' xs ys same h = let r = answered_right bytes xs ys h in record { few = r.few; far = r.far; inside = r.inside; finds = by_list xs ys same h }
    where
      by_list : (xs ys : List Accessed) → (xs ≡ [] → (a : ℕ) → IsFar area a → bytes' a ≡ bytes a) → AreAnswered area host oracle bytes (xs ++ ys) → Finds bytes' ys
      by_list [] ys same h = finds_still bytes bytes' ys h.few (λ a c. same refl a (h.far a c)) h.finds
      by_list (x ∷ xs) ys same h = let n = length-append (x ∷ xs) ys in let few = h.few in let none : length ys ≡ 0 = omega (arith, n, few) in λ k d lt. absurd (omega (arith, none, lt))
