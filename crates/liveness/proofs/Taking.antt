-- A word that waited waits no more.
use Rattle.std.proofs.Common.{◌≡◌, ◌≢◌, ℕ, ◌+◌, ◌<◌, inl, inr, List, [], ◌∷◌, ◌++◌, Bool, true, false, length, set, refl, sym, ◌∙◌, ap, subst, arith, length-set, get_or-set_same, get_or-set_other, Contains}
use Rattle.std.specs.Prelude.{slice_index, slice_index_or, None, Some}
use Rattle.std.proofs.lemmas.List.{get_or_append_left, get_or_push, append-nil}
use Rattle.std.proofs.lemmas.List.Elements.{Contains-push_cases}
use Rattle.std.proofs.Math.ListN.{length-append}
use Rattle.liveness.specs.Prelude.{Flow, IsUnder, IsSettled, Waits, Takes}
use Rattle.liveness.specs.Flows.{Leads}

module _ (flows : List Flow) (sets : List ℕ) (waiting : List Bool) (stack rest : List ℕ) where
  pub nothing_waits : stack ≡ rest ++ [] → (0 < length stack → false ≡ true) → IsUnder flows sets waiting stack
      → ((p s : ℕ) → Leads flows p s → IsSettled flows sets waiting p s) → Takes flows sets stack sets waiting rest None
  nothing_waits e none under settled = (
    refl,
    rest_under,
    λ p s leads. elim (settled p s leads) [
      | inl closed ↦ closed
      | inr w ↦ (let c = under.waits s w in let lt = c.1 in let no : false ≡ true = none (omega arith) in cc)
    ],
  ) where
    rest_under : IsUnder flows sets waiting rest
    rest_under = subst (λ (xs : List ℕ). IsUnder flows sets waiting xs) (e ∙ append-nil rest) under

  module _ (place : ℕ) (e : stack ≡ rest ++ place ∷ []) (under : IsUnder flows sets waiting stack)
      (settled : (p s : ℕ) → Leads flows p s → IsSettled flows sets waiting p s) where
    count : length stack ≡ length rest + 1
    count = ap length e ∙ length-append rest (place ∷ [])

    place_within : place < length flows
    place_within =
        let last : slice_index stack (length rest) ≡ place = ap (λ (xs : List ℕ). slice_index xs (length rest)) e ∙ get_or_push rest place 0 (length rest) refl in
        subst (λ (x : ℕ). x < length flows) last (let n = count in under.places (length rest) (omega arith))

    other : (s : ℕ) → s ≢ place → slice_index_or (set waiting place false) s false ≡ slice_index_or waiting s false
    other s ne = get_or-set_other waiting place s false false ne

    waits_other : (s : ℕ) → Waits (set waiting place false) s → s ≢ place
    waits_other s w same =
        let n = under.each_may_wait in let lt = place_within in
        let off : slice_index_or (set waiting place false) s false ≡ false = ap (λ (j : ℕ). slice_index_or (set waiting place false) j false) same ∙ get_or-set_same waiting place false false (omega arith) in
        let no : true ≡ false = sym w ∙ off in cc

    still_waits : (s : ℕ) → Waits (set waiting place false) s → Contains rest s
    still_waits s w =
        let ne = waits_other s w in
        elim (Contains-push_cases rest place s (subst (λ (xs : List ℕ). Contains xs s) e (under.waits s (sym (other s ne) ∙ w)))) [
          | inl c ↦ c
          | inr same ↦ absurd (ne (sym same))
        ]

    still_within : (k : ℕ) → k < length rest → slice_index rest k < length flows
    still_within k lt =
        let same : slice_index stack k ≡ slice_index rest k = ap (λ (xs : List ℕ). slice_index xs k) e ∙ get_or_append_left rest (place ∷ []) 0 k lt in
        subst (λ (x : ℕ). x < length flows) same (let n = count in under.places k (omega arith))

    pub taken : Takes flows sets stack sets (set waiting place false) rest (Some place)
    taken = (
      place_within,
      record {
        each_has_one = under.each_has_one;
        each_may_wait = length-set _ _ _ ∙ under.each_may_wait;
        places = still_within;
        waits = still_waits;
        reads = under.reads;
        live = under.live;
      },
      λ p s leads ne. elim (settled p s leads) [
        | inl closed ↦ inl closed
        | inr w ↦ inr (other s ne ∙ w)
      ],
      (let n = count in omega arith),
    )
