-- A set grows by what is live before a word behind its own.
use Rattle.std.proofs.Common.{◌≡◌, ◌≢◌, ℕ, ◌+◌, ◌-◌, ◌<◌, ◌≤◌, ◌^◌, ◌↔◌, inl, inr, List, [], ◌∷◌, ◌++◌, Bool, true, false, length, get_or, set, sym, ◌∙◌, ap, subst, arith, length-set, get_or-set_same, get_or-set_other, bit_or, Contains}
use Rattle.std.specs.Prelude.{slice_index, slice_index_or}
use Rattle.std.proofs.lemmas.Nat.{le_or_l}
use Rattle.std.proofs.lemmas.Bool.{cases_lt}
use Rattle.std.proofs.lemmas.List.{get_or_default, get_or_append_left, get_or_push}
use Rattle.std.proofs.lemmas.List.Elements.{Contains-push, Contains-append_left}
use Rattle.std.proofs.Math.ListN.{length-append}
use Rattle.std.proofs.lemmas.Bool.Decides.{eqb_tells}
use Rattle.std.proofs.lemmas.List.Sums.{sum_by-set}
use Rattle.liveness.specs.Prelude.{Flow, Has, flow_at, IsUnder, IsClosed, IsSettled, Waits, Unwritten, room}
use Rattle.liveness.specs.Flows.{Leads, IsLive}
use Rattle.liveness.proofs.Bits.{joined}

module _ (waiting : List Bool) (place : ℕ) (lt : place < length waiting) where
  pub waits_here : Waits (set waiting place true) place
  waits_here = get_or-set_same waiting place true false lt

  pub waits_still : (s : ℕ) → Waits waiting s → Waits (set waiting place true) s
  waits_still s h = elim (eqb_tells s place) [
    | inl e ↦ ap (λ (j : ℕ). slice_index_or (set waiting place true) j false) e.1 ∙ waits_here
    | inr e ↦ get_or-set_other waiting place s true false e.1 ∙ h
  ]

-- the set of `place` is o, and u is what is passed on from the set of `behind`
pub record IsPass (flows : List Flow) (sets : List ℕ) (place behind o u : ℕ) : Type 0 where
  pub is : o ≡ slice_index sets place
  pub passes : (l : ℕ) → Has u l ↔ Unwritten (slice_index sets behind) (flow_at flows place).writes l

pub is_pass : (flows : List Flow) (sets : List ℕ) (place behind o u r : ℕ) → length sets ≡ length flows → Leads flows place behind
    → o ≡ get_or sets place o → r ≡ get_or sets behind r → ((l : ℕ) → Has u l ↔ Unwritten r (flow_at flows place).writes l) → IsPass flows sets place behind o u
is_pass flows sets place behind o u r n leads oe re passes =
    let a = leads.0 in let b = leads.1 in
    record {
      is = oe ∙ get_or_default sets place o 0 (omega arith);
      passes = subst (λ (x : ℕ). (l : ℕ) → Has u l ↔ Unwritten x (flow_at flows place).writes l) (re ∙ get_or_default sets behind r 0 (omega arith)) passes;
    }

module _ (flows : List Flow) (sets : List ℕ) (waiting : List Bool) (stack : List ℕ) (place behind o u : ℕ)
    (under : IsUnder flows sets waiting stack) (leads : Leads flows place behind) (pass : IsPass flows sets place behind o u) where
  is : o ≡ slice_index sets place
  is = pass.is

  passes : (l : ℕ) → Has u l ↔ Unwritten (slice_index sets behind) (flow_at flows place).writes l
  passes = pass.passes

  abbrev After : List ℕ
  After = set sets place (bit_or o u)

  here : slice_index After place ≡ bit_or o u
  here = let n = under.each_has_one in let lt = leads.0 in get_or-set_same sets place (bit_or o u) 0 (omega arith)

  there : (k : ℕ) → k ≢ place → slice_index After k ≡ slice_index sets k
  there k ne = get_or-set_other sets place k (bit_or o u) 0 ne

  grows : (k l : ℕ) → Has (slice_index sets k) l → Has (slice_index After k) l
  grows k l h = elim (eqb_tells k place) [
    | inl e ↦ subst (λ (set : ℕ). Has set l) (sym (ap (λ (j : ℕ). slice_index After j) e.1 ∙ here))
        ((joined o u l).1 (inl (subst (λ (set : ℕ). Has set l) (ap (λ (j : ℕ). slice_index sets j) e.1 ∙ sym is) h)))
    | inr e ↦ subst (λ (set : ℕ). Has set l) (sym (there k e.1)) h
  ]

  passed : (l : ℕ) → Unwritten (slice_index sets behind) (flow_at flows place).writes l → IsLive flows l place
  passed l h = let live = under.live behind l leads.1 h.0 in (behind ∷ live.0, (h.1, leads, live.1))

  live_here : (l : ℕ) → Has (bit_or o u) l → IsLive flows l place
  live_here l h = elim ((joined o u l).0 h) [
    | inl old ↦ under.live place l leads.0 (subst (λ (set : ℕ). Has set l) is old)
    | inr new ↦ passed l ((passes l).0 new)
  ]

  live_after : (k l : ℕ) → k < length flows → Has (slice_index After k) l → IsLive flows l k
  live_after k l lt h = elim (eqb_tells k place) [
    | inl e ↦ subst (λ (j : ℕ). IsLive flows l j) (sym e.1) (live_here l (subst (λ (set : ℕ). Has set l) (ap (λ (j : ℕ). slice_index After j) e.1 ∙ here) h))
    | inr e ↦ under.live k l lt (subst (λ (set : ℕ). Has set l) (there k e.1) h)
  ]

  module _ (waiting' : List Bool) (stack' : List ℕ) where
    pub still_under : length waiting' ≡ length flows → ((k : ℕ) → k < length stack' → slice_index stack' k < length flows)
        → ((s : ℕ) → Waits waiting' s → Contains stack' s) → IsUnder flows After waiting' stack'
    still_under n places waits = record {
      each_has_one = length-set _ _ _ ∙ under.each_has_one;
      each_may_wait = n;
      places = places;
      waits = waits;
      reads = λ k l lt h. grows k l (under.reads k l lt h);
      live = live_after;
    }

  module _ (waiting' : List Bool) (waits : Waits waiting' place) where
    pub keeps : ((s : ℕ) → Waits waiting s → Waits waiting' s) → (p s : ℕ) → IsSettled flows sets waiting p s → IsSettled flows After waiting' p s
    keeps still p s (inr w) = inr (still s w)
    keeps still p s (inl closed) = elim (eqb_tells s place) [
      | inl e ↦ inr (subst (λ (j : ℕ). Waits waiting' j) (sym e.1) waits)
      | inr e ↦ inl (λ l h nw. grows p l (closed l (subst (λ (set : ℕ). Has set l) (there s e.1) h) nw))
    ]

    pub settles : IsSettled flows After waiting' place behind
    settles = elim (eqb_tells behind place) [
      | inl e ↦ inr (subst (λ (j : ℕ). Waits waiting' j) (sym e.1) waits)
      | inr e ↦ inl (λ l h nw. subst (λ (set : ℕ). Has set l) (sym here)
          ((joined o u l).1 (inr ((passes l).1 (subst (λ (set : ℕ). Has set l) (there behind e.1) h, nw)))))
    ]

  pub settled_before : bit_or o u ≡ o → IsClosed flows sets place behind
  settled_before same l h nw = subst (λ (set : ℕ). Has set l) (same ∙ is) ((joined o u l).1 (inr ((passes l).1 (h, nw))))

  pub less_room : bit_or o u ≢ o → o < 2 ^ 64 → room After < room sets
  less_room ne fits =
      let n = under.each_has_one in let lt = leads.0 in
      let within : place < length sets = omega arith in
      let moved = sum_by-set (λ (set : ℕ). 2 ^ 64 - set) sets place (bit_or o u) 0 within in
      less (bit_or o u) o (room After) (room sets) (2 ^ 64) (le_or_l o u) ne fits
      (ap (λ (x : ℕ). room After + (2 ^ 64 - x)) is ∙ moved)
    where
      less : (g o after before top : ℕ) → o ≤ g → g ≢ o → o < top → after + (top - o) ≡ before + (top - g) → after < before
      less g o after before top le ne fits m = omega arith

-- one place more waits
pub more_places : (stack : List ℕ) (place n : ℕ) → place < n → ((k : ℕ) → k < length stack → slice_index stack k < n)
    → (k : ℕ) → k < length (stack ++ place ∷ []) → slice_index (stack ++ place ∷ []) k < n
more_places stack place n lt all k within = elim (cases_lt k (length stack)) [
  | inl less ↦ rw (get_or_append_left stack (place ∷ []) 0 k less) (all k less)
  | inr le ↦ (let at : length stack ≡ k = omega (arith, length-append stack (place ∷ [])) in rw (get_or_push stack place 0 k at) lt)
]

pub more_waits : (waiting : List Bool) (stack : List ℕ) (place : ℕ) → ((s : ℕ) → Waits waiting s → Contains stack s)
    → (s : ℕ) → Waits (set waiting place true) s → Contains (stack ++ place ∷ []) s
more_waits waiting stack place all s w = elim (eqb_tells s place) [
  | inl e ↦ subst (λ (x : ℕ). Contains (stack ++ place ∷ []) x) (sym e.1) (Contains-push stack place)
  | inr e ↦ Contains-append_left stack (place ∷ []) s (all s (sym (get_or-set_other waiting place s true false e.1) ∙ w))
]
