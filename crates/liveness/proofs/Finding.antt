-- The sets begin with what the words read, and are the live ones once all is settled.
use Rattle.std.proofs.Common.{◌≡◌, ℕ, ◌<◌, ◌↔◌, inl, inr, List, [], ◌∷◌, Bool, true, false, length, sym, ◌∙◌, subst, arith, Contains}
use Rattle.std.specs.Prelude.{slice_index}
use Rattle.std.proofs.lemmas.Bool.{cases_lt}
use Rattle.std.proofs.lemmas.List.{get_or_default, get_or_past}
use Rattle.liveness.specs.Prelude.{Flow, Has, IsUnder, IsClosed, IsSettled, IsStart, Waits}
use Rattle.liveness.specs.Flows.{Leads, IsPath, IsLive}

module _ (flows : List Flow) (sets : List ℕ) (waiting : List Bool) (stack : List ℕ) where
  module _ (start : IsStart flows (length flows) sets waiting stack) where
    waits_within : (s : ℕ) → Waits waiting s → s < length flows
    waits_within s w = elim (cases_lt s (length waiting)) [
      | inl lt ↦ (let n = start.each_waits in omega arith)
      | inr past ↦ (let no : true ≡ false = sym w ∙ get_or_past waiting s false past in cc)
    ]

    stands : (s : ℕ) → Waits waiting s → Contains stack s
    stands s w =
        let lt = waits_within s w in
        let n = start.each_stands in
        let within : s < length stack = omega arith in
        (s, within, get_or_default stack s s 0 within ∙ start.places s lt)

    pub start_under : IsUnder flows sets waiting stack
    start_under = record {
      each_has_one = start.each_has_one;
      each_may_wait = start.each_waits;
      places = λ k lt. let n = start.each_stands in let within : k < length flows = omega arith in subst (λ (x : ℕ). x < length flows) (sym (start.places k within)) within;
      waits = stands;
      reads = λ k l lt r. (start.reads k l lt).1 r;
      live = λ k l lt h. ([], (lt, (start.reads k l lt).0 h));
    }

    pub start_settled : (p s : ℕ) → Leads flows p s → IsSettled flows sets waiting p s
    start_settled p s leads = inr (start.waits s leads.1)

  module _ (under : IsUnder flows sets waiting stack) (closed : (p s : ℕ) → Leads flows p s → IsClosed flows sets p s) where
    found : (l : ℕ) (later : List ℕ) (k : ℕ) → IsPath flows l k later → Has (slice_index sets k) l
    found l [] k path = under.reads k l path.0 path.1
    found l (s ∷ later) k path = closed k s path.1 l (found l later s path.2) path.0

    pub live_is : (k l : ℕ) → k < length flows → Has (slice_index sets k) l ↔ IsLive flows l k
    live_is k l lt = (under.live k l lt, λ live. found l live.0 k live.1)
