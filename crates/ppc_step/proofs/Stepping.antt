-- A step of the state, and of the machine.
use Rattle.std.proofs.Common.{◌≡◌, ℕ, true, Option, Some, None, refl, sym, ◌∙◌, ap, subst}
use Rattle.machines.specs.Prelude.{Event, Went, Asked, Ended, Illegal, Program, code_word as kept_word, Outcome, Instr, IsWordOf, rights_of, code_of, ReadsWords, Guest, is_code_word, word_of_code, effect_of, guest_acts, guest_machine}
use Rattle.ppc_step.specs.Prelude.{State, IsState, IsAsking, IsDone, Leads, Shows, IsTold}
use Rattle.machine_calls.specs.declared.phase.Phase.{Phase}
use Rattle.machine_calls.specs.declared.phase.Phase.TheVariants.{Going, Waiting, Over}
use Rattle.machine_calls.specs.Phases.{IsReady, Tells, phase_of, stepped}
use Rattle.machine_calls.proofs.Phases.{step_shown}
use Rattle.ppc_step.proofs.Fetched.{word}

module _ (p : Program) (words : ℕ → Option Instr) (reads : ReadsWords words) (s : State) (g : Guest) (event : Event) (new : State) (is : IsState p s g) where
  module _ (w : ℕ) (some : Some w ≡ kept_word s.memory s.next) where
    here : is_code_word (code_of p) g.next ≡ true
    here = subst (λ a. is_code_word (code_of p) a ≡ true) is.next (word p g.bytes s.memory s.next is.memory w some).0

    read : words (word_of_code (code_of p) g.next) ≡ words w
    read = ap words (subst (λ a. word_of_code (code_of p) a ≡ w) is.next (sym (word p g.bytes s.memory s.next is.memory w some).1))

    -- a legal word is executed
    pub executed : (i : Instr) → IsWordOf w i → Leads p event new (guest_acts (rights_of p) i (effect_of i g) g) → Leads p event new (guest_machine words p g)
    executed i legal leads = rw (here, read ∙ reads.only w i legal) leads

    none_read : (o : Option Instr) → words w ≡ o → ((i : Instr) → IsWordOf w i → None ≡ Some i) → words w ≡ None
    none_read None e h = e
    none_read (Some i) e h = let n = h i (reads.found w i e) in absurd cc

    -- an illegal one ends the run
    pub illegal : event ≡ Ended Illegal → ((i : Instr) → IsWordOf w i → None ≡ Some i) → Leads p event new (guest_machine words p g)
    illegal e h = rw (here, read ∙ none_read (words w) refl h, e) refl

-- what the machine shows behind a step
pub steps : (p : Program) (words : ℕ → Option Instr) (s new : State) (phase : Phase) (event : Event) (o : Outcome Guest) → phase ≡ Going
    → ((g : Guest) → IsState p s g → Leads p event new (guest_machine words p g)) → Shows p (record { state = s; phase = phase }) o
    → Shows p (record { state = new; phase = phase_of event }) (stepped (guest_machine words p) o) × Tells event (stepped (guest_machine words p) o)
steps p words s new phase event o going leads shown = step_shown (IsState p) (IsAsking p) (guest_machine words p) s new phase event o going leads shown

pub ready : (event : Event) (old new : State) → IsDone event old new → IsReady (phase_of event) new.memory
ready Went old new d = tt
ready (Asked c) old new d = d.0
ready (Ended e) old new d = d.0

pub is_told : (event : Event) (s new : State) (phase : Phase) → IsDone event s new
    → IsTold event (record { state = s; phase = phase }) (record { state = new; phase = phase_of event })
is_told Went s new phase d = refl
is_told (Asked c) s new phase d = (ap (λ (t : State). record { state = t; phase = Waiting c }) d.1, d.0)
is_told (Ended e) s new phase d = (d.0, ap (λ (t : State). record { state = t; phase = Over e }) d.1)
