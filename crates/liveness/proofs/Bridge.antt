-- What is live by what was read of the words is live by the words.
use Rattle.std.proofs.Common.{◌≡◌, ℕ, ◌<◌, ◌↔◌, inl, inr, List, [], ◌∷◌, length, ◌∙◌, subst, arith}
use Rattle.std.specs.Prelude.{slice_index, Result, Ok, Err, IfOk}
use Rattle.machines.specs.Prelude.{Program}
use Rattle.code_words.specs.Words.{HasWords, first_of}
use Rattle.liveness.specs.Live as live
use Rattle.liveness.specs.Prelude.{IsRead, IsWritten, Sets, AreLive, Has, AreFlowsOf, Flow}
use Rattle.liveness.specs.Flows.{Leads, IsPath, IsLive}
use Rattle.liveness.proofs.Bits.{in_set}
use Rattle.liveness.proofs.Within.{located, small}

module _ (first : ℕ) (words : List ℕ) (flows : List Flow) (are : AreFlowsOf first words flows) where
  leads_there : (p s : ℕ) → Leads flows p s → live.Leads first words p s
  leads_there p s leads =
      let n = are.count in let a = leads.0 in let b = leads.1 in
      let lt : p < length words = omega arith in let within : s < length words = omega arith in (
        lt,
        within,
        elim leads.2 [
          | inl next ↦ inl ((are.each p lt).falls.0 next.0, next.1)
          | inr named ↦ inr (((are.each p lt).names s within).0 named)
        ],
      )

  leads_back : (p s : ℕ) → live.Leads first words p s → Leads flows p s
  leads_back p s leads =
      let n = are.count in let a = leads.0 in let b = leads.1 in (
        omega arith,
        omega arith,
        elim leads.2 [
          | inl next ↦ inl ((are.each p a).falls.1 next.0, next.1)
          | inr named ↦ inr (((are.each p a).names s b).1 named)
        ],
      )

  module _ (l : ℕ) where
    abbrev IsWordPath : ℕ → List ℕ → Type 0
    IsWordPath = live.IsPath (live.Leads first words) (λ p. (p < length words) × IsRead words p l) (λ p. IsWritten words p l)

    there : (later : List ℕ) (k : ℕ) → IsPath flows l k later → IsWordPath k later
    there [] k path =
        let n = are.count in let a = path.0 in let lt : k < length words = omega arith in
        (lt, ((are.each k lt).reads l).0 path.1)
    there (s ∷ later) k path =
        let leads = leads_there k s path.1 in
        (λ w. path.0 (((are.each k leads.0).writes l).1 w), leads, there later s path.2)

    back : (later : List ℕ) (k : ℕ) → IsWordPath k later → IsPath flows l k later
    back [] k path = let n = are.count in let a = path.0 in (omega arith, ((are.each k a).reads l).1 path.1)
    back (s ∷ later) k path = (λ w. path.0 (((are.each k path.1.0).writes l).0 w), leads_back k s path.1, back later s path.2)

  pub are_live : (sets : Sets) → sets.first ≡ first → length sets.bits ≡ length flows
      → ((k l : ℕ) → k < length flows → Has (slice_index sets.bits k) l ↔ IsLive flows l k) → AreLive first words sets
  are_live sets fe count each = record {
    first_is = fe;
    count = count ∙ are.count;
    within = λ k lt. small (slice_index sets.bits k) (λ l h.
        let live = (each k l (let n = are.count in omega arith)).0 h in
        located flows (λ q less. (are.each q (let n = are.count in omega arith)).few) l live.0 k live.1);
    each = λ k l lt. (
      λ h. (let found = (each k l (let n = are.count in omega arith)).0 ((in_set (slice_index sets.bits k) l).1 h) in (found.0, there l found.0 k found.1)),
      λ is. (in_set (slice_index sets.bits k) l).0 ((each k l (let n = are.count in omega arith)).1 (is.0, back l is.0 k is.1)),
    );
  }

-- what is found of the words that were read is told of all words that the program has
pub of_program : {E : Type 0} (P : Program) (first : ℕ) (own : List ℕ) (r : Result Sets E)
    → ((p : Program) (at : ℕ) (a b : List ℕ) → HasWords p at a → HasWords p at b → a ≡ b) → first ≡ first_of P → HasWords P (first_of P) own
    → IfOk r (λ sets. AreLive first own sets) → IfOk r (λ sets. (words : List ℕ) → HasWords P (first_of P) words → AreLive (first_of P) words sets)
of_program P first own (Ok sets) one same has are = λ words has'.
    subst (λ (ws : List ℕ). AreLive (first_of P) ws sets) (one P (first_of P) own words has has') (subst (λ (f : ℕ). AreLive f own sets) same are)
of_program P first own (Err e) one same has are = tt
