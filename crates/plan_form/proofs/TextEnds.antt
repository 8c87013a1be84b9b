-- Where a text ends, and what that says. This project's own.
use Rattle.std.proofs.Common.{◌≡◌, ◌≢◌, ℕ, List, [], ◌∷◌, length, map, refl, sym, subst, ◌∙◌, arith, Vec, Global, Result, Ok, Err, IfOk, IfErr, MatchResult}
use Rattle.line_text.specs.FirstBad.{IsFirstBad}
use Rattle.line_text.proofs.Reading.{IsRead, bad-end, text-same, text-good}
use Rattle.plan_form.specs.declared.problem.BlockPlan.{BlockPlan}
use Rattle.plan_form.specs.declared.progress.Progress.TheVariants as progress
use Rattle.plan_form.specs.declared.fault.TextFault.TheVariants as fault
use Rattle.plan_form.specs.Prelude.{Progress, TextFault, BlockText, AreWritten, IsPlanText, written, text_of, Between, IsFault, IsMemory, state_of}
use Rattle.plan_form.proofs.PlanGrammar.{plans, is-grammar}

empty : (rest : List ℕ) → length rest ≡ 0 → rest ≡ []
empty [] e = refl
empty (b ∷ bs) e = absurd (omega (arith, e))

pub end-fault : (text rest : List ℕ) (p : Progress) (n : ℕ) → IsRead plans text rest (state_of p) n → length rest ≡ 0 → ((v : Vec BlockPlan Global) → p ≢ progress.Between v) → IsFirstBad IsPlanText text n
end-fault text rest p n r none not = go p (subst (λ bs. IsRead plans text bs (state_of p) n) (empty rest none) r) not
  where
    go : (p : Progress) → IsRead plans text [] (state_of p) n → ((v : Vec BlockPlan Global) → p ≢ progress.Between v) → IsFirstBad IsPlanText text n
    go progress.Start r not = bad-end plans is-grammar text (state_of progress.Start) n r (λ w e. cc)
    go (progress.Between v) r not = absurd (not v refl)
    go (progress.Within v b) r not = bad-end plans is-grammar text (state_of (progress.Within v b)) n r (λ w e. cc)

-- plans that can be written are read again
pub again : (text : List ℕ) (r : Result (Vec BlockPlan Global) TextFault) → IfOk r (λ v. AreWritten (map written v.items) × (text ≡ text_of (map written v.items))) → IfErr r (λ e. IsFault text e)
    → (all : List BlockText) → AreWritten all → text ≡ text_of all → MatchResult r (λ v. map written v.items ≡ all) (λ e. IsMemory e)
again text (Ok v) found bad all g is = text-same plans is-grammar (map written v.items) all found.0 g (sym found.1 ∙ is)
again text (Err (fault.Memory none)) found bad all g is = tt
again text (Err (fault.BadLine n)) found bad all g is = absurd (text-good plans is-grammar text n all g is bad)
