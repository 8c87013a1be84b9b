-- Where a text ends, and what that says.
use Rattle.std.proofs.Common.{◌≡◌, ◌≢◌, ℕ, List, [], ◌∷◌, length, map, refl, sym, subst, ◌∙◌, arith, Vec, Global, Result, Ok, Err, IfOk, IfErr, MatchResult}
use Rattle.std.specs.List.{AllByRecursion}
use Rattle.line_text.specs.FirstBad.{IsFirstBad}
use Rattle.line_text.proofs.Reading.{IsRead, bad-end, text-same, text-good}
use Rattle.rule_body.specs.declared.rule.Rule.{Rule}
use Rattle.rule_body.specs.Prelude.{IsRule, AreRules}
use Rattle.rule_form.specs.Prelude.{Progress, TextFault, RuleText, AreWritten, IsWritten, IsRuleText, written, text_of, State, Start, Between, IsFault, IsMemory, state_of}
use Rattle.rule_form.specs.declared.progress.Progress.TheVariants as progress
use Rattle.rule_form.specs.declared.fault.TextFault.TheVariants as fault
use Rattle.rule_form.proofs.RuleGrammar.{rules, is-grammar}
use Rattle.std.proofs.lemmas.List.{length-map}

empty : (rest : List ℕ) → length rest ≡ 0 → rest ≡ []
empty [] e = refl
empty (b ∷ bs) e = absurd (omega (arith, e))

pub end-fault : (text rest : List ℕ) (p : Progress) (n : ℕ) → IsRead rules text rest (state_of p) n → length rest ≡ 0 → ((v : Vec Rule Global) → p ≢ progress.Between v) → IsFirstBad IsRuleText text n
end-fault text rest p n r none not = go p (subst (λ bs. IsRead rules text bs (state_of p) n) (empty rest none) r) not
  where
    at : (s : State) → IsRead rules text [] s n → ((w : List RuleText) → s ≢ Between w) → IsFirstBad IsRuleText text n
    at s r not = bad-end rules is-grammar text s n r not

    go : (p : Progress) → IsRead rules text [] (state_of p) n → ((v : Vec Rule Global) → p ≢ progress.Between v) → IsFirstBad IsRuleText text n
    go progress.Start r not = at Start r (λ w e. cc)
    go (progress.Between v) r not = absurd (not v refl)
    go (progress.Guests v g) r not = at (state_of (progress.Guests v g)) r (λ w e. cc)
    go (progress.Dead v g) r not = at (state_of (progress.Dead v g)) r (λ w e. cc)
    go (progress.Hosts v g b) r not = at (state_of (progress.Hosts v g b)) r (λ w e. cc)
    go (progress.Clauses v g b c) r not = at (state_of (progress.Clauses v g b c)) r (λ w e. cc)

each-written : (xs : List Rule) → AllByRecursion IsRule xs → AllByRecursion IsWritten (map written xs)
each-written [] h = tt
each-written (x ∷ xs) h = (record { template = h.0.goal.template; lines = h.0.body.lines; taken = h.0.body.taken; clauses = h.0.log }, each-written xs h.1)

pub are-written : (xs : List Rule) → AreRules xs → AreWritten (map written xs)
are-written xs h = record { few = let l = length-map xs written in let f = h.few in omega (arith, f, l); each = each-written xs h.each }

-- a list that can be written is read again
pub again : (text : List ℕ) (r : Result (Vec Rule Global) TextFault) → IfOk r (λ v. AreRules v.items × (text ≡ text_of (map written v.items))) → IfErr r (λ e. IsFault text e)
    → (all : List RuleText) → AreWritten all → text ≡ text_of all → MatchResult r (λ v. map written v.items ≡ all) (λ e. IsMemory e)
again text (Ok v) found bad all g is = text-same rules is-grammar (map written v.items) all (are-written v.items found.0) g (sym found.1 ∙ is)
again text (Err (fault.Memory none)) found bad all g is = tt
again text (Err (fault.BadLine n)) found bad all g is = absurd (text-good rules is-grammar text n all g is bad)
