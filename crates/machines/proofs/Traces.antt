-- A run that is told step by step.
use Rattle.std.proofs.Common.{◌≡◌, ℕ, zero, suc, ◌<◌, ◌≤◌, List, [], ◌∷◌, refl, ap, ◌∙◌, arith}
use Rattle.machines.specs.Prelude.{End, Running, Dry, ListedCall, AnswerValue, Report, ended, listed, Outcome, Goes, Asks, Ends, run, reported}

-- k steps that end the run, with these answers and this report
pub data Trace {S : Type 0} (step : S → Outcome S) : ℕ → List AnswerValue → S → Report → Type 0 where
  ends : {e : End} {answers : List AnswerValue} {s : S} → step s ≡ Ends e → Trace step 1 answers s (ended e)
  goes : {k : ℕ} {answers : List AnswerValue} {s t : S} {r : Report} → step s ≡ Goes t → Trace step k answers t r → Trace step (suc k) answers s r
  asks : {k : ℕ} {answers : List AnswerValue} {s : S} {r : Report} → (call : ListedCall) (a : AnswerValue) (next : AnswerValue → S) → step s ≡ Asks call next → Trace step k answers (next a) r → Trace step (suc k) (a ∷ answers) s (listed call r)
  dries : {s : S} → (call : ListedCall) (next : AnswerValue → S) → step s ≡ Asks call next → Trace step 1 [] s (listed call (ended Dry))

-- k steps that end the run so, with no call
pub data Silent {S : Type 0} (step : S → Outcome S) : ℕ → S → End → Type 0 where
  last : {s : S} {e : End} → step s ≡ Ends e → Silent step 1 s e
  more : {k : ℕ} {s t : S} {e : End} → step s ≡ Goes t → Silent step k t e → Silent step (suc k) s e

pub trace_of : {S : Type 0} (step : S → Outcome S) (k : ℕ) (answers : List AnswerValue) (s : S) (e : End) → Silent step k s e → Trace step k answers s (ended e)
trace_of step _ answers s e (last p) = ends p
trace_of step _ answers s e (more {k = k} {t = t} p rest) = goes p (trace_of step k answers t e rest)

-- the run of as many steps, or more, has the report
pub traced : {S : Type 0} (step : S → Outcome S) (n k : ℕ) (answers : List AnswerValue) (s : S) (r : Report) → Trace step k answers s r → k ≤ n → run step n answers s ≡ r
traced step zero _ answers s _ (ends p) h = absurd (omega arith)
traced step zero _ answers s r (goes {k = k} p t) h = absurd (omega arith)
traced step zero _ _ s _ (asks {k = k} call a next p t) h = absurd (omega arith)
traced step zero _ _ s _ (dries call next p) h = absurd (omega arith)
traced step (suc n) _ answers s _ (ends p) h = ap (reported (run step n) answers) p
traced step (suc n) _ answers s r (goes {k = k} {t = t} p rest) h = ap (reported (run step n) answers) p ∙ traced step n k answers t r rest (omega arith)
traced step (suc n) _ _ s _ (asks {k = k} {answers = answers} {r = r} call a next p rest) h = ap (reported (run step n) (a ∷ answers)) p ∙ ap (listed call) (traced step n k answers (next a) r rest (omega arith))
traced step (suc n) _ _ s _ (dries call next p) h = ap (reported (run step n) []) p

-- with no call in it the run of fewer steps goes on and has made none
pub not_over : {S : Type 0} (step : S → Outcome S) (n k : ℕ) (answers : List AnswerValue) (s : S) (e : End) → Silent step k s e → n < k → run step n answers s ≡ ended Running
not_over step zero k answers s e t h = refl
not_over step (suc n) _ answers s e (last p) h = absurd (omega arith)
not_over step (suc n) _ answers s e (more {k = k} {t = t} p rest) h = ap (reported (run step n) answers) p ∙ not_over step n k answers t e rest (omega arith)
