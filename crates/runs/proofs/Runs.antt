-- What holds of the runs of every machine.
use Rattle.std.proofs.Common.{◌≡◌, ◌≢◌, ℕ, zero, suc, ◌+◌, List, [], ◌∷◌, ◌++◌, ◌⊎◌, inl, inr, refl, sym, ap, ◌∙◌, subst, arith}
use Rattle.space.specs.declared.call.End.TheVariants.{Running, Exit, Outside}
use Rattle.space.specs.Reports.{ListedCall, AnswerValue, ended, listed}
use Rattle.runs.specs.Prelude.{Outcome, Goes, Asks, Ends, reported, run, After, Along, Anywhere, Agreement, exits_at_once, goes_for_ever, MeetAtZero, StaysOver, KeepsCalls, IsNarrower, StaysIn, SameRun, AgreesInLarger}

module _ {S : Type 0} (step : S → Outcome S) where
  -- behind an outcome: a run that is over stays over
  over_behind : (n more : ℕ) (answers : List AnswerValue) (o : Outcome S) → ((later : List AnswerValue) (t : S) → (run step n later t).ending ≢ Running → run step (n + more) later t ≡ run step n later t) → (reported (run step n) answers o).ending ≢ Running → reported (run step (n + more)) answers o ≡ reported (run step n) answers o
  over_behind n more answers (Goes t) rest ne = rest answers t ne
  over_behind n more [] (Asks c next) rest ne = refl
  over_behind n more (a ∷ later) (Asks c next) rest ne = ap (listed c) (rest later (next a) ne)
  over_behind n more answers (Ends e) rest ne = refl

  pub stays_over : StaysOver step
  stays_over zero more answers s ne = absurd (ne refl)
  stays_over (suc n) more answers s ne =
      let sum : suc n + more ≡ suc (n + more) = omega arith in
      ap (λ m. run step m answers s) sum ∙ over_behind n more answers (step s) (λ later t. stays_over n more later t) ne

  -- behind an outcome: the calls come first
  calls_behind : (n more : ℕ) (answers : List AnswerValue) (o : Outcome S) → ((later : List AnswerValue) (t : S) → (calls : List ListedCall) × ((run step (n + more) later t).calls ≡ (run step n later t).calls ++ calls)) → (calls : List ListedCall) × ((reported (run step (n + more)) answers o).calls ≡ (reported (run step n) answers o).calls ++ calls)
  calls_behind n more answers (Goes t) rest = rest answers t
  calls_behind n more [] (Asks c next) rest = ([], refl)
  calls_behind n more (a ∷ later) (Asks c next) rest = let r = rest later (next a) in (r.0, ap (λ calls. c ∷ calls) r.1)
  calls_behind n more answers (Ends e) rest = ([], refl)

  pub keeps_calls : KeepsCalls step
  keeps_calls zero more answers s = ((run step (0 + more) answers s).calls, refl)
  keeps_calls (suc n) more answers s =
      let sum : suc n + more ≡ suc (n + more) = omega arith in
      let r = calls_behind n more answers (step s) (λ later t. keeps_calls n more later t) in
      (r.0, ap (λ m. (run step m answers s).calls) sum ∙ r.1)

  -- what follows from P holds along a run along which P holds
  along_behind : (P Q : S → Type 0) (n : ℕ) (answers : List AnswerValue) (o : Outcome S) → ((later : List AnswerValue) (t : S) → Along P step n later t → Along Q step n later t) → After (Along P step n) answers o → After (Along Q step n) answers o
  along_behind P Q n answers (Goes t) rest h = rest answers t h
  along_behind P Q n [] (Asks c next) rest h = tt
  along_behind P Q n (a ∷ later) (Asks c next) rest h = rest later (next a) h
  along_behind P Q n answers (Ends e) rest h = tt

  pub along_implies : (P Q : S → Type 0) → ((s : S) → P s → Q s) → (n : ℕ) (answers : List AnswerValue) (s : S) → Along P step n answers s → Along Q step n answers s
  along_implies P Q f zero answers s h = tt
  along_implies P Q f (suc n) answers s h = (f s h.0, along_behind P Q n answers (step s) (λ later t. along_implies P Q f n later t) h.1)

module _ {S : Type 0} (narrow wide : S → Outcome S) where
  abbrev Same : ℕ → Type 0
  Same n = (answers : List AnswerValue) (s : S) → (run narrow n answers s).ending ≢ Outside → (run wide n answers s ≡ run narrow n answers s) × Along (StaysIn narrow wide) wide n answers s

  same_behind : (n : ℕ) (answers : List AnswerValue) (o : Outcome S) → Same n → (reported (run narrow n) answers o).ending ≢ Outside → (reported (run wide n) answers o ≡ reported (run narrow n) answers o) × After (Along (StaysIn narrow wide) wide n) answers o
  same_behind n answers (Goes t) rest ne = rest answers t ne
  same_behind n [] (Asks c next) rest ne = (refl, tt)
  same_behind n (a ∷ later) (Asks c next) rest ne = let r = rest later (next a) ne in (ap (listed c) r.0, r.1)
  same_behind n answers (Ends e) rest ne = (refl, tt)

  one_same : (n : ℕ) (answers : List AnswerValue) (s : S) → (run narrow (suc n) answers s).ending ≢ Outside → Same n → (narrow s ≡ wide s) ⊎ (narrow s ≡ Ends Outside) → (run wide (suc n) answers s ≡ run narrow (suc n) answers s) × Along (StaysIn narrow wide) wide (suc n) answers s
  one_same n answers s ne rest (inl e) =
      let r = same_behind n answers (wide s) rest (subst (λ o. (reported (run narrow n) answers o).ending ≢ Outside) e ne) in
      (r.0 ∙ ap (reported (run narrow n) answers) (sym e), (record { same = e; inside = λ x. ne (ap (λ o. (reported (run narrow n) answers o).ending) x) }, r.1))
  one_same n answers s ne rest (inr e) = absurd (ne (ap (λ o. (reported (run narrow n) answers o).ending) e))

  module _ (below : IsNarrower narrow wide) where
    pub same_run : SameRun narrow wide
    same_run zero answers s ne = (refl, tt)
    same_run (suc n) answers s ne = one_same n answers s ne (λ later t. same_run n later t) (below s)

module _ {G S : Type 0} (guest : G → Outcome G) (narrow wide : S → Outcome S) (below : IsNarrower narrow wide) where
  -- a host that agrees doesn't go outside: it ends as the guest does, or goes on
  pub agrees_in_larger : AgreesInLarger guest narrow wide
  agrees_in_larger g h agrees answers n =
      let r = agrees answers n in
      let stays_inside : (run narrow r.m answers h).ending ≢ Outside = λ e.
      let ne : (run guest n answers g).ending ≢ Outside = λ x. let running : Running ≡ Outside = sym (ap (λ x. x.ending) (r.agrees.outside x)) ∙ e in cc in
      ne (sym (ap (λ x. x.ending) (r.agrees.inside ne).1) ∙ e) in
      let same = same_run narrow wide below r.m answers h stays_inside in
      record {
        m = r.m;
        soon = r.soon;
        clean = same.1;
        agrees = record { inside = λ ne. let i = r.agrees.inside ne in (i.0, same.0 ∙ i.1); outside = λ x. same.0 ∙ r.agrees.outside x };
      }

-- a host that only goes on never exits
pub goes_on : (m : ℕ) (answers : List AnswerValue) (h : Unit {0}) → run goes_for_ever m answers h ≡ ended Running
goes_on zero answers h = refl
goes_on (suc m) answers h = goes_on m answers h

pub never_agrees : ¬ (Agreement exits_at_once goes_for_ever Anywhere MeetAtZero)
never_agrees agreement =
    let r = agreement 0 0 tt tt (refl, refl) [] 1 in
    let exit_is_inside : Exit 0 ≢ Outside = λ e. cc in
    let running : Running ≡ Exit 0 = ap (λ x. x.ending) (sym (goes_on r.m [] tt) ∙ (r.agrees.inside exit_is_inside).1) in
    cc
