-- A run, step by step.
use Rattle.std.proofs.Common.{◌≡◌, ◌≢◌, ◌≤◌, ◌+◌, ℕ, suc, List, [], ◌∷◌, ◌++◌, Option, Some, None, refl, sym, ap, ◌∙◌, subst, arith, append_assoc}
use Rattle.std.proofs.lemmas.List.{append-nil}
use Rattle.space.specs.Memory.{Memory}
use Rattle.machines.specs.Prelude.{Call, Went, Asked, Ended, End, Running, Dry, ListedCall, AnswerValue, listed, Outcome, Goes, Asks, Ends, run}
use Rattle.runner.specs.Prelude.{Describes, Tells, GoesOn, Resumes, Stream, Input, Output, Errors, Bytes, Transfer, faults_on, IsAnswered, AreAnswered, HasRun, Streams, Told, RoseBy, HasCounted, Attended, AttendedPartly, TakenInVain, CallAnswered, IsMade, StepMade, StepInVain, IsOver, Steps}
use Rattle.std.proofs.lemmas.List.Sums.{sum_by-append}
use Rattle.runner.proofs.Answering.{none_rose}

-- The run of so many steps lists calls that are answered so, and behind them these, and ends so.
pub record HasReport {S : Type 0} (step : S → Outcome S) (start : S) (steps : ℕ) (transfers : List Transfer) (before after : Bytes) (asked : List ListedCall) (ending : End) : Type 0 where
  pub answers : List AnswerValue
  pub calls : List ListedCall
  pub attended : AreAnswered calls answers transfers before after
  pub report : run step steps answers start ≡ record { calls = calls ++ asked; ending = ending }

module _ {S : Type 0} (step : S → Outcome S) where
  pub run_none : (s : S) (b : Bytes) → HasReport step s 0 [] b b [] Running
  unfolding AreAnswered
  run_none s b = record { answers = []; calls = []; attended = (refl, refl); report = refl }

  pub run_ends : (s : S) (n : ℕ) (b : Bytes) (e : End) → step s ≡ Ends e → HasReport step s (suc n) [] b b [] e
  unfolding AreAnswered
  run_ends s n b e ended = record { answers = []; calls = []; attended = (refl, refl); report = rw ended refl }

  pub run_waits : (s : S) (n : ℕ) (b : Bytes) (call : ListedCall) (next : AnswerValue → S) → step s ≡ Asks call next → HasReport step s (suc n) [] b b (call ∷ []) Dry
  unfolding AreAnswered
  run_waits s n b call next asks = record { answers = []; calls = []; attended = (refl, refl); report = rw asks refl }

  run_goes : (s t : S) (n : ℕ) (ts : List Transfer) (b a : Bytes) (asked : List ListedCall) (e : End) → step s ≡ Goes t → HasReport step t n ts b a asked e → HasReport step s (suc n) ts b a asked e
  run_goes s t n ts b a asked e goes r = record { answers = r.answers; calls = r.calls; attended = r.attended; report = rw goes r.report }

  run_asks : (s : S) (n : ℕ) (call : ListedCall) (next : AnswerValue → S) (answer : AnswerValue) (first later : List Transfer) (b m a : Bytes) (asked : List ListedCall) (e : End) → step s ≡ Asks call next → IsAnswered call answer first b m → HasReport step (next answer) n later m a asked e → HasReport step s (suc n) (first ++ later) b a asked e
  unfolding AreAnswered
  run_asks s n call next answer first later b m a asked e asks now r = record {
    answers = answer ∷ r.answers;
    calls = call ∷ r.calls;
    attended = record { first = first; later = later; middle = m; parts = refl; now = now; next = r.attended };
    report = rw asks (ap (listed call) r.report);
  }

  -- what follows a step that was made is the rest of the run
  run_made : (s next : S) (n : ℕ) (first later : List Transfer) (b m a : Bytes) (asked : List ListedCall) (e : End) (o : Outcome S) → step s ≡ o → IsMade o first b m next → HasReport step next n later m a asked e → HasReport step s (suc n) (first ++ later) b a asked e
  run_made s next n first later b m a asked e (Goes t) is made r =
      rw (made.1) (run_goes s t n later b a asked e is (rw (sym made.0, sym made.2) r))
  run_made s next n first later b m a asked e (Asks call f) is made r =
      run_asks s n call f made.0 first later b m a asked e is made.2 (rw (sym made.1) r)
  run_made s next n first later b m a asked e (Ends f) is made r = absurd made

pub has_run : {S : Type 0} (step : S → Outcome S) (start : S) (steps : ℕ) (transfers : List Transfer) (before after : Bytes) (e : End) → HasReport step start steps transfers before after [] e → HasRun step start steps transfers before after e
has_run step start steps transfers before after e r = record {
  answers = r.answers;
  attended = subst (λ calls. AreAnswered calls r.answers transfers before after) (sym (ap (λ report. report.calls) r.report ∙ append-nil r.calls)) r.attended;
  ends = ap (λ report. report.ending) r.report;
}

pub nothing_counted : (s : Streams) → HasCounted s s []
unfolding faults_on
nothing_counted s = record { input = none_rose _; output = none_rose _; errors = none_rose _ }

module _ {S : Type 0} (Shows : Outcome S → Type 0) (step : S → Outcome S) (s : S) where
  pub went : (m : Memory) (streams : Streams) (b : Bytes) (o : Outcome S) → step s ≡ o → Told streams b → Shows o → Tells m Went o → StepMade Shows step s streams streams b
  went m streams b (Goes t) is told shows tells = record {
    next = t;
    transfers = [];
    after = b;
    made = rw is (refl, refl, refl);
    shows = shows;
    told = told;
    counted = nothing_counted streams;
  }
  went m streams b (Asks call next) is told shows tells = elim tells [ ]
  went m streams b (Ends e) is told shows tells = elim tells [ ]

  pub asked : (Before : Outcome S → Type 0) (m : Memory) (c : Call) (old new : Streams) (b : Bytes) (o : Outcome S) → step s ≡ o → Before o → Tells m (Asked c) o
      → ((listed : ListedCall) (next : AnswerValue → S) → Before (Asks listed next) → Describes m c listed → CallAnswered Shows listed next old new b)
      → StepMade Shows step s old new b
  asked Before m c old new b (Goes t) is shown tells answers = elim tells [ ]
  asked Before m c old new b (Asks call next) is shown tells answers =
      let a = answers call next shown tells in
      record {
        next = next a.answer;
        transfers = a.transfers;
        after = a.after;
        made = rw is (a.answer, refl, a.answered);
        shows = a.shows;
        told = a.told;
        counted = a.counted;
      }
  asked Before m c old new b (Ends e) is shown tells answers = elim tells [ ]

  pub waits : (Before : Outcome S → Type 0) (m : Memory) (c : Call) (old new : Streams) (b : Bytes) (o : Outcome S) → step s ≡ o → Before o → Tells m (Asked c) o
      → ((listed : ListedCall) (next : AnswerValue → S) → Before (Asks listed next) → Describes m c listed → TakenInVain listed old new b)
      → StepInVain step s old new b
  waits Before m c old new b (Goes t) is shown tells taken = elim tells [ ]
  waits Before m c old new b (Asks call next) is shown tells taken = record { call = call; next = next; asks = is; taken = taken call next shown tells }
  waits Before m c old new b (Ends e) is shown tells taken = elim tells [ ]

  pub over : (m : Memory) (streams : Streams) (b : Bytes) (end : End) (o : Outcome S) → step s ≡ o → Told streams b → Tells m (Ended end) o → IsOver step s end streams streams b
  over m streams b end (Goes t) is told tells = elim tells [ ]
  over m streams b end (Asks call next) is told tells = elim tells [ ]
  over m streams b end (Ends e) is told tells = record { ends = is ∙ ap Ends (sym tells.0); told = told; counted = nothing_counted streams }

-- a run that went on, or whose call was answered, goes on
pub went_on : {S : Type 0} (Shows : (S → Outcome S) → Outcome S → Type 0) (m : Memory) (step : S → Outcome S) (o : Outcome S) → Shows step o → Tells m Went o → GoesOn Shows
went_on Shows m step (Goes t) shows tells = (step, t, shows)
went_on Shows m step (Asks call next) shows tells = elim tells [ ]
went_on Shows m step (Ends e) shows tells = elim tells [ ]

pub resumed : {S : Type 0} (Before After : (S → Outcome S) → Outcome S → Type 0) (m : Memory) (c : Call) (step : S → Outcome S) (o : Outcome S) → Before step o → Tells m (Asked c) o → Resumes Before After → GoesOn After
resumed Before After m c step (Goes t) shows tells resumes = elim tells [ ]
resumed Before After m c step (Asks call next) shows tells resumes = resumes step call next shows
resumed Before After m c step (Ends e) shows tells resumes = elim tells [ ]

pub add_faults : (stream : Stream) (xs ys : List Transfer) → faults_on stream (xs ++ ys) ≡ faults_on stream xs + faults_on stream ys
unfolding faults_on
add_faults stream xs ys = sum_by-append _ xs ys

rose_on : (n k a b c : ℕ) → RoseBy n a b → RoseBy k b c → RoseBy (n + k) a c
rose_on n k a b c first second = grind arith

pub counted_on : (a b c : Streams) (xs ys : List Transfer) → HasCounted a b xs → HasCounted b c ys → HasCounted a c (xs ++ ys)
counted_on a b c xs ys first second = record {
  input = rw (add_faults Input xs ys) (rose_on _ _ _ _ _ first.input second.input);
  output = rw (add_faults Output xs ys) (rose_on _ _ _ _ _ first.output second.output);
  errors = rw (add_faults Errors xs ys) (rose_on _ _ _ _ _ first.errors second.errors);
}

-- after so many steps the run stands at s, and what follows from there is the rest of the run
pub record Reached {S : Type 0} (Shows : Outcome S → Type 0) (step : S → Outcome S) (start : S) (made : ℕ) (old now : Streams) (before : Bytes) : Type 0 where
  pub s : S
  pub done : List Transfer
  pub middle : Bytes
  pub shows : Shows (Goes s)
  pub told : Told now middle
  pub counted : HasCounted old now done
  pub continues : (n : ℕ) (later : List Transfer) (after : Bytes) (asked : List ListedCall) (e : End) → HasReport step s n later middle after asked e → HasReport step start (made + n) (done ++ later) before after asked e

none_made : (n : ℕ) → 0 + n ≡ n
none_made n = omega arith

pub reached_start : {S : Type 0} (Shows : Outcome S → Type 0) (step : S → Outcome S) (start : S) (old : Streams) (before : Bytes) → Shows (Goes start) → Told old before → Reached Shows step start 0 old old before
reached_start Shows step start old before shows told = record {
  s = start;
  done = [];
  middle = before;
  shows = shows;
  told = told;
  counted = nothing_counted old;
  continues = λ n later after asked e r. rw (none_made n) r;
}

one_more : (made n : ℕ) → made + 1 + n ≡ made + suc n
one_more made n = omega arith

pub reached_more : {S : Type 0} (Shows Later : Outcome S → Type 0) (step : S → Outcome S) (start : S) (made : ℕ) (old now new : Streams) (before : Bytes) → (r : Reached Shows step start made old now before) → StepMade Later step r.s now new r.middle → Reached Later step start (made + 1) old new before
reached_more Shows Later step start made old now new before r m = record {
  s = m.next;
  done = r.done ++ m.transfers;
  middle = m.after;
  shows = m.shows;
  told = m.told;
  counted = counted_on old now new r.done m.transfers r.counted m.counted;
  continues = λ n later after asked e rest.
      rw (append_assoc r.done m.transfers later, one_more made n)
      (r.continues (suc n) (m.transfers ++ later) after asked e
      (run_made step r.s m.next n m.transfers later r.middle m.after after asked e (step r.s) refl m.made rest));
}

pub attended_over : {S : Type 0} (Shows : Outcome S → Type 0) (step : S → Outcome S) (start : S) (steps made n : ℕ) (old now new : Streams) (before : Bytes) (e : End) → steps ≡ made + suc n → (r : Reached Shows step start made old now before) → IsOver step r.s e now new r.middle → Attended step start steps old new before e
attended_over Shows step start steps made n old now new before e all r o = record {
  transfers = r.done ++ [];
  after = r.middle;
  runs = rw all (has_run step start (made + suc n) (r.done ++ []) before r.middle e (r.continues (suc n) [] r.middle [] e (run_ends step r.s n r.middle e o.ends)));
  told = o.told;
  counted = counted_on old now new r.done [] r.counted o.counted;
}

pub attended_running : {S : Type 0} (Shows : Outcome S → Type 0) (step : S → Outcome S) (start : S) (steps made : ℕ) (old now : Streams) (before : Bytes)
    → steps ≡ made + 0 → Reached Shows step start made old now before → Attended step start steps old now before Running
attended_running Shows step start steps made old now before all r = record {
  transfers = r.done ++ [];
  after = r.middle;
  runs = rw all (has_run step start (made + 0) (r.done ++ []) before r.middle Running (r.continues 0 [] r.middle [] Running (run_none step r.s r.middle)));
  told = r.told;
  counted = counted_on old now now r.done [] r.counted (nothing_counted now);
}

-- memory ran out in the step behind these
pub attended_partly : {S : Type 0} (Shows : Outcome S → Type 0) (step : S → Outcome S) (start : S) (steps made : ℕ) (old now new : Streams) (before : Bytes)
    → made + 1 ≤ steps → (r : Reached Shows step start made old now before) → StepInVain step r.s now new r.middle → AttendedPartly step start steps old new before
attended_partly Shows step start steps made old now new before within r t =
    let report = r.continues 1 [] r.middle (t.call ∷ []) Dry (run_waits step r.s 0 r.middle t.call t.next t.asks) in
    record {
      transfers = r.done ++ [];
      after = r.middle;
      count = t.taken.count;
      asks = rw (sym t.taken.is_read) (record { made = made + 1; within = within; answers = report.answers; calls = report.calls; attended = report.attended; report = report.report });
      taken = t.taken.taken;
      some = t.taken.some;
      told = t.taken.told;
      counted = counted_on old now new r.done [] r.counted t.taken.counted;
    }

none_is_some : (e : End) → None ≡ Some e → ⊥
none_is_some e is = grind arith

same_end : (f e : End) → Some f ≡ Some e → f ≡ e
same_end f e is = grind arith

-- what a step was, by its answer
pub step_over : {S : Type 0} (Shows : Outcome S → Type 0) (step : S → Outcome S) (s : S) (old new : Streams) (b : Bytes) (o : Option End) (e : End) → o ≡ Some e → Steps Shows step s old new b o → IsOver step s e old new b
step_over Shows step s old new b None e is made = absurd (none_is_some e is)
step_over Shows step s old new b (Some f) e is made = rw (sym (same_end f e is)) made

pub step_on : {S : Type 0} (Shows : Outcome S → Type 0) (step : S → Outcome S) (s : S) (old new : Streams) (b : Bytes) (o : Option End) → o ≡ None → Steps Shows step s old new b o → StepMade Shows step s old new b
step_on Shows step s old new b None is made = made
step_on Shows step s old new b (Some f) is made = absurd (none_is_some f (sym is))

pub never_dry : {S : Type 0} (m : Memory) (end : End) (o : Outcome S) → Tells m (Ended end) o → end ≢ Dry
never_dry m end (Goes t) tells = elim tells [ ]
never_dry m end (Asks call next) tells = elim tells [ ]
never_dry m end (Ends e) tells = λ dry. tells.1.1 (sym tells.0 ∙ dry)
