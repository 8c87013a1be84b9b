-- What holds of the runs of every machine.
use Rattle.std.specs.Prelude.{◌≡◌, ◌≢◌, ℕ, ◌+◌, List, ◌++◌, ◌⊎◌}
use Rattle.space.specs.declared.call.End.TheVariants.{Running, Outside}
use Rattle.space.specs.Reports.{ListedCall, AnswerValue}
use Rattle.runs.specs.Machine.{Outcome, Ends, run, Along, Anywhere, AgreesFrom}

module _ {S : Type 0} where
  -- a run that is over reports the same, however many steps follow
  abbrev pub StaysOver : (S → Outcome S) → Type 0
  StaysOver step = (n more : ℕ) (answers : List AnswerValue) (s : S) → (run step n answers s).ending ≢ Running → run step (n + more) answers s ≡ run step n answers s

  -- the calls of a run are the first calls of every longer run
  abbrev pub KeepsCalls : (S → Outcome S) → Type 0
  KeepsCalls step = (n more : ℕ) (answers : List AnswerValue) (s : S) → (later : List ListedCall) × ((run step (n + more) answers s).calls ≡ (run step n answers s).calls ++ later)

  -- in the smaller space a step is the same, or goes outside
  abbrev pub IsNarrower : (S → Outcome S) → (S → Outcome S) → Type 0
  IsNarrower narrow wide = (s : S) → (narrow s ≡ wide s) ⊎ (narrow s ≡ Ends Outside)

  -- the step from s is the same in the smaller space, and doesn't go outside there
  pub record StaysIn (narrow wide : S → Outcome S) (s : S) : Type 0 where
    pub same : narrow s ≡ wide s
    pub inside : narrow s ≢ Ends Outside

  -- a run that doesn't end outside in the smaller space is the same run in the larger one, and each step stays in the smaller
  abbrev pub SameRun : (S → Outcome S) → (S → Outcome S) → Type 0
  SameRun narrow wide = (n : ℕ) (answers : List AnswerValue) (s : S) → (run narrow n answers s).ending ≢ Outside → (run wide n answers s ≡ run narrow n answers s) × Along (StaysIn narrow wide) wide n answers s

-- what agrees in the smaller space agrees in the larger one, and each of its steps stays in the smaller
abbrev pub AgreesInLarger : {G S : Type 0} → (G → Outcome G) → (S → Outcome S) → (S → Outcome S) → Type 0
AgreesInLarger guest narrow wide = (g : _) (h : _) → AgreesFrom guest narrow Anywhere g h → AgreesFrom guest wide (StaysIn narrow wide) g h
