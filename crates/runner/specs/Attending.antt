-- What a run that is attended does to the streams.
use Rattle.std.specs.Prelude.{◌≡◌, ◌≤◌, ◌+◌, ◌-◌, ◌^◌, min, ◌⊎◌, ◌++◌, ℕ, List, [], length, take, drop, Option, Some, None}
use Rattle.machines.specs.Prelude.{End, ListedCall, Read, AnswerValue, Got, Took, Error, Outcome, Goes, Asks, Ends}
use Rattle.outside.specs.Causes.{Rose}
use Rattle.runner.specs.declared.transfers.Taken.{Taken}
use Rattle.runner.specs.declared.transfers.Taken.TheVariants as taken
use Rattle.runner.specs.Answers.{Input, Output, Errors, Bytes, Transfer, faults_on, IsAnswered, HasRun, AsksNext}

-- the streams by what they tell of themselves: what is left or was put, and how often each has failed
pub record Streams : Type 0 where
  pub left : Option (List ℕ)
  pub output : Option (List ℕ)
  pub errors : Option (List ℕ)
  pub input_faults : ℕ
  pub output_faults : ℕ
  pub errors_faults : ℕ

-- what the members of a source and of two sinks tell
abbrev pub streams_by : {I O E : Type 0} → (I → Option (List ℕ)) → (I → ℕ) → (O → Option (List ℕ)) → (O → ℕ) → (E → Option (List ℕ)) → (E → ℕ) → I → O → E → Streams
streams_by left input_faults output output_faults errors errors_faults i o e = record {
  left = left i;
  output = output o;
  errors = errors e;
  input_faults = input_faults i;
  output_faults = output_faults o;
  errors_faults = errors_faults e;
}

-- the streams, with what the members of one of them tell
abbrev pub with_input : {I : Type 0} → (I → Option (List ℕ)) → (I → ℕ) → Streams → I → Streams
with_input left faults s i = record s { left = left i; input_faults = faults i }

abbrev pub with_output : {O : Type 0} → (O → Option (List ℕ)) → (O → ℕ) → Streams → O → Streams
with_output shown faults s o = record s { output = shown o; output_faults = faults o }

abbrev pub with_errors : {E : Type 0} → (E → Option (List ℕ)) → (E → ℕ) → Streams → E → Streams
with_errors shown faults s e = record s { errors = shown e; errors_faults = faults e }

-- all three tell their bytes, which are these
pub record Told (s : Streams) (b : Bytes) : Type 0 where
  pub left : s.left ≡ Some b.left
  pub output : s.output ≡ Some b.output
  pub errors : s.errors ≡ Some b.errors

-- a count of faults has risen by so many at least, up to a u64's last value
abbrev pub RoseBy : ℕ → ℕ → ℕ → Type 0
RoseBy n before now = min (before + n) (2 ^ 64 - 1) ≤ now

-- each stream's count rose at least as often as it failed in these transfers
pub record HasCounted (before now : Streams) (transfers : List Transfer) : Type 0 where
  pub input : RoseBy (faults_on Input transfers) before.input_faults now.input_faults
  pub output : RoseBy (faults_on Output transfers) before.output_faults now.output_faults
  pub errors : RoseBy (faults_on Errors transfers) before.errors_faults now.errors_faults

-- some transfers answer the calls of a run of so many steps, which ends so
pub record Attended {S : Type 0} (step : S → Outcome S) (start : S) (steps : ℕ) (old new : Streams) (before : Bytes) (ending : End) : Type 0 where
  pub transfers : List Transfer
  pub after : Bytes
  pub runs : HasRun step start steps transfers before after ending
  pub told : Told new after
  pub counted : HasCounted old new transfers

-- bytes were taken for a read, and memory ran out before it was answered
pub record TakenInVain (call : ListedCall) (old new : Streams) (before : Bytes) : Type 0 where
  pub count : ℕ
  pub is_read : call ≡ Read 0 count
  pub taken : ℕ
  pub some : taken ≤ length (take count before.left)
  pub told : Told new (record before { left = drop taken before.left })
  pub counted : HasCounted old new []

-- within so many steps the run asked for a read of the input, for which some bytes were taken in vain
pub record AttendedPartly {S : Type 0} (step : S → Outcome S) (start : S) (steps : ℕ) (old new : Streams) (before : Bytes) : Type 0 where
  pub transfers : List Transfer
  pub after : Bytes
  pub count : ℕ
  pub asks : AsksNext step start steps transfers before after (Read 0 count)
  pub taken : ℕ
  pub some : taken ≤ length (take count after.left)
  pub told : Told new (record after { left = drop taken after.left })
  pub counted : HasCounted old new transfers

-- one call was answered: the run goes on from where this answer leads
pub record CallAnswered {S : Type 0} (Shows : Outcome S → Type 0) (call : ListedCall) (next : AnswerValue → S) (old new : Streams) (before : Bytes) : Type 0 where
  pub answer : AnswerValue
  pub transfers : List Transfer
  pub after : Bytes
  pub answered : IsAnswered call answer transfers before after
  pub shows : Shows (Goes (next answer))
  pub told : Told new after
  pub counted : HasCounted old new transfers

-- so many of the bytes that were left were taken
abbrev pub Takes : Option (List ℕ) → List ℕ → ℕ → Type 0
Takes now left n = now ≡ Some (drop n left)

-- so many bytes were wanted, some of them were taken, and the source failed
pub record TakesPartly (now : Option (List ℕ)) (left : List ℕ) (count : ℕ) : Type 0 where
  pub taken : ℕ
  pub some : taken ≤ length (take count left)
  pub left_is : Takes now left taken

-- so many bytes were wanted, some of them were taken, and memory ran out
pub record TakesInVain (count : ℕ) (left : List ℕ) (now : Option (List ℕ)) (faults faults' : ℕ) : Type 0 where
  pub taken : ℕ
  pub some : taken ≤ length (take count left)
  pub left_is : Takes now left taken
  pub later : faults ≤ faults'

-- what came of taking so many bytes
abbrev pub HasTaken : Taken → Option (List ℕ) → List ℕ → ℕ → Type 0
HasTaken (taken.Bytes bytes) now left count = (bytes.items ≡ take count left) × Takes now left (length bytes.items)
HasTaken taken.Failed now left count = TakesPartly now left count

-- why
abbrev pub HasTakeCause : ℕ → ℕ → Taken → Type 0
HasTakeCause before now (taken.Bytes bytes) = before ≤ now
HasTakeCause before now taken.Failed = Rose before now

-- a read was answered: with the bytes that it wants, or all that are left, or by error 5
pub record ReadWhole {S : Type 0} (Shows : Outcome S → Type 0) (next : AnswerValue → S) (count : ℕ) (left : List ℕ) (now : Option (List ℕ)) (faults faults' : ℕ) : Type 0 where
  pub shows : Shows (Goes (next (Got (take count left))))
  pub taken : Takes now left (length (take count left))
  pub later : faults ≤ faults'

pub record ReadFailed {S : Type 0} (Shows : Outcome S → Type 0) (next : AnswerValue → S) (count : ℕ) (left : List ℕ) (now : Option (List ℕ)) (faults faults' : ℕ) : Type 0 where
  pub shows : Shows (Goes (next (Error 5)))
  pub taken : TakesPartly now left count
  pub rose : Rose faults faults'

abbrev pub ReadAnswered : {S : Type 0} → (Outcome S → Type 0) → (AnswerValue → S) → ℕ → List ℕ → Option (List ℕ) → ℕ → ℕ → Type 0
ReadAnswered Shows next count left now faults faults' = ReadWhole Shows next count left now faults faults' ⊎ ReadFailed Shows next count left now faults faults'

-- a write was answered: all bytes were put, or some first bytes of them and then error 5
pub record WriteWhole {S : Type 0} (Shows : Outcome S → Type 0) (next : AnswerValue → S) (bytes shown : List ℕ) (now : Option (List ℕ)) (faults faults' : ℕ) : Type 0 where
  pub shows : Shows (Goes (next (Took (length bytes))))
  pub put : now ≡ Some (shown ++ bytes)
  pub later : faults ≤ faults'

pub record WriteFailed {S : Type 0} (Shows : Outcome S → Type 0) (next : AnswerValue → S) (bytes shown : List ℕ) (now : Option (List ℕ)) (faults faults' : ℕ) : Type 0 where
  pub shows : Shows (Goes (next (Error 5)))
  pub count : ℕ
  pub some : count ≤ length bytes
  pub put : now ≡ Some (shown ++ take count bytes)
  pub rose : Rose faults faults'

abbrev pub WriteAnswered : {S : Type 0} → (Outcome S → Type 0) → (AnswerValue → S) → List ℕ → List ℕ → Option (List ℕ) → ℕ → ℕ → Type 0
WriteAnswered Shows next bytes shown now faults faults' = WriteWhole Shows next bytes shown now faults faults' ⊎ WriteFailed Shows next bytes shown now faults faults'

-- what a step came to that was made: it went on, or its call was answered
abbrev pub IsMade : {S : Type 0} → Outcome S → List Transfer → Bytes → Bytes → S → Type 0
IsMade (Goes t) transfers before after next = (next ≡ t) × (transfers ≡ []) × (after ≡ before)
IsMade (Asks call f) transfers before after next = (answer : AnswerValue) × (next ≡ f answer) × IsAnswered call answer transfers before after
IsMade (Ends e) transfers before after next = ⊥

-- a step was made to another state
pub record StepMade {S : Type 0} (Shows : Outcome S → Type 0) (step : S → Outcome S) (s : S) (old new : Streams) (before : Bytes) : Type 0 where
  pub next : S
  pub transfers : List Transfer
  pub after : Bytes
  pub made : IsMade (step s) transfers before after next
  pub shows : Shows (Goes next)
  pub told : Told new after
  pub counted : HasCounted old new transfers

-- a step asked for a call for which bytes were taken in vain
pub record StepInVain {S : Type 0} (step : S → Outcome S) (s : S) (old new : Streams) (before : Bytes) : Type 0 where
  pub call : ListedCall
  pub next : AnswerValue → S
  pub asks : step s ≡ Asks call next
  pub taken : TakenInVain call old new before

-- the run is over
pub record IsOver {S : Type 0} (step : S → Outcome S) (s : S) (e : End) (old new : Streams) (before : Bytes) : Type 0 where
  pub ends : step s ≡ Ends e
  pub told : Told new before
  pub counted : HasCounted old new []

abbrev pub Steps : {S : Type 0} → (Outcome S → Type 0) → (S → Outcome S) → S → Streams → Streams → Bytes → Option End → Type 0
Steps Shows step s old new before None = StepMade Shows step s old new before
Steps Shows step s old new before (Some e) = IsOver step s e old new before
