-- How the calls of a program that the tool runs are answered: a read of file 0 from the input, a write to file 1 or 2 from
-- the output or the errors, and every other call by a number alone. This project's own.
use Rattle.std.specs.Prelude.{◌≡◌, ◌≤◌, ◌&&◌, ⊤, ℕ, Bool, true, false, cond, eqb, leb, List, [], ◌∷◌, ◌++◌, length, take, drop, count_by, Option, None, Some}
use Rattle.machines.specs.Prelude.{End, Dry, ListedCall, Read, Write, Close, AnswerValue, Got, Took, Error, Outcome, run}

-- the streams on which calls move bytes
pub data Stream : Type 0 where
  Input : Stream
  Output : Stream
  Errors : Stream

abbrev pub is_same : Stream → Stream → Bool
is_same Input Input = true
is_same Output Output = true
is_same Errors Errors = true
is_same _ _ = false

-- what the streams have: the bytes of the input that weren't taken, and those that were put to the output and the errors
pub record Bytes : Type 0 where
  pub left : List ℕ
  pub output : List ℕ
  pub errors : List ℕ

-- a call moves all that it can, or its stream fails after so many bytes
pub data Extent : Type 0 where
  Full : Extent
  Faulted : (moved : ℕ) → Extent

pub record Transfer : Type 0 where
  pub stream : Stream
  pub extent : Extent

abbrev pub is_faulted : Extent → Bool
is_faulted Full = false
is_faulted (Faulted moved) = true

-- how many of the transfers a stream has failed in
unfoldable pub faults_on : Stream → List Transfer → ℕ
faults_on stream transfers = count_by (λ t. is_same stream t.stream && is_faulted t.extent) transfers

-- the stream of a call, if it has one
abbrev pub stream_of : ListedCall → Option Stream
stream_of (Read fd count) = cond (eqb fd 0) (Some Input) None
stream_of (Write fd bytes) = cond (eqb fd 1) (Some Output) (cond (eqb fd 2) (Some Errors) None)
stream_of (Close fd) = None

-- all that a call can move: so many bytes of the input, or what there is of it, and the very bytes that are written
abbrev pub whole : ListedCall → Bytes → List ℕ
whole (Read fd count) b = take count b.left
whole (Write fd bytes) b = bytes
whole (Close fd) b = []

-- the streams after these bytes were moved
abbrev pub moved : Stream → List ℕ → Bytes → Bytes
moved Input bytes b = record b { left = drop (length bytes) b.left }
moved Output bytes b = record b { output = b.output ++ bytes }
moved Errors bytes b = record b { errors = b.errors ++ bytes }

-- the answer to a call that moved these bytes
abbrev pub success : ListedCall → List ℕ → AnswerValue
success (Read fd count) bytes = Got bytes
success (Write fd written) bytes = Took (length bytes)
success (Close fd) bytes = Took 0

-- A call that has no stream: the first three files can be closed, which changes nothing; every other call has error 9,
-- EBADF.
abbrev pub other_answer : ListedCall → AnswerValue
other_answer (Read fd count) = Error 9
other_answer (Write fd bytes) = Error 9
other_answer (Close fd) = cond (leb fd 2) (Took 0) (Error 9)

-- what a call on a stream comes to; a fault is error 5, EIO
pub record IsMoved (call : ListedCall) (stream : Stream) (bytes : List ℕ) (answer success : AnswerValue) (before after : Bytes) : Type 0 where
  pub answered : answer ≡ success
  pub streams : after ≡ moved stream bytes before

abbrev pub IsTransferred : ListedCall → Stream → Extent → AnswerValue → Bytes → Bytes → Type 0
IsTransferred call stream Full answer before after = IsMoved call stream (whole call before) answer (success call (whole call before)) before after
IsTransferred call stream (Faulted n) answer before after = (n ≤ length (whole call before)) × IsMoved call stream (take n (whole call before)) answer (Error 5) before after

-- the answer to a call, the transfer that it was where it has a stream, and the streams before and after it
abbrev pub IsAnsweredOn : Option Stream → ListedCall → AnswerValue → List Transfer → Bytes → Bytes → Type 0
IsAnsweredOn None call answer transfers before after = (answer ≡ other_answer call) × (transfers ≡ []) × (after ≡ before)
IsAnsweredOn (Some stream) call answer transfers before after =
    (extent : Extent) × (transfers ≡ record { stream = stream; extent = extent } ∷ []) × IsTransferred call stream extent answer before after

abbrev pub IsAnswered : ListedCall → AnswerValue → List Transfer → Bytes → Bytes → Type 0
IsAnswered call answer transfers before after = IsAnsweredOn (stream_of call) call answer transfers before after

-- the first of some answers, and those that follow
pub record AreAnsweredNext (Later : List Transfer → Bytes → Bytes → Type 0) (call : ListedCall) (answer : AnswerValue) (transfers : List Transfer) (before after : Bytes) : Type 0 where
  pub first : List Transfer
  pub later : List Transfer
  pub middle : Bytes
  pub parts : transfers ≡ first ++ later
  pub now : IsAnswered call answer first before middle
  pub next : Later later middle after

-- the calls are answered one after another, by transfers in this order
unfoldable pub AreAnswered : List ListedCall → List AnswerValue → List Transfer → Bytes → Bytes → Type 0
AreAnswered [] [] transfers before after = (transfers ≡ []) × (after ≡ before)
AreAnswered (call ∷ calls) (answer ∷ answers) transfers before after =
    AreAnsweredNext (AreAnswered calls answers) call answer transfers before after
AreAnswered [] (answer ∷ answers) transfers before after = ⊥
AreAnswered (call ∷ calls) [] transfers before after = ⊥

-- The run of so many steps whose calls are answered so: there are answers with which the report lists just these calls.
pub record HasRun {S : Type 0} (step : S → Outcome S) (start : S) (steps : ℕ) (transfers : List Transfer) (before after : Bytes) (ending : End) : Type 0 where
  pub answers : List AnswerValue
  pub attended : AreAnswered (run step steps answers start).calls answers transfers before after
  pub ends : (run step steps answers start).ending ≡ ending

-- Within so many steps the run, its calls answered so, asks for one more: with no answer left to it it is dry.
pub record AsksNext {S : Type 0} (step : S → Outcome S) (start : S) (steps : ℕ) (transfers : List Transfer) (before after : Bytes) (call : ListedCall) : Type 0 where
  pub made : ℕ
  pub within : made ≤ steps
  pub answers : List AnswerValue
  pub calls : List ListedCall
  pub attended : AreAnswered calls answers transfers before after
  pub report : run step made answers start ≡ record { calls = calls ++ call ∷ []; ending = Dry }

-- no stream failed
unfoldable pub AreWhole : List Transfer → Type 0
AreWhole [] = ⊤
AreWhole (t ∷ ts) = (t.extent ≡ Full) × AreWhole ts

-- the run of so many steps in which every call moves all that it can
pub record HasWholeRun {S : Type 0} (step : S → Outcome S) (start : S) (steps : ℕ) (before : Bytes) (ending : End) : Type 0 where
  pub transfers : List Transfer
  pub after : Bytes
  pub moved : AreWhole transfers
  pub runs : HasRun step start steps transfers before after ending
