-- What a run reports: the calls that the program made, in order, and how the run stands. This project's own.
use Rattle.std.specs.Prelude.{ℕ, ◌||◌, nat_lt, ◌==◌, if◌then◌else◌, List, [], ◌∷◌, length, take, min}
use Rattle.space.specs.declared.call.Answer.{Answer}
use Rattle.space.specs.declared.call.Answer.TheVariants as answer
use Rattle.space.specs.declared.call.End.{End}
use Rattle.space.specs.declared.call.End.TheVariants.{Running}

-- a call as a report lists it: what is asked of which file, and the very bytes that are written
pub data ListedCall : Type 0 where
  Read : (fd count : ℕ) → ListedCall
  Write : (fd : ℕ) (bytes : List ℕ) → ListedCall
  Close : (fd : ℕ) → ListedCall

-- an answer as a value, whatever memory its bytes stand in
pub data AnswerValue : Type 0 where
  Got : (bytes : List ℕ) → AnswerValue
  Took : (count : ℕ) → AnswerValue
  Error : (code : ℕ) → AnswerValue

abbrev pub answer_value : Answer → AnswerValue
answer_value (answer.Got bytes) = Got bytes.now
answer_value (answer.Took count) = Took count
answer_value (answer.Error code) = Error code

pub record Report : Type 0 where
  pub calls : List ListedCall
  pub ending : End

-- no further call is made, and the run stands so
abbrev pub ended : End → Report
ended e = record { calls = []; ending = e }

-- the call, and then what the rest of the run reports
abbrev pub listed : ListedCall → Report → Report
listed call rest = record { calls = call ∷ rest.calls; ending = rest.ending }

-- the same calls, and the run goes on
abbrev pub going_on : Report → Report
going_on r = record { calls = r.calls; ending = Running }

-- what an answer gives to the program: a result, and for a read the bytes that go to its buffer; or an error
pub data Given : Type 0 where
  Gives : (result : ℕ) (to_buffer : List ℕ) → Given
  Fails : (error : ℕ) → Given

-- Linux returns an error as a number from -4095 to -1. Another code stands for an input or output error, EIO, which is 5.
abbrev pub error_of : ℕ → ℕ
error_of code = if (code == 0) || nat_lt 4095 code then 5 else code

-- A read gets no more than it asked for, and a write puts no more than it has. An answer of the wrong kind is a success that moves nothing.
abbrev pub given : ListedCall → AnswerValue → Given
given (Read fd count) (Got bytes) = Gives (min (length bytes) count) (take (min (length bytes) count) bytes)
given (Read fd count) (Took taken) = Gives 0 []
given (Write fd bytes) (Got got) = Gives 0 []
given (Write fd bytes) (Took taken) = Gives (min taken (length bytes)) []
given (Close fd) (Got bytes) = Gives 0 []
given (Close fd) (Took taken) = Gives 0 []
given (Read fd count) (Error code) = Fails (error_of code)
given (Write fd bytes) (Error code) = Fails (error_of code)
given (Close fd) (Error code) = Fails (error_of code)
