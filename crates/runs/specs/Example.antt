-- The two machines of the translator in small. This project's own.
use Rattle.std.specs.Prelude.{ℕ, ◌+◌, ◌%◌, ◌^◌, ◌<◌, List, [], ◌∷◌, ◌++◌, replicate}
use Rattle.space.specs.declared.call.End.TheVariants.{Exit as ExitWith, Outside}
use Rattle.space.specs.Reports.{Write as WriteCall, Given, Gives, Fails, given}
use Rattle.runs.specs.declared.example.Word.{Word}
use Rattle.runs.specs.declared.example.Word.TheVariants as word
use Rattle.runs.specs.declared.example.Op.{Op}
use Rattle.runs.specs.declared.example.Op.TheVariants as op
use Rattle.runs.specs.Machine.{Outcome, Goes, Asks, Ends, AgreesFrom}
use Rattle.runs.specs.Laws.{StaysIn}

-- the guest: its register, and the words still to come
pub record Guest : Type 0 where
  pub register : ℕ
  pub words : List Word

-- the host: its register, its buffer, and the ops still to come
pub record Host : Type 0 where
  pub register : ℕ
  pub buffer : ℕ
  pub ops : List Op

-- what the register gets
abbrev pub returned : Given → ℕ
returned (Gives result bytes) = result
returned (Fails error) = error

-- both write one byte to file 1, and go on with what the call returned
abbrev pub writes : {S : Type 0} → ℕ → (ℕ → S) → Outcome S
writes byte next = let call = WriteCall 1 (byte ∷ []) in Asks call (λ answer. next (returned (given call answer)))

abbrev pub guest_by : ℕ → List Word → Outcome Guest
guest_by r [] = Ends Outside
guest_by r (word.Sync ∷ ws) = Goes (record { register = r; words = ws })
guest_by r (word.Add n ∷ ws) = Goes (record { register = (r + n) % 2 ^ 32; words = ws })
guest_by r (word.Write byte ∷ ws) = writes byte (λ result. record { register = result; words = ws })
guest_by r (word.Spin ∷ ws) = Goes (record { register = r; words = word.Spin ∷ ws })
guest_by r (word.Exit ∷ ws) = Ends (ExitWith r)
guest_by r (word.Leave ∷ ws) = Ends Outside

abbrev pub guest_step : Guest → Outcome Guest
guest_step g = guest_by g.register g.words

abbrev pub host_by : ℕ → ℕ → List Op → Outcome Host
host_by r b [] = Ends Outside
host_by r b (op.Pass ∷ rest) = Goes (record { register = r; buffer = b; ops = rest })
host_by r b (op.Add n ∷ rest) = Goes (record { register = (r + n) % 2 ^ 32; buffer = b; ops = rest })
host_by r b (op.Store byte ∷ rest) = Goes (record { register = r; buffer = byte; ops = rest })
host_by r b (op.Call ∷ rest) = writes b (λ result. record { register = result; buffer = b; ops = rest })
host_by r b (op.Hold ∷ rest) = Goes (record { register = r; buffer = b; ops = op.Hold ∷ rest })
host_by r b (op.Exit ∷ rest) = Ends (ExitWith r)
-- the first byte of the code is taken to be 0
host_by r b (op.Peek ∷ rest) = Goes (record { register = r; buffer = 0; ops = rest })

abbrev pub host_step : Host → Outcome Host
host_step h = host_by h.register h.buffer h.ops

abbrev pub guarded_by : ℕ → ℕ → List Op → Outcome Host
guarded_by r b (op.Peek ∷ rest) = Ends Outside
guarded_by r b ops = host_by r b ops

-- the host whose code is held outside its space
abbrev pub guarded_step : Host → Outcome Host
guarded_step h = guarded_by h.register h.buffer h.ops

abbrev pub guest_start : List Word → Guest
guest_start words = record { register = 0; words = words }

abbrev pub host_start : List Op → Host
host_start ops = record { register = 0; buffer = 0; ops = ops }

-- the host of these ops agrees with the guest of these words, and reads none of its code
abbrev pub ExampleAgrees : List Word → List Op → Type 0
ExampleAgrees words ops = AgreesFrom guest_step host_step (StaysIn guarded_step host_step) (guest_start words) (host_start ops)

-- What doesn't agree. The first makes another call and ends in the same way; the second reads its own code; the third has
-- an end before it, which no step comes to; the fourth exits as the guest does, but behind too many ops.
pub record WrongOpsDisagree : Type 0 where
  pub other_byte : ¬ (ExampleAgrees (word.Write 1 ∷ word.Spin ∷ []) (op.Store 2 ∷ op.Call ∷ op.Hold ∷ []))
  pub reads_code : ¬ (ExampleAgrees (word.Sync ∷ word.Exit ∷ []) (op.Peek ∷ op.Exit ∷ []))
  pub stands_still : ¬ (ExampleAgrees (word.Spin ∷ []) [])
  pub too_slow : (k : ℕ) → 512 < k → ¬ (ExampleAgrees (word.Exit ∷ []) (replicate k op.Pass ++ op.Exit ∷ []))
