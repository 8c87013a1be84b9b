-- What the steps of a machine tell of its run.
use Rattle.std.specs.Prelude.{◌≡◌, ◌%◌, ◌^◌, ◌+◌, ⊤, ℕ, Bool, true, false, List, length, slice_index, EachIndex, Some}
use Rattle.machines.specs.Prelude.{ArePermitted, ListedCall, Read, Write, Close, AnswerValue, Call, Event, Went, Asked, Ended, Outcome, Goes, Asks, Ends}
use Rattle.space.specs.Memory.{Memory, byte_at}
use Rattle.space.specs.declared.call.CallKind.TheVariants as kind
use Rattle.machine_calls.specs.Phases.{IsEnd}

-- these bytes stand in memory from an address on, one behind another
abbrev pub StandAt : Memory → ℕ → List ℕ → Type 0
StandAt m at bytes = EachIndex bytes (λ k. byte_at m ((at + k) % 2 ^ 32) ≡ Some (slice_index bytes k))

-- what a call says of the call that is listed
pub record DescribesRead (c : Call) (fd asked : ℕ) : Type 0 where
  pub kind : c.kind ≡ kind.Read
  pub file : c.fd ≡ fd
  pub count : c.count ≡ asked

pub record DescribesWrite (m : Memory) (c : Call) (fd : ℕ) (bytes : List ℕ) : Type 0 where
  pub kind : c.kind ≡ kind.Write
  pub file : c.fd ≡ fd
  pub count : c.count ≡ length bytes
  pub held : ArePermitted m false c.at (length bytes)
  pub stand : StandAt m c.at bytes

pub record DescribesClose (c : Call) (fd : ℕ) : Type 0 where
  pub kind : c.kind ≡ kind.Close
  pub file : c.fd ≡ fd

abbrev pub Describes : Memory → Call → ListedCall → Type 0
Describes m c (Read fd count) = DescribesRead c fd count
Describes m c (Write fd bytes) = DescribesWrite m c fd bytes
Describes m c (Close fd) = DescribesClose c fd

-- what an event tells of where the run stands
abbrev pub Tells : {S : Type 0} → Memory → Event → Outcome S → Type 0
Tells m Went (Goes s) = ⊤
Tells m (Asked c) (Asks call next) = Describes m c call
Tells m (Ended end) (Ends e) = (end ≡ e) × IsEnd e
Tells m _ _ = ⊥

abbrev pub is_asked : Event → Bool
is_asked Went = false
is_asked (Asked c) = true
is_asked (Ended end) = false

-- the bytes that a call writes lie in the memory
abbrev pub IsHeld : Memory → Call → Type 0
IsHeld m c = c.kind ≡ kind.Write → ArePermitted m false c.at c.count

abbrev pub HasBuffer : Memory → Event → Type 0
HasBuffer m Went = ⊤
HasBuffer m (Asked c) = IsHeld m c
HasBuffer m (Ended end) = ⊤

-- the run of some step function is shown
abbrev pub Stands : {S : Type 0} → ((S → Outcome S) → Outcome S → Type 0) → Type 0
Stands {S} Shows = (step : S → Outcome S) × (o : Outcome S) × Shows step o

-- and goes on from a state of it
abbrev pub GoesOn : {S : Type 0} → ((S → Outcome S) → Outcome S → Type 0) → Type 0
GoesOn {S} Shows = (step : S → Outcome S) × (s : S) × Shows step (Goes s)

-- whatever call of the run was open, it goes on where the call was answered
abbrev pub Resumes : {S : Type 0} → ((S → Outcome S) → Outcome S → Type 0) → ((S → Outcome S) → Outcome S → Type 0) → Type 0
Resumes {S} Before After = (step : S → Outcome S) (call : ListedCall) (next : AnswerValue → S) → Before step (Asks call next) → GoesOn After
