-- A call of the guest that waits for its answer.
use Rattle.std.specs.Prelude.{◌≡◌, cond}
use Rattle.machines.specs.Prelude.{Call, CallKind, Outside, Program, ListedCall, AnswerValue, given, Outcome, Ends, Guest, after_guest_call, guest_asks}
use Rattle.machine_calls.specs.Calls.{listed_as, listed_call, is_buffer}
use Rattle.ppc_step.specs.declared.state.State.{State}
use Rattle.ppc_step.specs.Shown.{IsState}

-- sc for a call of a kind, whose operands are in r3, r4 and r5
abbrev pub asks_for : Program → CallKind → Guest → Outcome Guest
asks_for p k g =
    cond (is_buffer p k (g.locs 4) (g.locs 5)) (guest_asks (listed_as k (g.locs 3) (g.locs 4) (g.locs 5) g.bytes) g) (Ends Outside)

-- The call c was made from a state of the guest, and with its answer the guest goes on as `next` says.
pub record IsAsking (p : Program) (s : State) (c : Call) (call : ListedCall) (next : AnswerValue → Guest) : Type 0 where
  pub g : Guest
  pub state : IsState p s g
  pub buffer : g.locs 4 ≡ c.at
  pub count : g.locs 5 ≡ c.count
  pub lists : call ≡ listed_call c g.bytes
  pub goes_on : (answer : AnswerValue) → next answer ≡ after_guest_call (given call answer) g
