-- A call of the host that waits for its answer.
use Rattle.std.specs.Prelude.{◌≡◌, ℕ, cond, drop}
use Rattle.machines.specs.Prelude.{Call, CallKind, Outside, Program, ListedCall, AnswerValue, given, Outcome, Ends, ebx, ecx, edx, rights_of, Host, after_host_call, host_asks}
use Rattle.machine_calls.specs.Calls.{listed_as, listed_call, is_buffer}
use Rattle.ia_step.specs.declared.state.State.{State}
use Rattle.ia_step.specs.Shown.{IsCore}

-- int 0x80 for a call of a kind, whose operands are in ebx, ecx and edx
abbrev pub asks_for : Program → CallKind → ℕ → Host → Outcome Host
asks_for p k next h =
    let fd = h.core.regs ebx in
    let at = h.core.regs ecx in
    let count = h.core.regs edx in
    cond (is_buffer p k at count) (host_asks (rights_of p) (listed_as k fd at count h.core.bytes) next h) (Ends Outside)

-- The call c was made from a state of the host, and with its answer the host goes on as `next` says.
pub record IsAsking (p : Program) (s : State) (c : Call) (call : ListedCall) (next : AnswerValue → Host) : Type 0 where
  pub h : Host
  pub core : IsCore p s.parts h.core
  pub choices : drop 1 h.choices ≡ s.choices
  pub buffer : h.core.regs ecx ≡ c.at
  pub count : h.core.regs edx ≡ c.count
  pub lists : call ≡ listed_call c h.core.bytes
  pub goes_on : (answer : AnswerValue) → next answer ≡ after_host_call (rights_of p) s.eip (given call answer) h
