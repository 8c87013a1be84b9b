-- Calls that the guest makes, and how it goes on behind them.
use Rattle.std.proofs.Common.{◌≡◌, ℕ, true, false, List, [], Ok, Err, refl, sym, ◌∙◌, ap, subst}
use Rattle.machines.specs.Prelude.{Call, CallKind, Outside, Asked, Ended, Program, ListedCall, AnswerValue, Given, Gives, Fails, given, put_block, Guest, after_guest_call}
use Rattle.space.specs.Memory.{Memory}
use Rattle.ppc_step.specs.Prelude.{State, IsState, asks_for, IsAsking, Leads}
use Rattle.machine_calls.specs.Calls.{listed_call, is_buffer, IsGiven}
use Rattle.ppc_step.proofs.States.{with_memory}

module _ (p : Program) (s : State) (g : Guest) (k : CallKind) (fd at count : ℕ) (st : IsState p s g)
    (fd_is : fd ≡ g.locs 3) (at_is : at ≡ g.locs 4) (count_is : count ≡ g.locs 5) where
  -- a call whose buffer is held is made
  pub asked : true ≡ is_buffer p k at count → Leads p (Asked (record { kind = k; fd = fd; at = at; count = count })) s (asks_for p k g)
  asked held = rw (← fd_is, ← at_is, ← count_is, sym held) (record { g = g; state = st; buffer = sym at_is; count = sym count_is; lists = refl; goes_on = λ answer. refl })

  -- one whose buffer isn't held ends the run
  pub not_asked : false ≡ is_buffer p k at count → Leads p (Ended Outside) s (asks_for p k g)
  not_asked held = rw (← at_is, ← count_is, sym held) refl

-- with its answer a call goes on as what it is given says
pub resumed : (p : Program) (s new : State) (c : Call) (call : ListedCall) (next : AnswerValue → Guest) (k : IsAsking p s c call next) (a : AnswerValue) (x : Given)
    → given (listed_call c k.g.bytes) a ≡ x → IsState p new (after_guest_call x k.g) → IsState p new (next a)
resumed p s new c call next k a x e is =
    subst (λ g. IsState p new g) (sym (k.goes_on a ∙ ap (λ call. after_guest_call (given call a) k.g) k.lists ∙ ap (λ x. after_guest_call x k.g) e)) is

pub put_nothing : (a : ℕ) (bytes : ℕ → ℕ) → bytes ≡ put_block a [] bytes
unfolding put_block
put_nothing a bytes = refl

-- a result with the bytes of a read
pub read_put : (p : Program) (new : State) (g : Guest) (v n at : ℕ) (got : List ℕ)
    → IsState p new (after_guest_call (Gives v []) (record g { bytes = put_block at got g.bytes })) → v ≡ n → g.locs 4 ≡ at → IsState p new (after_guest_call (Gives n got) g)
read_put p new g v n at got is e at_is =
    let bytes : put_block (g.locs 4) [] (put_block at got g.bytes) ≡ put_block (g.locs 4) got g.bytes =
    sym (put_nothing (g.locs 4) (put_block at got g.bytes)) ∙ ap (λ a. put_block a got g.bytes) (sym at_is) in
    let with_bytes = subst (λ (b : ℕ → ℕ). IsState p new (record (after_guest_call (Gives v got) g) { bytes = b })) bytes is in
    subst (λ v. IsState p new (after_guest_call (Gives v got) g)) e with_bytes

-- what is given to the call that waits
module _ (p : Program) (s new : State) (c : Call) (call : ListedCall) (next : AnswerValue → Guest) (k : IsAsking p s c call next) (a : AnswerValue) (m : Memory) where
  -- a result, behind which the machine goes on
  succeeded : (x : Given) (v : ℕ) → given (listed_call c k.g.bytes) a ≡ x → IsGiven p k.g.bytes c.at x (Ok v) m
      → ((g : Guest) → IsState p (record s { memory = m }) g → IsState p new (after_guest_call (Gives v []) g)) → IsState p new (next a)
  succeeded (Gives n to_buffer) v e is onward =
      resumed p s new c call next k a (Gives n to_buffer) e
      (read_put p new k.g v n c.at to_buffer (onward _ (with_memory p s k.g m _ k.state is.1)) (let same = is.0 in cc) k.buffer)
  succeeded (Fails n) v e is onward = let other = is.0 in absurd cc

  -- an error
  failed : (x : Given) (v : ℕ) → given (listed_call c k.g.bytes) a ≡ x → IsGiven p k.g.bytes c.at x (Err v) m
      → ((g : Guest) → IsState p (record s { memory = m }) g → IsState p new (after_guest_call (Fails v) g)) → IsState p new (next a)
  failed (Gives n to_buffer) v e is onward = let other = is.0 in absurd cc
  failed (Fails n) v e is onward =
      let same : v ≡ n = (let h = is.0 in cc) in
      resumed p s new c call next k a (Fails n) e
      (subst (λ v. IsState p new (after_guest_call (Fails v) k.g)) same (onward k.g (with_memory p s k.g m k.g.bytes k.state is.1)))

  pub given_result : (v : ℕ) → IsGiven p k.g.bytes c.at (given (listed_call c k.g.bytes) a) (Ok v) m
      → ((g : Guest) → IsState p (record s { memory = m }) g → IsState p new (after_guest_call (Gives v []) g)) → IsState p new (next a)
  given_result v is onward = succeeded (given (listed_call c k.g.bytes) a) v refl is onward

  pub given_error : (v : ℕ) → IsGiven p k.g.bytes c.at (given (listed_call c k.g.bytes) a) (Err v) m
      → ((g : Guest) → IsState p (record s { memory = m }) g → IsState p new (after_guest_call (Fails v) g)) → IsState p new (next a)
  given_error v is onward = failed (given (listed_call c k.g.bytes) a) v refl is onward
