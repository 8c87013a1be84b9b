-- How the host goes on behind a call.
use Rattle.std.proofs.Common.{◌≡◌, ℕ, ◌-◌, ◌^◌, List, Ok, Err, refl, sym, ◌∙◌, ap, subst}
use Rattle.machines.specs.Prelude.{Call, Program, ListedCall, AnswerValue, Given, Gives, Fails, given, rights_of, update, put_block, Core, Host, after_host_call}
use Rattle.space.specs.Memory.{Memory}
use Rattle.ia_step.specs.Prelude.{Parts, State, IsCore, IsState, with_reg, IsAsking}
use Rattle.machine_calls.specs.Calls.{listed_call, IsGiven}
use Rattle.ia_step.proofs.Memories.{memory_put}

pub resumed : (p : Program) (s : State) (c : Call) (call : ListedCall) (next : AnswerValue → Host) (k : IsAsking p s c call next) (a : AnswerValue) (g : Given) (parts : Parts)
    → given (listed_call c k.h.core.bytes) a ≡ g → IsCore p parts (after_host_call (rights_of p) s.eip g k.h).core → IsState p (record s { parts = parts }) (next a)
resumed p s c call next k a g parts e core =
    subst (λ h. IsState p (record s { parts = parts }) h)
    (sym (k.goes_on a ∙ ap (λ call. after_host_call (rights_of p) s.eip (given call a) k.h) k.lists ∙ ap (λ g. after_host_call (rights_of p) s.eip g k.h) e)) (by_given g core)
  where
    by_given : (g : Given) → IsCore p parts (after_host_call (rights_of p) s.eip g k.h).core → IsState p (record s { parts = parts }) (after_host_call (rights_of p) s.eip g k.h)
    by_given (Gives r bytes) core = record { core = core; eip = refl; choices = k.choices }
    by_given (Fails e) core = record { core = core; eip = refl; choices = k.choices }

pub reg_is : (p : Program) (parts : Parts) (core : Core) (r v w : ℕ) → IsCore p parts (with_reg core r v) → v ≡ w → IsCore p parts (with_reg core r w)
reg_is p parts core r v w h e = subst (λ v. IsCore p parts (with_reg core r v)) e h

-- a result with the bytes of a read
pub read_put : (p : Program) (parts : Parts) (core : Core) (v w a b : ℕ) (got : List ℕ) → IsCore p parts (with_reg (record core { bytes = put_block a got core.bytes }) 0 v) → v ≡ w → b ≡ a
    → IsCore p parts (record core { regs = update core.regs 0 w; bytes = put_block b got core.bytes })
read_put p parts core v w a b got h e at =
    subst (λ x. IsCore p parts (record core { regs = update core.regs 0 w; bytes = put_block x got core.bytes })) (sym at) (reg_is p parts _ 0 v w h e)

-- what is given to the call that waits
module _ (p : Program) (s : State) (new : Parts) (c : Call) (call : ListedCall) (next : AnswerValue → Host) (k : IsAsking p s c call next) (a : AnswerValue) (m : Memory) where
  -- a result
  succeeded : (g : Given) (v : ℕ) → given (listed_call c k.h.core.bytes) a ≡ g → IsGiven p k.h.core.bytes c.at g (Ok v) m
      → ((core : Core) → IsCore p (record s.parts { space = m }) core → IsCore p new (with_reg core 0 v)) → IsState p (record s { parts = new }) (next a)
  succeeded (Gives n to_buffer) v e is put =
      resumed p s c call next k a (Gives n to_buffer) new e
      (read_put p new k.h.core v n c.at (k.h.core.regs 1) to_buffer (put _ (memory_put p s.parts k.h.core m _ k.core is.1)) (let same = is.0 in cc) k.buffer)
  succeeded (Fails n) v e is put = let other = is.0 in absurd cc

  -- an error
  failed : (g : Given) (v w : ℕ) → given (listed_call c k.h.core.bytes) a ≡ g → IsGiven p k.h.core.bytes c.at g (Err v) m → w ≡ 2 ^ 32 - v
      → ((core : Core) → IsCore p (record s.parts { space = m }) core → IsCore p new (with_reg core 0 w)) → IsState p (record s { parts = new }) (next a)
  failed (Gives n to_buffer) v w e is negated put = let other = is.0 in absurd cc
  failed (Fails n) v w e is negated put =
      let same : v ≡ n = (let h = is.0 in cc) in
      resumed p s c call next k a (Fails n) new e
      (reg_is p new k.h.core 0 w (2 ^ 32 - n) (put k.h.core (memory_put p s.parts k.h.core m k.h.core.bytes k.core is.1)) (negated ∙ ap (λ e. 2 ^ 32 - e) same))

  pub given_result : (v : ℕ) → IsGiven p k.h.core.bytes c.at (given (listed_call c k.h.core.bytes) a) (Ok v) m
      → ((core : Core) → IsCore p (record s.parts { space = m }) core → IsCore p new (with_reg core 0 v)) → IsState p (record s { parts = new }) (next a)
  given_result v is put = succeeded (given (listed_call c k.h.core.bytes) a) v refl is put

  pub given_error : (v w : ℕ) → IsGiven p k.h.core.bytes c.at (given (listed_call c k.h.core.bytes) a) (Err v) m → w ≡ 2 ^ 32 - v
      → ((core : Core) → IsCore p (record s.parts { space = m }) core → IsCore p new (with_reg core 0 w)) → IsState p (record s { parts = new }) (next a)
  given_error v w is negated put = failed (given (listed_call c k.h.core.bytes) a) v w refl is negated put
