-- What the answers of calls give.
use Rattle.std.proofs.Common.{◌≡◌, ℕ, zero, suc, ◌+◌, List, [], length, min, take, ◌⊎◌, inl, inr, refl, ap}
use Rattle.std.specs.Prelude.{Ok, Err}
use Rattle.machines.specs.Prelude.{CallKind, Program, AnswerValue, Got, Took, Error, given, error_of, block, put_block}
use Rattle.space.specs.declared.call.CallKind.TheVariants as kind
use Rattle.space.specs.Memory.{Memory}
use Rattle.access.specs.Kept.{Keeps}
use Rattle.machine_calls.specs.Calls.{listed_as, IsGiven}

pub block_length : (n a : ℕ) (bytes : ℕ → ℕ) → length (block n a bytes) ≡ n
unfolding block
block_length zero a bytes = refl
block_length (suc n) a bytes = ap suc (block_length n (a + 1) bytes)

nothing_put : (a : ℕ) (bytes : ℕ → ℕ) → put_block a [] bytes ≡ bytes
unfolding put_block
nothing_put a bytes = refl

module _ (p : Program) (bytes : ℕ → ℕ) (m : Memory) (k : CallKind) (fd at count : ℕ) (answer : AnswerValue) where
  -- a read that got bytes
  pub read_given : (got : List ℕ) (n : ℕ) → k ≡ kind.Read → answer ≡ Got got → n ≡ min (length got) count
      → Keeps p (put_block at (take (min (length got) count) got) bytes) m → IsGiven p bytes at (given (listed_as k fd at count bytes) answer) (Ok n) m
  read_given got n is a e keeps = rw (is, a, e) (refl, keeps)

  -- a write of which so many bytes were taken
  pub write_given : (taken n : ℕ) → k ≡ kind.Write → answer ≡ Took taken → n ≡ min taken count → Keeps p bytes m
      → IsGiven p bytes at (given (listed_as k fd at count bytes) answer) (Ok n) m
  write_given taken n is a e keeps = rw (is, a, e, block_length count at bytes, nothing_put at bytes) (refl, keeps)

  -- an answer that isn't the call's
  pub other_got : (got : List ℕ) → (k ≡ kind.Write) ⊎ (k ≡ kind.Close) → answer ≡ Got got → Keeps p bytes m
      → IsGiven p bytes at (given (listed_as k fd at count bytes) answer) (Ok 0) m
  other_got got (inl is) a keeps = rw (is, a, nothing_put at bytes) (refl, keeps)
  other_got got (inr is) a keeps = rw (is, a, nothing_put at bytes) (refl, keeps)

  pub other_taken : (taken : ℕ) → (k ≡ kind.Read) ⊎ (k ≡ kind.Close) → answer ≡ Took taken → Keeps p bytes m
      → IsGiven p bytes at (given (listed_as k fd at count bytes) answer) (Ok 0) m
  other_taken taken (inl is) a keeps = rw (is, a, nothing_put at bytes) (refl, keeps)
  other_taken taken (inr is) a keeps = rw (is, a, nothing_put at bytes) (refl, keeps)

-- an error
pub error_given : (p : Program) (bytes : ℕ → ℕ) (m : Memory) (k : CallKind) (fd at count code e : ℕ) (answer : AnswerValue) → answer ≡ Error code → e ≡ error_of code → Keeps p bytes m
    → IsGiven p bytes at (given (listed_as k fd at count bytes) answer) (Err e) m
error_given p bytes m kind.Read fd at count code e answer a is keeps = rw (a, is) (refl, keeps)
error_given p bytes m kind.Write fd at count code e answer a is keeps = rw (a, is) (refl, keeps)
error_given p bytes m kind.Close fd at count code e answer a is keeps = rw (a, is) (refl, keeps)
