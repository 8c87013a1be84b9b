-- What is fetched: the code's bytes from an address on, read as an op.
use Rattle.std.proofs.Common.{◌≡◌, ℕ, ◌+◌, ◌-◌, ◌%◌, ◌^◌, Bool, true, false, cond, List, length, take, drop, min, Option, Some, None, refl, sym, ◌∙◌, ap, arith}
use Rattle.std.specs.Prelude.{option_and_then, slice_get}
use Rattle.std.proofs.lemmas.List.{take_min}
use Rattle.machines.specs.Prelude.{Segment, Program, Outside, Illegal, bytes_from, code_from, has_address, Ends, Op, IsSpelt, rights_of, code_in, code_of, is_code, Host, op_bytes, host_executes, host_acts, host_machine, Fetched, ReadsOps}
use Rattle.space.specs.Memory.{Memory as Space}
use Rattle.access.specs.Kept.{Keeps}

in_code : (s : Segment) (a : ℕ) (b : List ℕ) (x : Bool) → has_address a s ≡ x → cond x (Some (drop (a - s.at) s.bytes)) None ≡ Some b
    → (is_code (code_in (Some s)) a ≡ true) × (drop (a - s.at) s.bytes ≡ b)
in_code s a b true e h = (e, cc)
in_code s a b false e h = absurd cc

-- bytes that were found are the code's
pub code_found : (o : Option Segment) (a : ℕ) (b : List ℕ) → option_and_then (bytes_from a) o ≡ Some b
    → (is_code (code_in o) a ≡ true) × (drop (a - (code_in o).at) (code_in o).bytes ≡ b)
code_found None a b h = absurd cc
code_found (Some s) a b h = in_code s a b (has_address a s) refl h

-- bytes that begin with no spelling are read as none
pub none_read : (ops : List ℕ → Option Fetched) → ReadsOps ops → (l : List ℕ) → ((op : Op) (k : ℕ) → IsSpelt op l k → ⊥) → ops l ≡ None
none_read ops reads l h = by_read (ops l) refl
  where
    by_read : (o : Option Fetched) → ops l ≡ o → ops l ≡ None
    by_read None e = e
    by_read (Some f) e = absurd (h f.op f.len (reads.found l f e))

least : (n : ℕ) (l : List ℕ) → take (min (length l) n) l ≡ take n l
least n l = let e : min (length l) n ≡ min n (length l) = omega arith in ap (λ k. take k l) e ∙ take_min n l

module _ (ops : List ℕ → Option Fetched) (reads : ReadsOps ops) (p : Program) (h : Host) (f : ℕ → ℕ) (m : Space) (a n : ℕ) (b : List ℕ) (keeps : Keeps p f m) (at : h.eip ≡ a) (found : Some b ≡ code_from m a) (count : n ≡ min (length b) 12) where
  code_at : (is_code (code_of p) a ≡ true) × (drop (a - (code_of p).at) (code_of p).bytes ≡ b)
  code_at = code_found (slice_get p.segments p.code) a b (ap (option_and_then (bytes_from a)) (sym keeps.code_stands) ∙ sym found)

  bytes_are : op_bytes (code_of p) a ≡ take n b
  bytes_are = ap (take 12) code_at.1 ∙ sym (ap (λ k. take k b) count ∙ least 12 b)

  step_is : (o : Option Fetched) → ops (take n b) ≡ o → host_machine ops p h ≡ host_executes (rights_of p) o h
  step_is o e =
      ap (λ x. cond (is_code (code_of p) x) (host_executes (rights_of p) (ops (op_bytes (code_of p) x)) h) (Ends Outside)) at
      ∙ ap (λ x. cond x (host_executes (rights_of p) (ops (op_bytes (code_of p) a)) h) (Ends Outside)) code_at.0
      ∙ ap (λ l. host_executes (rights_of p) (ops l) h) bytes_are
      ∙ ap (λ o. host_executes (rights_of p) o h) e

  -- an op that the bytes spell is executed
  pub fetched : (op : Op) (k : ℕ) → IsSpelt op (take n b) k → host_machine ops p h ≡ host_acts (rights_of p) op ((a + k) % 2 ^ 32) h
  fetched op k spelt =
      step_is (Some (record { op = op; len = k })) (reads.only (take n b) (record { op = op; len = k }) spelt)
      ∙ ap (λ x. host_acts (rights_of p) op ((x + k) % 2 ^ 32) h) at

  -- bytes that spell none end the run
  pub illegal : ((op : Op) (k : ℕ) → IsSpelt op (take n b) k → ⊥) → host_machine ops p h ≡ Ends Illegal
  illegal none = step_is None (none_read ops reads (take n b) none)
