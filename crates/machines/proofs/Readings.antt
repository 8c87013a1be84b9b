-- Ops as they are fetched: what a reading of bytes gives.
use Rattle.std.proofs.Common.{◌≡◌, ℕ, List, Option, Some, None, refl, sym, ap, ◌∙◌}
use Rattle.ia_codec.specs.Spelling.{IsReading}
use Rattle.machines.specs.Prelude.{Op, Fetched, ReadsOps}

pub fetched : Option (Op × ℕ) → Option Fetched
fetched None = None
fetched (Some x) = Some (record { op = x.0; len = x.1 })

from_fetched : (r : Option (Op × ℕ)) (f : Fetched) → fetched r ≡ Some f → r ≡ Some (f.op, f.len)
unfolding fetched
from_fetched None f e = absurd cc
from_fetched (Some x) f e = let same : record { op = x.0; len = x.1 } ≡ f = cc in ap (λ (g : Fetched). Some (g.op, g.len)) same

pub ops_are_read : (read : List ℕ → Option (Op × ℕ)) → IsReading read → ReadsOps (λ bytes. fetched (read bytes))
unfolding fetched
ops_are_read read is = record {
  found = λ bytes f e. (is.exact bytes f.op f.len).0 (from_fetched (read bytes) f e);
  only = λ bytes f spelt. ap fetched ((is.exact bytes f.op f.len).1 spelt);
}

pub one_of_ops : (f g : List ℕ → Option Fetched) → ReadsOps f → ReadsOps g → (bytes : List ℕ) → f bytes ≡ g bytes
one_of_ops f g p q bytes = by_value (f bytes) (g bytes) refl refl
  where
    by_value : (x y : Option Fetched) → f bytes ≡ x → g bytes ≡ y → f bytes ≡ g bytes
    by_value (Some i) y e h = e ∙ sym (q.only bytes i (p.found bytes i e))
    by_value None (Some j) e h = p.only bytes j (q.found bytes j h) ∙ sym h
    by_value None None e h = e ∙ sym h
