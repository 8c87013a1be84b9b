-- The lines of ops, one op at a time.
use Rattle.std.proofs.Common.{◌≡◌, ℕ, zero, suc, ◌+◌, ◌<◌, ◌≤◌, List, [], ◌∷◌, ◌++◌, length, take, drop, Option, Some, None, refl, ap, arith, length-drop, drop-drop}
use Rattle.ia_codec.specs.declared.op.Op.{Op}
use Rattle.ia_codec.specs.Prelude.{spelling, IsSpelt, IsReading}
use Rattle.ia_codec.proofs.Lengths.{length-spelling}
use Rattle.std.proofs.lemmas.List.{length-take}
use Rattle.listing.specs.Lines.{line}
use Rattle.listing.specs.Ops.{op_name, op_length, op_lines}

-- an op has one to twelve bytes
pub spelt-few : (op : Op) (bytes : List ℕ) (k : ℕ) → IsSpelt op bytes k → (0 < k) × (k ≤ 12)
spelt-few op bytes k spelt =
    let all : length (take k bytes) ≡ k = omega (arith, length-take k bytes, spelt.within) in
    let same : length (take k bytes) ≡ length (spelling op) = ap length spelt.front in
    (omega (arith, all, same, (length-spelling op).0), omega (arith, all, same, (length-spelling op).1))

module _ (read : List ℕ → Option (Op × ℕ)) (reads : IsReading read) where
  pub read-some : (bytes : List ℕ) (op : Op) (k : ℕ) → IsSpelt op bytes k → read bytes ≡ Some (op, k)
  read-some bytes op k spelt = (reads.exact bytes op k).1 spelt

  pub read-none : (bytes : List ℕ) → ((op : Op) (k : ℕ) → IsSpelt op bytes k → ⊥) → read bytes ≡ None
  read-none bytes none =
      elim (read bytes) as (λ r. read bytes ≡ r → r ≡ None) [ None ↦ λ e. refl | Some found ↦ λ e. absurd (none found.0 found.1 ((reads.exact bytes found.0 found.1).0 e)) ] refl

  some_read : (bytes : List ℕ) → 0 < op_length (read bytes)
  some_read bytes =
      elim (read bytes) as (λ r. read bytes ≡ r → 0 < op_length r) [ None ↦ λ e. omega arith | Some found ↦ λ e. (spelt-few found.0 bytes found.1 ((reads.exact bytes found.0 found.1).0 e)).0 ] refl

  -- the bound on lines is no bound where it is at least the number of bytes
  enough : (most more address : ℕ) (bytes : List ℕ) → length bytes ≤ most → length bytes ≤ more → op_lines read most address bytes ≡ op_lines read more address bytes
  unfolding op_lines
  enough zero zero address bytes a b = refl
  enough zero (suc more) address [] a b = refl
  enough zero (suc more) address (byte ∷ rest) a b = absurd (omega arith)
  enough (suc most) zero address [] a b = refl
  enough (suc most) zero address (byte ∷ rest) a b = absurd (omega arith)
  enough (suc most) (suc more) address [] a b = refl
  enough (suc most) (suc more) address (byte ∷ rest) a b =
      let k = op_length (read (byte ∷ rest)) in
      let some : 0 < k = some_read (byte ∷ rest) in
      let less : length (drop k (byte ∷ rest)) ≤ length rest = omega (arith, length-drop k (byte ∷ rest), some) in
      ap (λ v. line address (take k (byte ∷ rest)) (op_name (read (byte ∷ rest))) ++ v) (enough most more (address + k) (drop k (byte ∷ rest)) (omega (arith, less, a)) (omega (arith, less, b)))

  pub next_op : (address : ℕ) (bytes : List ℕ) (k : ℕ) (name : List ℕ) → 0 < length bytes → k ≡ op_length (read bytes) → name ≡ op_name (read bytes)
      → op_lines read (length bytes) address bytes ≡ line address (take k bytes) name ++ op_lines read (length (drop k bytes)) (address + k) (drop k bytes)
  unfolding op_lines
  next_op address [] k name some length-is name-is = absurd (omega arith)
  next_op address (byte ∷ rest) k name some length-is name-is =
      let positive : 0 < k = rw length-is (some_read (byte ∷ rest)) in
      let less : length (drop k (byte ∷ rest)) ≤ length rest = omega (arith, length-drop k (byte ∷ rest), positive) in
      rw (← length-is, ← name-is) (ap (λ v. line address (take k (byte ∷ rest)) name ++ v) (enough (length rest) (length (drop k (byte ∷ rest))) (address + k) (drop k (byte ∷ rest)) less (omega arith)))

pub no_ops : (read : List ℕ → Option (Op × ℕ)) (address : ℕ) (bytes : List ℕ) → length bytes ≡ 0 → op_lines read (length bytes) address bytes ≡ []
unfolding op_lines
no_ops read address [] none = refl
no_ops read address (byte ∷ rest) none = absurd (omega arith)

-- the same behind the first bytes of the code
pub next_op_at : (read : List ℕ → Option (Op × ℕ)) → IsReading read → (at place : ℕ) (bytes rest : List ℕ) (k : ℕ) (name : List ℕ) → rest ≡ drop place bytes → place < length bytes
    → k ≡ op_length (read rest) → name ≡ op_name (read rest)
    → op_lines read (length (drop place bytes)) (at + place) (drop place bytes)
    ≡ line (at + place) (take k rest) name ++ op_lines read (length (drop (place + k) bytes)) (at + (place + k)) (drop (place + k) bytes)
next_op_at read reads at place bytes rest k name is below length-is name-is =
    let further : drop k (drop place bytes) ≡ drop (place + k) bytes = drop-drop k place bytes in
    let address : at + place + k ≡ at + (place + k) = omega arith in
    let e = next_op read reads (at + place) (drop place bytes) k name (omega (arith, length-drop place bytes, below)) (rw (← is) length-is) (rw (← is) name-is) in
    rw (is, ← further, ← address) e
