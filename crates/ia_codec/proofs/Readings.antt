-- There is a reading of bytes, since it can be settled whether an op is spelt at their front; and there is no other.
use Rattle.std.proofs.Common.{◌≡◌, ◌≢◌, ℕ, ◌+◌, ◌<◌, ◌^◌, Bool, true, false, List, ◌++◌, length, take, Option, Some, None, refl, sym, ap, subst, ◌∙◌, ◌⊎◌, inl, inr, arith}
use Rattle.std.specs.Prelude.{IfSome}
use Rattle.std.specs.Bool.{Decides}
use Rattle.std.specs.Str.{bytes_eq}
use Rattle.std.proofs.lemmas.Bool.{cases_eq, false≢true}
use Rattle.std.proofs.lemmas.Bool.Decides.{leb_tells}
use Rattle.std.proofs.lemmas.Slice.Eq.{bytes_eq-Decides}
use Rattle.std.proofs.lemmas.List.{length-take}
use Rattle.ia_codec.specs.Prelude.{Operand, Reg, Abs, Base, Pair, MovzxByte, MovzxHalf, MovsxByte, MovsxHalf, Op, AluTo, AluFrom, AluImm, TestReg, TestImm, Unary, Imul, MovTo, MovFrom, MovImm, MovToImm, MovHalfTo, MovByteTo, MovByteFrom, Shift, ShiftByCl, Lea, Extend, Bswap, Set, Cmov, Bsr, Cdq, Jcc, Jmp, JmpTo, Int80, Int3, Ud2, spelling, IsSpelt, IsReg, IsOperand, IsMemory, IsSum, IsByte, IsInProfile, IsReading, read}
use Rattle.ia_codec.proofs.Spelt.{read-spelt, one_spelt}

abbrev Settled : Type 0 → Type 0
Settled P = P ⊎ (P → ⊥)

both : {P Q : Type 0} → Settled P → Settled Q → Settled (P × Q)
both (inl p) (inl q) = inl (p, q)
both (inl p) (inr n) = inr (λ h. n h.1)
both (inr n) q = inr (λ h. n h.0)

all_three : {P Q R : Type 0} → Settled P → Settled Q → Settled R → Settled (P × Q × R)
all_three (inl p) (inl q) (inl r) = inl (p, q, r)
all_three (inl p) (inl q) (inr n) = inr (λ h. n h.2)
all_three (inl p) (inr n) r = inr (λ h. n h.1)
all_three (inr n) q r = inr (λ h. n h.0)

below : (a b : ℕ) → Settled (a < b)
below a b = elim (leb_tells b a) as (λ _. Settled (a < b)) [ inl h ↦ inr (λ lt. omega (arith, h.1)) | inr h ↦ inl h.1 ]

unequal : (a b : ℕ) → Settled (a ≢ b)
unequal a b = elim (cases_eq a b) as (λ _. Settled (a ≢ b)) [ inl e ↦ inr (λ n. n e) | inr n ↦ inl n ]

reg : (r : ℕ) → Settled (IsReg r)
reg r = all_three (below r 8) (unequal r 4) (unequal r 5)

operand : (m : Operand) → Settled (IsOperand m)
operand (Reg m) = reg m
operand (Abs d) = below d (2 ^ 32)
operand (Base b d) = both (reg b) (below d (2 ^ 32))
operand (Pair b x s d) = elim (all_three (reg b) (reg x) (both (below s 4) (below d (2 ^ 32)))) as (λ _. Settled (IsOperand (Pair b x s d))) [ inl h ↦ inl (h.0, h.1, h.2.0, h.2.1) | inr n ↦ inr (λ h. n (h.0, h.1, (h.2, h.3))) ]

memory : (m : Operand) → Settled (IsMemory m)
memory (Reg m) = inr (λ h. h)
memory (Abs d) = operand (Abs d)
memory (Base b d) = operand (Base b d)
memory (Pair b x s d) = operand (Pair b x s d)

sum : (m : Operand) → Settled (IsSum m)
sum (Reg m) = inr (λ h. h)
sum (Abs d) = inr (λ h. h)
sum (Base b d) = operand (Base b d)
sum (Pair b x s d) = operand (Pair b x s d)

byte : (m : Operand) → Settled (IsByte m)
byte (Reg m) = below m 3
byte (Abs d) = operand (Abs d)
byte (Base b d) = operand (Base b d)
byte (Pair b x s d) = operand (Pair b x s d)

profile : (op : Op) → Settled (IsInProfile op)
profile (AluTo op to from) = both (operand to) (reg from)
profile (AluFrom op to from) = both (reg to) (memory from)
profile (AluImm op to imm) = both (operand to) (below imm (2 ^ 32))
profile (TestReg a b) = both (operand a) (reg b)
profile (TestImm a imm) = both (operand a) (below imm (2 ^ 32))
profile (Unary op on) = operand on
profile (Imul to from) = both (reg to) (operand from)
profile (MovTo to from) = both (operand to) (reg from)
profile (MovFrom to from) = both (reg to) (memory from)
profile (MovImm to imm) = both (reg to) (below imm (2 ^ 32))
profile (MovToImm to imm) = both (memory to) (below imm (2 ^ 32))
profile (MovHalfTo to from) = both (memory to) (reg from)
profile (MovByteTo to from) = both (memory to) (below from 3)
profile (MovByteFrom to from) = both (below to 3) (memory from)
profile (Shift op to by) = both (operand to) (below by 32)
profile (ShiftByCl op to) = operand to
profile (Lea to from) = both (reg to) (sum from)
profile (Extend MovzxByte to from) = both (reg to) (byte from)
profile (Extend MovsxByte to from) = both (reg to) (byte from)
profile (Extend MovzxHalf to from) = both (reg to) (operand from)
profile (Extend MovsxHalf to from) = both (reg to) (operand from)
profile (Bswap r) = reg r
profile (Set condition to) = byte to
profile (Cmov condition to from) = both (reg to) (operand from)
profile (Bsr to from) = both (reg to) (operand from)
profile Cdq = inl tt
profile (Jcc condition rel) = below rel (2 ^ 32)
profile (Jmp rel) = below rel (2 ^ 32)
profile (JmpTo to) = operand to
profile Int80 = inl tt
profile Int3 = inl tt
profile Ud2 = inl tt

same_bytes : (x y : List ℕ) → Settled (x ≡ y)
same_bytes x y = by (bytes_eq x y) (bytes_eq-Decides x y)
  where
    by : (t : Bool) → Decides t (x ≡ y) → Settled (x ≡ y)
    by true d = inl (d.0 refl)
    by false d = inr (λ e. false≢true (d.1 e))

spelt_or_not : (op : Op) (bytes : List ℕ) → Settled (IsSpelt op bytes (length (spelling op)))
spelt_or_not op bytes =
    elim (all_three (profile op) (below (length (spelling op)) (length bytes + 1)) (same_bytes (take (length (spelling op)) bytes) (spelling op))) as (λ _. Settled (IsSpelt op bytes (length (spelling op)))) [
      | inl h ↦ inl (record { profile = h.0; within = omega (arith, h.1); front = h.2 })
      | inr n ↦ inr (λ h. n (h.profile, omega (arith, h.within), h.front))
    ]

abbrev found : Op × ℕ → Option (Op × ℕ)
found x = Some x

abbrev unfound : Option (Op × ℕ)
unfound = None

found_is : (x y : Op × ℕ) → found x ≡ found y → x ≡ y
found_is x y e = cc

not_found : (x : Op × ℕ) → unfound ≡ found x → ⊥
not_found x e = absurd cc

abbrev chosen : (op : Op) (bytes : List ℕ) → Settled (IsSpelt op bytes (length (spelling op))) → Option (Op × ℕ)
chosen op bytes (inl h) = Some (op, length (spelling op))
chosen op bytes (inr n) = None

abbrev settled : Option (Op × List ℕ) → List ℕ → Option (Op × ℕ)
settled None bytes = None
settled (Some x) bytes = chosen x.0 bytes (spelt_or_not x.0 bytes)

pub reading : List ℕ → Option (Op × ℕ)
reading bytes = settled (read bytes) bytes

chosen_is_spelt : (bytes : List ℕ) (other op : Op) (k : ℕ) (s : Settled (IsSpelt other bytes (length (spelling other)))) → chosen other bytes s ≡ found (op, k) → IsSpelt op bytes k
chosen_is_spelt bytes other op k (inl h) e = subst (λ (x : Op × ℕ). IsSpelt x.0 bytes x.1) (found_is (other, length (spelling other)) (op, k) e) h
chosen_is_spelt bytes other op k (inr n) e = absurd (not_found (op, k) e)

settled_is_spelt : (bytes : List ℕ) (op : Op) (k : ℕ) (r : Option (Op × List ℕ)) → settled r bytes ≡ found (op, k) → IsSpelt op bytes k
settled_is_spelt bytes op k None e = absurd (not_found (op, k) e)
settled_is_spelt bytes op k (Some x) e = chosen_is_spelt bytes x.0 op k (spelt_or_not x.0 bytes) e

whole : (bytes : List ℕ) (op : Op) (k : ℕ) → IsSpelt op bytes k → IsSpelt op bytes (length (spelling op))
whole bytes op k h =
    let front : length (take k bytes) ≡ length (spelling op) = ap length h.front in
    let e : k ≡ length (spelling op) = omega (arith, front, length-take k bytes, h.within) in
    subst (λ (n : ℕ). IsSpelt op bytes n) e h

spelt_is_chosen : (bytes : List ℕ) (op : Op) (k : ℕ) → IsSpelt op bytes k → (s : Settled (IsSpelt op bytes (length (spelling op)))) → chosen op bytes s ≡ found (op, k)
spelt_is_chosen bytes op k h (inl s) = one_spelt op op bytes (length (spelling op)) k s h
spelt_is_chosen bytes op k h (inr n) = absurd (n (whole bytes op k h))

pub IsReading-reading : IsReading reading
unfolding reading
IsReading-reading = record {
  exact = λ bytes op k. (
    settled_is_spelt bytes op k (read bytes),
    λ h. ap (λ (r : Option (Op × List ℕ)). settled r bytes) (read-spelt op bytes k h) ∙ spelt_is_chosen bytes op k h (spelt_or_not op bytes),
  );
}

-- What answers as decode does is every reading's answer.
pub answer-reading : (f : List ℕ → Option (Op × ℕ)) → IsReading f → (bytes : List ℕ) (r : Option (Op × ℕ)) → IfSome r (λ x. IsSpelt x.0 bytes x.1) → ((op : Op) (k : ℕ) → IsSpelt op bytes k → r ≡ found (op, k)) → r ≡ f bytes
answer-reading f is bytes (Some x) some only = sym ((is.exact bytes x.0 x.1).1 some)
answer-reading f is bytes None some only = by (f bytes) refl
  where
    by : (y : Option (Op × ℕ)) → f bytes ≡ y → unfound ≡ f bytes
    by None e = sym e
    by (Some y) e = absurd (not_found y (only y.0 y.1 ((is.exact bytes y.0 y.1).0 e)))

-- Any two readings agree.
pub readings-agree : (f g : List ℕ → Option (Op × ℕ)) → IsReading f → IsReading g → (bytes : List ℕ) → f bytes ≡ g bytes
readings-agree f g p q bytes = answer-reading g q bytes (f bytes) (by (f bytes) refl) (λ op k. (p.exact bytes op k).1)
  where
    by : (y : Option (Op × ℕ)) → f bytes ≡ y → IfSome y (λ x. IsSpelt x.0 bytes x.1)
    by None e = tt
    by (Some y) e = (p.exact bytes y.0 y.1).0 e
