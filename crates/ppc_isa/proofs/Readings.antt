-- Readings of words: what the opcodes name, where the word is that instruction's.
use Rattle.std.proofs.Common.{◌≡◌, ◌≢◌, ℕ, ◌<◌, ◌^◌, ◌⊎◌, List, [], ◌∷◌, Option, Some, None, IfSome, refl, sym, subst, inl, inr, arith}
use Rattle.std.proofs.lemmas.Bool.{cases_lt}
use Rattle.std.proofs.lemmas.Bool.Decides.{eqb_tells}
use Rattle.ppc_isa.specs.Word.{Field, Fit, word}
use Rattle.ppc_isa.specs.Legal.{layout, Allowed, IsSpr, IsWordOf, ReadsWords, bo_2}
use Rattle.ppc_isa.specs.Reading.{read}
use Rattle.ppc_isa.specs.Instruction.{Instr, LoadUpdate, StoreUpdate, LoadIndexedUpdate, StoreIndexedUpdate, Multiple, Lmw, MoveFromSpr, MoveToSpr, BranchRegister, Bcctr}
use Rattle.ppc_isa.proofs.ReadWords.{read_legal}

-- what a reading gives, if any
pub if_found : (w : ℕ) (r : Option Instr) → ((i : Instr) → r ≡ Some i → IsWordOf w i) → IfSome r (λ i. IsWordOf w i)
if_found w None h = tt
if_found w (Some i) h = h i refl

-- two readings agree at a word
pub same : (w : ℕ) (a b : Option Instr) → IfSome a (λ i. IsWordOf w i) → IfSome b (λ i. IsWordOf w i) → ((i : Instr) → IsWordOf w i → a ≡ Some i) → ((i : Instr) → IsWordOf w i → b ≡ Some i) → a ≡ b
same w (Some i) b p q r s = sym (s i p)
same w None (Some j) p q r s = r j q
same w None None p q r s = refl

abbrev Decided : Type 0 → Type 0
Decided P = P ⊎ (P → ⊥)

both : {P Q : Type 0} → Decided P → Decided Q → Decided (P × Q)
both (inl p) (inl q) = inl (p, q)
both (inr n) d = inr (λ h. n h.0)
both (inl p) (inr n) = inr (λ h. n h.1)

one_of_two : {P Q : Type 0} → Decided P → Decided Q → Decided (P ⊎ Q)
one_of_two (inl p) d = inl (inl p)
one_of_two (inr n) (inl q) = inl (inr q)
one_of_two (inr n) (inr m) = inr (λ h. elim h [ inl p ↦ n p | inr q ↦ m q ])

equal : (a b : ℕ) → Decided (a ≡ b)
equal a b = elim (eqb_tells a b) [ inl e ↦ inl e.1 | inr e ↦ inr e.1 ]

unequal : (a b : ℕ) → Decided (a ≢ b)
unequal a b = elim (eqb_tells a b) [ inl e ↦ inr (λ n. n e.1) | inr e ↦ inl e.1 ]

below : (a b : ℕ) → Decided (a < b)
below a b = elim (cases_lt a b) [ inl h ↦ inl h | inr h ↦ inr (λ l. omega (arith, h, l)) ]

fit : (fs : List Field) → Decided (Fit fs)
fit [] = inl tt
fit (f ∷ fs) = both (below f.value (2 ^ f.width)) (fit fs)

spr : (n : ℕ) → Decided (IsSpr n)
spr n = one_of_two (equal n 1) (one_of_two (equal n 8) (equal n 9))

allowed : (i : Instr) → Decided (Allowed i)
allowed (LoadUpdate op d a imm) = both (unequal a 0) (unequal a d)
allowed (StoreUpdate op s a imm) = unequal a 0
allowed (LoadIndexedUpdate op d a b) = both (unequal a 0) (unequal a d)
allowed (StoreIndexedUpdate op s a b) = unequal a 0
allowed (Multiple Lmw d a imm) = below a d
allowed (MoveFromSpr d n) = spr n
allowed (MoveToSpr s n) = spr n
allowed (BranchRegister Bcctr bo bi link) = equal (bo_2 bo) 1
allowed _ = inl tt

is_word : (w : ℕ) (i : Instr) → Decided (IsWordOf w i)
is_word w i =
    elim (both (equal w (word (layout i))) (both (fit (layout i)) (allowed i))) [
      | inl h ↦ inl (record { spelled = h.0; legal = record { fit = h.1.0; allowed = h.1.1 } })
      | inr n ↦ inr (λ h. n (h.spelled, (h.legal.fit, h.legal.allowed)))
    ]

keep : (w : ℕ) (i : Instr) → Decided (IsWordOf w i) → Option Instr
keep w i (inl h) = Some i
keep w i (inr n) = None

keep_found : (w : ℕ) (i : Instr) (d : Decided (IsWordOf w i)) → IfSome (keep w i d) (λ j. IsWordOf w j)
unfolding keep
keep_found w i (inl h) = h
keep_found w i (inr n) = tt

keep_only : (w : ℕ) (i : Instr) (d : Decided (IsWordOf w i)) → IsWordOf w i → keep w i d ≡ Some i
unfolding keep
keep_only w i (inl h) l = refl
keep_only w i (inr n) l = absurd (n l)

kept : ℕ → Option Instr → Option Instr
kept w None = None
kept w (Some i) = keep w i (is_word w i)

kept_found : (w : ℕ) (r : Option Instr) → IfSome (kept w r) (λ i. IsWordOf w i)
unfolding kept
kept_found w None = tt
kept_found w (Some i) = keep_found w i (is_word w i)

kept_only : (w : ℕ) (i : Instr) → IsWordOf w i → kept w (read w) ≡ Some i
unfolding kept
kept_only w i l = rw (read_legal w i l) (keep_only w i (is_word w i) l)

some_of : (w : ℕ) (r : Option Instr) (i : Instr) → IfSome r (λ j. IsWordOf w j) → r ≡ Some i → IsWordOf w i
some_of w r i h e = subst (λ (x : Option Instr). IfSome x (λ j. IsWordOf w j)) e h

pub a_reading : (f : ℕ → Option Instr) × ReadsWords f
a_reading = ((λ w. kept w (read w)), record { found = λ w i e. some_of w (kept w (read w)) i (kept_found w (read w)) e; only = kept_only })
