-- How the host goes on behind an op.
use Rattle.std.proofs.Common.{◌≡◌, ℕ, true, false, Option, Some, None, refl, ap, drop, ◌⊎◌, inl, inr}
use Rattle.machines.specs.Prelude.{Outside, Event, Went, Ended, Program, Condition, Operand, UnaryOp, Not, Neg, Mul, Imul1, Div, Idiv, Op, Unary, Jcc, Jmp, JmpTo, Int80, Int3, Ud2, Rights, rights_of, Core, Host, Choice, place_of, reads, sets, unary_does, goes_to, plain, unary_acts, host_acts}
use Rattle.ia_step.specs.Prelude.{Parts, State, Led, Leads}

-- an op that goes through
pub went : (p : Program) (s new : State) (h : Host) (parts : Parts) (next : ℕ) (o : Option Core) (e : Event) → Led p true parts o → h.choices ≡ s.choices
    → e ≡ Went → new ≡ record { parts = parts; eip = next; choices = drop 1 s.choices } → Leads p e new (goes_to (rights_of p) next h o)
went p s new h parts next (Some core) e l choices event state =
    rw (event, state) (record { core = l; eip = refl; choices = ap (drop 1) choices })
went p s new h parts next None e l choices event state = absurd l

-- one that doesn't
pub stopped : (p : Program) (s : State) (h : Host) (parts : Parts) (next : ℕ) (o : Option Core) → Led p false parts o → Leads p (Ended Outside) s (goes_to (rights_of p) next h o)
stopped p s h parts next (Some core) l = absurd l
stopped p s h parts next None l = refl

-- not and neg set their operand
pub unary_set : (rights : Rights) (op : UnaryOp) (on : Operand) (c : Choice) (core : Core) → (op ≡ Not) ⊎ (op ≡ Neg)
    → unary_does rights op on c core ≡ sets rights (Unary op on) c (place_of 4 on core.regs) core (reads rights core (place_of 4 on core.regs))
unary_set rights Not on c core h = refl
unary_set rights Neg on c core h = refl
unary_set rights Mul on c core (inl h) = absurd cc
unary_set rights Mul on c core (inr h) = absurd cc
unary_set rights Imul1 on c core (inl h) = absurd cc
unary_set rights Imul1 on c core (inr h) = absurd cc
unary_set rights Div on c core (inl h) = absurd cc
unary_set rights Div on c core (inr h) = absurd cc
unary_set rights Idiv on c core (inl h) = absurd cc
unary_set rights Idiv on c core (inr h) = absurd cc

-- what is no division has no fault
pub unary_plain : (rights : Rights) (op : UnaryOp) (on : Operand) (next : ℕ) (h : Host) → (op ≡ Not) ⊎ ((op ≡ Neg) ⊎ ((op ≡ Mul) ⊎ (op ≡ Imul1)))
    → unary_acts rights op on next h ≡ plain rights (Unary op on) next h
unary_plain rights Not on next h e = refl
unary_plain rights Neg on next h e = refl
unary_plain rights Mul on next h e = refl
unary_plain rights Imul1 on next h e = refl
unary_plain rights Div on next h (inl e) = absurd cc
unary_plain rights Div on next h (inr (inl e)) = absurd cc
unary_plain rights Div on next h (inr (inr (inl e))) = absurd cc
unary_plain rights Div on next h (inr (inr (inr e))) = absurd cc
unary_plain rights Idiv on next h (inl e) = absurd cc
unary_plain rights Idiv on next h (inr (inl e)) = absurd cc
unary_plain rights Idiv on next h (inr (inr (inl e))) = absurd cc
unary_plain rights Idiv on next h (inr (inr (inr e))) = absurd cc

-- the op is no jump, no call, no end of the run, and none of one operand
pub record IsOther (op : Op) : Type 0 where
  pub no_unary : (x : UnaryOp) (on : Operand) → op ≡ Unary x on → ⊥
  pub no_jcc : (c : Condition) (rel : ℕ) → op ≡ Jcc c rel → ⊥
  pub no_jmp : (rel : ℕ) → op ≡ Jmp rel → ⊥
  pub no_jump_to : (to : Operand) → op ≡ JmpTo to → ⊥
  pub no_call : op ≡ Int80 → ⊥
  pub no_trap : op ≡ Int3 → ⊥
  pub no_illegal : op ≡ Ud2 → ⊥

pub other_acts : (rights : Rights) (op : Op) (next : ℕ) (h : Host) → IsOther op → host_acts rights op next h ≡ plain rights op next h
other_acts rights (Unary x on) next h o = absurd (o.no_unary x on refl)
other_acts rights (Jcc c rel) next h o = absurd (o.no_jcc c rel refl)
other_acts rights (Jmp rel) next h o = absurd (o.no_jmp rel refl)
other_acts rights (JmpTo to) next h o = absurd (o.no_jump_to to refl)
other_acts rights Int80 next h o = absurd (o.no_call refl)
other_acts rights Int3 next h o = absurd (o.no_trap refl)
other_acts rights Ud2 next h o = absurd (o.no_illegal refl)
other_acts rights _ next h o = refl
