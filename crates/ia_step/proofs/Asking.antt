-- Calls that the host makes.
use Rattle.std.proofs.Common.{◌≡◌, ℕ, true, false, eqb, ◌-◌, ◌^◌, refl, sym, ◌∙◌, ap, drop, arith}
use Rattle.std.proofs.lemmas.Bool.Decides.{nat_tests}
use Rattle.std.specs.Prelude.{slice_index}
use Rattle.machines.specs.Prelude.{CallKind, Outside, Event, Went, Asked, Ended, Program, rights_of, Host, host_system_call}
use Rattle.ia_step.specs.Prelude.{Parts, State, IsCore, IsState, with_reg, asks_for, Leads}
use Rattle.machine_calls.specs.Calls.{is_buffer}
use Rattle.ia_step.proofs.Resuming.{reg_is}

module _ (p : Program) (s : State) (h : Host) (k : CallKind) (next fd at count : ℕ) (st : IsState p s h)
    (fd_is : fd ≡ slice_index s.parts.regs 3) (at_is : at ≡ slice_index s.parts.regs 1) (count_is : count ≡ slice_index s.parts.regs 2) where
  fd_in : h.core.regs 3 ≡ fd
  fd_in = st.core.registers 3 ∙ sym fd_is

  at_in : h.core.regs 1 ≡ at
  at_in = st.core.registers 1 ∙ sym at_is

  count_in : h.core.regs 2 ≡ count
  count_in = st.core.registers 2 ∙ sym count_is

  -- a call whose buffer is held is made
  pub asked : true ≡ is_buffer p k at count
      → Leads p (Asked (record { kind = k; fd = fd; at = at; count = count })) (record s { eip = next; choices = drop 1 s.choices }) (asks_for p k next h)
  asked held = rw (fd_in, at_in, count_in, sym held) (record { h = h; core = st.core; choices = ap (drop 1) st.choices; buffer = at_in; count = count_in; lists = refl; goes_on = λ answer. refl })

  -- one whose buffer isn't held ends the run
  pub not_asked : false ≡ is_buffer p k at count → Leads p (Ended Outside) s (asks_for p k next h)
  not_asked held = rw (fd_in, at_in, count_in, sym held) refl

is_other : (a b : ℕ) → (a ≡ b → ⊥) → eqb a b ≡ false
is_other a b h = grind (arith, nat_tests)

-- a call that there isn't gives an error
pub unknown_call : (p : Program) (s new : State) (h : Host) (parts : Parts) (next n v : ℕ) (e : Event) → IsState p s h → n ≡ slice_index s.parts.regs 0
    → (n ≡ 1 → ⊥) → (n ≡ 252 → ⊥) → (n ≡ 3 → ⊥) → (n ≡ 4 → ⊥) → (n ≡ 6 → ⊥)
    → IsCore p parts (with_reg h.core 0 v) → v ≡ 2 ^ 32 - 38 → e ≡ Went → new ≡ record { parts = parts; eip = next; choices = drop 1 s.choices }
    → Leads p e new (host_system_call (rights_of p) next h)
unknown_call p s new h parts next n v e st reg no_exit no_group no_read no_write no_close core value event state =
    let number : h.core.regs 0 ≡ n = st.core.registers 0 ∙ sym reg in
    rw (event, state, number, is_other n 1 no_exit, is_other n 252 no_group, is_other n 3 no_read, is_other n 4 no_write, is_other n 6 no_close)
    (record { core = reg_is p parts h.core 0 v (2 ^ 32 - 38) core value; eip = refl; choices = ap (drop 1) st.choices })
