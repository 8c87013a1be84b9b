-- An op that is no jump does the same at every place in the code.
use Rattle.std.proofs.Common.{◌≡◌, ℕ, Bool, true, false, cond, ◌||◌, eqb, Option, Some, None, refl}
use Rattle.machines.specs.Prelude.{ListedCall, Read, Write, Close, Given, Gives, Fails, given, Op, Unary, Jcc, Jmp, JmpTo, Int80, Int3, Ud2, UnaryOp, Div, Idiv, Operand, Outcome, Asks, Rights, block, each_byte, Core, Host, place_of, choice_at, reads, does, goes_to, faults_on, divides, unary_acts, after_host_call, host_asks, host_system_call, plain}
use Rattle.symbolic_tiles.specs.Prelude.{then_at, OpsStandAnywhere}

module _ (rights : Rights) (next : ℕ) (h : Host) where
  abbrev at_zero : Host
  at_zero = record { core = h.core; eip = 0; choices = h.choices }

  goes_at : (o : Option Core) → goes_to rights next h o ≡ then_at next (goes_to rights 0 at_zero o)
  goes_at None = refl
  goes_at (Some core) = refl

  plain_at : (op : Op) → plain rights op next h ≡ then_at next (plain rights op 0 at_zero)
  plain_at op = goes_at (does rights op (choice_at h.choices 0) h.core)

  given_at : (x : Given) → after_host_call rights next x h ≡ record (after_host_call rights 0 x at_zero) { eip = next }
  given_at (Gives result to_buffer) = refl
  given_at (Fails error) = refl

  asks_at : (call : ListedCall) → host_asks rights call next h ≡ then_at next (host_asks rights call 0 at_zero)
  asks_at call = λ k. Asks call (λ a. given_at (given call a) k)

  by_test : (b : Bool) (x y x' y' : Outcome Host) → x ≡ then_at next x' → y ≡ then_at next y' → cond b x y ≡ then_at next (cond b x' y')
  by_test true x y x' y' hx hy = hx
  by_test false x y x' y' hx hy = hy

  call_at : host_system_call rights next h ≡ then_at next (host_system_call rights 0 at_zero)
  call_at =
      by_test (eqb (h.core.regs 0) 1 || eqb (h.core.regs 0) 252) _ _ _ _ refl (
      by_test (eqb (h.core.regs 0) 3) _ _ _ _ (by_test (each_byte rights.writable (h.core.regs 2) (h.core.regs 1)) _ _ _ _ (asks_at (Read (h.core.regs 3) (h.core.regs 2))) refl) (
      by_test (eqb (h.core.regs 0) 4) _ _ _ _ (by_test (each_byte rights.held (h.core.regs 2) (h.core.regs 1)) _ _ _ _ (asks_at (Write (h.core.regs 3) (block (h.core.regs 2) (h.core.regs 1) h.core.bytes))) refl) (
      by_test (eqb (h.core.regs 0) 6) _ _ _ _ (asks_at (Close (h.core.regs 3))) refl)))

  divides_at : (op : Op) (on : Operand) → divides rights op on next h ≡ then_at next (divides rights op on 0 at_zero)
  divides_at op on = by_test (faults_on rights op (choice_at h.choices 0) h.core (reads rights h.core (place_of 4 on h.core.regs))) _ _ _ _ refl (plain_at op)

  unary_at : (op : UnaryOp) (on : Operand) → unary_acts rights op on next h ≡ then_at next (unary_acts rights op on 0 at_zero)
  unary_at Div on = divides_at (Unary Div on) on
  unary_at Idiv on = divides_at (Unary Idiv on) on
  unary_at op on = plain_at (Unary op on)

no_truth : true ≡ false → ⊥
no_truth e = cc

pub ops_stand_anywhere : OpsStandAnywhere
ops_stand_anywhere rights (Unary op on) next h n = unary_at rights next h op on
ops_stand_anywhere rights (Jcc condition rel) next h n = absurd (no_truth n)
ops_stand_anywhere rights (Jmp rel) next h n = absurd (no_truth n)
ops_stand_anywhere rights (JmpTo to) next h n = absurd (no_truth n)
ops_stand_anywhere rights Int80 next h n = call_at rights next h
ops_stand_anywhere rights Int3 next h n = refl
ops_stand_anywhere rights Ud2 next h n = refl
ops_stand_anywhere rights op next h n = plain_at rights next h op
