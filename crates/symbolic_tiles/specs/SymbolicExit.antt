-- What the items of a flow word's tile do to a symbolic state, and how it leaves them (this project's own).
use Rattle.std.specs.Prelude.{ℕ, ◌-◌, ◌^◌, Bool, true, cond, ◌||◌, eqb, List, [], ◌∷◌, drop, Option, Some, None}
use Rattle.machines.specs.Prelude.{End, ListedCall, Read, Write, Close, AnswerValue, Given, Gives, Fails, given, Condition, Flags, condition_holds, update, block, put_block, each_byte, Rights, Choice, choice_at}
use Rattle.space.specs.declared.call.End.TheVariants as endings
use Rattle.symbolic_tiles.specs.TileItems.{TileItem, Do, JumpIf, Label, LoadEbx, BranchTo, BranchIndirect, Interrupt, Trap, Undefined}
use Rattle.symbolic_tiles.specs.SymbolicState.{SymbolicState, with_reg, execute_op}

-- by the edge to a guest address, to the guest address in ecx, by an end, by a call; of Unknown nothing is said
pub data SymbolicExit : Type 0 where
  Out : (target : ℕ) → SymbolicState → SymbolicExit
  Indirect : SymbolicState → SymbolicExit
  Stopped : End → SymbolicExit
  Called : ListedCall → (AnswerValue → SymbolicExit) → SymbolicExit
  Unknown : SymbolicExit

-- whether a jump is taken
abbrev pub goes_on : Option Condition → Flags → Bool
goes_on None flags = true
goes_on (Some c) flags = condition_holds c flags

abbrev pub then_exit : (SymbolicState → SymbolicExit) → Option SymbolicState → SymbolicExit
then_exit rest None = Unknown
then_exit rest (Some s) = rest s

abbrev pub with_given : Given → SymbolicState → SymbolicState
with_given (Gives result to_buffer) s = record s { regs = update s.regs 0 result; bytes = put_block (s.regs 1) to_buffer s.bytes }
with_given (Fails error) s = record s { regs = update s.regs 0 (2 ^ 32 - error) }

abbrev pub asks_for : (SymbolicState → SymbolicExit) → ListedCall → SymbolicState → SymbolicExit
asks_for rest call s = Called call (λ a. rest (with_given (given call a) s))

module _ (guest host : Rights) where
  abbrev pub calls : (SymbolicState → SymbolicExit) → SymbolicState → SymbolicExit
  calls rest s =
      cond (eqb (s.regs 0) 1 || eqb (s.regs 0) 252) (Stopped (endings.Exit (s.regs 3))) (
      cond (eqb (s.regs 0) 3) (cond (each_byte guest.writable (s.regs 2) (s.regs 1)) (asks_for rest (Read (s.regs 3) (s.regs 2)) s) Unknown) (
      cond (eqb (s.regs 0) 4) (cond (each_byte guest.held (s.regs 2) (s.regs 1)) (asks_for rest (Write (s.regs 3) (block (s.regs 2) (s.regs 1) s.bytes)) s) Unknown) (
      cond (eqb (s.regs 0) 6) (asks_for rest (Close (s.regs 3)) s) (
      rest (with_given (Fails 38) s)))))

  -- the items one after another; with a mark, those before it are passed over
  abbrev pub execute : List TileItem → Option ℕ → List Choice → SymbolicState → SymbolicExit
  execute [] skip choices s = Unknown
  execute (Do l ∷ items) None choices s = then_exit (execute items None (drop 1 choices)) (execute_op guest host l (choice_at choices 0) s)
  execute (JumpIf c mark ∷ items) None choices s = cond (goes_on c s.flags) (execute items (Some mark) (drop 1 choices) s) (execute items None (drop 1 choices) s)
  execute (Label k ∷ items) None choices s = execute items None choices s
  execute (Label k ∷ items) (Some mark) choices s = cond (eqb k mark) (execute items None choices s) (execute items (Some mark) choices s)
  execute (LoadEbx x ∷ items) None choices s = execute items None (drop 1 choices) (with_reg 3 (s.locs x) s)
  execute (BranchTo target ∷ items) None choices s = Out target s
  execute (BranchIndirect ∷ items) None choices s = Indirect s
  execute (Interrupt ∷ items) None choices s = calls (execute items None (drop 1 choices)) s
  execute (Trap ∷ items) None choices s = Stopped endings.Trap
  execute (Undefined ∷ items) None choices s = Stopped endings.Illegal
  execute (_ ∷ items) (Some mark) choices s = execute items (Some mark) choices s
