-- Tiles that give one result, by the form of the instruction.
use Rattle.std.proofs.Common.{ℕ, ◌≤◌, Bool, false, List, ◌++◌, refl}
use Rattle.machines.specs.Prelude.{Immediate, LogicImmediate, Arithmetic, ArithmeticUnary, Logic, ImmediateOp, LogicImmediateOp, ArithmeticOp, ArithmeticUnaryOp, LogicOp, IsLegal, immediate_carries, immediate_records, logic_immediate_records, carry_out, unary_carry, logic_carries, logic_immediate, immediate_row, arithmetic_row, arithmetic_unary_row, logic_row, logic_word}
use Rattle.row_laws.proofs.Changes.{values_in}
use Rattle.row_laws.proofs.Shapes.{immediate_carry, immediate_gives, gives_in_a, arithmetic_carry, arithmetic_gives, arithmetic_unary_carry, arithmetic_unary_gives, logic_carry, logic_gives}
use Rattle.symbolic_tiles.specs.declared.symbolic_op.SymbolicOp.{SymbolicOp}
use Rattle.symbolic_tiles.specs.Prelude.{AreWellFormed, record_ops, IsTileOf, room_of}
use Rattle.symbolic_tiles.proofs.Results.{OpsGive, results_do}

module _ (op : ImmediateOp) (d a imm : ℕ) (legal : IsLegal (Immediate op d a imm)) where
  pub immediate_do : (ops : List SymbolicOp) → AreWellFormed ops → room_of ops ≤ 534 → OpsGive (Immediate op d a imm) d (immediate_carries op) (immediate_records op) (λ g. (immediate_row op a (values_in (Immediate op d a imm) g)).d) (λ g. immediate_carry op (values_in (Immediate op d a imm) g)) (legal.fit.1.0) ops → IsTileOf (Immediate op d a imm) (ops ++ record_ops (immediate_records op))
  immediate_do ops are short run = results_do (Immediate op d a imm) d (immediate_carries op) (immediate_records op) _ _ (legal.fit.1.0) ops legal are short (λ guest g. refl) (λ g. immediate_gives op a (values_in (Immediate op d a imm) g)) run

module _ (op : LogicImmediateOp) (s a imm : ℕ) (legal : IsLegal (LogicImmediate op s a imm)) where
  pub logic_immediate_do : (ops : List SymbolicOp) → AreWellFormed ops → room_of ops ≤ 534 → OpsGive (LogicImmediate op s a imm) a false (logic_immediate_records op) (λ g. logic_immediate op (g.locs s) (logic_word op imm)) (λ g. false) (legal.fit.1.1.0) ops → IsTileOf (LogicImmediate op s a imm) (ops ++ record_ops (logic_immediate_records op))
  logic_immediate_do ops are short run =
      results_do (LogicImmediate op s a imm) a false (logic_immediate_records op) _ _ (legal.fit.1.1.0) ops legal are short (λ guest g. refl) (λ g. gives_in_a (logic_immediate_records op) (logic_immediate op (g.locs s) (logic_word op imm)) (values_in (LogicImmediate op s a imm) g)) run

module _ (op : ArithmeticOp) (d a b : ℕ) (records : Bool) (legal : IsLegal (Arithmetic op d a b records)) where
  pub arithmetic_do : (ops : List SymbolicOp) → AreWellFormed ops → room_of ops ≤ 534 → OpsGive (Arithmetic op d a b records) d (carry_out op) records (λ g. (arithmetic_row op records (values_in (Arithmetic op d a b records) g)).d) (λ g. arithmetic_carry op (values_in (Arithmetic op d a b records) g)) (legal.fit.1.0) ops → IsTileOf (Arithmetic op d a b records) (ops ++ record_ops records)
  arithmetic_do ops are short run = results_do (Arithmetic op d a b records) d (carry_out op) records _ _ (legal.fit.1.0) ops legal are short (λ guest g. refl) (λ g. arithmetic_gives op records (values_in (Arithmetic op d a b records) g)) run

module _ (op : ArithmeticUnaryOp) (d a : ℕ) (records : Bool) (legal : IsLegal (ArithmeticUnary op d a records)) where
  pub unary_do : (ops : List SymbolicOp) → AreWellFormed ops → room_of ops ≤ 534 → OpsGive (ArithmeticUnary op d a records) d (unary_carry op) records (λ g. (arithmetic_unary_row op records (values_in (ArithmeticUnary op d a records) g)).d) (λ g. arithmetic_unary_carry op (values_in (ArithmeticUnary op d a records) g)) (legal.fit.1.0) ops → IsTileOf (ArithmeticUnary op d a records) (ops ++ record_ops records)
  unary_do ops are short run = results_do (ArithmeticUnary op d a records) d (unary_carry op) records _ _ (legal.fit.1.0) ops legal are short (λ guest g. refl) (λ g. arithmetic_unary_gives op records (values_in (ArithmeticUnary op d a records) g)) run

module _ (op : LogicOp) (s a b : ℕ) (records : Bool) (legal : IsLegal (Logic op s a b records)) where
  pub logic_do : (ops : List SymbolicOp) → AreWellFormed ops → room_of ops ≤ 534 → OpsGive (Logic op s a b records) a (logic_carries op) records (λ g. (logic_row op records (values_in (Logic op s a b records) g)).a) (λ g. logic_carry op (values_in (Logic op s a b records) g)) (legal.fit.1.1.0) ops → IsTileOf (Logic op s a b records) (ops ++ record_ops records)
  logic_do ops are short run = results_do (Logic op s a b records) a (logic_carries op) records _ _ (legal.fit.1.1.0) ops legal are short (λ guest g. refl) (λ g. logic_gives op records (values_in (Logic op s a b records) g)) run
