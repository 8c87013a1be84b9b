-- What a binding at a window says. This project's own.
use Rattle.std.specs.Prelude.{ℕ, zero, suc, ◌-◌, ◌==◌, if◌then◌else◌, Bool, false, List, [], ◌∷◌, slice_index_or}
use Rattle.machines.specs.Prelude.{Instr, Immediate, LogicImmediate, Load, Store, LoadUpdate, StoreUpdate, CompareImmediate, BranchConditional, Op, ebx, esi}
use Rattle.rule_body.specs.declared.rule.Rule.{Rule}
use Rattle.rule_soundness.specs.Prelude.{Match, slot_register, laid_ops}
use Rattle.rule_match.specs.declared.binding.Binding.{Binding}

-- the immediate of 16 bits of an instruction; 0 where it has none
abbrev pub constant_of : Instr → ℕ
constant_of (Immediate op d a imm) = imm
constant_of (LogicImmediate op s a imm) = imm
constant_of (Load op d a imm) = imm
constant_of (Store op s a imm) = imm
constant_of (LoadUpdate op d a imm) = imm
constant_of (StoreUpdate op s a imm) = imm
constant_of (CompareImmediate op field a imm) = imm
constant_of i = 0

-- that of instruction j
abbrev pub constant_at : List Instr → ℕ → ℕ
constant_at [] j = 0
constant_at (i ∷ is) zero = constant_of i
constant_at (i ∷ is) (suc j) = constant_at is j

-- where the last of them leads, by its field, and whether that is an address
abbrev pub target_field : Instr → ℕ
target_field (BranchConditional bo bi target absolute link) = target
target_field i = 0

abbrev pub is_absolute : Instr → Bool
is_absolute (BranchConditional bo bi target absolute link) = absolute
is_absolute i = false

unfoldable pub last_target : List Instr → ℕ
last_target [] = 0
last_target (i ∷ []) = target_field i
last_target (i ∷ j ∷ is) = last_target (j ∷ is)

unfoldable pub last_absolute : List Instr → Bool
last_absolute [] = false
last_absolute (i ∷ []) = is_absolute i
last_absolute (i ∷ j ∷ is) = last_absolute (j ∷ is)

-- the GPR of parameter p
abbrev pub gpr_of : Binding → ℕ → ℕ
gpr_of b p = slice_index_or b.gpr (p - 1) 0

-- the register for ebx, esi or edi of a body: that of the slot in which the first, second or third of the parameters in slots is
abbrev pub register_for : Binding → ℕ → ℕ
register_for b r = slot_register (slice_index_or b.slot (if r == ebx then 0 else if r == esi then 1 else 2) 0)

-- the match of a binding at instructions
abbrev pub match_of : List Instr → Binding → Match
match_of found b = record { gpr = gpr_of b; register = register_for b; constant = constant_at found; target = last_target found; absolute = last_absolute found }

-- the ops of a rule for a binding at instructions
abbrev pub instantiated : Rule → List Instr → Binding → List Op
instantiated rule found b = laid_ops (match_of found b) rule.body
