-- Where control goes from a code word, as far as the word says: Power ISA Book I, 2.4 (branches). The code words stand one
-- behind another from the address `first` on, and are named by their places, counted from 0.
use Rattle.std.specs.Prelude.{◌≡◌, ℕ, ◌+◌, ◌*◌, IsTrue, List, Option, Some, None, slice_index}
use Rattle.machines.specs.Prelude.{Instr, Branch, BranchConditional, IsWordOf, branch_target}
use Rattle.row_laws.specs.FlowWords.{is_flow}

-- a word with which a block ends: one of the flow words, or an illegal word
pub data IsFlowWord (word : ℕ) : Type 0 where
  legal : (instr : Instr) → IsWordOf word instr → IsTrue (is_flow instr) → IsFlowWord word
  illegal : ((instr : Instr) → ¬ (IsWordOf word instr)) → IsFlowWord word

abbrev pub IsFlow : List ℕ → ℕ → Type 0
IsFlow words k = IsFlowWord (slice_index words k)

-- the address of a code word
abbrev pub address_of : ℕ → ℕ → ℕ
address_of first k = first + 4 * k

-- the address that the instruction at `at` names: b and bc of every kind name their target, and no other names one
abbrev pub named_address : Instr → ℕ → Option ℕ
named_address (Branch field absolute link) at = Some (branch_target 24 field absolute at)
named_address (BranchConditional bo bi field absolute link) at = Some (branch_target 14 field absolute at)
named_address _ at = None

-- code word p is a branch that names code word k
pub record Names (first : ℕ) (words : List ℕ) (p k : ℕ) : Type 0 where
  pub instr : Instr
  pub spelled : IsWordOf (slice_index words p) instr
  pub leads : named_address instr (address_of first p) ≡ Some (address_of first k)
