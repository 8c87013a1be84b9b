-- What a place where a rule is laid gives it. This project's own.
use Rattle.std.specs.Prelude.{◌≡◌, ◌≢◌, ℕ, ◌+◌, ◌*◌, ◌-◌, ◌%◌, ◌^◌, ◌<◌, ◌==◌, if◌then◌else◌, Bool, true, false, List, take, length, slice_get, Option, Some, None}
use Rattle.machines.specs.Prelude.{Instr, Immediate, Load, Store, LoadIndexed, StoreIndexed, Addi, Addis, Map, ebx, esi, edi}
use Rattle.reg_map.specs.Prelude.{slot_of}
use Rattle.rule_body.specs.Prelude.{slot_count}

-- What a rule leaves open and a place settles: the GPR of each parameter, the register that stands for each of ebx, esi and
-- edi of the body, the constant of each free word, and where a last branch leads.
pub record Match : Type 0 where
  pub gpr : ℕ → ℕ
  pub register : ℕ → ℕ
  pub constant : ℕ → ℕ
  pub target : ℕ
  pub absolute : Bool

-- ebx, esi and edi, in this order
abbrev pub slot_register : ℕ → ℕ
slot_register n = if n == 0 then ebx else if n == 1 then esi else edi

-- the register of parameter k + 1 in a body: the parameters in slots have ebx, esi and edi, in order
abbrev pub body_slot : List Bool → ℕ → ℕ
body_slot slots k = slot_register (slot_count (take k slots))

-- the field in which 0 names the number 0, and no register (Power ISA Book I, 1.3.2)
abbrev pub base_field : Instr → Option ℕ
base_field (Immediate Addi d a imm) = Some a
base_field (Immediate Addis d a imm) = Some a
base_field (Load op d a imm) = Some a
base_field (Store op s a imm) = Some a
base_field (LoadIndexed op d a b) = Some a
base_field (StoreIndexed op s a b) = Some a
base_field _ = None

-- A rule with these slots and words can be laid so, under a map. Parameter k + 1 is a GPR, and no two are the same; in the place
-- of a base it isn't GPR 0. Those that stand in slots are in the registers of the match, the others are at home. A constant
-- has 16 bits.
pub record IsMatch (slots : List Bool) (words : List Instr) (map : Map) (m : Match) : Type 0 where
  pub gprs : (k : ℕ) → k < length slots → m.gpr (k + 1) < 32
  pub apart : (j k : ℕ) → j < length slots → k < length slots → m.gpr (j + 1) ≡ m.gpr (k + 1) → j ≡ k
  pub bases : (k j : ℕ) (i : Instr) → slice_get words j ≡ Some i → k < length slots → base_field i ≡ Some (k + 1) → m.gpr (k + 1) ≢ 0
  pub in_slots : (k : ℕ) → slice_get slots k ≡ Some true → slot_of map (m.gpr (k + 1)) ≡ Some (m.register (body_slot slots k))
  pub at_home : (k : ℕ) → slice_get slots k ≡ Some false → slot_of map (m.gpr (k + 1)) ≡ None
  pub constants : (j : ℕ) → m.constant j < 2 ^ 16
