-- Each instruction is a flow word or none, and has a tile.
use Rattle.std.proofs.Common.{◌≡◌, true, false, inl, inr, refl, sym}
use Rattle.std.proofs.lemmas.Bool.{false≢true}
use Rattle.machines.specs.Prelude.{Instr, Branch, BranchConditional, BranchRegister, Trap, TrapImmediate, SystemCall, Load, LoadUpdate, LoadIndexed, LoadIndexedUpdate, Store, StoreUpdate, StoreIndexed, StoreIndexedUpdate, Multiple, IsMap}
use Rattle.row_laws.specs.FlowWords.{is_flow}
use Rattle.base_flow.specs.Prelude.{HasTile}
use Rattle.base_flow.proofs.Tiles.{built_have_tiles}
use Rattle.code_layout.specs.Prelude.{IsBuiltStraight, no_registers}

pub is_map : IsMap no_registers
is_map = record { ebx = tt; esi = tt; edi = tt; ebx_esi = tt; ebx_edi = tt; esi_edi = tt }

-- every instruction that is no flow word has an access or none
pub straight_word : (i : Instr) → is_flow i ≡ false → IsBuiltStraight i
straight_word (Branch target absolute link) e = absurd (false≢true (sym e))
straight_word (BranchConditional bo bi target absolute link) e = absurd (false≢true (sym e))
straight_word (BranchRegister op bo bi link) e = absurd (false≢true (sym e))
straight_word (Trap to a b) e = absurd (false≢true (sym e))
straight_word (TrapImmediate to a imm) e = absurd (false≢true (sym e))
straight_word SystemCall e = absurd (false≢true (sym e))
straight_word (Load op d a imm) e = inr refl
straight_word (LoadUpdate op d a imm) e = inr refl
straight_word (LoadIndexed op d a b) e = inr refl
straight_word (LoadIndexedUpdate op d a b) e = inr refl
straight_word (Store op s a imm) e = inr refl
straight_word (StoreUpdate op s a imm) e = inr refl
straight_word (StoreIndexed op s a b) e = inr refl
straight_word (StoreIndexedUpdate op s a b) e = inr refl
straight_word (Multiple op d a imm) e = inr refl
straight_word _ e = inl tt

pub has_tile : (i : Instr) → is_flow i ≡ true → HasTile i no_registers
has_tile i e = built_have_tiles i no_registers e refl
