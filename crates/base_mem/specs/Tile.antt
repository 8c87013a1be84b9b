-- The tile of each instruction with an access (this project's own): ops that do to the places of its locations, under any
-- register map, and to the guest's memory, what the instruction does to the locations and the memory.
use Rattle.std.specs.Prelude.{Bool, ◌≡◌, ◌-◌, true, false, List, [], ◌++◌, ◌==◌}
use Rattle.machines.specs.Prelude.{Map, Instr, Lmw, Stmw, Op}
use Rattle.symbolic_tiles.specs.declared.symbolic_op.SymbolicOp.{SymbolicOp}
use Rattle.symbolic_tiles.specs.Prelude.{ops_of}
use Rattle.ppc_isa.specs.declared.instr.Instr.TheVariants as instr
use Rattle.base_mem.specs.Addresses.{immediate_address, indexed_address}
use Rattle.base_mem.specs.Loads.{load_ops, load_update_ops, load_indexed_ops, load_indexed_update_ops, put_ops}
use Rattle.base_mem.specs.Stores.{store_ops, store_update_ops, store_indexed_ops, store_indexed_update_ops, update_ops}
use Rattle.base_mem.specs.Multiple.{lmw_ops, stmw_ops}

-- the instructions with an access to memory
abbrev pub has_access : Instr → Bool
has_access (instr.Load op d a imm) = true
has_access (instr.LoadUpdate op d a imm) = true
has_access (instr.LoadIndexed op d a b) = true
has_access (instr.LoadIndexedUpdate op d a b) = true
has_access (instr.Store op s a imm) = true
has_access (instr.StoreUpdate op s a imm) = true
has_access (instr.StoreIndexed op s a b) = true
has_access (instr.StoreIndexedUpdate op s a b) = true
has_access (instr.Multiple op d a imm) = true
has_access _ = false

abbrev pub IsBuilt : Instr → Type 0
IsBuilt i = has_access i ≡ true

-- Their tiles, told without a map: the address, the access, and what is put into registers.
abbrev pub symbolic_tile : Instr → List SymbolicOp
symbolic_tile (instr.Load op d a imm) = immediate_address (a == 0) a imm ++ (load_ops op ++ put_ops false d a)
symbolic_tile (instr.LoadUpdate op d a imm) = immediate_address false a imm ++ (load_update_ops op ++ put_ops true d a)
symbolic_tile (instr.LoadIndexed op d a b) = indexed_address (a == 0) a b ++ (load_indexed_ops op ++ put_ops false d a)
symbolic_tile (instr.LoadIndexedUpdate op d a b) = indexed_address false a b ++ (load_indexed_update_ops op ++ put_ops true d a)
symbolic_tile (instr.Store op s a imm) = immediate_address (a == 0) a imm ++ (store_ops op s ++ update_ops false a)
symbolic_tile (instr.StoreUpdate op s a imm) = immediate_address false a imm ++ (store_update_ops op s ++ update_ops true a)
symbolic_tile (instr.StoreIndexed op s a b) = indexed_address (a == 0) a b ++ (store_indexed_ops op s ++ update_ops false a)
symbolic_tile (instr.StoreIndexedUpdate op s a b) = indexed_address false a b ++ (store_indexed_update_ops op s ++ update_ops true a)
symbolic_tile (instr.Multiple Lmw d a imm) = immediate_address (a == 0) a imm ++ lmw_ops (32 - d) d
symbolic_tile (instr.Multiple Stmw s a imm) = immediate_address (a == 0) a imm ++ stmw_ops (32 - s) s
symbolic_tile _ = []

-- their ops under a map
abbrev pub tile : Instr → Map → List Op
tile i m = ops_of (symbolic_tile i) m
