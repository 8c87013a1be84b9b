-- An instruction depends on what it reads, by the shape of its row.
use Rattle.std.proofs.Common.{◌≡◌, ℕ, ◌+◌, ◌-◌, ◌*◌, ◌/◌, ◌<◌, ◌==◌, Bool, true, false, cond, List, [], ◌∷◌, ◌++◌, refl, sym, ap, ◌∙◌, subst, arith}
use Rattle.machines.specs.Prelude.{Trap as Trapped, Goes, Ends, bit_of, IsLegal, bo_0, bo_2, when, count, condition, special, registers_from, chosen_fields, target_of, immediate_operand, immediate_carries, immediate_records, logic_immediate_records, rotate_operands, carry_in, carry_out, unary_carry, logic_carries, locations_read, locations_written, place, cr_bit, cr_logic, loses_ones, arith_by, logic_immediate, trap_holds, load_row, load_update_row, load_indexed_row, load_indexed_update_row, update, store_big, Rights, Guest, guest_values, effect_of, guest_acts, at_next, cr_word, xer_word, put_cr, put_loaded, store_registers, results, put_special, register_target, branch_target, Instr, Immediate, LogicImmediate, Load, Store, LoadUpdate, StoreUpdate, Multiple, TrapImmediate, CompareImmediate, Rotate, Branch, BranchConditional, SystemCall, Arithmetic, ArithmeticUnary, Logic, ShiftImmediate, LogicUnary, Compare, Trap, MoveFromCr, MoveToCr, MoveFromSpr, MoveToSpr, Sync, LoadIndexed, StoreIndexed, LoadIndexedUpdate, StoreIndexedUpdate, MoveCrField, CrLogic, Isync, BranchRegister, ImmediateOp, LogicImmediateOp, LoadOp, StoreOp, LoadUpdateOp, StoreUpdateOp, LoadIndexedOp, StoreIndexedOp, LoadIndexedUpdateOp, StoreIndexedUpdateOp, RotateOp, ArithmeticOp, ArithmeticUnaryOp, LogicOp, LogicUnaryOp, CrLogicOp, Lmw, Stmw, CompareImmediateOp, Cmpi, Cmpli, CompareOp, Cmp, Cmpl, BranchRegisterOp, Bclr, Bcctr}
use Rattle.ppc_isa.specs.Locations.{base}
use Rattle.ppc_isa.specs.SumRows.{base as base_value}
use Rattle.row_laws.specs.Laws.{Alike, AreSame, DependsOnItsReadsAlone}
use Rattle.row_laws.proofs.Fields.{InRange}
use Rattle.row_laws.proofs.Lists.{SameIn, same_first, same_later, same_left, same_right, same_when, in_none, registers_in}
use Rattle.row_laws.proofs.Shapes.{shifts, gives_in_a, immediate_carry, arithmetic_carry, arithmetic_unary_carry, logic_carry, immediate_gives, arithmetic_gives, arithmetic_unary_gives, logic_gives, logic_unary_gives}
use Rattle.row_laws.proofs.Numbers.{both, base_same, immediate_number, immediate_carry_same, arithmetic_number, arithmetic_carry_same, arithmetic_unary_number, arithmetic_unary_carry_same, logic_number, logic_carry_same, logic_unary_number, rotate_number}
use Rattle.row_laws.proofs.Accesses.{SameAccess, loaded_same, stored_same, address_same, load_access, load_number, load_update_access, load_update_number, load_update_base, load_indexed_access, load_indexed_number, load_indexed_update_access, load_indexed_update_number, load_indexed_update_base, store_access, store_update_access, store_update_base, store_indexed_access, store_indexed_update_access, store_indexed_update_base, registers_same}
use Rattle.row_laws.proofs.Same.{state, alike_cond, one_same, two_same, compared_same, field_same, bit_same, bit_put_same, so_same, ca_same, results_same, loading_same, storing_same, loaded_alike, fields_same, cr_same, special_read, special_same, linked_same, branching_same, call_same}
use Rattle.row_laws.proofs.Changes.{values_in}

-- two states with the same next instruction and the same memory, which agree in what the instruction reads
abbrev Depends : Instr → Type 0
Depends i =
    (rights : Rights) (p q : ℕ → ℕ) (next : ℕ) (bytes : ℕ → ℕ) → IsLegal i → InRange p → InRange q → SameIn (locations_read i) p q →
    Alike (AreSame (locations_written i)) (guest_acts rights i (effect_of i (state p next bytes)) (state p next bytes)) (guest_acts rights i (effect_of i (state q next bytes)) (state q next bytes))

going : (written : List ℕ) (f h p q : ℕ → ℕ) (next : ℕ) (bytes : ℕ → ℕ) → SameIn written f h → AreSame written (at_next f (state p next bytes)) (at_next h (state q next bytes))
going written f h p q next bytes s = record { locs = s; next = refl; bytes = refl }

trapping : (b c : Bool) (p q : ℕ → ℕ) (next : ℕ) (bytes : ℕ → ℕ) → b ≡ c →
    Alike (AreSame []) (cond b (Ends Trapped) (Goes (at_next p (state p next bytes)))) (cond c (Ends Trapped) (Goes (at_next q (state q next bytes))))
trapping b c p q next bytes e = alike_cond (AreSame []) b c (Ends Trapped) (Ends Trapped) (Goes (at_next p (state p next bytes))) (Goes (at_next q (state q next bytes))) e refl (going [] p q p q next bytes (in_none p q))

so_when : (records : Bool) (p q : ℕ → ℕ) → InRange p → InRange q → SameIn (when records 43) p q → records ≡ true → bit_of (xer_word p) 31 ≡ bit_of (xer_word q) 31
so_when records p q fp fq s r = so_same p q fp fq (same_when records 43 p q s r)

ca_when : (adds : Bool) (p q : ℕ → ℕ) → InRange p → InRange q → SameIn (when adds 42) p q → adds ≡ true → bit_of (xer_word p) 29 ≡ bit_of (xer_word q) 29
ca_when adds p q fp fq s r = ca_same p q fp fq (same_when adds 42 p q s r)

immediate : (op : ImmediateOp) (d a imm : ℕ) → Depends (Immediate op d a imm)
immediate op d a imm rights p q next bytes legal fp fq s =
    let i = Immediate op d a imm in
    let e = effect_of i (state p next bytes) in let f = effect_of i (state q next bytes) in
    let v = values_in i (state p next bytes) in let w = values_in i (state q next bytes) in
    let operand = same_left (immediate_operand op a) (when (immediate_records op) 43) p q s in
    let n = immediate_number op d a imm v.loaded w.loaded p q operand in
    going (locations_written i) (results (immediate_carries op) (immediate_records op) d e.d e p) (results (immediate_carries op) (immediate_records op) d f.d f q) p q next bytes
    (results_same (immediate_carries op) (immediate_records op) d e.d f.d e.d f.d (immediate_carry op v) (immediate_carry op w) e f v w p q legal.fit.1.0 n n
    (immediate_carry_same op d a imm v.loaded w.loaded p q operand) (so_when (immediate_records op) p q fp fq (same_right (immediate_operand op a) (when (immediate_records op) 43) p q s))
    (immediate_gives op a v) (immediate_gives op a w))

logic_immediates : (op : LogicImmediateOp) (s a imm : ℕ) → Depends (LogicImmediate op s a imm)
logic_immediates op s a imm rights p q next bytes legal fp fq h =
    let i = LogicImmediate op s a imm in
    let e = effect_of i (state p next bytes) in let f = effect_of i (state q next bytes) in
    let v = values_in i (state p next bytes) in let w = values_in i (state q next bytes) in
    let r = logic_immediate_records op in
    let n : e.a ≡ f.a = ap (λ x. logic_immediate op x v.b) (same_first s (when r 43) p q h) in
    going (locations_written i) (results false r a e.a e p) (results false r a f.a f q) p q next bytes
    (results_same false r a e.a f.a e.a f.a false false e f v w p q legal.fit.1.1.0 n n refl (so_when r p q fp fq (same_later s (when r 43) p q h))
    (gives_in_a r e.a v) (gives_in_a r f.a w))

rotates : (op : RotateOp) (s a by mask_begin mask_end : ℕ) (records : Bool) → Depends (Rotate op s a by mask_begin mask_end records)
rotates op s a by mask_begin mask_end records rights p q next bytes legal fp fq h =
    let i = Rotate op s a by mask_begin mask_end records in
    let e = effect_of i (state p next bytes) in let f = effect_of i (state q next bytes) in
    let v = values_in i (state p next bytes) in let w = values_in i (state q next bytes) in
    let n : e.a ≡ f.a = rotate_number op s a by mask_begin mask_end v.loaded w.loaded records p q (same_left (rotate_operands op s a by) (when records 43) p q h) in
    going (locations_written i) (results false records a e.a e p) (results false records a f.a f q) p q next bytes
    (results_same false records a e.a f.a e.a f.a false false e f v w p q legal.fit.1.1.0 n n refl (so_when records p q fp fq (same_right (rotate_operands op s a by) (when records 43) p q h))
    (gives_in_a records e.a v) (gives_in_a records f.a w))

arithmetic : (op : ArithmeticOp) (d a b : ℕ) (records : Bool) → Depends (Arithmetic op d a b records)
arithmetic op d a b records rights p q next bytes legal fp fq h =
    let i = Arithmetic op d a b records in
    let e = effect_of i (state p next bytes) in let f = effect_of i (state q next bytes) in
    let v = values_in i (state p next bytes) in let w = values_in i (state q next bytes) in
    let flags = when (carry_in op) 42 ++ when records 43 in
    let x = same_first a (b ∷ flags) p q h in
    let later = same_later a (b ∷ flags) p q h in
    let y = same_first b flags p q later in
    let rest = same_later b flags p q later in
    let c = ca_when (carry_in op) p q fp fq (same_left (when (carry_in op) 42) (when records 43) p q rest) in
    let n = arithmetic_number op records v w x y c in
    going (locations_written i) (results (carry_out op) records d e.d e p) (results (carry_out op) records d f.d f q) p q next bytes
    (results_same (carry_out op) records d e.d f.d e.d f.d (arithmetic_carry op v) (arithmetic_carry op w) e f v w p q legal.fit.1.0 n n (arithmetic_carry_same op v w x y c)
    (so_when records p q fp fq (same_right (when (carry_in op) 42) (when records 43) p q rest)) (arithmetic_gives op records v) (arithmetic_gives op records w))

arithmetic_unary : (op : ArithmeticUnaryOp) (d a : ℕ) (records : Bool) → Depends (ArithmeticUnary op d a records)
arithmetic_unary op d a records rights p q next bytes legal fp fq h =
    let i = ArithmeticUnary op d a records in
    let e = effect_of i (state p next bytes) in let f = effect_of i (state q next bytes) in
    let v = values_in i (state p next bytes) in let w = values_in i (state q next bytes) in
    let flags = when (unary_carry op) 42 ++ when records 43 in
    let x = same_first a flags p q h in
    let rest = same_later a flags p q h in
    let c = ca_when (unary_carry op) p q fp fq (same_left (when (unary_carry op) 42) (when records 43) p q rest) in
    let n = arithmetic_unary_number op records v w x c in
    going (locations_written i) (results (unary_carry op) records d e.d e p) (results (unary_carry op) records d f.d f q) p q next bytes
    (results_same (unary_carry op) records d e.d f.d e.d f.d (arithmetic_unary_carry op v) (arithmetic_unary_carry op w) e f v w p q legal.fit.1.0 n n (arithmetic_unary_carry_same op v w x c)
    (so_when records p q fp fq (same_right (when (unary_carry op) 42) (when records 43) p q rest)) (arithmetic_unary_gives op records v) (arithmetic_unary_gives op records w))

logic : (op : LogicOp) (s a b : ℕ) (records : Bool) → Depends (Logic op s a b records)
logic op s a b records rights p q next bytes legal fp fq h =
    let i = Logic op s a b records in
    let e = effect_of i (state p next bytes) in let f = effect_of i (state q next bytes) in
    let v = values_in i (state p next bytes) in let w = values_in i (state q next bytes) in
    let x = same_first s (b ∷ when records 43) p q h in
    let later = same_later s (b ∷ when records 43) p q h in
    let y = same_first b (when records 43) p q later in
    let n = logic_number op records v w x y in
    going (locations_written i) (results (logic_carries op) records a e.a e p) (results (logic_carries op) records a f.a f q) p q next bytes
    (results_same (logic_carries op) records a e.a f.a e.a f.a (logic_carry op v) (logic_carry op w) e f v w p q legal.fit.1.1.0 n n (logic_carry_same op v w x y)
    (so_when records p q fp fq (same_later b (when records 43) p q later)) (logic_gives op records v) (logic_gives op records w))

shift_immediate : (s a by : ℕ) (records : Bool) → Depends (ShiftImmediate s a by records)
shift_immediate s a by records rights p q next bytes legal fp fq h =
    let i = ShiftImmediate s a by records in
    let e = effect_of i (state p next bytes) in let f = effect_of i (state q next bytes) in
    let v = values_in i (state p next bytes) in let w = values_in i (state q next bytes) in
    let x = same_first s (when records 43) p q h in
    let n : e.a ≡ f.a = ap (λ y. arith_by y by) x in
    going (locations_written i) (results true records a e.a e p) (results true records a f.a f q) p q next bytes
    (results_same true records a e.a f.a e.a f.a (loses_ones v.s by) (loses_ones w.s by) e f v w p q legal.fit.1.1.0 n n (ap (λ y. loses_ones y by) x)
    (so_when records p q fp fq (same_later s (when records 43) p q h)) (shifts records by v) (shifts records by w))

logic_unary : (op : LogicUnaryOp) (s a : ℕ) (records : Bool) → Depends (LogicUnary op s a records)
logic_unary op s a records rights p q next bytes legal fp fq h =
    let i = LogicUnary op s a records in
    let e = effect_of i (state p next bytes) in let f = effect_of i (state q next bytes) in
    let v = values_in i (state p next bytes) in let w = values_in i (state q next bytes) in
    let n = logic_unary_number op records v w (same_first s (when records 43) p q h) in
    going (locations_written i) (results false records a e.a e p) (results false records a f.a f q) p q next bytes
    (results_same false records a e.a f.a e.a f.a false false e f v w p q legal.fit.1.1.0 n n refl
    (so_when records p q fp fq (same_later s (when records 43) p q h)) (logic_unary_gives op records v) (logic_unary_gives op records w))

load : (op : LoadOp) (d a imm : ℕ) → Depends (Load op d a imm)
load op d a imm rights p q next bytes legal fp fq h =
    let i = Load op d a imm in
    let e = effect_of i (state p next bytes) in let f = effect_of i (state q next bytes) in
    let v = values_in i (state p next bytes) in let w = values_in i (state q next bytes) in
    let v0 = guest_values i 0 p in let w0 = guest_values i 0 q in
    let x = base_same a p q h in
    let l = loaded_same (load_row op a v0) (load_row op a w0) bytes (load_access op a v0 w0 x refl) in
    loading_same (d ∷ []) rights e f (update p d e.d) (update q d f.d) p q next bytes (load_access op a v w x refl) (one_same d e.d f.d p q (load_number op a v w l))

load_update : (op : LoadUpdateOp) (d a imm : ℕ) → Depends (LoadUpdate op d a imm)
load_update op d a imm rights p q next bytes legal fp fq h =
    let i = LoadUpdate op d a imm in
    let e = effect_of i (state p next bytes) in let f = effect_of i (state q next bytes) in
    let v = values_in i (state p next bytes) in let w = values_in i (state q next bytes) in
    let v0 = guest_values i 0 p in let w0 = guest_values i 0 q in
    let x = same_first a [] p q h in
    let l = loaded_same (load_update_row op v0) (load_update_row op w0) bytes (load_update_access op v0 w0 x refl) in
    loading_same (d ∷ a ∷ []) rights e f (update (update p d e.d) a e.a) (update (update q d f.d) a f.a) p q next bytes (load_update_access op v w x refl)
    (two_same d a e.d e.a f.d f.a p q (load_update_number op v w l) (load_update_base op v w x refl))

load_indexed : (op : LoadIndexedOp) (d a b : ℕ) → Depends (LoadIndexed op d a b)
load_indexed op d a b rights p q next bytes legal fp fq h =
    let i = LoadIndexed op d a b in
    let e = effect_of i (state p next bytes) in let f = effect_of i (state q next bytes) in
    let v = values_in i (state p next bytes) in let w = values_in i (state q next bytes) in
    let v0 = guest_values i 0 p in let w0 = guest_values i 0 q in
    let y = same_first b (base a) p q h in
    let x = base_same a p q (same_later b (base a) p q h) in
    let l = loaded_same (load_indexed_row op a v0) (load_indexed_row op a w0) bytes (load_indexed_access op a v0 w0 x y) in
    loading_same (d ∷ []) rights e f (update p d e.d) (update q d f.d) p q next bytes (load_indexed_access op a v w x y) (one_same d e.d f.d p q (load_indexed_number op a v w l))

load_indexed_update : (op : LoadIndexedUpdateOp) (d a b : ℕ) → Depends (LoadIndexedUpdate op d a b)
load_indexed_update op d a b rights p q next bytes legal fp fq h =
    let i = LoadIndexedUpdate op d a b in
    let e = effect_of i (state p next bytes) in let f = effect_of i (state q next bytes) in
    let v = values_in i (state p next bytes) in let w = values_in i (state q next bytes) in
    let v0 = guest_values i 0 p in let w0 = guest_values i 0 q in
    let x = same_first a (b ∷ []) p q h in
    let y = same_first b [] p q (same_later a (b ∷ []) p q h) in
    let l = loaded_same (load_indexed_update_row op v0) (load_indexed_update_row op w0) bytes (load_indexed_update_access op v0 w0 x y) in
    loading_same (d ∷ a ∷ []) rights e f (update (update p d e.d) a e.a) (update (update q d f.d) a f.a) p q next bytes (load_indexed_update_access op v w x y)
    (two_same d a e.d e.a f.d f.a p q (load_indexed_update_number op v w l) (load_indexed_update_base op v w x y))

store : (op : StoreOp) (s a imm : ℕ) → Depends (Store op s a imm)
store op s a imm rights p q next bytes legal fp fq h =
    let i = Store op s a imm in
    let e = effect_of i (state p next bytes) in let f = effect_of i (state q next bytes) in
    let v = values_in i (state p next bytes) in let w = values_in i (state q next bytes) in
    let access = store_access op a v w (base_same a p q (same_later s (base a) p q h)) refl (same_first s (base a) p q h) in
    storing_same [] rights e f (store_big e.width e.address e.stored bytes) (store_big f.width f.address f.stored bytes) p q p q next bytes access (stored_same e f bytes access) (in_none p q)

store_update : (op : StoreUpdateOp) (s a imm : ℕ) → Depends (StoreUpdate op s a imm)
store_update op s a imm rights p q next bytes legal fp fq h =
    let i = StoreUpdate op s a imm in
    let e = effect_of i (state p next bytes) in let f = effect_of i (state q next bytes) in
    let v = values_in i (state p next bytes) in let w = values_in i (state q next bytes) in
    let x = same_first a [] p q (same_later s (a ∷ []) p q h) in
    let access = store_update_access op v w x refl (same_first s (a ∷ []) p q h) in
    storing_same (a ∷ []) rights e f (store_big e.width e.address e.stored bytes) (store_big f.width f.address f.stored bytes) (update p a e.a) (update q a f.a) p q next bytes access (stored_same e f bytes access)
    (one_same a e.a f.a p q (store_update_base op v w x refl))

store_indexed : (op : StoreIndexedOp) (s a b : ℕ) → Depends (StoreIndexed op s a b)
store_indexed op s a b rights p q next bytes legal fp fq h =
    let i = StoreIndexed op s a b in
    let e = effect_of i (state p next bytes) in let f = effect_of i (state q next bytes) in
    let v = values_in i (state p next bytes) in let w = values_in i (state q next bytes) in
    let later = same_later s (b ∷ base a) p q h in
    let access = store_indexed_access op a v w (base_same a p q (same_later b (base a) p q later)) (same_first b (base a) p q later) (same_first s (b ∷ base a) p q h) in
    storing_same [] rights e f (store_big e.width e.address e.stored bytes) (store_big f.width f.address f.stored bytes) p q p q next bytes access (stored_same e f bytes access) (in_none p q)

store_indexed_update : (op : StoreIndexedUpdateOp) (s a b : ℕ) → Depends (StoreIndexedUpdate op s a b)
store_indexed_update op s a b rights p q next bytes legal fp fq h =
    let i = StoreIndexedUpdate op s a b in
    let e = effect_of i (state p next bytes) in let f = effect_of i (state q next bytes) in
    let v = values_in i (state p next bytes) in let w = values_in i (state q next bytes) in
    let later = same_later s (a ∷ b ∷ []) p q h in
    let x = same_first a (b ∷ []) p q later in
    let y = same_first b [] p q (same_later a (b ∷ []) p q later) in
    let access = store_indexed_update_access op v w x y (same_first s (a ∷ b ∷ []) p q h) in
    storing_same (a ∷ []) rights e f (store_big e.width e.address e.stored bytes) (store_big f.width f.address f.stored bytes) (update p a e.a) (update q a f.a) p q next bytes access (stored_same e f bytes access)
    (one_same a e.a f.a p q (store_indexed_update_base op v w x y))

load_multiple : (d a imm : ℕ) → Depends (Multiple Lmw d a imm)
load_multiple d a imm rights p q next bytes legal fp fq h =
    let i = Multiple Lmw d a imm in
    let e = effect_of i (state p next bytes) in let f = effect_of i (state q next bytes) in
    let v = values_in i (state p next bytes) in let w = values_in i (state q next bytes) in
    let access : SameAccess e f = record { address = address_same (base_value a v) (base_value a w) v w (base_same a p q h) refl; stored = refl; width = refl; kind = refl } in
    loading_same (registers_from d) rights e f (put_loaded d e.address bytes p) (put_loaded d f.address bytes q) p q next bytes access (loaded_alike d e.address f.address bytes p q legal.fit.1.0 access.address)

store_multiple : (s a imm : ℕ) → Depends (Multiple Stmw s a imm)
store_multiple s a imm rights p q next bytes legal fp fq h =
    let i = Multiple Stmw s a imm in
    let e = effect_of i (state p next bytes) in let f = effect_of i (state q next bytes) in
    let v = values_in i (state p next bytes) in let w = values_in i (state q next bytes) in
    let lt : s < 32 = legal.fit.1.0 in
    let x = base_same a p q (same_right (registers_from s) (base a) p q h) in
    let access : SameAccess e f = record { address = address_same (base_value a v) (base_value a w) v w x refl; stored = refl; width = refl; kind = refl } in
    storing_same [] rights e f (store_registers (32 - s) s e.address p bytes) (store_registers (32 - s) s f.address q bytes) p q p q next bytes access
    (registers_same (32 - s) s e.address p q bytes (λ x le below. same_left (registers_from s) (base a) p q h x (registers_in s x le (omega arith))) ∙ ap (λ n. store_registers (32 - s) s n q bytes) access.address)
    (in_none p q)

compare_immediate : (op : CompareImmediateOp) (field a imm : ℕ) → Depends (CompareImmediate op field a imm)
compare_immediate op field a imm rights p q next bytes legal fp fq h =
    going ((34 + field) ∷ []) (put_cr (effect_of i (state p next bytes)).cr p) (put_cr (effect_of i (state q next bytes)).cr q) p q next bytes
    (by_op op (same_first a (43 ∷ []) p q h) (so_same p q fp fq (same_first 43 [] p q (same_later a (43 ∷ []) p q h))))
  where
    i : Instr
    i = CompareImmediate op field a imm

    by_op : (op : CompareImmediateOp) → p a ≡ q a → bit_of (xer_word p) 31 ≡ bit_of (xer_word q) 31 →
        SameIn ((34 + field) ∷ []) (put_cr (effect_of (CompareImmediate op field a imm) (state p next bytes)).cr p) (put_cr (effect_of (CompareImmediate op field a imm) (state q next bytes)).cr q)
    by_op Cmpi x s = let v = values_in (CompareImmediate Cmpi field a imm) (state p next bytes) in let w = values_in (CompareImmediate Cmpi field a imm) (state q next bytes) in compared_same true field v.a v.b w.a w.b v w p q legal.fit.1.0 x refl s
    by_op Cmpli x s = let v = values_in (CompareImmediate Cmpli field a imm) (state p next bytes) in let w = values_in (CompareImmediate Cmpli field a imm) (state q next bytes) in compared_same false field v.a v.b w.a w.b v w p q legal.fit.1.0 x refl s

compare : (op : CompareOp) (field a b : ℕ) → Depends (Compare op field a b)
compare op field a b rights p q next bytes legal fp fq h =
    let later = same_later a (b ∷ 43 ∷ []) p q h in
    going ((34 + field) ∷ []) (put_cr (effect_of i (state p next bytes)).cr p) (put_cr (effect_of i (state q next bytes)).cr q) p q next bytes
    (by_op op (same_first a (b ∷ 43 ∷ []) p q h) (same_first b (43 ∷ []) p q later) (so_same p q fp fq (same_first 43 [] p q (same_later b (43 ∷ []) p q later))))
  where
    i : Instr
    i = Compare op field a b

    by_op : (op : CompareOp) → p a ≡ q a → p b ≡ q b → bit_of (xer_word p) 31 ≡ bit_of (xer_word q) 31 →
        SameIn ((34 + field) ∷ []) (put_cr (effect_of (Compare op field a b) (state p next bytes)).cr p) (put_cr (effect_of (Compare op field a b) (state q next bytes)).cr q)
    by_op Cmp x y s = let v = values_in (Compare Cmp field a b) (state p next bytes) in let w = values_in (Compare Cmp field a b) (state q next bytes) in compared_same true field v.a v.b w.a w.b v w p q legal.fit.1.0 x y s
    by_op Cmpl x y s = let v = values_in (Compare Cmpl field a b) (state p next bytes) in let w = values_in (Compare Cmpl field a b) (state q next bytes) in compared_same false field v.a v.b w.a w.b v w p q legal.fit.1.0 x y s

branch_conditional : (bo bi target : ℕ) (absolute link : Bool) → Depends (BranchConditional bo bi target absolute link)
branch_conditional bo bi target absolute link rights p q next bytes legal fp fq h =
    let i = BranchConditional bo bi target absolute link in
    let v = values_in i (state p next bytes) in let w = values_in i (state q next bytes) in
    let t = branch_target 14 target absolute next in
    branching_same bo bi link t t v w p q next bytes refl
    (λ c. same_when (bo_2 bo == 0) 33 p q (same_right (condition bo bi) (count bo) p q h) c)
    (λ c. bit_same bi p q legal.fit.1.1.0 fp fq (same_when (bo_0 bo == 0) (34 + bi / 4) p q (same_left (condition bo bi) (count bo) p q h) c))

branch_register : (op : BranchRegisterOp) (bo bi : ℕ) (link : Bool) → Depends (BranchRegister op bo bi link)
branch_register op bo bi link rights p q next bytes legal fp fq h =
    let i = BranchRegister op bo bi link in
    let v = values_in i (state p next bytes) in let w = values_in i (state q next bytes) in
    let rest = same_later (target_of op) (condition bo bi ++ count bo) p q h in
    branching_same bo bi link (register_target op p) (register_target op q) v w p q next bytes (targets op (same_first (target_of op) (condition bo bi ++ count bo) p q h))
    (λ c. same_when (bo_2 bo == 0) 33 p q (same_right (condition bo bi) (count bo) p q rest) c)
    (λ c. bit_same bi p q legal.fit.1.1.0 fp fq (same_when (bo_0 bo == 0) (34 + bi / 4) p q (same_left (condition bo bi) (count bo) p q rest) c))
  where
    targets : (op : BranchRegisterOp) → p (target_of op) ≡ q (target_of op) → register_target op p ≡ register_target op q
    targets Bclr e = ap (λ n. 4 * (n / 4)) e
    targets Bcctr e = ap (λ n. 4 * (n / 4)) e

move_cr_field : (to from : ℕ) → Depends (MoveCrField to from)
move_cr_field to from rights p q next bytes legal fp fq h =
    let i = MoveCrField to from in
    let v = values_in i (state p next bytes) in let w = values_in i (state q next bytes) in
    going ((34 + to) ∷ []) (put_cr (effect_of i (state p next bytes)).cr p) (put_cr (effect_of i (state q next bytes)).cr q) p q next bytes
    (field_same to v.cr w.cr (cr_bit (4 * from) v) (cr_bit (4 * from + 1) v) (cr_bit (4 * from + 2) v) (cr_bit (4 * from + 3) v)
    (cr_bit (4 * from) w) (cr_bit (4 * from + 1) w) (cr_bit (4 * from + 2) w) (cr_bit (4 * from + 3) w) p q legal.fit.1.0
    (bit 0 (4 * from) (omega arith) (omega arith)) (bit 1 (4 * from + 1) (omega arith) (omega arith)) (bit 2 (4 * from + 2) (omega arith) (omega arith)) (bit 3 (4 * from + 3) (omega arith) (omega arith)))
  where
    below : from < 8
    below = legal.fit.1.1.1.0

    bit : (j n : ℕ) → n ≡ 4 * from + j → j < 4 → bit_of (cr_word p) (place n) ≡ bit_of (cr_word q) (place n)
    bit j n e lt =
        let k : n / 4 ≡ from = omega arith in
        bit_same n p q (omega (arith, below)) fp fq (ap (λ m. p (34 + m)) k ∙ same_first (34 + from) [] p q h ∙ sym (ap (λ m. q (34 + m)) k))

cr_logics : (op : CrLogicOp) (d a b : ℕ) → Depends (CrLogic op d a b)
cr_logics op d a b rights p q next bytes legal fp fq h =
    let i = CrLogic op d a b in
    let v = values_in i (state p next bytes) in let w = values_in i (state q next bytes) in
    let later = same_later (34 + a / 4) ((34 + b / 4) ∷ (34 + d / 4) ∷ []) p q h in
    let x : cr_bit a v ≡ cr_bit a w = bit_same a p q legal.fit.1.1.0 fp fq (same_first (34 + a / 4) ((34 + b / 4) ∷ (34 + d / 4) ∷ []) p q h) in
    let y : cr_bit b v ≡ cr_bit b w = bit_same b p q legal.fit.1.1.1.0 fp fq (same_first (34 + b / 4) ((34 + d / 4) ∷ []) p q later) in
    let z = same_first (34 + d / 4) [] p q (same_later (34 + b / 4) ((34 + d / 4) ∷ []) p q later) in
    going ((34 + d / 4) ∷ []) (put_cr (effect_of i (state p next bytes)).cr p) (put_cr (effect_of i (state q next bytes)).cr q) p q next bytes
    (bit_put_same d (cr_logic op (cr_bit a v) (cr_bit b v)) (cr_logic op (cr_bit a w) (cr_bit b w)) p q legal.fit.1.0 fp fq (ap (λ c. cr_logic op c (cr_bit b v)) x ∙ ap (λ c. cr_logic op (cr_bit a w) c) y) z)

each : (i : Instr) → Depends i
each (Immediate op d a imm) = immediate op d a imm
each (LogicImmediate op s a imm) = logic_immediates op s a imm
each (Load op d a imm) = load op d a imm
each (Store op s a imm) = store op s a imm
each (LoadUpdate op d a imm) = load_update op d a imm
each (StoreUpdate op s a imm) = store_update op s a imm
each (Multiple Lmw d a imm) = load_multiple d a imm
each (Multiple Stmw s a imm) = store_multiple s a imm
each (TrapImmediate to a imm) = λ rights p q next bytes legal fp fq h.
    let i = TrapImmediate to a imm in
    trapping (effect_of i (state p next bytes)).taken (effect_of i (state q next bytes)).taken p q next bytes (ap (λ x. trap_holds to x (guest_values i 0 p).b) (same_first a [] p q h))
each (CompareImmediate op field a imm) = compare_immediate op field a imm
each (Rotate op s a by mask_begin mask_end records) = rotates op s a by mask_begin mask_end records
each (Branch target absolute link) = λ rights p q next bytes legal fp fq h. record { locs = linked_same link next p q; next = refl; bytes = refl }
each (BranchConditional bo bi target absolute link) = branch_conditional bo bi target absolute link
each SystemCall = λ rights p q next bytes legal fp fq h. call_same rights p q next bytes h
each (Arithmetic op d a b records) = arithmetic op d a b records
each (ArithmeticUnary op d a records) = arithmetic_unary op d a records
each (Logic op s a b records) = logic op s a b records
each (ShiftImmediate s a by records) = shift_immediate s a by records
each (LogicUnary op s a records) = logic_unary op s a records
each (Compare op field a b) = compare op field a b
each (Trap to a b) = λ rights p q next bytes legal fp fq h.
    let i : Instr = Trap to a b in
    trapping (effect_of i (state p next bytes)).taken (effect_of i (state q next bytes)).taken p q next bytes
    (both (λ x y. trap_holds to x y) (same_first a (b ∷ []) p q h) (same_first b [] p q (same_later a (b ∷ []) p q h)))
each (MoveFromCr d) = λ rights p q next bytes legal fp fq h. going (d ∷ []) (update p d (cr_word p)) (update q d (cr_word q)) p q next bytes (one_same d (cr_word p) (cr_word q) p q (cr_same p q h))
each (MoveToCr s mask) = λ rights p q next bytes legal fp fq h.
    let i = MoveToCr s mask in
    going (chosen_fields mask) (put_cr (effect_of i (state p next bytes)).cr p) (put_cr (effect_of i (state q next bytes)).cr q) p q next bytes (fields_same mask (p s) (q s) p q (same_first s [] p q h))
each (MoveFromSpr d spr) = λ rights p q next bytes legal fp fq h.
    let i = MoveFromSpr d spr in
    let e = effect_of i (state p next bytes) in let f = effect_of i (state q next bytes) in
    going (d ∷ []) (update p d e.d) (update q d f.d) p q next bytes (one_same d e.d f.d p q (special_read spr p q legal.allowed h))
each (MoveToSpr s spr) = λ rights p q next bytes legal fp fq h.
    let i = MoveToSpr s spr in
    let v = values_in i (state p next bytes) in let w = values_in i (state q next bytes) in
    going (special spr) (put_special spr (effect_of i (state p next bytes)) p) (put_special spr (effect_of i (state q next bytes)) q) p q next bytes (special_same spr v w p q legal.allowed (same_first s [] p q h))
each Sync = λ rights p q next bytes legal fp fq h. going [] p q p q next bytes (in_none p q)
each (LoadIndexed op d a b) = load_indexed op d a b
each (StoreIndexed op s a b) = store_indexed op s a b
each (LoadIndexedUpdate op d a b) = load_indexed_update op d a b
each (StoreIndexedUpdate op s a b) = store_indexed_update op s a b
each (MoveCrField to from) = move_cr_field to from
each (CrLogic op d a b) = cr_logics op d a b
each Isync = λ rights p q next bytes legal fp fq h. going [] p q p q next bytes (in_none p q)
each (BranchRegister op bo bi link) = branch_register op bo bi link

pub depends : DependsOnItsReadsAlone
depends i rights g h legal fg fh same =
    let P : Guest → Type 0 = λ s. Alike (AreSame (locations_written i)) (guest_acts rights i (effect_of i g) g) (guest_acts rights i (effect_of i s) s) in
    let e : state h.locs g.next g.bytes ≡ h = ap (λ n. state h.locs n g.bytes) same.next ∙ ap (λ b. state h.locs h.next b) same.bytes in
    subst P e (each i rights g.locs h.locs g.next g.bytes legal fg fh same.locs)
