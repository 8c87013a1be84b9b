-- An instruction leaves what it doesn't write, by the shape of its row.
use Rattle.std.proofs.Common.{◌≡◌, ℕ, ◌+◌, ◌-◌, ◌*◌, ◌/◌, ◌<◌, Bool, true, false, cond, eqb, List, [], ◌∷◌, ◌++◌, refl, ◌∙◌}
use Rattle.machines.specs.Prelude.{Trap as Trapped, Outside, Goes, Ends, is_less, when, count, registers_from, immediate_carries, immediate_records, logic_immediate_records, carry_out, unary_carry, logic_carries, GuestValues, Effect, cr_bit, cr_logic, counted, loses_ones, rotate, logic_immediate, guest_row, update, store_big, each_byte, Rights, Guest, guest_values, loaded_in, effect_of, at_next, load_outcome, store_outcome, put_cr, put_loaded, store_registers, linked, Instr, Immediate, LogicImmediate, Load, Store, LoadUpdate, StoreUpdate, Multiple, TrapImmediate, CompareImmediate, Rotate, Branch, BranchConditional, SystemCall, Arithmetic, ArithmeticUnary, Logic, ShiftImmediate, LogicUnary, Compare, Trap, MoveFromCr, MoveToCr, MoveFromSpr, MoveToSpr, Sync, LoadIndexed, StoreIndexed, LoadIndexedUpdate, StoreIndexedUpdate, MoveCrField, CrLogic, Isync, BranchRegister, Lmw, Stmw, CompareImmediateOp, Cmpi, Cmpli, CompareOp, Cmp, Cmpl}
use Rattle.ppc_isa.specs.Recording.{so}
use Rattle.row_laws.specs.Laws.{Next, AgreeBut, ChangesItsWritesAlone}
use Rattle.row_laws.proofs.Lists.{Lacks, not_first, not_later, not_left, not_right}
use Rattle.row_laws.proofs.Shapes.{shifts, gives_in_a, immediate_carry, arithmetic_carry, arithmetic_unary_carry, logic_carry, immediate_gives, arithmetic_gives, arithmetic_unary_gives, logic_gives, logic_unary_gives}
use Rattle.row_laws.proofs.Kept.{next_cond, update_other, field_alone, bit_alone, Stands, results_kept, special_kept, fields_kept, loaded_kept, linked_kept, counted_kept, call_kept}

-- what an instruction reads in a state
abbrev pub values_in : Instr → Guest → GuestValues
values_in i g = guest_values i (loaded_in (guest_row i (guest_values i 0 g.locs)) g.bytes) g.locs

stands : (i : Instr) (g : Guest) → Stands (values_in i g) g.locs
stands i g = record { cr = refl; xer = refl }

-- an access that leaves some locations, or goes outside
loading : (written : List ℕ) (rights : Rights) (locs : ℕ → ℕ) (e : Effect) (g : Guest) → ((x : ℕ) → Lacks written x → locs x ≡ g.locs x) → Next (λ h. AgreeBut written h g) (load_outcome rights locs e g)
loading written rights locs e g kept = next_cond (λ h. AgreeBut written h g) (each_byte rights.held e.width e.address) (Goes (at_next locs g)) (Ends Outside) (λ x lt l. kept x l) tt

storing : (written : List ℕ) (rights : Rights) (bytes locs : ℕ → ℕ) (e : Effect) (g : Guest) → ((x : ℕ) → Lacks written x → locs x ≡ g.locs x) → Next (λ h. AgreeBut written h g) (store_outcome rights bytes locs e g)
storing written rights bytes locs e g kept = next_cond (λ h. AgreeBut written h g) (each_byte rights.writable e.width e.address) (Goes (record (at_next locs g) { bytes = bytes })) (Ends Outside) (λ x lt l. kept x l) tt

trapping : (taken : Bool) (g : Guest) → Next (λ h. AgreeBut [] h g) (cond taken (Ends Trapped) (Goes (at_next g.locs g)))
trapping taken g = next_cond (λ h. AgreeBut [] h g) taken (Ends Trapped) (Goes (at_next g.locs g)) tt (λ x lt l. refl)

one : (k v : ℕ) (p : ℕ → ℕ) (x : ℕ) → Lacks (k ∷ []) x → update p k v x ≡ p x
one k v p x l = update_other p k v x (not_first k x [] l)

two : (d a v w : ℕ) (p : ℕ → ℕ) (x : ℕ) → Lacks (d ∷ a ∷ []) x → update (update p d v) a w x ≡ p x
two d a v w p x l = update_other (update p d v) a w x (not_first a x [] (not_later d x (a ∷ []) l)) ∙ update_other p d v x (not_first d x (a ∷ []) l)

-- a branch that may count and link
branching : (link : Bool) (bo at : ℕ) (v : GuestValues) (p : ℕ → ℕ) (x : ℕ) → v.ctr ≡ p 33 → Lacks (count bo ++ when link 32) x → linked link at (update p 33 (counted bo v)) x ≡ p x
branching link bo at v p x e l = linked_kept link at (update p 33 (counted bo v)) x (p x) (not_right (count bo) (when link 32) x l) (counted_kept bo v p x e (not_left (count bo) (when link 32) x l))

pub changes : ChangesItsWritesAlone
changes (Immediate op d a imm) rights g legal fits =
    let i = Immediate op d a imm in let e = effect_of i g in let v = values_in i g in
    λ x lt l. results_kept (immediate_carries op) (immediate_records op) d e.d e.d (immediate_carry op v) e v g.locs x fits (stands i g) (immediate_gives op a v) l
changes (LogicImmediate op s a imm) rights g legal fits =
    let i = LogicImmediate op s a imm in let e = effect_of i g in let v = values_in i g in
    λ x lt l. results_kept false (logic_immediate_records op) a e.a e.a false e v g.locs x fits (stands i g) (gives_in_a (logic_immediate_records op) (logic_immediate op v.s v.b) v) l
changes (Load op d a imm) rights g legal fits = let e = effect_of (Load op d a imm) g in loading (d ∷ []) rights (update g.locs d e.d) e g (λ x l. one d e.d g.locs x l)
changes (Store op s a imm) rights g legal fits = let e = effect_of (Store op s a imm) g in storing [] rights (store_big e.width e.address e.stored g.bytes) g.locs e g (λ x l. refl)
changes (LoadUpdate op d a imm) rights g legal fits = let e = effect_of (LoadUpdate op d a imm) g in loading (d ∷ a ∷ []) rights (update (update g.locs d e.d) a e.a) e g (λ x l. two d a e.d e.a g.locs x l)
changes (StoreUpdate op s a imm) rights g legal fits = let e = effect_of (StoreUpdate op s a imm) g in storing (a ∷ []) rights (store_big e.width e.address e.stored g.bytes) (update g.locs a e.a) e g (λ x l. one a e.a g.locs x l)
changes (Multiple Lmw d a imm) rights g legal fits = let e = effect_of (Multiple Lmw d a imm) g in loading (registers_from d) rights (put_loaded d e.address g.bytes g.locs) e g (λ x l. loaded_kept d e.address g.bytes g.locs x l)
changes (Multiple Stmw s a imm) rights g legal fits = let e = effect_of (Multiple Stmw s a imm) g in storing [] rights (store_registers (32 - s) s e.address g.locs g.bytes) g.locs e g (λ x l. refl)
changes (TrapImmediate to a imm) rights g legal fits = trapping (effect_of (TrapImmediate to a imm) g).taken g
changes (CompareImmediate op field a imm) rights g legal fits = compares op
  where
    compares : (op : CompareImmediateOp) → (x : ℕ) → x < 46 → Lacks ((34 + field) ∷ []) x → put_cr (effect_of (CompareImmediate op field a imm) g).cr g.locs x ≡ g.locs x
    compares Cmpi x lt l = let v = values_in (CompareImmediate Cmpi field a imm) g in field_alone field (is_less v.a v.b true) (is_less v.b v.a true) (eqb v.a v.b) (so v) g.locs g.locs x legal.fit.1.0 fits refl (not_first (34 + field) x [] l)
    compares Cmpli x lt l = let v = values_in (CompareImmediate Cmpli field a imm) g in field_alone field (is_less v.a v.b false) (is_less v.b v.a false) (eqb v.a v.b) (so v) g.locs g.locs x legal.fit.1.0 fits refl (not_first (34 + field) x [] l)
changes (Rotate op s a by mask_begin mask_end records) rights g legal fits =
    let i = Rotate op s a by mask_begin mask_end records in let e = effect_of i g in let v = values_in i g in
    λ x lt l. results_kept false records a e.a e.a false e v g.locs x fits (stands i g) (gives_in_a records (rotate op by mask_begin mask_end v) v) l
changes (Branch target absolute link) rights g legal fits = λ x lt l. linked_kept link g.next g.locs x (g.locs x) l refl
changes (BranchConditional bo bi target absolute link) rights g legal fits = λ x lt l. branching link bo g.next (values_in (BranchConditional bo bi target absolute link) g) g.locs x refl l
changes SystemCall rights g legal fits = call_kept rights g
changes (Arithmetic op d a b records) rights g legal fits =
    let i = Arithmetic op d a b records in let e = effect_of i g in let v = values_in i g in
    λ x lt l. results_kept (carry_out op) records d e.d e.d (arithmetic_carry op v) e v g.locs x fits (stands i g) (arithmetic_gives op records v) l
changes (ArithmeticUnary op d a records) rights g legal fits =
    let i = ArithmeticUnary op d a records in let e = effect_of i g in let v = values_in i g in
    λ x lt l. results_kept (unary_carry op) records d e.d e.d (arithmetic_unary_carry op v) e v g.locs x fits (stands i g) (arithmetic_unary_gives op records v) l
changes (Logic op s a b records) rights g legal fits =
    let i = Logic op s a b records in let e = effect_of i g in let v = values_in i g in
    λ x lt l. results_kept (logic_carries op) records a e.a e.a (logic_carry op v) e v g.locs x fits (stands i g) (logic_gives op records v) l
changes (ShiftImmediate s a by records) rights g legal fits =
    let i = ShiftImmediate s a by records in let e = effect_of i g in let v = values_in i g in
    λ x lt l. results_kept true records a e.a e.a (loses_ones v.s by) e v g.locs x fits (stands i g) (shifts records by v) l
changes (LogicUnary op s a records) rights g legal fits =
    let i = LogicUnary op s a records in let e = effect_of i g in let v = values_in i g in
    λ x lt l. results_kept false records a e.a e.a false e v g.locs x fits (stands i g) (logic_unary_gives op records v) l
changes (Compare op field a b) rights g legal fits = compares op
  where
    compares : (op : CompareOp) → (x : ℕ) → x < 46 → Lacks ((34 + field) ∷ []) x → put_cr (effect_of (Compare op field a b) g).cr g.locs x ≡ g.locs x
    compares Cmp x lt l = let v = values_in (Compare Cmp field a b) g in field_alone field (is_less v.a v.b true) (is_less v.b v.a true) (eqb v.a v.b) (so v) g.locs g.locs x legal.fit.1.0 fits refl (not_first (34 + field) x [] l)
    compares Cmpl x lt l = let v = values_in (Compare Cmpl field a b) g in field_alone field (is_less v.a v.b false) (is_less v.b v.a false) (eqb v.a v.b) (so v) g.locs g.locs x legal.fit.1.0 fits refl (not_first (34 + field) x [] l)
changes (Trap to a b) rights g legal fits = trapping (effect_of (Trap to a b) g).taken g
changes (MoveFromCr d) rights g legal fits = λ x lt l. one d (effect_of (MoveFromCr d) g).d g.locs x l
changes (MoveToCr s mask) rights g legal fits = λ x lt l. fields_kept mask (g.locs s) g.locs x fits l
changes (MoveFromSpr d spr) rights g legal fits = λ x lt l. one d (effect_of (MoveFromSpr d spr) g).d g.locs x l
changes (MoveToSpr s spr) rights g legal fits = λ x lt l. special_kept spr (effect_of (MoveToSpr s spr) g) g.locs x legal.allowed l
changes Sync rights g legal fits = λ x lt l. refl
changes (LoadIndexed op d a b) rights g legal fits = let e = effect_of (LoadIndexed op d a b) g in loading (d ∷ []) rights (update g.locs d e.d) e g (λ x l. one d e.d g.locs x l)
changes (StoreIndexed op s a b) rights g legal fits = let e = effect_of (StoreIndexed op s a b) g in storing [] rights (store_big e.width e.address e.stored g.bytes) g.locs e g (λ x l. refl)
changes (LoadIndexedUpdate op d a b) rights g legal fits = let e = effect_of (LoadIndexedUpdate op d a b) g in loading (d ∷ a ∷ []) rights (update (update g.locs d e.d) a e.a) e g (λ x l. two d a e.d e.a g.locs x l)
changes (StoreIndexedUpdate op s a b) rights g legal fits = let e = effect_of (StoreIndexedUpdate op s a b) g in storing (a ∷ []) rights (store_big e.width e.address e.stored g.bytes) (update g.locs a e.a) e g (λ x l. one a e.a g.locs x l)
changes (MoveCrField to from) rights g legal fits =
    let v = values_in (MoveCrField to from) g in
    λ x lt l. field_alone to (cr_bit (4 * from) v) (cr_bit (4 * from + 1) v) (cr_bit (4 * from + 2) v) (cr_bit (4 * from + 3) v) g.locs g.locs x legal.fit.1.0 fits refl (not_first (34 + to) x [] l)
changes (CrLogic op d a b) rights g legal fits =
    let v = values_in (CrLogic op d a b) g in
    λ x lt l. bit_alone d (cr_logic op (cr_bit a v) (cr_bit b v)) g.locs x legal.fit.1.0 fits (not_first (34 + d / 4) x [] l)
changes Isync rights g legal fits = λ x lt l. refl
changes (BranchRegister op bo bi link) rights g legal fits = λ x lt l. branching link bo g.next (values_in (BranchRegister op bo bi link) g) g.locs x refl l
