-- The table of fields is the machine's: a row reads the registers of its fields, and puts what it writes. This project's own.
use Rattle.std.proofs.Common.{◌≡◌, ℕ, Bool, true, false, cond, ◌==◌, not, ◌||◌, refl, ap, arith}
use Rattle.std.proofs.lemmas.Bool.Decides.{nat_tests}
use Rattle.machines.specs.Prelude.{Goes, Effect, update, lr, ctr, puts_xer, put_xer, at_next, Immediate, LogicImmediate, Load, Store, LoadUpdate, StoreUpdate, CompareImmediate, Rotate, Arithmetic, ArithmeticUnary, Logic, ShiftImmediate, LogicUnary, Compare, MoveFromCr, MoveToCr, MoveFromSpr, MoveToSpr, Sync, LoadIndexed, StoreIndexed, LoadIndexedUpdate, StoreIndexedUpdate, MoveCrField, CrLogic, Isync, Addi, Addis, Addic, AddicRecord, Subfic, Mulli, Ori, Oris, Xori, Xoris, Andi, Andis, Cmpi, Cmpli, Rlwinm, Rlwnm, Rlwimi, Lwz, Lbz, Lhz, Lha, Lwzu, Lbzu, Lhzu, Lhau, Lwzx, Lbzx, Lhzx, Lhax, Lwbrx, Lhbrx, Lwzux, Lbzux, Lhzux, Lhaux}
use Rattle.rule_soundness.specs.Prelude.{RowsReadFields, RowsPutFields, AccessesPutFields, BranchesPutFields, LoadsHaveWidths}
use Rattle.rule_soundness.proofs.Rows.{immediate_kind, arithmetic_kind, arithmetic_unary_kind, logic_kind, logic_unary_kind, compare_kind, compare_immediate_kind, store_kind, store_update_kind, store_indexed_kind, store_indexed_update_kind}

one_of : (spr : ℕ) → (spr == 1) ≡ true → (spr == 8) ≡ false
one_of spr h = grind (arith, nat_tests)

special : (x l : Bool) → (x ≡ true → l ≡ false) → (e : Effect) (locs : ℕ → ℕ) → cond x (put_xer e.xer locs) (cond l (update locs lr e.lr) (update locs ctr e.ctr))
    ≡ cond (not (x || l)) (update (cond l (update (puts_xer x e locs) lr e.lr) (puts_xer x e locs)) ctr e.ctr) (cond l (update (puts_xer x e locs) lr e.lr) (puts_xer x e locs))
special false true n e locs = refl
special false false n e locs = refl
special true false n e locs = refl
special true true n e locs = let f = n refl in absurd cc

pub rows_put_fields : RowsPutFields
rows_put_fields rights (Immediate op d a imm) e g plain none = refl
rows_put_fields rights (LogicImmediate op s a imm) e g plain none = refl
rows_put_fields rights (CompareImmediate op field a imm) e g plain none = refl
rows_put_fields rights (Rotate op s a by mask_begin mask_end records) e g plain none = refl
rows_put_fields rights (Arithmetic op d a b records) e g plain none = refl
rows_put_fields rights (ArithmeticUnary op d a records) e g plain none = refl
rows_put_fields rights (Logic op s a b records) e g plain none = refl
rows_put_fields rights (ShiftImmediate s a by records) e g plain none = refl
rows_put_fields rights (LogicUnary op s a records) e g plain none = refl
rows_put_fields rights (Compare op field a b) e g plain none = refl
rows_put_fields rights (MoveFromCr d) e g plain none = refl
rows_put_fields rights (MoveToCr s mask) e g plain none = refl
rows_put_fields rights (MoveFromSpr d spr) e g plain none = refl
rows_put_fields rights (MoveToSpr s spr) e g plain none = ap (λ l. Goes (at_next l g)) (special (spr == 1) (spr == 8) (one_of spr) e g.locs)
rows_put_fields rights Sync e g plain none = refl
rows_put_fields rights (MoveCrField to from) e g plain none = refl
rows_put_fields rights (CrLogic op d a b) e g plain none = refl
rows_put_fields rights Isync e g plain none = refl
rows_put_fields rights _ e g plain none = absurd cc

pub accesses_put_fields : AccessesPutFields
accesses_put_fields rights (Load op d a imm) e g plain some = refl
accesses_put_fields rights (Store op s a imm) e g plain some = refl
accesses_put_fields rights (LoadUpdate op d a imm) e g plain some = refl
accesses_put_fields rights (StoreUpdate op s a imm) e g plain some = refl
accesses_put_fields rights (LoadIndexed op d a b) e g plain some = refl
accesses_put_fields rights (StoreIndexed op s a b) e g plain some = refl
accesses_put_fields rights (LoadIndexedUpdate op d a b) e g plain some = refl
accesses_put_fields rights (StoreIndexedUpdate op s a b) e g plain some = refl
accesses_put_fields rights _ e g plain some = absurd cc

pub branches_put_fields : BranchesPutFields
branches_put_fields rights bo bi target absolute e g = refl

pub rows_read_fields : RowsReadFields
rows_read_fields (Immediate Addi d a imm) locs plain = record { a = refl; b = refl; s = refl }
rows_read_fields (Immediate Addis d a imm) locs plain = record { a = refl; b = refl; s = refl }
rows_read_fields (Immediate Addic d a imm) locs plain = record { a = refl; b = refl; s = refl }
rows_read_fields (Immediate AddicRecord d a imm) locs plain = record { a = refl; b = refl; s = refl }
rows_read_fields (Immediate Subfic d a imm) locs plain = record { a = refl; b = refl; s = refl }
rows_read_fields (Immediate Mulli d a imm) locs plain = record { a = refl; b = refl; s = refl }
rows_read_fields (LogicImmediate Ori s a imm) locs plain = record { a = refl; b = refl; s = refl }
rows_read_fields (LogicImmediate Oris s a imm) locs plain = record { a = refl; b = refl; s = refl }
rows_read_fields (LogicImmediate Xori s a imm) locs plain = record { a = refl; b = refl; s = refl }
rows_read_fields (LogicImmediate Xoris s a imm) locs plain = record { a = refl; b = refl; s = refl }
rows_read_fields (LogicImmediate Andi s a imm) locs plain = record { a = refl; b = refl; s = refl }
rows_read_fields (LogicImmediate Andis s a imm) locs plain = record { a = refl; b = refl; s = refl }
rows_read_fields (CompareImmediate Cmpi field a imm) locs plain = record { a = refl; b = refl; s = refl }
rows_read_fields (CompareImmediate Cmpli field a imm) locs plain = record { a = refl; b = refl; s = refl }
rows_read_fields (Rotate Rlwinm s a by mask_begin mask_end records) locs plain = record { a = refl; b = refl; s = refl }
rows_read_fields (Rotate Rlwnm s a by mask_begin mask_end records) locs plain = record { a = refl; b = refl; s = refl }
rows_read_fields (Rotate Rlwimi s a by mask_begin mask_end records) locs plain = record { a = refl; b = refl; s = refl }
rows_read_fields (Arithmetic op d a b records) locs plain = record { a = refl; b = refl; s = refl }
rows_read_fields (ArithmeticUnary op d a records) locs plain = record { a = refl; b = refl; s = refl }
rows_read_fields (Logic op s a b records) locs plain = record { a = refl; b = refl; s = refl }
rows_read_fields (ShiftImmediate s a by records) locs plain = record { a = refl; b = refl; s = refl }
rows_read_fields (LogicUnary op s a records) locs plain = record { a = refl; b = refl; s = refl }
rows_read_fields (Compare op field a b) locs plain = record { a = refl; b = refl; s = refl }
rows_read_fields (MoveFromCr d) locs plain = record { a = refl; b = refl; s = refl }
rows_read_fields (MoveToCr s mask) locs plain = record { a = refl; b = refl; s = refl }
rows_read_fields (MoveFromSpr d spr) locs plain = record { a = refl; b = refl; s = refl }
rows_read_fields (MoveToSpr s spr) locs plain = record { a = refl; b = refl; s = refl }
rows_read_fields Sync locs plain = record { a = refl; b = refl; s = refl }
rows_read_fields (MoveCrField to from) locs plain = record { a = refl; b = refl; s = refl }
rows_read_fields (CrLogic op d a b) locs plain = record { a = refl; b = refl; s = refl }
rows_read_fields Isync locs plain = record { a = refl; b = refl; s = refl }
rows_read_fields (Load op d a imm) locs plain = record { a = refl; b = refl; s = refl }
rows_read_fields (Store op s a imm) locs plain = record { a = refl; b = refl; s = refl }
rows_read_fields (LoadUpdate op d a imm) locs plain = record { a = refl; b = refl; s = refl }
rows_read_fields (StoreUpdate op s a imm) locs plain = record { a = refl; b = refl; s = refl }
rows_read_fields (LoadIndexed op d a b) locs plain = record { a = refl; b = refl; s = refl }
rows_read_fields (StoreIndexed op s a b) locs plain = record { a = refl; b = refl; s = refl }
rows_read_fields (LoadIndexedUpdate op d a b) locs plain = record { a = refl; b = refl; s = refl }
rows_read_fields (StoreIndexedUpdate op s a b) locs plain = record { a = refl; b = refl; s = refl }
rows_read_fields _ locs plain = absurd cc

pub loads_have_widths : LoadsHaveWidths
loads_have_widths (Immediate op d a imm) v plain loads = let k = immediate_kind op d a imm v in absurd cc
loads_have_widths (LogicImmediate op s a imm) v plain loads = absurd cc
loads_have_widths (CompareImmediate op field a imm) v plain loads = let k = compare_immediate_kind op field a imm v in absurd cc
loads_have_widths (Rotate op s a by mask_begin mask_end records) v plain loads = absurd cc
loads_have_widths (Arithmetic op d a b records) v plain loads = let k = arithmetic_kind op d a b records v in absurd cc
loads_have_widths (ArithmeticUnary op d a records) v plain loads = let k = arithmetic_unary_kind op d a records v in absurd cc
loads_have_widths (Logic op s a b records) v plain loads = let k = logic_kind op s a b records v in absurd cc
loads_have_widths (ShiftImmediate s a by records) v plain loads = absurd cc
loads_have_widths (LogicUnary op s a records) v plain loads = let k = logic_unary_kind op s a records v in absurd cc
loads_have_widths (Compare op field a b) v plain loads = let k = compare_kind op field a b v in absurd cc
loads_have_widths (MoveFromCr d) v plain loads = absurd cc
loads_have_widths (MoveToCr s mask) v plain loads = absurd cc
loads_have_widths (MoveFromSpr d spr) v plain loads = absurd cc
loads_have_widths (MoveToSpr s spr) v plain loads = absurd cc
loads_have_widths Sync v plain loads = absurd cc
loads_have_widths (MoveCrField to from) v plain loads = absurd cc
loads_have_widths (CrLogic op d a b) v plain loads = absurd cc
loads_have_widths Isync v plain loads = absurd cc
loads_have_widths (Load Lwz d a imm) v plain loads = refl
loads_have_widths (Load Lbz d a imm) v plain loads = refl
loads_have_widths (Load Lhz d a imm) v plain loads = refl
loads_have_widths (Load Lha d a imm) v plain loads = refl
loads_have_widths (Store op s a imm) v plain loads = let k = store_kind op s a imm v in absurd cc
loads_have_widths (LoadUpdate Lwzu d a imm) v plain loads = refl
loads_have_widths (LoadUpdate Lbzu d a imm) v plain loads = refl
loads_have_widths (LoadUpdate Lhzu d a imm) v plain loads = refl
loads_have_widths (LoadUpdate Lhau d a imm) v plain loads = refl
loads_have_widths (StoreUpdate op s a imm) v plain loads = let k = store_update_kind op s a imm v in absurd cc
loads_have_widths (LoadIndexed Lwzx d a b) v plain loads = refl
loads_have_widths (LoadIndexed Lbzx d a b) v plain loads = refl
loads_have_widths (LoadIndexed Lhzx d a b) v plain loads = refl
loads_have_widths (LoadIndexed Lhax d a b) v plain loads = refl
loads_have_widths (LoadIndexed Lwbrx d a b) v plain loads = refl
loads_have_widths (LoadIndexed Lhbrx d a b) v plain loads = refl
loads_have_widths (StoreIndexed op s a b) v plain loads = let k = store_indexed_kind op s a b v in absurd cc
loads_have_widths (LoadIndexedUpdate Lwzux d a b) v plain loads = refl
loads_have_widths (LoadIndexedUpdate Lbzux d a b) v plain loads = refl
loads_have_widths (LoadIndexedUpdate Lhzux d a b) v plain loads = refl
loads_have_widths (LoadIndexedUpdate Lhaux d a b) v plain loads = refl
loads_have_widths (StoreIndexedUpdate op s a b) v plain loads = let k = store_indexed_update_kind op s a b v in absurd cc
loads_have_widths _ v plain loads = absurd cc
