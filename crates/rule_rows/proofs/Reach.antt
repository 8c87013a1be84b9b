-- The accesses of a window's words: which way, and how many bytes. This project's own.
use Rattle.std.proofs.Common.{◌≡◌, ℕ, ◌≤◌, inl, inr, Bool, true, false, not, ◌==◌, refl, sym, ap, ◌∙◌, arith}
use Rattle.std.proofs.lemmas.Bool.Decides.{nat_tests}
use Rattle.machines.specs.Prelude.{Access, NoAccess, LoadAccess, StoreAccess, GuestValues, guest_row, Instr, Immediate, LogicImmediate, Load, Store, LoadUpdate, StoreUpdate, CompareImmediate, Rotate, Arithmetic, ArithmeticUnary, Logic, ShiftImmediate, LogicUnary, Compare, MoveFromCr, MoveToCr, MoveFromSpr, MoveToSpr, Sync, LoadIndexed, StoreIndexed, LoadIndexedUpdate, StoreIndexedUpdate, MoveCrField, CrLogic, Isync, Lwz, Lbz, Lhz, Lha, Stw, Stb, Sth, Lwzu, Lbzu, Lhzu, Lhau, Stwu, Stbu, Sthu, Lwzx, Lbzx, Lhzx, Lhax, Lwbrx, Lhbrx, Stwx, Stbx, Sthx, Stwbrx, Sthbrx, Lwzux, Lbzux, Lhzux, Lhaux, Stwux, Stbux, Sthux}
use Rattle.rule_body.specs.Prelude.{is_plain, has_access}
use Rattle.rule_soundness.specs.Fields.{is_store, load_width}
use Rattle.rule_soundness.proofs.Rows.{immediate_kind, arithmetic_kind, arithmetic_unary_kind, logic_kind, logic_unary_kind, compare_kind, compare_immediate_kind}
use Rattle.row_runs.specs.Oracles.{is_load}
use Rattle.place_circuits.specs.Sources.{IsWidth}
use Rattle.row_circuits.specs.Windows.{IsLoadWidth}

-- a load has as many bytes as the table says
abbrev pub stored_or_loaded : Bool → Access
stored_or_loaded true = StoreAccess
stored_or_loaded false = LoadAccess

pub record Reaches (i : Instr) (v : GuestValues) : Type 0 where
  pub width : IsWidth (guest_row i v).width
  pub kind : (guest_row i v).kind ≡ stored_or_loaded (is_store i)
  pub loads : is_store i ≡ false → (guest_row i v).width ≡ load_width i

pub access_reaches : (i : Instr) (v : GuestValues) → is_plain i ≡ true → has_access i ≡ true → Reaches i v
access_reaches (Load Lwz d a imm) v plain has = record { width = inr (inr refl); kind = refl; loads = λ e. refl }
access_reaches (Load Lbz d a imm) v plain has = record { width = inl refl; kind = refl; loads = λ e. refl }
access_reaches (Load Lhz d a imm) v plain has = record { width = inr (inl refl); kind = refl; loads = λ e. refl }
access_reaches (Load Lha d a imm) v plain has = record { width = inr (inl refl); kind = refl; loads = λ e. refl }
access_reaches (Store Stw s a imm) v plain has = record { width = inr (inr refl); kind = refl; loads = λ e. absurd cc }
access_reaches (Store Stb s a imm) v plain has = record { width = inl refl; kind = refl; loads = λ e. absurd cc }
access_reaches (Store Sth s a imm) v plain has = record { width = inr (inl refl); kind = refl; loads = λ e. absurd cc }
access_reaches (LoadUpdate Lwzu d a imm) v plain has = record { width = inr (inr refl); kind = refl; loads = λ e. refl }
access_reaches (LoadUpdate Lbzu d a imm) v plain has = record { width = inl refl; kind = refl; loads = λ e. refl }
access_reaches (LoadUpdate Lhzu d a imm) v plain has = record { width = inr (inl refl); kind = refl; loads = λ e. refl }
access_reaches (LoadUpdate Lhau d a imm) v plain has = record { width = inr (inl refl); kind = refl; loads = λ e. refl }
access_reaches (StoreUpdate Stwu s a imm) v plain has = record { width = inr (inr refl); kind = refl; loads = λ e. absurd cc }
access_reaches (StoreUpdate Stbu s a imm) v plain has = record { width = inl refl; kind = refl; loads = λ e. absurd cc }
access_reaches (StoreUpdate Sthu s a imm) v plain has = record { width = inr (inl refl); kind = refl; loads = λ e. absurd cc }
access_reaches (LoadIndexed Lwzx d a b) v plain has = record { width = inr (inr refl); kind = refl; loads = λ e. refl }
access_reaches (LoadIndexed Lbzx d a b) v plain has = record { width = inl refl; kind = refl; loads = λ e. refl }
access_reaches (LoadIndexed Lhzx d a b) v plain has = record { width = inr (inl refl); kind = refl; loads = λ e. refl }
access_reaches (LoadIndexed Lhax d a b) v plain has = record { width = inr (inl refl); kind = refl; loads = λ e. refl }
access_reaches (LoadIndexed Lwbrx d a b) v plain has = record { width = inr (inr refl); kind = refl; loads = λ e. refl }
access_reaches (LoadIndexed Lhbrx d a b) v plain has = record { width = inr (inl refl); kind = refl; loads = λ e. refl }
access_reaches (StoreIndexed Stwx s a b) v plain has = record { width = inr (inr refl); kind = refl; loads = λ e. absurd cc }
access_reaches (StoreIndexed Stbx s a b) v plain has = record { width = inl refl; kind = refl; loads = λ e. absurd cc }
access_reaches (StoreIndexed Sthx s a b) v plain has = record { width = inr (inl refl); kind = refl; loads = λ e. absurd cc }
access_reaches (StoreIndexed Stwbrx s a b) v plain has = record { width = inr (inr refl); kind = refl; loads = λ e. absurd cc }
access_reaches (StoreIndexed Sthbrx s a b) v plain has = record { width = inr (inl refl); kind = refl; loads = λ e. absurd cc }
access_reaches (LoadIndexedUpdate Lwzux d a b) v plain has = record { width = inr (inr refl); kind = refl; loads = λ e. refl }
access_reaches (LoadIndexedUpdate Lbzux d a b) v plain has = record { width = inl refl; kind = refl; loads = λ e. refl }
access_reaches (LoadIndexedUpdate Lhzux d a b) v plain has = record { width = inr (inl refl); kind = refl; loads = λ e. refl }
access_reaches (LoadIndexedUpdate Lhaux d a b) v plain has = record { width = inr (inl refl); kind = refl; loads = λ e. refl }
access_reaches (StoreIndexedUpdate Stwux s a b) v plain has = record { width = inr (inr refl); kind = refl; loads = λ e. absurd cc }
access_reaches (StoreIndexedUpdate Stbux s a b) v plain has = record { width = inl refl; kind = refl; loads = λ e. absurd cc }
access_reaches (StoreIndexedUpdate Sthux s a b) v plain has = record { width = inr (inl refl); kind = refl; loads = λ e. absurd cc }
access_reaches _ v plain has = absurd cc

-- a word without an access
pub calm_kind : (i : Instr) (v : GuestValues) → is_plain i ≡ true → has_access i ≡ false → (guest_row i v).kind ≡ NoAccess
calm_kind (Immediate op d a imm) v plain none = immediate_kind op d a imm v
calm_kind (LogicImmediate op s a imm) v plain none = refl
calm_kind (CompareImmediate op field a imm) v plain none = compare_immediate_kind op field a imm v
calm_kind (Rotate op s a by mask_begin mask_end records) v plain none = refl
calm_kind (Arithmetic op d a b records) v plain none = arithmetic_kind op d a b records v
calm_kind (ArithmeticUnary op d a records) v plain none = arithmetic_unary_kind op d a records v
calm_kind (Logic op s a b records) v plain none = logic_kind op s a b records v
calm_kind (ShiftImmediate s a by records) v plain none = refl
calm_kind (LogicUnary op s a records) v plain none = logic_unary_kind op s a records v
calm_kind (Compare op field a b) v plain none = compare_kind op field a b v
calm_kind (MoveFromCr d) v plain none = refl
calm_kind (MoveToCr s mask) v plain none = refl
calm_kind (MoveFromSpr d spr) v plain none = refl
calm_kind (MoveToSpr s spr) v plain none = refl
calm_kind Sync v plain none = refl
calm_kind (MoveCrField to from) v plain none = refl
calm_kind (CrLogic op d a b) v plain none = refl
calm_kind Isync v plain none = refl
calm_kind _ v plain none = absurd cc

-- it loads nothing
pub calm_width : (i : Instr) → has_access i ≡ false → load_width i ≡ 0
calm_width (Load op d a imm) none = absurd cc
calm_width (LoadUpdate op d a imm) none = absurd cc
calm_width (LoadIndexed op d a b) none = absurd cc
calm_width (LoadIndexedUpdate op d a b) none = absurd cc
calm_width _ none = refl

store_width : (i : Instr) → is_store i ≡ true → load_width i ≡ 0
store_width (Load op d a imm) st = absurd cc
store_width (LoadUpdate op d a imm) st = absurd cc
store_width (LoadIndexed op d a b) st = absurd cc
store_width (LoadIndexedUpdate op d a b) st = absurd cc
store_width _ st = refl

-- so a word loads as many bytes as the table says
none_wide : (w : ℕ) → w ≡ 0 → not (w == 0) ≡ false
none_wide w e = grind (arith, nat_tests)

some_wide : (w : ℕ) → IsWidth w → not (w == 0) ≡ true
some_wide w (inl e) = ap (λ n. not (n == 0)) e
some_wide w (inr (inl e)) = ap (λ n. not (n == 0)) e
some_wide w (inr (inr e)) = ap (λ n. not (n == 0)) e

differ : false ≡ true → ⊥
differ e = cc

pub loads_table_width : (i : Instr) → is_plain i ≡ true → IsLoadWidth i (load_width i)
loads_table_width i plain = by_access (has_access i) refl
  where
    by_way : (has_access i ≡ true) → (b : Bool) → is_store i ≡ b → IsLoadWidth i (load_width i)
    by_way has true st = record {
      loads = λ v. ap is_load ((access_reaches i v plain has).kind ∙ ap stored_or_loaded st) ∙ sym (none_wide (load_width i) (store_width i st));
      wide = λ v e. absurd (differ (sym (ap is_load ((access_reaches i v plain has).kind ∙ ap stored_or_loaded st)) ∙ e));
    }
    by_way has false st = record {
      loads = λ v. ap is_load ((access_reaches i v plain has).kind ∙ ap stored_or_loaded st) ∙ sym (ap (λ n. not (n == 0)) (sym ((access_reaches i v plain has).loads st)) ∙ some_wide (guest_row i v).width (access_reaches i v plain has).width);
      wide = λ v e. sym ((access_reaches i v plain has).loads st);
    }

    by_access : (b : Bool) → has_access i ≡ b → IsLoadWidth i (load_width i)
    by_access false none = record {
      loads = λ v. ap is_load (calm_kind i v plain none) ∙ sym (none_wide (load_width i) (calm_width i none));
      wide = λ v e. absurd (differ (sym (ap is_load (calm_kind i v plain none)) ∙ e));
    }
    by_access true has = by_way has (is_store i) refl

-- and 4 at most
pub few_wide : (i : Instr) → load_width i ≤ 4
few_wide (Load Lwz d a imm) = omega arith
few_wide (Load Lbz d a imm) = omega arith
few_wide (Load Lhz d a imm) = omega arith
few_wide (Load Lha d a imm) = omega arith
few_wide (LoadUpdate Lwzu d a imm) = omega arith
few_wide (LoadUpdate Lbzu d a imm) = omega arith
few_wide (LoadUpdate Lhzu d a imm) = omega arith
few_wide (LoadUpdate Lhau d a imm) = omega arith
few_wide (LoadIndexed Lwzx d a b) = omega arith
few_wide (LoadIndexed Lbzx d a b) = omega arith
few_wide (LoadIndexed Lhzx d a b) = omega arith
few_wide (LoadIndexed Lhax d a b) = omega arith
few_wide (LoadIndexed Lwbrx d a b) = omega arith
few_wide (LoadIndexed Lhbrx d a b) = omega arith
few_wide (LoadIndexedUpdate Lwzux d a b) = omega arith
few_wide (LoadIndexedUpdate Lbzux d a b) = omega arith
few_wide (LoadIndexedUpdate Lhzux d a b) = omega arith
few_wide (LoadIndexedUpdate Lhaux d a b) = omega arith
few_wide _ = omega arith
