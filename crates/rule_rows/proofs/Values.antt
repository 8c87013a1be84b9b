-- What a row of a window gives: words, and what it had in what it doesn't write. This project's own.
use Rattle.std.proofs.Common.{◌≡◌, ℕ, zero, suc, ◌+◌, ◌-◌, ◌*◌, ◌/◌, ◌%◌, ◌^◌, ◌<◌, Bool, true, false, cond, not, ◌&&◌, ◌||◌, ◌==◌, eqb, refl, ap, ◌∙◌, arith}
use Rattle.std.proofs.Math.Nat.{mod-lt, div-le_self}
use Rattle.std.proofs.lemmas.Bool.Decides.{nat_tests}
use Rattle.ppc_isa.specs.Effect.{unchanged}
use Rattle.ppc_isa.specs.Recording.{ca}
use Rattle.ppc_isa.specs.FieldRows.{special_value}
use Rattle.ppc_isa.specs.BranchRows.{branch_on}
use Rattle.word_kit.specs.Prelude.{byte_of, joined}
use Rattle.machines.specs.Prelude.{logic_immediate_records, sum_word, sum_carries, ones, sum_carrying, arith_by, loses_ones, shifted_algebraic, leading_zeros, rotate, logic_immediate, recorded, with_ca, with_field, gives_d, gives_a, loads, stores, updates, bo_bit, complement, is_negative, one_if, bit_of, with_bit, of_bits, word_and, word_or, word_xor, sign_extended, GuestValues, Effect, guest_row, Instr, Immediate, LogicImmediate, Load, Store, LoadUpdate, StoreUpdate, CompareImmediate, Rotate, Arithmetic, ArithmeticUnary, Logic, ShiftImmediate, LogicUnary, Compare, MoveFromCr, MoveToCr, MoveFromSpr, MoveToSpr, Sync, LoadIndexed, StoreIndexed, LoadIndexedUpdate, StoreIndexedUpdate, MoveCrField, CrLogic, Isync, Addi, Addis, Addic, AddicRecord, Subfic, Mulli, LogicImmediateOp, Ori, Oris, Xori, Xoris, Andi, Andis, Lwz, Lbz, Lhz, Lha, Stw, Stb, Sth, Lwzu, Lbzu, Lhzu, Lhau, Stwu, Stbu, Sthu, Cmpi, Cmpli, RotateOp, Rlwinm, Rlwnm, Rlwimi, Add, Addc, Adde, Subf, Subfc, Subfe, Mullw, Mulhw, Mulhwu, Addze, Addme, Subfze, Subfme, Neg, And, Or, Xor, Nand, Nor, Eqv, Andc, Orc, Slw, Srw, Sraw, Cntlzw, Extsb, Extsh, Cmp, Cmpl, Lwzx, Lbzx, Lhzx, Lhax, Lwbrx, Lhbrx, Stwx, Stbx, Sthx, Stwbrx, Sthbrx, Lwzux, Lbzux, Lhzux, Lhaux, Stwux, Stbux, Sthux}
use Rattle.word_kit.proofs.Rooms.{with_bit_room}
use Rattle.row_laws.proofs.Bits.{below_power}
use Rattle.symbolic_tiles.proofs.Products.{high_word}
use Rattle.std.proofs.Math.Bool.{and-false}
use Rattle.symbolic_tiles.proofs.Small.{each_true}
use Rattle.symbolic_tiles.proofs.Registers.{extended_word}
use Rattle.rule_body.specs.Prelude.{is_plain}
use Rattle.rule_soundness.specs.Fields.{written}

-- XER as a word has its bits 0 to 2 and 25 to 31 alone
abbrev pub IsXer : ℕ → Type 0
IsXer x = (x < 2 ^ 32) × (x / 2 ^ 7 % 2 ^ 22 ≡ 0)

pub record AreWords (v : GuestValues) : Type 0 where
  pub a : v.a < 2 ^ 32
  pub b : v.b < 2 ^ 32
  pub s : v.s < 2 ^ 32
  pub cr : v.cr < 2 ^ 32
  pub xer : IsXer v.xer
  pub lr : v.lr < 2 ^ 32
  pub ctr : v.ctr < 2 ^ 32
  pub loaded : v.loaded < 2 ^ 32

-- the effect has words, and what isn't put as it was
pub record Gives (puts_cr puts_xer puts_lr puts_ctr : Bool) (v : GuestValues) (e : Effect) : Type 0 where
  pub d : e.d < 2 ^ 32
  pub a : e.a < 2 ^ 32
  pub cr : e.cr < 2 ^ 32
  pub xer : IsXer e.xer
  pub lr : e.lr < 2 ^ 32
  pub ctr : e.ctr < 2 ^ 32
  pub cr_kept : puts_cr ≡ false → e.cr ≡ v.cr
  pub xer_kept : puts_xer ≡ false → e.xer ≡ v.xer
  pub lr_kept : puts_lr ≡ false → e.lr ≡ v.lr
  pub ctr_kept : puts_ctr ≡ false → e.ctr ≡ v.ctr

-- words
of_mod : (x : ℕ) → x % 2 ^ 32 < 2 ^ 32
of_mod x = mod-lt x (omega arith)

of_complement : (x : ℕ) → complement x < 2 ^ 32
of_complement x = omega arith

of_and : (x y : ℕ) → word_and x y < 2 ^ 32
unfolding word_and
of_and x y = below_power (λ k. bit_of x k && bit_of y k) 32

of_or : (x y : ℕ) → word_or x y < 2 ^ 32
unfolding word_or
of_or x y = below_power (λ k. bit_of x k || bit_of y k) 32

of_xor : (x y : ℕ) → word_xor x y < 2 ^ 32
unfolding word_xor
of_xor x y = below_power _ 32

of_right : (x n : ℕ) → x < 2 ^ 32 → x / 2 ^ n < 2 ^ 32
of_right x n h = let e = div-le_self x (2 ^ n) in omega (arith, e)

of_arith : (x n : ℕ) → x < 2 ^ 32 → cond (is_negative x) (complement (complement x / 2 ^ n)) (x / 2 ^ n) < 2 ^ 32
of_arith x n h = by_sign (is_negative x)
  where
    by_sign : (b : Bool) → cond b (complement (complement x / 2 ^ n)) (x / 2 ^ n) < 2 ^ 32
    by_sign true = of_complement (complement x / 2 ^ n)
    by_sign false = of_right x n h

of_zeros : (n x : ℕ) → leading_zeros n x < 2 ^ 32
unfolding leading_zeros
of_zeros zero x = omega arith
of_zeros (suc n) x = by_bit (bit_of x n) (of_zeros n x)
  where
    by_bit : (b : Bool) → leading_zeros n x < 2 ^ 32 → cond b (31 - n) (leading_zeros n x) < 2 ^ 32
    by_bit true h = omega arith
    by_bit false h = h

of_half : (x : ℕ) → sign_extended 16 (x % 2 ^ 16) < 2 ^ 32
of_half x = extended_word (x % 2 ^ 16) (omega arith)

of_byte : (x : ℕ) → sign_extended 8 (x % 2 ^ 8) < 2 ^ 32
of_byte x = grind (arith, nat_tests)

of_bit : (x k : ℕ) (b : Bool) → k < 32 → x < 2 ^ 32 → with_bit x k b < 2 ^ 32
of_bit x k true h w = let r = with_bit_room x k h w in omega (arith, r)
of_bit x k false h w = omega arith

of_field : (cr f : ℕ) (lt gt eq so : Bool) → cr < 2 ^ 32 → with_field cr f lt gt eq so < 2 ^ 32
of_field cr f lt gt eq so h =
    of_bit _ (31 - (4 * f + 3)) so (omega arith) (of_bit _ (31 - (4 * f + 2)) eq (omega arith) (of_bit _ (31 - (4 * f + 1)) gt (omega arith) (of_bit cr (31 - 4 * f) lt (omega arith) h)))

of_carry : (x : ℕ) (b : Bool) → IsXer x → IsXer (with_ca x b)
of_carry x true h = let a = h.0 in let m = h.1 in (of_bit x 29 true (omega arith) h.0, omega (arith, a, m))
of_carry x false h = let a = h.0 in let m = h.1 in (of_bit x 29 false (omega arith) h.0, omega (arith, a, m))

pub of_joined : (a b c d : ℕ) → joined a b c d < 2 ^ 32
of_joined a b c d = omega arith

-- XER keeps no other bits than there are
no_bits : (bits : ℕ → Bool) (n d : ℕ) → ((k : ℕ) → k < d → bits (n + k) ≡ false) → of_bits bits (n + d) ≡ of_bits bits n
unfolding of_bits
no_bits bits n zero none = ap (of_bits bits) (omega arith)
no_bits bits n (suc d) none =
    let e : n + suc d ≡ suc (n + d) = omega arith in
    ap (of_bits bits) e ∙ ap (λ b. of_bits bits (n + d) + one_if b * 2 ^ (n + d)) (none d (omega arith)) ∙ same (of_bits bits (n + d)) (2 ^ (n + d)) ∙ no_bits bits n d (λ k h. none k (omega arith))
  where
    same : (x y : ℕ) → x + 0 * y ≡ x
    same x y = omega arith

of_masked : (s : ℕ) → IsXer (word_and s 0xE000007F)
unfolding word_and of_bits
of_masked s =
    let bits : ℕ → Bool = λ k. bit_of s k && bit_of 0xE000007F k in
    let low = below_power bits 7 in
    let same : of_bits bits 29 ≡ of_bits bits 7 = no_bits bits 7 22 (λ k h. ap (λ b. bit_of s (7 + k) && b) (unset (bit_of 0xE000007F (7 + k)) (each_true (λ k. not (bit_of 0xE000007F (7 + k))) 22 k refl h)) ∙ and-false (bit_of s (7 + k))) in
    (of_and s 0xE000007F, numbers (word_and s 0xE000007F) (of_bits bits 7) (one_if (bits 29)) (one_if (bits 30)) (one_if (bits 31)) low (one (bits 29)) (one (bits 30)) (one (bits 31)) (ap (λ x. x + one_if (bits 29) * 2 ^ 29 + one_if (bits 30) * 2 ^ 30 + one_if (bits 31) * 2 ^ 31) same))
  where
    one : (b : Bool) → one_if b < 2
    one true = omega arith
    one false = omega arith

    unset : (b : Bool) → not b ≡ true → b ≡ false
    unset true e = absurd cc
    unset false e = refl

    numbers : (x l p q r : ℕ) → l < 2 ^ 7 → p < 2 → q < 2 → r < 2 → x ≡ l + p * 2 ^ 29 + q * 2 ^ 30 + r * 2 ^ 31 → x / 2 ^ 7 % 2 ^ 22 ≡ 0
    numbers x l p q r a b c d e = omega (arith, a, b, c, d, e)

of_recorded : (r : Bool) (n : ℕ) (v : GuestValues) → v.cr < 2 ^ 32 → recorded r n v < 2 ^ 32
of_recorded true n v h = of_field v.cr 0 _ _ _ _ h
of_recorded false n v h = h

-- rows of one form
module _ (v : GuestValues) (are : AreWords v) where
  abbrev Gives_ : Bool → Bool → Effect → Type 0
  Gives_ r c e = Gives r c false false v e

  gives_nothing : Gives_ false false (unchanged v)
  gives_nothing = record { d = are.s; a = are.a; cr = are.cr; xer = are.xer; lr = are.lr; ctr = are.ctr; cr_kept = λ e. refl; xer_kept = λ e. refl; lr_kept = λ e. refl; ctr_kept = λ e. refl }

  in_d : (r c : Bool) (n x : ℕ) → n < 2 ^ 32 → IsXer x → (c ≡ false → x ≡ v.xer) → Gives_ r c (record (gives_d r n v) { xer = x })
  in_d r c n x hn hx kept = record { d = hn; a = are.a; cr = of_recorded r n v are.cr; xer = hx; lr = are.lr; ctr = are.ctr; cr_kept = λ e. ap (λ b. recorded b n v) e; xer_kept = kept; lr_kept = λ e. refl; ctr_kept = λ e. refl }

  in_a : (r c : Bool) (n x : ℕ) → n < 2 ^ 32 → IsXer x → (c ≡ false → x ≡ v.xer) → Gives_ r c (record (gives_a r n v) { xer = x })
  in_a r c n x hn hx kept = record { d = are.s; a = hn; cr = of_recorded r n v are.cr; xer = hx; lr = are.lr; ctr = are.ctr; cr_kept = λ e. ap (λ b. recorded b n v) e; xer_kept = kept; lr_kept = λ e. refl; ctr_kept = λ e. refl }

  plain_d : (r : Bool) (n : ℕ) → n < 2 ^ 32 → Gives_ r false (gives_d r n v)
  plain_d r n h = in_d r false n v.xer h are.xer (λ e. refl)

  plain_a : (r : Bool) (n : ℕ) → n < 2 ^ 32 → Gives_ r false (gives_a r n v)
  plain_a r n h = in_a r false n v.xer h are.xer (λ e. refl)

  with_carry : (r : Bool) (x y : ℕ) (c : Bool) → Gives_ r true (sum_carrying r x y c v)
  with_carry r x y c = in_d r true (sum_word x y c) (with_ca v.xer (sum_carries x y c)) (of_mod (x + y + one_if c)) (of_carry v.xer (sum_carries x y c) are.xer) (λ e. absurd cc)

  with_shift : (r : Bool) (n : ℕ) → Gives_ r true (shifted_algebraic r n v)
  with_shift r n = in_a r true (arith_by v.s n) (with_ca v.xer (loses_ones v.s n)) (of_arith v.s n are.s) (of_carry v.xer (loses_ones v.s n) are.xer) (λ e. absurd cc)

  in_cr : (cr : ℕ) → cr < 2 ^ 32 → Gives_ true false (record (unchanged v) { cr = cr })
  in_cr cr h = record { d = are.s; a = are.a; cr = h; xer = are.xer; lr = are.lr; ctr = are.ctr; cr_kept = λ e. absurd cc; xer_kept = λ e. refl; lr_kept = λ e. refl; ctr_kept = λ e. refl }

  by_load : (width x n : ℕ) → n < 2 ^ 32 → Gives_ false false (loads width x n v)
  by_load width x n h = record { d = h; a = are.a; cr = are.cr; xer = are.xer; lr = are.lr; ctr = are.ctr; cr_kept = λ e. refl; xer_kept = λ e. refl; lr_kept = λ e. refl; ctr_kept = λ e. refl }

  by_load_update : (width x n : ℕ) → n < 2 ^ 32 → Gives_ false false (updates (loads width x n v))
  by_load_update width x n h = record { d = h; a = of_mod (x + v.b); cr = are.cr; xer = are.xer; lr = are.lr; ctr = are.ctr; cr_kept = λ e. refl; xer_kept = λ e. refl; lr_kept = λ e. refl; ctr_kept = λ e. refl }

  by_store : (width x n : ℕ) → Gives_ false false (stores width x n v)
  by_store width x n = record { d = are.s; a = are.a; cr = are.cr; xer = are.xer; lr = are.lr; ctr = are.ctr; cr_kept = λ e. refl; xer_kept = λ e. refl; lr_kept = λ e. refl; ctr_kept = λ e. refl }

  by_store_update : (width x n : ℕ) → Gives_ false false (updates (stores width x n v))
  by_store_update width x n = record { d = are.s; a = of_mod (x + v.b); cr = are.cr; xer = are.xer; lr = are.lr; ctr = are.ctr; cr_kept = λ e. refl; xer_kept = λ e. refl; lr_kept = λ e. refl; ctr_kept = λ e. refl }

  of_special : (spr : ℕ) → special_value spr v < 2 ^ 32
  of_special spr = by_tests (eqb spr 1) (eqb spr 8)
    where
      by_tests : (b c : Bool) → cond b v.xer (cond c v.lr v.ctr) < 2 ^ 32
      by_tests true c = are.xer.0
      by_tests false true = are.lr
      by_tests false false = are.ctr

  put_special_gives : (x l c : Bool) → (x ≡ true → c ≡ false) → (l ≡ true → c ≡ false) → Gives false x l (not (x || l)) v (record (unchanged v) { xer = cond x (word_and v.s 0xE000007F) v.xer; lr = cond l v.s v.lr; ctr = cond c v.s v.ctr })
  put_special_gives x l c hx hl = record {
    d = are.s;
    a = are.a;
    cr = are.cr;
    xer = xers x;
    lr = words l are.lr;
    ctr = words c are.ctr;
    cr_kept = λ e. refl;
    xer_kept = λ e. ap (λ b. cond b (word_and v.s 0xE000007F) v.xer) e;
    lr_kept = λ e. ap (λ b. cond b v.s v.lr) e;
    ctr_kept = λ e. ap (λ b. cond b v.s v.ctr) (none x l hx hl e);
  }
    where
      xers : (b : Bool) → IsXer (cond b (word_and v.s 0xE000007F) v.xer)
      xers true = of_masked v.s
      xers false = are.xer

      words : (b : Bool) {n : ℕ} → n < 2 ^ 32 → cond b v.s n < 2 ^ 32
      words true h = are.s
      words false h = h

      none : (x l : Bool) → (x ≡ true → c ≡ false) → (l ≡ true → c ≡ false) → not (x || l) ≡ false → c ≡ false
      none true l p q e = p refl
      none false true p q e = q refl
      none false false p q e = absurd cc

  not_nine : (spr n : ℕ) → n < 9 → eqb spr n ≡ true → eqb spr 9 ≡ false
  not_nine spr n h e = grind (arith, nat_tests)

  rotate_word : (op : RotateOp) (by mb me : ℕ) → rotate op by mb me v < 2 ^ 32
  rotate_word Rlwinm by mb me = of_and _ _
  rotate_word Rlwnm by mb me = of_and _ _
  rotate_word Rlwimi by mb me = of_or _ _

  logic_immediate_word : (op : LogicImmediateOp) → logic_immediate op v.s v.b < 2 ^ 32
  logic_immediate_word Ori = of_or _ _
  logic_immediate_word Oris = of_or _ _
  logic_immediate_word Xori = of_xor _ _
  logic_immediate_word Xoris = of_xor _ _
  logic_immediate_word Andi = of_and _ _
  logic_immediate_word Andis = of_and _ _

  -- a row that may stand in a window
  pub plain_gives : (i : Instr) → is_plain i ≡ true → Gives (written i).cr (written i).xer (written i).lr (written i).ctr v (guest_row i v)
  plain_gives (Immediate Addi d a imm) plain = plain_d false _ (of_mod _)
  plain_gives (Immediate Addis d a imm) plain = plain_d false _ (of_mod _)
  plain_gives (Immediate Addic d a imm) plain = with_carry false v.a v.b false
  plain_gives (Immediate AddicRecord d a imm) plain = with_carry true v.a v.b false
  plain_gives (Immediate Subfic d a imm) plain = with_carry false (complement v.a) v.b true
  plain_gives (Immediate Mulli d a imm) plain = plain_d false _ (of_mod _)
  plain_gives (LogicImmediate op s a imm) plain = plain_a (logic_immediate_records op) _ (logic_immediate_word op)
  plain_gives (Load Lwz d a imm) plain = by_load 4 _ v.loaded are.loaded
  plain_gives (Load Lbz d a imm) plain = by_load 1 _ v.loaded are.loaded
  plain_gives (Load Lhz d a imm) plain = by_load 2 _ v.loaded are.loaded
  plain_gives (Load Lha d a imm) plain = by_load 2 _ _ (of_half v.loaded)
  plain_gives (Store Stw s a imm) plain = by_store 4 _ _
  plain_gives (Store Stb s a imm) plain = by_store 1 _ _
  plain_gives (Store Sth s a imm) plain = by_store 2 _ _
  plain_gives (LoadUpdate Lwzu d a imm) plain = by_load_update 4 _ v.loaded are.loaded
  plain_gives (LoadUpdate Lbzu d a imm) plain = by_load_update 1 _ v.loaded are.loaded
  plain_gives (LoadUpdate Lhzu d a imm) plain = by_load_update 2 _ v.loaded are.loaded
  plain_gives (LoadUpdate Lhau d a imm) plain = by_load_update 2 _ _ (of_half v.loaded)
  plain_gives (StoreUpdate Stwu s a imm) plain = by_store_update 4 _ _
  plain_gives (StoreUpdate Stbu s a imm) plain = by_store_update 1 _ _
  plain_gives (StoreUpdate Sthu s a imm) plain = by_store_update 2 _ _
  plain_gives (CompareImmediate Cmpi field a imm) plain = in_cr _ (of_field v.cr field _ _ _ _ are.cr)
  plain_gives (CompareImmediate Cmpli field a imm) plain = in_cr _ (of_field v.cr field _ _ _ _ are.cr)
  plain_gives (Rotate op s a by mask_begin mask_end records) plain = plain_a records _ (rotate_word op by mask_begin mask_end)
  plain_gives (Arithmetic Add d a b records) plain = plain_d records _ (of_mod _)
  plain_gives (Arithmetic Addc d a b records) plain = with_carry records v.a v.b false
  plain_gives (Arithmetic Adde d a b records) plain = with_carry records v.a v.b (ca v)
  plain_gives (Arithmetic Subf d a b records) plain = plain_d records _ (of_mod _)
  plain_gives (Arithmetic Subfc d a b records) plain = with_carry records (complement v.a) v.b true
  plain_gives (Arithmetic Subfe d a b records) plain = with_carry records (complement v.a) v.b (ca v)
  plain_gives (Arithmetic Mullw d a b records) plain = plain_d records _ (of_mod _)
  plain_gives (Arithmetic Mulhw d a b records) plain = plain_d records _ (high_word v.a v.b true are.a are.b)
  plain_gives (Arithmetic Mulhwu d a b records) plain = plain_d records _ (high_word v.a v.b false are.a are.b)
  plain_gives (ArithmeticUnary Addze d a records) plain = with_carry records v.a 0 (ca v)
  plain_gives (ArithmeticUnary Addme d a records) plain = with_carry records v.a ones (ca v)
  plain_gives (ArithmeticUnary Subfze d a records) plain = with_carry records (complement v.a) 0 (ca v)
  plain_gives (ArithmeticUnary Subfme d a records) plain = with_carry records (complement v.a) ones (ca v)
  plain_gives (ArithmeticUnary Neg d a records) plain = plain_d records _ (of_mod _)
  plain_gives (Logic And s a b records) plain = plain_a records _ (of_and _ _)
  plain_gives (Logic Or s a b records) plain = plain_a records _ (of_or _ _)
  plain_gives (Logic Xor s a b records) plain = plain_a records _ (of_xor _ _)
  plain_gives (Logic Nand s a b records) plain = plain_a records _ (of_complement _)
  plain_gives (Logic Nor s a b records) plain = plain_a records _ (of_complement _)
  plain_gives (Logic Eqv s a b records) plain = plain_a records _ (of_complement _)
  plain_gives (Logic Andc s a b records) plain = plain_a records _ (of_and _ _)
  plain_gives (Logic Orc s a b records) plain = plain_a records _ (of_or _ _)
  plain_gives (Logic Slw s a b records) plain = plain_a records _ (of_mod _)
  plain_gives (Logic Srw s a b records) plain = plain_a records _ (of_right v.s (v.b % 64) are.s)
  plain_gives (Logic Sraw s a b records) plain = with_shift records (v.b % 64)
  plain_gives (ShiftImmediate s a by records) plain = with_shift records by
  plain_gives (LogicUnary Cntlzw s a records) plain = plain_a records _ (of_zeros 32 v.s)
  plain_gives (LogicUnary Extsb s a records) plain = plain_a records _ (of_byte v.s)
  plain_gives (LogicUnary Extsh s a records) plain = plain_a records _ (of_half v.s)
  plain_gives (Compare Cmp field a b) plain = in_cr _ (of_field v.cr field _ _ _ _ are.cr)
  plain_gives (Compare Cmpl field a b) plain = in_cr _ (of_field v.cr field _ _ _ _ are.cr)
  plain_gives (MoveFromCr d) plain = plain_d false v.cr are.cr
  plain_gives (MoveToCr s mask) plain = in_cr _ (of_or _ _)
  plain_gives (MoveFromSpr d spr) plain = plain_d false _ (of_special spr)
  plain_gives (MoveToSpr s spr) plain = put_special_gives (spr == 1) (spr == 8) (eqb spr 9) (not_nine spr 1 (omega arith)) (not_nine spr 8 (omega arith))
  plain_gives Sync plain = gives_nothing
  plain_gives (LoadIndexed Lwzx d a b) plain = by_load 4 _ v.loaded are.loaded
  plain_gives (LoadIndexed Lbzx d a b) plain = by_load 1 _ v.loaded are.loaded
  plain_gives (LoadIndexed Lhzx d a b) plain = by_load 2 _ v.loaded are.loaded
  plain_gives (LoadIndexed Lhax d a b) plain = by_load 2 _ _ (of_half v.loaded)
  plain_gives (LoadIndexed Lwbrx d a b) plain = by_load 4 _ _ (of_joined (byte_of v.loaded 0) (byte_of v.loaded 1) (byte_of v.loaded 2) (byte_of v.loaded 3))
  plain_gives (LoadIndexed Lhbrx d a b) plain = by_load 2 _ _ (of_joined 0 0 (byte_of v.loaded 0) (byte_of v.loaded 1))
  plain_gives (StoreIndexed Stwx s a b) plain = by_store 4 _ _
  plain_gives (StoreIndexed Stbx s a b) plain = by_store 1 _ _
  plain_gives (StoreIndexed Sthx s a b) plain = by_store 2 _ _
  plain_gives (StoreIndexed Stwbrx s a b) plain = by_store 4 _ _
  plain_gives (StoreIndexed Sthbrx s a b) plain = by_store 2 _ _
  plain_gives (LoadIndexedUpdate Lwzux d a b) plain = by_load_update 4 _ v.loaded are.loaded
  plain_gives (LoadIndexedUpdate Lbzux d a b) plain = by_load_update 1 _ v.loaded are.loaded
  plain_gives (LoadIndexedUpdate Lhzux d a b) plain = by_load_update 2 _ v.loaded are.loaded
  plain_gives (LoadIndexedUpdate Lhaux d a b) plain = by_load_update 2 _ _ (of_half v.loaded)
  plain_gives (StoreIndexedUpdate Stwux s a b) plain = by_store_update 4 _ _
  plain_gives (StoreIndexedUpdate Stbux s a b) plain = by_store_update 1 _ _
  plain_gives (StoreIndexedUpdate Sthux s a b) plain = by_store_update 2 _ _
  plain_gives (MoveCrField to from) plain = in_cr _ (of_field v.cr to _ _ _ _ are.cr)
  plain_gives (CrLogic op d a b) plain = in_cr _ (of_bit v.cr (31 - d) _ (omega arith) are.cr)
  plain_gives Isync plain = gives_nothing
  plain_gives _ plain = absurd cc

  -- the branch that ends one
  pub branch_gives : (bo bi : ℕ) → Gives false false false true v (branch_on bo bi v)
  branch_gives bo bi = record { d = are.s; a = are.a; cr = are.cr; xer = are.xer; lr = are.lr; ctr = count (bo_bit bo 2); cr_kept = λ e. refl; xer_kept = λ e. refl; lr_kept = λ e. refl; ctr_kept = λ e. absurd cc }
    where
      count : (b : Bool) → cond b v.ctr (sum_word v.ctr (2 ^ 32 - 1) false) < 2 ^ 32
      count true = are.ctr
      count false = of_mod _
