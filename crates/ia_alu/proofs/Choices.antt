-- Rows read the choice of what their op leaves undefined, and of nothing else.
use Rattle.std.proofs.Common.{◌≡◌, ℕ, ◌%◌, refl, ap, ◌∙◌, Bool, true, false, cond, eqb, ltb, arith}
use Rattle.std.proofs.lemmas.Bool.{false≢true}
use Rattle.std.proofs.lemmas.Bool.Decides.{nat_tests}
use Rattle.ia_codec.specs.declared.op.ShiftOp.{ShiftOp}
use Rattle.ia_codec.specs.declared.op.AluOp.{AluOp}
use Rattle.ia_codec.specs.declared.op.AluOp.TheVariants.{Add, Or, Adc, Sbb, And, Sub, Xor, Cmp}
use Rattle.ia_codec.specs.declared.op.UnaryOp.TheVariants.{Not, Neg, Mul, Imul1, Div, Idiv}
use Rattle.ia_codec.specs.declared.op.ExtendOp.TheVariants.{MovzxByte, MovzxHalf, MovsxByte, MovsxHalf}
use Rattle.ia_codec.specs.declared.op.Op.{Op}
use Rattle.ia_codec.specs.declared.op.Op.TheVariants.{AluTo, AluFrom, AluImm, TestReg, TestImm, Unary, Imul, MovTo, MovFrom, MovImm, MovToImm, MovHalfTo, MovByteTo, MovByteFrom, Shift, ShiftByCl, Lea, Extend, Bswap, Set, Cmov, Bsr, Cdq, Jcc, Jmp, JmpTo, Int80, Int3, Ud2}
use Rattle.ia_codec.specs.Prelude.{Flags, HostValues, shift_result, shift_overflow, shift_flags, highest_one, host_row, alu_row, shift_row, divide_row}
use Rattle.ia_alu.specs.Undefined.{FlagName, CF, ZF, SF, OF, flag, is_undefined, is_result_undefined, shift_leaves, DefinedIsNotChosen, UndefinedFlagIsChosen, UndefinedResultIsChosen}
use Rattle.ia_alu.proofs.Told.{told}

-- other choices for the same values
chosen : HostValues → ℕ → Flags → HostValues
chosen v free free_flags = record v { free = free; free_flags = free_flags }

abbrev the_flags : Bool → Bool → Bool → Bool → Flags
the_flags cf zf sf of = record { cf = cf; zf = zf; sf = sf; of = of }

abbrev values : ℕ → ℕ → ℕ → Flags → ℕ → Flags → HostValues
values x y high flags free free_flags = record { x = x; y = y; high = high; flags = flags; free = free; free_flags = free_flags }

values_same : (n : ℕ) (c : Flags) {x x' y y' high high' : ℕ} {flags flags' : Flags} → x ≡ x' → y ≡ y' → high ≡ high' → flags ≡ flags' → values x y high flags n c ≡ values x' y' high' flags' n c
values_same n c a b d e = cc

flags_same : (c d : Flags) → c.cf ≡ d.cf → c.zf ≡ d.zf → c.sf ≡ d.sf → c.of ≡ d.of → c ≡ d
flags_same c d p q r s = built p q r s
  where
    built : {cf cf' zf zf' sf sf' of of' : Bool} → cf ≡ cf' → zf ≡ zf' → sf ≡ sf' → of ≡ of' → the_flags cf zf sf of ≡ the_flags cf' zf' sf' of'
    built p q r s = cc

is_chosen : (v w : HostValues) → v.x ≡ w.x → v.y ≡ w.y → v.high ≡ w.high → v.flags ≡ w.flags → chosen v w.free w.free_flags ≡ w
unfolding chosen
is_chosen v w a b c d = values_same w.free w.free_flags a b c d

long_is : (count : ℕ) → eqb count 0 ≡ false → eqb count 1 ≡ false → ltb 1 count ≡ true
long_is count p q = grind (arith, nat_tests)

not_0 : (count : ℕ) → ltb 1 count ≡ true → eqb count 0 ≡ false
not_0 count h = grind (arith, nat_tests)

not_1 : (count : ℕ) → ltb 1 count ≡ true → eqb count 1 ≡ false
not_1 count h = grind (arith, nat_tests)

-- what is chosen where neither test holds
neither : (s t old once : Bool) {a b : Bool} → (s ≡ false → t ≡ false → a ≡ b) → cond s old (cond t once a) ≡ cond s old (cond t once b)
neither true t old once h = refl
neither false true old once h = refl
neither false false old once h = h refl refl

last_of : {s t : Bool} (old once a : Bool) → s ≡ false → t ≡ false → cond s old (cond t once a) ≡ a
last_of {s} {t} old once a p q = ap (λ (u : Bool). cond u old (cond t once a)) p ∙ ap (λ (u : Bool). cond u once a) q

where_true : (t : Bool) {a b : ℕ} (h : ℕ) → (t ≡ true → a ≡ b) → cond t a h ≡ cond t b h
where_true true h e = e refl
where_true false h e = refl

first_of : {t : Bool} (a h : ℕ) → t ≡ true → cond t a h ≡ a
first_of a h e = ap (λ (t : Bool). cond t a h) e

shift_reads : (op : ShiftOp) (count : ℕ) (v : HostValues) (n : ℕ) (c : Flags) → (ltb 1 (count % 32) ≡ true → v.free_flags.of ≡ c.of) → shift_row op count v ≡ shift_row op count (chosen v n c)
unfolding chosen
shift_reads op count v n c h =
    let k = count % 32 in
    let flags = shift_flags op k v in
    ap (λ of. told (shift_result op v.x k) v.high flags.cf flags.zf flags.sf of false false)
    (neither (eqb k 0) (eqb k 1) v.flags.of (shift_overflow op v.x) (λ p q. h (long_is k p q)))

alu_reads : (op : AluOp) (v : HostValues) (n : ℕ) (c : Flags) → alu_row op v ≡ alu_row op (chosen v n c)
unfolding chosen
alu_reads Add v n c = refl
alu_reads Or v n c = refl
alu_reads Adc v n c = refl
alu_reads Sbb v n c = refl
alu_reads And v n c = refl
alu_reads Sub v n c = refl
alu_reads Xor v n c = refl
alu_reads Cmp v n c = refl

scan_reads : (v : HostValues) (n : ℕ) (c : Flags) → (eqb v.y 0 ≡ true → v.free ≡ n) → v.free_flags.cf ≡ c.cf → v.free_flags.sf ≡ c.sf → v.free_flags.of ≡ c.of →
    told (cond (eqb v.y 0) v.free (highest_one 32 v.y)) v.high v.free_flags.cf (eqb v.y 0) v.free_flags.sf v.free_flags.of false false
    ≡ told (cond (eqb v.y 0) n (highest_one 32 v.y)) v.high c.cf (eqb v.y 0) c.sf c.of false false
scan_reads v n c h a b d = let e = where_true (eqb v.y 0) (highest_one 32 v.y) h in cc

-- the row with other choices for what is defined
reads : (op : Op) (v : HostValues) (n : ℕ) (c : Flags) → (is_result_undefined op v ≡ true → v.free ≡ n) → ((f : FlagName) → is_undefined op v f ≡ true → flag f v.free_flags ≡ flag f c) → host_row op v ≡ host_row op (chosen v n c)
unfolding chosen
reads (AluTo op to from) v n c r h = alu_reads op v n c
reads (AluFrom op to from) v n c r h = alu_reads op v n c
reads (AluImm op to imm) v n c r h = alu_reads op v n c
reads (TestReg a b) v n c r h = refl
reads (TestImm a imm) v n c r h = refl
reads (Unary Not on) v n c r h = refl
reads (Unary Neg on) v n c r h = refl
reads (Unary Mul on) v n c r h = let z = h ZF refl in let s = h SF refl in cc
reads (Unary Imul1 on) v n c r h = let z = h ZF refl in let s = h SF refl in cc
reads (Unary Div on) v n c r h = ap (λ d. divide_row false (chosen v n d)) (flags_same v.free_flags c (h CF refl) (h ZF refl) (h SF refl) (h OF refl))
reads (Unary Idiv on) v n c r h = ap (λ d. divide_row true (chosen v n d)) (flags_same v.free_flags c (h CF refl) (h ZF refl) (h SF refl) (h OF refl))
reads (Imul to from) v n c r h = let z = h ZF refl in let s = h SF refl in cc
reads (MovTo to from) v n c r h = refl
reads (MovFrom to from) v n c r h = refl
reads (MovImm to imm) v n c r h = refl
reads (MovToImm to imm) v n c r h = refl
reads (MovHalfTo to from) v n c r h = refl
reads (MovByteTo to from) v n c r h = refl
reads (MovByteFrom to from) v n c r h = refl
reads (Shift op to by) v n c r h = shift_reads op by v n c (h OF)
reads (ShiftByCl op to) v n c r h = shift_reads op v.y v n c (h OF)
reads (Lea to from) v n c r h = refl
reads (Extend MovzxByte to from) v n c r h = refl
reads (Extend MovzxHalf to from) v n c r h = refl
reads (Extend MovsxByte to from) v n c r h = refl
reads (Extend MovsxHalf to from) v n c r h = refl
reads (Bswap reg) v n c r h = refl
reads (Set condition to) v n c r h = refl
reads (Cmov condition to from) v n c r h = refl
reads (Bsr to from) v n c r h = scan_reads v n c r (h CF refl) (h SF refl) (h OF refl)
reads Cdq v n c r h = refl
reads (Jcc condition rel) v n c r h = refl
reads (Jmp rel) v n c r h = refl
reads (JmpTo to) v n c r h = refl
reads Int80 v n c r h = refl
reads Int3 v n c r h = refl
reads Ud2 v n c r h = refl

pub defined_is_not_chosen : DefinedIsNotChosen
defined_is_not_chosen op v w s = reads op v w.free w.free_flags s.result_same s.choices_same ∙ ap (λ u. host_row op u) (is_chosen v w s.x_same s.y_same s.high_same s.flags_same)

pub shift_chosen : (op : ShiftOp) (count : ℕ) (v : HostValues) (f : FlagName) → shift_leaves count f ≡ true → flag f (shift_row op count v).flags ≡ flag f v.free_flags
shift_chosen op count v CF h = absurd (false≢true h)
shift_chosen op count v ZF h = absurd (false≢true h)
shift_chosen op count v SF h = absurd (false≢true h)
shift_chosen op count v OF h = last_of v.flags.of (shift_overflow op v.x) v.free_flags.of (not_0 (count % 32) h) (not_1 (count % 32) h)

pub undefined_flag_is_chosen : UndefinedFlagIsChosen
undefined_flag_is_chosen (Unary Not on) v f h = absurd (false≢true h)
undefined_flag_is_chosen (Unary Neg on) v f h = absurd (false≢true h)
undefined_flag_is_chosen (Unary Mul on) v CF h = absurd (false≢true h)
undefined_flag_is_chosen (Unary Mul on) v ZF h = refl
undefined_flag_is_chosen (Unary Mul on) v SF h = refl
undefined_flag_is_chosen (Unary Mul on) v OF h = absurd (false≢true h)
undefined_flag_is_chosen (Unary Imul1 on) v CF h = absurd (false≢true h)
undefined_flag_is_chosen (Unary Imul1 on) v ZF h = refl
undefined_flag_is_chosen (Unary Imul1 on) v SF h = refl
undefined_flag_is_chosen (Unary Imul1 on) v OF h = absurd (false≢true h)
undefined_flag_is_chosen (Unary Div on) v f h = refl
undefined_flag_is_chosen (Unary Idiv on) v f h = refl
undefined_flag_is_chosen (Imul to from) v CF h = absurd (false≢true h)
undefined_flag_is_chosen (Imul to from) v ZF h = refl
undefined_flag_is_chosen (Imul to from) v SF h = refl
undefined_flag_is_chosen (Imul to from) v OF h = absurd (false≢true h)
undefined_flag_is_chosen (Shift op to by) v f h = shift_chosen op by v f h
undefined_flag_is_chosen (ShiftByCl op to) v f h = shift_chosen op v.y v f h
undefined_flag_is_chosen (Bsr to from) v CF h = refl
undefined_flag_is_chosen (Bsr to from) v ZF h = absurd (false≢true h)
undefined_flag_is_chosen (Bsr to from) v SF h = refl
undefined_flag_is_chosen (Bsr to from) v OF h = refl
undefined_flag_is_chosen (AluTo op to from) v f h = absurd (false≢true h)
undefined_flag_is_chosen (AluFrom op to from) v f h = absurd (false≢true h)
undefined_flag_is_chosen (AluImm op to imm) v f h = absurd (false≢true h)
undefined_flag_is_chosen (TestReg a b) v f h = absurd (false≢true h)
undefined_flag_is_chosen (TestImm a imm) v f h = absurd (false≢true h)
undefined_flag_is_chosen (MovTo to from) v f h = absurd (false≢true h)
undefined_flag_is_chosen (MovFrom to from) v f h = absurd (false≢true h)
undefined_flag_is_chosen (MovImm to imm) v f h = absurd (false≢true h)
undefined_flag_is_chosen (MovToImm to imm) v f h = absurd (false≢true h)
undefined_flag_is_chosen (MovHalfTo to from) v f h = absurd (false≢true h)
undefined_flag_is_chosen (MovByteTo to from) v f h = absurd (false≢true h)
undefined_flag_is_chosen (MovByteFrom to from) v f h = absurd (false≢true h)
undefined_flag_is_chosen (Lea to from) v f h = absurd (false≢true h)
undefined_flag_is_chosen (Extend op to from) v f h = absurd (false≢true h)
undefined_flag_is_chosen (Bswap reg) v f h = absurd (false≢true h)
undefined_flag_is_chosen (Set condition to) v f h = absurd (false≢true h)
undefined_flag_is_chosen (Cmov condition to from) v f h = absurd (false≢true h)
undefined_flag_is_chosen Cdq v f h = absurd (false≢true h)
undefined_flag_is_chosen (Jcc condition rel) v f h = absurd (false≢true h)
undefined_flag_is_chosen (Jmp rel) v f h = absurd (false≢true h)
undefined_flag_is_chosen (JmpTo to) v f h = absurd (false≢true h)
undefined_flag_is_chosen Int80 v f h = absurd (false≢true h)
undefined_flag_is_chosen Int3 v f h = absurd (false≢true h)
undefined_flag_is_chosen Ud2 v f h = absurd (false≢true h)

pub undefined_result_is_chosen : UndefinedResultIsChosen
undefined_result_is_chosen (Bsr to from) v h = first_of v.free (highest_one 32 v.y) h
undefined_result_is_chosen (Unary op on) v h = absurd (false≢true h)
undefined_result_is_chosen (Imul to from) v h = absurd (false≢true h)
undefined_result_is_chosen (Shift op to by) v h = absurd (false≢true h)
undefined_result_is_chosen (ShiftByCl op to) v h = absurd (false≢true h)
undefined_result_is_chosen (AluTo op to from) v h = absurd (false≢true h)
undefined_result_is_chosen (AluFrom op to from) v h = absurd (false≢true h)
undefined_result_is_chosen (AluImm op to imm) v h = absurd (false≢true h)
undefined_result_is_chosen (TestReg a b) v h = absurd (false≢true h)
undefined_result_is_chosen (TestImm a imm) v h = absurd (false≢true h)
undefined_result_is_chosen (MovTo to from) v h = absurd (false≢true h)
undefined_result_is_chosen (MovFrom to from) v h = absurd (false≢true h)
undefined_result_is_chosen (MovImm to imm) v h = absurd (false≢true h)
undefined_result_is_chosen (MovToImm to imm) v h = absurd (false≢true h)
undefined_result_is_chosen (MovHalfTo to from) v h = absurd (false≢true h)
undefined_result_is_chosen (MovByteTo to from) v h = absurd (false≢true h)
undefined_result_is_chosen (MovByteFrom to from) v h = absurd (false≢true h)
undefined_result_is_chosen (Lea to from) v h = absurd (false≢true h)
undefined_result_is_chosen (Extend op to from) v h = absurd (false≢true h)
undefined_result_is_chosen (Bswap reg) v h = absurd (false≢true h)
undefined_result_is_chosen (Set condition to) v h = absurd (false≢true h)
undefined_result_is_chosen (Cmov condition to from) v h = absurd (false≢true h)
undefined_result_is_chosen Cdq v h = absurd (false≢true h)
undefined_result_is_chosen (Jcc condition rel) v h = absurd (false≢true h)
undefined_result_is_chosen (Jmp rel) v h = absurd (false≢true h)
undefined_result_is_chosen (JmpTo to) v h = absurd (false≢true h)
undefined_result_is_chosen Int80 v h = absurd (false≢true h)
undefined_result_is_chosen Int3 v h = absurd (false≢true h)
undefined_result_is_chosen Ud2 v h = absurd (false≢true h)
