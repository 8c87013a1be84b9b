-- What each op leaves undefined, and so to the processor's choice: which of the four flags, and its result. The Intel
-- SDM, volume 2, under the op's name. For SF behind IMUL that is this project's own, since editions differ there.
use Rattle.std.specs.Prelude.{ℕ, ◌≡◌, ◌%◌, Bool, true, false, eqb, ltb}
use Rattle.ia_codec.specs.declared.op.UnaryOp.{UnaryOp}
use Rattle.ia_codec.specs.declared.op.UnaryOp.TheVariants.{Not, Neg, Mul, Imul1, Div, Idiv}
use Rattle.ia_codec.specs.declared.op.Op.{Op}
use Rattle.ia_codec.specs.declared.op.Op.TheVariants.{Unary, Imul, Shift, ShiftByCl, Bsr}
use Rattle.ia_codec.specs.Prelude.{Flags, HostValues, host_row}

pub data FlagName : Type 0 where
  CF : FlagName
  ZF : FlagName
  SF : FlagName
  OF : FlagName

abbrev pub flag : FlagName → Flags → Bool
flag CF flags = flags.cf
flag ZF flags = flags.zf
flag SF flags = flags.sf
flag OF flags = flags.of

-- a product leaves ZF and SF undefined
abbrev pub product_leaves : FlagName → Bool
product_leaves CF = false
product_leaves ZF = true
product_leaves SF = true
product_leaves OF = false

-- a division leaves all flags undefined
abbrev pub unary_leaves : UnaryOp → FlagName → Bool
unary_leaves Not f = false
unary_leaves Neg f = false
unary_leaves Mul f = product_leaves f
unary_leaves Imul1 f = product_leaves f
unary_leaves Div f = true
unary_leaves Idiv f = true

-- a shift or rotate leaves OF undefined where its count, modulo 32, is above 1
abbrev pub shift_leaves : ℕ → FlagName → Bool
shift_leaves count CF = false
shift_leaves count ZF = false
shift_leaves count SF = false
shift_leaves count OF = ltb 1 (count % 32)

-- the bit scan leaves CF, SF and OF undefined
abbrev pub scan_leaves : FlagName → Bool
scan_leaves CF = true
scan_leaves ZF = false
scan_leaves SF = true
scan_leaves OF = true

-- whether the op, with these values, leaves the flag undefined
abbrev pub is_undefined : Op → HostValues → FlagName → Bool
is_undefined (Unary op on) v f = unary_leaves op f
is_undefined (Imul to from) v f = product_leaves f
is_undefined (Shift op to by) v f = shift_leaves by f
is_undefined (ShiftByCl op to) v f = shift_leaves v.y f
is_undefined (Bsr to from) v f = scan_leaves f
is_undefined _ v f = false

-- whether it leaves its result undefined: the bit scan of 0 alone does
abbrev pub is_result_undefined : Op → HostValues → Bool
is_result_undefined (Bsr to from) v = eqb v.y 0
is_result_undefined _ v = false

-- the same values, and the same choices for all that the op leaves undefined with them
pub record IsSameChoice (op : Op) (v w : HostValues) : Type 0 where
  pub x_same : v.x ≡ w.x
  pub y_same : v.y ≡ w.y
  pub high_same : v.high ≡ w.high
  pub flags_same : v.flags ≡ w.flags
  pub result_same : is_result_undefined op v ≡ true → v.free ≡ w.free
  pub choices_same : (f : FlagName) → is_undefined op v f ≡ true → flag f v.free_flags ≡ flag f w.free_flags

-- no choice for what is defined is read
abbrev pub DefinedIsNotChosen : Type 0
DefinedIsNotChosen = (op : Op) (v w : HostValues) → IsSameChoice op v w → host_row op v ≡ host_row op w

-- each flag and result that is undefined is the choice
abbrev pub UndefinedFlagIsChosen : Type 0
UndefinedFlagIsChosen = (op : Op) (v : HostValues) (f : FlagName) → is_undefined op v f ≡ true → flag f (host_row op v).flags ≡ flag f v.free_flags

abbrev pub UndefinedResultIsChosen : Type 0
UndefinedResultIsChosen = (op : Op) (v : HostValues) → is_result_undefined op v ≡ true → (host_row op v).result ≡ v.free
