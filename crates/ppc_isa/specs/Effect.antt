-- What an instruction reads and what it gives, as values. Which registers and locations they come from and go to
-- is said by the machine. This project's own.
use Rattle.std.specs.Prelude.{ℕ, Bool, false}

-- The old values: `a` of rA, `b` of rB or the immediate as the word that the row adds, ands or compares, `s` of the
-- register named by bits 6 to 10 (rS, or rD before the instruction), CR and XER as words of 32 bits (Power ISA Book I,
-- 2.3.1 and 3.2.2), and for a load the number that was loaded. What the instruction has no field for is 0.
pub record GuestValues : Type 0 where
  pub a : ℕ
  pub b : ℕ
  pub s : ℕ
  pub cr : ℕ
  pub xer : ℕ
  pub lr : ℕ
  pub ctr : ℕ
  pub loaded : ℕ

pub data Access : Type 0 where
  NoAccess : Access
  LoadAccess : Access
  StoreAccess : Access

-- The new values of rD, rA, CR, XER, LR and CTR; the one access: its address, the number stored, how many bytes, and
-- which way; and whether a branch is taken.
pub record Effect : Type 0 where
  pub d : ℕ
  pub a : ℕ
  pub cr : ℕ
  pub xer : ℕ
  pub lr : ℕ
  pub ctr : ℕ
  pub address : ℕ
  pub stored : ℕ
  pub width : ℕ
  pub kind : Access
  pub taken : Bool

-- nothing is changed: a field that an instruction doesn't write holds the old value, and an unused address or store is 0
abbrev pub unchanged : GuestValues → Effect
unchanged v = record {
  d = v.s;
  a = v.a;
  cr = v.cr;
  xer = v.xer;
  lr = v.lr;
  ctr = v.ctr;
  address = 0;
  stored = 0;
  width = 0;
  kind = NoAccess;
  taken = false;
}
