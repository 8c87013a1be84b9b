-- What rows read of the number that was loaded.
use Rattle.std.proofs.Common.{◌≡◌, ℕ, Bool, true, false, refl, subst}
use Rattle.ppc_isa.specs.declared.instr.Instr.{Instr}
use Rattle.ppc_isa.specs.declared.instr.Instr.TheVariants.{Immediate, LogicImmediate, Load, Store, LoadUpdate, StoreUpdate, Multiple, TrapImmediate, CompareImmediate, Rotate, Branch, BranchConditional, SystemCall, Arithmetic, ArithmeticUnary, Logic, ShiftImmediate, LogicUnary, Compare, Trap, MoveFromCr, MoveToCr, MoveFromSpr, MoveToSpr, Sync, LoadIndexed, StoreIndexed, LoadIndexedUpdate, StoreIndexedUpdate, MoveCrField, CrLogic, Isync, BranchRegister}
use Rattle.ppc_isa.specs.declared.instr.ImmediateOp.TheVariants.{Addi, Addis, Addic, AddicRecord, Subfic, Mulli}
use Rattle.ppc_isa.specs.declared.instr.LogicImmediateOp.TheVariants.{Ori, Oris, Xori, Xoris, Andi, Andis}
use Rattle.ppc_isa.specs.declared.instr.LoadOp.TheVariants.{Lwz, Lbz, Lhz, Lha}
use Rattle.ppc_isa.specs.declared.instr.StoreOp.TheVariants.{Stw, Stb, Sth}
use Rattle.ppc_isa.specs.declared.instr.LoadUpdateOp.TheVariants.{Lwzu, Lbzu, Lhzu, Lhau}
use Rattle.ppc_isa.specs.declared.instr.StoreUpdateOp.TheVariants.{Stwu, Stbu, Sthu}
use Rattle.ppc_isa.specs.declared.instr.MultipleOp.TheVariants.{Lmw, Stmw}
use Rattle.ppc_isa.specs.declared.instr.CompareImmediateOp.TheVariants.{Cmpi, Cmpli}
use Rattle.ppc_isa.specs.declared.instr.RotateOp.TheVariants.{Rlwinm, Rlwnm, Rlwimi}
use Rattle.ppc_isa.specs.declared.instr.ArithmeticOp.TheVariants.{Add, Addc, Adde, Subf, Subfc, Subfe, Mullw, Mulhw, Mulhwu, Divw, Divwu}
use Rattle.ppc_isa.specs.declared.instr.ArithmeticUnaryOp.TheVariants.{Addze, Addme, Subfze, Subfme, Neg}
use Rattle.ppc_isa.specs.declared.instr.LogicOp.TheVariants.{And, Or, Xor, Nand, Nor, Eqv, Andc, Orc, Slw, Srw, Sraw}
use Rattle.ppc_isa.specs.declared.instr.LogicUnaryOp.TheVariants.{Cntlzw, Extsb, Extsh}
use Rattle.ppc_isa.specs.declared.instr.CompareOp.TheVariants.{Cmp, Cmpl}
use Rattle.ppc_isa.specs.declared.instr.LoadIndexedOp.TheVariants.{Lwzx, Lbzx, Lhzx, Lhax, Lwbrx, Lhbrx}
use Rattle.ppc_isa.specs.declared.instr.StoreIndexedOp.TheVariants.{Stwx, Stbx, Sthx, Stwbrx, Sthbrx}
use Rattle.ppc_isa.specs.declared.instr.LoadIndexedUpdateOp.TheVariants.{Lwzux, Lbzux, Lhzux, Lhaux}
use Rattle.ppc_isa.specs.declared.instr.StoreIndexedUpdateOp.TheVariants.{Stwux, Stbux, Sthux}
use Rattle.ppc_isa.specs.declared.instr.CrLogicOp.TheVariants.{Crand, Cror, Crxor, Crnand, Crnor, Creqv, Crandc, Crorc}
use Rattle.ppc_isa.specs.declared.instr.BranchRegisterOp.TheVariants.{Bclr, Bcctr}
use Rattle.ppc_isa.specs.Effect.{GuestValues}
use Rattle.row_runs.specs.Oracles.{IsPrompt}

abbrev told : Bool → Type 0
told true = Unit {0}
told false = ⊥

never : (P : Type 0) → true ≡ false → P
never P e = absurd (subst told e tt)

pub prompt : (i : Instr) (v : GuestValues) (n m : ℕ) → IsPrompt i v n m
prompt (Immediate Addi f1 f2 f3) v n m = record { kind = refl; width = refl; address = refl; still = λ q. refl }
prompt (Immediate Addis f1 f2 f3) v n m = record { kind = refl; width = refl; address = refl; still = λ q. refl }
prompt (Immediate Addic f1 f2 f3) v n m = record { kind = refl; width = refl; address = refl; still = λ q. refl }
prompt (Immediate AddicRecord f1 f2 f3) v n m = record { kind = refl; width = refl; address = refl; still = λ q. refl }
prompt (Immediate Subfic f1 f2 f3) v n m = record { kind = refl; width = refl; address = refl; still = λ q. refl }
prompt (Immediate Mulli f1 f2 f3) v n m = record { kind = refl; width = refl; address = refl; still = λ q. refl }
prompt (LogicImmediate Ori f1 f2 f3) v n m = record { kind = refl; width = refl; address = refl; still = λ q. refl }
prompt (LogicImmediate Oris f1 f2 f3) v n m = record { kind = refl; width = refl; address = refl; still = λ q. refl }
prompt (LogicImmediate Xori f1 f2 f3) v n m = record { kind = refl; width = refl; address = refl; still = λ q. refl }
prompt (LogicImmediate Xoris f1 f2 f3) v n m = record { kind = refl; width = refl; address = refl; still = λ q. refl }
prompt (LogicImmediate Andi f1 f2 f3) v n m = record { kind = refl; width = refl; address = refl; still = λ q. refl }
prompt (LogicImmediate Andis f1 f2 f3) v n m = record { kind = refl; width = refl; address = refl; still = λ q. refl }
prompt (Load Lwz f1 f2 f3) v n m = record { kind = refl; width = refl; address = refl; still = λ q. never _ q }
prompt (Load Lbz f1 f2 f3) v n m = record { kind = refl; width = refl; address = refl; still = λ q. never _ q }
prompt (Load Lhz f1 f2 f3) v n m = record { kind = refl; width = refl; address = refl; still = λ q. never _ q }
prompt (Load Lha f1 f2 f3) v n m = record { kind = refl; width = refl; address = refl; still = λ q. never _ q }
prompt (Store Stw f1 f2 f3) v n m = record { kind = refl; width = refl; address = refl; still = λ q. refl }
prompt (Store Stb f1 f2 f3) v n m = record { kind = refl; width = refl; address = refl; still = λ q. refl }
prompt (Store Sth f1 f2 f3) v n m = record { kind = refl; width = refl; address = refl; still = λ q. refl }
prompt (LoadUpdate Lwzu f1 f2 f3) v n m = record { kind = refl; width = refl; address = refl; still = λ q. never _ q }
prompt (LoadUpdate Lbzu f1 f2 f3) v n m = record { kind = refl; width = refl; address = refl; still = λ q. never _ q }
prompt (LoadUpdate Lhzu f1 f2 f3) v n m = record { kind = refl; width = refl; address = refl; still = λ q. never _ q }
prompt (LoadUpdate Lhau f1 f2 f3) v n m = record { kind = refl; width = refl; address = refl; still = λ q. never _ q }
prompt (StoreUpdate Stwu f1 f2 f3) v n m = record { kind = refl; width = refl; address = refl; still = λ q. refl }
prompt (StoreUpdate Stbu f1 f2 f3) v n m = record { kind = refl; width = refl; address = refl; still = λ q. refl }
prompt (StoreUpdate Sthu f1 f2 f3) v n m = record { kind = refl; width = refl; address = refl; still = λ q. refl }
prompt (Multiple Lmw f1 f2 f3) v n m = record { kind = refl; width = refl; address = refl; still = λ q. refl }
prompt (Multiple Stmw f1 f2 f3) v n m = record { kind = refl; width = refl; address = refl; still = λ q. refl }
prompt (TrapImmediate f0 f1 f2) v n m = record { kind = refl; width = refl; address = refl; still = λ q. refl }
prompt (CompareImmediate Cmpi f1 f2 f3) v n m = record { kind = refl; width = refl; address = refl; still = λ q. refl }
prompt (CompareImmediate Cmpli f1 f2 f3) v n m = record { kind = refl; width = refl; address = refl; still = λ q. refl }
prompt (Rotate Rlwinm f1 f2 f3 f4 f5 f6) v n m = record { kind = refl; width = refl; address = refl; still = λ q. refl }
prompt (Rotate Rlwnm f1 f2 f3 f4 f5 f6) v n m = record { kind = refl; width = refl; address = refl; still = λ q. refl }
prompt (Rotate Rlwimi f1 f2 f3 f4 f5 f6) v n m = record { kind = refl; width = refl; address = refl; still = λ q. refl }
prompt (Branch f0 f1 f2) v n m = record { kind = refl; width = refl; address = refl; still = λ q. refl }
prompt (BranchConditional f0 f1 f2 f3 f4) v n m = record { kind = refl; width = refl; address = refl; still = λ q. refl }
prompt SystemCall v n m = record { kind = refl; width = refl; address = refl; still = λ q. refl }
prompt (Arithmetic Add f1 f2 f3 f4) v n m = record { kind = refl; width = refl; address = refl; still = λ q. refl }
prompt (Arithmetic Addc f1 f2 f3 f4) v n m = record { kind = refl; width = refl; address = refl; still = λ q. refl }
prompt (Arithmetic Adde f1 f2 f3 f4) v n m = record { kind = refl; width = refl; address = refl; still = λ q. refl }
prompt (Arithmetic Subf f1 f2 f3 f4) v n m = record { kind = refl; width = refl; address = refl; still = λ q. refl }
prompt (Arithmetic Subfc f1 f2 f3 f4) v n m = record { kind = refl; width = refl; address = refl; still = λ q. refl }
prompt (Arithmetic Subfe f1 f2 f3 f4) v n m = record { kind = refl; width = refl; address = refl; still = λ q. refl }
prompt (Arithmetic Mullw f1 f2 f3 f4) v n m = record { kind = refl; width = refl; address = refl; still = λ q. refl }
prompt (Arithmetic Mulhw f1 f2 f3 f4) v n m = record { kind = refl; width = refl; address = refl; still = λ q. refl }
prompt (Arithmetic Mulhwu f1 f2 f3 f4) v n m = record { kind = refl; width = refl; address = refl; still = λ q. refl }
prompt (Arithmetic Divw f1 f2 f3 f4) v n m = record { kind = refl; width = refl; address = refl; still = λ q. refl }
prompt (Arithmetic Divwu f1 f2 f3 f4) v n m = record { kind = refl; width = refl; address = refl; still = λ q. refl }
prompt (ArithmeticUnary Addze f1 f2 f3) v n m = record { kind = refl; width = refl; address = refl; still = λ q. refl }
prompt (ArithmeticUnary Addme f1 f2 f3) v n m = record { kind = refl; width = refl; address = refl; still = λ q. refl }
prompt (ArithmeticUnary Subfze f1 f2 f3) v n m = record { kind = refl; width = refl; address = refl; still = λ q. refl }
prompt (ArithmeticUnary Subfme f1 f2 f3) v n m = record { kind = refl; width = refl; address = refl; still = λ q. refl }
prompt (ArithmeticUnary Neg f1 f2 f3) v n m = record { kind = refl; width = refl; address = refl; still = λ q. refl }
prompt (Logic And f1 f2 f3 f4) v n m = record { kind = refl; width = refl; address = refl; still = λ q. refl }
prompt (Logic Or f1 f2 f3 f4) v n m = record { kind = refl; width = refl; address = refl; still = λ q. refl }
prompt (Logic Xor f1 f2 f3 f4) v n m = record { kind = refl; width = refl; address = refl; still = λ q. refl }
prompt (Logic Nand f1 f2 f3 f4) v n m = record { kind = refl; width = refl; address = refl; still = λ q. refl }
prompt (Logic Nor f1 f2 f3 f4) v n m = record { kind = refl; width = refl; address = refl; still = λ q. refl }
prompt (Logic Eqv f1 f2 f3 f4) v n m = record { kind = refl; width = refl; address = refl; still = λ q. refl }
prompt (Logic Andc f1 f2 f3 f4) v n m = record { kind = refl; width = refl; address = refl; still = λ q. refl }
prompt (Logic Orc f1 f2 f3 f4) v n m = record { kind = refl; width = refl; address = refl; still = λ q. refl }
prompt (Logic Slw f1 f2 f3 f4) v n m = record { kind = refl; width = refl; address = refl; still = λ q. refl }
prompt (Logic Srw f1 f2 f3 f4) v n m = record { kind = refl; width = refl; address = refl; still = λ q. refl }
prompt (Logic Sraw f1 f2 f3 f4) v n m = record { kind = refl; width = refl; address = refl; still = λ q. refl }
prompt (ShiftImmediate f0 f1 f2 f3) v n m = record { kind = refl; width = refl; address = refl; still = λ q. refl }
prompt (LogicUnary Cntlzw f1 f2 f3) v n m = record { kind = refl; width = refl; address = refl; still = λ q. refl }
prompt (LogicUnary Extsb f1 f2 f3) v n m = record { kind = refl; width = refl; address = refl; still = λ q. refl }
prompt (LogicUnary Extsh f1 f2 f3) v n m = record { kind = refl; width = refl; address = refl; still = λ q. refl }
prompt (Compare Cmp f1 f2 f3) v n m = record { kind = refl; width = refl; address = refl; still = λ q. refl }
prompt (Compare Cmpl f1 f2 f3) v n m = record { kind = refl; width = refl; address = refl; still = λ q. refl }
prompt (Trap f0 f1 f2) v n m = record { kind = refl; width = refl; address = refl; still = λ q. refl }
prompt (MoveFromCr f0) v n m = record { kind = refl; width = refl; address = refl; still = λ q. refl }
prompt (MoveToCr f0 f1) v n m = record { kind = refl; width = refl; address = refl; still = λ q. refl }
prompt (MoveFromSpr f0 f1) v n m = record { kind = refl; width = refl; address = refl; still = λ q. refl }
prompt (MoveToSpr f0 f1) v n m = record { kind = refl; width = refl; address = refl; still = λ q. refl }
prompt Sync v n m = record { kind = refl; width = refl; address = refl; still = λ q. refl }
prompt (LoadIndexed Lwzx f1 f2 f3) v n m = record { kind = refl; width = refl; address = refl; still = λ q. never _ q }
prompt (LoadIndexed Lbzx f1 f2 f3) v n m = record { kind = refl; width = refl; address = refl; still = λ q. never _ q }
prompt (LoadIndexed Lhzx f1 f2 f3) v n m = record { kind = refl; width = refl; address = refl; still = λ q. never _ q }
prompt (LoadIndexed Lhax f1 f2 f3) v n m = record { kind = refl; width = refl; address = refl; still = λ q. never _ q }
prompt (LoadIndexed Lwbrx f1 f2 f3) v n m = record { kind = refl; width = refl; address = refl; still = λ q. never _ q }
prompt (LoadIndexed Lhbrx f1 f2 f3) v n m = record { kind = refl; width = refl; address = refl; still = λ q. never _ q }
prompt (StoreIndexed Stwx f1 f2 f3) v n m = record { kind = refl; width = refl; address = refl; still = λ q. refl }
prompt (StoreIndexed Stbx f1 f2 f3) v n m = record { kind = refl; width = refl; address = refl; still = λ q. refl }
prompt (StoreIndexed Sthx f1 f2 f3) v n m = record { kind = refl; width = refl; address = refl; still = λ q. refl }
prompt (StoreIndexed Stwbrx f1 f2 f3) v n m = record { kind = refl; width = refl; address = refl; still = λ q. refl }
prompt (StoreIndexed Sthbrx f1 f2 f3) v n m = record { kind = refl; width = refl; address = refl; still = λ q. refl }
prompt (LoadIndexedUpdate Lwzux f1 f2 f3) v n m = record { kind = refl; width = refl; address = refl; still = λ q. never _ q }
prompt (LoadIndexedUpdate Lbzux f1 f2 f3) v n m = record { kind = refl; width = refl; address = refl; still = λ q. never _ q }
prompt (LoadIndexedUpdate Lhzux f1 f2 f3) v n m = record { kind = refl; width = refl; address = refl; still = λ q. never _ q }
prompt (LoadIndexedUpdate Lhaux f1 f2 f3) v n m = record { kind = refl; width = refl; address = refl; still = λ q. never _ q }
prompt (StoreIndexedUpdate Stwux f1 f2 f3) v n m = record { kind = refl; width = refl; address = refl; still = λ q. refl }
prompt (StoreIndexedUpdate Stbux f1 f2 f3) v n m = record { kind = refl; width = refl; address = refl; still = λ q. refl }
prompt (StoreIndexedUpdate Sthux f1 f2 f3) v n m = record { kind = refl; width = refl; address = refl; still = λ q. refl }
prompt (MoveCrField f0 f1) v n m = record { kind = refl; width = refl; address = refl; still = λ q. refl }
prompt (CrLogic Crand f1 f2 f3) v n m = record { kind = refl; width = refl; address = refl; still = λ q. refl }
prompt (CrLogic Cror f1 f2 f3) v n m = record { kind = refl; width = refl; address = refl; still = λ q. refl }
prompt (CrLogic Crxor f1 f2 f3) v n m = record { kind = refl; width = refl; address = refl; still = λ q. refl }
prompt (CrLogic Crnand f1 f2 f3) v n m = record { kind = refl; width = refl; address = refl; still = λ q. refl }
prompt (CrLogic Crnor f1 f2 f3) v n m = record { kind = refl; width = refl; address = refl; still = λ q. refl }
prompt (CrLogic Creqv f1 f2 f3) v n m = record { kind = refl; width = refl; address = refl; still = λ q. refl }
prompt (CrLogic Crandc f1 f2 f3) v n m = record { kind = refl; width = refl; address = refl; still = λ q. refl }
prompt (CrLogic Crorc f1 f2 f3) v n m = record { kind = refl; width = refl; address = refl; still = λ q. refl }
prompt Isync v n m = record { kind = refl; width = refl; address = refl; still = λ q. refl }
prompt (BranchRegister Bclr f1 f2 f3) v n m = record { kind = refl; width = refl; address = refl; still = λ q. refl }
prompt (BranchRegister Bcctr f1 f2 f3) v n m = record { kind = refl; width = refl; address = refl; still = λ q. refl }
