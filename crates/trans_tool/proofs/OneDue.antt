-- Bytes are due to have no two causes.
use Rattle.std.proofs.Common.{Option, ◌≡◌, ◌<◌, ◌≤◌, ℕ, List, [], length, refl, sym, ap, ◌∙◌, subst, arith}
use Rattle.machines.specs.Prelude.{Kind, PowerPc, Program, Ia32, End, Instr, Fetched, guest_machine, guest_start, host_machine, host_start}
use Rattle.elf_load.specs.Prelude.{IsProgramOf, IsFirstFault}
use Rattle.elf_load.specs.declared.refusal.ElfRefusal.{ElfRefusal}
use Rattle.trans_tool.specs.Prelude.{kind_of, IsDue, IsDueListing, Cause, Done, GuestExit, Usage, BadElf, TooLong, FileRead, FileWrite, OutFault, ErrFault, Memory, StepsSpent, Trap, Illegal, DivideFault, RunsWholeOn, cause_of, IsDueEnd, IsDueRun}
use Rattle.trans_tool.specs.declared.cause.Cause.TheVariants as cause
use Rattle.runner.specs.Prelude.{Bytes}
use Rattle.runner.proofs.Whole.{one_whole_run}

abbrev pub OneProgram : Type 0
OneProgram = (kind : Kind) (bytes : List ℕ) (p q : Program) → IsProgramOf kind bytes p → IsProgramOf kind bytes q → p ≡ q

abbrev pub OneFault : Type 0
OneFault = (kind : Kind) (bytes : List ℕ) (a b : ElfRefusal) (at other : ℕ) → IsFirstFault kind bytes a at → IsFirstFault kind bytes b other → (a ≡ b) × (at ≡ other)

pub long_same : (a b : ℕ) → a ≡ 0 → b ≡ 0 → TooLong a ≡ TooLong b
long_same a b e f = ap TooLong (e ∙ sym f)

pub fault_same : (a b : ElfRefusal) (m n : ℕ) → (a ≡ b) × (m ≡ n) → BadElf a m ≡ BadElf b n
fault_same a b m n e = let f = e.0 in let g = e.1 in cc

pub no_fault : (kind : Kind) (bytes : List ℕ) (p : Program) (rule : ElfRefusal) (offset : ℕ) → IsProgramOf kind bytes p → IsFirstFault kind bytes rule offset → ⊥
no_fault kind bytes p rule offset loads fault = loads.passes rule offset fault.fails

-- bytes are due to have one cause
module _ (one_program : OneProgram) (one_fault : OneFault) (bytes : List ℕ) where
  pub one_due : (a b : Cause) → IsDue bytes a → IsDue bytes b → a ≡ b
  one_due (TooLong m) (TooLong n) x y = long_same m n x.0 y.0
  one_due (TooLong m) (BadElf r o) x y = absurd (let l = x.1 in let s = y.0 in omega (arith, l, s))
  one_due (TooLong m) Done x y = absurd (let l = x.1 in let s = y.0 in omega (arith, l, s))
  one_due (BadElf r o) (TooLong m) x y = absurd (let l = y.1 in let s = x.0 in omega (arith, l, s))
  one_due (BadElf r o) (BadElf q n) x y = fault_same r q o n (one_fault PowerPc bytes r q o n x.1 y.1)
  one_due (BadElf r o) Done x y = absurd (no_fault PowerPc bytes y.1.0 r o y.1.1 x.1)
  one_due Done (TooLong m) x y = absurd (let l = y.1 in let s = x.0 in omega (arith, l, s))
  one_due Done (BadElf r o) x y = absurd (no_fault PowerPc bytes x.1.0 r o x.1.1 y.1)
  one_due Done Done x y = refl
  one_due Usage b x y = absurd x
  one_due (FileRead f) b x y = absurd x
  one_due (FileWrite f) b x y = absurd x
  one_due OutFault b x y = absurd x
  one_due ErrFault b x y = absurd x
  one_due Memory b x y = absurd x
  one_due (GuestExit n) b x y = absurd x
  one_due StepsSpent b x y = absurd x
  one_due Trap b x y = absurd x
  one_due Illegal b x y = absurd x
  one_due cause.Outside b x y = absurd x
  one_due DivideFault b x y = absurd x
  one_due a _ x y = absurd y

  pub one_listing : (a b : Cause) → IsDueListing bytes a → IsDueListing bytes b → a ≡ b
  one_listing (TooLong m) (TooLong n) x y = long_same m n x.0 y.0
  one_listing (TooLong m) (BadElf r o) x y = absurd (let l = x.1 in let s = y.0 in omega (arith, l, s))
  one_listing (TooLong m) Done x y = absurd (let l = x.1 in let s = y.0 in omega (arith, l, s))
  one_listing (BadElf r o) (TooLong m) x y = absurd (let l = y.1 in let s = x.0 in omega (arith, l, s))
  one_listing (BadElf r o) (BadElf q n) x y = fault_same r q o n (one_fault (kind_of bytes) bytes r q o n x.1 y.1)
  one_listing (BadElf r o) Done x y = absurd (no_fault (kind_of bytes) bytes y.1.0 r o y.1.1 x.1)
  one_listing Done (TooLong m) x y = absurd (let l = y.1 in let s = x.0 in omega (arith, l, s))
  one_listing Done (BadElf r o) x y = absurd (no_fault (kind_of bytes) bytes x.1.0 r o x.1.1 y.1)
  one_listing Done Done x y = refl
  one_listing Usage b x y = absurd x
  one_listing (FileRead f) b x y = absurd x
  one_listing (FileWrite f) b x y = absurd x
  one_listing OutFault b x y = absurd x
  one_listing ErrFault b x y = absurd x
  one_listing Memory b x y = absurd x
  one_listing (GuestExit n) b x y = absurd x
  one_listing StepsSpent b x y = absurd x
  one_listing Trap b x y = absurd x
  one_listing Illegal b x y = absurd x
  one_listing cause.Outside b x y = absurd x
  one_listing DivideFault b x y = absurd x
  one_listing a _ x y = absurd y

whole_end : (kind : Kind) (words : ℕ → Option Instr) (ops : List ℕ → Option Fetched) (p : Program) (steps : ℕ) (before : Bytes) (e f : End) → RunsWholeOn kind words ops p steps before e → RunsWholeOn kind words ops p steps before f → e ≡ f
whole_end PowerPc words ops p steps before e f w x = one_whole_run (guest_machine words p) steps (guest_start p) before e f w x
whole_end Ia32 words ops p steps before e f w x = one_whole_run (host_machine ops p) steps (host_start p []) before e f w x

-- what a due cause says
data View (words : ℕ → Option Instr) (ops : List ℕ → Option Fetched) (bytes : List ℕ) (steps : ℕ) (before : Bytes) (c : Cause) : Type 0 where
  long : (file : ℕ) → c ≡ cause.TooLong file → file ≡ 0 → 0x10000000 < length bytes → View words ops bytes steps before c
  bad : (rule : _) (offset : ℕ) → c ≡ cause.BadElf rule offset → length bytes ≤ 0x10000000 → IsFirstFault (kind_of bytes) bytes rule offset → View words ops bytes steps before c
  ends : IsDueEnd words ops bytes steps before c → View words ops bytes steps before c

view : (words : ℕ → Option Instr) (ops : List ℕ → Option Fetched) (bytes : List ℕ) (steps : ℕ) (before : Bytes) (c : Cause) → IsDueRun words ops bytes steps before c → View words ops bytes steps before c
view words ops bytes steps before (cause.TooLong file) d = long file refl d.0 d.1
view words ops bytes steps before (cause.BadElf rule offset) d = bad rule offset refl d.0 d.1
view words ops bytes steps before cause.Done d = ends d
view words ops bytes steps before (cause.GuestExit n) d = ends d
view words ops bytes steps before cause.Usage d = ends d
view words ops bytes steps before (cause.FileRead f) d = ends d
view words ops bytes steps before (cause.FileWrite f) d = ends d
view words ops bytes steps before cause.OutFault d = ends d
view words ops bytes steps before cause.ErrFault d = ends d
view words ops bytes steps before cause.Memory d = ends d
view words ops bytes steps before cause.StepsSpent d = ends d
view words ops bytes steps before cause.Trap d = ends d
view words ops bytes steps before cause.Illegal d = ends d
view words ops bytes steps before cause.Outside d = ends d
view words ops bytes steps before cause.DivideFault d = ends d

module _ (one_program : OneProgram) (one_fault : OneFault) (words : ℕ → Option Instr) (ops : List ℕ → Option Fetched) (bytes : List ℕ) (steps : ℕ) (before : Bytes) where
  one_end : (a b : Cause) → IsDueEnd words ops bytes steps before a → IsDueEnd words ops bytes steps before b → a ≡ b
  one_end a b x y =
      let same = one_program (kind_of bytes) bytes y.program x.program y.loads x.loads in
      let runs : RunsWholeOn x.program.kind words ops x.program steps before y.end = subst (λ (p : Program). RunsWholeOn p.kind words ops p steps before y.end) same y.runs in
      x.is ∙ ap cause_of (whole_end x.program.kind words ops x.program steps before x.end y.end x.runs runs) ∙ sym y.is

  one_view : (a b : Cause) → View words ops bytes steps before a → View words ops bytes steps before b → a ≡ b
  one_view a b (long m is zero lt) (long n is' zero' lt') = is ∙ long_same m n zero zero' ∙ sym is'
  one_view a b (long m is zero lt) (bad r o is' le fault) = absurd (omega (arith, lt, le))
  one_view a b (long m is zero lt) (ends y) = absurd (let le = y.within in omega (arith, lt, le))
  one_view a b (bad r o is le fault) (long n is' zero lt) = absurd (omega (arith, lt, le))
  one_view a b (bad r o is le fault) (bad q n is' le' fault') = is ∙ fault_same r q o n (one_fault (kind_of bytes) bytes r q o n fault fault') ∙ sym is'
  one_view a b (bad r o is le fault) (ends y) = absurd (no_fault (kind_of bytes) bytes y.program r o y.loads fault)
  one_view a b (ends x) (long n is zero lt) = absurd (let le = x.within in omega (arith, lt, le))
  one_view a b (ends x) (bad r o is le fault) = absurd (no_fault (kind_of bytes) bytes x.program r o x.loads fault)
  one_view a b (ends x) (ends y) = one_end a b x y

  pub one_run : (a b : Cause) → IsDueRun words ops bytes steps before a → IsDueRun words ops bytes steps before b → a ≡ b
  one_run a b x y = one_view a b (view words ops bytes steps before a x) (view words ops bytes steps before b y)
