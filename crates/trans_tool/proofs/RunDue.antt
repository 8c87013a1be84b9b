-- A run of a file that nothing hinders has the cause that the file's bytes are due to have, or memory ran out.
use Rattle.std.proofs.Common.{◌≡◌, ◌≢◌, ◌≤◌, ◌⊎◌, inl, inr, ℕ, List, [], ◌∷◌, length, drop, Option, Some, refl, sym, ap, ◌∙◌, subst, arith}
use Rattle.std.proofs.lemmas.Fmt.{decimal_injective}
use Rattle.std.proofs.lemmas.Grind.{common_steps}
use Rattle.machines.specs.Prelude.{Kind, PowerPc, Ia32, Program, End, Instr, ReadsWords, Fetched, ReadsOps, guest_machine, guest_start, host_machine, host_start}
use Rattle.space.specs.declared.call.End.TheVariants as ending
use Rattle.elf_load.specs.Prelude.{IsProgramOf, IsFirstFault}
use Rattle.outside.specs.Causes.{Rose}
use Rattle.runner.specs.Prelude.{Bytes, HasWholeRun, Streams, Told, Attended}
use Rattle.runner.proofs.Whole.{whole_if_calm}
use Rattle.trans_tool.specs.Prelude.{IsLonger, Outside, kind_of, IsFile, IsTold, IsUsage, IsRunLine, IsName, steps_option, AttendedOn, RunsWholeOn, RanTo, EndsRun, cause_of, IsDueEnd, IsDueRun, IsUnhinderedRun, Comes, Cause}
use Rattle.trans_tool.specs.declared.cause.Cause.TheVariants as cause
use Rattle.trans_tool.proofs.Completing.{some_same, no_run, no_list, same_told}

-- the option names one number, and is no name of a file
one_option : (m n : ℕ) → m ≤ 1000000000000 → n ≤ 1000000000000 → steps_option m ≡ steps_option n → m ≡ n
one_option m n le le' e = decimal_injective m n (omega (arith, le)) (omega (arith, le')) (ap (drop 8) e)

option_unnamed : (word : List ℕ) (n : ℕ) → word ≡ steps_option n → IsName word → ⊥
option_unnamed word n is named = let no = named.no_option in grind (arith, common_steps)

second_of : List (List ℕ) → List ℕ
second_of [] = []
second_of (w ∷ []) = []
second_of (w ∷ x ∷ ws) = x

third_of : List (List ℕ) → List ℕ
third_of [] = []
third_of (w ∷ []) = []
third_of (w ∷ x ∷ []) = []
third_of (w ∷ x ∷ y ∷ ws) = y

-- one run is named
one_line : (words : List (List ℕ)) (f g : List ℕ) (m n : ℕ) → IsName f → IsName g → IsRunLine words f m → IsRunLine words g n → (f ≡ g) × (m ≡ n)
unfolding second_of third_of
one_line words f g m n nf ng (inl a) (inl b) = (ap second_of (sym a.0 ∙ b.0), a.1 ∙ sym b.1)
one_line words f g m n nf ng (inl a) (inr (inl b)) = let l : 2 ≡ 3 = ap length (sym a.0 ∙ b.0) in absurd (omega (arith, l))
one_line words f g m n nf ng (inl a) (inr (inr b)) = let l : 2 ≡ 3 = ap length (sym a.0 ∙ b.0) in absurd (omega (arith, l))
one_line words f g m n nf ng (inr (inl a)) (inl b) = let l : 3 ≡ 2 = ap length (sym a.0 ∙ b.0) in absurd (omega (arith, l))
one_line words f g m n nf ng (inr (inr a)) (inl b) = let l : 3 ≡ 2 = ap length (sym a.0 ∙ b.0) in absurd (omega (arith, l))
one_line words f g m n nf ng (inr (inl a)) (inr (inl b)) = (ap second_of (sym a.0 ∙ b.0), one_option m n a.1 b.1 (ap third_of (sym a.0 ∙ b.0)))
one_line words f g m n nf ng (inr (inl a)) (inr (inr b)) = absurd (option_unnamed f n (ap second_of (sym a.0 ∙ b.0)) nf)
one_line words f g m n nf ng (inr (inr a)) (inr (inl b)) = absurd (option_unnamed g m (ap second_of (sym b.0 ∙ a.0)) ng)
one_line words f g m n nf ng (inr (inr a)) (inr (inr b)) = (ap third_of (sym a.0 ∙ b.0), one_option m n a.1 b.1 (ap second_of (sym a.0 ∙ b.0)))

-- how the streams' counts stand still
pub record IsCalm (old new : Streams) : Type 0 where
  pub input : Rose old.input_faults new.input_faults → ⊥
  pub output : Rose old.output_faults new.output_faults → ⊥
  pub errors : Rose old.errors_faults new.errors_faults → ⊥

whole_run : {S : Type 0} (step : S → _) (start : S) (steps : ℕ) (old new : Streams) (before : Bytes) (e : End) → IsCalm old new → Attended step start steps old new before e → HasWholeRun step start steps before e
whole_run step start steps old new before e calm a = record { transfers = a.transfers; after = a.after; moved = whole_if_calm old new a.transfers a.counted calm.input calm.output calm.errors; runs = a.runs }

-- the run of a program whose calls are all answered whole, where no count rose
runs_whole : (kind : Kind) (words : ℕ → Option Instr) (ops : List ℕ → Option Fetched) (p : Program) (steps : ℕ) (old new : Streams) (before : Bytes) (e : End) → IsCalm old new → AttendedOn kind words ops p steps old new before e → RunsWholeOn kind words ops p steps before e
runs_whole PowerPc words ops p steps old new before e calm a = whole_run (guest_machine words p) (guest_start p) steps old new before e calm a
runs_whole Ia32 words ops p steps old new before e calm a = whole_run (host_machine ops p) (host_start p []) steps old new before e calm a

module _ (bytes : List ℕ) (words_read : ℕ → Option Instr) (ops_read : List ℕ → Option Fetched) (reads : ReadsWords words_read) (reads' : ReadsOps ops_read) (words : List (List ℕ)) (o : Outside) (old new after : Streams) (file : List ℕ) (steps : ℕ) (before : Bytes) (told : Told old before)
    (free : IsUnhinderedRun words o old new file steps bytes) (calm : IsCalm old after) where
  file_is : (held : List ℕ) → IsFile o file held → held ≡ bytes
  file_is held x = some_same held bytes (sym (x.held free.telling) ∙ free.held)

  ran : (end : End) (c : Cause) → c ≡ cause_of end → RanTo o file steps old after end → IsDueEnd words_read ops_read bytes steps before c
  ran end c is r =
      let same = file_is r.loaded.bytes r.loaded.held in
      record {
        within = subst (λ (b : List ℕ). length b ≤ 0x10000000) same r.loaded.held.within;
        program = r.program;
        loads = subst (λ (b : List ℕ). IsProgramOf (kind_of b) b r.program) same r.loaded.loads;
        end = end;
        runs = runs_whole r.program.kind words_read ops_read r.program steps old after before end calm (r.ran words_read ops_read before reads reads' told);
        is = is;
      }

  abbrev pub IsDueOr : Cause → Type 0
  IsDueOr c = IsDueRun words_read ops_read bytes steps before c ⊎ (c ≡ cause.Memory)

  ended : (c : Cause) → EndsRun o file steps old after c → IsDueOr c
  ended (cause.FileRead n) h = absurd (free.read h.1)
  ended (cause.TooLong n) h = let long : IsLonger 0x10000000 (Some bytes) = subst (IsLonger 0x10000000) free.held (h.1 free.telling) in inl (h.0, long)
  ended (cause.BadElf rule offset) h =
      let x = h.0 in
      let same = file_is x.bytes x.held in
      inl (subst (λ (b : List ℕ). length b ≤ 0x10000000) same x.held.within, subst (λ (b : List ℕ). IsFirstFault (kind_of b) b rule offset) same x.fault)
  ended (cause.GuestExit n) h = inl (ran (ending.Exit n) (cause.GuestExit n) refl h)
  ended cause.StepsSpent h = inl (ran ending.Running cause.StepsSpent refl h)
  ended cause.Trap h = inl (ran ending.Trap cause.Trap refl h)
  ended cause.Illegal h = inl (ran ending.Illegal cause.Illegal refl h)
  ended cause.Outside h = inl (ran ending.Outside cause.Outside refl h)
  ended cause.DivideFault h = inl (ran ending.DivideFault cause.DivideFault refl h)
  ended cause.Memory h = inr refl
  ended cause.Done h = absurd h
  ended cause.Usage h = absurd h
  ended (cause.FileWrite n) h = absurd h
  ended cause.OutFault h = absurd h
  ended cause.ErrFault h = absurd h

  pub run_comes : (c : Cause) → Comes words o old after c → IsDueOr c
  run_comes c (inl usage) = absurd (usage.unspelled.no_run file steps free.spelled)
  run_comes c (inr (inl h)) = absurd (no_run words h.from h.to file steps h.spelled.words_are free.spelled.words_are)
  run_comes c (inr (inr (inl h))) = absurd (no_list words h.file file steps h.spelled.words_are free.spelled.words_are)
  run_comes c (inr (inr (inr h))) =
      let same = one_line words h.file file h.steps steps h.spelled.named free.spelled.named h.spelled.words_are free.spelled.words_are in
      ended c (subst (λ (n : ℕ). EndsRun o file n old after c) same.1 (subst (λ (f : List ℕ). EndsRun o f h.steps old after c) same.0 h.ends))

-- a count that stands behind the command stood before its line
pub calm_before : (a b c : ℕ) → b ≤ c → (Rose a c → ⊥) → Rose a b → ⊥
calm_before a b c le calm rose = calm (omega (arith, le, rose))

pub calm_behind : (a b c : ℕ) → a ≤ b → (Rose a c → ⊥) → Rose b c → ⊥
calm_behind a b c le calm rose = calm (omega (arith, le, rose))

-- the words spell no command
pub usage_comes : (words : List (List ℕ)) (o : Outside) (old new : Streams) (c : Cause) → IsUsage words → Comes words o old new c → c ≡ cause.Usage
usage_comes words o old new c usage (inl h) = h.usage
usage_comes words o old new c usage (inr (inl h)) = absurd (usage.no_translation h.from h.to h.spelled)
usage_comes words o old new c usage (inr (inr (inl h))) = absurd (usage.no_listing h.file h.spelled)
usage_comes words o old new c usage (inr (inr (inr h))) = absurd (usage.no_run h.file h.steps h.spelled)

-- what is told then
pub usage_told : (c told : Cause) (shown shown' : Option (List ℕ)) (faults faults' : ℕ) → c ≡ cause.Usage → IsTold c told shown shown' faults faults' ⊎ ((c ≢ cause.Usage) × IsTold cause.Memory told shown shown' faults faults') → (told ≡ cause.Usage) ⊎ (told ≡ cause.ErrFault)
usage_told c told shown shown' faults faults' is (inl (inl line)) = inl (line.1 ∙ is)
usage_told c told shown shown' faults faults' is (inl (inr (inl line))) = inl (line.1 ∙ is)
usage_told c told shown shown' faults faults' is (inl (inr (inr fault))) = inr fault.1
usage_told c told shown shown' faults faults' is (inr h) = absurd (h.0 is)

failed : (c told : Cause) (shown shown' : Option (List ℕ)) (faults faults' : ℕ) → c ≢ cause.ErrFault → IsTold c told shown shown' faults faults' → told ≡ cause.ErrFault → Rose faults faults'
failed c told shown shown' faults faults' apart (inl line) is = absurd (apart (sym line.1 ∙ is))
failed c told shown shown' faults faults' apart (inr (inl line)) is = absurd (apart (sym line.1 ∙ is))
failed c told shown shown' faults faults' apart (inr (inr fault)) is = fault.2

-- ErrFault is told only where the errors failed
pub fault_told : (c told : Cause) (shown shown' : Option (List ℕ)) (faults faults' : ℕ) → c ≢ cause.ErrFault → IsTold c told shown shown' faults faults' ⊎ ((c ≢ cause.Usage) × IsTold cause.Memory told shown shown' faults faults') → told ≡ cause.ErrFault → Rose faults faults'
fault_told c told shown shown' faults faults' apart (inl line) is = failed c told shown shown' faults faults' apart line is
fault_told c told shown shown' faults faults' apart (inr (h, line)) is = failed cause.Memory told shown shown' faults faults' (λ e. cc) line is

pub rose_from : (a b c : ℕ) → a ≤ b → Rose b c → Rose a c
rose_from a b c le rose = omega (arith, le, rose)

-- the cause that came, or want of memory, is told where the errors don't fail
pub due_told : (P : Cause → Type 0) (c told : Cause) (shown shown' : Option (List ℕ)) (faults faults' : ℕ) → P c ⊎ (c ≡ cause.Memory) → IsTold c told shown shown' faults faults' ⊎ ((c ≢ cause.Usage) × IsTold cause.Memory told shown shown' faults faults') → (Rose faults faults' → ⊥) → P told ⊎ (told ≡ cause.Memory)
due_told P c told shown shown' faults faults' came (inl (inl line)) calm = same_told P c told line.1 came
due_told P c told shown shown' faults faults' came (inl (inr (inl line))) calm = same_told P c told line.1 came
due_told P c told shown shown' faults faults' came (inl (inr (inr fault))) calm = absurd (calm fault.2)
due_told P c told shown shown' faults faults' came (inr (h, inl line)) calm = inr line.1
due_told P c told shown shown' faults faults' came (inr (h, inr (inl line))) calm = inr line.1
due_told P c told shown shown' faults faults' came (inr (h, inr (inr fault))) calm = absurd (calm fault.2)
