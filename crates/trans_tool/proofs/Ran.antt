-- A run that ended so has the cause of that end, and the run of the host's machine is that of its program.
use Rattle.std.proofs.Common.{◌≡◌, ◌≢◌, refl, sym, subst, ℕ, List, []}
use Rattle.std.specs.Prelude.{Result, Ok, Err, IfOk, OnErr}
use Rattle.machines.specs.Prelude.{Ia32, Program, End, Outcome, Goes, Host, host_machine, host_start}
use Rattle.space.specs.declared.call.End.TheVariants as ending
use Rattle.ia_step.specs.Prelude.{Seen, Shows}
use Rattle.runner.specs.Prelude.{Bytes, Streams, Told, Attended, AttendedPartly, ShowsHost}
use Rattle.trans_tool.specs.Prelude.{Outside, RanTo, EndsRun, HasRunTo, HasRunPartly, AttendedOn, PartlyOn, cause_of}

pub ended_so : (o : Outside) (file : List ℕ) (steps : ℕ) (old new : Streams) (end : End) → end ≢ ending.Dry → RanTo o file steps old new end → EndsRun o file steps old new (cause_of end)
ended_so o file steps old new (ending.Exit number) apart ran = ran
ended_so o file steps old new ending.Trap apart ran = ran
ended_so o file steps old new ending.Illegal apart ran = ran
ended_so o file steps old new ending.Outside apart ran = ran
ended_so o file steps old new ending.DivideFault apart ran = ran
ended_so o file steps old new ending.Running apart ran = ran
ended_so o file steps old new ending.Dry apart ran = absurd (apart refl)

pub host_ran : {E : Type 0} → (r : Result End E) (program : Program) (steps : ℕ) (old new : Streams) (m : Seen) → program.kind ≡ Ia32 → Shows program m (Goes (host_start program []))
    → IfOk r (λ end. (step : Host → Outcome Host) (start : Host) (before : Bytes) → ShowsHost m step (Goes start) → Told old before → Attended step start steps old new before end)
    → IfOk r (λ end. HasRunTo program steps old new end)
host_ran (Ok end) program steps old new m is shows attended =
    λ words ops before reads_words reads_ops told. subst (λ kind. AttendedOn kind words ops program steps old new before end) (sym is) (attended (host_machine ops program) (host_start program []) before (record { ops = ops; reads = reads_ops; program = program; is = refl; shows = shows }) told)
host_ran (Err e) program steps old new m is shows attended = attended

pub host_ran_partly : {E : Type 0} → (r : Result End E) (program : Program) (steps : ℕ) (old new : Streams) (m : Seen) → program.kind ≡ Ia32 → Shows program m (Goes (host_start program []))
    → OnErr r ((step : Host → Outcome Host) (start : Host) (before : Bytes) → ShowsHost m step (Goes start) → Told old before → AttendedPartly step start steps old new before)
    → OnErr r (HasRunPartly program steps old new)
host_ran_partly (Ok end) program steps old new m is shows attended = attended
host_ran_partly (Err e) program steps old new m is shows attended =
    λ words ops before reads_words reads_ops told. subst (λ kind. PartlyOn kind words ops program steps old new before) (sym is) (attended (host_machine ops program) (host_start program []) before (record { ops = ops; reads = reads_ops; program = program; is = refl; shows = shows }) told)
