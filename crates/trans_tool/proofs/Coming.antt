-- Want of memory may stand in place of every cause but that of the words.
use Rattle.std.proofs.Common.{◌≢◌, ◌⊎◌, inl, inr, ℕ, List, length, Option, subst, sym, arith}
use Rattle.std.proofs.Math.Seq.{take-length}
use Rattle.std.specs.Io.KnownBytes.{Appends}
use Rattle.outside.specs.Streams.{AppendsPrefix}
use Rattle.space.specs.declared.call.End.TheVariants as ending
use Rattle.runner.specs.Prelude.{Streams}
use Rattle.trans_tool.specs.Prelude.{IsTold, Outside, Stream, InputStands, StreamStands, output_in, Ends, EndsListing, EndsRun, Comes, Runs, Cause, Done, GuestExit, Usage, BadElf, TooLong, FileRead, FileWrite, OutFault, ErrFault, Memory, StepsSpent, Trap, Illegal, DivideFault}
use Rattle.trans_tool.specs.declared.cause.Cause.TheVariants as cause

pub ends-memory : (o : Outside) (from to : List ℕ) (cause : Cause) → Ends o from to cause → Ends o from to Memory
ends-memory o from to Done h = inr (h.others, h.source)
ends-memory o from to (FileRead file) h = inl h.2
ends-memory o from to (FileWrite file) h = inr (h.2, h.3)
ends-memory o from to Memory h = h
ends-memory o from to (BadElf rule offset) h = inl h.1
ends-memory o from to (TooLong file) h = inl h.2
ends-memory o from to Usage h = absurd h
ends-memory o from to OutFault h = absurd h
ends-memory o from to ErrFault h = absurd h
ends-memory o from to (GuestExit number) h = absurd h
ends-memory o from to StepsSpent h = absurd h
ends-memory o from to Trap h = absurd h
ends-memory o from to Illegal h = absurd h
ends-memory o from to cause.Outside h = absurd h
ends-memory o from to DivideFault h = absurd h

whole-prefix : (old new : Option (List ℕ)) (text : List ℕ) → Appends old new text → AppendsPrefix old new text
whole-prefix old new text put = (length text, omega arith, subst (λ v. Appends old new v) (sym (take-length text)) put)

listing-memory : (o : Outside) (out : Stream) (file : List ℕ) (cause : Cause) → EndsListing o out file cause → EndsListing o out file Memory
listing-memory o out file Done h = inr (h.0, h.1, λ words ops reads reads'. whole-prefix out.shown out.shown' _ (h.2 words ops reads reads'))
listing-memory o out file OutFault h = inr h.0
listing-memory o out file (FileRead number) h = inl h.2
listing-memory o out file (TooLong number) h = inl h.2
listing-memory o out file (BadElf rule offset) h = inl h.1
listing-memory o out file Memory h = h
listing-memory o out file Usage h = absurd h
listing-memory o out file (FileWrite number) h = absurd h
listing-memory o out file ErrFault h = absurd h
listing-memory o out file (GuestExit number) h = absurd h
listing-memory o out file StepsSpent h = absurd h
listing-memory o out file Trap h = absurd h
listing-memory o out file Illegal h = absurd h
listing-memory o out file cause.Outside h = absurd h
listing-memory o out file DivideFault h = absurd h

run-memory : (o : Outside) (file : List ℕ) (steps : ℕ) (old new : Streams) (cause : Cause) → EndsRun o file steps old new cause → EndsRun o file steps old new Memory
run-memory o file steps old new (GuestExit number) h = inr (inr (ending.Exit number, h))
run-memory o file steps old new StepsSpent h = inr (inr (ending.Running, h))
run-memory o file steps old new Trap h = inr (inr (ending.Trap, h))
run-memory o file steps old new Illegal h = inr (inr (ending.Illegal, h))
run-memory o file steps old new cause.Outside h = inr (inr (ending.Outside, h))
run-memory o file steps old new DivideFault h = inr (inr (ending.DivideFault, h))
run-memory o file steps old new (FileRead number) h = inl h.2
run-memory o file steps old new (TooLong number) h = inl h.2
run-memory o file steps old new (BadElf rule offset) h = inl h.1
run-memory o file steps old new Memory h = h
run-memory o file steps old new Done h = absurd h
run-memory o file steps old new Usage h = absurd h
run-memory o file steps old new (FileWrite number) h = absurd h
run-memory o file steps old new OutFault h = absurd h
run-memory o file steps old new ErrFault h = absurd h

comes-memory : (words : List (List ℕ)) (o : Outside) (old new : Streams) (cause : Cause) → cause ≢ Usage → Comes words o old new cause → Comes words o old new Memory
comes-memory words o old new cause apart (inl h) = absurd (apart h.usage)
comes-memory words o old new cause apart (inr (inl h)) =
    inr (inl (record { from = h.from; to = h.to; spelled = h.spelled; ends = ends-memory o h.from h.to cause h.ends; streams = h.streams }))
comes-memory words o old new cause apart (inr (inr (inl h))) =
    inr (inr (inl (record { file = h.file; spelled = h.spelled; ends = listing-memory o (output_in old new) h.file cause h.ends; files = h.files; input = h.input; errors = h.errors })))
comes-memory words o old new cause apart (inr (inr (inr h))) =
    inr (inr (inr (record { file = h.file; steps = h.steps; spelled = h.spelled; ends = run-memory o h.file h.steps old new cause h.ends; files = h.files })))

-- the command had come to its cause with the streams as they then were
pub runs-told : (words : List (List ℕ)) (o : Outside) (old ended new : Streams) (cause told : Cause) → InputStands ended new → StreamStands (output_in ended new) → Comes words o old ended cause
    → IsTold cause told ended.errors new.errors ended.errors_faults new.errors_faults
    ⊎ ((cause ≢ Usage) × IsTold Memory told ended.errors new.errors ended.errors_faults new.errors_faults) → Runs words o old new told
runs-told words o old ended new cause told input output comes (inl line) = record { cause = cause; ended = ended; comes = comes; line = line; input = input; output = output }
runs-told words o old ended new cause told input output comes (inr h) =
    record { cause = Memory; ended = ended; comes = comes-memory words o old ended cause h.0 comes; line = h.1; input = input; output = output }
