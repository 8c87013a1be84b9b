-- A file that gave no program, and the streams, which stand.
use Rattle.std.proofs.Common.{ℕ, List, inl}
use Rattle.std.specs.Prelude.{⊤}
use Rattle.runner.specs.Prelude.{Streams}
use Rattle.trans_tool.specs.Prelude.{Outside, Stream, StreamStands, StreamsStand, EndsListing, EndsUnread, EndsRun, Cause, Done, GuestExit, Usage, BadElf, TooLong, FileRead, FileWrite, OutFault, ErrFault, Memory, StepsSpent, Trap, Illegal, DivideFault}
use Rattle.trans_tool.specs.declared.cause.Cause.TheVariants as cause

module _ (o : Outside) (file : List ℕ) where
  pub listing_unread : (out : Stream) (c : Cause) → EndsUnread o file ⊤ c → StreamStands out → EndsListing o out file c
  listing_unread out (FileRead number) h s = (h.0, h.1, s)
  listing_unread out (TooLong number) h s = (h.0, h.1, s)
  listing_unread out (BadElf rule offset) h s = (h.0, s)
  listing_unread out Memory h s = inl s
  listing_unread out Done h s = absurd h
  listing_unread out Usage h s = absurd h
  listing_unread out (FileWrite number) h s = absurd h
  listing_unread out OutFault h s = absurd h
  listing_unread out ErrFault h s = absurd h
  listing_unread out (GuestExit number) h s = absurd h
  listing_unread out StepsSpent h s = absurd h
  listing_unread out Trap h s = absurd h
  listing_unread out Illegal h s = absurd h
  listing_unread out cause.Outside h s = absurd h
  listing_unread out DivideFault h s = absurd h

  pub run_unread : (steps : ℕ) (old new : Streams) (c : Cause) → EndsUnread o file ⊤ c → StreamsStand old new → EndsRun o file steps old new c
  run_unread steps old new (FileRead number) h s = (h.0, h.1, s)
  run_unread steps old new (TooLong number) h s = (h.0, h.1, s)
  run_unread steps old new (BadElf rule offset) h s = (h.0, s)
  run_unread steps old new Memory h s = inl s
  run_unread steps old new Done h s = absurd h
  run_unread steps old new Usage h s = absurd h
  run_unread steps old new (FileWrite number) h s = absurd h
  run_unread steps old new OutFault h s = absurd h
  run_unread steps old new ErrFault h s = absurd h
  run_unread steps old new (GuestExit number) h s = absurd h
  run_unread steps old new StepsSpent h s = absurd h
  run_unread steps old new Trap h s = absurd h
  run_unread steps old new Illegal h s = absurd h
  run_unread steps old new cause.Outside h s = absurd h
  run_unread steps old new DivideFault h s = absurd h
