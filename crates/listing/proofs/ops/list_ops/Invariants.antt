use Rattle.std.proofs.Common.{ℕ, ◌+◌, ◌-◌, ◌≤◌, List, Option, length, drop}
use Rattle.ia_codec.specs.declared.op.Op.{Op}
use Rattle.ia_codec.specs.Prelude.{IsReading}
use Rattle.listing.specs.Ops.{op_lines}
use Rattle.listing.proofs.Halfway.{Halfway}
use Rattle.listing.proofs.ops.list_ops.Given as goal

abbrev pub invariant-loop-place : goal.invariant-loop-place
invariant-loop-place g l = record {
  within : l.place ≤ length l.bytes;
  text : (read : List ℕ → Option (Op × ℕ)) → IsReading read
      → Halfway (g.S.Sink.shown l.initial.output) (g.S.Sink.shown l.output)
      (op_lines read (length (drop l.place l.bytes)) (l.code.at + l.place) (drop l.place l.bytes))
      (op_lines read (length l.bytes) l.code.at l.bytes);
  later : g.S.Sink.faults l.initial.output ≤ g.S.Sink.faults l.output;
}

abbrev pub decreases-loop-place : goal.decreases-loop-place
decreases-loop-place g l = length l.bytes - l.place
