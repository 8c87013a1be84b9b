use Rattle.std.proofs.Common.{◌≡◌, ◌+◌, ◌++◌, drop, length, vec_len}
use Rattle.code_layout.specs.Prelude.{spelled}
use Rattle.code_layout.proofs.code.put_ops.Given as goal

abbrev pub invariant-loop-op : goal.invariant-loop-op
invariant-loop-op l = record {
  bytes : l.code.items ++ spelled (drop l.op-index l.ops) ≡ l.initial.code.items ++ spelled l.ops;
  length : vec_len l.code + length (spelled (drop l.op-index l.ops)) ≡ vec_len l.initial.code + length (spelled l.ops);
}
