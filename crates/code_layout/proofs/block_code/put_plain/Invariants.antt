use Rattle.std.proofs.Common.{◌≡◌, ◌++◌, take}
use Rattle.code_layout.specs.Prelude.{plain}
use Rattle.code_layout.proofs.block_code.put_plain.Given as goal

abbrev pub invariant-loop-op : goal.invariant-loop-op
invariant-loop-op l = l.items.items ≡ l.initial.items.items ++ plain (take l.op-index l.ops)
