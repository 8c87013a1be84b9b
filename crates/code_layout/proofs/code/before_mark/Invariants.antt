use Rattle.std.proofs.Common.{◌≡◌, ◌+◌, ◌*◌, ◌≤◌, drop}
use Rattle.code_layout.specs.Prelude.{no_moves, before_mark}
use Rattle.code_layout.proofs.code.before_mark.Given as goal

abbrev pub invariant-loop-item : goal.invariant-loop-item
invariant-loop-item l = record {
  value : l.bytes + before_mark no_moves (drop l.item-index l.items) l.mark ≡ before_mark no_moves l.items l.mark;
  bound : l.bytes ≤ 32 * l.item-index;
}
