use Rattle.std.proofs.Common.{◌≡◌, ◌+◌, ◌*◌, ◌≤◌, drop}
use Rattle.code_layout.specs.Prelude.{no_moves, items_length}
use Rattle.code_layout.proofs.code.length.Given as goal

abbrev pub invariant-loop-item : goal.invariant-loop-item
invariant-loop-item l = record {
  value : l.bytes + items_length no_moves (drop l.item-index l.items) ≡ items_length no_moves l.items;
  bound : l.bytes ≤ 32 * l.item-index;
}
