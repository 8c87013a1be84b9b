use Rattle.std.proofs.Common.{◌≡◌, ◌+◌, ◌*◌, ◌≤◌, ◌++◌, drop, vec_len}
use Rattle.code_layout.specs.Prelude.{no_moves, places_of, items_length, items_bytes}
use Rattle.code_layout.proofs.code.put.Given as goal

abbrev pub invariant-loop-place : goal.invariant-loop-place
invariant-loop-place l = record {
  bytes : l.code.items ++ items_bytes (places_of l.layout) (l.layout.code + vec_len l.code) (drop l.place l.items) ≡ l.initial.code.items ++ items_bytes (places_of l.layout) (l.layout.code + vec_len l.initial.code) l.items;
  length : vec_len l.code + items_length no_moves (drop l.place l.items) ≡ vec_len l.initial.code + items_length no_moves l.items;
  bound : vec_len l.code ≤ vec_len l.initial.code + 32 * l.place;
}
