-- Symbolic ops that do a row are its tile.
use Rattle.std.proofs.Common.{◌≤◌, List, Option, Some, None}
use Rattle.machines.specs.Prelude.{Instr, IsLegal}
use Rattle.symbolic_tiles.specs.Prelude.{SymbolicOp, AreWellFormed, SymbolicState, IsTileOf, room_of}
use Rattle.symbolic_tiles.proofs.Done.{KeepsFields, OpsDo, ops_do_row}
use Rattle.symbolic_tiles.proofs.Results.{Then}

pub ops_are_tile : (i : Instr) (ops : List SymbolicOp) → IsLegal i → AreWellFormed ops → room_of ops ≤ 595 → KeepsFields i → OpsDo i ops → IsTileOf i ops
ops_are_tile i ops legal are short fields runs = record { well_formed = are; short = short; does = ops_do_row i ops legal are fields runs }

pub then_more : (P Q : SymbolicState → Type 0) (o : Option SymbolicState) → ((t : SymbolicState) → P t → Q t) → Then P o → Then Q o
then_more P Q None f h = absurd h
then_more P Q (Some t) f h = f t h
