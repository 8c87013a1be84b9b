-- What is cited of these specifications, for one `use` line.
pub use Rattle.circuit.specs.Types.{And, Arith, Const, DivideFaults, Free, FreeWord, Input, Left, Lit, Node, ProductHigh, ProductLow, Quotient, Remainder, Right, Rotate, Turn, Var, Xor}
pub use Rattle.circuit.specs.Literals.{is_true, lit_reach, lit_truth, signed_reach, signed_variable}
unfoldable pub use Rattle.circuit.specs.Literals.{word_reach_below, word_value}
pub use Rattle.circuit.specs.Nodes.{IsOrdered, Says, free_reach, free_value, is_free, node_reach, told_place}
unfoldable pub use Rattle.circuit.specs.Nodes.{AllAgree, IsInput, free_count}
pub use Rattle.circuit.specs.Frame.{IsLater, MayUntie}
pub use Rattle.circuit.specs.Sharing.{IsApart, IsBegun, IsOneOfEach, IsShared, IsThere, swapped, swapped_word}
pub use Rattle.circuit.specs.Made.{BitMade, xor_node_made, xor_vars_made}
unfoldable pub use Rattle.circuit.specs.Made.{full_made, link_made, node_made, opposite, xor_made, xor_signed_made}
pub use Rattle.circuit.specs.WordsMade.{at, byte_bits, gate_made, join_bits, lit_bits, moved, moved_by, not_bits, stage_made, top_flipped}
unfoldable pub use Rattle.circuit.specs.WordsMade.{equal_made, shift_made, sum_made, word_made, word_of}
pub use Rattle.circuit.specs.BitGates.{gate_truth}
pub use Rattle.circuit.specs.Turns.{turned_word}
pub use Rattle.circuit.specs.GatesRange.{word_below}
pub use Rattle.circuit.specs.Extensions.{Extends, GateSays}
unfoldable pub use Rattle.circuit.specs.Extensions.{GatesAgree}
pub use Rattle.circuit.specs.Clauses.{AreClausesFor, IsReached, Names, SatisfiesGates, gate_clauses, inputs_of, is_gate}
unfoldable pub use Rattle.circuit.specs.Clauses.{chosen_clauses}
pub use Rattle.circuit.specs.Marks.{marked}
pub use Rattle.circuit.specs.Miters.{AreOwned, CanDiffer, IsSatisfiable, differences_made, differs, pair_at}
unfoldable pub use Rattle.circuit.specs.Miters.{final_clause}
