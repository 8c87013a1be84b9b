-- The types of the crate and their variants, for one `use` line.
pub use Rattle.circuit.specs.declared.literals.Lit.{Lit}
pub use Rattle.circuit.specs.declared.literals.Lit.TheVariants.{Const, Var}
pub use Rattle.circuit.specs.declared.nodes.FreeWord.{FreeWord}
pub use Rattle.circuit.specs.declared.nodes.FreeWord.TheVariants.{DivideFaults, ProductHigh, ProductLow, Quotient, Remainder}
pub use Rattle.circuit.specs.declared.nodes.Node.{Node}
pub use Rattle.circuit.specs.declared.nodes.Node.TheVariants.{And, Free, Input, Xor}
pub use Rattle.circuit.specs.declared.wiring.Turn.{Turn}
pub use Rattle.circuit.specs.declared.wiring.Turn.TheVariants.{Arith, Left, Right, Rotate}
pub use Rattle.circuit.specs.declared.words.BitGate.{BitGate}
pub use Rattle.circuit.specs.declared.words.BitGate.TheVariants.{Both, Choice, Differ, Either}
