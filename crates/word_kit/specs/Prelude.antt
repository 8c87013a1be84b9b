-- What is cited of these specifications, for one `use` line.
pub use Rattle.word_kit.specs.Words.{complement, difference_word, is_less, is_negative, one_if, same, sign_extended, signed, signed_in, sum_carries, sum_word, two_complement}
pub use Rattle.word_kit.specs.Bits.{bit_of, byte_of, is_masked, joined, rotated, shifted_arith, shifted_left, shifted_right, with_bit}
unfoldable pub use Rattle.word_kit.specs.Bits.{mask, of_bits, word_and, word_or, word_xor}
pub use Rattle.word_kit.specs.Products.{divide_faults, fits_word, product_high, product_low, quotient, remainder, signed_quotient, signed_remainder, two_words}
pub use Rattle.word_kit.specs.Operations.{FlagMade, Operations, QuotientMade, SumMade, WordMade}
pub use Rattle.word_kit.specs.Algebra.{GivesFlag, GivesWord}
pub use Rattle.word_kit.specs.PlainOperations.{plain_operations}
pub use Rattle.word_kit.specs.Formulas.{AreClauses, IsFormula, IsLiteral, Satisfies, literal_truth, variable}
