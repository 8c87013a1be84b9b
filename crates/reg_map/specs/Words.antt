-- Words of 32 bits.
pub use Rattle.word_kit.specs.Words.{sign_extended}
