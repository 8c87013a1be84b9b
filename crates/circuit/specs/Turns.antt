-- The shift or rotate of a word that each way to move its bits is.
use Rattle.std.specs.Prelude.{ℕ}
use Rattle.word_kit.specs.Prelude.{shifted_left, shifted_right, shifted_arith, rotated}
use Rattle.circuit.specs.Types.{Turn, Left, Right, Arith, Rotate}

abbrev pub turned_word : Turn → ℕ → ℕ → ℕ
turned_word Left x by = shifted_left x by
turned_word Right x by = shifted_right x by
turned_word Arith x by = shifted_arith x by
turned_word Rotate x by = rotated x by
