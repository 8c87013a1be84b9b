-- What moves and extensions make of a value: the Intel SDM, volume 2, under MOVZX, MOVSX, BSWAP and CDQ.
use Rattle.std.specs.Prelude.{ℕ, ◌%◌, ◌^◌}
use Rattle.word_kit.specs.Prelude.{sign_extended, byte_of, joined}
use Rattle.ia_codec.specs.Types.{ExtendOp, MovzxByte, MovzxHalf, MovsxByte, MovsxHalf}

-- the low byte or half, with zeros or its sign above it
abbrev pub extended : ExtendOp → ℕ → ℕ
extended MovzxByte y = y % 2 ^ 8
extended MovzxHalf y = y % 2 ^ 16
extended MovsxByte y = sign_extended 8 (y % 2 ^ 8)
extended MovsxHalf y = sign_extended 16 (y % 2 ^ 16)

-- the bytes in the opposite order
abbrev pub swapped : ℕ → ℕ
swapped y = joined (byte_of y 0) (byte_of y 1) (byte_of y 2) (byte_of y 3)
