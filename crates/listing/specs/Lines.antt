-- A line of a listing. This project's own.
use Rattle.std.specs.Prelude.{ℕ, List, ◌++◌, codes}
use Rattle.std.specs.Int.{w32, to_be_bytes}
use Rattle.hex.specs.Hex.{encode_lower}

-- the address in eight hexadecimal digits, the bytes of the code in hexadecimal, and its name
unfoldable pub line : ℕ → List ℕ → List ℕ → List ℕ
line address code name =
    encode_lower (to_be_bytes w32 address) ++ codes " " ++ encode_lower code ++ codes " " ++ name ++ codes "\n"
