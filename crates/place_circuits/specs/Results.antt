-- Where the results of ops go.
use Rattle.std.specs.Prelude.{◌<◌, ◌+◌, ◌==◌, if◌then◌else◌, ℕ}
use Rattle.word_kit.specs.Prelude.{byte_of, joined}
use Rattle.place_circuits.specs.Places.{with_place}
use Rattle.place_circuits.specs.Sources.{IsWidth, AreBytes, IsAddress}
use Rattle.place_circuits.specs.declared.results.Results.{Results}
use Rattle.place_circuits.specs.declared.results.Results.TheVariants.{Nowhere, Into, Lowest, Bytes, Both, High, Store}

abbrev pub AreResults : Results → Type 0
AreResults Nowhere = Unit {0}
AreResults (Into p) = p < 64
AreResults (Lowest p width) = (p < 64) × IsWidth width
AreResults (Bytes first width) = AreBytes first width
AreResults (Both p q) = (p < 64) × (q < 64)
AreResults (High q) = q < 64
AreResults (Store a width) = IsAddress a

-- a number with its lowest bytes replaced by those of another
abbrev pub with_lowest : ℕ → ℕ → ℕ → ℕ
with_lowest width n old =
    if width == 1 then joined (byte_of old 3) (byte_of old 2) (byte_of old 1) (byte_of n 0)
    else if width == 2 then joined (byte_of old 3) (byte_of old 2) (byte_of n 1) (byte_of n 0)
    else n

-- the lowest bytes of a number at places one after another
abbrev pub with_bytes : ℕ → ℕ → ℕ → (ℕ → ℕ) → ℕ → ℕ
with_bytes first width n t =
    let one = with_place first (byte_of n 0) t in
    let two = with_place (first + 1) (byte_of n 1) one in
    if width == 1 then one else if width == 2 then two else with_place (first + 3) (byte_of n 3) (with_place (first + 2) (byte_of n 2) two)

-- the places behind an op with this result and this second one; what is stored goes to none
abbrev pub put_values : Results → ℕ → ℕ → (ℕ → ℕ) → ℕ → ℕ
put_values Nowhere n high t = t
put_values (Into p) n high t = with_place p n t
put_values (Lowest p width) n high t = with_place p (with_lowest width n (t p)) t
put_values (Bytes first width) n high t = with_bytes first width n t
put_values (Both p q) n high t = with_place q high (with_place p n t)
put_values (High q) n high t = with_place q high t
put_values (Store a width) n high t = t
