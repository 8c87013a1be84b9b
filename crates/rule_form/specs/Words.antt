-- How the parts of a rule are written.
use Rattle.std.specs.Prelude.{ℕ, suc, ◌+◌, ◌/◌, ◌%◌, ◌==◌, nat_lt, if◌then◌else◌, Bool, List, [], ◌∷◌, map, Option, Some, None, ℤ, pos, negsuc, decimal, codes}
use Rattle.std.specs.List.{join_with_byte}
use Rattle.rule_body.specs.declared.line.Hole.{Hole}
use Rattle.rule_body.specs.declared.line.Hole.TheVariants.{S, Z, H, N}

-- a parameter in a slot is s, one at home h; without parameters a dash stands for them
abbrev pub letter : Bool → ℕ
letter slot = if slot then 115 else 104

abbrev pub slots_word : List Bool → List ℕ
slots_word [] = codes "-"
slots_word (slot ∷ more) = letter slot ∷ map letter more

-- the names of what may be dead, in their order
abbrev pub names : List (List ℕ)
names =
    codes "p1" ∷ codes "p2" ∷ codes "p3" ∷ codes "p4" ∷ codes "p5" ∷ codes "p6" ∷ codes "lr" ∷ codes "ctr"
    ∷ codes "cr0" ∷ codes "cr1" ∷ codes "cr2" ∷ codes "cr3" ∷ codes "cr4" ∷ codes "cr5" ∷ codes "cr6" ∷ codes "cr7"
    ∷ codes "ca" ∷ codes "so" ∷ codes "ov" ∷ codes "xc" ∷ []

-- the names that the bits choose, the lowest bit first
abbrev pub chosen : List (List ℕ) → ℕ → List (List ℕ)
chosen [] bits = []
chosen (name ∷ more) bits = if bits % 2 == 1 then name ∷ chosen more (bits / 2) else chosen more (bits / 2)

-- the chosen names with commas between them, or a dash
abbrev pub listed : List (List ℕ) → List ℕ
listed [] = codes "-"
listed (name ∷ more) = join_with_byte 44 (name ∷ more)

abbrev pub dead_word : ℕ → List ℕ
dead_word bits = listed (chosen names bits)

abbrev pub hole_letter : Hole → ℕ
hole_letter S = 115
hole_letter Z = 122
hole_letter H = 104
hole_letter N = 110

-- a letter and the number of a guest word, or a dash
abbrev pub hole_word : Option (Hole × ℕ) → List ℕ
hole_word None = codes "-"
hole_word (Some hole) = hole_letter hole.0 ∷ decimal hole.1

-- a hexadecimal digit, or a dash
abbrev pub digit : ℕ → ℕ
digit d = if nat_lt d 10 then 48 + d else 87 + d

abbrev pub take_word : Option ℕ → List ℕ
take_word None = codes "-"
take_word (Some condition) = digit condition ∷ []

-- a variable, with a minus before it where it is negated
abbrev pub literal_word : ℤ → List ℕ
literal_word (pos n) = decimal n
literal_word (negsuc n) = 45 ∷ decimal (suc n)
