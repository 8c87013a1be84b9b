-- Windows as a rule has them: one to three guest words whose register fields have numbers of parameters.
use Rattle.std.specs.Prelude.{◌≡◌, ℕ, ◌+◌, ◌-◌, ◌^◌, ◌<◌, ◌≤◌, ◌||◌, nat_lt, if◌then◌else◌, Bool, false, IsTrue, List, [], ◌∷◌, Some, length, slice_get, count_by, Contains, IsBitSet}
use Rattle.std.specs.List.{flat_map}
use Rattle.ppc_isa.specs.declared.instr.Instr.{Instr}
use Rattle.ppc_isa.specs.Legal.{IsWordOf}
use Rattle.ppc_isa.specs.Locations.{locations_written}
use Rattle.rule_body.specs.declared.goal.Guest.{Guest}
use Rattle.rule_body.specs.Rows.{is_plain, is_ending, is_open, has_access}
use Rattle.rule_body.specs.Numbers.{numbers, AreNumbered, highest}

-- the words, the parameters, each true where it stands in a slot and false where it stands at home, and the set of dead
-- names as bits
pub record Template : Type 0 where
  pub guests : List Guest
  pub slots : List Bool
  pub dead : ℕ

-- the word is legal, and its row may stand there
pub record IsGuest (guest : Guest) (i : Instr) : Type 0 where
  pub word : IsWordOf guest.word i
  pub row : IsTrue (if guest.free then is_open i || is_ending i else is_plain i)

abbrev pub AreGuests : List Guest → List Instr → Type 0
AreGuests [] [] = Unit {0}
AreGuests (g ∷ gs) (i ∷ window) = IsGuest g i × AreGuests gs window
AreGuests _ _ = ⊥

-- none but the last is a conditional branch
abbrev pub AreStraight : List Instr → Type 0
AreStraight [] = Unit {0}
AreStraight (i ∷ []) = Unit {0}
AreStraight (i ∷ j ∷ window) = (is_ending i ≡ false) × AreStraight (j ∷ window)

-- the words are those of the instructions, which may stand one after another
pub record IsWindow (guests : List Guest) (window : List Instr) : Type 0 where
  pub few : length guests ≤ 3
  pub words : AreGuests guests window
  pub straight : AreStraight window
  pub one_access : count_by has_access window ≤ 1
  pub numbered : AreNumbered 0 (flat_map numbers window)

abbrev pub slot_count : List Bool → ℕ
slot_count slots = count_by (λ s. s) slots

-- each parameter has its place, at most three in slots
pub record IsPlaced (guests : List Guest) (slots : List Bool) : Type 0 where
  pub window : List Instr
  pub is : IsWindow guests window
  pub some : 0 < length guests
  pub parameters : length slots ≡ highest (flat_map numbers window)
  pub few : slot_count slots ≤ 3

-- The names of what may be dead are numbered from 0: p1 to p6, lr, ctr, cr0 to cr7, ca, so, ov, xc. Parameter k has the number
-- of a general register, k; the others have the numbers of their locations.
abbrev pub named : ℕ → ℕ
named k = if nat_lt k 6 then k + 1 else k + 26

pub record IsTemplate (t : Template) : Type 0 where
  pub placed : IsPlaced t.guests t.slots
  -- there are 20 names, and those of the dead are of locations that the window writes
  pub names : t.dead < 2 ^ 20
  pub written : (k : ℕ) → k < 20 → IsBitSet t.dead k → Contains (flat_map locations_written placed.window) (named k)

-- the word is that of a conditional branch in which a window may end
abbrev pub IsEndingWord : ℕ → Type 0
IsEndingWord w = (i : Instr) × IsWordOf w i × IsTrue (is_ending i)

-- the window ends in one
abbrev pub IsBranching : List Guest → Type 0
IsBranching guests = (g : Guest) × (slice_get guests (length guests - 1) ≡ Some g) × IsEndingWord g.word

-- guest j has an immediate that stands for every value
abbrev pub HasConstant : List Guest → ℕ → Type 0
HasConstant guests j = (g : Guest) × (slice_get guests j ≡ Some g) × IsTrue g.free × (IsEndingWord g.word → ⊥)
