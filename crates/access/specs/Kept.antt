-- Memory as the definitions of the machines have it, and memory as it is kept: a program's segments with the bytes that stand in them. This project's own.
use Rattle.std.specs.Prelude.{◌≡◌, ℕ, Bool, true, false, Some, slice_get}
use Rattle.machines.specs.Prelude.{Segment, Program, is_permitted, is_held, is_writable}
use Rattle.space.specs.Memory.{Memory, AreApart, byte_at}

-- the code of the program may not be written
abbrev pub HasClosedCode : Program → Type 0
HasClosedCode p = (code : Segment) → slice_get p.segments p.code ≡ Some code → code.write ≡ false

-- the address lies in a segment of the program, or in a writable one where that is asked
abbrev pub is_allowed : Program → Bool → ℕ → Bool
is_allowed p false = is_held p.segments
is_allowed p true = is_writable p.segments

-- Memory of a run of the program keeps these bytes: it has the program's rights, at each address of a segment the byte,
-- and the program's code, which no store changes.
pub record Keeps (p : Program) (bytes : ℕ → ℕ) (m : Memory) : Type 0 where
  pub rights : (writable : Bool) (a : ℕ) → is_permitted m writable a ≡ is_allowed p writable a
  pub bytes_stand : (a : ℕ) → is_held p.segments a ≡ true → byte_at m a ≡ Some (bytes a)
  pub code_stands : slice_get m.segments m.code ≡ slice_get p.segments p.code
  pub closed : HasClosedCode p
  pub apart : AreApart m.segments
