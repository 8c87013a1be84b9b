-- Bytes of a memory that are put piece by piece.
use Rattle.std.proofs.Common.{◌≡◌, ◌≤◌, ◌<◌, ◌+◌, ◌%◌, ◌^◌, ℕ, Bool, List, length, take, drop, Option, Some, sym, ◌∙◌, arith}
use Rattle.std.proofs.lemmas.List.{get_or-take, get_or-drop, length-take-le, length-drop, take-take}
use Rattle.std.proofs.lemmas.Grind.{same_number_lists}
use Rattle.std.specs.Io.KnownBytes.{Appends}
use Rattle.machines.specs.Prelude.{ArePermitted}
use Rattle.space.specs.Memory.{Memory}
use Rattle.outside.specs.Streams.{AppendsPrefix}
use Rattle.runner.specs.Prelude.{StandAt}
use Rattle.outside.proofs.Appending.{appends_two as more_put}

some_injective : {x y : ℕ} → Some x ≡ Some y → x ≡ y
some_injective e = grind arith

-- two lists that stand at one place are one
pub same_bytes : (m : Memory) (at : ℕ) (piece bytes : List ℕ) → length bytes ≡ length piece → StandAt m at piece → StandAt m at bytes → piece ≡ bytes
same_bytes m at piece bytes len here there =
    same_number_lists piece bytes (sym len) (λ k h. some_injective (sym (here k h) ∙ there k (omega (arith, len))))

-- the address of a part
pub part_at : (at done k : ℕ) → ((at + done) % 2 ^ 32 + k) % 2 ^ 32 ≡ (at + (done + k)) % 2 ^ 32
part_at at done k = omega arith

pub permitted_part : (m : Memory) (writable : Bool) (at count done size : ℕ) → done + size ≤ count → ArePermitted m writable at count → ArePermitted m writable ((at + done) % 2 ^ 32) size
permitted_part m writable at count done size le held k lt = rw (part_at at done k) (held (done + k) (omega arith))

pub length_part : (bytes : List ℕ) (done size : ℕ) → done + size ≤ length bytes → length (take size (drop done bytes)) ≡ size
length_part bytes done size le = length-take-le size (drop done bytes) (omega (arith, length-drop done bytes))

pub part_stands : (m : Memory) (at : ℕ) (bytes : List ℕ) (done size : ℕ) → done + size ≤ length bytes → StandAt m at bytes → StandAt m ((at + done) % 2 ^ 32) (take size (drop done bytes))
part_stands m at bytes done size le stand k lt =
    let small : k < size = omega (arith, lt, length_part bytes done size le) in
    rw (part_at at done k, get_or-take size (drop done bytes) k 0 small, get_or-drop done bytes k 0) (stand (done + k) (omega arith))

pub prefix_put : (old mid new : Option (List ℕ)) (bytes : List ℕ) (done size : ℕ) → done + size ≤ length bytes → Appends old mid (take done bytes) → AppendsPrefix mid new (take size (drop done bytes)) → AppendsPrefix old new bytes
prefix_put old mid new bytes done size le a (n, short, b) =
    let small : n ≤ size = omega (arith, short, length_part bytes done size le) in
    (done + n, omega arith, more_put old mid new bytes done n a (rw (sym (take-take n size (drop done bytes) small)) b))
