-- Accesses to memory, in the words of the host's places.
use Rattle.std.proofs.Common.{◌≡◌, ℕ, Bool, true, false, cond, Option, Some, None, refl, sym, ◌∙◌, ap, subst}
use Rattle.machines.specs.Prelude.{Program, Operand, Reg, Abs, Base, Pair, rights_of, each_byte, load, store, Core, Place, place_of, address_in, reads, puts}
use Rattle.space.specs.Memory.{Memory as Space}
use Rattle.access.specs.Kept.{Keeps, is_allowed}
use Rattle.machines.specs.Host.{Memory}
use Rattle.ia_step.specs.Prelude.{Parts, IsCore, Led}

-- an operand that is no register is in memory
pub memory_at : (size : ℕ) (o : Operand) (regs : ℕ → ℕ) → ((r : ℕ) → o ≡ Reg r → ⊥) → place_of size o regs ≡ Memory size (address_in (place_of size o regs))
memory_at size (Reg r) regs h = absurd (h r refl)
memory_at size (Abs d) regs h = refl
memory_at size (Base b d) regs h = refl
memory_at size (Pair b x s d) regs h = refl

pub read_at : (p : Program) (core : Core) (size at : ℕ) (place : Place) (r : Option ℕ) → place ≡ Memory size (address_in place) → at ≡ address_in place
    → r ≡ cond (each_byte (is_allowed p false) size at) (Some (load size at core.bytes)) None → r ≡ reads (rights_of p) core place
read_at p core size at place r e a h = h ∙ ap (λ place. reads (rights_of p) core place) (ap (Memory size) a ∙ sym e)

pub written_at : (p : Program) (core : Core) (size at : ℕ) (place : Place) (ok : Bool) (s : Parts) (v : ℕ) → place ≡ Memory size (address_in place) → at ≡ address_in place
    → Led p ok s (puts (rights_of p) core (Memory size at) v) → Led p ok s (puts (rights_of p) core place v)
written_at p core size at place ok s v e a h = subst (λ place. Led p ok s (puts (rights_of p) core place v)) (ap (Memory size) a ∙ sym e) h

pub memory_put : (p : Program) (s : Parts) (core : Core) (m : Space) (bytes : ℕ → ℕ) → IsCore p s core → Keeps p bytes m → IsCore p (record s { space = m }) (record core { bytes = bytes })
memory_put p s core m bytes h keeps = record { registers = h.registers; same_flags = h.same_flags; memory = keeps }

pub stored : (p : Program) (s : Parts) (core : Core) (m : Space) (size at v : ℕ) → IsCore p s core → true ≡ each_byte (is_allowed p true) size at
    → Keeps p (store size at v core.bytes) m → Led p true (record s { space = m }) (puts (rights_of p) core (Memory size at) v)
stored p s core m size at v h e keeps =
    subst (λ b. Led p true (record s { space = m }) (cond b (Some (record core { bytes = store size at v core.bytes })) None)) e (memory_put p s core m _ h keeps)

pub not_stored : (p : Program) (s : Parts) (core : Core) (size at v : ℕ) → false ≡ each_byte (is_allowed p true) size at
    → Led p false s (puts (rights_of p) core (Memory size at) v)
not_stored p s core size at v e =
    subst (λ b. Led p false s (cond b (Some (record core { bytes = store size at v core.bytes })) None)) e tt
