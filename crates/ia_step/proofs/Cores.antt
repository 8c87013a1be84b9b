-- What stays when flags or registers change.
use Rattle.std.proofs.Common.{◌≡◌, ℕ, Bool, true, false, cond, Some, None, sym, subst, refl, ◌∙◌}
use Rattle.std.specs.Prelude.{slice_index}
use Rattle.machines.specs.Prelude.{Program, Plain, Flags as HostFlags, HostEffect as Outcome, rights_of, each_byte, Core, Place, Register, put_at, puts, leaves, puts_both, host_values, chosen_flags, chosen_word}
use Rattle.ia_alu.specs.declared.given.HostEffect.{HostEffect}
use Rattle.ia_alu.specs.Values.{outcome_of}
use Rattle.machines.specs.Host.{Memory}
use Rattle.ia_step.specs.Prelude.{Choice, Flags, Parts, flags_of, flags_in, choice_of, IsCore, Led, with_reg}

pub flags_put : (p : Program) (s : Parts) (core : Core) (f : Flags) (g : HostFlags) → IsCore p s core → flags_of f ≡ g → IsCore p (record s { flags = f }) (record core { flags = g })
flags_put p s core f g h e = record { registers = h.registers; same_flags = sym e; memory = h.memory }

-- the results of a product or a division, and its flags
pub both_put : (p : Program) (s : Parts) (core : Core) (made : HostEffect Plain ℕ Bool) (f : Flags) (e : Outcome)
    → IsCore p s (with_reg (with_reg core 0 made.result) 2 made.high) → flags_of f ≡ flags_in made → outcome_of (λ w. w) (λ b. b) made ≡ e
    → IsCore p (record s { flags = f }) (puts_both e core)
both_put p s core made f e h g told = subst (λ e. IsCore p (record s { flags = f }) (puts_both e core)) told (flags_put p s _ f _ h g)

-- an op's flags, behind its result
pub left : (p : Program) (place : Place) (old : Core) (s : Parts) (made : HostEffect Plain ℕ Bool) (f : Flags) (e : Outcome)
    → Led p true s (puts (rights_of p) old place made.result) → flags_of f ≡ flags_in made → outcome_of (λ w. w) (λ b. b) made ≡ e
    → Led p true (record s { flags = f }) (leaves (rights_of p) true e place old)
left p place old s made f e h g told =
    subst (λ e. Led p true (record s { flags = f }) (leaves (rights_of p) true e place old)) told (by_place place h)
  where
    by_writable : (size address : ℕ) (b : Bool) → Led p true s (cond b (Some (put_at old (Memory size address) made.result)) None)
        → Led p true (record s { flags = f }) (cond b (Some (put_at (record old { flags = flags_in made }) (Memory size address) made.result)) None)
    by_writable size address true l = flags_put p s _ f _ l g
    by_writable size address false l = l

    by_place : (place : Place) → Led p true s (puts (rights_of p) old place made.result)
        → Led p true (record s { flags = f }) (puts (rights_of p) (record old { flags = flags_in made }) place made.result)
    by_place (Register r) l = flags_put p s _ f _ l g
    by_place (Memory size address) l = by_writable size address (each_byte (rights_of p).writable size address) l

-- where the result can't be put, the op doesn't go through
pub not_left : (p : Program) (place : Place) (old : Core) (s : Parts) (made : HostEffect Plain ℕ Bool) (e : Outcome)
    → Led p false s (puts (rights_of p) old place made.result) → outcome_of (λ w. w) (λ b. b) made ≡ e
    → Led p false s (leaves (rights_of p) true e place old)
not_left p place old s made e h told =
    subst (λ e. Led p false s (leaves (rights_of p) true e place old)) told (by_place place h)
  where
    by_writable : (size address : ℕ) (b : Bool) → Led p false s (cond b (Some (put_at old (Memory size address) made.result)) None)
        → Led p false s (cond b (Some (put_at (record old { flags = flags_in made }) (Memory size address) made.result)) None)
    by_writable size address true l = l
    by_writable size address false l = l

    by_place : (place : Place) → Led p false s (puts (rights_of p) old place made.result)
        → Led p false s (puts (rights_of p) (record old { flags = flags_in made }) place made.result)
    by_place (Register r) l = l
    by_place (Memory size address) l = by_writable size address (each_byte (rights_of p).writable size address) l

-- an op without a result
pub flags_left : (p : Program) (place : Place) (old : Core) (s : Parts) (made : HostEffect Plain ℕ Bool) (f : Flags) (e : Outcome)
    → IsCore p s old → flags_of f ≡ flags_in made → outcome_of (λ w. w) (λ b. b) made ≡ e
    → Led p true (record s { flags = f }) (leaves (rights_of p) false e place old)
flags_left p place old s made f e h g told =
    subst (λ e. Led p true (record s { flags = f }) (leaves (rights_of p) false e place old)) told (flags_put p s _ f _ h g)

-- what an op reads
pub values_shown : (p : Program) (s : Parts) (core : Core) (choice : Choice) (free : Flags) (x y high word : ℕ) → IsCore p s core → high ≡ slice_index s.regs 2
    → word ≡ chosen_word (choice_of choice) → flags_of free ≡ chosen_flags (choice_of choice)
    → record { x = x; y = y; high = high; flags = flags_of s.flags; free = word; free_flags = flags_of free } ≡ host_values (choice_of choice) core x y
values_shown p s core choice free x y high word h e w told =
    let high_is : high ≡ core.regs 2 = e ∙ sym (h.registers 2) in
    let flags_are : flags_of s.flags ≡ core.flags = sym h.same_flags in
    rw (high_is, flags_are, told, w) refl
