-- add esi,5 does what addi r3,r3,2 and addi r3,r3,3 do, where r3 is in esi.
use Rattle.std.proofs.Common.{◌≡◌, ◌≢◌, ℕ, ◌+◌, ◌%◌, ◌^◌, ◌<◌, Bool, true, false, cond, eqb, if◌then◌else◌, rules, [], ◌∷◌, Some, None, refl, sym, ap, ◌∙◌, subst, arith}
use Rattle.std.proofs.lemmas.Bool.{eqb-true, eq-eqb, false≢true}
use Rattle.machines.specs.Prelude.{Add, AluImm, Reg, sum_word, sum_flags, esi, Goes, update, Guest, behind, Core, value_at}
use Rattle.reg_map.specs.Prelude.{home, home_size, location_range, in_slot, location_place, AreInRange}
use Rattle.machines.specs.Host.{Memory}
use Rattle.symbolic_tiles.specs.Prelude.{TilePostcondition, Implements}
use Rattle.symbolic_tiles.proofs.Memory.{update_other, update_keeps}
use Rattle.plan_example.specs.Example.{in_esi, both_adds}

-- the guest behind both words
abbrev pub after : Guest → Guest
after g = record g { locs = update (update g.locs 3 ((g.locs 3 + 2) % 2 ^ 32)) 3 (((g.locs 3 + 2) % 2 ^ 32 + 3) % 2 ^ 32); next = behind (behind g.next) }

pub goes_same : (g g' : Guest) → Goes g ≡ Goes g' → g ≡ g'
goes_same g g' e = cc

abbrev added : Core → Core
added core = record { regs = update core.regs esi (sum_word (core.regs esi) 5 false); flags = sum_flags (core.regs esi) 5 false; bytes = core.bytes }

-- each location's place behind the op
at_place : (area : ℕ) (g : Guest) (core : Core) (x : ℕ) → core.regs esi ≡ g.locs 3 → value_at core (location_place in_esi area x) ≡ g.locs x → value_at (added core) (location_place in_esi area x) ≡ (after g).locs x
at_place area g core x here shown = by_test (eqb 3 x) refl shown
  where
    by_test : (b : Bool) → eqb 3 x ≡ b → value_at core (in_slot (if b then Some esi else None) (Memory (home_size x) (area + home x))) ≡ g.locs x →
        value_at (added core) (in_slot (if b then Some esi else None) (Memory (home_size x) (area + home x))) ≡ (after g).locs x
    by_test true e s =
        let same : 3 ≡ x = eqb-true 3 x e in
        let sum : sum_word (core.regs esi) 5 false ≡ ((g.locs 3 + 2) % 2 ^ 32 + 3) % 2 ^ 32 = omega (arith, here) in
        sum ∙ ap (after g).locs same
    by_test false e s =
        let ne : x ≢ 3 = λ q. false≢true (sym e ∙ eq-eqb 3 x (sym q)) in
        s ∙ sym (update_other (update g.locs 3 ((g.locs 3 + 2) % 2 ^ 32)) 3 (((g.locs 3 + 2) % 2 ^ 32 + 3) % 2 ^ 32) x ne ∙ update_other g.locs 3 ((g.locs 3 + 2) % 2 ^ 32) x ne)

in_range : (g : Guest) → AreInRange g → AreInRange (after g)
in_range g ranges x lx = by_test (eqb x 3) refl
  where
    by_test : (b : Bool) → eqb x 3 ≡ b → cond b (((g.locs 3 + 2) % 2 ^ 32 + 3) % 2 ^ 32) (cond b ((g.locs 3 + 2) % 2 ^ 32) (g.locs x)) < location_range x
    by_test true e = subst (λ y. ((g.locs 3 + 2) % 2 ^ 32 + 3) % 2 ^ 32 < location_range y) (sym (eqb-true x 3 e)) (omega arith)
    by_test false e = ranges x lx

pub adds_five : (area : ℕ) → Implements both_adds in_esi area (AluImm Add (Reg esi) 5 ∷ [])
adds_five area guest host g g' core choices ready e = subst (λ k. TilePostcondition both_adds in_esi area guest g k core (added core)) (goes_same (after g) g' e) (record {
  represents = record { locs = λ x lx alive. at_place area g core x (ready.represents.locs 3 (omega arith) tt) (ready.represents.locs x lx tt); bytes = ready.represents.bytes };
  in_range = λ x lx. subst (λ v. v < location_range x) (sym (at_place area g core x (ready.represents.locs 3 (omega arith) tt) (ready.represents.locs x lx tt))) (in_range g ready.in_range x lx);
  registers = λ r a c d free. update_other core.regs esi (sum_word (core.regs esi) 5 false) r (λ q. free 3 (0, omega arith, refl) (ap (λ k. Some k) (sym q)));
  memory = λ a un. refl;
  condition = λ c q. absurd (search rules);
  is_core = record { words = λ r. update_keeps (λ v. v < 2 ^ 32) core.regs esi (sum_word (core.regs esi) 5 false) r (omega arith) (ready.is_core.words r); bytes = ready.is_core.bytes };
})
