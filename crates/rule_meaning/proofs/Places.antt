-- Where locations stand under the map of the one instance. This project's own.
use Rattle.std.proofs.Common.{◌≡◌, ◌≢◌, ℕ, ◌+◌, ◌-◌, ◌*◌, ◌^◌, ◌<◌, ◌≤◌, ◌⊎◌, inl, inr, Bool, true, false, cond, ltb, List, length, slice_get, Option, Some, None, refl, sym, ap, ◌∙◌, subst, arith}
use Rattle.std.proofs.lemmas.Bool.Decides.{nat_tests}
use Rattle.std.proofs.lemmas.List.{length-take}
use Rattle.std.proofs.lemmas.Option.{slice_get_within}
use Rattle.machines.specs.Prelude.{Map, load, Core, value_at}
use Rattle.machines.specs.Host.{Memory}
use Rattle.reg_map.specs.Prelude.{home, home_size, slot_of, in_slot, location_place}
use Rattle.symbolic_tiles.specs.Prelude.{IsCore}
use Rattle.rule_body.specs.declared.goal.Goal.{Goal}
use Rattle.rule_body.specs.Prelude.{template_of}
use Rattle.rule_soundness.specs.Prelude.{body_slot}
use Rattle.rule_renaming.specs.Plain.{IsOwnMap}
use Rattle.rule_meaning.proofs.Memories.{load_word}

module _ (goal : Goal) (six : goal.parameters ≤ 6) where
  abbrev pub slots : List Bool
  slots = (template_of goal).slots

  pub slot_below : (k : ℕ) → k < length slots → k < goal.parameters
  slot_below k lt = let e = length-take goal.parameters goal.slots in omega (arith, lt, e)

  pub slot_low : (k : ℕ) (s : Bool) → slice_get slots k ≡ Some s → k < 6
  slot_low k s e = let p = slot_below k (slice_get_within slots k s e) in omega (arith, p, six)

  module _ (own : Map) (is_own : IsOwnMap slots own) (area : ℕ) where
    pub home_none : (k : ℕ) → slice_get slots k ≡ Some false → slot_of own (k + 1) ≡ None
    home_none k e = is_own.none_else (k + 1) (λ j s h. let i : j ≡ k = omega (arith, h) in no_both (slice_get slots k) e (subst (λ j. slice_get slots j ≡ Some true) i s))
      where
        no_both : (o : Option Bool) → o ≡ Some false → o ≡ Some true → ⊥
        no_both o x y = cc

    pub far_none : (x : ℕ) → 32 ≤ x → slot_of own x ≡ None
    far_none x from = is_own.none_else x (λ k s h. let p = slot_low k true s in omega (arith, h, from, p))

    pub other_none : (x : ℕ) → ((k : ℕ) → k < length slots → x ≢ k + 1) → slot_of own x ≡ None
    other_none x not_so = is_own.none_else x (λ k s h. not_so k (slice_get_within slots k true s) h)

    module _ (core : Core) where
      at_none : (x : ℕ) → slot_of own x ≡ None → value_at core (location_place own area x) ≡ load (home_size x) (area + home x) core.bytes
      at_none x e = ap (λ o. value_at core (in_slot o (Memory (home_size x) (area + home x)))) e

      word_home : (x : ℕ) → x < 34 → load (home_size x) (area + home x) core.bytes ≡ load 4 (area + 4 * x) core.bytes
      word_home x lt = let t : ltb x 34 ≡ true = grind (arith, nat_tests) in ap (λ t. load (cond t 4 1) (area + cond t (4 * x) (102 + x)) core.bytes) t

      pub byte_home : (x : ℕ) → 34 ≤ x → load (home_size x) (area + home x) core.bytes ≡ load 1 (area + (102 + x)) core.bytes
      byte_home x ge = let t : ltb x 34 ≡ false = grind (arith, nat_tests) in ap (λ t. load (cond t 4 1) (area + cond t (4 * x) (102 + x)) core.bytes) t

      -- a parameter in a slot, one at home, a location behind the GPRs, and a GPR that is no parameter
      pub slot_value : (k : ℕ) → slice_get slots k ≡ Some true → value_at core (location_place own area (k + 1)) ≡ core.regs (body_slot slots k)
      slot_value k e = ap (λ o. value_at core (in_slot o (Memory (home_size (k + 1)) (area + home (k + 1))))) (is_own.in_slots k e)

      pub home_value : (k : ℕ) → slice_get slots k ≡ Some false → value_at core (location_place own area (k + 1)) ≡ load 4 (area + 4 * (k + 1)) core.bytes
      home_value k e = let p = slot_low k false e in at_none (k + 1) (home_none k e) ∙ word_home (k + 1) (omega (arith, p))

      pub far_value : (x : ℕ) → 32 ≤ x → value_at core (location_place own area x) ≡ load (home_size x) (area + home x) core.bytes
      far_value x from = at_none x (far_none x from)

      pub other_value : (x : ℕ) → x < 32 → ((k : ℕ) → k < length slots → x ≢ k + 1) → value_at core (location_place own area x) ≡ load 4 (area + 4 * x) core.bytes
      other_value x lt not_so = at_none x (other_none x not_so) ∙ word_home x (omega (arith, lt))

      -- a word stands in a word's place
      pub word_value : IsCore core → (x : ℕ) → x < 34 → value_at core (location_place own area x) < 2 ^ 32
      word_value is x lt = by_slot (slot_of own x)
        where
          by_slot : (o : Option ℕ) → value_at core (in_slot o (Memory (home_size x) (area + home x))) < 2 ^ 32
          by_slot (Some r) = is.words r
          by_slot None = subst (λ v. v < 2 ^ 32) (sym (word_home x lt)) (load_word (area + 4 * x) core.bytes is.bytes)

    -- a location is behind the GPRs, or a parameter, or another GPR
    abbrev pub Kind : ℕ → Type 0
    Kind x = (32 ≤ x) ⊎ (((k : ℕ) × (k < length slots) × (x ≡ k + 1)) ⊎ ((x < 32) × ((k : ℕ) → k < length slots → x ≢ k + 1)))

    pub kind : (x : ℕ) → Kind x
    kind x = by_tests (ltb x 32) (ltb x 1) (ltb (x - 1) (length slots)) refl refl refl
      where
        is_below : (y n : ℕ) → ltb y n ≡ true → y < n
        is_below y n e = grind (arith, nat_tests)

        not_below : (y n : ℕ) → ltb y n ≡ false → n ≤ y
        not_below y n e = grind (arith, nat_tests)

        by_tests : (a b c : Bool) → ltb x 32 ≡ a → ltb x 1 ≡ b → ltb (x - 1) (length slots) ≡ c → Kind x
        by_tests false b c e f h = inl (not_below x 32 e)
        by_tests true true c e f h = let z = is_below x 1 f in inr (inr (is_below x 32 e, λ k lt d. omega (arith, d, z)))
        by_tests true false true e f h = let z = not_below x 1 f in inr (inl (x - 1, is_below (x - 1) (length slots) h, omega (arith, z)))
        by_tests true false false e f h = let z = not_below (x - 1) (length slots) h in inr (inr (is_below x 32 e, λ k lt d. omega (arith, d, z, lt)))
