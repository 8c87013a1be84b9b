-- What stands behind the ops of the one instance stands behind those of the rule at every match. This project's own.
use Rattle.std.proofs.Common.{◌≡◌, ◌≢◌, ℕ, zero, suc, ◌+◌, ◌-◌, ◌*◌, ◌%◌, ◌^◌, ◌<◌, ◌≤◌, ◌⊎◌, inl, inr, ⊎_elim, Bool, true, false, cond, ◌&&◌, eqb, leb, ltb, List, Option, Some, None, Contains, refl, sym, ap, ◌∙◌, subst, arith}
use Rattle.std.proofs.lemmas.Bool.Decides.{nat_tests}
use Rattle.machines.specs.Prelude.{Map, condition_holds, load, Rights, Guest, Core, value_at}
use Rattle.reg_map.specs.Prelude.{home, home_size, location_range, slot_of, in_slot, location_place, IsHomePage, Represents, AreInRange}
use Rattle.machines.specs.Host.{Memory}
use Rattle.symbolic_tiles.specs.Prelude.{Any, IsCore, TilePostcondition, IsUnowned, Window}
use Rattle.symbolic_tiles.proofs.Places.{slots_apart, slot_cached, home_within}
use Rattle.rule_soundness.specs.Prelude.{Match, register_of, offset_of}
use Rattle.rule_renaming.proofs.Parameters.{is_parameter, is_in_slot, slot_at, Bound, Own}
use Rattle.rule_renaming.proofs.Hosts.{IsFar, Renamed, load_alike}
use Rattle.rule_renaming.proofs.Guests.{SameGuest}
use Rattle.rule_renaming.proofs.Bridge.{P, U, O, guest_names, named_home, other_home, temp_name, slot_place, own_guest, own_core, own_renamed, no_parameter, no_slot, far_bytes}

below_34 : (x : ℕ) → x < 32 → ltb x 34 ≡ true
below_34 x lt = grind (arith, nat_tests)

from_34 : (x : ℕ) → 34 ≤ x → ltb x 34 ≡ false
from_34 x ge = grind (arith, nat_tests)

test_true : (x n : ℕ) → ltb x n ≡ true → x < n
test_true x n e = grind (arith, nat_tests)

test_false : (x n : ℕ) → ltb x n ≡ false → n ≤ x
test_false x n e = grind (arith, nat_tests)

page_apart : (area a o : ℕ) → (leb (area + 128) a && ltb a (area + 148)) ≡ false → 128 ≤ o → o < 148 → a ≡ area + o → ⊥
page_apart area a o e ge lt h = grind (arith, nat_tests)

page_in : (area a : ℕ) → (leb (area + 128) a && ltb a (area + 148)) ≡ true → (area + 128 ≤ a) × (a < area + 148)
page_in area a e = (grind (arith, nat_tests), grind (arith, nat_tests))

word_in : (x y : ℕ) → (leb x y && ltb y (x + 4)) ≡ true → (i : ℕ) × (i < 4) × (y ≡ x + i)
word_in x y e = let ge : x ≤ y = grind (arith, nat_tests) in let lt : y < x + 4 = grind (arith, nat_tests) in (y - x, omega (arith, ge, lt), omega (arith, ge))

word_holds : (x y i : ℕ) → i < 4 → y ≡ x + i → (leb x y && ltb y (x + 4)) ≡ true
word_holds x y i lt e = grind (arith, nat_tests)

in_page : (area a : ℕ) → IsFar area a ⊎ ((i : ℕ) × (i < 4096) × (a ≡ area + i))
in_page area a = by_tests (ltb a area) (ltb a (area + 4096)) refl refl
  where
    by_tests : (p q : Bool) → ltb a area ≡ p → ltb a (area + 4096) ≡ q → IsFar area a ⊎ ((i : ℕ) × (i < 4096) × (a ≡ area + i))
    by_tests true q e d = inl (inl (test_true a area e))
    by_tests false false e d = inl (inr (test_false a (area + 4096) d))
    by_tests false true e d = let ge = test_false a area e in let lt = test_true a (area + 4096) d in inr (a - area, omega (arith, ge, lt), omega (arith, ge))

far_home : (area h i a : ℕ) → IsFar area a → h + i < 148 → a ≡ area + h + i → ⊥
far_home area h i a (inl lt) w e = absurd (omega (arith, lt, w, e))
far_home area h i a (inr ge) w e = absurd (omega (arith, ge, w, e))

search : (Q : ℕ → Type 0) → ((p : ℕ) → Q p ⊎ (Q p → ⊥)) → (n : ℕ) → ((p : ℕ) × Q p) ⊎ ((p : ℕ) → p < n → Q p → ⊥)
search Q decide zero = inr (λ p lt q. absurd (omega (arith, lt)))
search Q decide (suc n) = ⊎_elim (λ w. inl w) (λ none. by_last (decide n) none) (search Q decide n)
  where
    at : (p : ℕ) → p < suc n → (p < n) ⊎ (p ≡ n)
    at p lt = by_test (eqb p n) refl
      where
        by_test : (b : Bool) → eqb p n ≡ b → (p < n) ⊎ (p ≡ n)
        by_test true e = inr (grind (arith, nat_tests))
        by_test false e = inl (grind (arith, nat_tests))

    by_last : Q n ⊎ (Q n → ⊥) → ((p : ℕ) → p < n → Q p → ⊥) → ((p : ℕ) × Q p) ⊎ ((p : ℕ) → p < suc n → Q p → ⊥)
    by_last (inl q) none = inl (n, q)
    by_last (inr deny) none = inr (λ p lt q. ⊎_elim (λ l. none p l q) (λ e. deny (subst Q e q)) (at p lt))

is_true : (b : Bool) → (b ≡ true) ⊎ (b ≡ true → ⊥)
is_true true = inl refl
is_true false = inr (λ e. cc)

is_false : (b : Bool) → (b ≡ false) ⊎ (b ≡ false → ⊥)
is_false true = inr (λ e. cc)
is_false false = inl refl

is_equal : (x n : ℕ) → (x ≡ n) ⊎ (x ≡ n → ⊥)
is_equal x n = by_test (eqb x n) refl
  where
    by_test : (b : Bool) → eqb x n ≡ b → (x ≡ n) ⊎ (x ≡ n → ⊥)
    by_test true e = inl (grind (arith, nat_tests))
    by_test false e = inr (λ q. grind (arith, nat_tests))

both : {A B : Type 0} → A ⊎ (A → ⊥) → B ⊎ (B → ⊥) → (A × B) ⊎ (A × B → ⊥)
both (inl a) (inl b) = inl (a, b)
both (inl a) (inr n) = inr (λ w. n w.1)
both (inr n) d = inr (λ w. n w.0)

module _ (slots : List Bool) (m : Match) (map : Map) (b : Bound slots m map) (area : ℕ) (guest host : Rights) (page : IsHomePage area guest host) where
  module _ (own : Map) (is_own : Own slots own) (g : Guest) (core : Core) (represents : Represents map area Any guest.held g core) (in_range : AreInRange g) (is_core : IsCore core) where
    module _ (window window0 : Window) (g' g0' : Guest) (same : SameGuest m (P slots m) g.locs g' g0')
        (dead_pars : (p : ℕ) → P slots m p → window.dead (m.gpr p) ≡ false → window0.dead p ≡ false) (dead_far : (x : ℕ) → 32 ≤ x → window.dead x ≡ false → window0.dead x ≡ false)
        (writes : (p : ℕ) → P slots m p → Contains window0.writes p → Contains window.writes (m.gpr p)) (conditions : window.condition ≡ window0.condition) where
      abbrev before0 : Guest
      before0 = own_guest slots m map b area guest host page own is_own g core represents in_range is_core

      abbrev start0 : Core
      start0 = own_core slots m map b area guest host page own is_own g core represents in_range is_core

      module _ (taken : window.taken g ≡ window0.taken before0) (end end0 : Core) (r : Renamed m area host (U slots m) (O slots m) core end end0) (d : TilePostcondition window0 own area guest before0 g0' start0 end0) where
        none_far : (x : ℕ) → 32 ≤ x → slot_of own x ≡ None
        none_far x ge = is_own.at_home x (ap (λ t. t && is_in_slot slots x) (no_parameter slots m map b area guest host page own is_own g core represents in_range is_core x ge))

        -- a parameter's value is that of its GPR
        par_value : (p : ℕ) → P slots m p → value_at end (location_place map area (m.gpr p)) ≡ value_at end0 (location_place own area p)
        par_value p is = by_slot (is_in_slot slots p) refl
          where
            by_slot : (t : Bool) → is_in_slot slots p ≡ t → value_at end (location_place map area (m.gpr p)) ≡ value_at end0 (location_place own area p)
            by_slot true s =
                ap (λ o. value_at end (in_slot o (Memory (home_size (m.gpr p)) (area + home (m.gpr p))))) (slot_place slots m map b p (slot_at slots p) is s refl) ∙ r.regs (slot_at slots p) (inr (p, is, s, refl))
                ∙ sym (ap (λ o. value_at end0 (in_slot o (Memory (home_size p) (area + home p)))) (is_own.in_slots p is s))
            by_slot false s =
                let lg = b.gprs p is in let lp = (guest_names slots m map b).low p is in let low = page.low in
                let t = below_34 (m.gpr p) lg in
                let u = below_34 p lp in
                ap (λ o. value_at end (in_slot o (Memory (home_size (m.gpr p)) (area + home (m.gpr p))))) (b.at_home p is s) ∙ ap (λ t. load (cond t 4 1) (area + cond t (4 * m.gpr p) (102 + m.gpr p)) end.bytes) t
                ∙ load_alike 4 (area + 4 * m.gpr p) (area + 4 * p) end.bytes end0.bytes (λ i li.
                let e : (area + 4 * m.gpr p + i) % 2 ^ 32 ≡ area + (4 * m.gpr p + i) = omega (arith, low, lg, li) in
                let f : (area + 4 * p + i) % 2 ^ 32 ≡ area + (4 * p + i) = omega (arith, low, lp, li) in
                ap end.bytes e ∙ ap (λ k. end.bytes (area + k)) (sym (named_home slots m map b p i is li)) ∙ r.bytes (4 * p + i) (inr (p, i, is, s, li, refl)) ∙ ap end0.bytes (sym f))
                ∙ sym (ap (λ t. load (cond t 4 1) (area + cond t (4 * p) (102 + p)) end0.bytes) u)
                ∙ sym (ap (λ o. value_at end0 (in_slot o (Memory (home_size p) (area + home p)))) (is_own.at_home p (ap (λ t. is_parameter slots p && t) s ∙ ap (λ t. t && false) is)))

        far_value : (x : ℕ) → x < 46 → 32 ≤ x → value_at end (location_place map area x) ≡ value_at end0 (location_place own area x)
        far_value x lx ge =
            ap (λ o. value_at end (in_slot o (Memory (home_size x) (area + home x)))) (no_slot slots m map b area guest host page own is_own g core represents in_range is_core x ge)
            ∙ far_bytes slots m map b area guest host page own is_own g core represents in_range is_core x lx ge end.bytes end0.bytes (λ o ge lt. ap (λ k. end.bytes (area + k)) (sym (other_home slots m map b o ge)) ∙ r.bytes o (inl (ge, lt)))
            ∙ sym (ap (λ o. value_at end0 (in_slot o (Memory (home_size x) (area + home x)))) (none_far x ge))

        -- a GPR that is no parameter's is where it was
        kept_value : (x : ℕ) → x < 32 → ((p : ℕ) → P slots m p → x ≢ m.gpr p) → value_at end (location_place map area x) ≡ value_at core (location_place map area x)
        kept_value x lx far = by_slot (slot_of map x) refl
          where
            by_slot : (o : Option ℕ) → slot_of map x ≡ o → value_at end (location_place map area x) ≡ value_at core (location_place map area x)
            by_slot (Some q) e =
                let no : (k : ℕ) → U slots m k → q ≢ register_of m k = λ k u h. ⊎_elim (λ lt. let c = slot_cached map x q e in let n = temp_name slots m map b k lt in absurd (omega (arith, c, n, h, lt)))
                (λ w. far w.0 w.1 (slots_apart map x (m.gpr w.0) q e (slot_place slots m map b w.0 k w.1 w.2 w.3 ∙ ap Some (sym h)))) u in
                ap (λ o. value_at end (in_slot o (Memory (home_size x) (area + home x)))) e ∙ r.kept_regs q no ∙ sym (ap (λ o. value_at core (in_slot o (Memory (home_size x) (area + home x)))) e)
            by_slot None e =
                let t = below_34 x lx in let low = page.low in
                let no : (i : ℕ) → i < 4 → (o : ℕ) → O slots m o → area + (4 * x + i) ≢ area + offset_of m o = λ i li o u h. ⊎_elim (λ w. let c = other_home slots m map b o w.0 in let z = w.0 in absurd (omega (arith, c, h, z, li, lx)))
                (λ w. let c = ap (offset_of m) w.5 ∙ named_home slots m map b w.0 w.1 w.2 w.4 in let z = w.4 in far w.0 w.2 (omega (arith, c, h, z, li))) u in
                ap (λ o. value_at end (in_slot o (Memory (home_size x) (area + home x)))) e ∙ ap (λ t. load (cond t 4 1) (area + cond t (4 * x) (102 + x)) end.bytes) t
                ∙ load_alike 4 (area + 4 * x) (area + 4 * x) end.bytes core.bytes (λ i li. let f : (area + 4 * x + i) % 2 ^ 32 ≡ area + (4 * x + i) = omega (arith, low, lx, li) in ap end.bytes f ∙ r.kept_bytes (4 * x + i) (omega (arith, lx, li)) (λ o u h. no i li o u (ap (λ k. area + k) h)) ∙ ap core.bytes (sym f))
                ∙ sym (ap (λ t. load (cond t 4 1) (area + cond t (4 * x) (102 + x)) core.bytes) t) ∙ sym (ap (λ o. value_at core (in_slot o (Memory (home_size x) (area + home x)))) e)

        -- each location is a parameter's GPR, another GPR, or none
        abbrev Kind : ℕ → Type 0
        Kind x = (32 ≤ x) ⊎ (((p : ℕ) × P slots m p × (m.gpr p ≡ x)) ⊎ ((x < 32) × ((p : ℕ) → P slots m p → x ≢ m.gpr p)))

        kind : (x : ℕ) → Kind x
        kind x = by_test (ltb x 32) refl
          where
            by_test : (t : Bool) → ltb x 32 ≡ t → Kind x
            by_test false e = inl (grind (arith, nat_tests))
            by_test true e = ⊎_elim (λ w. inr (inl (w.0, w.1.0, w.1.1))) (λ none. inr (inr (grind (arith, nat_tests), λ p is h. none p ((guest_names slots m map b).low p is) (is, sym h))))
                (search (λ p. P slots m p × (m.gpr p ≡ x)) (λ p. both (is_true (is_parameter slots p)) (is_equal (m.gpr p) x)) 32)

        locs : (x : ℕ) → x < 46 → window.dead x ≡ false → value_at end (location_place map area x) ≡ g'.locs x
        locs x lx alive = by_kind (kind x)
          where
            by_kind : Kind x → value_at end (location_place map area x) ≡ g'.locs x
            by_kind (inl ge) = far_value x lx ge ∙ d.represents.locs x lx (dead_far x ge alive) ∙ sym (same.locs.others x ge lx)
            by_kind (inr (inl w)) =
                let lp = (guest_names slots m map b).low w.0 w.1 in
                ap (λ k. value_at end (location_place map area k)) (sym w.2) ∙ par_value w.0 w.1 ∙ d.represents.locs w.0 (omega (arith, lp)) (dead_pars w.0 w.1 (ap window.dead w.2 ∙ alive)) ∙ sym (same.locs.pars w.0 w.1) ∙ ap g'.locs w.2
            by_kind (inr (inr w)) = kept_value x w.0 w.1 ∙ represents.locs x lx tt ∙ sym (same.locs.kept x w.0 w.1)

        ranges : (x : ℕ) → x < 46 → value_at end (location_place map area x) < location_range x
        ranges x lx = by_kind (kind x)
          where
            low_range : (y z : ℕ) → y < 32 → z < 32 → location_range y ≡ location_range z
            low_range y z ly lz = let t = below_34 y ly in let u = below_34 z lz in
                ap (λ t. cond t (2 ^ 32) (cond (ltb y 42) 16 (cond (ltb y 45) 2 128))) t ∙ sym (ap (λ t. cond t (2 ^ 32) (cond (ltb z 42) 16 (cond (ltb z 45) 2 128))) u)

            by_kind : Kind x → value_at end (location_place map area x) < location_range x
            by_kind (inl ge) = subst (λ v. v < location_range x) (sym (far_value x lx ge)) (d.in_range x lx)
            by_kind (inr (inl w)) =
                let lp = (guest_names slots m map b).low w.0 w.1 in
                subst (λ k. value_at end (location_place map area k) < location_range k) w.2 (subst (λ v. v < location_range (m.gpr w.0)) (sym (par_value w.0 w.1)) (subst (λ n. value_at end0 (location_place own area w.0) < n) (low_range w.0 (m.gpr w.0) lp (b.gprs w.0 w.1)) (d.in_range w.0 (omega (arith, lp)))))
            by_kind (inr (inr w)) = subst (λ v. v < location_range x) (sym (kept_value x w.0 w.1 ∙ represents.locs x lx tt)) (in_range x lx)

        -- a register that a parameter's slot is, or none
        abbrev IsSlotOf : ℕ → ℕ → Type 0
        IsSlotOf q p = P slots m p × (is_in_slot slots p ≡ true) × (register_of m (slot_at slots p) ≡ q)

        slot_search : (q : ℕ) → ((p : ℕ) × IsSlotOf q p) ⊎ ((p : ℕ) → p < 32 → IsSlotOf q p → ⊥)
        slot_search q = search (IsSlotOf q) (λ p. by_parts p (is_true (is_parameter slots p)) (is_true (is_in_slot slots p)) (is_equal (register_of m (slot_at slots p)) q)) 32
          where
            by_parts : (p : ℕ) → (P slots m p) ⊎ (P slots m p → ⊥) → (is_in_slot slots p ≡ true) ⊎ (is_in_slot slots p ≡ true → ⊥) → (register_of m (slot_at slots p) ≡ q) ⊎ (register_of m (slot_at slots p) ≡ q → ⊥) → IsSlotOf q p ⊎ (IsSlotOf q p → ⊥)
            by_parts p (inl x) (inl y) (inl z) = inl (x, y, z)
            by_parts p (inr n) y z = inr (λ w. n w.0)
            by_parts p (inl x) (inr n) z = inr (λ w. n w.1)
            by_parts p (inl x) (inl y) (inr n) = inr (λ w. n w.2)

        not_named : (q : ℕ) → 3 ≤ q → ((p : ℕ) → p < 32 → IsSlotOf q p → ⊥) → (k : ℕ) → U slots m k → q ≢ register_of m k
        not_named q ge none k (inl lt) h = let n = temp_name slots m map b k lt in absurd (omega (arith, n, h, lt, ge))
        not_named q ge none k (inr w) h = none w.0 ((guest_names slots m map b).low w.0 w.1) (w.1, w.2, ap (register_of m) (sym w.3) ∙ sym h)

        registers : (q : ℕ) → q ≢ 0 → q ≢ 1 → q ≢ 2 → ((x : ℕ) → Contains window.writes x → slot_of map x ≢ Some q) → end.regs q ≡ core.regs q
        registers q n0 n1 n2 free = ⊎_elim (λ w. found w.0 w.1) (λ none. r.kept_regs q (not_named q (omega (arith, n0, n1, n2)) none)) (slot_search q)
          where
            unwritten : (p : ℕ) → IsSlotOf q p → (x : ℕ) → Contains window0.writes x → slot_of own x ≢ Some (slot_at slots p)
            unwritten p w x c h =
                let e : x ≡ p = slots_apart own x p (slot_at slots p) h (is_own.in_slots p w.0 w.1) in
                free (m.gpr p) (writes p w.0 (subst (λ (k : ℕ). Contains window0.writes k) e c)) (slot_place slots m map b p (slot_at slots p) w.0 w.1 refl ∙ ap Some w.2)

            high : (t u : Bool) (k : ℕ) → k < 3 → cond t 3 (cond u 6 7) ≢ k
            high true u k lt e = absurd (omega (arith, lt, e))
            high false true k lt e = absurd (omega (arith, lt, e))
            high false false k lt e = absurd (omega (arith, lt, e))

            found : (p : ℕ) → IsSlotOf q p → end.regs q ≡ core.regs q
            found p w =
                ap end.regs (sym w.2) ∙ r.regs (slot_at slots p) (inr (p, w.0, w.1, refl))
                ∙ d.registers (slot_at slots p) (high _ _ 0 (omega arith)) (high _ _ 1 (omega arith)) (high _ _ 2 (omega arith)) (unwritten p w) ∙ ap core.regs w.2

        -- an address in the home page, or not
        abbrev Where : ℕ → Type 0
        Where a = IsFar area a ⊎ ((i : ℕ) × (i < 4096) × (a ≡ area + i))

        where_is : (a : ℕ) → Where a
        where_is a = in_page area a

        -- the two hosts have the same outside the home page, and had it
        far_start : (a : ℕ) → IsFar area a → start0.bytes a ≡ core.bytes a
        far_start a f = sym ((own_renamed slots m map b area guest host page own is_own g core represents in_range is_core).far a f)

        -- a byte outside is nobody's for the one where it is for the other
        far_unowned : (a : ℕ) → IsFar area a → guest.held a ≡ false → IsUnowned own area guest.held a
        far_unowned a f unheld = record { no_guest = unheld; no_home = λ x i lx li at h. let w = home_within x i lx li in far_home area (home x) i a f w h }

        -- each named byte is a home's
        memory : (a : ℕ) → IsUnowned map area guest.held a → end.bytes a ≡ core.bytes a
        memory a is = ⊎_elim (λ f. r.far a f ∙ d.memory a (far_unowned a f is.no_guest) ∙ far_start a f) (λ w. ap end.bytes w.2 ∙ r.kept_bytes w.0 w.1 (λ o u h. far o u (w.2 ∙ ap (λ k. area + k) h)) ∙ ap core.bytes (sym w.2)) (where_is a)
          where
            other : (o : ℕ) → 128 ≤ o → o < 148 → (x : ℕ) × (i : ℕ) × (32 ≤ x) × (x < 46) × (i < home_size x) × (home x + i ≡ o)
            other o ge lt = by_tests (ltb o 132) (ltb o 136) refl refl
              where
                at_least : 136 ≤ o → ltb (o - 102) 34 ≡ false
                at_least g = let k : 34 ≤ o - 102 = omega (arith, g) in from_34 (o - 102) k

                by_tests : (t u : Bool) → ltb o 132 ≡ t → ltb o 136 ≡ u → (x : ℕ) × (i : ℕ) × (32 ≤ x) × (x < 46) × (i < home_size x) × (home x + i ≡ o)
                by_tests true u e f = let l = test_true o 132 e in (32, o - 128, omega arith, omega arith, omega (arith, l, ge), omega (arith, l, ge))
                by_tests false true e f = let g = test_false o 132 e in let l = test_true o 136 f in (33, o - 132, omega arith, omega arith, omega (arith, l, g), omega (arith, l, g))
                by_tests false false e f =
                    let g = test_false o 136 f in
                    let t : ltb (o - 102) 34 ≡ false = at_least g in
                    let s : home_size (o - 102) ≡ 1 = ap (λ t. cond t 4 1) t in
                    let h : home (o - 102) ≡ o = ap (λ t. cond t (4 * (o - 102)) (102 + (o - 102))) t ∙ omega (arith, g) in
                    (o - 102, 0, omega (arith, g), omega (arith, lt), omega (arith, s), omega (arith, h))

            far : (o : ℕ) → O slots m o → a ≢ area + offset_of m o
            far o (inl w) h =
                let x = other o w.0 w.1 in
                is.no_home x.0 x.1 x.3 x.4 (no_slot slots m map b area guest host page own is_own g core represents in_range is_core x.0 x.2) (h ∙ ap (λ k. area + k) (other_home slots m map b o w.0 ∙ sym x.5) ∙ assoc area (home x.0) x.1)
              where
                assoc : (x y z : ℕ) → x + (y + z) ≡ x + y + z
                assoc x y z = omega arith
            far o (inr w) h =
                let lg = b.gprs w.0 w.2 in let t = below_34 (m.gpr w.0) lg in
                let s : home_size (m.gpr w.0) ≡ 4 = ap (λ t. cond t 4 1) t in
                let k : home (m.gpr w.0) ≡ 4 * m.gpr w.0 = ap (λ t. cond t (4 * m.gpr w.0) (102 + m.gpr w.0)) t in
                let z = w.4 in
                is.no_home (m.gpr w.0) w.1 (omega (arith, lg)) (omega (arith, s, z)) (b.at_home w.0 w.2 w.3) (let c = ap (offset_of m) w.5 ∙ named_home slots m map b w.0 w.1 w.2 w.4 in omega (arith, h, c, k))

        word_of : (q : ℕ) → end.regs q < 2 ^ 32
        word_of q = by_test (ltb q 3) refl
          where
            by_test : (t : Bool) → ltb q 3 ≡ t → end.regs q < 2 ^ 32
            by_test true e = let lt = test_true q 3 e in subst (λ v. v < 2 ^ 32) (sym (ap end.regs (sym (temp_name slots m map b q lt)) ∙ r.regs q (inl lt))) (d.is_core.words q)
            by_test false e = let ge = test_false q 3 e in
                ⊎_elim (λ w. subst (λ v. v < 2 ^ 32) (sym (ap end.regs (sym w.1.2) ∙ r.regs (slot_at slots w.0) (inr (w.0, w.1.0, w.1.1, refl)))) (d.is_core.words (slot_at slots w.0)))
                (λ none. subst (λ v. v < 2 ^ 32) (sym (r.kept_regs q (not_named q ge none))) (is_core.words q)) (slot_search q)

        byte_of : (a : ℕ) → end.bytes a < 256
        byte_of a = ⊎_elim (λ f. subst (λ v. v < 256) (sym (r.far a f)) (d.is_core.bytes a)) (λ w. by_test w (leb (area + 128) a && ltb a (area + 148)) refl) (where_is a)
          where
            IsIn : ℕ → Type 0
            IsIn p = P slots m p × (is_in_slot slots p ≡ false) × ((leb (area + 4 * m.gpr p) a && ltb a (area + 4 * m.gpr p + 4)) ≡ true)

            by_parts : (p : ℕ) → (P slots m p) ⊎ (P slots m p → ⊥) → (is_in_slot slots p ≡ false) ⊎ (is_in_slot slots p ≡ false → ⊥) → ((leb (area + 4 * m.gpr p) a && ltb a (area + 4 * m.gpr p + 4)) ≡ true) ⊎ ((leb (area + 4 * m.gpr p) a && ltb a (area + 4 * m.gpr p + 4)) ≡ true → ⊥) → IsIn p ⊎ (IsIn p → ⊥)
            by_parts p (inl x) (inl y) (inl z) = inl (x, y, z)
            by_parts p (inr n) y z = inr (λ w. n w.0)
            by_parts p (inl x) (inr n) z = inr (λ w. n w.1)
            by_parts p (inl x) (inl y) (inr n) = inr (λ w. n w.2)

            assoc : (x y z : ℕ) → x + y + z ≡ x + (y + z)
            assoc x y z = omega arith

            found : (p : ℕ) → IsIn p → end.bytes a < 256
            found p w =
                let n = word_in (area + 4 * m.gpr p) a w.2 in
                subst (λ v. v < 256) (sym (ap end.bytes (n.2 ∙ assoc area (4 * m.gpr p) n.0) ∙ ap (λ k. end.bytes (area + k)) (sym (named_home slots m map b p n.0 w.0 n.1)) ∙ r.bytes (4 * p + n.0) (inr (p, n.0, w.0, w.1, n.1, refl)))) (d.is_core.bytes (area + (4 * p + n.0)))

            far : ((leb (area + 128) a && ltb a (area + 148)) ≡ false) → ((p : ℕ) → p < 32 → IsIn p → ⊥) → (o : ℕ) → O slots m o → a ≢ area + offset_of m o
            far e none o (inl w) h = let c = other_home slots m map b o w.0 in page_apart area a o e w.0 w.1 (h ∙ ap (λ k. area + k) c)
            far e none o (inr w) h =
                let c = ap (offset_of m) w.5 ∙ named_home slots m map b w.0 w.1 w.2 w.4 in
                none w.0 ((guest_names slots m map b).low w.0 w.2) (w.2, w.3, word_holds (area + 4 * m.gpr w.0) a w.1 w.4 (h ∙ ap (λ k. area + k) c ∙ sym (assoc area (4 * m.gpr w.0) w.1)))

            by_test : (i : ℕ) × (i < 4096) × (a ≡ area + i) → (t : Bool) → (leb (area + 128) a && ltb a (area + 148)) ≡ t → end.bytes a < 256
            by_test w true e =
                let ge = (page_in area a e).0 in let lt = (page_in area a e).1 in
                let q : a ≡ area + (a - area) = omega (arith, ge) in
                subst (λ v. v < 256) (sym (ap end.bytes q ∙ ap (λ k. end.bytes (area + k)) (sym (other_home slots m map b (a - area) (omega (arith, ge)))) ∙ r.bytes (a - area) (inl (omega (arith, ge), omega (arith, ge, lt))))) (d.is_core.bytes (area + (a - area)))
            by_test w false e =
                ⊎_elim (λ f. found f.0 f.1) (λ none. subst (λ v. v < 256) (sym (ap end.bytes w.2 ∙ r.kept_bytes w.0 w.1 (λ o u h. far e none o u (w.2 ∙ ap (λ k. area + k) h)))) (is_core.bytes (area + w.0)))
                (search IsIn (λ p. by_parts p (is_true (is_parameter slots p)) (is_false (is_in_slot slots p)) (is_true (leb (area + 4 * m.gpr p) a && ltb a (area + 4 * m.gpr p + 4)))) 32)

        held_bytes : (a : ℕ) → guest.held a ≡ true → end.bytes a ≡ g'.bytes a
        held_bytes a held = r.far a (page.apart a held) ∙ d.represents.bytes a held ∙ sym (ap (λ f. f a) same.bytes)

        pub done : TilePostcondition window map area guest g g' core end
        done = record {
          represents = record { locs = locs; bytes = held_bytes };
          in_range = ranges;
          registers = registers;
          memory = memory;
          condition = λ c e. ap (condition_holds c) r.flags ∙ d.condition c (sym conditions ∙ e) ∙ sym taken;
          is_core = record { words = word_of; bytes = byte_of };
        }
