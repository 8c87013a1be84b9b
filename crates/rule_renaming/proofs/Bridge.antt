-- From the guest and the host of a match to those of the one instance, in which each parameter is the GPR of its own number. This
-- project's own.
use Rattle.std.proofs.Common.{◌≡◌, ℕ, zero, suc, ◌+◌, ◌-◌, ◌*◌, ◌/◌, ◌%◌, ◌^◌, ◌<◌, ◌≤◌, ◌⊎◌, inl, inr, ⊎_elim, Bool, true, false, cond, ◌&&◌, leb, ltb, List, length, Option, Some, None, refl, sym, ap, ◌∙◌, subst, arith}
use Rattle.std.proofs.lemmas.Bool.Decides.{nat_tests}
use Rattle.machines.specs.Prelude.{Map, load, Rights, Guest, Core, value_at}
use Rattle.reg_map.specs.Prelude.{home, home_size, location_range, slot_of, in_slot, location_place, IsHomePage, Represents, AreInRange}
use Rattle.machines.specs.Host.{Memory}
use Rattle.symbolic_tiles.specs.Prelude.{Any, IsCore}
use Rattle.symbolic_tiles.proofs.Places.{slots_apart, slot_gpr, slot_cached, home_within}
use Rattle.symbolic_tiles.proofs.Small.{both_true}
use Rattle.rule_soundness.specs.Prelude.{Match, register_of, offset_of}
use Rattle.rule_renaming.proofs.Parameters.{is_parameter, is_in_slot, slot_at, par_from, par_to, Bound, Own}
use Rattle.rule_renaming.proofs.Hosts.{IsFar, Renames, Renamed, load_alike}
use Rattle.rule_renaming.proofs.Guests.{GuestNames, SameLocs, SameGuest}

far_parameter : (x n : ℕ) → 32 ≤ x → n ≤ 6 → (leb 1 x && leb x n) ≡ false
far_parameter x n ge few = grind (arith, nat_tests)

-- the digits of a word are its bytes
digits : (v a : ℕ) (f : ℕ → ℕ) → v < 2 ^ 32 → ((i : ℕ) → i < 4 → f ((a + i) % 2 ^ 32) ≡ v / 256 ^ i % 256) → load 4 a f ≡ v
unfolding load
digits v a f lt h =
    let e0 : (a + 0) % 2 ^ 32 ≡ a % 2 ^ 32 = omega arith in
    let e2 : (a + 2) % 2 ^ 32 ≡ (a + 1 + 1) % 2 ^ 32 = omega arith in
    let e3 : (a + 3) % 2 ^ 32 ≡ (a + 1 + 1 + 1) % 2 ^ 32 = omega arith in
    let h0 : f (a % 2 ^ 32) ≡ v / 1 % 256 = ap f (sym e0) ∙ h 0 (omega arith) in
    let h1 : f ((a + 1) % 2 ^ 32) ≡ v / 256 % 256 = h 1 (omega arith) in
    let h2 : f ((a + 1 + 1) % 2 ^ 32) ≡ v / 65536 % 256 = ap f (sym e2) ∙ h 2 (omega arith) in
    let h3 : f ((a + 1 + 1 + 1) % 2 ^ 32) ≡ v / 16777216 % 256 = ap f (sym e3) ∙ h 3 (omega arith) in
    omega (arith, h0, h1, h2, h3, lt)

digit : (a i : ℕ) (f : ℕ → ℕ) → ((k : ℕ) → f k < 256) → i < 4 → load 4 a f / 256 ^ i % 256 ≡ f ((a + i) % 2 ^ 32)
unfolding load
digit a zero f small lt =
    let e : (a + 0) % 2 ^ 32 ≡ a % 2 ^ 32 = omega arith in let b = small (a % 2 ^ 32) in
    let h : (f (a % 2 ^ 32) + 256 * (f ((a + 1) % 2 ^ 32) + 256 * (f ((a + 1 + 1) % 2 ^ 32) + 256 * (f ((a + 1 + 1 + 1) % 2 ^ 32) + 256 * 0)))) / 1 % 256 ≡ f (a % 2 ^ 32) = omega (arith, b) in h ∙ ap f (sym e)
digit a (suc zero) f small lt =
    let b = small (a % 2 ^ 32) in let c = small ((a + 1) % 2 ^ 32) in omega (arith, b, c)
digit a (suc (suc zero)) f small lt =
    let e : (a + 2) % 2 ^ 32 ≡ (a + 1 + 1) % 2 ^ 32 = omega arith in let b = small (a % 2 ^ 32) in let c = small ((a + 1) % 2 ^ 32) in let d = small ((a + 1 + 1) % 2 ^ 32) in
    let h : (f (a % 2 ^ 32) + 256 * (f ((a + 1) % 2 ^ 32) + 256 * (f ((a + 1 + 1) % 2 ^ 32) + 256 * (f ((a + 1 + 1 + 1) % 2 ^ 32) + 256 * 0)))) / 65536 % 256 ≡ f ((a + 1 + 1) % 2 ^ 32) = omega (arith, b, c, d) in h ∙ ap f (sym e)
digit a (suc (suc (suc zero))) f small lt =
    let e : (a + 3) % 2 ^ 32 ≡ (a + 1 + 1 + 1) % 2 ^ 32 = omega arith in let b = small (a % 2 ^ 32) in let c = small ((a + 1) % 2 ^ 32) in let d = small ((a + 1 + 1) % 2 ^ 32) in let k = small ((a + 1 + 1 + 1) % 2 ^ 32) in
    let h : (f (a % 2 ^ 32) + 256 * (f ((a + 1) % 2 ^ 32) + 256 * (f ((a + 1 + 1) % 2 ^ 32) + 256 * (f ((a + 1 + 1 + 1) % 2 ^ 32) + 256 * 0)))) / 16777216 % 256 ≡ f ((a + 1 + 1 + 1) % 2 ^ 32) = omega (arith, b, c, d, k) in h ∙ ap f (sym e)
digit a (suc (suc (suc (suc i)))) f small lt = absurd (omega arith)

module _ (slots : List Bool) (m : Match) where
  abbrev pub P : ℕ → Type 0
  P p = is_parameter slots p ≡ true

  abbrev pub U : ℕ → Type 0
  U r = (r < 3) ⊎ ((p : ℕ) × P p × (is_in_slot slots p ≡ true) × (r ≡ slot_at slots p))

  abbrev pub O : ℕ → Type 0
  O o = ((128 ≤ o) × (o < 148)) ⊎ ((p : ℕ) × (i : ℕ) × P p × (is_in_slot slots p ≡ false) × (i < 4) × (o ≡ 4 * p + i))

  module _ (map : Map) (b : Bound slots m map) where
    pub guest_names : GuestNames m P
    guest_names = record {
      some = λ p is e. let f = par_from slots p is in absurd (omega (arith, f, e));
      low = λ p is. let few = b.few in low p is few;
      gprs = b.gprs;
      apart = b.apart;
    }
      where
        low : (p : ℕ) → P p → length slots ≤ 6 → p < 32
        low p is few = let h = par_to slots p is in omega (arith, h, few)

    pub named_home : (p i : ℕ) → P p → i < 4 → offset_of m (4 * p + i) ≡ 4 * m.gpr p + i
    named_home p i is lt =
        let low = guest_names.low p is in
        let e : ltb (4 * p + i) 128 ≡ true = grind (arith, nat_tests) in
        let q : (4 * p + i) / 4 ≡ p = omega arith in
        let r : (4 * p + i) % 4 ≡ i = omega arith in
        ap (λ t. cond t (4 * m.gpr ((4 * p + i) / 4) + (4 * p + i) % 4) (4 * p + i)) e ∙ ap (λ k. 4 * m.gpr k + (4 * p + i) % 4) q ∙ ap (λ k. 4 * m.gpr p + k) r

    pub other_home : (o : ℕ) → 128 ≤ o → offset_of m o ≡ o
    other_home o ge = let e : ltb o 128 ≡ false = grind (arith, nat_tests) in ap (λ t. cond t (4 * m.gpr (o / 4) + o % 4) o) e

    pub temp_name : (r : ℕ) → r < 3 → register_of m r ≡ r
    temp_name zero lt = refl
    temp_name (suc zero) lt = refl
    temp_name (suc (suc zero)) lt = refl
    temp_name (suc (suc (suc r))) lt = absurd (omega arith)

    pub slot_name : (p : ℕ) → register_of m (slot_at slots p) ≡ m.register (slot_at slots p)
    slot_name p = by_tests _ _
      where
        by_tests : (t u : Bool) → register_of m (cond t 3 (cond u 6 7)) ≡ m.register (cond t 3 (cond u 6 7))
        by_tests true u = refl
        by_tests false true = refl
        by_tests false false = refl

    pub slot_place : (p r : ℕ) → P p → is_in_slot slots p ≡ true → r ≡ slot_at slots p → slot_of map (m.gpr p) ≡ Some (register_of m r)
    slot_place p r is s e = b.in_slots p is s ∙ ap Some (sym (slot_name p)) ∙ ap (λ k. Some (register_of m k)) (sym e)

    module _ (area : ℕ) (guest host : Rights) (page : IsHomePage area guest host) where
      pub names : Renames m area host U O
      names = record {
        temps = λ r lt. inl lt;
        low = page.low;
        held = page.held;
        writable = page.writable;
        regs_apart = regs_apart;
        homes_apart = homes_apart;
        homes = homes;
        homes_named = homes_named;
      }
        where
          regs_apart : (r q : ℕ) → U r → U q → register_of m r ≡ register_of m q → r ≡ q
          regs_apart r q (inl x) (inl y) e = sym (temp_name r x) ∙ e ∙ temp_name q y
          regs_apart r q (inl x) (inr y) e = let c = slot_cached map (m.gpr y.0) (register_of m q) (slot_place y.0 q y.1 y.2 y.3) in let d = temp_name r x in absurd (omega (arith, c, d, e, x))
          regs_apart r q (inr x) (inl y) e = let c = slot_cached map (m.gpr x.0) (register_of m r) (slot_place x.0 r x.1 x.2 x.3) in let d = temp_name q y in absurd (omega (arith, c, d, e, y))
          regs_apart r q (inr x) (inr y) e =
              let s = slots_apart map (m.gpr x.0) (m.gpr y.0) (register_of m q) (slot_place x.0 r x.1 x.2 x.3 ∙ ap Some e) (slot_place y.0 q y.1 y.2 y.3) in
              x.3 ∙ ap (slot_at slots) (b.apart x.0 y.0 x.1 y.1 s) ∙ sym y.3

          home_of : (o : ℕ) → (w : (p : ℕ) × (i : ℕ) × P p × (is_in_slot slots p ≡ false) × (i < 4) × (o ≡ 4 * p + i)) → offset_of m o ≡ 4 * m.gpr w.0 + w.1
          home_of o w = ap (offset_of m) w.5 ∙ named_home w.0 w.1 w.2 w.4

          homes_apart : (o q : ℕ) → O o → O q → offset_of m o ≡ offset_of m q → o ≡ q
          homes_apart o q (inl x) (inl y) e = sym (other_home o x.0) ∙ e ∙ other_home q y.0
          homes_apart o q (inl x) (inr y) e = let c = other_home o x.0 in let d = home_of q y in let k = b.gprs y.0 y.2 in let l = y.4 in let z = x.0 in absurd (omega (arith, c, d, e, k, l, z))
          homes_apart o q (inr x) (inl y) e = let c = other_home q y.0 in let d = home_of o x in let k = b.gprs x.0 x.2 in let l = x.4 in let z = y.0 in absurd (omega (arith, c, d, e, k, l, z))
          homes_apart o q (inr x) (inr y) e =
              let c = home_of o x in let d = home_of q y in let l = x.4 in let n = y.4 in
              let same : m.gpr x.0 ≡ m.gpr y.0 = omega (arith, c, d, e, l, n) in
              let p = b.apart x.0 y.0 x.2 y.2 same in let u = x.5 in let v = y.5 in omega (arith, c, d, e, p, u, v, same)

          homes : (o : ℕ) → O o → o < 4096
          homes o (inl x) = let z = x.1 in omega (arith, z)
          homes o (inr x) = let z = guest_names.low x.0 x.2 in let u = x.5 in let v = x.4 in omega (arith, z, u, v)

          homes_named : (o : ℕ) → O o → offset_of m o < 4096
          homes_named o (inl x) = let z = x.1 in let c = other_home o x.0 in omega (arith, z, c)
          homes_named o (inr x) = let c = home_of o x in let k = b.gprs x.0 x.2 in let l = x.4 in omega (arith, c, k, l)

      module _ (own : Map) (is_own : Own slots own) (g : Guest) (core : Core) (represents : Represents map area Any guest.held g core) (in_range : AreInRange g) (is_core : IsCore core) where
        -- the guest with the value of each parameter in the GPR of its number
        abbrev pub own_locs : ℕ → ℕ
        own_locs x = cond (ltb x 32) (g.locs (cond (is_parameter slots x) (m.gpr x) 0)) (g.locs x)

        abbrev pub own_guest : Guest
        own_guest = record g { locs = own_locs }

        pub own_par : (p : ℕ) → P p → own_locs p ≡ g.locs (m.gpr p)
        own_par p is = let low = guest_names.low p is in let e : ltb p 32 ≡ true = grind (arith, nat_tests) in ap (λ t. cond t (g.locs (cond (is_parameter slots p) (m.gpr p) 0)) (g.locs p)) e ∙ ap (λ t. g.locs (cond t (m.gpr p) 0)) is

        pub own_far : (x : ℕ) → 32 ≤ x → own_locs x ≡ g.locs x
        own_far x ge = let e : ltb x 32 ≡ false = grind (arith, nat_tests) in ap (λ t. cond t (g.locs (cond (is_parameter slots x) (m.gpr x) 0)) (g.locs x)) e

        pub own_same : SameLocs m P g.locs g.locs own_locs
        own_same = record { pars = λ p is. sym (own_par p is); others = λ x ge lt. sym (own_far x ge); kept = λ x lt no. refl }

        pub own_alike : SameGuest m P g.locs g own_guest
        own_alike = record { locs = own_same; next = refl; bytes = refl }

        own_word : (x : ℕ) → x < 32 → own_locs x < 2 ^ 32
        own_word x lt = let e : ltb x 32 ≡ true = grind (arith, nat_tests) in subst (λ t. cond t (g.locs (cond (is_parameter slots x) (m.gpr x) 0)) (g.locs x) < 2 ^ 32) (sym e) (by_test (is_parameter slots x) refl)
          where
            word : (y : ℕ) → y < 32 → g.locs y < 2 ^ 32
            word y ly = let e : ltb y 34 ≡ true = grind (arith, nat_tests) in subst (λ t. g.locs y < cond t (2 ^ 32) (cond (ltb y 42) 16 (cond (ltb y 45) 2 128))) e (in_range y (omega arith))

            by_test : (t : Bool) → is_parameter slots x ≡ t → g.locs (cond t (m.gpr x) 0) < 2 ^ 32
            by_test true is = word (m.gpr x) (b.gprs x is)
            by_test false is = word 0 (omega arith)

        pub own_range : AreInRange own_guest
        own_range x lx = by_test (ltb x 32) refl
          where
            by_test : (t : Bool) → ltb x 32 ≡ t → own_locs x < location_range x
            by_test true e = let low : x < 32 = grind (arith, nat_tests) in let w = own_word x low in let f : ltb x 34 ≡ true = grind (arith, nat_tests) in subst (λ t. own_locs x < cond t (2 ^ 32) (cond (ltb x 42) 16 (cond (ltb x 45) 2 128))) (sym f) w
            by_test false e = let ge : 32 ≤ x = grind (arith, nat_tests) in subst (λ v. v < location_range x) (sym (own_far x ge)) (in_range x lx)

        -- the host that represents it
        abbrev pub own_bytes : ℕ → ℕ
        own_bytes a = cond (leb area a && ltb a (area + 128)) (own_locs ((a - area) / 4) / 256 ^ ((a - area) % 4) % 256) (core.bytes a)

        abbrev pub own_core : Core
        own_core = record { regs = λ r. core.regs (register_of m r); flags = core.flags; bytes = own_bytes }

        own_home : (x i : ℕ) → x < 32 → i < 4 → own_bytes (area + (4 * x + i)) ≡ own_locs x / 256 ^ i % 256
        own_home x i lx li =
            let e : (leb area (area + (4 * x + i)) && ltb (area + (4 * x + i)) (area + 128)) ≡ true = grind (arith, nat_tests) in
            let q : (area + (4 * x + i) - area) / 4 ≡ x = omega arith in
            let r : (area + (4 * x + i) - area) % 4 ≡ i = omega arith in
            ap (λ t. cond t (own_locs ((area + (4 * x + i) - area) / 4) / 256 ^ ((area + (4 * x + i) - area) % 4) % 256) (core.bytes (area + (4 * x + i)))) e
            ∙ ap (λ k. own_locs k / 256 ^ ((area + (4 * x + i) - area) % 4) % 256) q ∙ ap (λ k. own_locs x / 256 ^ k % 256) r

        own_beyond : (a : ℕ) → (a < area) ⊎ (area + 128 ≤ a) → own_bytes a ≡ core.bytes a
        own_beyond a (inl lt) = let e : leb area a ≡ false = grind (arith, nat_tests) in ap (λ t. cond (t && ltb a (area + 128)) (own_locs ((a - area) / 4) / 256 ^ ((a - area) % 4) % 256) (core.bytes a)) e
        own_beyond a (inr ge) = let e : (leb area a && ltb a (area + 128)) ≡ false = grind (arith, nat_tests) in ap (λ t. cond t (own_locs ((a - area) / 4) / 256 ^ ((a - area) % 4) % 256) (core.bytes a)) e

        pub own_is_core : IsCore own_core
        own_is_core = record { words = λ r. is_core.words (register_of m r); bytes = λ a. by_test a (leb area a && ltb a (area + 128)) }
          where
            by_test : (a : ℕ) (t : Bool) → cond t (own_locs ((a - area) / 4) / 256 ^ ((a - area) % 4) % 256) (core.bytes a) < 256
            by_test a true = omega arith
            by_test a false = is_core.bytes a

        home_value : (x : ℕ) → x < 32 → load 4 (area + 4 * x) own_bytes ≡ own_locs x
        home_value x lx = digits (own_locs x) (area + 4 * x) own_bytes (own_word x lx) (λ i li. let low = page.low in let e : (area + 4 * x + i) % 2 ^ 32 ≡ area + (4 * x + i) = omega (arith, low, lx, li) in ap own_bytes e ∙ own_home x i lx li)

        -- a location in its home, on the host that is given
        at_home : (x : ℕ) → x < 46 → slot_of map x ≡ None → load (home_size x) (area + home x) core.bytes ≡ g.locs x
        at_home x lx e = ap (λ o. value_at core (in_slot o (Memory (home_size x) (area + home x)))) (sym e) ∙ represents.locs x lx tt

        pub no_parameter : (x : ℕ) → 32 ≤ x → is_parameter slots x ≡ false
        no_parameter x ge = let few = b.few in far_parameter x (length slots) ge few

        pub no_slot : (x : ℕ) → 32 ≤ x → slot_of map x ≡ None
        no_slot x ge = by_slot (slot_of map x) refl
          where
            by_slot : (o : Option ℕ) → slot_of map x ≡ o → slot_of map x ≡ None
            by_slot None e = e
            by_slot (Some r) e = let lt = slot_gpr map x r b.is_map e in absurd (omega (arith, lt, ge))

        high_home : (x : ℕ) → 32 ≤ x → 128 ≤ home x
        high_home x ge = by_test (ltb x 34)
          where
            by_test : (t : Bool) → 128 ≤ cond t (4 * x) (102 + x)
            by_test true = omega (arith, ge)
            by_test false = omega (arith, ge)

        -- a location that is no GPR in its home, in two memories that are the same there
        pub far_bytes : (x : ℕ) → x < 46 → 32 ≤ x → (f h : ℕ → ℕ) → ((o : ℕ) → 128 ≤ o → o < 148 → f (area + o) ≡ h (area + o)) → load (home_size x) (area + home x) f ≡ load (home_size x) (area + home x) h
        far_bytes x lx ge f h same = load_alike (home_size x) (area + home x) (area + home x) f h (λ i li.
            let w = home_within x i lx li in let k = high_home x ge in let low = page.low in
            let e : (area + home x + i) % 2 ^ 32 ≡ area + (home x + i) = wraps (home x) i w low in
            ap f e ∙ same (home x + i) (omega (arith, k)) w ∙ ap h (sym e))
          where
            wraps : (y i : ℕ) → y + i < 148 → area + 4096 ≤ 2 ^ 32 → (area + y + i) % 2 ^ 32 ≡ area + (y + i)
            wraps y i w low = omega (arith, w, low)

        pub own_renamed : Renamed m area host U O core core own_core
        own_renamed = record {
          regs = λ r u. refl;
          flags = refl;
          bytes = bytes;
          far = λ a far. sym (own_beyond a (beyond a far));
          kept_regs = λ r no. refl;
          kept_bytes = λ i li no. refl;
        }
          where
            beyond : (a : ℕ) → IsFar area a → (a < area) ⊎ (area + 128 ≤ a)
            beyond a (inl lt) = inl lt
            beyond a (inr ge) = inr (omega (arith, ge))

            bytes : (o : ℕ) → O o → core.bytes (area + offset_of m o) ≡ own_bytes (area + o)
            bytes o (inl x) = ap (λ k. core.bytes (area + k)) (other_home o x.0) ∙ sym (own_beyond (area + o) (inr (omega (arith, x.0))))
            bytes o (inr x) =
                let lg = b.gprs x.0 x.2 in
                let low = page.low in
                let lp = guest_names.low x.0 x.2 in
                let t : ltb (m.gpr x.0) 34 ≡ true = grind (arith, nat_tests) in
                let v : load 4 (area + 4 * m.gpr x.0) core.bytes ≡ g.locs (m.gpr x.0) = ap (λ t. load (cond t 4 1) (area + cond t (4 * m.gpr x.0) (102 + m.gpr x.0)) core.bytes) (sym t) ∙ at_home (m.gpr x.0) (omega (arith, lg)) (b.at_home x.0 x.2 x.3) in
                let a : (area + 4 * m.gpr x.0 + x.1) % 2 ^ 32 ≡ area + (4 * m.gpr x.0 + x.1) = let li = x.4 in omega (arith, low, lg, li) in
                ap (λ k. core.bytes (area + offset_of m k)) x.5 ∙ ap (λ k. core.bytes (area + k)) (named_home x.0 x.1 x.2 x.4) ∙ ap core.bytes (sym a) ∙ sym (digit (area + 4 * m.gpr x.0) x.1 core.bytes is_core.bytes x.4)
                ∙ ap (λ n. n / 256 ^ x.1 % 256) (v ∙ sym (own_par x.0 x.2)) ∙ sym (own_home x.0 x.1 lp x.4) ∙ ap (λ k. own_bytes (area + k)) (sym x.5)

        pub own_represents : Represents own area Any guest.held own_guest own_core
        own_represents = record { locs = λ x lx t. by_low x lx (ltb x 32) refl; bytes = λ a held. own_beyond a (away a held) ∙ represents.bytes a held }
          where
            away : (a : ℕ) → guest.held a ≡ true → (a < area) ⊎ (area + 128 ≤ a)
            away a held = ⊎_elim (λ lt. inl lt) (λ ge. inr (omega (arith, ge))) (page.apart a held)

            in_home : (x : ℕ) → slot_of own x ≡ None → location_place own area x ≡ Memory (home_size x) (area + home x)
            in_home x e = ap (λ o. in_slot o (Memory (home_size x) (area + home x))) e

            by_slot : (x : ℕ) → x < 32 → (t : Bool) → (is_parameter slots x && is_in_slot slots x) ≡ t → value_at own_core (location_place own area x) ≡ own_locs x
            by_slot x lx true e =
                let is = (both_true (is_parameter slots x) (is_in_slot slots x) e).0 in
                let s = (both_true (is_parameter slots x) (is_in_slot slots x) e).1 in
                let lg = b.gprs x is in
                ap (λ o. value_at own_core (in_slot o (Memory (home_size x) (area + home x)))) (is_own.in_slots x is s)
                ∙ ap (λ o. value_at core (in_slot o (Memory (home_size (m.gpr x)) (area + home (m.gpr x))))) (sym (slot_place x (slot_at slots x) is s refl)) ∙ represents.locs (m.gpr x) (omega (arith, lg)) tt ∙ sym (own_par x is)
            by_slot x lx false e =
                let t : ltb x 34 ≡ true = grind (arith, nat_tests) in
                ap (value_at own_core) (in_home x (is_own.at_home x e)) ∙ ap (λ t. load (cond t 4 1) (area + cond t (4 * x) (102 + x)) own_bytes) t ∙ home_value x lx

            by_low : (x : ℕ) → x < 46 → (t : Bool) → ltb x 32 ≡ t → value_at own_core (location_place own area x) ≡ own_locs x
            by_low x lx true e = let lt : x < 32 = grind (arith, nat_tests) in by_slot x lt (is_parameter slots x && is_in_slot slots x) refl
            by_low x lx false e =
                let ge : 32 ≤ x = grind (arith, nat_tests) in
                ap (value_at own_core) (in_home x (is_own.at_home x (ap (λ t. t && is_in_slot slots x) (no_parameter x ge)))) ∙ far_bytes x lx ge own_bytes core.bytes (λ o k lt. own_beyond (area + o) (inr (omega (arith, k)))) ∙ at_home x lx (no_slot x ge) ∙ sym (own_far x ge)
