-- A move of a GPR between its home and a register keeps the relation.
use Rattle.std.proofs.Common.{◌≡◌, ◌≢◌, ℕ, ◌+◌, ◌^◌, ◌<◌, ◌⊎◌, Bool, true, false, [], ◌∷◌, Option, Some, None, refl, sym, ap, ◌∙◌, subst, ⊎_elim, arith}
use Rattle.std.proofs.lemmas.Bool.Decides.{nat_tests}
use Rattle.machines.specs.Prelude.{Map, IsMap, MovTo, MovFrom, Abs, load, Guest, Choice, Core, Place, Register, value_at, put_at, reads, puts, bind, goes_to as host_goes_to}
use Rattle.reg_map.specs.Prelude.{home, home_size, location_range, slot_of, in_slot, location_place, IsHomePage}
use Rattle.machines.specs.Host.{Memory}
use Rattle.symbolic_tiles.specs.Prelude.{core_behind, perform, GoesThrough, IsCore}
use Rattle.simulation.specs.Prelude.{SimulationContext, MatchesState, IsMove, MovesKeep}
use Rattle.symbolic_tiles.proofs.Memory.{update_keeps, store_other, store_byte, load_word}
use Rattle.symbolic_tiles.proofs.Places.{home_within, put_same, put_other, place_apart, place_fits, place_bytes, read_place, write_place}

is_same : (y x : ℕ) → (y ≡ x) ⊎ (y ≢ x)
is_same y x = grind arith

word_size : (x : ℕ) → x < 32 → home_size x ≡ 4
word_size x lx = grind (arith, nat_tests)

word_range : (x : ℕ) → x < 32 → location_range x ≡ 2 ^ 32
word_range x lx = grind (arith, nat_tests)

module _ (s : SimulationContext) (page : IsHomePage s.area s.guest s.host) (from to : Map) (n : ℕ) (is_map : IsMap to) (ln : n < 32) (others : (x : ℕ) → x ≢ n → slot_of to x ≡ slot_of from x) where
  abbrev new_place : Place
  new_place = location_place to s.area n

  abbrev value : Core → ℕ
  value core = value_at core (location_place from s.area n)

  -- the GPR's value at its new place
  moved : (g : Guest) (core : Core) → MatchesState s from g core → MatchesState s to g (put_at core new_place (value core))
  moved g core st = record {
    is_map = is_map;
    is_guest = st.is_guest;
    represents = record {
      locs = λ x lx alive. ⊎_elim (λ e. here x e ∙ st.represents.locs n (omega arith) (subst (λ z. s.live g.next z ≡ true) e alive) ∙ ap g.locs (sym e)) (λ ne. there x lx ne ∙ st.represents.locs x lx alive) (is_same x n);
      bytes = λ a held. place_bytes to s.area page.low n (value core) a core (omega arith) (page.apart a held) ∙ st.represents.bytes a held;
    };
    in_range = λ x lx. ⊎_elim (λ e. subst (λ z. value_at (put_at core new_place (value core)) (location_place to s.area z) < location_range z) (sym e) (subst (λ v. v < location_range n) (sym (here n refl)) (st.in_range n (omega arith)))) (λ ne. subst (λ v. v < location_range x) (sym (there x lx ne)) (st.in_range x lx)) (is_same x n);
    is_core = record { words = λ r. by_regs r (slot_of to n); bytes = λ a. by_bytes a (slot_of to n) };
    unwritten = λ a not_writable. kept a not_writable (slot_of to n) ∙ st.unwritten a not_writable;
  }
    where
      word : value core < 2 ^ 32
      word = subst (λ k. value core < k) (word_range n ln) (st.in_range n (omega arith))

      by_regs : (r : ℕ) (o : Option ℕ) → (put_at core (in_slot o (Memory (home_size n) (s.area + home n))) (value core)).regs r < 2 ^ 32
      by_regs r None = st.is_core.words r
      by_regs r (Some k) = update_keeps (λ v. v < 2 ^ 32) core.regs k (value core) r word (st.is_core.words r)

      by_bytes : (a : ℕ) (o : Option ℕ) → (put_at core (in_slot o (Memory (home_size n) (s.area + home n))) (value core)).bytes a < 256
      by_bytes a None = store_byte (home_size n) (s.area + home n) (value core) core.bytes a (st.is_core.bytes a)
      by_bytes a (Some k) = st.is_core.bytes a

      here : (x : ℕ) → x ≡ n → value_at (put_at core new_place (value core)) (location_place to s.area x) ≡ value core
      here x e = ap (λ z. value_at (put_at core new_place (value core)) (location_place to s.area z)) e ∙ put_same core new_place (value core) (place_fits to s.area page.low n (value core) (omega arith) (subst (λ k. value core < 256 ^ k) (sym (word_size n ln)) word))

      there : (x : ℕ) → x < 46 → x ≢ n → value_at (put_at core new_place (value core)) (location_place to s.area x) ≡ value_at core (location_place from s.area x)
      there x lx ne =
          put_other core new_place (location_place to s.area x) (value core) (place_apart to s.area page.low x n lx (omega arith) ne)
          ∙ ap (λ o. value_at core (in_slot o (Memory (home_size x) (s.area + home x)))) (others x ne)

      clash : (b : Bool) → b ≡ true → b ≡ false → ⊥
      clash true p q = cc
      clash false p q = cc

      kept : (a : ℕ) → s.host.writable a ≡ false → (o : Option ℕ) → (put_at core (in_slot o (Memory (home_size n) (s.area + home n))) (value core)).bytes a ≡ core.bytes a
      kept a no_write (Some r) = refl
      kept a no_write None = store_other (home_size n) (s.area + home n) (value core) core.bytes a (λ i li e.
          let w = home_within n i (omega arith) li in
          let low = page.low in
          let q : a ≡ s.area + (home n + i) = omega (arith, e, w, low) in
          clash (s.host.writable a) (ap s.host.writable q ∙ page.writable (home n + i) (omega (arith, w))) no_write)

  -- its home, as a place
  at_home : (m : Map) → slot_of m n ≡ None → location_place m s.area n ≡ Memory 4 (s.area + home n)
  at_home m e = ap (λ o. in_slot o (Memory (home_size n) (s.area + home n))) e ∙ ap (λ k. Memory k (s.area + home n)) (word_size n ln)

  at_register : (m : Map) (r : ℕ) → slot_of m n ≡ Some r → location_place m s.area n ≡ Register r
  at_register m r e = ap (λ o. in_slot o (Memory (home_size n) (s.area + home n))) e

  -- from a register to its home
  pub drops : (next r : ℕ) → slot_of from n ≡ Some r → slot_of to n ≡ None → IsMove s next from to (MovTo (Abs (home n)) r ∷ [])
  drops next r ef et = record {
    short = omega arith;
    moves = λ g core choices at st.
        let v : core.regs r ≡ value core = sym (ap (value_at core) (at_register from r ef)) in
        let e : puts s.host core (Memory 4 (s.area + home n)) (core.regs r) ≡ Some (put_at core new_place (value core)) =
        ap (puts s.host core (Memory 4 (s.area + home n))) v ∙ ap (λ p. puts s.host core p (value core)) (sym (at_home to et)) ∙ write_place to s.area s.guest s.host page n (value core) core (omega arith) in
        subst (λ o. GoesThrough (core_behind (perform s.host []) (host_goes_to s.host 0 (record { core = core; eip = 0; choices = choices }) o)) (MatchesState s to g)) (sym e) (moved g core st);
  }

  -- and from its home to a register
  pub takes : (next r : ℕ) → slot_of from n ≡ None → slot_of to n ≡ Some r → IsMove s next from to (MovFrom r (Abs (home n)) ∷ [])
  takes next r ef et = record {
    short = omega arith;
    moves = λ g core choices at st.
        let e : reads s.host core (Memory 4 (s.area + home n)) ≡ Some (value core) = ap (reads s.host core) (sym (at_home from ef)) ∙ read_place from s.area s.guest s.host page n core (omega arith) in
        let p : put_at core new_place (value core) ≡ put_at core (Register r) (value core) = ap (λ q. put_at core q (value core)) (at_register to r et) in
        let c : Choice = record { value = 0; flags = 0 } in
        subst (λ o. GoesThrough (core_behind (perform s.host []) (host_goes_to s.host 0 (record { core = core; eip = 0; choices = choices }) (bind o (λ v. Some (put_at core (Register r) v))))) (MatchesState s to g)) (sym e) (subst (MatchesState s to g) p (moved g core st));
  }

  -- where it is dead there is no op
  pub stays_dead : (next : ℕ) → s.live next n ≡ false → IsMove s next from to []
  stays_dead next dead = record {
    short = omega arith;
    moves = λ g core choices at st. record {
      is_map = is_map;
      is_guest = st.is_guest;
      represents = record {
        locs = λ x lx alive. ⊎_elim (λ e. absurd (unneeded g x at e alive)) (λ ne. same core x ne ∙ st.represents.locs x lx alive) (is_same x n);
        bytes = st.represents.bytes;
      };
      in_range = λ x lx. ⊎_elim (λ e. subst (λ z. value_at core (location_place to s.area z) < location_range z) (sym e) (subst (λ k. value_at core (location_place to s.area n) < k) (sym (word_range n ln)) (any_word core st.is_core (slot_of to n)))) (λ ne. subst (λ v. v < location_range x) (sym (same core x ne)) (st.in_range x lx)) (is_same x n);
      is_core = st.is_core;
      unwritten = st.unwritten;
    };
  }
    where
      same : (core : Core) (x : ℕ) → x ≢ n → value_at core (location_place to s.area x) ≡ value_at core (location_place from s.area x)
      same core x ne = ap (λ o. value_at core (in_slot o (Memory (home_size x) (s.area + home x)))) (others x ne)

      unneeded : (g : Guest) (x : ℕ) → g.next ≡ next → x ≡ n → s.live g.next x ≡ true → ⊥
      unneeded g x at e alive = let q : true ≡ false = sym alive ∙ ap (λ k. s.live k x) at ∙ ap (s.live next) e ∙ dead in cc

      any_word : (core : Core) → IsCore core → (o : Option ℕ) → value_at core (in_slot o (Memory (home_size n) (s.area + home n))) < 2 ^ 32
      any_word core is (Some r) = is.words r
      any_word core is None = subst (λ k. load k (s.area + home n) core.bytes < 2 ^ 32) (sym (word_size n ln)) (load_word (s.area + home n) core.bytes (λ i li. is.bytes _))

pub moves_keep : MovesKeep
moves_keep s page from to n is_map ln others next = (drops s page from to n is_map ln others next, takes s page from to n is_map ln others next, stays_dead s page from to n is_map ln others next)
