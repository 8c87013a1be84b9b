-- The indirect sequence leads to the door of the address in ecx, or to `hold`.
use Rattle.std.proofs.Common.{◌≡◌, ℕ, ◌+◌, ◌-◌, ◌*◌, ◌/◌, ◌%◌, ◌^◌, ◌<◌, ◌≤◌, ◌⊎◌, inl, inr, Bool, true, false, cond, not, ltb, List, map, drop, Option, Some, None, bit_and, refl, sym, ap, ◌∙◌, subst, arith}
use Rattle.std.proofs.lemmas.Bool.Decides.{nat_tests}
use Rattle.std.proofs.lemmas.Nat.Bits.{and_high_mask}
use Rattle.machines.specs.Prelude.{Map, Below, NotBelow, condition_holds, difference_word, difference_flags, eax, ecx, Goes, Anywhere, Walks, stays, walks, update, load, each_byte, Guest, Choice, Core, Host, value_at, reads, jumps_to}
use Rattle.reg_map.specs.Prelude.{home, home_size, location_range, slot_of, in_slot, location_place}
use Rattle.runs.proofs.Walking.{join_walks}
use Rattle.machines.specs.Host.{Memory}
use Rattle.symbolic_tiles.specs.Prelude.{IsCore, leap_target}
use Rattle.code_layout.specs.Prelude.{leap_ops}
use Rattle.simulation.specs.Prelude.{SimulationContext, MatchesState, LeapAt, IsTranslation}
use Rattle.symbolic_tiles.proofs.Memory.{load_same, update_keeps}
use Rattle.symbolic_tiles.proofs.Places.{slot_cached}
use Rattle.machines.proofs.Stack.{each_true as each_of}
use Rattle.symbolic_tiles.proofs.Walked.{ops_are_walked}
use Rattle.simulation.proofs.Full.{walk_keeps, IsUnwritten}

-- CF tells an unsigned comparison
below_by_flags : (x y : ℕ) → condition_holds Below (difference_flags x y false) ≡ ltb x y
below_by_flags x y = grind (arith, nat_tests)

-- the low bits of a target are cleared
cleared : (x : ℕ) → x < 2 ^ 32 → bit_and x 0xFFFFFFFC ≡ 4 * (x / 4)
cleared x h = let e : bit_and x 0xFFFFFFFC ≡ x / 4 * 4 = and_high_mask 32 2 (omega arith) x h in e ∙ omega arith

-- a target is a code word, or lies before or behind them
place_of : (first count w : ℕ) → w < 2 ^ 32 → first < 2 ^ 32 → first + 4 * count ≤ 2 ^ 32 → first % 4 ≡ 0 → w % 4 ≡ 0 →
    ((ltb (difference_word w first false) (4 * count) ≡ true) × ((k : ℕ) × (k < count) × (w ≡ first + 4 * k) × (difference_word w first false ≡ 4 * k)))
    ⊎ ((ltb (difference_word w first false) (4 * count) ≡ false) × ((w < first) ⊎ (first + 4 * count ≤ w)))
place_of first count w lw lf low af aw = by_place (grind arith)
  where
    by_place : (w < first) ⊎ ((first ≤ w) × (w < first + 4 * count)) ⊎ (first + 4 * count ≤ w) →
        ((ltb (difference_word w first false) (4 * count) ≡ true) × ((k : ℕ) × (k < count) × (w ≡ first + 4 * k) × (difference_word w first false ≡ 4 * k)))
        ⊎ ((ltb (difference_word w first false) (4 * count) ≡ false) × ((w < first) ⊎ (first + 4 * count ≤ w)))
    by_place (inl l) = inr (grind (arith, nat_tests), inl l)
    by_place (inr (inl h)) =
        let d : difference_word w first false ≡ w - first = omega (arith, h.0) in
        let e : 4 * ((w - first) / 4) ≡ w - first = omega (arith, h.0, af, aw) in
        let l : (w - first) / 4 < count = omega (arith, h.0, h.1, e) in
        inl (grind (arith, nat_tests), ((w - first) / 4, l, omega (arith, h.0, e), d ∙ sym e))
    by_place (inr (inr l)) = inr (grind (arith, nat_tests), inr l)

-- Behind the four ops the offset is in eax and compared; there are no other changes but ecx.
abbrev compared : ℕ → ℕ → Core → Core
compared first count core =
    let target = bit_and (core.regs ecx) 0xFFFFFFFC in
    let offset = difference_word target first false in
    record {
      regs = update (update (update core.regs ecx target) eax target) eax offset;
      flags = difference_flags offset (4 * count) false;
      bytes = core.bytes;
    }

-- the places of locations are none of theirs
place_kept : (map : Map) (area first count : ℕ) (core : Core) (x : ℕ) → value_at (compared first count core) (location_place map area x) ≡ value_at core (location_place map area x)
place_kept map area first count core x = by_slot (slot_of map x) refl
  where
    by_slot : (o : Option ℕ) → slot_of map x ≡ o → value_at (compared first count core) (in_slot o (Memory (home_size x) (area + home x))) ≡ value_at core (in_slot o (Memory (home_size x) (area + home x)))
    by_slot None e = refl
    by_slot (Some r) e = let h = slot_cached map x r e in grind (arith, nat_tests)

compared_core : (first count : ℕ) (core : Core) → IsCore core → IsCore (compared first count core)
compared_core first count core is = record {
  words = λ r.
      update_keeps (λ v. v < 2 ^ 32) (update (update core.regs ecx target) eax target) eax (difference_word target first false) r (omega arith)
      (update_keeps (λ v. v < 2 ^ 32) (update core.regs ecx target) eax target r low (update_keeps (λ v. v < 2 ^ 32) core.regs ecx target r low (is.words r)));
  bytes = is.bytes;
}
  where
    target : ℕ
    target = bit_and (core.regs ecx) 0xFFFFFFFC

    low : target < 2 ^ 32
    low = let w = is.words ecx in let e = cleared (core.regs ecx) w in omega (arith, e, w)

module _ (s : SimulationContext) (t : IsTranslation s) where
  -- behind the sequence
  pub record Leapt (map : Map) (g : Guest) (h : Host) : Type 0 where
    pub j : ℕ
    pub h' : Host
    pub some : 1 ≤ j
    pub few : j ≤ 6
    pub host_walks : Walks Anywhere s.host_step j h h'
    pub matches : MatchesState s map g h'.core
    pub here : h'.eip ≡ s.door g.next

  pub leaps : (map : Map) (g : Guest) (h : Host) → MatchesState s map g h.core → leap_target h.core ≡ g.next → LeapAt s h.eip → Leapt map g h
  leaps map g h matches to leap = by_place (place_of s.first s.count g.next (omega (arith, to, word)) t.has_table.first_word t.has_table.low t.has_table.aligned (omega (arith, to)))
    where
      word : h.core.regs 1 < 2 ^ 32
      word = matches.is_core.words 1

      offset : ℕ
      offset = difference_word g.next s.first false

      cut : bit_and (h.core.regs 1) 0xFFFFFFFC ≡ g.next
      cut = cleared (h.core.regs 1) word ∙ to

      core : Core
      core = compared s.first s.count h.core

      walked : (left : List Choice) × Walks Anywhere s.host_step 4 h (record { core = core; eip = leap.compared; choices = left })
      walked = ops_are_walked s.host s.host_step (leap_ops s.first s.count) h.eip leap.compared h core leap.ops refl refl

      h1 : Host
      h1 = record { core = core; eip = leap.compared; choices = walked.0 }

      flags : core.flags ≡ difference_flags offset (4 * s.count) false
      flags = ap (λ k. difference_flags (difference_word k s.first false) (4 * s.count) false) cut

      unwritten : IsUnwritten s core
      unwritten = walk_keeps s t.keeps 4 h h1 walked.1 matches.unwritten

      matches' : MatchesState s map g core
      matches' = record {
        is_map = matches.is_map;
        is_guest = matches.is_guest;
        represents = record {
          locs = λ x lx alive. place_kept map s.area s.first s.count h.core x ∙ matches.represents.locs x lx alive;
          bytes = matches.represents.bytes;
        };
        in_range = λ x lx. subst (λ v. v < location_range x) (sym (place_kept map s.area s.first s.count h.core x)) (matches.in_range x lx);
        is_core = compared_core s.first s.count h.core matches.is_core;
        unwritten = unwritten;
      }

      not_below : (b : Bool) → ltb offset (4 * s.count) ≡ b → condition_holds NotBelow core.flags ≡ not b
      not_below b e = ap (condition_holds NotBelow) flags ∙ ap not (below_by_flags offset (4 * s.count) ∙ e)

      forked : (b : Bool) → ltb offset (4 * s.count) ≡ b → s.host_step h1 ≡ Goes (record { core = core; eip = cond (not b) s.hold leap.inside; choices = drop 1 walked.0 })
      forked b e = leap.fork h1 refl ∙ ap (λ k. Goes (record { core = core; eip = cond k s.hold leap.inside; choices = drop 1 walked.0 })) (not_below b e)

      by_place : ((ltb (difference_word g.next s.first false) (4 * s.count) ≡ true) × ((k : ℕ) × (k < s.count) × (g.next ≡ s.first + 4 * k) × (difference_word g.next s.first false ≡ 4 * k)))
          ⊎ ((ltb (difference_word g.next s.first false) (4 * s.count) ≡ false) × ((g.next < s.first) ⊎ (s.first + 4 * s.count ≤ g.next))) → Leapt map g h
      by_place (inr f) =
          let h2 : Host = record { core = core; eip = s.hold; choices = drop 1 walked.0 } in
          record {
            j = 5;
            h' = h2;
            some = omega arith;
            few = omega arith;
            host_walks = join_walks Anywhere s.host_step 4 1 h h1 h2 walked.1 (walks tt (forked false f.0) stays);
            matches = matches';
            here = sym (t.has_table.off g.next (omega (arith, to, word)) (omega (arith, to)) f.1);
          }
      by_place (inl f) =
          let h2 : Host = record { core = core; eip = leap.inside; choices = drop 1 walked.0 } in
          let h3 : Host = record { core = core; eip = s.door g.next; choices = drop 1 (drop 1 walked.0) } in
          record {
            j = 6;
            h' = h3;
            some = omega arith;
            few = omega arith;
            host_walks = join_walks Anywhere s.host_step 4 2 h h1 h3 walked.1 (walks tt (forked true f.0) (walks tt (leap.jump h2 refl ∙ ap (λ o. jumps_to s.host o h2) (read f.1)) stays));
            matches = matches';
            here = refl;
          }
        where
          read : (k : ℕ) × (k < s.count) × (g.next ≡ s.first + 4 * k) × (difference_word g.next s.first false ≡ 4 * k) → reads s.host core (Memory 4 ((core.regs 0 + s.table) % 2 ^ 32)) ≡ Some (s.door g.next)
          read p =
              let k = p.0 in
              let r : core.regs eax ≡ 4 * k = ap (λ n. difference_word n s.first false) cut ∙ p.3 in
              let low = t.has_table.table_low in
              let a : (core.regs 0 + s.table) % 2 ^ 32 ≡ s.table + 4 * k = omega (arith, r, low, p.1) in
              let here = λ (i : ℕ) (li : i < 4). (let e : (s.table + 4 * k + i) % 2 ^ 32 ≡ s.table + (4 * k + i) = omega (arith, low, p.1, li) in e) in
              let held : each_byte s.host.held 4 (s.table + 4 * k) ≡ true = each_of s.host.held 4 (s.table + 4 * k) (λ i li. ap s.host.held (here i li) ∙ t.has_table.held (4 * k + i) (omega (arith, p.1, li))) in
              let same : load 4 (s.table + 4 * k) core.bytes ≡ load 4 (s.table + 4 * k) s.image = load_same 4 (s.table + 4 * k) core.bytes s.image (λ i li. unwritten _ (ap s.host.writable (here i li) ∙ t.has_table.unwritable (4 * k + i) (omega (arith, p.1, li)))) in
              ap (λ n. reads s.host core (Memory 4 n)) a ∙ ap (λ (b : Bool). cond b (Some (load 4 (s.table + 4 * k) core.bytes)) None) held ∙ ap Some (same ∙ t.has_table.words k p.1 ∙ ap s.door (sym p.2))
