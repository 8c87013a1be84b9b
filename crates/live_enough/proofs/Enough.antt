-- From states that are alike in what is live, a word does the same.
use Rattle.std.proofs.Common.{◌≡◌, ℕ, ◌+◌, ◌*◌, ◌-◌, ◌/◌, ◌%◌, ◌^◌, ◌<◌, ◌==◌, ◌⊎◌, inl, inr, Bool, true, false, cond, List, length, slice_index, slice_index_or, Contains, Option, Some, None, refl, sym, ap, ◌∙◌, subst, arith}
use Rattle.std.specs.Prelude.{IsBitSet}
use Rattle.std.proofs.lemmas.Bool.{eqb-true, cases_lt}
use Rattle.std.proofs.lemmas.Bool.Decides.{nat_tests}
use Rattle.std.proofs.lemmas.Nat.{and_mask, bit_set_by_shift}
use Rattle.std.proofs.lemmas.List.{get_or_default, get_or_past}
use Rattle.machines.specs.Prelude.{HasOneInstruction, Outside, Instr, Program, Outcome, Goes, Asks, Ends, Guest, IsWordOf, effect_of, guest_acts, guest_executes, guest_machine, locations_read, locations_written, rights_of, code_of, is_code_word, word_of_code}
use Rattle.reg_map.specs.Prelude.{is_live}
use Rattle.block_find.specs.Prelude.{address_of}
use Rattle.row_laws.specs.Laws.{Next, Alike as AlikeRows, AreSame, DependsOnItsReadsAlone, KeepsAgreement}
use Rattle.row_laws.proofs.Agreement.{in_or_not}
use Rattle.row_laws.proofs.Lists.{Lacks}
use Rattle.liveness.specs.Live.{IsLive, Leads}
use Rattle.liveness.specs.Laws.{LiveByBehind}
use Rattle.liveness.specs.Prelude.{Sets, IsRead, IsWritten, named, anywhere, live_at}
use Rattle.liveness.proofs.Bits.{in_set}
use Rattle.liveness.proofs.Within.{below}
use Rattle.simulation.specs.Prelude.{SimulationContext, IsGuest, Alike, AreAlike}
use Rattle.live_enough.specs.Laws.{HasLiveSets, LiveSetsAreEnough}
use Rattle.live_enough.proofs.Next.{GoesBy, goes_by}

-- the two ways to say that a location is among bits
set_if_live : (bits x : ℕ) → is_live bits x ≡ true → IsBitSet bits x
set_if_live bits x e =
    let one : bits / 2 ^ x % 2 ≡ 1 = eqb-true (bits / 2 ^ x % 2) 1 e in
    (bit_set_by_shift bits x).0 (and_mask (bits / 2 ^ x) 1 ∙ one)

live_if_set : (bits x : ℕ) → IsBitSet bits x → is_live bits x ≡ true
live_if_set bits x set =
    let one : bits / 2 ^ x % 2 ≡ 1 = sym (and_mask (bits / 2 ^ x) 1) ∙ (bit_set_by_shift bits x).1 set in
    ap (λ (n : ℕ). n == 1) one

module _ (s : SimulationContext) (reading : ℕ → Option Instr) (P : Program) (first : ℕ) (words : List ℕ) (sets : Sets) (h : HasLiveSets s reading P first words sets) where
  -- the bits before a code word
  bits_at : (k : ℕ) → k < length words → live_at sets (address_of first k) ≡ slice_index sets.bits k
  bits_at k lt =
      let f : sets.first ≡ first = h.are_live.first_is in
      let place : (address_of first k - sets.first) / 4 ≡ k = omega (arith, f) in
      let here : (address_of first k == address_of sets.first k) ≡ true = let e : address_of first k ≡ address_of sets.first k = ap (λ (n : ℕ). address_of n k) (sym f) in grind (arith, nat_tests) in
      let count : length sets.bits ≡ length words = h.are_live.count in
      rw (place, here) (get_or_default sets.bits k 0 0 (omega (arith, lt, count)))

  -- what is live before a code word
  live_there : (k x : ℕ) → k < length words → IsLive first words x k → s.live (address_of first k) x ≡ true
  live_there k x lt live =
      h.live (address_of first k) x ∙ ap (λ (n : ℕ). is_live n x) (bits_at k lt) ∙ live_if_set (slice_index sets.bits k) x ((h.are_live.each k x lt).1 live)

  -- Where something is live a code word stands, before which it is live.
  pub record IsThere (a x : ℕ) : Type 0 where
    pub place : ℕ
    pub within : place < length words
    pub here : a ≡ address_of first place
    pub low : x < 46
    pub live : IsLive first words x place

  no_bits : (x : ℕ) → is_live 0 x ≡ true → ⊥
  no_bits x e = set_if_live 0 x e (grind arith)

  there : (a x : ℕ) → s.live a x ≡ true → IsThere a x
  there a x e = by_place (a == address_of sets.first k) refl
    where
      k : ℕ
      k = (a - sets.first) / 4

      on : is_live (live_at sets a) x ≡ true
      on = sym (h.live a x) ∙ e

      by_place : (b : Bool) → (a == address_of sets.first k) ≡ b → IsThere a x
      by_place false off = absurd (no_bits x (sym (ap (λ (b : Bool). is_live (cond b (slice_index_or sets.bits k 0) 0) x) off) ∙ on))
      by_place true same = elim (cases_lt k (length words)) [
        | inl lt ↦ (
            let at : a ≡ address_of first k = eqb-true a (address_of sets.first k) same ∙ ap (λ (n : ℕ). address_of n k) h.are_live.first_is in
            let bits : is_live (slice_index sets.bits k) x ≡ true = sym (h.live (address_of first k) x ∙ ap (λ (n : ℕ). is_live n x) (bits_at k lt)) ∙ ap (λ (n : ℕ). s.live n x) (sym at) ∙ e in
            let set : IsBitSet (slice_index sets.bits k) x = set_if_live (slice_index sets.bits k) x bits in
            record { place = k; within = lt; here = at; low = below (slice_index sets.bits k) x (h.are_live.within k lt) ((in_set (slice_index sets.bits k) x).1 set); live = (h.are_live.each k x lt).0 set })
        | inr le ↦ (
            let count : length sets.bits ≡ length words = h.are_live.count in
            let none : slice_index_or sets.bits k 0 ≡ 0 = get_or_past sets.bits k 0 (omega (arith, le, count)) in
            absurd (no_bits x (sym (ap (λ (b : Bool). is_live (cond b (slice_index_or sets.bits k 0) 0) x) same ∙ ap (λ (n : ℕ). is_live n x) none) ∙ on)))
      ]

  module _ (one : (w : ℕ) → HasOneInstruction w) (behind_is : LiveByBehind) (k : ℕ) (lt : k < length words) (i : Instr) (is : IsWordOf (slice_index words k) i) where
    before : (x : ℕ) → IsRead words k x → s.live (address_of first k) x ≡ true
    before x read = live_there k x lt ((behind_is first words x k).1 (inl (lt, read)))

    read_is_live : (x : ℕ) → Contains (locations_read i) x → s.live (address_of first k) x ≡ true
    read_is_live x c = before x (record { instr = i; spelled = is; counts = named c })

    -- what is live behind it and isn't written is live before it
    unwritten_is_live : (x next : ℕ) → GoesBy i (address_of first k) next → Lacks (locations_written i) x → s.live next x ≡ true → s.live (address_of first k) x ≡ true
    unwritten_is_live x next way lacks e = by_way way
      where
        t : IsThere next x
        t = there next x e

        unwritten : IsWritten words k x → ⊥
        unwritten w = lacks (subst (λ (j : Instr). Contains (locations_written j) x) (one (slice_index words k) w.instr i w.spelled is) w.writes)

        behind_it : Leads first words k t.place → s.live (address_of first k) x ≡ true
        behind_it leads = live_there k x lt ((behind_is first words x k).1 (inr (t.place, leads, unwritten, t.live)))

        by_way : GoesBy i (address_of first k) next → s.live (address_of first k) x ≡ true
        by_way (inl next_word) =
            let here : next ≡ address_of first t.place = t.here in
            let low : first + 4 * length words < 2 ^ 32 = h.has.low in
            let is_next : t.place ≡ k + 1 = omega (arith, here, low, lt, next_word.0) in
            behind_it (lt, t.within, inl (record { instr = i; spelled = is; falls = next_word.1 }, is_next))
        by_way (inr (inl names)) = behind_it (lt, t.within, inr (record { instr = i; spelled = is; leads = names ∙ ap Some t.here }))
        by_way (inr (inr any)) = before x (record { instr = i; spelled = is; counts = anywhere any t.low })

    module _ (depends : DependsOnItsReadsAlone) (keeps : KeepsAgreement) (g other : Guest) (at : g.next ≡ address_of first k) (is_guest : IsGuest s g) (is_other : IsGuest s other) (alike : Alike s g other) where
      same : AreSame (locations_read i) other g
      same = record { locs = λ x c. alike.locs x (ap (λ (n : ℕ). s.live n x) at ∙ read_is_live x c); next = alike.next; bytes = alike.bytes }

      -- in what is live before it they agree behind it
      abbrev Agree : Outcome Guest → Outcome Guest → Type 0
      Agree o' o = (x : ℕ) → x < 46 → s.live (address_of first k) x ≡ true → AlikeRows (λ a b. a.locs x ≡ b.locs x) o' o

      alike_behind : (g' other' : Guest) → GoesBy i (address_of first k) g'.next → AreSame (locations_written i) other' g' → ((x : ℕ) → x < 46 → s.live (address_of first k) x ≡ true → other'.locs x ≡ g'.locs x) → Alike s g' other'
      alike_behind g' other' way written kept = record { next = written.next; locs = λ x live. by_place x live (in_or_not (locations_written i) x); bytes = written.bytes }
        where
          by_place : (x : ℕ) → s.live g'.next x ≡ true → Contains (locations_written i) x ⊎ Lacks (locations_written i) x → other'.locs x ≡ g'.locs x
          by_place x live (inl c) = written.locs x c
          by_place x live (inr lacks) = kept x (there g'.next x live).low (unwritten_is_live x g'.next way lacks live)

      by_outcomes : (o o' : Outcome Guest) → Next (λ (g' : Guest). GoesBy i (address_of first k) g'.next) o → AlikeRows (AreSame (locations_written i)) o' o → Agree o' o → AreAlike s o o'
      by_outcomes (Goes g') (Goes other') way written kept = alike_behind g' other' way written kept
      by_outcomes (Asks call next) (Asks asked others) way written kept = (written.0, λ a. alike_behind (next a) (others a) (way a) (written.1 a) (λ x lx live. (kept x lx live).1 a))
      by_outcomes (Ends e) (Ends other_end) way written kept = written
      by_outcomes (Goes g') (Asks asked others) way written kept = absurd written
      by_outcomes (Goes g') (Ends other_end) way written kept = absurd written
      by_outcomes (Asks call next) (Goes other') way written kept = absurd written
      by_outcomes (Asks call next) (Ends other_end) way written kept = absurd written
      by_outcomes (Ends e) (Goes other') way written kept = absurd written
      by_outcomes (Ends e) (Asks asked others) way written kept = absurd written

      pub acts_alike : AreAlike s (guest_acts s.guest i (effect_of i g) g) (guest_acts s.guest i (effect_of i other) other)
      acts_alike = by_outcomes (guest_acts s.guest i (effect_of i g) g) (guest_acts s.guest i (effect_of i other) other)
          (subst (λ (a : ℕ). Next (λ (g' : Guest). GoesBy i a g'.next) (guest_acts s.guest i (effect_of i g) g)) at (goes_by s.guest g i))
          (depends i s.guest other g is.legal is_other.in_range is_guest.in_range same)
          (λ x lx live. keeps i s.guest other g x is.legal is_other.in_range is_guest.in_range same lx (alike.locs x (ap (λ (n : ℕ). s.live n x) at ∙ live)))

  module _ (one : (w : ℕ) → HasOneInstruction w) (behind_is : LiveByBehind) (depends : DependsOnItsReadsAlone) (keeps : KeepsAgreement) (g other : Guest) (is_guest : IsGuest s g) (is_other : IsGuest s other) (alike : Alike s g other) where
    -- a word read at a code word's place does the same
    read_alike : (k : ℕ) → k < length words → g.next ≡ address_of first k → (o : Option Instr) → reading (slice_index words k) ≡ o → AreAlike s (guest_executes s.guest o g) (guest_executes s.guest o other)
    read_alike k lt at None e = refl
    read_alike k lt at (Some i) e = acts_alike one behind_is k lt i (h.reads.found (slice_index words k) i e) depends keeps g other at is_guest is_other alike

    fetched : (b : Bool) → is_code_word (code_of P) g.next ≡ b →
        AreAlike s (cond b (guest_executes s.guest (reading (word_of_code (code_of P) g.next)) g) (Ends Outside)) (cond b (guest_executes s.guest (reading (word_of_code (code_of P) g.next)) other) (Ends Outside))
    fetched false e = refl
    fetched true e =
        let k = h.has.only g.next e in
        let word : word_of_code (code_of P) g.next ≡ slice_index words k.0 = ap (word_of_code (code_of P)) k.2 ∙ h.has.each k.0 k.1 in
        subst (λ (w : ℕ). AreAlike s (guest_executes s.guest (reading w) g) (guest_executes s.guest (reading w) other)) (sym word) (read_alike k.0 k.1 k.2 (reading (slice_index words k.0)) refl)

    steps_alike : AreAlike s (s.guest_step g) (s.guest_step other)
    steps_alike =
        subst (λ (o : Outcome Guest). AreAlike s o (s.guest_step other)) (sym (h.steps g)) (
        subst (λ (o : Outcome Guest). AreAlike s (guest_machine reading P g) o) (sym (h.steps other ∙ ap (λ (a : ℕ). cond (is_code_word (code_of P) a) (guest_executes (rights_of P) (reading (word_of_code (code_of P) a)) other) (Ends Outside)) alike.next)) (
        subst (λ r. AreAlike s (cond (is_code_word (code_of P) g.next) (guest_executes r (reading (word_of_code (code_of P) g.next)) g) (Ends Outside)) (cond (is_code_word (code_of P) g.next) (guest_executes r (reading (word_of_code (code_of P) g.next)) other) (Ends Outside))) h.rights (
        fetched (is_code_word (code_of P) g.next) refl)))

pub enough : ((w : ℕ) → HasOneInstruction w) → LiveByBehind → DependsOnItsReadsAlone → KeepsAgreement → LiveSetsAreEnough
enough one behind_is depends keeps s reading P first words sets h word g other stands is_guest is_other alike =
    subst (λ (o : Outcome Guest). AreAlike s o (guest_executes s.guest word other)) (stands g refl) (
    subst (λ (o : Outcome Guest). AreAlike s (s.guest_step g) o) (stands other alike.next) (
    steps_alike s reading P first words sets h one behind_is depends keeps g other is_guest is_other alike))
