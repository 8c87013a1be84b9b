-- What counts as read at an instruction, and what a word's instruction says of the word.
use Rattle.std.proofs.Common.{◌≡◌, ◌≢◌, ℕ, ◌+◌, ◌<◌, ◌^◌, ◌++◌, ◌∷◌, [], ◌⊎◌, ◌↔◌, inl, inr, Bool, true, false, Some, None, List, length, sym, ◌∙◌, ap, subst, arith, Contains, bit_or}
use Rattle.std.specs.Prelude.{slice_index}
use Rattle.machines.specs.Prelude.{Instr, Locs, IsWordOf, IsSetOf, locations_read, locations_written}
use Rattle.block_find.specs.Prelude.{Names}
use Rattle.liveness.specs.Prelude.{CountsAsRead, named, anywhere, behind_call, leads_anywhere, is_call, falls_through, Has, nothing, IsFlowOf, AreFlowsTo, Unwritten, Flow}
use Rattle.std.specs.Int.{bit_at}
use Rattle.std.proofs.lemmas.Nat.Bits.{bit_at-zero}
use Rattle.std.proofs.lemmas.Bool.Decides.{eqb_tells}
use Rattle.std.proofs.lemmas.List.{get_or_append_left, get_or_push}
use Rattle.std.proofs.Math.ListN.{length-append}
use Rattle.liveness.proofs.Bits.{in_set, joined, every}
use Rattle.liveness.proofs.Within.{below, small}

-- a set of the locations of a list
pub of_list : (set : Locs) (locations : List ℕ) → IsSetOf set locations → (l : ℕ) → Has set.bits l ↔ Contains locations l
of_list set locations is l = (λ h. (is.each l).0 ((in_set set.bits l).0 h), λ h. (in_set set.bits l).1 ((is.each l).1 h))

module _ (i : Instr) (read : Locs) (reads : IsSetOf read (locations_read i)) where
  pub read_anywhere : leads_anywhere i ≡ true → (l : ℕ) → Has (bit_or read.bits 70368744177663) l ↔ CountsAsRead i l
  read_anywhere on l = (
    λ h. elim ((joined read.bits 70368744177663 l).0 h) [
      | inl r ↦ named ((of_list read (locations_read i) reads l).0 r)
      | inr e ↦ anywhere on ((every l).0 e)
    ],
    λ c. (joined read.bits 70368744177663 l).1 (back c),
  ) where
    back : CountsAsRead i l → Has read.bits l ⊎ Has 70368744177663 l
    back (named c) = inl ((of_list read (locations_read i) reads l).1 c)
    back (anywhere a lt) = inr ((every l).1 lt)
    back (behind_call c lt not) = inr ((every l).1 lt)

  pub read_before_call : (written : Locs) (others : ℕ) → IsSetOf written (locations_written i) → leads_anywhere i ≡ false → is_call i ≡ true
      → ((l : ℕ) → Has others l ↔ Unwritten 70368744177663 written.bits l) → (l : ℕ) → Has (bit_or read.bits others) l ↔ CountsAsRead i l
  read_before_call written others writes off on is l = (
    λ h. elim ((joined read.bits others l).0 h) [
      | inl r ↦ named ((of_list read (locations_read i) reads l).0 r)
      | inr o ↦ (let u = (is l).0 o in behind_call on ((every l).0 u.0) (λ c. u.1 ((of_list written (locations_written i) writes l).1 c)))
    ],
    λ c. (joined read.bits others l).1 (back c),
  ) where
    back : CountsAsRead i l → Has read.bits l ⊎ Has others l
    back (named c) = inl ((of_list read (locations_read i) reads l).1 c)
    back (anywhere a lt) = let no : true ≡ false = sym a ∙ off in absurd cc
    back (behind_call c lt not) = inr ((is l).1 ((every l).1 lt, λ h. not ((of_list written (locations_written i) writes l).0 h)))

  pub read_alone : leads_anywhere i ≡ false → is_call i ≡ false → (l : ℕ) → Has read.bits l ↔ CountsAsRead i l
  read_alone off none l = (λ h. named ((of_list read (locations_read i) reads l).0 h), back) where
    back : CountsAsRead i l → Has read.bits l
    back (named c) = (of_list read (locations_read i) reads l).1 c
    back (anywhere a lt) = let no : true ≡ false = sym a ∙ off in absurd cc
    back (behind_call c lt not) = let no : true ≡ false = sym c ∙ none in absurd cc

  -- what counts as read are locations
  counts_within : (l : ℕ) → CountsAsRead i l → l < 46
  counts_within l (named c) = below read.bits l reads.within ((of_list read (locations_read i) reads l).1 c)
  counts_within l (anywhere a lt) = lt
  counts_within l (behind_call c lt not) = lt

  pub few_counts : (n : ℕ) → ((l : ℕ) → Has n l ↔ CountsAsRead i l) → n < 2 ^ 46
  few_counts n each = small n (λ l h. counts_within l ((each l).0 h))

-- one more word
pub flows_more : (first : ℕ) (words : List ℕ) (bound : ℕ) (flows : List Flow) (flow : Flow) → AreFlowsTo first words bound flows → IsFlowOf first words bound flow
    → AreFlowsTo first words (bound + 1) (flows ++ flow ∷ [])
flows_more first words bound flows flow are is = record {
  count = length-append flows (flow ∷ []) ∙ ap (λ (n : ℕ). n + 1) are.count;
  each = λ p lt. elim (eqb_tells p bound) [
    | inl e ↦ subst (λ (f : Flow). IsFlowOf first words p f) (sym (get_or_push flows flow nothing p (are.count ∙ sym e.1))) (subst (λ (q : ℕ). IsFlowOf first words q flow) (sym e.1) is)
    | inr e ↦ (let other : p ≢ bound = e.1 in let n = are.count in
        subst (λ (f : Flow). IsFlowOf first words p f) (sym (get_or_append_left flows (flow ∷ []) nothing p (omega arith))) (are.each p (omega arith)))
  ];
}

-- the word's instruction says what the word does
module _ (first : ℕ) (words : List ℕ) (p : ℕ) (target : ℕ) (names : (s : ℕ) → s < length words → target ≡ s ↔ Names first words p s) where
  module _ (i : Instr) (is : IsWordOf (slice_index words p) i) (only : (j : Instr) → IsWordOf (slice_index words p) j → Some i ≡ Some j) where
    same : (j : Instr) → IsWordOf (slice_index words p) j → i ≡ j
    same j there = let e : Some i ≡ Some j = only j there in cc

    pub legal_flow : (reads writes : ℕ) (written : Locs) (falls : Bool) → ((l : ℕ) → Has reads l ↔ CountsAsRead i l) → reads < 2 ^ 46 → IsSetOf written (locations_written i)
        → writes ≡ written.bits → falls ≡ falls_through i → IsFlowOf first words p (record { reads = reads; writes = writes; falls = falls; target = target })
    legal_flow reads writes written falls read few sets we fe = record {
      reads = λ l. (
        λ h. record { instr = i; spelled = is; counts = (read l).0 h },
        λ r. (read l).1 (subst (λ (j : Instr). CountsAsRead j l) (sym (same r.instr r.spelled)) r.counts),
      );
      few = few;
      writes = λ l. (
        λ h. record { instr = i; spelled = is; writes = (of_list written (locations_written i) sets l).0 (subst (λ (n : ℕ). Has n l) we h) },
        λ w. subst (λ (n : ℕ). Has n l) (sym we) ((of_list written (locations_written i) sets l).1 (subst (λ (j : Instr). Contains (locations_written j) l) (sym (same w.instr w.spelled)) w.writes)),
      );
      falls = (
        λ t. record { instr = i; spelled = is; falls = sym fe ∙ t },
        λ f. fe ∙ ap falls_through (same f.instr f.spelled) ∙ f.falls,
      );
      names = names;
    }

  pub illegal_flow : ((j : Instr) → IsWordOf (slice_index words p) j → None ≡ Some j) → IsFlowOf first words p (record { reads = 0; writes = 0; falls = false; target = target })
  illegal_flow only = record {
    reads = λ l. (λ h. absurd (none l h), λ r. absurd (never r.instr r.spelled));
    few = omega arith;
    writes = λ l. (λ h. absurd (none l h), λ w. absurd (never w.instr w.spelled));
    falls = (λ t. (let no : false ≡ true = t in absurd cc), λ f. absurd (never f.instr f.spelled));
    names = names;
  } where
    never : (j : Instr) → IsWordOf (slice_index words p) j → ⊥
    never j is = let e : None ≡ Some j = only j is in cc

    none : (l : ℕ) → Has 0 l → ⊥
    none l h = let z = bit_at-zero l in let one : bit_at 0 l ≡ 1 = h in omega arith
