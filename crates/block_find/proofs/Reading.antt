-- What the instruction of a word says of where control goes.
use Rattle.std.proofs.Common.{◌≡◌, ◌≢◌, ℕ, ◌<◌, ◌↔◌, Bool, Option, Some, None, MatchOption, List, length, sym, ◌∙◌, ap, subst, arith}
use Rattle.std.specs.Prelude.{IsTrue, slice_index}
use Rattle.machines.specs.Prelude.{Instr, IsWordOf}
use Rattle.row_laws.specs.FlowWords.{is_flow}
use Rattle.block_find.specs.Prelude.{IsFlowWord, legal, illegal, Names, address_of, named_address}

pub same_of : (word : ℕ) (i j : Instr) → ((k : Instr) → IsWordOf word k → Some i ≡ Some k) → IsWordOf word j → i ≡ j
same_of word i j only is = let e : Some i ≡ Some j = only j is in cc

pub flow_of_some : (word : ℕ) (i : Instr) (b : Bool) → IsWordOf word i → ((j : Instr) → IsWordOf word j → Some i ≡ Some j) → b ≡ is_flow i → IsTrue b ↔ IsFlowWord word
flow_of_some word i b is only e = (λ t. legal i is (subst IsTrue e t), back) where
  back : IsFlowWord word → IsTrue b
  back (legal j spelled flow) = subst IsTrue (sym (e ∙ ap is_flow (same_of word i j only spelled))) flow
  back (illegal none) = absurd (none i is)

-- the address that a word's instruction names tells which word it names
module _ (first : ℕ) (words : List ℕ) (p : ℕ) where
  abbrev Tells : Option ℕ → Type 0
  Tells named = MatchOption named ((k : ℕ) → k < length words → ¬ (Names first words p k))
      (λ t. (t < length words) × Names first words p t × ((k : ℕ) → Names first words p k → k ≡ t))

  pub none_by_word : ((j : Instr) → IsWordOf (slice_index words p) j → None ≡ Some j) → Tells None
  none_by_word only k lt names = let e : None ≡ Some names.instr = only names.instr names.spelled in cc

  module _ (i : Instr) (is : IsWordOf (slice_index words p) i) (only : (j : Instr) → IsWordOf (slice_index words p) j → Some i ≡ Some j) where
    names_by : (k : ℕ) → Names first words p k → named_address i (address_of first p) ≡ Some (address_of first k)
    names_by k names = ap (λ (j : Instr). named_address j (address_of first p)) (same_of (slice_index words p) i names.instr only names.spelled) ∙ names.leads

    pub none_by_instr : named_address i (address_of first p) ≡ None → Tells None
    none_by_instr e k lt names = let leads = names_by k names in let no : None ≡ Some (address_of first k) = sym e ∙ leads in cc

    pub by_address : (address : ℕ) (named : Option ℕ) → named_address i (address_of first p) ≡ Some address
        → MatchOption named ((k : ℕ) → k < length words → address ≢ address_of first k) (λ t. (t < length words) × (address ≡ address_of first t)) → Tells named
    by_address address None e there = λ k lt names. let leads = names_by k names in there k lt (let same : Some address ≡ Some (address_of first k) = sym e ∙ leads in cc)
    by_address address (Some t) e there = (
      there.0,
      record { instr = i; spelled = is; leads = e ∙ ap (λ (a : ℕ). Some a) there.1 },
      λ k names. (let leads = names_by k names in
          let same : Some (address_of first t) ≡ Some (address_of first k) = sym (e ∙ ap (λ (a : ℕ). Some a) there.1) ∙ leads in
          let equal : address_of first t ≡ address_of first k = cc in omega (arith, equal)),
    )
