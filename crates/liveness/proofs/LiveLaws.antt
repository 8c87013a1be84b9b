-- What is live before a word, by what is live before the words behind it.
use Rattle.std.proofs.Common.{◌≡◌, ℕ, ◌+◌, ◌<◌, ◌⊎◌, ◌↔◌, inl, inr, List, [], ◌∷◌, true, false, Some, None, length, refl, sym, ◌∙◌, ap, subst, arith, Contains}
use Rattle.std.specs.Prelude.{slice_index}
use Rattle.machines.specs.Prelude.{Instr, Branch, BranchConditional, BranchRegister, SystemCall, IsWordOf, HasOneInstruction, locations_read, locations_written}
use Rattle.row_laws.specs.FlowWords.{is_flow}
use Rattle.block_find.specs.Prelude.{address_of, named_address}
use Rattle.liveness.specs.Prelude.{CountsAsRead, named, anywhere, behind_call, leads_anywhere, is_call, falls_through, IsRead, IsWritten, IsLiveHere}
use Rattle.liveness.specs.Live.{Leads, IsPath, IsLive}

pub live_here : (first : ℕ) (words : List ℕ) (l k : ℕ) → IsLive first words l k ↔ IsLiveHere first words l k
live_here first words l k = (λ live. there live.0 live.1, back) where
  there : (later : List ℕ) → IsPath (Leads first words) (λ p. (p < length words) × IsRead words p l) (λ p. IsWritten words p l) k later → IsLiveHere first words l k
  there [] path = inl path
  there (s ∷ later) path = inr (s, path.1, path.0, (later, path.2))

  back : IsLiveHere first words l k → IsLive first words l k
  back (inl read) = ([], read)
  back (inr (s, leads, not, live)) = (s ∷ live.0, (not, leads, live.1))

-- an instruction that is no flow word falls through, names no word, and reads what it names alone
falls : (i : Instr) → is_flow i ≡ false → falls_through i ≡ true
falls (Branch target absolute link) flow = cc
falls (BranchConditional bo bi target absolute link) flow = cc
falls (BranchRegister op bo bi link) flow = cc
falls _ flow = refl

names_none : (i : Instr) (at : ℕ) → is_flow i ≡ false → named_address i at ≡ None
names_none (Branch target absolute link) at flow = let no : true ≡ false = flow in absurd cc
names_none (BranchConditional bo bi target absolute link) at flow = let no : true ≡ false = flow in absurd cc
names_none _ at flow = refl

stays : (i : Instr) → is_flow i ≡ false → leads_anywhere i ≡ false
stays (BranchRegister op bo bi link) flow = cc
stays _ flow = refl

no_call : (i : Instr) → is_flow i ≡ false → is_call i ≡ false
no_call SystemCall flow = cc
no_call _ flow = refl

module _ (one : (w : ℕ) → HasOneInstruction w) (first : ℕ) (words : List ℕ) (l k : ℕ) (i : Instr) (lt : k + 1 < length words) (is : IsWordOf (slice_index words k) i)
    (flow : is_flow i ≡ false) where
  next_alone : (s : ℕ) → Leads first words k s → s ≡ k + 1
  next_alone s leads = elim leads.2 [
    | inl next ↦ next.1
    | inr names ↦ (
        let same : i ≡ names.instr = one (slice_index words k) i names.instr is names.spelled in
        let none : named_address names.instr (address_of first k) ≡ None = ap (λ (j : Instr). named_address j (address_of first k)) (sym same) ∙ names_none i (address_of first k) flow in
        let there : named_address names.instr (address_of first k) ≡ Some (address_of first s) = names.leads in
        let no : None ≡ Some (address_of first s) = sym none ∙ there in absurd cc)
  ]

  reads : IsRead words k l → Contains (locations_read i) l
  reads r = subst (λ (j : Instr). Contains (locations_read j) l) (sym same) (by r.counts) where
    same : i ≡ r.instr
    same = one (slice_index words k) i r.instr is r.spelled

    by : CountsAsRead r.instr l → Contains (locations_read r.instr) l
    by (named c) = c
    by (anywhere a within) = let off : leads_anywhere r.instr ≡ false = ap leads_anywhere (sym same) ∙ stays i flow in let no : true ≡ false = sym a ∙ off in absurd cc
    by (behind_call a within not) = let off : is_call r.instr ≡ false = ap is_call (sym same) ∙ no_call i flow in let no : true ≡ false = sym a ∙ off in absurd cc

  writes : IsWritten words k l → Contains (locations_written i) l
  writes w = subst (λ (j : Instr). Contains (locations_written j) l) (sym (one (slice_index words k) i w.instr is w.spelled)) w.writes

  there : IsLiveHere first words l k → Contains (locations_read i) l ⊎ (IsLive first words l (k + 1) × ¬ (Contains (locations_written i) l))
  there (inl read) = inl (reads read.1)
  there (inr (s, leads, none, live)) = inr (subst (λ (j : ℕ). IsLive first words l j) (next_alone s leads) live, λ c. none (record { instr = i; spelled = is; writes = c }))

  back : Contains (locations_read i) l ⊎ (IsLive first words l (k + 1) × ¬ (Contains (locations_written i) l)) → IsLive first words l k
  back (inl c) = ([], (omega arith, record { instr = i; spelled = is; counts = named c }))
  back (inr (live, none)) =
      (live_here first words l k).1 (inr (k + 1, (omega arith, lt, inl (record { instr = i; spelled = is; falls = falls i flow }, refl)), (λ w. none (writes w)), live))

  pub live_by_next : IsLive first words l k ↔ Contains (locations_read i) l ⊎ (IsLive first words l (k + 1) × ¬ (Contains (locations_written i) l))
  live_by_next = (λ live. there ((live_here first words l k).0 live), back)
