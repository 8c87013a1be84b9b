-- Ops and items that stand one behind another are walked.
use Rattle.std.proofs.Common.{◌≡◌, ℕ, suc, Bool, true, false, cond, eqb, List, [], ◌∷◌, length, drop, Contains, Some, None, refl, sym, ap, ◌∙◌, subst, arith}
use Rattle.std.proofs.lemmas.Bool.{eqb-true}
use Rattle.machines.specs.Prelude.{Op, Outcome, Goes, Asks, Ends, Anywhere, Walks, stays, walks, Rights, Choice, Core, Host, host_acts}
use Rattle.symbolic_tiles.specs.Prelude.{Plain, Jump, Mark, Edge, Leap, is_jump, op_outcome, then_at, core_behind, perform, op_at, is_taken, Exit, Leaves, Leaps, Stops, Calls, Falls, behind_op, flow, AreWalked, OpsAreWalked, EdgeCode, Reaches, FlowIsWalked, FlowsAreWalked}
use Rattle.symbolic_tiles.proofs.Anywhere.{ops_stand_anywhere}

module _ (host : Rights) (step : Host → Outcome Host) where
  some_same : (x y : Core) → Some x ≡ Some y → x ≡ y
  some_same x y e = cc

  nothing : (x : Core) → None ≡ Some x → ⊥
  nothing x e = cc

  are_walked : AreWalked host step
  are_walked [] at end h after stand here done =
      (h.choices, let c = some_same h.core after done in let p = here ∙ stand in let same : h ≡ record { core = after; eip = end; choices = h.choices } = λ k. record { core = c k; eip = p k; choices = h.choices } in subst (λ t. Walks Anywhere step 0 h t) same stays)
  are_walked (op ∷ ops) at end h after stand here done = by_jump (λ h1 d. are_walked ops stand.0 end h1 after stand.2 d) (is_jump op) refl done
    where
      by_outcome : ((h1 : Host) → h1.eip ≡ stand.0 → perform host ops h1.choices h1.core ≡ Some after → (left : List Choice) × Walks Anywhere step (length ops) h1 (record { core = after; eip = end; choices = left })) →
          is_jump op ≡ false → (o : Outcome Host) → op_outcome host op h.choices h.core ≡ o → core_behind (perform host ops) o ≡ Some after → (left : List Choice) × Walks Anywhere step (suc (length ops)) h (record { core = after; eip = end; choices = left })
      by_outcome rest n (Goes h1) e d =
          let r = rest (record h1 { eip = stand.0 }) refl d in
          (r.0, walks tt (stand.1 h here ∙ ops_stand_anywhere host op stand.0 h n ∙ ap (then_at stand.0) e) r.1)
      by_outcome rest n (Asks call next) e d = absurd (nothing after d)
      by_outcome rest n (Ends how) e d = absurd (nothing after d)

      by_jump : ((h1 : Host) → h1.eip ≡ stand.0 → perform host ops h1.choices h1.core ≡ Some after → (left : List Choice) × Walks Anywhere step (length ops) h1 (record { core = after; eip = end; choices = left })) →
          (b : Bool) → is_jump op ≡ b → cond b None (core_behind (perform host ops) (op_outcome host op h.choices h.core)) ≡ Some after → (left : List Choice) × Walks Anywhere step (suc (length ops)) h (record { core = after; eip = end; choices = left })
      by_jump rest true n d = absurd (nothing after d)
      by_jump rest false n d = by_outcome rest n (op_outcome host op h.choices h.core) refl d

pub ops_are_walked : OpsAreWalked
ops_are_walked host step = are_walked host step

module _ (host : Rights) (area : ℕ) (step : Host → Outcome Host) (labels : ℕ → ℕ) (edges : List EdgeCode) (leaps : List ℕ) where
  abbrev Reached : ℕ → Exit → Host → Type 0
  Reached most exit h = Reaches host area step labels edges leaps most exit h

  more : (most : ℕ) (exit : Exit) (h : Host) → Reached most exit h → Reached (suc most) exit h
  more most (Leaves target core) h r = (r.0, r.1, omega (arith, r.2), r.3, r.4, r.5)
  more most (Leaps core) h r = (r.0, r.1, omega (arith, r.2), r.3, r.4, r.5)
  more most (Stops e) h r = (r.0, r.1, omega (arith, r.2), r.3, r.4)
  more most (Calls call exits) h r = (r.0, r.1, r.2, r.3, omega (arith, r.4), r.5, r.6, r.7)
  more most Falls h r = tt

  one_more : (most : ℕ) (exit : Exit) (h h1 : Host) → step h ≡ Goes h1 → Reached most exit h1 → Reached (suc most) exit h
  one_more most (Leaves target core) h h1 e r = (suc r.0, r.1, omega (arith, r.2), walks tt e r.3, r.4, r.5)
  one_more most (Leaps core) h h1 e r = (suc r.0, r.1, omega (arith, r.2), walks tt e r.3, r.4, r.5)
  one_more most (Stops how) h h1 e r = (suc r.0, r.1, omega (arith, r.2), walks tt e r.3, r.4)
  one_more most (Calls call exits) h h1 e r = (suc r.0, r.1, r.2, r.3, omega (arith, r.4), walks tt e r.5, r.6, r.7)
  one_more most Falls h h1 e r = tt

  by_mark : (most : ℕ) (x y : Exit) (h : Host) (b : Bool) → (b ≡ true → Reached most x h) → Reached most y h → Reached most (cond b x y) h
  by_mark most x y h true hit miss = hit refl
  by_mark most x y h false hit miss = miss

  -- a jump that is taken or not
  by_branch : (most target next : ℕ) (x y : Exit) (h : Host) (b : Bool) → step h ≡ Goes (record { core = h.core; eip = cond b target next; choices = drop 1 h.choices }) →
      Reached most x (record { core = h.core; eip = target; choices = drop 1 h.choices }) → Reached most y (record { core = h.core; eip = next; choices = drop 1 h.choices }) → Reached (suc most) (cond b x y) h
  by_branch most target next x y h true e hit miss = one_more most x h _ e hit
  by_branch most target next x y h false e hit miss = one_more most y h _ e miss

  by_outcome : (most next : ℕ) (op : Op) (rest : List Choice → Core → Exit) (h : Host) → step h ≡ host_acts host op next h → ((h1 : Host) → h1.eip ≡ next → Reached most (rest h1.choices h1.core) h1) →
      is_jump op ≡ false → (o : Outcome Host) → op_outcome host op h.choices h.core ≡ o → Reached (suc most) (behind_op rest o) h
  by_outcome most next op rest h st on n (Goes h1) e =
      one_more most (rest h1.choices h1.core) h (record h1 { eip = next }) (st ∙ ops_stand_anywhere host op next h n ∙ ap (then_at next) e) (on (record h1 { eip = next }) refl)
  by_outcome most next op rest h st on n (Asks call after) e =
      (0, most, h, (λ a. record (after a) { eip = next }), omega arith, stays, st ∙ ops_stand_anywhere host op next h n ∙ ap (then_at next) e, λ a. on (record (after a) { eip = next }) refl)
  by_outcome most next op rest h st on n (Ends how) e = (0, h, omega arith, stays, st ∙ ops_stand_anywhere host op next h n ∙ ap (then_at next) e)

  by_op : (most next : ℕ) (op : Op) (rest : List Choice → Core → Exit) (h : Host) → step h ≡ host_acts host op next h → ((h1 : Host) → h1.eip ≡ next → Reached most (rest h1.choices h1.core) h1) →
      (b : Bool) → is_jump op ≡ b → Reached (suc most) (cond b Falls (behind_op rest (op_outcome host op h.choices h.core))) h
  by_op most next op rest h st on true n = tt
  by_op most next op rest h st on false n = by_outcome most next op rest h st on n (op_outcome host op h.choices h.core) refl

  flow_is_walked : FlowIsWalked host area step labels edges leaps
  flow_is_walked [] skip at h stand here = tt
  flow_is_walked (Plain op ∷ items) None at h stand here =
      by_op (length items) stand.0 (op_at area op) (flow host area items None) h (stand.1 h here) (λ h1 e. flow_is_walked items None stand.0 h1 stand.2 e) (is_jump (op_at area op)) refl
  flow_is_walked (Plain op ∷ items) (Some mark) at h stand here = more (length items) _ h (flow_is_walked items (Some mark) stand.0 h stand.2 here)
  flow_is_walked (Jump code k ∷ items) None at h stand here =
      by_branch (length items) (labels k) stand.0 _ _ h (is_taken code h.core.flags) (stand.1 h here)
      (flow_is_walked items (Some k) stand.0 (record { core = h.core; eip = labels k; choices = drop 1 h.choices }) stand.2 refl)
      (flow_is_walked items None stand.0 (record { core = h.core; eip = stand.0; choices = drop 1 h.choices }) stand.2 refl)
  flow_is_walked (Jump code k ∷ items) (Some mark) at h stand here = more (length items) _ h (flow_is_walked items (Some mark) stand.0 h stand.2 here)
  flow_is_walked (Mark k ∷ items) None at h stand here = more (length items) _ h (flow_is_walked items None at h stand.1 here)
  flow_is_walked (Mark k ∷ items) (Some mark) at h stand here =
      more (length items) _ h (by_mark (length items) _ _ h (eqb k mark) (λ t. flow_is_walked items None at h stand.1 (here ∙ ap labels (sym (eqb-true k mark t)) ∙ stand.0)) (flow_is_walked items (Some mark) at h stand.1 here))
  flow_is_walked (Edge target ∷ items) None at h stand here = (0, h, omega arith, stays, subst (λ a. Contains edges (record { target = target; at = a })) (sym here) stand.1, refl)
  flow_is_walked (Edge target ∷ items) (Some mark) at h stand here = more (length items) _ h (flow_is_walked items (Some mark) stand.0 h stand.2 here)
  flow_is_walked (Leap ∷ items) None at h stand here = (0, h, omega arith, stays, subst (Contains leaps) (sym here) stand.1, refl)
  flow_is_walked (Leap ∷ items) (Some mark) at h stand here = more (length items) _ h (flow_is_walked items (Some mark) stand.0 h stand.2 here)

pub flows_are_walked : FlowsAreWalked
flows_are_walked host area step labels edges leaps = flow_is_walked host area step labels edges leaps
