-- Tiles of branches: b, bc, bclr, bcctr.
use Rattle.std.proofs.Common.{◌≡◌, ℕ, ◌+◌, ◌-◌, ◌*◌, ◌/◌, ◌%◌, ◌^◌, ◌<◌, ◌≤◌, Bool, true, false, cond, not, ◌&&◌, ◌||◌, eqb, List, [], ◌∷◌, drop, Some, None, bit_and, refl, sym, ap, ◌∙◌, subst, arith}
use Rattle.std.proofs.lemmas.Bool.Decides.{nat_tests}
use Rattle.std.proofs.lemmas.Bool.{eqb-true}
use Rattle.std.proofs.Math.Nat.{div-le_self}
use Rattle.machines.specs.Prelude.{one_if, same, sum_word, bit_of, Map, Branch, BranchConditional, BranchRegister, BranchRegisterOp, Bclr, Bcctr, place, bo_bit, count_allows, condition_allows, Flags, condition_holds, difference_word, difference_flags, logic_flags, update, Rights, Guest, cr_word, behind, branch_target, linked, register_target, branches, Choice}
use Rattle.reg_map.specs.Prelude.{location_range, AreInRange}
use Rattle.symbolic_tiles.specs.declared.tile_item.TileItem.{TileItem}
use Rattle.symbolic_tiles.specs.declared.tile_item.TileItem.TheVariants.{BranchTo, BranchIndirect}
use Rattle.symbolic_tiles.specs.Prelude.{doing, AreItems, SymbolicState, execute_ops, AreWellFormed, SymbolicExit, Out, execute}
use Rattle.base_flow.specs.Prelude.{link_ops, count_ops, count_fails, bit_ops, bit_fails, unless, otherwise, branch_items, target_register, items_of}
use Rattle.row_laws.proofs.Digits.{bit_in_digit}
use Rattle.row_laws.proofs.Fields.{field_of_word}
use Rattle.symbolic_tiles.proofs.Done.{state_of}
use Rattle.symbolic_tiles.proofs.Results.{Then}
use Rattle.symbolic_tiles.proofs.Small.{each_pair}
use Rattle.symbolic_tiles.proofs.Registers.{field_small}
use Rattle.symbolic_tiles.proofs.FlowDone.{IsOut, ItemsDo, doing_are, update_in_range, ops_go, decides}

-- CTR falls by 1
falls : (x : ℕ) → difference_word x 1 false ≡ sum_word x (2 ^ 32 - 1) false
falls x = omega arith

-- the test of a bit of a field
bit_tested : (f j : ℕ) → f < 16 → j < 4 → eqb (bit_and (f % 256) (8 / 2 ^ j)) 0 ≡ not (eqb (f / 2 ^ (3 - j) % 2) 1)
bit_tested f j hf hj = by_bool (eqb (bit_and (f % 256) (8 / 2 ^ j)) 0) (not (eqb (f / 2 ^ (3 - j) % 2) 1)) (each_pair (λ f j. one_if (eqb (bit_and (f % 256) (8 / 2 ^ j)) 0)) (λ f j. one_if (not (eqb (f / 2 ^ (3 - j) % 2) 1))) 16 4 f j refl hf hj)
  where
    by_bool : (a b : Bool) → one_if a ≡ one_if b → a ≡ b
    by_bool true true e = refl
    by_bool false false e = refl
    by_bool true false e = absurd (omega (arith, e))
    by_bool false true e = absurd (omega (arith, e))

-- the branch isn't taken where these conditions hold
count_told : (b : Bool) (c : ℕ) (flags : Flags) → flags.zf ≡ eqb c 0 → condition_holds (count_fails b) flags ≡ not (same b (eqb c 0))
count_told true c flags e = ap not e
count_told false c flags e = e ∙ twice (eqb c 0)
  where
    twice : (b : Bool) → b ≡ not (not b)
    twice true = refl
    twice false = refl

bit_told : (b bit : Bool) (flags : Flags) → flags.zf ≡ not bit → condition_holds (bit_fails b) flags ≡ not (same b bit)
bit_told true bit flags e = e
bit_told false bit flags e = ap not e

is_true : (b : Bool) → not b ≡ false → b ≡ true
is_true true e = refl
is_true false e = absurd cc

is_false : (b : Bool) → not b ≡ true → b ≡ false
is_false true e = absurd cc
is_false false e = refl

own_value : (f : ℕ → ℕ) (k x : ℕ) → f x ≡ update f k (f k) x
own_value f k x = by_test (eqb x k) refl
  where
    by_test : (b : Bool) → eqb x k ≡ b → f x ≡ cond b (f k) (f x)
    by_test true h = ap f (eqb-true x k h)
    by_test false h = refl

module _ (guest host : Rights) (g : Guest) (range : AreInRange g) (bi : ℕ) (lb : bi < 32) (link : Bool) (taken : TileItem) (target r : ℕ) where
  -- the locations behind the branch, with the count c
  abbrev after : ℕ → ℕ → ℕ
  after c = linked link g.next (update g.locs 33 c)

  -- the state has these, and the register's word in ecx
  abbrev pub Has : ℕ → SymbolicState → Type 0
  Has c t = ((x : ℕ) → t.locs x ≡ after c x) × (t.bytes ≡ g.bytes) × (t.regs 1 ≡ r)

  abbrev goes : Bool → ℕ → SymbolicExit → Type 0
  goes b c symbolic_exit = IsOut guest (branches (after c) b target g) symbolic_exit

  -- how the item is passed over, and where it leads
  abbrev pub Passes : Type 0
  Passes = (items : List TileItem) (choices : List Choice) (t : SymbolicState) → execute guest host (taken ∷ items) (Some 0) choices t ≡ execute guest host items (Some 0) choices t

  abbrev pub Leads : Type 0
  Leads = (items : List TileItem) (choices : List Choice) (t : SymbolicState) (c : ℕ) → Has c t → AreInRange (branches (after c) true target g) → goes true c (execute guest host (taken ∷ items) None choices t)

  in_range : (b : Bool) (c : ℕ) → c < 2 ^ 32 → AreInRange (branches (after c) b target g)
  in_range b c lc = by_link link
    where
      by_link : (l : Bool) → (x : ℕ) → x < 46 → linked l g.next (update g.locs 33 c) x < location_range x
      by_link true = update_in_range (update g.locs 33 c) 32 (behind g.next) (omega arith) (update_in_range g.locs 33 c lc range)
      by_link false = update_in_range g.locs 33 c lc range

  not_taken : (c : ℕ) (t : SymbolicState) → c < 2 ^ 32 → Has c t → goes false c (Out (behind g.next) t)
  not_taken c t lc h = (refl, (λ x lx. h.0 x, λ a held. ap (λ f. f a) h.1), in_range false c lc)

  -- CTR and the fields of CR are as before where LR is set
  ctr_kept : (c : ℕ) → after c 33 ≡ c
  ctr_kept c = by_link link
    where
      by_link : (l : Bool) → linked l g.next (update g.locs 33 c) 33 ≡ c
      by_link true = refl
      by_link false = refl

  field_kept : (c x : ℕ) → 34 ≤ x → after c x ≡ g.locs x
  field_kept c x lx = by_link link
    where
      by_link : (l : Bool) → linked l g.next (update g.locs 33 c) x ≡ g.locs x
      by_link true = grind (arith, nat_tests)
      by_link false = grind (arith, nat_tests)

  put_count : (c c' x : ℕ) → update (after c) 33 c' x ≡ after c' x
  put_count c c' x = by_link link
    where
      by_link : (l : Bool) → update (linked l g.next (update g.locs 33 c)) 33 c' x ≡ linked l g.next (update g.locs 33 c') x
      by_link true = grind (arith, nat_tests)
      by_link false = grind (arith, nat_tests)

  abbrev fallen : ℕ
  fallen = sum_word (g.locs 33) (2 ^ 32 - 1) false

  counts : (b : Bool) (choices : List Choice) (t : SymbolicState) → Has (g.locs 33) t → Then (λ t. Has fallen t × (condition_holds (count_fails b) t.flags ≡ not (same b (eqb fallen 0)))) (execute_ops guest host count_ops choices t)
  counts b choices t h =
      let e : t.locs 33 ≡ g.locs 33 = h.0 33 ∙ ctr_kept (g.locs 33) in
      let d : difference_word (t.locs 33) 1 false ≡ fallen = ap (λ k. difference_word k 1 false) e ∙ falls (g.locs 33) in (
        (λ x. ap (λ k. update t.locs 33 k x) d ∙ ap (λ k. cond (eqb x 33) fallen k) (h.0 x) ∙ put_count (g.locs 33) fallen x, h.1, h.2),
        count_told b fallen (difference_flags (t.locs 33) 1 false) (ap (λ k. eqb k 0) d),
      )

  bit : Bool
  bit = bit_of (cr_word g.locs) (place bi)

  tests : (b : Bool) (c : ℕ) (choices : List Choice) (t : SymbolicState) → Has c t → Then (λ t. Has c t × (condition_holds (bit_fails b) t.flags ≡ not (same b bit))) (execute_ops guest host (bit_ops bi) choices t)
  unfolding bit
  tests b c choices t h =
      let e : t.locs (34 + bi / 4) ≡ g.locs (34 + bi / 4) = h.0 (34 + bi / 4) ∙ field_kept c (34 + bi / 4) (omega arith) in
      let s = field_small g bi range lb in
      let p : 31 - bi ≡ 4 * (7 - bi / 4) + (3 - bi % 4) = omega arith in
      let z = ap (λ k. eqb (bit_and (k % 256) (8 / 2 ^ (bi % 4))) 0) e ∙ bit_tested (g.locs (34 + bi / 4)) (bi % 4) s (omega arith)
      ∙ ap (λ k. not (eqb (k / 2 ^ (3 - bi % 4) % 2) 1)) (sym (field_of_word g.locs range (bi / 4) (omega arith)))
      ∙ ap (λ k. not (eqb k 1)) (sym (bit_in_digit (cr_word g.locs) (7 - bi / 4) (3 - bi % 4) (omega arith)))
      ∙ ap (λ k. not (bit_of (cr_word g.locs) k)) (sym p) in
      (h, bit_told b (bit_of (cr_word g.locs) (place bi)) (logic_flags (bit_and (t.locs (34 + bi / 4) % 256) (8 / 2 ^ (bi % 4)))) z)

  module _ (passes : Passes) (leads : Leads) where
    -- behind the count, where it allows the branch
    by_bit : (b0 b1 b2 : Bool) (c : ℕ) (choices : List Choice) (t : SymbolicState) → c < 2 ^ 32 → Has c t → goes (b0 || same b1 bit) c (execute guest host (unless (not b0) (bit_ops bi) (bit_fails b1) (taken ∷ otherwise (not (b2 && b0)) (behind g.next))) None choices t)
    by_bit true b1 b2 c choices t lc h = leads (otherwise (not (b2 && true)) (behind g.next)) choices t c h (in_range true c lc)
    by_bit false b1 b2 c choices t lc h =
        decides guest host (Has c) (goes (same b1 bit) c) (bit_ops bi) (bit_fails b1) 0 (taken ∷ otherwise (not (b2 && false)) (behind g.next)) choices t (not (same b1 bit)) (tests b1 c choices t h)
        (λ choices t h e. subst (λ k. goes k c (execute guest host (taken ∷ otherwise (not (b2 && false)) (behind g.next)) (Some 0) choices t)) (sym (is_false (same b1 bit) e)) (subst (goes false c) (sym (passes (otherwise (not (b2 && false)) (behind g.next)) choices t)) (ends b2 choices t h)))
        (λ choices t h e. subst (λ k. goes k c (execute guest host (taken ∷ otherwise (not (b2 && false)) (behind g.next)) None choices t)) (sym (is_true (same b1 bit) e)) (leads (otherwise (not (b2 && false)) (behind g.next)) choices t c h (in_range true c lc)))
      where
        ends : (b2 : Bool) (choices : List Choice) (t : SymbolicState) → Has c t → goes false c (execute guest host (otherwise (not (b2 && false)) (behind g.next)) (Some 0) choices t)
        ends true choices t h = not_taken c t lc h
        ends false choices t h = not_taken c t lc h

    -- to the mark from the count
    to_mark : (b0 b1 : Bool) (c : ℕ) (choices : List Choice) (t : SymbolicState) → c < 2 ^ 32 → Has c t → goes false c (execute guest host (unless (not b0) (bit_ops bi) (bit_fails b1) (taken ∷ otherwise true (behind g.next))) (Some 0) choices t)
    to_mark true b1 c choices t lc h = subst (goes false c) (sym (passes (otherwise true (behind g.next)) choices t)) (not_taken c t lc h)
    to_mark false b1 c choices t lc h = subst (goes false c) (sym (passes (otherwise true (behind g.next)) choices t)) (not_taken c t lc h)

    by_count : (b0 b1 b2 b3 : Bool) (choices : List Choice) (t : SymbolicState) → Has (g.locs 33) t →
        goes ((b2 || same b3 (eqb (cond b2 (g.locs 33) fallen) 0)) && (b0 || same b1 bit)) (cond b2 (g.locs 33) fallen)
        (execute guest host (unless (not b2) count_ops (count_fails b3) (unless (not b0) (bit_ops bi) (bit_fails b1) (taken ∷ otherwise (not (b2 && b0)) (behind g.next)))) None choices t)
    by_count b0 b1 true b3 choices t h = by_bit b0 b1 true (g.locs 33) choices t (range 33 (omega arith)) h
    by_count b0 b1 false b3 choices t h =
        decides guest host (Has fallen) (goes (same b3 (eqb fallen 0) && (b0 || same b1 bit)) fallen) count_ops (count_fails b3) 0 (unless (not b0) (bit_ops bi) (bit_fails b1) (taken ∷ otherwise true (behind g.next))) choices t (not (same b3 (eqb fallen 0))) (counts b3 choices t h)
        (λ choices t h e. subst (λ k. goes (k && (b0 || same b1 bit)) fallen (execute guest host (unless (not b0) (bit_ops bi) (bit_fails b1) (taken ∷ otherwise true (behind g.next))) (Some 0) choices t)) (sym (is_false (same b3 (eqb fallen 0)) e)) (to_mark b0 b1 fallen choices t (omega arith) h))
        (λ choices t h e. subst (λ k. goes (k && (b0 || same b1 bit)) fallen (execute guest host (unless (not b0) (bit_ops bi) (bit_fails b1) (taken ∷ otherwise true (behind g.next))) None choices t)) (sym (is_true (same b3 (eqb fallen 0)) e)) (by_bit b0 b1 false fallen choices t (omega arith) h))

    -- LR is set before
    by_link : (bo : ℕ) (choices : List Choice) (t : SymbolicState) → t.locs ≡ g.locs → t.bytes ≡ g.bytes → t.regs 1 ≡ r →
        goes (count_allows bo (cond (bo_bit bo 2) (g.locs 33) fallen) && condition_allows bo bit) (cond (bo_bit bo 2) (g.locs 33) fallen) (execute guest host (doing (link_ops link (behind g.next)) (branch_items bo bi taken (behind g.next))) None choices t)
    by_link bo choices t p q e =
        ops_go guest host (Has (g.locs 33)) (goes (count_allows bo (cond (bo_bit bo 2) (g.locs 33) fallen) && condition_allows bo bit) (cond (bo_bit bo 2) (g.locs 33) fallen)) (link_ops link (behind g.next)) (branch_items bo bi taken (behind g.next)) choices t (links link)
        (λ choices t h. by_count (bo_bit bo 0) (bo_bit bo 1) (bo_bit bo 2) (bo_bit bo 3) choices t h)
      where
        links : (l : Bool) → Then (λ t. ((x : ℕ) → t.locs x ≡ linked l g.next (update g.locs 33 (g.locs 33)) x) × (t.bytes ≡ g.bytes) × (t.regs 1 ≡ r)) (execute_ops guest host (link_ops l (behind g.next)) choices t)
        links true = (λ x. ap (λ f. update f 32 (behind g.next) x) p ∙ ap (λ k. cond (eqb x 32) (behind g.next) k) (own_value g.locs 33 x), q, e)
        links false = (λ x. ap (λ f. f x) p ∙ own_value g.locs 33 x, q, e)

pub bc_does : (bo bi target : ℕ) (absolute link : Bool) → bi < 32 → ItemsDo (Some (BranchConditional bo bi target absolute link)) (items_of (BranchConditional bo bi target absolute link))
unfolding bit
bc_does bo bi target absolute link lb guest host g regs flags choices given words =
    by_link guest host g given.in_range bi lb link (BranchTo (branch_target 14 target absolute g.next)) (branch_target 14 target absolute g.next) (regs 1) (λ items choices t. refl)
    (λ items choices t c h range. (refl, (λ x lx. h.0 x, λ a held. ap (λ f. f a) h.1), range)) bo choices (state_of g regs flags) refl refl refl

pub register_does : (op : BranchRegisterOp) (bo bi : ℕ) (link : Bool) → bi < 32 → ItemsDo (Some (BranchRegister op bo bi link)) (items_of (BranchRegister op bo bi link))
unfolding bit
register_does op bo bi link lb guest host g regs flags choices given words =
    by_link guest host g given.in_range bi lb link BranchIndirect (register_target op g.locs) (g.locs (target_register op)) (λ items choices t. refl)
    (λ items choices t c h range. (ap (λ k. 4 * (k / 4)) h.2 ∙ same_target op, (λ x lx. h.0 x, λ a held. ap (λ f. f a) h.1), range)) bo (drop 1 choices) _ refl refl refl
  where
    same_target : (op : BranchRegisterOp) → 4 * (g.locs (target_register op) / 4) ≡ register_target op g.locs
    same_target Bclr = refl
    same_target Bcctr = refl

pub branch_does : (target : ℕ) (absolute link : Bool) → ItemsDo (Some (Branch target absolute link)) (items_of (Branch target absolute link))
branch_does target absolute true guest host g regs flags choices given words = (refl, (λ x lx. refl, λ a held. refl), update_in_range g.locs 32 (behind g.next) (omega arith) given.in_range)
branch_does target absolute false guest host g regs flags choices given words = (refl, (λ x lx. refl, λ a held. refl), given.in_range)

link_are : (link : Bool) (next : ℕ) → next < 2 ^ 32 → AreWellFormed (link_ops link next)
link_are true next lt = ((omega arith, omega arith, lt), tt)
link_are false next lt = tt

branch_are : (m : Map) (bo bi : ℕ) (taken : TileItem) (next : ℕ) → bi < 32 → ((items : List TileItem) → AreItems m items → AreItems m (taken ∷ items)) → AreItems m (branch_items bo bi taken next)
branch_are m bo bi taken next lb one = by_tests (bo_bit bo 2) (bo_bit bo 0) (bo_bit bo 3) (bo_bit bo 1)
  where
    rest : (b : Bool) → AreItems m (taken ∷ otherwise b next)
    rest true = one (otherwise true next) tt
    rest false = one (otherwise false next) tt

    by_bit : (b0 b1 b : Bool) → AreItems m (unless (not b0) (bit_ops bi) (bit_fails b1) (taken ∷ otherwise b next))
    by_bit true b1 b = rest b
    by_bit false b1 b = ((tt, (omega arith, omega arith)), ((tt, (let d = div-le_self 8 (2 ^ (bi % 4)) in omega (arith, d))), rest b))

    by_tests : (b2 b0 b3 b1 : Bool) → AreItems m (unless (not b2) count_ops (count_fails b3) (unless (not b0) (bit_ops bi) (bit_fails b1) (taken ∷ otherwise (not (b2 && b0)) next)))
    by_tests true b0 b3 b1 = by_bit b0 b1 (not b0)
    by_tests false b0 b3 b1 = ((tt, omega arith), ((tt, omega arith), ((omega arith, tt), by_bit b0 b1 true)))

behind_word : (at : ℕ) → behind at < 2 ^ 32
behind_word at = omega arith

pub bc_are : (m : Map) (bo bi target : ℕ) (absolute link : Bool) (at : ℕ) → bi < 32 → AreItems m (items_of (BranchConditional bo bi target absolute link) at)
bc_are m bo bi target absolute link at lb = doing_are m (link_ops link (behind at)) (branch_items bo bi (BranchTo (branch_target 14 target absolute at)) (behind at)) (link_are link (behind at) (behind_word at)) (branch_are m bo bi (BranchTo (branch_target 14 target absolute at)) (behind at) lb (λ items h. h))

pub register_are : (m : Map) (op : BranchRegisterOp) (bo bi : ℕ) (link : Bool) (at : ℕ) → bi < 32 → AreItems m (items_of (BranchRegister op bo bi link) at)
register_are m op bo bi link at lb = ((tt, is_special op), doing_are m (link_ops link (behind at)) (branch_items bo bi BranchIndirect (behind at)) (link_are link (behind at) (behind_word at)) (branch_are m bo bi BranchIndirect (behind at) lb (λ items h. h)))
  where
    is_special : (op : BranchRegisterOp) → target_register op < 34
    is_special Bclr = omega arith
    is_special Bcctr = omega arith

pub b_are : (m : Map) (target : ℕ) (absolute link : Bool) (at : ℕ) → AreItems m (items_of (Branch target absolute link) at)
b_are m target absolute link at = doing_are m (link_ops link (behind at)) (BranchTo (branch_target 24 target absolute at) ∷ []) (link_are link (behind at) (behind_word at)) tt
