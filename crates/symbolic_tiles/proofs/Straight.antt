-- Instructions that are no flow words go on to the next word, or end outside.
use Rattle.std.proofs.Common.{◌≡◌, ℕ, zero, suc, ◌+◌, ◌%◌, ◌^◌, Bool, true, false, cond, ◌&&◌, Contains, refl, sym, subst, inl, inr}
use Rattle.std.proofs.lemmas.Bool.{false≢true}
use Rattle.machines.specs.Prelude.{Outside, Goes, Ends, GuestValues, Access, NoAccess, LoadAccess, StoreAccess, immediate_row, arithmetic_row, arithmetic_unary_row, logic_row, logic_unary_row, compare_immediate_row, compare_row, load_row, load_update_row, load_indexed_row, load_indexed_update_row, store_row, store_update_row, store_indexed_row, store_indexed_update_row, Instr, Immediate, Load, Store, LoadUpdate, StoreUpdate, Multiple, TrapImmediate, CompareImmediate, Branch, BranchConditional, SystemCall, Arithmetic, ArithmeticUnary, Logic, LogicUnary, Compare, Trap, LoadIndexed, StoreIndexed, LoadIndexedUpdate, StoreIndexedUpdate, BranchRegister, Lmw, Stmw, each_byte, Rights, Guest, effect_of}
use Rattle.machines.specs.Prelude as word
use Rattle.row_laws.proofs.Lists.{none_in, first_or_later}
use Rattle.symbolic_tiles.specs.Prelude.{span, loaded, stored, WritesHeld, IsStraight, RowsAreStraight, AccessIsInside, AccessesAreInside}

-- an access goes on, or ends outside
within : (b : Bool) (next : ℕ) (to : Guest) → to.next ≡ next → IsStraight next (cond b (Goes to) (Ends Outside))
within true next to e = e
within false next to e = refl

pub rows_are_straight : RowsAreStraight
rows_are_straight (Branch target absolute link) rights g e = absurd (false≢true (sym e))
rows_are_straight (BranchConditional bo bi target absolute link) rights g e = absurd (false≢true (sym e))
rows_are_straight (BranchRegister op bo bi link) rights g e = absurd (false≢true (sym e))
rows_are_straight (Trap to a b) rights g e = absurd (false≢true (sym e))
rows_are_straight (TrapImmediate to a imm) rights g e = absurd (false≢true (sym e))
rows_are_straight SystemCall rights g e = absurd (false≢true (sym e))
rows_are_straight (Load op d a imm) rights g e = within _ _ _ refl
rows_are_straight (LoadUpdate op d a imm) rights g e = within _ _ _ refl
rows_are_straight (LoadIndexed op d a b) rights g e = within _ _ _ refl
rows_are_straight (LoadIndexedUpdate op d a b) rights g e = within _ _ _ refl
rows_are_straight (Store op s a imm) rights g e = within _ _ _ refl
rows_are_straight (StoreUpdate op s a imm) rights g e = within _ _ _ refl
rows_are_straight (StoreIndexed op s a b) rights g e = within _ _ _ refl
rows_are_straight (StoreIndexedUpdate op s a b) rights g e = within _ _ _ refl
rows_are_straight (Multiple Lmw d a imm) rights g e = within _ _ _ refl
rows_are_straight (Multiple Stmw s a imm) rights g e = within _ _ _ refl
rows_are_straight _ rights g e = refl

-- which access each form's row has
immediate_kind : (op : word.ImmediateOp) (a : ℕ) (v : GuestValues) → (immediate_row op a v).kind ≡ NoAccess
immediate_kind word.Addi a v = refl
immediate_kind _ a v = refl

arithmetic_kind : (op : word.ArithmeticOp) (records : Bool) (v : GuestValues) → (arithmetic_row op records v).kind ≡ NoAccess
arithmetic_kind word.Add records v = refl
arithmetic_kind _ records v = refl

unary_kind : (op : word.ArithmeticUnaryOp) (records : Bool) (v : GuestValues) → (arithmetic_unary_row op records v).kind ≡ NoAccess
unary_kind word.Neg records v = refl
unary_kind _ records v = refl

logic_kind : (op : word.LogicOp) (records : Bool) (v : GuestValues) → (logic_row op records v).kind ≡ NoAccess
logic_kind word.And records v = refl
logic_kind _ records v = refl

logic_unary_kind : (op : word.LogicUnaryOp) (records : Bool) (v : GuestValues) → (logic_unary_row op records v).kind ≡ NoAccess
logic_unary_kind word.Cntlzw records v = refl
logic_unary_kind _ records v = refl

compare_immediate_kind : (op : word.CompareImmediateOp) (field : ℕ) (v : GuestValues) → (compare_immediate_row op field v).kind ≡ NoAccess
compare_immediate_kind word.Cmpi field v = refl
compare_immediate_kind word.Cmpli field v = refl

compare_kind : (op : word.CompareOp) (field : ℕ) (v : GuestValues) → (compare_row op field v).kind ≡ NoAccess
compare_kind word.Cmp field v = refl
compare_kind word.Cmpl field v = refl

load_kind : (op : word.LoadOp) (a : ℕ) (v : GuestValues) → (load_row op a v).kind ≡ LoadAccess
load_kind word.Lwz a v = refl
load_kind _ a v = refl

load_update_kind : (op : word.LoadUpdateOp) (v : GuestValues) → (load_update_row op v).kind ≡ LoadAccess
load_update_kind word.Lwzu v = refl
load_update_kind _ v = refl

load_indexed_kind : (op : word.LoadIndexedOp) (a : ℕ) (v : GuestValues) → (load_indexed_row op a v).kind ≡ LoadAccess
load_indexed_kind word.Lwzx a v = refl
load_indexed_kind _ a v = refl

load_indexed_update_kind : (op : word.LoadIndexedUpdateOp) (v : GuestValues) → (load_indexed_update_row op v).kind ≡ LoadAccess
load_indexed_update_kind word.Lwzux v = refl
load_indexed_update_kind _ v = refl

store_kind : (op : word.StoreOp) (a : ℕ) (v : GuestValues) → (store_row op a v).kind ≡ StoreAccess
store_kind word.Stw a v = refl
store_kind _ a v = refl

store_update_kind : (op : word.StoreUpdateOp) (v : GuestValues) → (store_update_row op v).kind ≡ StoreAccess
store_update_kind word.Stwu v = refl
store_update_kind _ v = refl

store_indexed_kind : (op : word.StoreIndexedOp) (a : ℕ) (v : GuestValues) → (store_indexed_row op a v).kind ≡ StoreAccess
store_indexed_kind word.Stwx a v = refl
store_indexed_kind _ a v = refl

store_indexed_update_kind : (op : word.StoreIndexedUpdateOp) (v : GuestValues) → (store_indexed_update_row op v).kind ≡ StoreAccess
store_indexed_update_kind word.Stwux v = refl
store_indexed_update_kind _ v = refl

both : (x y : Bool) → (x && y) ≡ true → (x ≡ true) × (y ≡ true)
both true true h = (refl, refl)
both true false h = (refl, h)
both false y h = absurd (false≢true h)

-- a test that each byte passes is passed by each of the span
pub all_in_span : (test : ℕ → Bool) (n a k : ℕ) → each_byte test n a ≡ true → Contains (span n a) k → test k ≡ true
unfolding each_byte
all_in_span test zero a k h c = none_in k c
all_in_span test (suc n) a k h c =
    let two = both (test (a % 2 ^ 32)) (each_byte test n (a + 1)) h in
    elim (first_or_later (a % 2 ^ 32) (span n (a + 1)) k c) [
      | inl e ↦ subst (λ (x : ℕ). test x ≡ true) e two.0
      | inr later ↦ all_in_span test n (a + 1) k two.1 later
    ]

-- what has gone on was inside
inside_of : (b : Bool) (to g' : Guest) → cond b (Goes to) (Ends Outside) ≡ Goes g' → b ≡ true
inside_of true to g' e = refl
inside_of false to g' e = absurd cc

module _ (i : Instr) (rights : Rights) (g : Guest) where
  no_access : (effect_of i g).kind ≡ NoAccess → AccessIsInside i rights g
  no_access e = record {
    loads = λ a c. none_in a (subst (λ (k : Access). Contains (loaded k (effect_of i g).width (effect_of i g).address) a) e c);
    stores = λ a c. none_in a (subst (λ (k : Access). Contains (stored k (effect_of i g).width (effect_of i g).address) a) e c);
  }

  load_access : (effect_of i g).kind ≡ LoadAccess → each_byte rights.held (effect_of i g).width (effect_of i g).address ≡ true → AccessIsInside i rights g
  load_access e h = record {
    loads = λ a c. all_in_span rights.held (effect_of i g).width (effect_of i g).address a h (subst (λ (k : Access). Contains (loaded k (effect_of i g).width (effect_of i g).address) a) e c);
    stores = λ a c. none_in a (subst (λ (k : Access). Contains (stored k (effect_of i g).width (effect_of i g).address) a) e c);
  }

  store_access : WritesHeld rights → (effect_of i g).kind ≡ StoreAccess → each_byte rights.writable (effect_of i g).width (effect_of i g).address ≡ true → AccessIsInside i rights g
  store_access held e h = record {
    loads = λ a c. none_in a (subst (λ (k : Access). Contains (loaded k (effect_of i g).width (effect_of i g).address) a) e c);
    stores = λ a c. let w = all_in_span rights.writable (effect_of i g).width (effect_of i g).address a h (subst (λ (k : Access). Contains (stored k (effect_of i g).width (effect_of i g).address) a) e c) in (held a w, w);
  }

pub accesses_are_inside : AccessesAreInside
accesses_are_inside (Branch target absolute link) rights g g' flow held e = absurd (false≢true (sym flow))
accesses_are_inside (BranchConditional bo bi target absolute link) rights g g' flow held e = absurd (false≢true (sym flow))
accesses_are_inside (BranchRegister op bo bi link) rights g g' flow held e = absurd (false≢true (sym flow))
accesses_are_inside (Trap to a b) rights g g' flow held e = absurd (false≢true (sym flow))
accesses_are_inside (TrapImmediate to a imm) rights g g' flow held e = absurd (false≢true (sym flow))
accesses_are_inside SystemCall rights g g' flow held e = absurd (false≢true (sym flow))
accesses_are_inside (Load op d a imm) rights g g' flow held e = let i = Load op d a imm in load_access i rights g (load_kind op a _) (inside_of _ _ g' e)
accesses_are_inside (LoadUpdate op d a imm) rights g g' flow held e = load_access (LoadUpdate op d a imm) rights g (load_update_kind op _) (inside_of _ _ g' e)
accesses_are_inside (LoadIndexed op d a b) rights g g' flow held e = load_access (LoadIndexed op d a b) rights g (load_indexed_kind op a _) (inside_of _ _ g' e)
accesses_are_inside (LoadIndexedUpdate op d a b) rights g g' flow held e = load_access (LoadIndexedUpdate op d a b) rights g (load_indexed_update_kind op _) (inside_of _ _ g' e)
accesses_are_inside (Store op s a imm) rights g g' flow held e = store_access (Store op s a imm) rights g held (store_kind op a _) (inside_of _ _ g' e)
accesses_are_inside (StoreUpdate op s a imm) rights g g' flow held e = store_access (StoreUpdate op s a imm) rights g held (store_update_kind op _) (inside_of _ _ g' e)
accesses_are_inside (StoreIndexed op s a b) rights g g' flow held e = store_access (StoreIndexed op s a b) rights g held (store_indexed_kind op a _) (inside_of _ _ g' e)
accesses_are_inside (StoreIndexedUpdate op s a b) rights g g' flow held e = store_access (StoreIndexedUpdate op s a b) rights g held (store_indexed_update_kind op _) (inside_of _ _ g' e)
accesses_are_inside (Multiple Lmw d a imm) rights g g' flow held e = load_access (Multiple Lmw d a imm) rights g refl (inside_of _ _ g' e)
accesses_are_inside (Multiple Stmw s a imm) rights g g' flow held e = store_access (Multiple Stmw s a imm) rights g held refl (inside_of _ _ g' e)
accesses_are_inside (Immediate op d a imm) rights g g' flow held e = no_access (Immediate op d a imm) rights g (immediate_kind op a _)
accesses_are_inside (Arithmetic op d a b records) rights g g' flow held e = no_access (Arithmetic op d a b records) rights g (arithmetic_kind op records _)
accesses_are_inside (ArithmeticUnary op d a records) rights g g' flow held e = no_access (ArithmeticUnary op d a records) rights g (unary_kind op records _)
accesses_are_inside (Logic op s a b records) rights g g' flow held e = no_access (Logic op s a b records) rights g (logic_kind op records _)
accesses_are_inside (LogicUnary op s a records) rights g g' flow held e = no_access (LogicUnary op s a records) rights g (logic_unary_kind op records _)
accesses_are_inside (CompareImmediate op field a imm) rights g g' flow held e = no_access (CompareImmediate op field a imm) rights g (compare_immediate_kind op field _)
accesses_are_inside (Compare op field a b) rights g g' flow held e = no_access (Compare op field a b) rights g (compare_kind op field _)
accesses_are_inside i rights g g' flow held e = no_access i rights g refl
