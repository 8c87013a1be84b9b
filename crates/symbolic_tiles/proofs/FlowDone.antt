-- A flow tile whose items do to a state what the row does to the guest does the row, under every map.
use Rattle.std.proofs.Common.{◌≡◌, ℕ, ◌+◌, ◌-◌, ◌*◌, ◌/◌, ◌%◌, ◌^◌, ◌<◌, ◌≤◌, Bool, true, false, cond, eqb, ◌⊎◌, inl, inr, List, [], ◌∷◌, drop, Option, Some, None, refl, sym, ap, ◌∙◌, subst, arith}
use Rattle.std.proofs.lemmas.Bool.{eqb-true}
use Rattle.machines.specs.Prelude.{Outside, AnswerValue, Map, Instr, IsMap, Condition, Flags, condition_holds, Outcome, Goes, Asks, Ends, update, each_byte, Rights, Guest, guest_executes, Choice, choice_at, Core}
use Rattle.reg_map.specs.Prelude.{location_count, location_range, AreInRange, IsHomePage}
use Rattle.symbolic_tiles.specs.Prelude.{WritesHeld, SymbolicOp, AreWellFormed, Exit, flow, IsBefore, FitsGoing, Fits, FlowDoesWord, TileItem, JumpIf, flows_of, doing, AreItems, SymbolicState, execute_op, then_ops, execute_ops, SymbolicExit, Out, Indirect, Stopped, Called, Unknown, then_exit, execute}
use Rattle.symbolic_tiles.proofs.Places.{free_low}
use Rattle.symbolic_tiles.proofs.Shows.{Shows, bytes_held}
use Rattle.symbolic_tiles.proofs.Done.{state_of, range_size, IsStateOf}
use Rattle.symbolic_tiles.proofs.Results.{Then}
use Rattle.symbolic_tiles.proofs.Relates.{Relates, items_relate}

-- the symbolic_exit out leads to the guest's next address, with the guest's next state
abbrev pub IsOut : Rights → Guest → SymbolicExit → Type 0
IsOut guest g (Out target s) = (target ≡ g.next) × IsStateOf guest g s × AreInRange g
IsOut guest g (Indirect s) = (4 * (s.regs 1 / 4) ≡ g.next) × IsStateOf guest g s × AreInRange g
IsOut guest g _ = ⊥

-- the items are left as the row goes on
abbrev pub FitsExit : Rights → Outcome Guest → SymbolicExit → Type 0
FitsExit guest (Goes g) symbolic_exit = IsOut guest g symbolic_exit
FitsExit guest (Asks call next) (Called asked symbolic_exits) = (asked ≡ call) × ((a : AnswerValue) → IsOut guest (next a) (symbolic_exits a))
FitsExit guest (Asks call next) _ = ⊥
FitsExit guest (Ends e) symbolic_exit = (e ≡ Outside) ⊎ (symbolic_exit ≡ Stopped e)

-- no buffer of the guest's is so long that its count reads as an error: the home page has 4096 bytes that it can't have
abbrev pub AreShort : Rights → Type 0
AreShort guest = (count buffer : ℕ) → count < 2 ^ 32 → buffer < 2 ^ 32 → each_byte guest.held count buffer ≡ true → count < 0xFFFFF001

-- what the items may take for granted
pub record Assumed (guest : Rights) (g : Guest) : Type 0 where
  pub in_range : AreInRange g
  pub writes_held : WritesHeld guest
  pub short : AreShort guest

-- the items do what the word does
abbrev pub ItemsDo : Option Instr → (ℕ → List TileItem) → Type 0
ItemsDo word tile = (guest host : Rights) (g : Guest) (regs : ℕ → ℕ) (flags : Flags) (choices : List Choice) → Assumed guest g → ((r : ℕ) → regs r < 2 ^ 32) → FitsExit guest (guest_executes guest word g) (execute guest host (tile g.next) None choices (state_of g regs flags))

-- the home page keeps the guest's buffers short
page_keeps_short : (area : ℕ) (guest host : Rights) → IsHomePage area guest host → AreShort guest
page_keeps_short area guest host page count buffer lc lb all = by_size (grind arith)
  where
    low : area + 4096 ≤ 2 ^ 32
    low = page.low

    first : ℕ
    first = (area + 2 ^ 32 - buffer) % 2 ^ 32

    hit : (i k : ℕ) → i < count → k < 4096 → (buffer + i) % 2 ^ 32 ≡ area + k → ⊥
    hit i k li lk e = let a = page.apart ((buffer + i) % 2 ^ 32) (bytes_held guest.held count buffer all i li) in omega (arith, a, e, lk)

    by_first : 0xFFFFF001 ≤ count → (first < count) ⊎ (count ≤ first) → ⊥
    by_first long (inl l) = hit first 0 l (omega arith) (omega arith)
    by_first long (inr l) = hit (first + 4095 - 2 ^ 32) 4095 (omega arith) (omega arith) (omega arith)

    by_size : (count < 0xFFFFF001) ⊎ (0xFFFFF001 ≤ count) → count < 0xFFFFF001
    by_size (inl l) = l
    by_size (inr long) = absurd (by_first long (grind arith))

module _ (m : Map) (is_map : IsMap m) (area : ℕ) (guest host : Rights) (g : Guest) (core : Core) (before : IsBefore m area guest host g core) where
  abbrev Related : SymbolicExit → Exit → Type 0
  Related symbolic_exit exit = Relates m area guest host is_map before.page before.segments before.writes_held core symbolic_exit exit

  goes_fit : (g' : Guest) (symbolic_exit : SymbolicExit) (exit : Exit) → IsOut guest g' symbolic_exit → Related symbolic_exit exit → FitsGoing m area guest core g' exit
  goes_fit g' (Out target s) exit f r = subst (FitsGoing m area guest core g') (sym r.1) (
    f.0,
    record {
      represents = record { locs = λ x lx alive. r.2.locs x lx ∙ f.1.0 x lx; bytes = λ a held. r.2.bytes a held ∙ f.1.1 a held };
      in_range = f.2;
      memory = r.2.kept;
      is_core = r.2.is_core;
    },
  )
  goes_fit g' (Indirect s) exit f r = subst (FitsGoing m area guest core g') (sym r.1) (
    ap (λ k. 4 * (k / 4)) (r.2.regs 1 (free_low m 1 (omega arith))) ∙ f.0,
    record {
      represents = record { locs = λ x lx alive. r.2.locs x lx ∙ f.1.0 x lx; bytes = λ a held. r.2.bytes a held ∙ f.1.1 a held };
      in_range = f.2;
      memory = r.2.kept;
      is_core = r.2.is_core;
    },
  )
  goes_fit g' (Stopped e) exit f r = absurd f
  goes_fit g' (Called call symbolic_exits) exit f r = absurd f
  goes_fit g' Unknown exit f r = absurd f

  all_fit : (o : Outcome Guest) (symbolic_exit : SymbolicExit) (exit : Exit) → FitsExit guest o symbolic_exit → Related symbolic_exit exit → Fits m area guest core o exit
  all_fit (Goes g') symbolic_exit exit f r = goes_fit g' symbolic_exit exit f r
  all_fit (Asks call next) (Called asked symbolic_exits) exit f r = subst (Fits m area guest core (Asks call next)) (sym r.1) (f.0, λ a. goes_fit (next a) (symbolic_exits a) (r.0 a) (f.1 a) (r.2 a))
  all_fit (Asks call next) (Out target s) exit f r = absurd f
  all_fit (Asks call next) (Indirect s) exit f r = absurd f
  all_fit (Asks call next) (Stopped e) exit f r = absurd f
  all_fit (Asks call next) Unknown exit f r = absurd f
  all_fit (Ends e) symbolic_exit exit (inl o) r = inl o
  all_fit (Ends e) symbolic_exit exit (inr q) r = inr (subst (λ w. Related w exit) q r)

  first : Shows m area guest.held core (state_of g core.regs core.flags) core
  first = record {
    is_core = before.is_core;
    regs = λ r free. refl;
    locs = λ x lx. before.represents.locs x lx tt;
    fits = λ x lx. range_size x (g.locs x) (before.in_range x lx);
    flags = refl;
    bytes = before.represents.bytes;
    kept = λ a un. refl;
  }

  word_fits : (word : Option Instr) (tile : ℕ → List TileItem) (choices : List Choice) → AreItems m (tile g.next) → ItemsDo word tile → Fits m area guest core (guest_executes guest word g) (flow host area (flows_of (tile g.next) m) None choices core)
  word_fits word tile choices are run =
      all_fit (guest_executes guest word g) (execute guest host (tile g.next) None choices (state_of g core.regs core.flags)) (flow host area (flows_of (tile g.next) m) None choices core)
      (run guest host g core.regs core.flags choices (record { in_range = before.in_range; writes_held = before.writes_held; short = page_keeps_short area guest host before.page }) before.is_core.words)
      (items_relate m area guest host is_map before.page before.segments before.writes_held core (tile g.next) None choices (state_of g core.regs core.flags) core are first)

-- items that do the word on states do it under the map
pub items_done : (word : Option Instr) (m : Map) (tile : ℕ → List TileItem) → IsMap m → ((at : ℕ) → AreItems m (tile at)) → ItemsDo word tile → FlowDoesWord word m (λ at. flows_of (tile at) m)
items_done word m tile is_map are run area guest host g core choices before = word_fits m is_map area guest host g core before word tile choices (are g.next) run

-- ops and items
pub doing_are : (m : Map) (ops : List SymbolicOp) (items : List TileItem) → AreWellFormed ops → AreItems m items → AreItems m (doing ops items)
doing_are m [] items h k = k
doing_are m (l ∷ ops) items h k = (h.0, doing_are m ops items h.1 k)

pub update_in_range : (f : ℕ → ℕ) (k v : ℕ) → v < location_range k → ((x : ℕ) → x < location_count → f x < location_range x) → (x : ℕ) → x < location_count → update f k v x < location_range x
update_in_range f k v lt range x lx = by_test (eqb x k) refl
  where
    by_test : (t : Bool) → eqb x k ≡ t → cond t v (f x) < location_range x
    by_test false e = range x lx
    by_test true e = subst (λ y. v < location_range y) (sym (eqb-true x k e)) lt

module _ (guest host : Rights) where
  -- on the symbolic_exit to a mark ops are passed over
  pub passed : (ops : List SymbolicOp) (items : List TileItem) (k : ℕ) (choices : List Choice) (s : SymbolicState) → execute guest host (doing ops items) (Some k) choices s ≡ execute guest host items (Some k) choices s
  passed [] items k choices s = refl
  passed (l ∷ ops) items k choices s = passed ops items k choices s

  -- items behind ops
  pub ops_go : (P : SymbolicState → Type 0) (Q : SymbolicExit → Type 0) (ops : List SymbolicOp) (items : List TileItem) (choices : List Choice) (s : SymbolicState) → Then P (execute_ops guest host ops choices s) → ((choices : List Choice) (t : SymbolicState) → P t → Q (execute guest host items None choices t)) → Q (execute guest host (doing ops items) None choices s)
  ops_go P Q [] items choices s h k = k choices s h
  ops_go P Q (l ∷ ops) items choices s h k = by_line (λ t g. ops_go P Q ops items (drop 1 choices) t g k) (execute_op guest host l (choice_at choices 0) s) h
    where
      by_line : ((t : SymbolicState) → Then P (execute_ops guest host ops (drop 1 choices) t) → Q (execute guest host (doing ops items) None (drop 1 choices) t)) → (o : Option SymbolicState) → Then P (then_ops (execute_ops guest host ops (drop 1 choices)) o) → Q (then_exit (execute guest host (doing ops items) None (drop 1 choices)) o)
      by_line rest None h = absurd h
      by_line rest (Some t) h = rest t h

  -- a jump on a condition of which it is known whether it holds
  pub jump_goes : (Q : SymbolicExit → Type 0) (c : Condition) (k : ℕ) (items : List TileItem) (choices : List Choice) (s : SymbolicState) (b : Bool) → condition_holds c s.flags ≡ b → (b ≡ true → Q (execute guest host items (Some k) (drop 1 choices) s)) → (b ≡ false → Q (execute guest host items None (drop 1 choices) s)) → Q (execute guest host (JumpIf (Some c) k ∷ items) None choices s)
  jump_goes Q c k items choices s b e hit miss = subst (λ t. Q (cond t (execute guest host items (Some k) (drop 1 choices) s) (execute guest host items None (drop 1 choices) s))) (sym e) (by_test b hit miss)
    where
      by_test : (t : Bool) → (t ≡ true → Q (execute guest host items (Some k) (drop 1 choices) s)) → (t ≡ false → Q (execute guest host items None (drop 1 choices) s)) → Q (cond t (execute guest host items (Some k) (drop 1 choices) s) (execute guest host items None (drop 1 choices) s))
      by_test true hit miss = hit refl
      by_test false hit miss = miss refl

  -- a test: ops, behind which it is known whether the jump is taken
  pub decides : (P : SymbolicState → Type 0) (Q : SymbolicExit → Type 0) (ops : List SymbolicOp) (c : Condition) (k : ℕ) (items : List TileItem) (choices : List Choice) (s : SymbolicState) (b : Bool) → Then (λ t. P t × (condition_holds c t.flags ≡ b)) (execute_ops guest host ops choices s) →
      ((choices : List Choice) (t : SymbolicState) → P t → b ≡ true → Q (execute guest host items (Some k) choices t)) → ((choices : List Choice) (t : SymbolicState) → P t → b ≡ false → Q (execute guest host items None choices t)) → Q (execute guest host (doing ops (JumpIf (Some c) k ∷ items)) None choices s)
  decides P Q ops c k items choices s b h hit miss =
      ops_go (λ t. P t × (condition_holds c t.flags ≡ b)) Q ops (JumpIf (Some c) k ∷ items) choices s h (λ choices t p. jump_goes Q c k items choices t b p.1 (hit (drop 1 choices) t p.0) (miss (drop 1 choices) t p.0))
