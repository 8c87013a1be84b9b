-- The code of a written program carries the blocks of its words.
use Rattle.std.proofs.Common.{◌≡◌, ℕ, zero, suc, ◌+◌, ◌*◌, ◌-◌, ◌%◌, ◌^◌, ◌<◌, ◌≤◌, Bool, true, false, cond, ◌==◌, List, [], ◌∷◌, ◌++◌, length, take, drop, slice_index, slice_index_or, Option, Some, None, ◌⊎◌, inl, inr, refl, sym, ap, ◌∙◌, subst, drop-cons, arith}
use Rattle.std.proofs.lemmas.Bool.{false≢true, cases_lt, eqb-true}
use Rattle.std.proofs.lemmas.Bool.Decides.{nat_tests}
use Rattle.std.proofs.lemmas.List.{append-nil, get_or_default, get_or_past, length-take, length-drop}
use Rattle.machines.specs.Prelude.{Outside, Program, Instr, spelling, Jmp, Ends, rights_of, code_of, Fetched, ReadsWords, ReadsOps, behind, is_code_word, word_of_code, guest_executes, without}
use Rattle.block_find.specs.Prelude.{address_of, all_blocks, block_at, IsBlockAt, EachBeginsOne, EachIsBlock}
use Rattle.block_find.specs.declared.block.Block.{Block}
use Rattle.symbolic_tiles.proofs.PlaceLaws.{programs_write_held}
use Rattle.simulation.specs.Prelude.{SimulationContext, IsWordAt, IsOffCode, JumpsTo, MoveCodesMove, PlanStep, BlockAt, Begins, room}
use Rattle.reg_map.specs.Prelude.{IsHomePage}
use Rattle.liveness.specs.Prelude.{Sets, live_at}
use Rattle.plan_form.specs.declared.problem.Step.{Step}
use Rattle.code_layout.specs.Prelude.{IsDecodedAs, decoded_at, IsLegalDecoded, no_registers, no_moves, place_of, entry_of, Laying, LaysWords, Places, laying, places_in, block_items, items_bytes, words_of, items_of, blocks_bytes, BeginsAt}
use Rattle.code_layout.proofs.Blocks.{plan_at}
use Rattle.code_layout.proofs.BuiltWords.{is_map}
use Rattle.laid_code.specs.Prelude.{HasBytes, RunsCode, code_start, Interface, laid_interface, context_of, laid_context, HasWords, HasCodeFor, ArePlaced, IsBlockOrOff, BlocksStand, HoldStands, EntriesAreAddresses, plan_items}
use Rattle.laid_code.proofs.Decoding.{first_bytes_at, next_bytes_at, bytes_end_low, jump_leads}
use Rattle.laid_code.proofs.Laid.{HasBlock, block_stands}
use Rattle.laid_code.proofs.Plans.{plans_stand}
use Rattle.laid_code.proofs.Blocks.{plan_of, plan_items_are, plan_map, plan_count, first_room, plan_few, AreFetched, plan_right}

-- where an edge to a code word leads
pub entry_at : (first : ℕ) (table : List ℕ) (hold k : ℕ) → k < length table → entry_of first table hold (address_of first k) ≡ slice_index table k
entry_at first table hold k lt =
    let place : place_of first (address_of first k) ≡ k = omega arith in
    let same : (address_of first k == address_of first k) ≡ true = grind (arith, nat_tests) in
    rw (place, same) (get_or_default table k hold 0 lt)

pub entry_or_hold : (first : ℕ) (table : List ℕ) (hold : ℕ) (P : ℕ → Type 0) (a : ℕ) → P hold → ((k : ℕ) → k < length table → a ≡ address_of first k → P (slice_index table k)) → P (entry_of first table hold a)
entry_or_hold first table hold P a off on = by (a == address_of first (place_of first a)) refl
  where
    inner : (k : ℕ) → a ≡ address_of first k → (k < length table) ⊎ (length table ≤ k) → P (slice_index_or table k hold)
    inner k e (inl lt) = subst P (sym (get_or_default table k hold 0 lt)) (on k lt e)
    inner k e (inr le) = subst P (sym (get_or_past table k hold le)) off

    by : (b : Bool) → (a == address_of first (place_of first a)) ≡ b → P (cond b (slice_index_or table (place_of first a) hold) hold)
    by true e = inner (place_of first a) (eqb-true a (address_of first (place_of first a)) e) (cases_lt (place_of first a) (length table))
    by false e = off

module _ (Q : Program) (first entry : ℕ) (words : List ℕ) (live : Sets) (plans : List (List Step)) (area : ℕ) (table : List ℕ) (carried : HasCodeFor Q first entry words live plans area table) where
  abbrev targets : ℕ → ℕ
  targets = entry_of first table (code_start area)

  abbrev p : Places
  p = places_in area first table

  abbrev decoded : List (Option Instr)
  decoded = carried.code.decoded

  abbrev blocks : List Block
  blocks = all_blocks carried.code.blocks

  low : (code_of Q).at + length (code_of Q).bytes < 2 ^ 32
  low = let l = carried.low in let a = carried.at in omega (arith, l, a)

  -- the whole code, from its start on
  whole : HasBytes (code_of Q) (code_start area) (code_of Q).bytes
  whole = record { before = []; behind = []; cut = sym (append-nil (code_of Q).bytes); begins = let a = carried.at in omega (arith, a) }

  abbrev by_plans : Laying
  by_plans = laying first decoded live blocks plans

  abbrev all_bytes : List ℕ
  all_bytes = blocks_bytes by_plans p (code_start area + 5) blocks

  holding : HasBytes (code_of Q) (code_start area) (spelling (Jmp (2 ^ 32 - 5)) ++ all_bytes)
  holding = subst (HasBytes (code_of Q) (code_start area)) carried.code.laid whole

  hold_low : code_start area + 5 < 2 ^ 32
  hold_low = bytes_end_low (code_of Q) (code_start area) (spelling (Jmp (2 ^ 32 - 5))) low (first_bytes_at (code_of Q) (code_start area) (spelling (Jmp (2 ^ 32 - 5))) all_bytes holding)

  -- the block that begins at a code word stands where the table says
  abbrev found : (k : ℕ) → k < length words → BeginsAt by_plans no_moves (area + 0x81000 + 5) blocks (address_of first k) (slice_index table k)
  found k lt = carried.code.entries k lt

  abbrev block_of : (k : ℕ) → k < length words → Block
  block_of k lt = block_at blocks (found k lt).place

  stands : (k : ℕ) (lt : k < length words) → HasBlock by_plans p (code_of Q) (slice_index table k) (block_of k lt)
  stands k lt =
      subst (λ (a : ℕ). HasBlock by_plans p (code_of Q) a (block_of k lt)) (sym (found k lt).stands)
      (block_stands by_plans p (code_of Q) (code_start area + 5) blocks (found k lt).place (record { at = 0; words = [] }) (found k lt).within
      (next_bytes_at (code_of Q) (code_start area) (spelling (Jmp (2 ^ 32 - 5))) all_bytes holding))

  pub entry_low : (k : ℕ) → k < length words → slice_index table k < 2 ^ 32
  entry_low k lt = omega (arith, bytes_end_low (code_of Q) (slice_index table k) _ low (stands k lt))

  bounded : (address : ℕ) → targets address < 2 ^ 32
  bounded address =
      let low : code_start area + 5 < 2 ^ 32 = hold_low in
      let count : length table ≡ length words = carried.count in
      entry_or_hold first table (code_start area) (λ t. t < 2 ^ 32) address (omega (arith, low)) (λ k lt e. entry_low k (omega (arith, lt, count)))

  module _ (interface : Interface) (reading : ℕ → Option Instr) (ops : List ℕ → Option Fetched) (P : Program) (reads_ops : ReadsOps ops) where
    abbrev held_in : (ℕ → ℕ) → SimulationContext
    held_in to = context_of interface to reading ops P Q first area table

    runs : (to : ℕ → ℕ) → RunsCode (held_in to) (code_of Q) ops
    runs to = record { reads = reads_ops; low = low; steps = λ h. refl }

    pub hold_jumps : (to : ℕ → ℕ) → JumpsTo (held_in to) (code_start area) (code_start area)
    hold_jumps to =
        let low : code_start area + 5 < 2 ^ 32 = hold_low in
        let rel : 2 ^ 32 - 5 ≡ (code_start area + (2 ^ 32 - (code_start area + 5))) % 2 ^ 32 = omega (arith, low) in
        jump_leads (held_in to) (code_of Q) ops (code_start area) (code_start area) (runs to) (omega (arith, low)) (subst (λ (r : ℕ). HasBytes (code_of Q) (code_start area) (spelling (Jmp r))) rel (first_bytes_at (code_of Q) (code_start area) (spelling (Jmp (2 ^ 32 - 5))) all_bytes holding))

  module _ (each_is_block : EachIsBlock) (each_begins_one : EachBeginsOne) (codes_move : MoveCodesMove) (reading : ℕ → Option Instr) (ops : List ℕ → Option Fetched) (P : Program) (reads_ops : ReadsOps ops) (reads_words : ReadsWords reading) (has : HasWords P first words) (page : IsHomePage area (rights_of P) (without (code_of Q) (rights_of Q))) where
    abbrev s : SimulationContext
    s = laid_context live reading ops P Q first area table

    are_placed : ArePlaced s
    are_placed =
        let low : code_start area + 5 < 2 ^ 32 = hold_low in
        let code_low = has.low in
        let count = carried.count in
        record {
          area = omega (arith, low);
          hold = omega (arith, low);
          table = omega (arith, low);
          first = omega (arith, code_low);
          count = omega (arith, code_low, count);
          targets = bounded;
        }

    -- a word is read as it is decoded
    read_as : (w : ℕ) (o : Option Instr) → IsDecodedAs w o → reading w ≡ o
    read_as w (Some i) h = reads_words.only w i h
    read_as w None h = by_reading (reading w) refl
      where
        by_reading : (o : Option Instr) → reading w ≡ o → reading w ≡ None
        by_reading (Some i) e = absurd (h i (reads_words.found w i e))
        by_reading None e = e

    legal_if : (w : ℕ) (o : Option Instr) → IsDecodedAs w o → IsLegalDecoded o
    legal_if w (Some i) h = h.legal
    legal_if w None h = tt

    word_at : (k : ℕ) → k < length words → IsWordAt s (address_of first k) (decoded_at decoded k)
    word_at k lt g at =
        let read : reading (word_of_code (code_of P) (address_of first k)) ≡ decoded_at decoded k = ap reading (has.each k lt) ∙ read_as (slice_index words k) (decoded_at decoded k) (carried.code.are_decoded.each k lt) in
        ap (λ (a : ℕ). cond (is_code_word (code_of P) a) (guest_executes (rights_of P) (reading (word_of_code (code_of P) a)) g) (Ends Outside)) at
        ∙ ap (λ (b : Bool). cond b (guest_executes (rights_of P) (reading (word_of_code (code_of P) (address_of first k))) g) (Ends Outside)) (has.here k lt)
        ∙ ap (λ (o : Option Instr). guest_executes (rights_of P) o g) read

    -- from each code word on the words stand as they are decoded
    fetched_from : (n k : ℕ) → k + n ≤ length words → AreFetched s (programs_write_held P) (address_of first k) (take n (drop k decoded))
    fetched_from zero k le = tt
    fetched_from (suc n) k le =
        let lt : k < length words = omega arith in
        let count : length decoded ≡ length words = carried.code.are_decoded.count in
        let cut : drop k decoded ≡ decoded_at decoded k ∷ drop (suc k) decoded = drop-cons decoded k None (omega (arith, lt, count)) in
        let lows : first + 4 * length words < 2 ^ 32 = has.low in
        let next : address_of first (suc k) ≡ behind (address_of first k) = omega (arith, lows, lt) in
        subst (λ (xs : List (Option Instr)). AreFetched s (programs_write_held P) (address_of first k) (take (suc n) xs)) (sym cut) (
          word_at k lt,
          legal_if (slice_index words k) (decoded_at decoded k) (carried.code.are_decoded.each k lt),
          subst (λ (a : ℕ). AreFetched s (programs_write_held P) a (take n (drop (suc k) decoded))) next (fetched_from n (suc k) (omega arith)),
        )

    -- the block that begins at a code word has the words from it on
    is_block : (k : ℕ) (lt : k < length words) → IsBlockAt first words k (block_of k lt)
    is_block k lt =
        let e = each_is_block first entry words carried.code.blocks carried.code.are_blocks (found k lt).place (found k lt).within in
        let at : (block_of k lt).at ≡ address_of first e.0 = e.1.begins in
        let here : (block_of k lt).at ≡ address_of first k = (found k lt).begins in
        let same : e.0 ≡ k = omega (arith, at, here) in
        subst (λ (j : ℕ). IsBlockAt first words j (block_of k lt)) same e.1

    abbrev block_words : (k : ℕ) → k < length words → List (Option Instr)
    block_words k lt = take (length (block_of k lt).words) (drop k decoded)

    -- and the steps of its plan, which lay them
    abbrev block_steps : (k : ℕ) → k < length words → List Step
    block_steps k lt = by_plans.steps (block_of k lt)

    abbrev steps_at : (k : ℕ) → k < length words → List PlanStep
    steps_at k lt = plan_of (live_at live) (address_of first k) no_registers (block_words k lt) (block_steps k lt)

    place_is : (k : ℕ) (lt : k < length words) → place_of first (block_of k lt).at ≡ k
    place_is k lt = let at : (block_of k lt).at ≡ address_of first k = (found k lt).begins in omega (arith, at)

    lays : (k : ℕ) (lt : k < length words) → LaysWords 6 no_registers (block_words k lt) (block_steps k lt) no_registers
    lays k lt =
        let plan = plan_at first entry words carried.code.blocks carried.code.are_blocks each_is_block each_begins_one plans (found k lt).place (found k lt).within in
        subst (λ (j : ℕ). LaysWords 6 no_registers (take (length (block_of k lt).words) (drop j decoded)) (block_steps k lt) no_registers) (place_is k lt)
        (subst (λ (xs : List Step). LaysWords 6 no_registers (words_of first decoded (block_of k lt)) xs no_registers) (sym plan) (carried.code.are_plans.each (found k lt).place (found k lt).within))

    same_items : (k : ℕ) (lt : k < length words) → items_of by_plans (block_of k lt) ≡ plan_items (address_of first k) (steps_at k lt)
    same_items k lt =
        let at : (block_of k lt).at ≡ address_of first k = (found k lt).begins in
        ap (λ (a : ℕ). block_items (live_at live) a no_registers (words_of first decoded (block_of k lt)) (block_steps k lt)) at
        ∙ ap (λ (j : ℕ). block_items (live_at live) (address_of first k) no_registers (take (length (block_of k lt).words) (drop j decoded)) (block_steps k lt)) (place_is k lt)
        ∙ plan_items_are (live_at live) (address_of first k) no_registers (block_words k lt) (block_steps k lt)

    count_is : (k : ℕ) (lt : k < length words) → length (block_words k lt) ≡ length (block_of k lt).words
    count_is k lt =
        let within = (is_block k lt).within in
        let count = carried.code.are_decoded.count in
        let a = length-take (length (block_of k lt).words) (drop k decoded) in
        let b = length-drop k decoded in
        omega (arith, a, b, within, count)

    some_room : (k : ℕ) (lt : k < length words) → 1 ≤ length (block_words k lt) → room (steps_at k lt) ≤ 12
    some_room k lt some = by_words (block_words k lt) (lays k lt) some
      where
        by_words : (ws : List (Option Instr)) → LaysWords 6 no_registers ws (block_steps k lt) no_registers → 1 ≤ length ws → room (plan_of (live_at live) (address_of first k) no_registers ws (block_steps k lt)) ≤ 12
        by_words [] l some = absurd (omega arith)
        by_words (w ∷ ws) l some = first_room (live_at live) 6 (address_of first k) no_registers no_registers w ws (block_steps k lt) l

    begins : (k : ℕ) → k < length words → Begins s (address_of first k)
    begins k lt =
        let is = is_block k lt in
        let steps = steps_at k lt in
        let here : ℕ = slice_index table k in
        let count : length table ≡ length words = carried.count in
        let there : here ≡ targets (address_of first k) = sym (entry_at first table (code_start area) k (omega (arith, lt, count))) in
        let within = is.within in
        let right = plan_right s (programs_write_held P) (live_at live) (λ w x. refl) page codes_move 6 (address_of first k) no_registers (block_words k lt) (block_steps k lt) is_map (lays k lt) (fetched_from (length (block_of k lt).words) k within) in
        let bytes : HasBytes (code_of Q) here (items_bytes p here (plan_items (address_of first k) steps)) = subst (λ x. HasBytes (code_of Q) here (items_bytes p here x)) (same_items k lt) (stands k lt) in
        let map_stays = plan_map (live_at live) 6 (address_of first k) no_registers no_registers (block_words k lt) (block_steps k lt) (lays k lt) in
        record {
          steps = steps;
          stands = subst (λ (a : ℕ). BlockAt s no_registers (address_of first k) a steps) there (plans_stand s no_moves (code_of Q) ops no_registers (address_of first k) here steps (runs (laid_interface live) reading ops P reads_ops targets) are_placed (λ next. (omega arith, map_stays)) right bytes);
          in_block = (let count = plan_count (live_at live) (address_of first k) no_registers (block_words k lt) (block_steps k lt) in let short = is.short in omega (arith, count, short, count_is k lt));
          few = plan_few (live_at live) 6 (address_of first k) no_registers no_registers (block_words k lt) (block_steps k lt) (omega arith) (lays k lt);
          few_first = some_room k lt (let some = is.some in omega (arith, some, count_is k lt));
        }

    off_code : (w : ℕ) → is_code_word (code_of P) w ≡ false → IsOffCode s w
    off_code w off g at =
        ap (λ (a : ℕ). cond (is_code_word (code_of P) a) (guest_executes (rights_of P) (reading (word_of_code (code_of P) a)) g) (Ends Outside)) at
        ∙ ap (λ (b : Bool). cond b (guest_executes (rights_of P) (reading (word_of_code (code_of P) w)) g) (Ends Outside)) off

    to_hold : (w : ℕ) → is_code_word (code_of P) w ≡ false → targets w ≡ code_start area
    to_hold w off =
        let count : length table ≡ length words = carried.count in
        entry_or_hold first table (code_start area) (λ t. t ≡ code_start area) w refl
        (λ k lt e. absurd (false≢true (sym off ∙ ap (λ (a : ℕ). is_code_word (code_of P) a) e ∙ has.here k (omega (arith, lt, count)))))

    pub blocks_at : (w : ℕ) → IsBlockOrOff s w
    blocks_at w = by (is_code_word (code_of P) w) refl
      where
        by : (b : Bool) → is_code_word (code_of P) w ≡ b → IsBlockOrOff s w
        by true on =
            let k = has.only w on in
            inl (subst (Begins s) (sym k.2) (begins k.0 k.1))
        by false off = inr (off_code w off, to_hold w off)

pub blocks_stand : EachIsBlock → EachBeginsOne → MoveCodesMove → BlocksStand
blocks_stand each begins codes_move reading ops P Q first entry words live plans area table reads_words reads_ops has carried page w = blocks_at Q first entry words live plans area table carried each begins codes_move reading ops P reads_ops reads_words has page w

pub hold_stands : HoldStands
hold_stands interface targets reading ops P Q first entry words live plans area table reads_ops carried = hold_jumps Q first entry words live plans area table carried interface reading ops P reads_ops targets

pub entries_are_addresses : EntriesAreAddresses
entries_are_addresses Q first entry words live plans area table carried k lt = entry_low Q first entry words live plans area table carried k (let count = carried.count in omega (arith, lt, count))
