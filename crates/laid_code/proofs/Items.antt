-- Items whose bytes stand in the code stand there, with their marks and edges.
use Rattle.std.proofs.Common.{◌≡◌, ℕ, zero, suc, ◌+◌, ◌-◌, ◌*◌, ◌%◌, ◌^◌, ◌<◌, ◌≤◌, Bool, true, false, cond, eqb, List, [], ◌∷◌, ◌++◌, map, length, drop, Option, Some, None, All, Contains, length-append, append_assoc, refl, sym, ap, ◌∙◌, subst, arith}
use Rattle.std.proofs.lemmas.Bool.{eqb-true, false≢true}
use Rattle.std.proofs.lemmas.Bool.Decides.{nat_tests}
use Rattle.std.proofs.lemmas.List.Elements.{All-head, All-tail}
use Rattle.machines.specs.Prelude.{spelling, condition_number, IsReg, IsInProfile, Flags, condition_holds, Condition, Below, NotBelow, Equal, NotEqual, NotAbove, Above, Sign, NotSign, Less, NotLess, NotGreater, Greater, Op, Jcc, Jmp, JmpTo, Base, Map, Goes, Code, Fetched, Host}
use Rattle.symbolic_tiles.specs.declared.flow_op.FlowOp.{FlowOp}
use Rattle.symbolic_tiles.specs.declared.flow_op.FlowOp.TheVariants.{Plain, Jump, Mark, Edge, Leap}
use Rattle.symbolic_tiles.specs.Prelude.{is_taken, OpAt, OpsAt, EdgeCode, ItemsAt, IsJumpCode, has_mark, AreMarked, code_of}
use Rattle.simulation.specs.Prelude.{SimulationContext, SwitchAt, EdgeAt, LeapAt}
use Rattle.code_layout.specs.Prelude.{leap_ops, Moves, IsLaid, op_at, jump, spelled, placed, moves_ops, edge_bytes, leap_bytes, item_length, before_mark, item_bytes, items_bytes}
use Rattle.ia_codec.specs.Reading.{condition_of_number}
use Rattle.laid_code.specs.Prelude.{HasBytes, RunsCode, ArePlaceable, labels_of, edges_of, leaps_of, places_of, IsSwitch, AreSwitches, ItemsStand}
use Rattle.laid_code.proofs.Decoding.{first_bytes_at, next_bytes_at, ends_low, spelling_stands, jump_leads}
use Rattle.code_layout.proofs.Laying.{op_at-length as placed_length}
use Rattle.laid_code.proofs.Lengths.{all_placed_length, one_length, bytes_length, mark_within}

-- a jump of this condition is taken by its number
pub taken : (c : Condition) (f : Flags) → is_taken (condition_number c) f ≡ condition_holds c f
taken Below f = refl
taken NotBelow f = refl
taken Equal f = refl
taken NotEqual f = refl
taken NotAbove f = refl
taken Above f = refl
taken Sign f = refl
taken NotSign f = refl
taken Less f = refl
taken NotLess f = refl
taken NotGreater f = refl
taken Greater f = refl

-- a condition's number in opcodes
pub code_is : (c : Condition) → code_of (Some c) ≡ condition_number c
code_is Below = refl
code_is NotBelow = refl
code_is Equal = refl
code_is NotEqual = refl
code_is NotAbove = refl
code_is Above = refl
code_is Sign = refl
code_is NotSign = refl
code_is Less = refl
code_is NotLess = refl
code_is NotGreater = refl
code_is Greater = refl

spelt_on : (c : Condition) (rel : ℕ) → jump (condition_number c) rel ≡ Jcc c rel
unfolding condition_of_number
spelt_on Below rel = refl
spelt_on NotBelow rel = refl
spelt_on Equal rel = refl
spelt_on NotEqual rel = refl
spelt_on NotAbove rel = refl
spelt_on Above rel = refl
spelt_on Sign rel = refl
spelt_on NotSign rel = refl
spelt_on Less rel = refl
spelt_on NotLess rel = refl
spelt_on NotGreater rel = refl
spelt_on Greater rel = refl

spelt_always : (rel : ℕ) → jump 16 rel ≡ Jmp rel
unfolding condition_of_number
spelt_always rel = refl

same_mark : (k : ℕ) → eqb k k ≡ true
same_mark k = grind (arith, nat_tests)

other_mark : (k m : ℕ) (items : List FlowOp) → has_mark items k ≡ false → has_mark items m ≡ true → eqb k m ≡ false
other_mark k m items none some = by (eqb k m) refl
  where
    by : (b : Bool) → eqb k m ≡ b → eqb k m ≡ false
    by true e = absurd (false≢true (sym none ∙ ap (λ (n : ℕ). has_mark items n) (eqb-true k m e) ∙ some))
    by false e = e

-- a mark is where the items behind it begin
at_mark : (switch : ℕ → Moves) (here k label : ℕ) (items : List FlowOp) → (has_mark (Mark k ∷ items) k ≡ true → label ≡ here + before_mark switch (Mark k ∷ items) k) → label ≡ here
unfolding before_mark
at_mark switch here k label items so =
    let found : has_mark (Mark k ∷ items) k ≡ true = rw (same_mark k) refl in
    so found ∙ rw (same_mark k) (omega arith)

-- and the marks behind it are elsewhere
behind_mark : (switch : ℕ → Moves) (here k m label : ℕ) (items : List FlowOp) → has_mark items k ≡ false → has_mark items m ≡ true → (has_mark (Mark k ∷ items) m ≡ true → label ≡ here + before_mark switch (Mark k ∷ items) m) → label ≡ here + before_mark switch items m
unfolding before_mark
behind_mark switch here k m label items none some so =
    let found : has_mark (Mark k ∷ items) m ≡ true = rw (other_mark k m items none some) some in
    so found ∙ rw (other_mark k m items none some) (omega arith)

abbrev AreInProfile : List Op → Type 0
AreInProfile [] = Unit {0}
AreInProfile (op ∷ ops) = IsInProfile op × AreInProfile ops

found_first : (x : EdgeCode) (xs : List EdgeCode) → Contains (x ∷ xs) x
found_first x xs = (0, omega arith, refl)

found_behind : (x y : EdgeCode) (xs : List EdgeCode) → Contains xs y → Contains (x ∷ xs) y
found_behind x y xs h = (suc h.0, omega (arith, h.1), h.2)

abbrev maps_of : Moves → List Map
maps_of [] = []
maps_of ((to, ops) ∷ moves) = to ∷ maps_of moves

length_maps : (moves : Moves) → length (maps_of moves) ≡ length moves
length_maps [] = refl
length_maps ((to, ops) ∷ moves) = ap suc (length_maps moves)

leap_first : (x : ℕ) (xs : List ℕ) → Contains (x ∷ xs) x
leap_first x xs = (0, omega arith, refl)

leap_behind : (x y : ℕ) (xs : List ℕ) → Contains xs y → Contains (x ∷ xs) y
leap_behind x y xs h = (suc h.0, omega (arith, h.1), h.2)

module _ (s : SimulationContext) (code : Code) (reading : List ℕ → Option Fetched) (switch : ℕ → Moves) (runs : RunsCode s code reading) where
  -- a jump at an address, from the bytes of its op
  by_condition : (here number label : ℕ) (rel : ℕ) (c : Condition) → rel < 2 ^ 32 → label < 2 ^ 32 → number ≡ condition_number c → HasBytes code here (spelling (Jcc c rel)) → label ≡ here + 6 + rel →
      (h : Host) → h.eip ≡ here → s.host_step h ≡ Goes (record { core = h.core; eip = cond (is_taken number h.core.flags) label (here + 6); choices = drop 1 h.choices })
  by_condition here number label rel c short low is has to h at =
      let there : (here + 6 + rel) % 2 ^ 32 ≡ label = omega arith in
      let same : is_taken number h.core.flags ≡ condition_holds c h.core.flags = ap (λ (n : ℕ). is_taken n h.core.flags) is ∙ taken c h.core.flags in
      spelling_stands s code reading here (Jcc c rel) runs short has h at
      ∙ ap (λ (a : ℕ). Goes (record { core = h.core; eip = cond (condition_holds c h.core.flags) a (here + 6); choices = drop 1 h.choices })) there
      ∙ ap (λ (b : Bool). Goes (record { core = h.core; eip = cond b label (here + 6); choices = drop 1 h.choices })) (sym same)

  by_always : (here label rel next : ℕ) → rel < 2 ^ 32 → label < 2 ^ 32 → HasBytes code here (spelling (Jmp rel)) → label ≡ here + 5 + rel →
      (h : Host) → h.eip ≡ here → s.host_step h ≡ Goes (record { core = h.core; eip = cond (is_taken 16 h.core.flags) label next; choices = drop 1 h.choices })
  by_always here label rel next short low has to h at =
      let there : (here + 5 + rel) % 2 ^ 32 ≡ label = omega arith in
      spelling_stands s code reading here (Jmp rel) runs short has h at
      ∙ ap (λ (a : ℕ). Goes (record { core = h.core; eip = a; choices = drop 1 h.choices })) there

  jumps_at : (here number mark label rel : ℕ) → IsJumpCode number → label < 2 ^ 32 → HasBytes code here (spelling (jump number rel)) → label ≡ here + item_length switch (Jump number mark) + rel →
      (h : Host) → h.eip ≡ here → s.host_step h ≡ Goes (record { core = h.core; eip = cond (is_taken number h.core.flags) label (here + item_length switch (Jump number mark)); choices = drop 1 h.choices })
  jumps_at here number mark label rel (None, is) low has to h at =
      let op : jump number rel ≡ Jmp rel = ap (λ (n : ℕ). jump n rel) is ∙ spelt_always rel in
      let start : jump number 0 ≡ Jmp 0 = ap (λ (n : ℕ). jump n 0) is ∙ spelt_always 0 in
      let long : item_length switch (Jump number mark) ≡ 5 = ap (λ (o : Op). length (spelling o)) start in
      let done = by_always here label rel (here + item_length switch (Jump number mark)) (omega (arith, to, low)) low (subst (λ (o : Op). HasBytes code here (spelling o)) op has) (omega (arith, to, long)) h at in
      done ∙ ap (λ (n : ℕ). Goes (record { core = h.core; eip = cond (is_taken n h.core.flags) label (here + item_length switch (Jump number mark)); choices = drop 1 h.choices })) (sym is)
  jumps_at here number mark label rel (Some c, e) low has to h at =
      let is : number ≡ condition_number c = e ∙ code_is c in
      let op : jump number rel ≡ Jcc c rel = ap (λ (n : ℕ). jump n rel) is ∙ spelt_on c rel in
      let start : jump number 0 ≡ Jcc c 0 = ap (λ (n : ℕ). jump n 0) is ∙ spelt_on c 0 in
      let long : item_length switch (Jump number mark) ≡ 6 = ap (λ (o : Op). length (spelling o)) start in
      let done = by_condition here number label rel c (omega (arith, to, low)) low is (subst (λ (o : Op). HasBytes code here (spelling o)) op has) (omega (arith, to, long)) h at in
      done ∙ ap (λ (n : ℕ). Goes (record { core = h.core; eip = cond (is_taken number h.core.flags) label n; choices = drop 1 h.choices })) (omega (arith, long))

  -- the bytes of the first item, and of those behind it
  pub first_item : (here : ℕ) (item : FlowOp) (rest : List FlowOp) → HasBytes code here (items_bytes (places_of s switch) here (item ∷ rest)) → HasBytes code here (item_bytes (places_of s switch) here item rest)
  unfolding items_bytes
  first_item here item rest h = first_bytes_at code here _ _ h

  pub other_items : (here : ℕ) (item : FlowOp) (rest : List FlowOp) → HasBytes code here (items_bytes (places_of s switch) here (item ∷ rest)) → HasBytes code (here + item_length switch item) (items_bytes (places_of s switch) (here + item_length switch item) rest)
  unfolding items_bytes
  other_items here item rest h =
      subst (λ (n : ℕ). HasBytes code (here + n) (items_bytes (places_of s switch) (here + item_length switch item) rest)) (one_length (places_of s switch) here item rest) (next_bytes_at code here (item_bytes (places_of s switch) here item rest) _ h)

  pub behind_mark_at : (here mark : ℕ) (items : List FlowOp) → HasBytes code here (items_bytes (places_of s switch) here (Mark mark ∷ items)) → HasBytes code here (items_bytes (places_of s switch) here items)
  behind_mark_at here mark items h =
      let same : here + 0 ≡ here = omega arith in
      subst (λ (a : ℕ). HasBytes code a (items_bytes (places_of s switch) a items)) same (other_items here (Mark mark) items h)

  pub op_at_place : (here : ℕ) (op : Op) (rest : List FlowOp) → s.area + 4096 ≤ 2 ^ 32 → IsLaid (Plain op) → HasBytes code here (items_bytes (places_of s switch) here (Plain op ∷ rest)) → OpAt s.host s.host_step here (op_at s.area op) (here + item_length switch (Plain op))
  op_at_place here op rest low laid h =
      let stands : OpAt s.host s.host_step here (op_at s.area op) (here + length (spelling (op_at s.area op))) = spelling_stands s code reading here (op_at s.area op) runs (laid s.area low) (first_item here (Plain op) rest h) in
      subst (λ (n : ℕ). OpAt s.host s.host_step here (op_at s.area op) (here + n)) (placed_length s.area op) stands

  pub jump_at_place : (here number mark label : ℕ) (rest : List FlowOp) → IsJumpCode number → label ≡ here + item_length switch (Jump number mark) + before_mark switch rest mark → HasBytes code here (items_bytes (places_of s switch) here (Jump number mark ∷ rest)) →
      (h : Host) → h.eip ≡ here → s.host_step h ≡ Goes (record { core = h.core; eip = cond (is_taken number h.core.flags) label (here + item_length switch (Jump number mark)); choices = drop 1 h.choices })
  jump_at_place here number mark label rest is to h =
      let behind = other_items here (Jump number mark) rest h in
      let low = ends_low s code reading (here + item_length switch (Jump number mark)) (items_bytes (places_of s switch) (here + item_length switch (Jump number mark)) rest) runs behind in
      let long = bytes_length (places_of s switch) (here + item_length switch (Jump number mark)) rest in
      jumps_at here number mark label (before_mark switch rest mark) is (omega (arith, to, low, long, mark_within switch rest mark)) (first_item here (Jump number mark) rest h) to

  module _ (low : s.area + 4096 ≤ 2 ^ 32) (labels : ℕ → ℕ) (edges : List EdgeCode) (leaps : List ℕ) where
    -- the marks of items that begin at an address are where the labels say
    abbrev AreLabelled : ℕ → List FlowOp → Type 0
    AreLabelled here items = (mark : ℕ) → has_mark items mark ≡ true → labels mark ≡ here + before_mark switch items mark

    abbrev AreEdges : ℕ → List FlowOp → Type 0
    AreEdges here items = (e : EdgeCode) → Contains (edges_of switch here items) e → Contains edges e

    -- behind an item that is no mark
    abbrev AreLeaps : ℕ → List FlowOp → Type 0
    AreLeaps here items = (a : ℕ) → Contains (leaps_of switch here items) a → Contains leaps a

    pub stand_from : (here : ℕ) (items : List FlowOp) → All IsLaid items → AreMarked items → AreLabelled here items → AreEdges here items → AreLeaps here items → HasBytes code here (items_bytes (places_of s switch) here items) → ItemsAt s.host s.area s.host_step labels edges leaps here items
    unfolding before_mark
    stand_from here [] laid marked labelled edged leaping h = tt
    stand_from here (Plain op ∷ items) laid marked labelled edged leaping h = (
      here + item_length switch (Plain op),
      op_at_place here op items low (All-head IsLaid _ _ laid) h,
      stand_from (here + item_length switch (Plain op)) items (All-tail IsLaid _ _ laid) marked (λ m f. labelled m f ∙ omega arith) edged leaping (other_items here (Plain op) items h),
    )
    stand_from here (Jump number mark ∷ items) laid marked labelled edged leaping h = (
      here + item_length switch (Jump number mark),
      jump_at_place here number mark (labels mark) items marked.0 (labelled mark marked.1 ∙ omega arith) h,
      stand_from (here + item_length switch (Jump number mark)) items (All-tail IsLaid _ _ laid) marked.2 (λ m f. labelled m f ∙ omega arith) edged leaping (other_items here (Jump number mark) items h),
    )
    stand_from here (Mark mark ∷ items) laid marked labelled edged leaping h = (
      at_mark switch here mark (labels mark) items (labelled mark),
      stand_from here items (All-tail IsLaid _ _ laid) marked.1 (λ m f. behind_mark switch here mark m (labels m) items marked.0 f (labelled m)) edged leaping (behind_mark_at here mark items h),
    )
    stand_from here (Edge target ∷ items) laid marked labelled edged leaping h = (
      here + item_length switch (Edge target),
      edged _ (found_first _ _),
      stand_from (here + item_length switch (Edge target)) items (All-tail IsLaid _ _ laid) marked (λ m f. labelled m f ∙ omega arith) (λ e c. edged e (found_behind _ e _ c)) leaping (other_items here (Edge target) items h),
    )
    stand_from here (Leap ∷ items) laid marked labelled edged leaping h = (
      here + item_length switch Leap,
      leaping here (leap_first here (leaps_of switch (here + item_length switch Leap) items)),
      stand_from (here + item_length switch Leap) items (All-tail IsLaid _ _ laid) marked (λ m f. labelled m f ∙ omega arith) edged (λ a c. leaping a (leap_behind here a (leaps_of switch (here + item_length switch Leap) items) c)) (other_items here Leap items h),
    )

-- the bytes of ops one behind another
pub placed_append : (area : ℕ) (xs ys : List Op) → placed area (xs ++ ys) ≡ placed area xs ++ placed area ys
placed_append area [] ys = refl
placed_append area (op ∷ xs) ys = ap (λ k. spelling (op_at area op) ++ k) (placed_append area xs ys) ∙ sym (append_assoc (spelling (op_at area op)) (placed area xs) (placed area ys))

spelled_lengths : (xs ys : List Op) → length (spelled (xs ++ ys)) ≡ length (spelled xs) + length (spelled ys)
spelled_lengths [] ys = omega arith
spelled_lengths (op ∷ xs) ys = length-append (spelling op) (spelled (xs ++ ys)) ∙ ap (λ k. length (spelling op) + k) (spelled_lengths xs ys) ∙ let e = length-append (spelling op) (spelled xs) in omega (arith, e)

module _ (s : SimulationContext) (code : Code) (reading : List ℕ → Option Fetched) (runs : RunsCode s code reading) where
  -- ops that aren't placed
  absolute_stand : (here : ℕ) (ops : List Op) → AreInProfile ops → HasBytes code here (spelled ops) → OpsAt s.host s.host_step here ops (here + length (spelled ops))
  absolute_stand here [] ok has = omega arith
  absolute_stand here (op ∷ ops) ok has =
      let long = length-append (spelling op) (spelled ops) in
      let e : here + length (spelling op) + length (spelled ops) ≡ here + length (spelling op ++ spelled ops) = omega (arith, long) in (
        here + length (spelling op),
        spelling_stands s code reading here op runs ok.0 (first_bytes_at code here (spelling op) (spelled ops) has),
        subst (OpsAt s.host s.host_step (here + length (spelling op)) ops) e (absolute_stand (here + length (spelling op)) ops ok.1 (next_bytes_at code here (spelling op) (spelled ops) has)),
      )

  -- where the bytes of an edge stand, its switch stands
  switch_stands : (next here : ℕ) (from : Map) (moves : Moves) → s.area + 4096 ≤ 2 ^ 32 → s.target next < 2 ^ 32 → IsSwitch s next from moves → HasBytes code here (edge_bytes s.area (moves_ops moves) (s.target next) here) → SwitchAt s next (maps_of moves) from here
  switch_stands next here from [] page low is has = (is, jump_leads s code reading here (s.target next) runs low (subst (λ n. HasBytes code here (spelling (Jmp ((s.target next + (2 ^ 32 - (n + 5))) % 2 ^ 32)))) (let e : here + 0 ≡ here = omega arith in e) has))
  switch_stands next here from ((to, ops) ∷ moves) page low is has =
      let rel : ℕ → ℕ = λ n. (s.target next + (2 ^ 32 - (n + 5))) % 2 ^ 32 in
      let whole = spelled_lengths ops (moves_ops moves) in
      let moved = all_placed_length s.area ops in
      let place : here + length (spelled (ops ++ moves_ops moves)) ≡ here + length (placed s.area ops) + length (spelled (moves_ops moves)) = omega (arith, whole, moved) in
      let cut : edge_bytes s.area (ops ++ moves_ops moves) (s.target next) here ≡ placed s.area ops ++ edge_bytes s.area (moves_ops moves) (s.target next) (here + length (placed s.area ops)) =
      ap (λ k. k ++ spelling (Jmp (rel (here + length (spelled (ops ++ moves_ops moves)))))) (placed_append s.area ops (moves_ops moves))
      ∙ ap (λ n. (placed s.area ops ++ placed s.area (moves_ops moves)) ++ spelling (Jmp (rel n))) place
      ∙ append_assoc (placed s.area ops) (placed s.area (moves_ops moves)) _ in
      let split = subst (HasBytes code here) cut has in (
        ops,
        here + length (placed s.area ops),
        is.0,
        absolute_stand here (map_at ops) (in_profile ops is.1) (first_bytes_at code here (placed s.area ops) _ split),
        switch_stands next (here + length (placed s.area ops)) to moves page low is.2 (next_bytes_at code here (placed s.area ops) _ split),
      )
    where
      map_at : List Op → List Op
      map_at xs = map (op_at s.area) xs

      in_profile : (xs : List Op) → ArePlaceable xs → AreInProfile (map (op_at s.area) xs)
      in_profile [] h = tt
      in_profile (x ∷ xs) h = (h.0 s.area page, in_profile xs h.1)

module _ (s : SimulationContext) (map : Map) (code : Code) (reading : List ℕ → Option Fetched) (switch : ℕ → Moves) (runs : RunsCode s code reading) (page : s.area + 4096 ≤ 2 ^ 32) (bounded : (address : ℕ) → s.target address < 2 ^ 32) (switches : AreSwitches s map switch) where
  pub edge_stands : (next here : ℕ) → HasBytes code here (edge_bytes s.area (moves_ops (switch next)) (s.target next) here) → EdgeAt s map next here
  edge_stands next here has = (maps_of (switch next), subst (λ n. n ≤ 6) (sym (length_maps (switch next))) (switches next).0, switch_stands s code reading runs next here map (switch next) page (bounded next) (switches next).1 has)

  by_place : (x : EdgeCode) (xs : List EdgeCode) (e : EdgeCode) → EdgeAt s map x.target x.at → (Contains xs e → EdgeAt s map e.target e.at) → Contains (x ∷ xs) e → EdgeAt s map e.target e.at
  by_place x xs e here behind (zero, lt, is) = subst (λ (y : EdgeCode). EdgeAt s map y.target y.at) is here
  by_place x xs e here behind (suc k, lt, is) = behind (k, omega (arith, lt), is)

  edges_jump : (here : ℕ) (items : List FlowOp) → HasBytes code here (items_bytes (places_of s switch) here items) → (e : EdgeCode) → Contains (edges_of switch here items) e → EdgeAt s map e.target e.at
  edges_jump here [] h e (k, lt, is) = absurd (omega (arith, lt))
  edges_jump here (Plain op ∷ items) h e c = edges_jump (here + item_length switch (Plain op)) items (other_items s code reading switch runs here (Plain op) items h) e c
  edges_jump here (Jump number mark ∷ items) h e c = edges_jump (here + item_length switch (Jump number mark)) items (other_items s code reading switch runs here (Jump number mark) items h) e c
  edges_jump here (Mark mark ∷ items) h e c = edges_jump here items (behind_mark_at s code reading switch runs here mark items h) e c
  edges_jump here (Leap ∷ items) h e c = edges_jump (here + item_length switch Leap) items (other_items s code reading switch runs here Leap items h) e c
  edges_jump here (Edge target ∷ items) h e c =
      by_place (record { target = target; at = here }) (edges_of switch (here + item_length switch (Edge target)) items) e
      (edge_stands target here (first_item s code reading switch runs here (Edge target) items h))
      (edges_jump (here + item_length switch (Edge target)) items (other_items s code reading switch runs here (Edge target) items h) e) c

module _ (s : SimulationContext) (code : Code) (reading : List ℕ → Option Fetched) (switch : ℕ → Moves) (runs : RunsCode s code reading) (first_word : s.first < 2 ^ 32) (count_word : 4 * s.count < 2 ^ 32) (table_word : s.table < 2 ^ 32) (hold_word : s.hold < 2 ^ 32) where
  -- where the bytes of the indirect sequence stand, it stands
  leap_stands : (here : ℕ) → HasBytes code here (leap_bytes (places_of s switch) here) → LeapAt s here
  leap_stands here has =
      let rel : ℕ = (s.hold + (2 ^ 32 - (here + 26))) % 2 ^ 32 in
      let low : here + 32 < 2 ^ 32 = ends_low s code reading here (leap_bytes (places_of s switch) here) runs has in
      let jumps = next_bytes_at code here (spelled (leap_ops s.first s.count)) (spelling (Jcc NotBelow rel) ++ spelling (JmpTo (Base 0 s.table))) has in
      let to : (here + 20 + 6 + rel) % 2 ^ 32 ≡ s.hold = omega (arith, low, hold_word) in
      record {
        compared = here + 20;
        inside = here + 20 + 6;
        end = here + 20 + 6 + 6;
        ops = absolute_stand s code reading runs here (leap_ops s.first s.count) ((reg_1, omega arith), ((reg_0, reg_1), ((reg_0, first_word), ((reg_0, count_word), tt)))) (first_bytes_at code here (spelled (leap_ops s.first s.count)) (spelling (Jcc NotBelow rel) ++ spelling (JmpTo (Base 0 s.table))) has);
        fork = λ h at. spelling_stands s code reading (here + 20) (Jcc NotBelow rel) runs (omega arith) (first_bytes_at code (here + 20) (spelling (Jcc NotBelow rel)) (spelling (JmpTo (Base 0 s.table))) jumps) h at
            ∙ ap (λ (a : ℕ). Goes (record { core = h.core; eip = cond (condition_holds NotBelow h.core.flags) a (here + 20 + 6); choices = drop 1 h.choices })) to;
        jump = spelling_stands s code reading (here + 20 + 6) (JmpTo (Base 0 s.table)) runs (reg_0, table_word) (next_bytes_at code (here + 20) (spelling (Jcc NotBelow rel)) (spelling (JmpTo (Base 0 s.table))) jumps);
      }
    where
      reg_0 : IsReg 0
      reg_0 = (omega arith, (λ e. omega arith), λ e. omega arith)

      reg_1 : IsReg 1
      reg_1 = (omega arith, (λ e. omega arith), λ e. omega arith)

  by_leap : (x : ℕ) (xs : List ℕ) (a : ℕ) → LeapAt s x → (Contains xs a → LeapAt s a) → Contains (x ∷ xs) a → LeapAt s a
  by_leap x xs a here behind (zero, lt, is) = subst (LeapAt s) is here
  by_leap x xs a here behind (suc k, lt, is) = behind (k, omega (arith, lt), is)

  leaps_stand : (here : ℕ) (items : List FlowOp) → HasBytes code here (items_bytes (places_of s switch) here items) → (a : ℕ) → Contains (leaps_of switch here items) a → LeapAt s a
  leaps_stand here [] h a (k, lt, is) = absurd (omega (arith, lt))
  leaps_stand here (Plain op ∷ items) h a c = leaps_stand (here + item_length switch (Plain op)) items (other_items s code reading switch runs here (Plain op) items h) a c
  leaps_stand here (Jump number mark ∷ items) h a c = leaps_stand (here + item_length switch (Jump number mark)) items (other_items s code reading switch runs here (Jump number mark) items h) a c
  leaps_stand here (Mark mark ∷ items) h a c = leaps_stand here items (behind_mark_at s code reading switch runs here mark items h) a c
  leaps_stand here (Edge target ∷ items) h a c = leaps_stand (here + item_length switch (Edge target)) items (other_items s code reading switch runs here (Edge target) items h) a c
  leaps_stand here (Leap ∷ items) h a c = by_leap here (leaps_of switch (here + item_length switch Leap) items) a (leap_stands here (first_item s code reading switch runs here Leap items h)) (leaps_stand (here + item_length switch Leap) items (other_items s code reading switch runs here Leap items h) a) c

pub items_stand : ItemsStand
items_stand s map switch code reading here items runs placed switches laid marked h = (
  stand_from s code reading switch runs placed.area (labels_of switch here items) (edges_of switch here items) (leaps_of switch here items) here items laid marked (λ m f. refl) (λ e c. c) (λ a c. c) h,
  edges_jump s map code reading switch runs placed.area placed.targets switches here items h,
  leaps_stand s code reading switch runs placed.first placed.count placed.table placed.hold here items h,
)
