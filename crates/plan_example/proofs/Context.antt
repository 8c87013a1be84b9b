-- The context of the program and its translation.
use Rattle.std.proofs.Common.{◌≡◌, ℕ, ◌+◌, ◌^◌, ◌-◌, ◌<◌, Bool, true, false, cond, eqb, List, [], ◌++◌, length, Option, Some, refl, sym, ap, ◌∙◌, subst, arith}
use Rattle.std.proofs.lemmas.List.{append-nil, length-append}
use Rattle.machines.specs.Prelude.{Outside, Instr, IsWordOf, spelling, Jmp, Ends, rights_of, code_of, Fetched, ReadsWords, ReadsOps, is_code_word, word_of_code, guest_executes}
use Rattle.code_layout.specs.Prelude.{items_length}
use Rattle.simulation.specs.Prelude.{SimulationContext, IsWordAt, IsOffCode, JumpsTo}
use Rattle.laid_code.specs.Prelude.{HasBytes, RunsCode, context_of, ArePlaced, plan_items}
use Rattle.laid_code.proofs.Decoding.{first_bytes_at, next_bytes_at, jump_leads}
use Rattle.laid_code.proofs.Lengths.{bytes_length}
use Rattle.plan_example.specs.Example.{program, translation, first, interface, from_none, from_esi, from_ebx, area, hold, entries, target, places, block, first_block, last_block, second_block, third_block, adapter, first_plan, last_plan, second_plan, third_plan, code}

-- how many bytes the blocks have
first_length : length (block from_esi 0x10000 first_block first_plan) ≡ 47
unfolding items_length
first_length = bytes_length (places from_esi) first_block (plan_items 0x10000 first_plan)

last_length : length (block from_ebx 0x1000C last_block last_plan) ≡ 11
unfolding items_length
last_length = bytes_length (places from_ebx) last_block (plan_items 0x1000C last_plan)

second_length : length (block from_none 0x10004 second_block second_plan) ≡ 23
unfolding items_length
second_length = bytes_length (places from_none) second_block (plan_items 0x10004 second_plan)

third_length : length (block from_none 0x10008 third_block third_plan) ≡ 29
unfolding items_length
third_length = bytes_length (places from_none) third_block (plan_items 0x10008 third_plan)

adapter_length : length (block from_none 0x1000C adapter []) ≡ 11
unfolding items_length
adapter_length = bytes_length (places from_none) adapter (plan_items 0x1000C [])

-- the code from each of them on
abbrev code_0 : List ℕ
code_0 = spelling (Jmp (2 ^ 32 - 5))

abbrev code_5 : List ℕ
code_5 = block from_none 0x1000C adapter []

abbrev code_4 : List ℕ
code_4 = block from_none 0x10008 third_block third_plan ++ code_5

abbrev code_3 : List ℕ
code_3 = block from_none 0x10004 second_block second_plan ++ code_4

abbrev code_2 : List ℕ
code_2 = block from_ebx 0x1000C last_block last_plan ++ code_3

abbrev code_1 : List ℕ
code_1 = block from_esi 0x10000 first_block first_plan ++ code_2

pub code_length : length code ≡ 126
code_length =
    let a = length-append code_0 code_1 in
    let b = length-append (block from_esi 0x10000 first_block first_plan) code_2 in
    let c = length-append (block from_ebx 0x1000C last_block last_plan) code_3 in
    let d = length-append (block from_none 0x10004 second_block second_plan) code_4 in
    let e = length-append (block from_none 0x10008 third_block third_plan) code_5 in
    omega (arith, a, b, c, d, e, first_length, last_length, second_length, third_length, adapter_length)

module _ (reading : ℕ → Option Instr) (ops : List ℕ → Option Fetched) where
  abbrev pub s : SimulationContext
  s = context_of interface target reading ops program translation first area entries

  -- a word at an address of the code
  pub word_at : ReadsWords reading → (w n : ℕ) (i : Instr) → is_code_word (code_of program) w ≡ true → word_of_code (code_of program) w ≡ n → IsWordOf n i → IsWordAt s w (Some i)
  word_at reads w n i on is word g at =
      ap (λ (a : ℕ). cond (is_code_word (code_of program) a) (guest_executes (rights_of program) (reading (word_of_code (code_of program) a)) g) (Ends Outside)) at
      ∙ ap (λ (b : Bool). cond b (guest_executes (rights_of program) (reading (word_of_code (code_of program) w)) g) (Ends Outside)) on
      ∙ ap (λ (o : Option Instr). guest_executes (rights_of program) o g) (ap reading is ∙ reads.only n i word)

  pub off_code : (w : ℕ) → is_code_word (code_of program) w ≡ false → IsOffCode s w
  off_code w off g at =
      ap (λ (a : ℕ). cond (is_code_word (code_of program) a) (guest_executes (rights_of program) (reading (word_of_code (code_of program) a)) g) (Ends Outside)) at
      ∙ ap (λ (b : Bool). cond b (guest_executes (rights_of program) (reading (word_of_code (code_of program) w)) g) (Ends Outside)) off

  pub low_target : (w : ℕ) → target w < 2 ^ 32
  low_target w = by_tests (eqb w 0x10000) (eqb w 0x10004) (eqb w 0x10008) (eqb w 0x1000C)
    where
      by_tests : (a b c d : Bool) → cond a first_block (cond b second_block (cond c third_block (cond d last_block hold))) < 2 ^ 32
      by_tests true b c d = omega arith
      by_tests false true c d = omega arith
      by_tests false false true d = omega arith
      by_tests false false false true = omega arith
      by_tests false false false false = omega arith

  pub are_placed : ArePlaced s
  are_placed = record { area = omega arith; hold = omega arith; table = omega arith; first = omega arith; count = omega arith; targets = low_target }

  module _ (reads_ops : ReadsOps ops) where
    pub runs : RunsCode s (code_of translation) ops
    runs = record { reads = reads_ops; low = omega (arith, code_length); steps = λ h. refl }

    whole : HasBytes (code_of translation) hold code
    whole = record { before = []; behind = []; cut = sym (append-nil code); begins = omega arith }

    behind_hold : HasBytes (code_of translation) first_block code_1
    behind_hold = next_bytes_at (code_of translation) hold code_0 code_1 whole

    pub first_stands : HasBytes (code_of translation) first_block (block from_esi 0x10000 first_block first_plan)
    first_stands = first_bytes_at (code_of translation) first_block (block from_esi 0x10000 first_block first_plan) code_2 behind_hold

    behind_first : HasBytes (code_of translation) last_block code_2
    behind_first = subst (λ n. HasBytes (code_of translation) (first_block + n) code_2) first_length (next_bytes_at (code_of translation) first_block (block from_esi 0x10000 first_block first_plan) code_2 behind_hold)

    pub last_stands : HasBytes (code_of translation) last_block (block from_ebx 0x1000C last_block last_plan)
    last_stands = first_bytes_at (code_of translation) last_block (block from_ebx 0x1000C last_block last_plan) code_3 behind_first

    behind_last : HasBytes (code_of translation) second_block code_3
    behind_last = subst (λ n. HasBytes (code_of translation) (last_block + n) code_3) last_length (next_bytes_at (code_of translation) last_block (block from_ebx 0x1000C last_block last_plan) code_3 behind_first)

    pub second_stands : HasBytes (code_of translation) second_block (block from_none 0x10004 second_block second_plan)
    second_stands = first_bytes_at (code_of translation) second_block (block from_none 0x10004 second_block second_plan) code_4 behind_last

    behind_second : HasBytes (code_of translation) third_block code_4
    behind_second = subst (λ n. HasBytes (code_of translation) (second_block + n) code_4) second_length (next_bytes_at (code_of translation) second_block (block from_none 0x10004 second_block second_plan) code_4 behind_last)

    pub third_stands : HasBytes (code_of translation) third_block (block from_none 0x10008 third_block third_plan)
    third_stands = first_bytes_at (code_of translation) third_block (block from_none 0x10008 third_block third_plan) code_5 behind_second

    pub adapter_stands : HasBytes (code_of translation) adapter code_5
    adapter_stands = subst (λ n. HasBytes (code_of translation) (third_block + n) code_5) third_length (next_bytes_at (code_of translation) third_block (block from_none 0x10008 third_block third_plan) code_5 behind_second)

    pub hold_holds : JumpsTo s hold hold
    hold_holds = jump_leads s (code_of translation) ops hold hold runs (omega arith) (first_bytes_at (code_of translation) hold code_0 code_1 whole)
