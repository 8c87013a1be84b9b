-- The programs that read and write on the stack.
use Rattle.std.proofs.Common.{◌≡◌, ℕ, ◌+◌, ◌%◌, ◌^◌, ◌≤◌, true, false, ltb, leb, List, [], ◌∷◌, length, replicate, Option, refl, ap, arith}
use Rattle.std.proofs.lemmas.Bool.{le-ltb}
use Rattle.machines.specs.Prelude.{Exit, Outside, Dry, Read, Write, AnswerValue, Got, Took, Error, ended, listed, Given, Gives, Fails, given, Ends, Instr, Rights, block, put_block, each_byte, is_within, is_held, is_writable, first_bytes, rights_of, code_of, ReadsWords, Guest, guest_machine, guest_start, writes, after_guest_call, guest_asks, guest_system_call, is_code_word, behind}
use Rattle.machines.specs.Examples.{IsStack, bytes_of, program_of, EndsAt, write_64, write_65, wrote_64, WritesStack, write_and_exit, WriteGives, WriteAnswers, echo, Echoes, ReadAnswers}
use Rattle.machines.proofs.Steps.{addi_then, addi_more, sc_exits, sc_asks, sc_dries, sc_last, off_ends}
use Rattle.machines.proofs.Traces.{Trace, traced}
use Rattle.machines.proofs.Small.{EndsSilently, ends_at}
use Rattle.machines.proofs.Stack.{last_false, block_zeros, stack_all_held, stack_all_writable, stack_zeros, behind_stack, and_false}

write_asks : (rights : Rights) (g : Guest) (fd count buffer : ℕ) (bs : List ℕ) → g.locs 0 ≡ 4 → g.locs 3 ≡ fd → g.locs 4 ≡ buffer → g.locs 5 ≡ count → each_byte rights.held count buffer ≡ true → block count buffer g.bytes ≡ bs → guest_system_call rights g ≡ guest_asks (Write fd bs) g
write_asks rights g fd count buffer bs e0 e3 e4 e5 held blk = rw (e0, e3, e4, e5, held, blk) refl

write_outside : (rights : Rights) (g : Guest) (count buffer : ℕ) → g.locs 0 ≡ 4 → g.locs 4 ≡ buffer → g.locs 5 ≡ count → each_byte rights.held count buffer ≡ false → guest_system_call rights g ≡ Ends Outside
write_outside rights g count buffer e0 e4 e5 held = rw (e0, e4, e5, held) refl

read_asks : (rights : Rights) (g : Guest) (fd count buffer : ℕ) → g.locs 0 ≡ 3 → g.locs 3 ≡ fd → g.locs 4 ≡ buffer → g.locs 5 ≡ count → each_byte rights.writable count buffer ≡ true → guest_system_call rights g ≡ guest_asks (Read fd count) g
read_asks rights g fd count buffer e0 e3 e4 e5 held = rw (e0, e3, e4, e5, held) refl

-- an address behind so many bytes of code
behind_code : (n a : ℕ) → 0x10000000 + n ≤ a → is_within 0x10000000 n a ≡ false
behind_code n a h = and_false (leb 0x10000000 a) (ltb a (0x10000000 + n)) (le-ltb a (0x10000000 + n) h)

module _ (program stack : List ℕ) (is : IsStack stack) where
  held : (n : ℕ) → n ≤ 64 → each_byte (is_held (program_of program stack).segments) n 0x7F0FFFC0 ≡ true
  held n h = stack_all_held program stack is n 0x7F0FFFC0 (omega arith) (omega arith)

  writable : (n : ℕ) → n ≤ 64 → each_byte (is_writable (program_of program stack).segments) n 0x7F0FFFC0 ≡ true
  writable n h = stack_all_writable program stack is n 0x7F0FFFC0 (omega arith) (omega arith)

  zeros : (n : ℕ) → n ≤ 64 → length (bytes_of program) ≤ 4096 → block n 0x7F0FFFC0 (first_bytes (program_of program stack).segments) ≡ replicate n 0
  zeros n h short = block_zeros n 0x7F0FFFC0 (first_bytes (program_of program stack).segments) (λ i lt. stack_zeros program stack is ((0x7F0FFFC0 + i) % 2 ^ 32) (behind_code (length (bytes_of program)) ((0x7F0FFFC0 + i) % 2 ^ 32) (omega arith)))

-- the state in which a program of this beginning makes its write
abbrev at_write : List ℕ → List ℕ → Guest
at_write program stack = writes 5 64 (writes 4 0x7F0FFFC0 (writes 3 1 (writes 0 4 (guest_start (program_of program stack)))))

next_behind : (x : Given) (g : Guest) → (after_guest_call x g).next ≡ behind g.next
next_behind (Gives result buffer) g = refl
next_behind (Fails error) g = refl

-- what stands in r3 behind a call
abbrev given_r3 : Given → ℕ
given_r3 (Gives result buffer) = result
given_r3 (Fails error) = error

module _ (words : ℕ → Option Instr) (stack : List ℕ) (reads : ReadsWords words) (is : IsStack stack) where
  asks_64 : guest_system_call (rights_of (program_of write_64 stack)) (at_write write_64 stack) ≡ guest_asks (Write 1 (replicate 64 0)) (at_write write_64 stack)
  asks_64 = write_asks (rights_of (program_of write_64 stack)) (at_write write_64 stack) 1 64 0x7F0FFFC0 (replicate 64 0) refl refl refl refl (held write_64 stack is 64 (omega arith)) (zeros write_64 stack is 64 (omega arith) (omega arith))

  dry_trace : Trace (guest_machine words (program_of write_64 stack)) 5 [] (guest_start (program_of write_64 stack)) (wrote_64 (ended Dry))
  dry_trace =
      let p = program_of write_64 stack in
      addi_then reads p 0 0 4 refl refl refl (
      addi_then reads p 3 0 1 refl refl refl (
      addi_then reads p 4 1 0 refl refl refl (
      addi_then reads p 5 0 64 refl refl refl (
      sc_dries reads p (Write 1 (replicate 64 0)) refl refl asks_64))))

  off_trace : (a : AnswerValue) (rest : List AnswerValue) → Trace (guest_machine words (program_of write_64 stack)) 6 (a ∷ rest) (guest_start (program_of write_64 stack)) (wrote_64 (ended Outside))
  off_trace a rest =
      let p = program_of write_64 stack in
      addi_then reads p 0 0 4 refl refl refl (
      addi_then reads p 3 0 1 refl refl refl (
      addi_then reads p 4 1 0 refl refl refl (
      addi_then reads p 5 0 64 refl refl refl (
      sc_asks reads p (Write 1 (replicate 64 0)) a refl refl asks_64 (
      off_ends reads p (ap (is_code_word (code_of p)) (next_behind (given (Write 1 (replicate 64 0)) a) (at_write write_64 stack))))))))

  exit_trace : (x : Given) (rest : List AnswerValue) → Trace (guest_machine words (program_of write_and_exit stack)) 2 rest (after_guest_call x (at_write write_and_exit stack)) (ended (Exit (given_r3 x)))
  exit_trace (Gives result buffer) rest =
      let p = program_of write_and_exit stack in
      addi_then reads p 0 0 1 refl refl refl (sc_exits reads p (Exit result) refl refl refl)
  exit_trace (Fails error) rest =
      let p = program_of write_and_exit stack in
      addi_then reads p 0 0 1 refl refl refl (sc_exits reads p (Exit error) refl refl refl)

  asks_and_exits : guest_system_call (rights_of (program_of write_and_exit stack)) (at_write write_and_exit stack) ≡ guest_asks (Write 1 (replicate 64 0)) (at_write write_and_exit stack)
  asks_and_exits = write_asks (rights_of (program_of write_and_exit stack)) (at_write write_and_exit stack) 1 64 0x7F0FFFC0 (replicate 64 0) refl refl refl refl (held write_and_exit stack is 64 (omega arith)) (zeros write_and_exit stack is 64 (omega arith) (omega arith))

  gives_trace : (a : AnswerValue) (rest : List AnswerValue) → Trace (guest_machine words (program_of write_and_exit stack)) 7 (a ∷ rest) (guest_start (program_of write_and_exit stack)) (wrote_64 (ended (Exit (given_r3 (given (Write 1 (replicate 64 0)) a)))))
  gives_trace a rest =
      let p = program_of write_and_exit stack in
      addi_then reads p 0 0 4 refl refl refl (
      addi_then reads p 3 0 1 refl refl refl (
      addi_then reads p 4 1 0 refl refl refl (
      addi_then reads p 5 0 64 refl refl refl (
      sc_asks reads p (Write 1 (replicate 64 0)) a refl refl asks_and_exits (exit_trace (given (Write 1 (replicate 64 0)) a) rest)))))

write_65_outside : EndsSilently write_65 5 Outside
write_65_outside words reads stack is =
    let p = program_of write_65 stack in
    let g : Guest = writes 5 65 (writes 4 0x7F0FFFC0 (writes 3 1 (writes 0 4 (guest_start p)))) in
    addi_more reads p 0 0 4 refl refl refl (
    addi_more reads p 3 0 1 refl refl refl (
    addi_more reads p 4 1 0 refl refl refl (
    addi_more reads p 5 0 65 refl refl refl (
    sc_last reads p Outside refl refl (write_outside (rights_of p) g 65 0x7F0FFFC0 refl refl refl (last_false (is_held p.segments) 64 0x7F0FFFC0 (behind_stack stack write_65 is refl)))))))

pub writes_stack : WritesStack
writes_stack = record {
  dry = λ n h words stack reads is. traced (guest_machine words (program_of write_64 stack)) n 5 [] (guest_start (program_of write_64 stack)) (wrote_64 (ended Dry)) (dry_trace words stack reads is) h;
  off = λ a rest n h words stack reads is. traced (guest_machine words (program_of write_64 stack)) n 6 (a ∷ rest) (guest_start (program_of write_64 stack)) (wrote_64 (ended Outside)) (off_trace words stack reads is a rest) h;
}

write_gives : (a : AnswerValue) (number : ℕ) → ((words : ℕ → Option Instr) (stack : List ℕ) (rest : List AnswerValue) → ReadsWords words → IsStack stack → Trace (guest_machine words (program_of write_and_exit stack)) 7 (a ∷ rest) (guest_start (program_of write_and_exit stack)) (wrote_64 (ended (Exit number)))) → WriteGives a number
write_gives a number trace = λ rest n h words stack reads is. traced (guest_machine words (program_of write_and_exit stack)) n 7 (a ∷ rest) (guest_start (program_of write_and_exit stack)) (wrote_64 (ended (Exit number))) (trace words stack rest reads is) h

pub write_answers : WriteAnswers
write_answers = record {
  all = write_gives (Took 64) 64 (λ words stack rest reads is. gives_trace words stack reads is (Took 64) rest);
  some = write_gives (Took 10) 10 (λ words stack rest reads is. gives_trace words stack reads is (Took 10) rest);
  none = write_gives (Took 0) 0 (λ words stack rest reads is. gives_trace words stack reads is (Took 0) rest);
  more = write_gives (Took 100) 64 (λ words stack rest reads is. gives_trace words stack reads is (Took 100) rest);
  bytes = write_gives (Got (1 ∷ 2 ∷ [])) 0 (λ words stack rest reads is. gives_trace words stack reads is (Got (1 ∷ 2 ∷ [])) rest);
  error = write_gives (Error 9) 9 (λ words stack rest reads is. gives_trace words stack reads is (Error 9) rest);
  no_error = write_gives (Error 0) 5 (λ words stack rest reads is. gives_trace words stack reads is (Error 0) rest);
  wide_error = write_gives (Error 4096) 5 (λ words stack rest reads is. gives_trace words stack reads is (Error 4096) rest);
}

pub write_65_ends : EndsAt write_65 5 Outside
write_65_ends = ends_at write_65 5 Outside write_65_outside

-- the state in which echo makes its read
abbrev at_read : List ℕ → Guest
at_read stack = writes 5 4 (writes 4 0x7F0FFFC0 (writes 3 0 (writes 0 3 (guest_start (program_of echo stack)))))

module _ (words : ℕ → Option Instr) (stack : List ℕ) (reads : ReadsWords words) (is : IsStack stack) where
  asks_4 : guest_system_call (rights_of (program_of echo stack)) (at_read stack) ≡ guest_asks (Read 0 4) (at_read stack)
  asks_4 = read_asks (rights_of (program_of echo stack)) (at_read stack) 0 4 0x7F0FFFC0 refl refl refl refl (writable echo stack is 4 (omega arith))

  dry_read : Trace (guest_machine words (program_of echo stack)) 5 [] (guest_start (program_of echo stack)) (listed (Read 0 4) (ended Dry))
  dry_read =
      let p = program_of echo stack in
      addi_then reads p 0 0 3 refl refl refl (
      addi_then reads p 3 0 0 refl refl refl (
      addi_then reads p 4 1 0 refl refl refl (
      addi_then reads p 5 0 4 refl refl refl (
      sc_dries reads p (Read 0 4) refl refl asks_4))))

  echo_rest : (x : Given) (count : ℕ) (bs : List ℕ) → count ≤ 64 → given_r3 x ≡ count → block count 0x7F0FFFC0 (after_guest_call x (at_read stack)).bytes ≡ bs → Trace (guest_machine words (program_of echo stack)) 4 [] (after_guest_call x (at_read stack)) (listed (Write 1 bs) (ended Dry))
  echo_rest (Gives result buffer) count bs few e blk =
      let p = program_of echo stack in
      let g : Guest = writes 3 1 (writes 0 4 (writes 5 ((result + 0) % 2 ^ 32) (after_guest_call (Gives result buffer) (at_read stack)))) in
      addi_then reads p 5 3 0 refl refl refl (
      addi_then reads p 0 0 4 refl refl refl (
      addi_then reads p 3 0 1 refl refl refl (
      sc_dries reads p (Write 1 bs) refl refl (write_asks (rights_of p) g 1 count 0x7F0FFFC0 bs refl refl refl (omega (arith, e)) (held echo stack is count few) blk))))
  echo_rest (Fails error) count bs few e blk =
      let p = program_of echo stack in
      let g : Guest = writes 3 1 (writes 0 4 (writes 5 ((error + 0) % 2 ^ 32) (after_guest_call (Fails error) (at_read stack)))) in
      addi_then reads p 5 3 0 refl refl refl (
      addi_then reads p 0 0 4 refl refl refl (
      addi_then reads p 3 0 1 refl refl refl (
      sc_dries reads p (Write 1 bs) refl refl (write_asks (rights_of p) g 1 count 0x7F0FFFC0 bs refl refl refl (omega (arith, e)) (held echo stack is count few) blk))))

  echo_trace : (a : AnswerValue) (count : ℕ) (bs : List ℕ) → count ≤ 64 → given_r3 (given (Read 0 4) a) ≡ count → block count 0x7F0FFFC0 (after_guest_call (given (Read 0 4) a) (at_read stack)).bytes ≡ bs → Trace (guest_machine words (program_of echo stack)) 9 (a ∷ []) (guest_start (program_of echo stack)) (listed (Read 0 4) (listed (Write 1 bs) (ended Dry)))
  echo_trace a count bs few e blk =
      let p = program_of echo stack in
      addi_then reads p 0 0 3 refl refl refl (
      addi_then reads p 3 0 0 refl refl refl (
      addi_then reads p 4 1 0 refl refl refl (
      addi_then reads p 5 0 4 refl refl refl (
      sc_asks reads p (Read 0 4) a refl refl asks_4 (echo_rest (given (Read 0 4) a) count bs few e blk)))))

two_put : (bytes : ℕ → ℕ) → block 2 0x7F0FFFC0 (put_block 0x7F0FFFC0 (104 ∷ 105 ∷ []) bytes) ≡ 104 ∷ 105 ∷ []
unfolding block put_block
two_put bytes = refl

four_put : (bytes : ℕ → ℕ) → block 4 0x7F0FFFC0 (put_block 0x7F0FFFC0 (1 ∷ 2 ∷ 3 ∷ 4 ∷ []) bytes) ≡ 1 ∷ 2 ∷ 3 ∷ 4 ∷ []
unfolding block put_block
four_put bytes = refl

none_put : (bytes : ℕ → ℕ) → block 0 0x7F0FFFC0 (put_block 0x7F0FFFC0 [] bytes) ≡ []
unfolding block put_block
none_put bytes = refl

echoes : (a : AnswerValue) (count : ℕ) (bs : List ℕ) → count ≤ 64 → given_r3 (given (Read 0 4) a) ≡ count → ((stack : List ℕ) → IsStack stack → block count 0x7F0FFFC0 (after_guest_call (given (Read 0 4) a) (at_read stack)).bytes ≡ bs) → Echoes a bs
echoes a count bs few e blk = λ n h words stack reads is. traced (guest_machine words (program_of echo stack)) n 9 (a ∷ []) (guest_start (program_of echo stack)) (listed (Read 0 4) (listed (Write 1 bs) (ended Dry))) (echo_trace words stack reads is a count bs few e (blk stack is)) h

pub read_answers : ReadAnswers
read_answers = record {
  dry = λ n h words stack reads is. traced (guest_machine words (program_of echo stack)) n 5 [] (guest_start (program_of echo stack)) (listed (Read 0 4) (ended Dry)) (dry_read words stack reads is) h;
  some = echoes (Got (104 ∷ 105 ∷ [])) 2 (104 ∷ 105 ∷ []) (omega arith) refl (λ stack is. two_put (first_bytes (program_of echo stack).segments));
  empty = echoes (Got []) 0 [] (omega arith) refl (λ stack is. none_put (first_bytes (program_of echo stack).segments));
  more = echoes (Got (1 ∷ 2 ∷ 3 ∷ 4 ∷ 5 ∷ 6 ∷ [])) 4 (1 ∷ 2 ∷ 3 ∷ 4 ∷ []) (omega arith) refl (λ stack is. four_put (first_bytes (program_of echo stack).segments));
  number = echoes (Took 3) 0 [] (omega arith) refl (λ stack is. none_put (first_bytes (program_of echo stack).segments));
  error = echoes (Error 5) 5 (0 ∷ 0 ∷ 0 ∷ 0 ∷ 0 ∷ []) (omega arith) refl (λ stack is. zeros echo stack is 5 (omega arith) (omega arith));
}
