-- The lines of words, four addresses at a time.
use Rattle.std.proofs.Common.{◌≡◌, ◌≢◌, ℕ, zero, suc, ◌+◌, ◌-◌, ◌%◌, ◌<◌, ◌≤◌, true, false, List, [], ◌++◌, length, drop, Option, Some, None, refl, ap, ◌∙◌, arith}
use Rattle.std.specs.Int.{w32, to_be_bytes}
use Rattle.byteorder.specs.Endian.{big_number}
use Rattle.space.specs.declared.program.Segment.{Segment}
use Rattle.space.specs.Memory.{has_word, word_in}
use Rattle.ppc_isa.specs.declared.instr.Instr.{Instr}
use Rattle.listing.specs.Lines.{line}
use Rattle.listing.specs.Words.{word_name, word_lines}

no_word : (address : ℕ) (code : Segment) → has_word address code ≡ false → word_in address code ≡ None
no_word address code none = rw none refl

a_word : (address : ℕ) (code : Segment) → has_word address code ≡ true → word_in address code ≡ Some (big_number 4 (drop (address - code.at) code.bytes))
a_word address code is = rw is refl

unaligned_none : (address : ℕ) (code : Segment) → address % 4 ≢ 0 → has_word address code ≡ false
unaligned_none address code odd = grind arith

high_none : (address : ℕ) (code : Segment) → code.at + length code.bytes < address + 4 → has_word address code ≡ false
high_none address code high = grind arith

low_some : (address : ℕ) (code : Segment) → address % 4 ≡ 0 → code.at ≤ address → address + 4 ≤ code.at + length code.bytes → has_word address code ≡ true
low_some address code even low high = grind arith

module _ (read : ℕ → Option Instr) (code : Segment) where
  -- nothing is written where no word begins
  passed : (address count : ℕ) → has_word address code ≡ false → word_lines read code address count ≡ word_lines read code (address + 1) (count - 1)
  unfolding word_lines
  passed address zero none = refl
  passed address (suc count) none = let e : suc count - 1 ≡ count = omega arith in rw (no_word address code none, e) refl

  pub no_lines : (address count : ℕ) → code.at + length code.bytes < address + 4 → word_lines read code address count ≡ []
  unfolding word_lines
  no_lines address zero high = refl
  no_lines address (suc count) high = rw (no_word address code (high_none address code high)) (no_lines (address + 1) count (omega arith))

  -- the words begin at the first multiple of 4
  pub from_first : (address count skipped first left : ℕ) → skipped < 4 → first ≡ address + skipped → left ≡ count - skipped → first % 4 ≡ 0
      → word_lines read code address count ≡ word_lines read code first left
  from_first address count zero first left few place rest even =
      let here : address ≡ first = omega arith in
      let all : count ≡ left = omega arith in
      cc
  from_first address count (suc skipped) first left few place rest even =
      let odd : address % 4 ≢ 0 = λ e. omega (arith, e, even, few, place) in
      passed address count (unaligned_none address code odd)
      ∙ from_first (address + 1) (count - 1) skipped first left (omega arith) (omega arith) (omega arith) even

  -- a word, and then those behind it
  pub next_word : (address count : ℕ) → address % 4 ≡ 0 → code.at ≤ address → address + 4 ≤ code.at + length code.bytes → 4 ≤ count
      → word_lines read code address count
      ≡ line address (to_be_bytes w32 (big_number 4 (drop (address - code.at) code.bytes))) (word_name (read (big_number 4 (drop (address - code.at) code.bytes))))
      ++ word_lines read code (address + 4) (count - 4)
  unfolding word_lines
  next_word address zero even low high some = absurd (omega arith)
  next_word address (suc count) even low high some =
      let there : word_in address code ≡ Some (big_number 4 (drop (address - code.at) code.bytes)) = a_word address code (low_some address code even low high) in
      let behind : word_lines read code (address + 1) count ≡ word_lines read code (address + 4) (suc count - 4) =
      from_first (address + 1) count 3 (address + 4) (suc count - 4) (omega arith) (omega arith) (omega arith) (omega (arith, even)) in
      rw there (ap (λ v. line address (to_be_bytes w32 (big_number 4 (drop (address - code.at) code.bytes))) (word_name (read (big_number 4 (drop (address - code.at) code.bytes)))) ++ v) behind)

  -- a word behind the first bytes of the code
  pub next_word_at : (place word : ℕ) (bytes rest : List ℕ) → bytes ≡ code.bytes → rest ≡ drop place bytes → word ≡ big_number 4 rest → (code.at + place) % 4 ≡ 0 → place + 4 ≤ length bytes
      → word_lines read code (code.at + place) (length bytes - place)
      ≡ line (code.at + place) (to_be_bytes w32 word) (word_name (read word))
      ++ word_lines read code (code.at + (place + 4)) (length bytes - (place + 4))
  next_word_at place word bytes rest all is word-is even within =
      let offset : code.at + place - code.at ≡ place = omega arith in
      let address : code.at + place + 4 ≡ code.at + (place + 4) = omega arith in
      let left : length bytes - place - 4 ≡ length bytes - (place + 4) = omega arith in
      let fits : place + 4 ≤ length code.bytes = rw (← all) within in
      let e = next_word (code.at + place) (length bytes - place) even (omega arith) (omega (arith, fits)) (omega (arith, within)) in
      let there : word ≡ big_number 4 (drop (code.at + place - code.at) code.bytes) = rw (offset, ← all, ← is) word-is in
      rw (there, ← address, ← left) e
