-- Where the bytes of a segment stand, and how many of the stack do.
use Rattle.std.proofs.Common.{◌≡◌, ℕ, ◌+◌, ◌-◌, ◌%◌, ◌<◌, Bool, true, false, List, length, get_or, arith}
use Rattle.std.specs.Prelude.{if◌then◌else◌, ◌==◌}
use Rattle.std.specs.List.{suffix_len}
use Rattle.std.proofs.lemmas.Bool.{ne_eqb, eq-eqb}
use Rattle.std.proofs.lemmas.List.{length-replicate, get_or-replicate}
use Rattle.std.proofs.lemmas.List.Sums.{suffix_len_is}
use Rattle.elf_load.specs.Prelude.{zeros, stack}
use Rattle.elf_emit.specs.Prelude.{FileSegment, IsLeastOffset, offset_of, kept}

least_by : (b : Bool) (s : FileSegment) (end : ℕ) → b ≡ false → IsLeastOffset s end (if b then 0 else end + (s.at + (4096 - end % 4096)) % 4096)
least_by true s end e = cc
least_by false s end e = record {
  behind = omega arith;
  congruent = omega arith;
  least = λ other from same. omega arith;
}

pub least_offset : (s : FileSegment) (end : ℕ) → 0 < length s.bytes → IsLeastOffset s end (offset_of s end)
least_offset s end some = least_by (length s.bytes == 0) s end (ne_eqb (length s.bytes) 0 (λ none. omega arith))

all_passed : (bytes : List ℕ) → ((k : ℕ) → k < length bytes → get_or bytes k 0 ≡ 0) → length bytes - suffix_len (λ b. b == 0) bytes ≡ 0
all_passed bytes zero_at =
    let all : suffix_len {X = ℕ} (λ b. b == 0) bytes ≡ length bytes - 0 =
    suffix_len_is (λ (b : ℕ). b == 0) bytes 0 0 (omega arith) (λ k from lt. eq-eqb (get_or bytes k 0) 0 (zero_at k lt)) (λ none. absurd (omega arith)) in
    omega arith

zeros_pass : (n k : ℕ) → k < length (zeros n) → get_or (zeros n) k 0 ≡ 0
unfolding zeros
zeros_pass n k lt = get_or-replicate n k 0 0 (omega (arith, length-replicate {A = ℕ} n 0))

pub no_stack : kept stack ≡ 0
no_stack = all_passed (zeros 0x100000) (zeros_pass 0x100000)
