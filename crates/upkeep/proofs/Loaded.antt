-- The segments of an accepted file are made of bytes.
use Rattle.std.proofs.Common.{ℕ, zero, suc, ◌-◌, ◌<◌, Bool, true, false, List, [], ◌∷◌, take, drop, sym, subst, arith}
use Rattle.std.specs.Prelude.{if◌then◌else◌}
use Rattle.std.proofs.lemmas.List.Elements.{All-nil, All-cons, All-append, All-take, All-drop, All-replicate}
use Rattle.machines.specs.Prelude.{Kind, PowerPc, Ia32}
use Rattle.elf_load.specs.Prelude.{header, header_count, is_segment, zeros, segment_of, segments_before, stack, stack_for, segments_of}
use Rattle.elf_load.specs.declared.headers.ProgramHeader.{ProgramHeader}
use Rattle.upkeep.specs.Loaded.{AreBytes, HaveBytes, LoadedHaveBytes}

zeros_are_bytes : (n : ℕ) → AreBytes (zeros n)
unfolding zeros
zeros_are_bytes n = All-replicate (λ b. b < 256) n 0 (omega arith)

stack_bytes : (kind : Kind) → HaveBytes (stack_for kind)
stack_bytes PowerPc = All-cons (λ s. AreBytes s.bytes) stack [] (zeros_are_bytes 0x100000) (All-nil (λ s. AreBytes s.bytes))
stack_bytes Ia32 = All-nil (λ s. AreBytes s.bytes)

module _ (kind : Kind) (bytes : List ℕ) (are : AreBytes bytes) where
  bytes_of : (h : ProgramHeader) → AreBytes (segment_of bytes h).bytes
  bytes_of h =
      All-append (λ b. b < 256) (take h.filesz (drop h.offset bytes)) (zeros (h.memsz - h.filesz))
      (All-take (λ b. b < 256) h.filesz (drop h.offset bytes) (All-drop (λ b. b < 256) h.offset bytes are))
      (zeros_are_bytes (h.memsz - h.filesz))

  bytes_before : (n : ℕ) → HaveBytes (segments_before kind bytes n)
  unfolding segments_before
  bytes_before zero = All-nil (λ s. AreBytes s.bytes)
  bytes_before (suc n) = All-append (λ s. AreBytes s.bytes) (segments_before kind bytes n) _ (bytes_before n) (by_test (is_segment (header kind bytes n)))
    where
      by_test : (b : Bool) → HaveBytes (if b then segment_of bytes (header kind bytes n) ∷ [] else [])
      by_test true = All-cons (λ s. AreBytes s.bytes) (segment_of bytes (header kind bytes n)) [] (bytes_of (header kind bytes n)) (All-nil (λ s. AreBytes s.bytes))
      by_test false = All-nil (λ s. AreBytes s.bytes)

  have_bytes : HaveBytes (segments_of kind bytes)
  have_bytes = All-append (λ s. AreBytes s.bytes) (segments_before kind bytes (header_count kind bytes)) (stack_for kind) (bytes_before (header_count kind bytes)) (stack_bytes kind)

pub loaded_bytes : LoadedHaveBytes
loaded_bytes kind bytes p are is = subst HaveBytes (sym is.laid_out.memory) (have_bytes kind bytes are)
