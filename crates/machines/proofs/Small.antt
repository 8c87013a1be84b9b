-- The programs that make no call.
use Rattle.std.proofs.Common.{ℕ, List, Option, refl}
use Rattle.machines.specs.Prelude.{End, Exit, Illegal, ended, Fails, Instr, ReadsWords, guest_machine, guest_start, writes, after_guest_call}
use Rattle.machines.specs.Examples.{IsStack, program_of, EndsAt, exit_seven, unknown_call, jump, jump_back, add_negative, no_instruction}
use Rattle.machines.proofs.Steps.{addi_more, add_more, branch_more, sc_more, sc_last, illegal_last}
use Rattle.ppc_isa.specs.Reading.{read}
use Rattle.machines.proofs.Traces.{Silent, trace_of, traced, not_over}

-- a program that ends at its k-th step with no call
abbrev pub EndsSilently : List ℕ → ℕ → End → Type 0
EndsSilently program k e = (words : ℕ → Option Instr) → ReadsWords words → (stack : List ℕ) → IsStack stack → Silent (guest_machine words (program_of program stack)) k (guest_start (program_of program stack)) e

pub ends_at : (program : List ℕ) (k : ℕ) (e : End) → EndsSilently program k e → EndsAt program k e
ends_at program k e silent = record {
  before = λ n h words stack reads is answers. not_over (guest_machine words (program_of program stack)) n k answers (guest_start (program_of program stack)) e (silent words reads stack is) h;
  after = λ n h words stack reads is answers. traced (guest_machine words (program_of program stack)) n k answers (guest_start (program_of program stack)) (ended e) (trace_of (guest_machine words (program_of program stack)) k answers (guest_start (program_of program stack)) e (silent words reads stack is)) h;
}

pub seven : EndsSilently exit_seven 3 (Exit 7)
seven words reads stack is =
    let p = program_of exit_seven stack in
    addi_more reads p 0 0 1 refl refl refl (addi_more reads p 3 0 7 refl refl refl (sc_last reads p (Exit 7) refl refl refl))

pub unknown : EndsSilently unknown_call 4 (Exit 38)
unknown words reads stack is =
    let p = program_of unknown_call stack in
    addi_more reads p 0 0 99 refl refl refl (
    sc_more reads p (after_guest_call (Fails 38) (writes 0 99 (guest_start p))) refl refl refl (
    addi_more reads p 0 0 1 refl refl refl (sc_last reads p (Exit 38) refl refl refl)))

pub jumped : EndsSilently jump 4 (Exit 7)
jumped words reads stack is =
    let p = program_of jump stack in
    branch_more reads p 2 refl refl refl (
    addi_more reads p 3 0 7 refl refl refl (
    addi_more reads p 0 0 1 refl refl refl (sc_last reads p (Exit 7) refl refl refl)))

pub jumped_back : EndsSilently jump_back 5 (Exit 7)
jumped_back words reads stack is =
    let p = program_of jump_back stack in
    branch_more reads p 3 refl refl refl (
    addi_more reads p 3 0 7 refl refl refl (
    branch_more reads p 0xFFFFFD refl refl refl (
    addi_more reads p 0 0 1 refl refl refl (sc_last reads p (Exit 7) refl refl refl))))

pub added : EndsSilently add_negative 5 (Exit 3)
added words reads stack is =
    let p = program_of add_negative stack in
    addi_more reads p 3 0 5 refl refl refl (
    addi_more reads p 4 0 0xFFFE refl refl refl (
    add_more reads p 3 3 4 refl refl refl (
    addi_more reads p 0 0 1 refl refl refl (sc_last reads p (Exit 3) refl refl refl))))

pub illegal : EndsSilently no_instruction 1 Illegal
unfolding read
illegal words reads stack is = illegal_last reads (program_of no_instruction stack) refl refl
