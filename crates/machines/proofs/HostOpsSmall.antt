-- Small host programs of shifts, bytes, divisions and jumps through memory.
use Rattle.std.proofs.Common.{◌≡◌, ℕ, ◌+◌, ◌*◌, ◌/◌, ◌%◌, Bool, true, false, cond, not, List, drop, refl, ap, ◌∙◌, arith}
use Rattle.std.proofs.lemmas.List.{get_or-drop}
use Rattle.std.proofs.lemmas.Grind.{get_or_after_one}
use Rattle.machines.specs.Prelude.{Exit, DivideFault, Ends, AluTo, Unary, MovTo, MovImm, MovToImm, ShiftByCl, Lea, Extend, Set, JmpTo, Int80, Cmp, Div, Shl, MovzxByte, Equal, Less, Reg, Abs, Pair, IsReg, each_byte, load, store, is_held, is_writable, Choice, no_choice, choice_at, chosen_flags}
use Rattle.machines.specs.HostExamples.{host_program, HostEndsAt, HostEndsBy, host_shift, host_byte, host_divide, host_divide_by_zero, host_jump}
use Rattle.machines.proofs.HostSmall.{EndsSilentlyBy, HostEndsSilently, ends_by, ends_at, op_more, op_last, reg_eax, reg_ebx}

reg_ecx : IsReg 1
reg_ecx = (omega arith, omega arith, omega arith)

reg_edx : IsReg 2
reg_edx = (omega arith, omega arith, omega arith)

-- OF after the shift, as it is chosen
abbrev overflow : List Choice → Bool
overflow choices = (chosen_flags (choice_at choices 11)).of

sets : HostEndsSilently host_byte 6 (Exit 0x11223301)
sets ops reads choices =
    let p = host_program host_byte in
    op_more reads p (MovImm 0 0x11223344) 5 refl (reg_eax, omega arith) refl refl refl (
    op_more reads p (AluTo Cmp (Reg 0) 0) 2 refl (reg_eax, reg_eax) refl refl refl (
    op_more reads p (Set Equal (Reg 0)) 3 refl (omega arith) refl refl refl (
    op_more reads p (MovTo (Reg 3) 0) 2 refl (reg_ebx, reg_eax) refl refl refl (
    op_more reads p (MovImm 0 1) 5 refl (reg_eax, omega arith) refl refl refl (
    op_last reads p (Exit 0x11223301) Int80 2 refl tt refl refl refl)))))

divides : HostEndsSilently host_divide 7 (Exit 19)
divides ops reads choices =
    let p = host_program host_divide in
    op_more reads p (MovImm 0 17) 5 refl (reg_eax, omega arith) refl refl refl (
    op_more reads p (MovImm 2 0) 5 refl (reg_edx, omega arith) refl refl refl (
    op_more reads p (MovImm 1 5) 5 refl (reg_ecx, omega arith) refl refl refl (
    op_more reads p (Unary Div (Reg 1)) 2 refl reg_ecx refl refl refl (
    op_more reads p (Lea 3 (Pair 0 2 3 0)) 7 refl (reg_ebx, (reg_eax, reg_edx, omega arith, omega arith)) refl refl refl (
    op_more reads p (MovImm 0 1) 5 refl (reg_eax, omega arith) refl refl refl (
    op_last reads p (Exit 19) Int80 2 refl tt refl refl refl))))))

faults : HostEndsSilently host_divide_by_zero 2 DivideFault
faults ops reads choices =
    let p = host_program host_divide_by_zero in
    op_more reads p (MovImm 1 0) 5 refl (reg_ecx, omega arith) refl refl refl (
    op_last reads p DivideFault (Unary Div (Reg 1)) 2 refl reg_ecx refl refl refl)

jumps : HostEndsSilently host_jump 5 (Exit 7)
unfolding each_byte load store is_held is_writable
jumps ops reads choices =
    let p = host_program host_jump in
    op_more reads p (MovToImm (Abs 0x09000000) 0x08048015) 10 refl (omega arith, omega arith) refl refl refl (
    op_more reads p (JmpTo (Abs 0x09000000)) 6 refl (omega arith) refl refl refl (
    op_more reads p (MovImm 3 7) 5 refl (reg_ebx, omega arith) refl refl refl (
    op_more reads p (MovImm 0 1) 5 refl (reg_eax, omega arith) refl refl refl (
    op_last reads p (Exit 7) Int80 2 refl tt refl refl refl))))

-- setl of SF = 0 and of OF into cl, which held 2
set_byte : (of : Bool) → (256 * (2 / 256) + cond (not (not of)) 1 0) % 256 ≡ cond of 1 0
set_byte true = refl
set_byte false = refl

-- the choice of the third step
third : (choices : List Choice) → choice_at (drop 1 (drop 1 (drop 9 choices))) 0 ≡ choice_at choices 11
third choices = get_or_after_one (drop 1 (drop 9 choices)) 0 no_choice ∙ get_or_after_one (drop 9 choices) 1 no_choice ∙ get_or-drop 9 choices 2 no_choice

exits_with : (choices : List Choice) → (256 * (2 / 256) + cond (not (not (chosen_flags (choice_at (drop 1 (drop 1 (drop 9 choices))) 0)).of)) 1 0) % 256 ≡ cond (overflow choices) 1 0
exits_with choices = ap (λ (c : Choice). (256 * (2 / 256) + cond (not (not (chosen_flags c).of)) 1 0) % 256) (third choices) ∙ set_byte (overflow choices)

shifts : EndsSilentlyBy host_shift 7 (λ choices. Exit (cond (overflow choices) 1 0))
shifts ops reads choices =
    let p = host_program host_shift in
    op_more reads p (MovImm 0 1) 5 refl (reg_eax, omega arith) refl refl refl (
    op_more reads p (MovImm 1 2) 5 refl (reg_ecx, omega arith) refl refl refl (
    op_more reads p (ShiftByCl Shl (Reg 0)) 2 refl reg_eax refl refl refl (
    op_more reads p (Set Less (Reg 1)) 3 refl (omega arith) refl refl refl (
    op_more reads p (Extend MovzxByte 3 (Reg 1)) 3 refl (reg_ebx, omega arith) refl refl refl (
    op_more reads p (MovImm 0 1) 5 refl (reg_eax, omega arith) refl refl refl (
    op_last reads p (Exit (cond (overflow choices) 1 0)) Int80 2 refl tt refl refl (ap (λ (n : ℕ). Ends (Exit n)) (exits_with choices))))))))

pub byte_is_set : HostEndsAt host_byte 6 (Exit 0x11223301)
byte_is_set = ends_at host_byte 6 (Exit 0x11223301) sets

pub quotient_and_remainder : HostEndsAt host_divide 7 (Exit 19)
quotient_and_remainder = ends_at host_divide 7 (Exit 19) divides

pub division_faults : HostEndsAt host_divide_by_zero 2 DivideFault
division_faults = ends_at host_divide_by_zero 2 DivideFault faults

pub memory_is_target : HostEndsAt host_jump 5 (Exit 7)
memory_is_target = ends_at host_jump 5 (Exit 7) jumps

pub overflow_is_chosen : HostEndsBy host_shift 7 (λ choices. Exit (cond (overflow choices) 1 0))
overflow_is_chosen = ends_by host_shift 7 (λ choices. Exit (cond (overflow choices) 1 0)) shifts
