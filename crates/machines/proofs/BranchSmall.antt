-- Small programs that record, branch on conditions, link and trap.
use Rattle.std.proofs.Common.{refl, inl, inr, true, false}
use Rattle.machines.specs.Prelude.{Exit, Trap as Trapped, Immediate, CompareImmediate, TrapImmediate, Branch, BranchConditional, BranchRegister, MoveFromCr, MoveFromSpr, MoveToSpr, AddicRecord, Cmpi, Bclr}
use Rattle.machines.specs.Examples.{program_of, EndsAt, record_and_carry, compare, count_down, link, trap_equal}
use Rattle.machines.proofs.Steps.{addi_more, add_more, sc_last, word_more, word_last}
use Rattle.machines.proofs.Small.{EndsSilently, ends_at}

compares : EndsSilently compare 5 (Exit 7)
compares words reads stack is =
    let p = program_of compare stack in
    addi_more reads p 3 0 7 refl refl refl (
    word_more reads p (CompareImmediate Cmpi 1 3 8) refl refl refl tt refl (
    word_more reads p (BranchConditional 12 4 2 false false) refl refl refl tt refl (
    addi_more reads p 0 0 1 refl refl refl (sc_last reads p (Exit 7) refl refl refl))))

records : EndsSilently record_and_carry 7 (Exit 0x60000000)
records words reads stack is =
    let p = program_of record_and_carry stack in
    addi_more reads p 3 0 3 refl refl refl (
    word_more reads p (Immediate AddicRecord 3 3 0xFFFF) refl refl refl tt refl (
    word_more reads p (MoveFromSpr 4 1) refl refl refl (inl refl) refl (
    word_more reads p (MoveFromCr 5) refl refl refl tt refl (
    add_more reads p 3 4 5 refl refl refl (
    addi_more reads p 0 0 1 refl refl refl (sc_last reads p (Exit 0x60000000) refl refl refl))))))

counts : EndsSilently count_down 8 (Exit 2)
counts words reads stack is =
    let p = program_of count_down stack in
    addi_more reads p 4 0 2 refl refl refl (
    word_more reads p (MoveToSpr 4 9) refl refl refl (inr (inr refl)) refl (
    addi_more reads p 3 3 1 refl refl refl (
    word_more reads p (BranchConditional 16 0 0x3FFF false false) refl refl refl tt refl (
    addi_more reads p 3 3 1 refl refl refl (
    word_more reads p (BranchConditional 16 0 0x3FFF false false) refl refl refl tt refl (
    addi_more reads p 0 0 1 refl refl refl (sc_last reads p (Exit 2) refl refl refl)))))))

links : EndsSilently link 5 (Exit 0x10000014)
links words reads stack is =
    let p = program_of link stack in
    word_more reads p (Branch 4 false true) refl refl refl tt refl (
    word_more reads p (BranchRegister Bclr 20 0 true) refl refl refl tt refl (
    word_more reads p (MoveFromSpr 3 8) refl refl refl (inr (inl refl)) refl (
    addi_more reads p 0 0 1 refl refl refl (sc_last reads p (Exit 0x10000014) refl refl refl))))

traps : EndsSilently trap_equal 2 Trapped
traps words reads stack is =
    let p = program_of trap_equal stack in
    word_more reads p (TrapImmediate 16 0 0) refl refl refl tt refl (word_last reads p Trapped (TrapImmediate 4 0 0) refl refl refl tt refl)

pub compare_branches : EndsAt compare 5 (Exit 7)
compare_branches = ends_at compare 5 (Exit 7) compares

pub carry_is_recorded : EndsAt record_and_carry 7 (Exit 0x60000000)
carry_is_recorded = ends_at record_and_carry 7 (Exit 0x60000000) records

pub counter_branches : EndsAt count_down 8 (Exit 2)
counter_branches = ends_at count_down 8 (Exit 2) counts

pub branch_links : EndsAt link 5 (Exit 0x10000014)
branch_links = ends_at link 5 (Exit 0x10000014) links

pub equal_traps : EndsAt trap_equal 2 Trapped
equal_traps = ends_at trap_equal 2 Trapped traps
