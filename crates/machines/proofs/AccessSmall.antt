-- Small programs that load and store.
use Rattle.std.proofs.Common.{refl, arith}
use Rattle.machines.specs.Prelude.{Exit, Outside, Immediate, Load, Store, StoreUpdate, Multiple, Addis, Lwz, Lbz, Stw, Stwu, Lmw, Stmw, load_big, store_big, each_byte, is_held, is_writable, first_bytes, store_registers}
use Rattle.machines.specs.Examples.{program_of, EndsAt, load_word, push_frame, move_many, load_outside, store_to_code}
use Rattle.machines.proofs.Steps.{addi_more, sc_last, word_more, word_more_if, word_last}
use Rattle.machines.proofs.Small.{EndsSilently, ends_at}
use Rattle.machines.proofs.Stack.{stack_all_held, stack_all_writable}

loads_word : EndsSilently load_word 4 (Exit 0x3C801000)
unfolding each_byte load_big is_held first_bytes
loads_word words reads stack is =
    let p = program_of load_word stack in
    word_more reads p (Immediate Addis 4 0 0x1000) refl refl refl tt refl (
    word_more reads p (Load Lwz 3 4 0) refl refl refl tt refl (
    addi_more reads p 0 0 1 refl refl refl (sc_last reads p (Exit 0x3C801000) refl refl refl)))

pushes : EndsSilently push_frame 4 (Exit 0xC0)
unfolding load_big store_big
pushes words reads stack is =
    let p = program_of push_frame stack in
    word_more_if reads p (StoreUpdate Stwu 1 1 0xFFF0) (each_byte (is_writable p.segments) 4 0x7F0FFFB0) refl refl refl (omega arith) refl (stack_all_writable push_frame stack is 4 0x7F0FFFB0 (omega arith) (omega arith)) (
    word_more_if reads p (Load Lbz 3 1 3) (each_byte (is_held p.segments) 1 0x7F0FFFB3) refl refl refl tt refl (stack_all_held push_frame stack is 1 0x7F0FFFB3 (omega arith) (omega arith)) (
    addi_more reads p 0 0 1 refl refl refl (sc_last reads p (Exit 0xC0) refl refl refl)))

moves : EndsSilently move_many 7 (Exit 9)
unfolding load_big store_big store_registers
moves words reads stack is =
    let p = program_of move_many stack in
    addi_more reads p 30 0 5 refl refl refl (
    addi_more reads p 31 0 9 refl refl refl (
    word_more_if reads p (Multiple Stmw 30 1 0) (each_byte (is_writable p.segments) 8 0x7F0FFFC0) refl refl refl tt refl (stack_all_writable move_many stack is 8 0x7F0FFFC0 (omega arith) (omega arith)) (
    word_more_if reads p (Multiple Lmw 29 1 0) (each_byte (is_held p.segments) 12 0x7F0FFFC0) refl refl refl (omega arith) refl (stack_all_held move_many stack is 12 0x7F0FFFC0 (omega arith) (omega arith)) (
    addi_more reads p 3 30 0 refl refl refl (
    addi_more reads p 0 0 1 refl refl refl (sc_last reads p (Exit 9) refl refl refl))))))

loads_nothing : EndsSilently load_outside 1 Outside
unfolding each_byte is_held
loads_nothing words reads stack is = word_last reads (program_of load_outside stack) Outside (Load Lwz 3 0 0) refl refl refl tt refl

stores_no_code : EndsSilently store_to_code 2 Outside
unfolding each_byte is_writable
stores_no_code words reads stack is =
    let p = program_of store_to_code stack in
    word_more reads p (Immediate Addis 4 0 0x1000) refl refl refl tt refl (word_last reads p Outside (Store Stw 3 4 0) refl refl refl tt refl)

pub word_is_loaded : EndsAt load_word 4 (Exit 0x3C801000)
word_is_loaded = ends_at load_word 4 (Exit 0x3C801000) loads_word

pub frame_is_pushed : EndsAt push_frame 4 (Exit 0xC0)
frame_is_pushed = ends_at push_frame 4 (Exit 0xC0) pushes

pub many_are_moved : EndsAt move_many 7 (Exit 9)
many_are_moved = ends_at move_many 7 (Exit 9) moves

pub nothing_is_loaded : EndsAt load_outside 1 Outside
nothing_is_loaded = ends_at load_outside 1 Outside loads_nothing

pub no_code_is_stored : EndsAt store_to_code 2 Outside
no_code_is_stored = ends_at store_to_code 2 Outside stores_no_code
