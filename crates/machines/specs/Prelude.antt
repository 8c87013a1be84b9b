-- What the machines rest on and what they are, for one `use` line of the crates above.
pub use Rattle.word_kit.specs.declared.NoMemory.{NoMemory}
pub use Rattle.word_kit.specs.declared.plain_words.Plain.{Plain}
pub use Rattle.word_kit.specs.Words.{complement, difference_word, is_less, is_negative, one_if, same, sign_extended, signed, signed_in, sum_carries, sum_word, two_complement}
pub use Rattle.word_kit.specs.Bits.{bit_of, is_masked, rotated, shifted_arith, shifted_left, shifted_right, with_bit}
unfoldable pub use Rattle.word_kit.specs.Bits.{mask, of_bits, word_and, word_or, word_xor}
pub use Rattle.word_kit.specs.Products.{divide_faults, fits_word, product_high, product_low, quotient, remainder, signed_quotient, signed_remainder, two_words}
pub use Rattle.space.specs.declared.call.Call.{Call}
pub use Rattle.space.specs.declared.call.CallKind.{CallKind}
pub use Rattle.space.specs.declared.call.End.{End}
pub use Rattle.space.specs.declared.call.End.TheVariants.{DivideFault, Dry, Exit, Illegal, Outside, Running, Trap}
pub use Rattle.space.specs.declared.call.Event.{Event}
pub use Rattle.space.specs.declared.call.Event.TheVariants.{Asked, Ended, Went}
pub use Rattle.space.specs.declared.program.Kind.{Kind}
pub use Rattle.space.specs.declared.program.Kind.TheVariants.{Ia32, PowerPc}
pub use Rattle.space.specs.declared.program.Program.{Program}
pub use Rattle.space.specs.declared.program.Segment.{Segment}
pub use Rattle.space.specs.Reports.{AnswerValue, Close, Error, Fails, Given, Gives, Got, ListedCall, Read, Report, Took, Write, answer_value, ended, error_of, given, listed}
pub use Rattle.space.specs.Memory.{ArePermitted, bytes_from, code_from, code_word, has_address, has_word, is_permitted, permits, put_byte, with_byte, word_in}
pub use Rattle.runs.specs.Machine.{After, AgreesFrom, Along, Anywhere, Asks, Ends, Goes, Outcome, reported, run}
pub use Rattle.runs.specs.Laws.{IsNarrower, StaysIn}
pub use Rattle.runs.specs.Simulation.{Advance, Advances, IsBounded, Walks, called, lost, onward, over, stays, walks}
pub use Rattle.ppc_isa.specs.declared.instr.ArithmeticOp.{ArithmeticOp}
pub use Rattle.ppc_isa.specs.declared.instr.ArithmeticOp.TheVariants.{Add, Addc, Adde, Divw, Divwu, Mulhw, Mulhwu, Mullw, Subf, Subfc, Subfe}
pub use Rattle.ppc_isa.specs.declared.instr.ArithmeticUnaryOp.{ArithmeticUnaryOp}
pub use Rattle.ppc_isa.specs.declared.instr.ArithmeticUnaryOp.TheVariants.{Addme, Addze, Neg, Subfme, Subfze}
pub use Rattle.ppc_isa.specs.declared.instr.BranchRegisterOp.{BranchRegisterOp}
pub use Rattle.ppc_isa.specs.declared.instr.BranchRegisterOp.TheVariants.{Bcctr, Bclr}
pub use Rattle.ppc_isa.specs.declared.instr.CompareImmediateOp.{CompareImmediateOp}
pub use Rattle.ppc_isa.specs.declared.instr.CompareImmediateOp.TheVariants.{Cmpi, Cmpli}
pub use Rattle.ppc_isa.specs.declared.instr.CompareOp.{CompareOp}
pub use Rattle.ppc_isa.specs.declared.instr.CompareOp.TheVariants.{Cmp, Cmpl}
pub use Rattle.ppc_isa.specs.declared.instr.CrLogicOp.{CrLogicOp}
pub use Rattle.ppc_isa.specs.declared.instr.CrLogicOp.TheVariants.{Crand, Crandc, Creqv, Crnand, Crnor, Cror, Crorc, Crxor}
pub use Rattle.ppc_isa.specs.declared.instr.ImmediateOp.{ImmediateOp}
pub use Rattle.ppc_isa.specs.declared.instr.ImmediateOp.TheVariants.{Addi, Addic, AddicRecord, Addis, Mulli, Subfic}
pub use Rattle.ppc_isa.specs.declared.instr.Instr.{Instr}
pub use Rattle.ppc_isa.specs.declared.instr.Instr.TheVariants.{Arithmetic, ArithmeticUnary, Branch, BranchConditional, BranchRegister, Compare, CompareImmediate, CrLogic, Immediate, Isync, Load, LoadIndexed, LoadIndexedUpdate, LoadUpdate, Logic, LogicImmediate, LogicUnary, MoveCrField, MoveFromCr, MoveFromSpr, MoveToCr, MoveToSpr, Multiple, Rotate, ShiftImmediate, Store, StoreIndexed, StoreIndexedUpdate, StoreUpdate, Sync, SystemCall, Trap, TrapImmediate}
pub use Rattle.ppc_isa.specs.declared.instr.LoadIndexedOp.{LoadIndexedOp}
pub use Rattle.ppc_isa.specs.declared.instr.LoadIndexedOp.TheVariants.{Lbzx, Lhax, Lhbrx, Lhzx, Lwbrx, Lwzx}
pub use Rattle.ppc_isa.specs.declared.instr.LoadIndexedUpdateOp.{LoadIndexedUpdateOp}
pub use Rattle.ppc_isa.specs.declared.instr.LoadIndexedUpdateOp.TheVariants.{Lbzux, Lhaux, Lhzux, Lwzux}
pub use Rattle.ppc_isa.specs.declared.instr.LoadOp.{LoadOp}
pub use Rattle.ppc_isa.specs.declared.instr.LoadOp.TheVariants.{Lbz, Lha, Lhz, Lwz}
pub use Rattle.ppc_isa.specs.declared.instr.LoadUpdateOp.{LoadUpdateOp}
pub use Rattle.ppc_isa.specs.declared.instr.LoadUpdateOp.TheVariants.{Lbzu, Lhau, Lhzu, Lwzu}
pub use Rattle.ppc_isa.specs.declared.instr.LogicImmediateOp.{LogicImmediateOp}
pub use Rattle.ppc_isa.specs.declared.instr.LogicImmediateOp.TheVariants.{Andi, Andis, Ori, Oris, Xori, Xoris}
pub use Rattle.ppc_isa.specs.declared.instr.LogicOp.{LogicOp}
pub use Rattle.ppc_isa.specs.declared.instr.LogicOp.TheVariants.{And, Andc, Eqv, Nand, Nor, Or, Orc, Slw, Sraw, Srw, Xor}
pub use Rattle.ppc_isa.specs.declared.instr.LogicUnaryOp.{LogicUnaryOp}
pub use Rattle.ppc_isa.specs.declared.instr.LogicUnaryOp.TheVariants.{Cntlzw, Extsb, Extsh}
pub use Rattle.ppc_isa.specs.declared.instr.MultipleOp.TheVariants.{Lmw, Stmw}
pub use Rattle.ppc_isa.specs.declared.instr.RotateOp.{RotateOp}
pub use Rattle.ppc_isa.specs.declared.instr.RotateOp.TheVariants.{Rlwimi, Rlwinm, Rlwnm}
pub use Rattle.ppc_isa.specs.declared.instr.StoreIndexedOp.{StoreIndexedOp}
pub use Rattle.ppc_isa.specs.declared.instr.StoreIndexedOp.TheVariants.{Stbx, Sthbrx, Sthx, Stwbrx, Stwx}
pub use Rattle.ppc_isa.specs.declared.instr.StoreIndexedUpdateOp.{StoreIndexedUpdateOp}
pub use Rattle.ppc_isa.specs.declared.instr.StoreIndexedUpdateOp.TheVariants.{Stbux, Sthux, Stwux}
pub use Rattle.ppc_isa.specs.declared.instr.StoreOp.{StoreOp}
pub use Rattle.ppc_isa.specs.declared.instr.StoreOp.TheVariants.{Stb, Sth, Stw}
pub use Rattle.ppc_isa.specs.declared.instr.StoreUpdateOp.{StoreUpdateOp}
pub use Rattle.ppc_isa.specs.declared.instr.StoreUpdateOp.TheVariants.{Stbu, Sthu, Stwu}
pub use Rattle.ppc_isa.specs.declared.locs.Locs.{Locs}
pub use Rattle.ppc_isa.specs.declared.map.Map.{Map}
pub use Rattle.ppc_isa.specs.Word.{Field, Fit, word}
pub use Rattle.ppc_isa.specs.Legal.{Allowed, HasOneInstruction, IsLegal, IsSpr, IsWordOf, ReadsWords, bo_0, bo_2, layout}
pub use Rattle.ppc_isa.specs.Locations.{IsSetOf, carry_in, carry_out, chosen_of, condition, count, cr, immediate_carries, immediate_operand, immediate_records, locations_read, locations_written, logic_carries, logic_immediate_records, ov, rotate_operands, special, target_of, unary_carry, when, xc}
unfoldable pub use Rattle.ppc_isa.specs.Locations.{chosen_fields, registers_from}
pub use Rattle.ppc_isa.specs.Map.{IsHeld, IsMap}
pub use Rattle.ppc_isa.specs.Effect.{Access, Effect, GuestValues, LoadAccess, NoAccess, StoreAccess}
pub use Rattle.ppc_isa.specs.Recording.{compared, gives_a, gives_d, place, recorded, with_ca, with_field}
pub use Rattle.ppc_isa.specs.SumRows.{ones, sum, sum_carrying}
pub use Rattle.ppc_isa.specs.LogicRows.{logic_immediate}
pub use Rattle.ppc_isa.specs.ShiftRows.{arith_by, left_by, loses_ones, right_by, shifted_algebraic}
unfoldable pub use Rattle.ppc_isa.specs.ShiftRows.{leading_zeros}
pub use Rattle.ppc_isa.specs.RotateRows.{rotate}
pub use Rattle.ppc_isa.specs.ProductRows.{quotient_signed, quotient_unsigned}
pub use Rattle.ppc_isa.specs.CompareRows.{trap_holds}
pub use Rattle.ppc_isa.specs.FieldRows.{cr_bit, cr_logic, special_put}
unfoldable pub use Rattle.ppc_isa.specs.FieldRows.{fields_mask}
pub use Rattle.ppc_isa.specs.AccessRows.{address_of, byte_extended, half_extended, half_reversed, loads, stores, updates, word_reversed}
pub use Rattle.ppc_isa.specs.BranchRows.{bo_bit, condition_allows, count_allows, counted}
pub use Rattle.ppc_isa.specs.Rows.{arithmetic_row, arithmetic_unary_row, compare_immediate_row, compare_row, guest_row, immediate_row, load_indexed_row, load_indexed_update_row, load_row, load_update_row, logic_row, logic_unary_row, store_indexed_row, store_indexed_update_row, store_row, store_update_row}
pub use Rattle.ia_codec.specs.declared.op.AluOp.{AluOp}
pub use Rattle.ia_codec.specs.declared.op.AluOp.TheVariants.{Adc, Add, And, Cmp, Or, Sbb, Sub, Xor}
pub use Rattle.ia_codec.specs.declared.op.Condition.{Condition}
pub use Rattle.ia_codec.specs.declared.op.Condition.TheVariants.{Above, Below, Equal, Greater, Less, NotAbove, NotBelow, NotEqual, NotGreater, NotLess, NotSign, Sign}
pub use Rattle.ia_codec.specs.declared.op.ExtendOp.{ExtendOp}
pub use Rattle.ia_codec.specs.declared.op.ExtendOp.TheVariants.{MovsxByte, MovsxHalf, MovzxByte, MovzxHalf}
pub use Rattle.ia_codec.specs.declared.op.Op.{Op}
pub use Rattle.ia_codec.specs.declared.op.Op.TheVariants.{AluFrom, AluImm, AluTo, Bsr, Bswap, Cdq, Cmov, Extend, Imul, Int3, Int80, Jcc, Jmp, JmpTo, Lea, MovByteFrom, MovByteTo, MovFrom, MovHalfTo, MovImm, MovTo, MovToImm, Set, Shift, ShiftByCl, TestImm, TestReg, Ud2, Unary}
pub use Rattle.ia_codec.specs.declared.op.Operand.{Operand}
pub use Rattle.ia_codec.specs.declared.op.Operand.TheVariants.{Abs, Base, Pair, Reg}
pub use Rattle.ia_codec.specs.declared.op.ShiftOp.{ShiftOp}
pub use Rattle.ia_codec.specs.declared.op.ShiftOp.TheVariants.{Rol, Ror, Sar, Shl, Shr}
pub use Rattle.ia_codec.specs.declared.op.UnaryOp.{UnaryOp}
pub use Rattle.ia_codec.specs.declared.op.UnaryOp.TheVariants.{Div, Idiv, Imul1, Mul, Neg, Not}
pub use Rattle.ia_codec.specs.Spelling.{IsByte, IsInProfile, IsMemory, IsOperand, IsReg, IsSpelt, IsSum, alu_number, condition_number, dword, modrm, shift_number, spelling, unary_number}
pub use Rattle.ia_codec.specs.Cost.{cost_of}
unfoldable pub use Rattle.ia_codec.specs.Reading.{modrm_at, plain_at, plain_op}
pub use Rattle.ia_codec.specs.Effect.{Flags, HostEffect, HostValues}
pub use Rattle.ia_codec.specs.Sums.{difference_flags, sum_flags}
pub use Rattle.ia_codec.specs.Logic.{logic_flags}
pub use Rattle.ia_codec.specs.Shifts.{shift_result, shift_row}
pub use Rattle.ia_codec.specs.Products.{imul1_row, imul_row, mul_row, sign_copies}
pub use Rattle.ia_codec.specs.Divisions.{divide_row}
pub use Rattle.ia_codec.specs.Moves.{swapped}
pub use Rattle.ia_codec.specs.Scan.{scan_row}
unfoldable pub use Rattle.ia_codec.specs.Scan.{highest_one}
pub use Rattle.ia_codec.specs.Conditions.{condition_holds}
pub use Rattle.ia_codec.specs.Rows.{alu_row, host_row, test_row, unary_row}
pub use Rattle.ia_codec.specs.Registers.{eax, ebx, ecx, edi, edx, esi}
pub use Rattle.machines.specs.Memory.{Code, Rights, code_byte, code_in, code_of, is_code, is_within, rights_of, update}
unfoldable pub use Rattle.machines.specs.Memory.{block, each_byte, first_bytes, is_held, is_writable, load, load_big, put_block, store, store_big}
pub use Rattle.machines.specs.Readings.{Fetched, ReadsOps}
pub use Rattle.machines.specs.Guest.{Guest, after_guest_call, at_next, behind, branch_target, branches, compare_word, cr_word, ctr, effect_of, guest_acts, guest_asks, guest_executes, guest_machine, guest_start, guest_system_call, guest_values, immediate_word, is_code_word, linked, load_outcome, loaded_by, loaded_in, logic_word, lr, put_cr, put_loaded, put_special, put_xer, puts_cr, puts_xer, register_target, results, rotate_register, stack_start, store_outcome, value_a, value_b, value_s, with_so, without_so, word_of_code, writes, xer_word}
unfoldable pub use Rattle.machines.specs.Guest.{store_registers}
pub use Rattle.machines.specs.Host.{Choice, Core, Host, Place, Register, address_in, after_host_call, bind, byte_for, changes, choice_at, chosen_flags, chosen_word, divides, does, extend_size, faults_on, gives_to, goes_to, has_result, host_acts, host_asks, host_executes, host_machine, host_start, host_step, host_system_call, host_values, jumps, jumps_to, leaves, multiplies, no_choice, op_bytes, place_of, plain, put_at, puts, puts_both, reads, sets, sets_byte, unary_acts, unary_does, value_at}
pub use Rattle.machines.specs.Agreement.{AgreesNarrowly, AgreesWith, IsClean, fetched_apart, is_apart, narrow_machine, reads_apart, without}
pub use Rattle.machines.specs.Laws.{UsesFirstChoices}
