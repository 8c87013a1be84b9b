-- The tiles of arithmetic with registers (this project's own). Results go through eax.
use Rattle.std.specs.Prelude.{ℕ, Bool, true, false, List, [], ◌∷◌}
use Rattle.machines.specs.Prelude.{ArithmeticOp, ArithmeticUnaryOp, AluOp, Add, Or, Adc, Sbb, Sub, Xor, Cmp, Condition, Below, NotBelow, Equal, eax, ecx, edx}
use Rattle.ppc_isa.specs.Locations.{ca}
use Rattle.symbolic_tiles.specs.declared.symbolic_op.SymbolicOperand.TheVariants.{Temporary, Location}
use Rattle.symbolic_tiles.specs.declared.symbolic_op.SymbolicOp.{SymbolicOp}
use Rattle.symbolic_tiles.specs.declared.symbolic_op.SymbolicOp.TheVariants.{Mov, MovImmediate, Put, Alu, AluImmediate, Test, Invert, Negate, Multiply, MultiplyWide, Divide, MoveIf, Signs, FetchByte, SetByte}
use Rattle.ppc_isa.specs.declared.instr.ArithmeticOp.TheVariants as arithmetic
use Rattle.ppc_isa.specs.declared.instr.ArithmeticUnaryOp.TheVariants as unary

-- x op y, and the same with CA by CF: of a sum CA is CF, of a difference its complement, since CF is the borrow
abbrev pub plain_ops : AluOp → ℕ → ℕ → ℕ → List SymbolicOp
plain_ops alu d x y = Mov eax (Location x) ∷ Alu alu eax (Location y) ∷ Put d eax ∷ []

abbrev pub carrying_ops : AluOp → ℕ → ℕ → ℕ → Condition → List SymbolicOp
carrying_ops alu d x y carry = Mov eax (Location x) ∷ Alu alu eax (Location y) ∷ Put d eax ∷ SetByte carry ca ∷ []

-- neg makes CF of CA
abbrev pub adde_ops : ℕ → ℕ → ℕ → List SymbolicOp
adde_ops d a b = FetchByte ecx ca ∷ Negate ecx ∷ Mov eax (Location a) ∷ Alu Adc eax (Location b) ∷ Put d eax ∷ SetByte Below ca ∷ []

-- cmp with 1 makes CF of CA's complement, which is the borrow
abbrev pub subfe_ops : ℕ → ℕ → ℕ → List SymbolicOp
subfe_ops d a b = FetchByte ecx ca ∷ AluImmediate Cmp ecx 1 ∷ Mov eax (Location b) ∷ Alu Sbb eax (Location a) ∷ Put d eax ∷ SetByte NotBelow ca ∷ []

-- the high half of a product, signed or unsigned
abbrev pub high_product_ops : Bool → ℕ → ℕ → ℕ → List SymbolicOp
high_product_ops signed d a b = Mov eax (Location a) ∷ MultiplyWide signed (Location b) ∷ Mov eax (Temporary edx) ∷ Put d eax ∷ []

-- Where a quotient isn't defined it is 0, by the dividend 0; a divisor 0 becomes 1.
abbrev pub divwu_ops : ℕ → ℕ → ℕ → List SymbolicOp
divwu_ops d a b = Mov ecx (Location b) ∷ Mov eax (Location a) ∷ MovImmediate edx 0 ∷ Test ecx ecx ∷ MoveIf Equal eax edx ∷ MovImmediate edx 1 ∷ MoveIf Equal ecx edx ∷ MovImmediate edx 0 ∷ Divide false ecx ∷ Put d eax ∷ []

-- (not b) or (a xor 2^31) is 0 where b is -1 and a the least dividend, whose quotient isn't a word.
abbrev pub divw_ops : ℕ → ℕ → ℕ → List SymbolicOp
divw_ops d a b =
    Mov eax (Location a) ∷ Mov ecx (Location b)
    ∷ Mov edx (Temporary ecx) ∷ Invert edx ∷ AluImmediate Xor eax 0x80000000 ∷ Alu Or edx (Temporary eax) ∷ AluImmediate Xor eax 0x80000000 ∷ Test edx edx
    ∷ MovImmediate edx 0 ∷ MoveIf Equal eax edx ∷ Test ecx ecx ∷ MoveIf Equal eax edx ∷ MovImmediate edx 1 ∷ MoveIf Equal ecx edx
    ∷ Signs ∷ Divide true ecx ∷ Put d eax ∷ []

-- two registers
abbrev pub arithmetic_ops : ArithmeticOp → ℕ → ℕ → ℕ → List SymbolicOp
arithmetic_ops arithmetic.Add d a b = plain_ops Add d a b
arithmetic_ops arithmetic.Addc d a b = carrying_ops Add d a b Below
arithmetic_ops arithmetic.Adde d a b = adde_ops d a b
arithmetic_ops arithmetic.Subf d a b = plain_ops Sub d b a
arithmetic_ops arithmetic.Subfc d a b = carrying_ops Sub d b a NotBelow
arithmetic_ops arithmetic.Subfe d a b = subfe_ops d a b
arithmetic_ops arithmetic.Mullw d a b = Mov eax (Location a) ∷ Multiply eax (Location b) ∷ Put d eax ∷ []
arithmetic_ops arithmetic.Mulhw d a b = high_product_ops true d a b
arithmetic_ops arithmetic.Mulhwu d a b = high_product_ops false d a b
arithmetic_ops arithmetic.Divw d a b = divw_ops d a b
arithmetic_ops arithmetic.Divwu d a b = divwu_ops d a b

-- one register, CA and a number
abbrev pub carry_sum_ops : ℕ → ℕ → ℕ → List SymbolicOp
carry_sum_ops d a v = FetchByte ecx ca ∷ Negate ecx ∷ Mov eax (Location a) ∷ AluImmediate Adc eax v ∷ Put d eax ∷ SetByte Below ca ∷ []

-- the complement of one register, CA and a number
abbrev pub carry_difference_ops : ℕ → ℕ → ℕ → List SymbolicOp
carry_difference_ops d a v = Mov eax (Location a) ∷ Invert eax ∷ FetchByte ecx ca ∷ Negate ecx ∷ AluImmediate Adc eax v ∷ Put d eax ∷ SetByte Below ca ∷ []

-- one register
abbrev pub unary_ops : ArithmeticUnaryOp → ℕ → ℕ → List SymbolicOp
unary_ops unary.Addze d a = carry_sum_ops d a 0
unary_ops unary.Addme d a = carry_sum_ops d a 0xFFFFFFFF
unary_ops unary.Subfze d a = carry_difference_ops d a 0
unary_ops unary.Subfme d a = carry_difference_ops d a 0xFFFFFFFF
unary_ops unary.Neg d a = Mov eax (Location a) ∷ Negate eax ∷ Put d eax ∷ []
