-- Items that are put one behind another.
use Rattle.std.specs.Prelude.{◌==◌, slice_index_or, if◌then◌else◌}
use Rattle.std.proofs.lemmas.Bool.{eqb-true}
use Rattle.std.proofs.Common.{◌≡◌, ◌≢◌, ◌≤◌, ◌<◌, ◌+◌, ◌-◌, ℕ, suc, take, Bool, true, false, List, [], ◌∷◌, ◌++◌, length, get_or, drop, refl, ap, sym, ◌∙◌, append_assoc, drop-cons, arith}
use Rattle.std.proofs.lemmas.Grind.{common_steps}
use Rattle.std.proofs.lemmas.List.{append-nil, get_or_past, length-drop, take_all}
use Rattle.machines.specs.Prelude.{Operand, Reg, Abs, Base, Pair, Op, AluTo, AluFrom, AluImm, TestReg, TestImm, Unary, Imul, MovTo, MovFrom, MovToImm, MovHalfTo, MovByteTo, MovByteFrom, Shift, ShiftByCl, Lea, Extend, Set, Cmov, Bsr, JmpTo, modrm, dword, spelling, alu_number, shift_number, unary_number}
use Rattle.symbolic_tiles.specs.declared.flow_op.FlowOp.{FlowOp}
use Rattle.block_find.specs.Prelude.{address_of}
use Rattle.code_layout.specs.Prelude.{Places, place_of, entry_of, item_length, item_bytes, items_bytes}
use Rattle.reg_map.specs.Prelude.{operand_at, op_at}

moved : (n area : ℕ) (m : Operand) → length (modrm n (operand_at area m)) ≡ length (modrm n m)
moved n area (Reg m) = refl
moved n area (Abs d) = refl
moved n area (Base b d) = refl
moved n area (Pair b x s d) = refl

moved-imm : (n area : ℕ) (m : Operand) (imm : List ℕ) → length (modrm n (operand_at area m) ++ imm) ≡ length (modrm n m ++ imm)
moved-imm n area (Reg m) imm = refl
moved-imm n area (Abs d) imm = refl
moved-imm n area (Base b d) imm = refl
moved-imm n area (Pair b x s d) imm = refl

-- an op over the home page has as many bytes
pub op_at-length : (area : ℕ) (op : Op) → length (spelling (op_at area op)) ≡ length (spelling op)
op_at-length area (AluTo op to from) = omega (arith, moved from area to)
op_at-length area (AluFrom op to from) = omega (arith, moved to area from)
op_at-length area (AluImm op to imm) = omega (arith, moved-imm (alu_number op) area to (dword imm))
op_at-length area (TestReg a b) = omega (arith, moved b area a)
op_at-length area (TestImm a imm) = omega (arith, moved-imm 0 area a (dword imm))
op_at-length area (Unary op on) = omega (arith, moved (unary_number op) area on)
op_at-length area (Imul to from) = omega (arith, moved to area from)
op_at-length area (MovTo to from) = omega (arith, moved from area to)
op_at-length area (MovFrom to from) = omega (arith, moved to area from)
op_at-length area (MovToImm to imm) = omega (arith, moved-imm 0 area to (dword imm))
op_at-length area (MovHalfTo to from) = omega (arith, moved from area to)
op_at-length area (MovByteTo to from) = omega (arith, moved from area to)
op_at-length area (MovByteFrom to from) = omega (arith, moved to area from)
op_at-length area (Shift op to by) = omega (arith, moved-imm (shift_number op) area to (by ∷ []))
op_at-length area (ShiftByCl op to) = omega (arith, moved (shift_number op) area to)
op_at-length area (Lea to from) = omega (arith, moved to area from)
op_at-length area (Extend op to from) = omega (arith, moved to area from)
op_at-length area (Set condition to) = omega (arith, moved 0 area to)
op_at-length area (Cmov condition to from) = omega (arith, moved to area from)
op_at-length area (Bsr to from) = omega (arith, moved to area from)
op_at-length area (JmpTo to) = omega (arith, moved 4 area to)
op_at-length area _ = refl

none-left : (xs : List FlowOp) (i : ℕ) → length xs ≤ i → drop i xs ≡ []
none-left xs i le = grind (arith, common_steps)

bytes-drop : (p : Places) (xs : List FlowOp) (i here : ℕ) (d : FlowOp) → i < length xs → items_bytes p here (drop i xs) ≡ item_bytes p here (get_or xs i d) (drop (i + 1) xs) ++ items_bytes p (here + item_length p.switch (get_or xs i d)) (drop (i + 1) xs)
unfolding items_bytes
bytes-drop p xs i here d lt =
    let next : suc i ≡ i + 1 = omega arith in
    ap (λ (v : List FlowOp). items_bytes p here v) (drop-cons xs i d lt)
    ∙ ap (λ (k : ℕ). item_bytes p here (get_or xs i d) (drop k xs) ++ items_bytes p (here + item_length p.switch (get_or xs i d)) (drop k xs)) next

-- what stands already, and the items that are left, are the whole
pub bytes-more : (p : Places) (code : ℕ) (xs : List FlowOp) (i n m : ℕ) (d : FlowOp) (rest : List FlowOp) (old new whole : List ℕ) → i < length xs → rest ≡ drop (i + 1) xs → new ≡ old ++ item_bytes p (code + n) (get_or xs i d) rest → m ≡ n + item_length p.switch (get_or xs i d) → old ++ items_bytes p (code + n) (drop i xs) ≡ whole → new ++ items_bytes p (code + m) (drop (i + 1) xs) ≡ whole
bytes-more p code xs i n m d rest old new whole lt left made longer so =
    let there : code + (n + item_length p.switch (get_or xs i d)) ≡ code + n + item_length p.switch (get_or xs i d) = omega arith in
    rw (made, left, longer, there) (append_assoc old _ _ ∙ ap (λ (v : List ℕ). old ++ v) (sym (bytes-drop p xs i (code + n) d lt)) ∙ so)

pub bytes-all : (p : Places) (xs : List FlowOp) (i here : ℕ) (old whole : List ℕ) → length xs ≤ i → old ++ items_bytes p here (drop i xs) ≡ whole → old ≡ whole
unfolding items_bytes
bytes-all p xs i here old whole le so =
    sym (append-nil old) ∙ ap (λ (v : List FlowOp). old ++ items_bytes p here v) (sym (none-left xs i le)) ∙ so

nowhere-by : (b : Bool) (entries : List ℕ) (hold k : ℕ) → (b ≡ true → length entries ≤ k) → hold ≡ (if b then slice_index_or entries k hold else hold)
nowhere-by true entries hold k past = sym (get_or_past entries k hold (past refl))
nowhere-by false entries hold k past = refl

past-all : (n k : ℕ) → (k < n → ⊥) → n ≤ k
past-all n k out = omega (arith, out)

-- an edge to an address of no code word leads to `hold`
pub nowhere : (first : ℕ) (entries : List ℕ) (hold at : ℕ) → ((k : ℕ) → k < length entries → at ≢ address_of first k) → hold ≡ entry_of first entries hold at
nowhere first entries hold at none = nowhere-by (at == address_of first (place_of first at)) entries hold (place_of first at) (λ same. past-all (length entries) (place_of first at) (λ lt. none (place_of first at) lt (eqb-true at (address_of first (place_of first at)) same)))

-- all that is left
pub whole-rest : (xs : List FlowOp) (k : ℕ) → take (length xs - k) (drop k xs) ≡ drop k xs
whole-rest xs k = take_all (length xs - k) (drop k xs) (omega (arith, length-drop k xs))
