-- Items have as many bytes as their lengths say, wherever they stand.
use Rattle.std.proofs.Common.{◌≡◌, ℕ, ◌+◌, ◌-◌, ◌%◌, ◌^◌, ◌≤◌, Bool, true, false, cond, List, [], ◌∷◌, length, Option, Some, None, refl, sym, ap, ◌∙◌, arith, length-append}
use Rattle.machines.specs.Prelude.{spelling, Condition, Op, Jmp}
use Rattle.symbolic_tiles.specs.declared.flow_op.FlowOp.{FlowOp}
use Rattle.symbolic_tiles.specs.declared.flow_op.FlowOp.TheVariants.{Plain, Jump, Mark, Edge, Leap}
use Rattle.code_layout.specs.Prelude.{Moves, Places, op_at, jump_on, spelled, placed, moves_ops, item_length, items_length, is_mark, before_mark, item_bytes, items_bytes}
use Rattle.code_layout.proofs.Laying.{op_at-length as placed_length}

pub all_placed_length : (area : ℕ) (ops : List Op) → length (placed area ops) ≡ length (spelled ops)
all_placed_length area [] = refl
all_placed_length area (op ∷ ops) =
    length-append (spelling (op_at area op)) (placed area ops)
    ∙ ap (λ k. k + length (placed area ops)) (placed_length area op)
    ∙ ap (λ k. length (spelling op) + k) (all_placed_length area ops)
    ∙ sym (length-append (spelling op) (spelled ops))

-- how far a jump leads changes no jump's length
far : (o : Option Condition) (rel : ℕ) → length (spelling (jump_on o rel)) ≡ length (spelling (jump_on o 0))
far (Some c) rel = refl
far None rel = refl

pub one_length : (p : Places) (here : ℕ) (item : FlowOp) (rest : List FlowOp) → length (item_bytes p here item rest) ≡ item_length p.switch item
one_length p here (Plain op) rest = placed_length p.area op
one_length p here (Jump code mark) rest = far _ (before_mark p.switch rest mark)
one_length p here (Mark mark) rest = refl
one_length p here (Edge address) rest = length-append (placed p.area (moves_ops (p.switch address))) (spelling (Jmp ((p.targets address + (2 ^ 32 - (here + length (spelled (moves_ops (p.switch address))) + 5))) % 2 ^ 32))) ∙ ap (λ k. k + 5) (all_placed_length p.area (moves_ops (p.switch address)))
one_length p here Leap rest = refl

pub bytes_length : (p : Places) (here : ℕ) (items : List FlowOp) → length (items_bytes p here items) ≡ items_length p.switch items
unfolding items_bytes items_length
bytes_length p here [] = refl
bytes_length p here (item ∷ rest) =
    length-append (item_bytes p here item rest) _
    ∙ ap (λ k. k + length (items_bytes p (here + item_length p.switch item) rest)) (one_length p here item rest)
    ∙ ap (λ k. item_length p.switch item + k) (bytes_length p (here + item_length p.switch item) rest)

by_mark : (b : Bool) (n m whole : ℕ) → m ≤ whole → cond b 0 (n + m) ≤ n + whole
by_mark true n m whole le = omega arith
by_mark false n m whole le = omega arith

pub mark_within : (switch : ℕ → Moves) (items : List FlowOp) (mark : ℕ) → before_mark switch items mark ≤ items_length switch items
unfolding before_mark items_length
mark_within switch [] mark = omega arith
mark_within switch (item ∷ rest) mark = by_mark (is_mark item mark) (item_length switch item) (before_mark switch rest mark) (items_length switch rest) (mark_within switch rest mark)
