use Rattle.std.proofs.Common.{◌≡◌, ℕ, IsTrue, nat_eq, arith}
use Rattle.std.proofs.lemmas.Nat.{bit_set_by_shift}
use Rattle.rule_form.proofs.window.has_bit.Goals as goal

tested : (x y : ℕ) → IsTrue (nat_eq x y) → x ≡ y
tested x y h = grind (arith, h)

passes : (x y : ℕ) → x ≡ y → IsTrue (nat_eq x y)
passes x y h = grind (arith, h)

pub returns : goal.returns
returns c = (λ t. (bit_set_by_shift c.args.bits c.args.place).0 (tested _ 1 t), λ h. passes _ 1 ((bit_set_by_shift c.args.bits c.args.place).1 h))
