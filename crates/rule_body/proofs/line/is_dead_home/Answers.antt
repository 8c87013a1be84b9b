use Rattle.std.proofs.Common.{◌≡◌, ℕ, ◌-◌, ◌/◌, ◌^◌, ◌≤◌, ◌↔◌, IsTrue, IsBitSet, bit_and, nat_eq, arith}
use Rattle.std.proofs.lemmas.Nat.{bit_set_by_shift}
use Rattle.rule_body.proofs.line.is_dead_home.Goals as goal

tested : (x y : ℕ) → IsTrue (nat_eq x y) → x ≡ y
tested x y h = grind (arith, h)

passes : (x y : ℕ) → x ≡ y → IsTrue (nat_eq x y)
passes x y h = grind (arith, h)

dead_bit : (dead byte k : ℕ) → 136 ≤ byte → IsTrue (nat_eq (bit_and (dead / 2 ^ k) 1) 1) ↔ ((136 ≤ byte) × IsBitSet dead k)
dead_bit dead byte k high = (λ t. (high, (bit_set_by_shift dead k).0 (tested _ 1 t)), λ h. passes _ 1 ((bit_set_by_shift dead k).1 h.1))

pub returns-then-byte-ge136 : goal.returns-then-byte-ge136
returns-then-byte-ge136 c = dead_bit c.args.dead c.args.byte (c.args.byte - 128) c.if-byte-ge136.true
