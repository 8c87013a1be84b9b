-- A call that a machine asks describes the call that is listed.
use Rattle.std.proofs.Common.{◌≡◌, ◌<◌, ◌+◌, ◌%◌, ◌^◌, ℕ, zero, suc, true, false, Some, refl, sym, ap, ◌∙◌, arith}
use Rattle.std.specs.Prelude.{slice_index}
use Rattle.machines.specs.Prelude.{Call, Program, ArePermitted, Write, block, is_held}
use Rattle.space.specs.declared.call.CallKind.TheVariants as kind
use Rattle.space.specs.Memory.{Memory}
use Rattle.access.specs.Kept.{Keeps}
use Rattle.runner.specs.Prelude.{StandAt, Describes}
use Rattle.machine_calls.proofs.Giving.{block_length}

block_at : (n a k : ℕ) (f : ℕ → ℕ) → k < n → slice_index (block n a f) k ≡ f ((a + k) % 2 ^ 32)
unfolding block
block_at zero a k f lt = absurd (omega (arith, lt))
block_at (suc n) a zero f lt = ap (λ x. f (x % 2 ^ 32)) (omega arith)
block_at (suc n) a (suc k) f lt = block_at n (a + 1) k f (omega (arith, lt)) ∙ ap (λ x. f (x % 2 ^ 32)) (omega arith)

-- the bytes of a buffer that memory holds
stands : (p : Program) (f : ℕ → ℕ) (m : Memory) (at n : ℕ) → Keeps p f m → ArePermitted m false at n → StandAt m at (block n at f)
stands p f m at n keeps held k lt =
    let small : k < n = omega (arith, lt, block_length n at f) in
    let inside : is_held p.segments ((at + k) % 2 ^ 32) ≡ true = sym (keeps.rights false ((at + k) % 2 ^ 32)) ∙ held k small in
    keeps.bytes_stand ((at + k) % 2 ^ 32) inside ∙ ap Some (sym (block_at n at k f small))

pub described_write : (p : Program) (f : ℕ → ℕ) (m : Memory) (c : Call) → Keeps p f m → c.kind ≡ kind.Write → ArePermitted m false c.at c.count → Describes m c (Write c.fd (block c.count c.at f))
described_write p f m c keeps is held = record {
  kind = is;
  file = refl;
  count = sym (block_length c.count c.at f);
  held = rw (block_length c.count c.at f) held;
  stand = stands p f m c.at c.count keeps held;
}
