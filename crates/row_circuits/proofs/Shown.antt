-- What an op does where it reads what is shown.
use Rattle.std.proofs.Common.{◌≡◌, ℕ, Bool, refl}
use Rattle.circuit.specs.Prelude.{lit_truth, word_value}
use Rattle.ia_codec.specs.Prelude.{HostValues, Flags}
use Rattle.row_runs.specs.Bodies.{Pick, BodyRun}
use Rattle.row_circuits.specs.Choices.{ShowsPick}
use Rattle.row_circuits.specs.Bodies.{ShowsBody}
use Rattle.row_circuits.specs.declared.choices.Choice.{Choice}
use Rattle.row_circuits.specs.declared.lines.BodyCircuit.{BodyCircuit}

abbrev flags : Bool → Bool → Bool → Bool → Flags
flags cf zf sf of = record { cf = cf; zf = zf; sf = sf; of = of }

abbrev values : ℕ → ℕ → ℕ → Flags → ℕ → Flags → HostValues
values x y high g free q = record { x = x; y = y; high = high; flags = g; free = free; free_flags = q }

flags_are : (cf zf sf of : Bool) (g : Flags) → cf ≡ g.cf → zf ≡ g.zf → sf ≡ g.sf → of ≡ g.of → flags cf zf sf of ≡ g
flags_are cf zf sf of g a b c d = rw (a, b, c, d) refl

values_are : (x y h f n m k p : ℕ) (g q g2 q2 : Flags) → x ≡ n → y ≡ m → h ≡ k → f ≡ p → g ≡ g2 → q ≡ q2 → values x y h g f q ≡ values n m k g2 p q2
values_are x y h f n m k p g q g2 q2 a b c d e i = rw (a, b, c, d, e, i) refl

pub values_shown : (w : ℕ → Bool) (body : BodyCircuit) (choice : Choice) (run : BodyRun) (pick : Pick) (x y h n m k : ℕ) → ShowsBody w body run → ShowsPick w choice pick → x ≡ n → y ≡ m → h ≡ k →
    values x y h (flags (lit_truth body.cf w) (lit_truth body.zf w) (lit_truth body.sf w) (lit_truth body.of w)) (word_value 32 choice.value w) (flags (lit_truth choice.cf w) (lit_truth choice.zf w) (lit_truth choice.sf w) (lit_truth choice.of w))
    ≡ values n m k run.flags pick.value pick.flags
values_shown w body choice run pick x y h n m k s p a b c =
    values_are x y h _ n m k _ _ _ run.flags pick.flags a b c p.value (flags_are _ _ _ _ run.flags s.cf s.zf s.sf s.of) (flags_are _ _ _ _ pick.flags p.cf p.zf p.sf p.of)
