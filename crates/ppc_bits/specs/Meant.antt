-- What parts of rows mean.
use Rattle.std.specs.Prelude.{ℕ, Bool, not, ◌&&◌, eqb}
use Rattle.word_kit.specs.Prelude.{is_negative}
use Rattle.ppc_isa.specs.Effect.{GuestValues, Effect}
use Rattle.ppc_isa.specs.Recording.{with_ca, gives_a}

-- a shifted word in rA, with CA where what was kept of a negative word is another
abbrev pub algebraic : Bool → ℕ → ℕ → GuestValues → Effect
algebraic records shifted kept v = record (gives_a records shifted v) { xer = with_ca v.xer (is_negative v.s && not (eqb kept v.s)) }
