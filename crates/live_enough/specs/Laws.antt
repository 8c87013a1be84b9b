-- That live sets have all that makes a difference. This project's own.
use Rattle.std.specs.Prelude.{◌≡◌, ℕ, List, Option}
use Rattle.machines.specs.Prelude.{Instr, Program, Guest, ReadsWords, rights_of, guest_machine}
use Rattle.reg_map.specs.Prelude.{is_live}
use Rattle.code_words.specs.Words.{HasWords}
use Rattle.liveness.specs.Prelude.{Sets, AreLive, live_at}
use Rattle.simulation.specs.Prelude.{SimulationContext, LiveIsEnough}

-- The guest of a context runs a program, and live in it is what is live by these sets, which are those of the program's words.
pub record HasLiveSets (s : SimulationContext) (reading : ℕ → Option Instr) (P : Program) (first : ℕ) (words : List ℕ) (sets : Sets) : Type 0 where
  pub reads : ReadsWords reading
  pub rights : s.guest ≡ rights_of P
  pub steps : (g : Guest) → s.guest_step g ≡ guest_machine reading P g
  pub has : HasWords P first words
  pub are_live : AreLive first words sets
  pub live : (w x : ℕ) → s.live w x ≡ is_live (live_at sets w) x

-- There what isn't live makes no difference.
abbrev pub LiveSetsAreEnough : Type 0
LiveSetsAreEnough = (s : SimulationContext) (reading : ℕ → Option Instr) (P : Program) (first : ℕ) (words : List ℕ) (sets : Sets) → HasLiveSets s reading P first words sets → LiveIsEnough s
