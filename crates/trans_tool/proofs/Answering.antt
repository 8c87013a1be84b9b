-- What a run of `translate` did, from what it was answered.
use Rattle.std.proofs.Common.{◌≡◌, ◌≤◌, ℕ, List, length, Some, IsTrue, ap, ◌∙◌, subst}
use Rattle.translate_core.specs.declared.translation.Output.{Output}
use Rattle.trans_tool.specs.Prelude.{Outside, OthersStand, IsSource, IsTranslated, IsAnswer}

module _ (o : Outside) (from bytes bytes' : List ℕ) (output : Output) (held : IsTrue o.tells → o.held from ≡ Some bytes) (within : length bytes ≤ 0x1000000) (same : bytes' ≡ bytes) (answer : IsAnswer bytes' output) where
  is_answer : IsAnswer bytes output
  is_answer = subst (λ (b : List ℕ). IsAnswer b output) same answer

  pub source : IsSource o from
  source = record {
    bytes = bytes;
    program = is_answer.program;
    input = record { held = held; within = within };
    loads = is_answer.loads;
  }

  pub translated : (to file : List ℕ) → file ≡ output.file → (IsTrue o.tells → o.held' to ≡ Some file) → OthersStand o to → IsTranslated o from to
  unfolding source
  translated to file is written others = record {
    source = source;
    file = output.file;
    plans = output.plans.items;
    best = is_answer.best;
    carries = is_answer.carries;
    agrees = is_answer.agrees;
    written = λ telling. written telling ∙ ap Some is;
    others = others;
  }
