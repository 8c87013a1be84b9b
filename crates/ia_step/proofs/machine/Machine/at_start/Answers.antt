use Rattle.std.proofs.Common.{◌≡◌, drop, map, refl, sym, ◌∙◌, ap}
use Rattle.machines.specs.Prelude.{choice_at, chosen_word, chosen_flags}
use Rattle.ia_step.specs.Prelude.{choice_of}
use Rattle.ia_step.proofs.Starting.{behind, first_behind, word_behind, registers_are}
use Rattle.ia_step.proofs.machine.Machine.at_start.Goals as goal

pub returns : goal.returns
returns c = λ p keeps entry.
    let l = map choice_of c.args.choices.items in
    let l0 = c.from_start-choices.result in
    let e0 : l0 ≡ drop 0 l = c.from_start-choices.ensures in
    let l1 = c.next_word.new.self in
    let e1 : l1 ≡ drop 1 l = behind 0 l l0 l1 e0 c.next_word.ensures.rest in
    let l2 = c.next_word-2.new.self in
    let e2 : l2 ≡ drop 2 l = behind 1 l l1 l2 e1 c.next_word-2.ensures.rest in
    let l3 = c.next_word-3.new.self in
    let e3 : l3 ≡ drop 3 l = behind 2 l l2 l3 e2 c.next_word-3.ensures.rest in
    let l4 = c.next_word-4.new.self in
    let e4 : l4 ≡ drop 4 l = behind 3 l l3 l4 e3 c.next_word-4.ensures.rest in
    let l5 = c.next_word-5.new.self in
    let e5 : l5 ≡ drop 5 l = behind 4 l l4 l5 e4 c.next_word-5.ensures.rest in
    let l6 = c.next_word-6.new.self in
    let e6 : l6 ≡ drop 6 l = behind 5 l l5 l6 e5 c.next_word-6.ensures.rest in
    let l7 = c.next_word-7.new.self in
    let e7 : l7 ≡ drop 7 l = behind 6 l l6 l7 e6 c.next_word-7.ensures.rest in
    let l8 = c.next_word-8.new.self in
    let e8 : l8 ≡ drop 8 l = behind 7 l l7 l8 e7 c.next_word-8.ensures.rest in (
      refl,
      record {
        core = record {
          registers = registers_are (λ r. chosen_word (choice_at l r)) _ _ _ _ _ _ _ _
              (word_behind 0 l l0 _ e0 c.next_word.ensures.word) (word_behind 1 l l1 _ e1 c.next_word-2.ensures.word) (word_behind 2 l l2 _ e2 c.next_word-3.ensures.word) (word_behind 3 l l3 _ e3 c.next_word-4.ensures.word)
              (word_behind 4 l l4 _ e4 c.next_word-5.ensures.word) (word_behind 5 l l5 _ e5 c.next_word-6.ensures.word) (word_behind 6 l l6 _ e6 c.next_word-7.ensures.word) (word_behind 7 l l7 _ e7 c.next_word-8.ensures.word);
          same_flags = sym (c.flags-flags.ensures ∙ ap chosen_flags (c.first.ensures ∙ first_behind 8 l l8 e8));
          memory = keeps;
        };
        eip = entry;
        choices = sym (behind 8 l l8 c.advance.new.self e8 c.advance.ensures);
      },
    )
