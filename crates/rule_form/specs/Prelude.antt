-- What is cited of these specifications, for one `use` line.
pub use Rattle.rule_form.specs.declared.fault.TextFault.{TextFault}
pub use Rattle.rule_form.specs.declared.line.Line.{Line}
pub use Rattle.rule_form.specs.declared.progress.Progress.{Progress}
pub use Rattle.rule_form.specs.Words.{chosen, dead_word, digit, hole_letter, hole_word, letter, listed, literal_word, names, slots_word, take_word}
pub use Rattle.rule_form.specs.Texts.{AreWritten, At, Clause, Dead, End, GuestLine, HasRoom, Host, IsRuleText, IsWritten, Item, Open, RuleText, Take, Title, front_of, items_of, opened, text_of, words_of, written}
pub use Rattle.rule_form.specs.Machine.{Between, HaveRoom, InClauses, InDead, InGuests, InHosts, IsFront, IsGood, IsHoleWord, IsItem, IsTakeWord, Start, State, next, shown}
pub use Rattle.rule_form.specs.Said.{IsLine, item_of}
pub use Rattle.rule_form.specs.Names.{Differ}
pub use Rattle.rule_form.specs.Partial.{AccessAt, WrittenAt}
pub use Rattle.rule_form.specs.Reached.{IsReached, state_of}
pub use Rattle.rule_form.specs.Faults.{IsFault, IsMemory}
