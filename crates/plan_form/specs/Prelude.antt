-- What is cited of these specifications, for one `use` line.
pub use Rattle.plan_form.specs.declared.check.Fault.{Fault}
pub use Rattle.plan_form.specs.declared.problem.BadLabel.{BadLabel}
pub use Rattle.plan_form.specs.declared.problem.MovePrice.{MovePrice}
pub use Rattle.plan_form.specs.declared.problem.Offer.{Offer}
pub use Rattle.plan_form.specs.declared.problem.Problem.{Problem}
pub use Rattle.plan_form.specs.declared.problem.Step.{Step}
pub use Rattle.plan_form.specs.declared.problem.Step.TheVariants.{Go, Lay}
pub use Rattle.plan_form.specs.Maps.{IsContentOf, IsMapOver, content_number, map_number}
pub use Rattle.plan_form.specs.Plans.{IsAsGood, IsChosen, IsNotBehind, IsValidPlan, IsWalk, Leads, Leaves, Node, entry_node, exit_node, is_alone, last, order, rank}
pub use Rattle.plan_form.specs.Full.{IsFull, IsFullOver}
pub use Rattle.plan_form.specs.Labels.{Certifies, IsAt, IsObeyed, IsShaped, label_at, map_at, values_of}
pub use Rattle.plan_form.specs.Faults.{IsEarlier, IsFaultOf, IsFirstFault, IsFound, IsMoveFault, IsOfferFault, IsPassed, IsSound}
pub use Rattle.plan_form.specs.Keys.{IsIndex, content_key, key}
pub use Rattle.plan_form.specs.declared.fault.TextFault.{TextFault}
pub use Rattle.plan_form.specs.declared.line.Line.{Line}
pub use Rattle.plan_form.specs.declared.progress.Progress.{Progress}
pub use Rattle.plan_form.specs.Texts.{AreWritten, AreWrittenLabels, BlockText, Does, End, Head, IsPlanText, IsWritten, IsWrittenStep, Item, Row, Title, content_word, items_of, map_word, opened, rows, slot_word, step_words, text_of, words_of, written}
pub use Rattle.plan_form.specs.Machine.{Between, IsGood, IsItem, Start, State, Within, next, shown}
pub use Rattle.plan_form.specs.Said.{item_of, state_of}
pub use Rattle.plan_form.specs.TextFaults.{IsFault, IsMemory}
