-- What is cited of these specifications, for one `use` line.
pub use Rattle.laid_code.specs.Bytes.{HasBytes, RunsCode}
pub use Rattle.code_words.specs.Words.{HasWords}
pub use Rattle.laid_code.specs.Items.{ArePlaceable, ArePlaced, AreSwitches, IsSwitch, edges_of, labels_of, leaps_of, places_of}
pub use Rattle.laid_code.specs.Plans.{AreRight, last_map, plan_items}
pub use Rattle.laid_code.specs.Instance.{HasCodeFor, HasTableOf, Interface, code_start, context_of, laid_context, laid_interface, without_registers}
pub use Rattle.laid_code.specs.Laws.{AreAddresses, BlocksStand, EntriesAreAddresses, HoldStands, IsBlockOrOff, ItemsStand, PlansStand, TablesStand}
