-- What is cited of these specifications, for one `use` line.
pub use Rattle.ia_step.specs.declared.choices.Choice.{Choice}
pub use Rattle.ia_step.specs.declared.parts.Flags.{Flags}
pub use Rattle.ia_step.specs.declared.parts.Parts.{Parts}
pub use Rattle.ia_step.specs.declared.state.State.{State}
pub use Rattle.ia_step.specs.Values.{choice_of, flags_in, flags_of}
pub use Rattle.ia_step.specs.Shown.{IsCore, IsState, Led, with_reg}
pub use Rattle.ia_step.specs.Calls.{IsAsking, asks_for}
pub use Rattle.ia_step.specs.Steps.{IsDone, IsTold, Leads, Seen, Shows}
