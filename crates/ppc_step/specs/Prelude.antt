-- What is cited of these specifications, for one `use` line.
pub use Rattle.ppc_step.specs.declared.forms.Form.{Form}
pub use Rattle.ppc_step.specs.declared.state.State.{State}
pub use Rattle.ppc_step.specs.Shown.{IsState, is_load, is_store, told}
pub use Rattle.ppc_step.specs.Calls.{IsAsking, asks_for}
pub use Rattle.ppc_step.specs.Steps.{IsDone, IsTold, Leads, Seen, Shows}
