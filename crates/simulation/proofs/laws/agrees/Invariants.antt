use Rattle.machines.specs.Prelude.{Anywhere, Guest, Host}
use Rattle.simulation.specs.Prelude.{SimulationContext, Simulates, IsTranslation}
use Rattle.simulation.proofs.Meeting.{bounded, advances}
use Rattle.simulation.proofs.laws.agrees.Given as goal

abbrev pub ghosts-agreement : goal.ghosts-agreement
ghosts-agreement a = record {
  Setting = (s : SimulationContext) × IsTranslation s;
  Guest = Guest;
  Host = Host;
  guest = λ st. st.0.guest_step;
  host = λ st. st.0.host_step;
  IsClean = λ st. Anywhere;
  Meets = λ st. Simulates st.0;
  is_bounded = λ st. bounded st.0;
  advances = λ st. advances st.0 st.1;
}
