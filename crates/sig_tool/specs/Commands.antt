-- What is known of the numbers of a command.
use Rattle.std.specs.Prelude.{◌≤◌}
use Rattle.sig_tool.specs.Prelude.{⊤, AreWithinBounds, settings_of, Command, Load}

-- a load has from 1 to 12 stages
abbrev pub HasStages : Command → Type 0
HasStages (Load seed stages settings) = (1 ≤ stages) × (stages ≤ 12)
HasStages _ = ⊤

-- the settings and the stages of a command are within their bounds
pub record IsLimited (c : Command) : Type 0 where
  pub settings : AreWithinBounds (settings_of c)
  pub stages : HasStages c
