-- What ends a load before its run.
use Rattle.std.specs.Prelude.{◌≡◌}
use Rattle.sig_load_command.specs.Prelude.{ℕ, List, Option, Contents, Settings, Stops, Refusal}
use Rattle.sig_load_command.specs.Loads.{loading}

-- a refusal ends a load with links of this capacity, whatever the files hold
abbrev pub StopsLoad : (seed stages capacity : ℕ) → Refusal → Type 0
StopsLoad seed stages capacity r = (settings : Settings) (contents : Option Contents) (at : Option (List ℕ)) (misses faults : ℕ)
    → settings.capacity ≡ capacity → Stops (loading seed stages settings) contents at at misses misses faults faults r
