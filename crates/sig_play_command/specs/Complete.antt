-- When nothing but want of memory or of nodes keeps a play from its end.
use Rattle.sig_play_command.specs.Prelude.{ℕ, List, FLOW_BYTES, Contents, AreEvents, FileEvent, Settings, Holds, CanRun}

-- Events can be played: the program can be run over the flows, and the event file has a reading.
pub record CanPlay (held : Contents) (program flows events : List ℕ) (settings : Settings) : Type 0 where
  pub run : CanRun held program flows settings
  pub happening : List FileEvent
  pub said : Holds (held events) FLOW_BYTES (λ bytes. AreEvents bytes happening)
