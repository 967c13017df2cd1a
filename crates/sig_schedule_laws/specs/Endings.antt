-- What a state has where all actors have ended.
use Rattle.std.specs.Prelude.{◌≡◌}
use Rattle.sig_schedule_laws.specs.Prelude.{false, Option, None, Some, Trace, Place, Core, Given, cause_of, is_before, reactions_of, Ended}

-- A state has an end: it has committed the trace, the word is the place of the cause, and names that cause.
pub record HasEnd (given : Given) (core : Core) (trace : Trace) (place : Option Place) (ended : Ended) : Type 0 where
  pub committed : core.committed ≡ reactions_of given.plan.kernel trace
  pub word : core.word ≡ place
  pub cause : cause_of given.plan given.flows core core.word ≡ ended.cause

-- a word is not before the place of a named cause; where there is no such place there is no word
abbrev pub IsNotBefore : Option Place → Option Place → Type 0
IsNotBefore None word = word ≡ None
IsNotBefore (Some place) word = (w : Place) → word ≡ Some w → is_before w place ≡ false
