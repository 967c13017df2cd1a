-- What a run is: it has come so far, or it is whole.
use Rattle.std.specs.Prelude.{◌≡◌}
use Rattle.sig_alone.specs.Prelude.{ℕ, ℤ, List, drop, length, Option, Instant, IsLongest, Trace, Place, IsAmid, IsKernelTrace, output_text, IsEnd, PlanView, Ended, TookPrefix, actor_at, Machine}

-- A whole run: the end is that of the longest trace with its named cause, and between two moments a sink took the text of this
-- trace.
pub record IsWholeRun (plan : PlanView) (flows : List (List ℤ)) (limit : ℕ) {S : Type 0} (took : S → List ℕ → S → Type 0) (before after : S) (ended : Ended) : Type 0 where
  pub trace : Trace
  pub place : Option Place
  pub end : IsEnd plan flows limit trace place ended
  pub text : took before (output_text plan.kernel trace) after

-- between two moments a sink took a prefix of the text of the longest trace
abbrev pub TookSome : PlanView → List (List ℤ) → ℕ → {S : Type 0} → (S → List ℕ → S → Type 0) → S → S → Type 0
TookSome plan flows limit took before after =
    (trace : Trace) → IsLongest (IsKernelTrace plan.kernel) flows limit trace → TookPrefix took before (output_text plan.kernel trace) after

-- The rest of a run: the end is that of the longest trace with its named cause, and between two moments a sink took the text of
-- this trace without that of so many first instants.
pub record IsWholeRest (plan : PlanView) (flows : List (List ℤ)) (limit written : ℕ) {S : Type 0} (took : S → List ℕ → S → Type 0) (before after : S) (ended : Ended) : Type 0 where
  pub trace : Trace
  pub place : Option Place
  pub end : IsEnd plan flows limit trace place ended
  pub text : took before (output_text plan.kernel (drop written trace)) after

-- between two moments a sink took a prefix of that text
abbrev pub TookSomeRest : PlanView → List (List ℤ) → (limit written : ℕ) → {S : Type 0} → (S → List ℕ → S → Type 0) → S → S → Type 0
TookSomeRest plan flows limit written took before after =
    (trace : Trace) → IsLongest (IsKernelTrace plan.kernel) flows limit trace
    → TookPrefix took before (output_text plan.kernel (drop written trace)) after

-- A run of so many instants: they are committed, a sink took their text without that of so many first ones, and the actor that
-- the machine is is amid the next one.
pub record HasRun (plan : PlanView) (flows : List (List ℤ)) (written : ℕ) {S : Type 0} (took : S → List ℕ → S → Type 0) (before after : S) (instants : ℕ) (machine : Machine) : Type 0 where
  pub trace : Trace
  pub count : length trace ≡ instants
  pub instant : Instant
  pub amid : IsAmid plan flows trace instant (actor_at machine 0)
  pub text : took before (output_text plan.kernel (drop written trace)) after
