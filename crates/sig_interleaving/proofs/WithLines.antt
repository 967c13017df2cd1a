-- The lines of a core are no part of its state.
use Rattle.sig_interleaving.proofs.Common.{◌≡◌, ◌≤◌, ℕ, List, subst, sym, Event, ModelCore, LinesInFront, longest_lines, outputs_of, IsCore, Shows, Happened, Core}

module _ (c : Core) (l : LinesInFront) where
  pub lines_core : IsCore c → l.size ≡ c.lines.size → IsCore (record c { lines = l })
  lines_core is size = record {
    fits = is.fits;
    limit = is.limit;
    capacity = is.capacity;
    small = is.small;
    actors = is.actors;
    few = is.few;
    states = is.states;
    links = is.links;
    room = is.room;
    held = is.held;
    word = is.word;
    lines = subst (λ n. longest_lines (outputs_of c.plan.now.kernel) ≤ n) (sym size) is.lines;
  }

  pub lines_show : (m : ModelCore) → Shows m c → Shows m (record c { lines = l })
  lines_show m shows = record { actors = shows.actors; count = shows.count; links = shows.links; word = shows.word }

  pub lines_happened : {S : Type 0} (took : S → List ℕ → S → Type 0) (e : Event) (old : Core) (before after : S) → Happened took e old c before after → Happened took e old (record c { lines = l }) before after
  lines_happened took e old before after happened m shows = (lines_show _ (happened m shows).0, (happened m shows).1)
