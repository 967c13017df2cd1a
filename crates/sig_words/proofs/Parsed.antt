-- What `clap` answers to the words, by what our steps come to.
use Rattle.sig_words.proofs.Common.{◌≡◌, ◌≢◌, ◌⊎◌, inl, inr, Bool, true, false, ◌||◌, List, [], ◌∷◌, ◌++◌, refl, sym, ap, ◌∙◌, cond, Option, Some, None, subst, codes, fold, find, option_and_then, option_map, slice_get, unwrap_or, AllByRecursion, IsUtf8, bytes_eq, none-some, default_fault, defaults_fault, fault_of, given_default_fault, settle_fault, walk_fault, HasKind, IsAmong, Kinds, or_else, App, matches_of, kind_of, Row, Rule, Text, Walk, all_of, first_of, has_row, idle, is_empty, settled, with_default, with_values, AsWritten, Error, ErrorKind, OutOfMemory, DefaultValue, Shows, command_line, Word, name_of, IsSaid, Said, Workers, Capacity, Instants}
use Rattle.sig_words.proofs.Common.{or-true}
use Rattle.sig_words.proofs.Steps.{Any, nothing, run}
use Rattle.sig_words.proofs.Built.{at, option_built, pace_built, plain_built, rules, top}
use Rattle.sig_words.proofs.Says.{run_said, said_run}
use Rattle.sig_words.proofs.Ends.{Ends, Passes, ends, walk_end}
use Rattle.sig_words.proofs.Follows.{Stands, or_none}
use Rattle.sig_words.proofs.Holds.{Holds, one_value, pace_row, pace_values}
use Rattle.sig_words.proofs.Rows.{one_written, values_other, values_same, values_written}

abbrev start : Walk
start = at false idle None []

starts : Stands Any nothing start
starts = record {
  waiting = idle;
  free = refl;
  pending = None;
  rows = [];
  is = refl;
  faultless = refl;
  holds = record { plain = refl; workers = refl; capacity = refl; instants = refl; pace = refl; written = tt };
}

-- the whole walk ends as our steps do
all_ends : (words : List Word) → AllByRecursion IsUtf8 words → Ends start words (run Any words nothing)
all_ends words texts = ends words Any nothing start texts starts

-- ---- the fault

no_default : (rows : List Row) (a : Rule) → is_empty a.defaults ≡ true → default_fault rows a ≡ []
no_default rows a none = rw (none, or-true (has_row a.id rows)) refl

pace_default : (rows : List Row) → default_fault rows pace_built ≡ []
pace_default rows = at_row (has_row (codes "pace") rows)
  where
    at_row : (b : Bool) → cond (b || false) [] (given_default_fault pace_built (codes "false" ∷ [])) ≡ []
    at_row true = refl
    at_row false = refl

no_fault : (rows : List Row) (a : Rule) (rest : List Rule) → default_fault rows a ≡ [] → defaults_fault (with_default rows a) rest ≡ []
    → defaults_fault rows (a ∷ rest) ≡ []
unfolding defaults_fault
no_fault rows a rest none other = or_none (default_fault rows a) (defaults_fault (with_default rows a) rest) none other

no_rule : (rows : List Row) → defaults_fault rows [] ≡ []
unfolding defaults_fault
no_rule rows = refl

from_pace : (rows : List Row) → defaults_fault rows (pace_built ∷ []) ≡ []
from_pace rows = no_fault rows pace_built [] (pace_default rows) (no_rule (with_default rows pace_built))

from_instants : (rows : List Row) → defaults_fault rows (option_built Instants ∷ pace_built ∷ []) ≡ []
from_instants rows = no_fault rows (option_built Instants) (pace_built ∷ []) (no_default rows (option_built Instants) refl)
    (from_pace (with_default rows (option_built Instants)))

from_capacity : (rows : List Row) → defaults_fault rows (option_built Capacity ∷ option_built Instants ∷ pace_built ∷ []) ≡ []
from_capacity rows = no_fault rows (option_built Capacity) (option_built Instants ∷ pace_built ∷ []) (no_default rows (option_built Capacity) refl)
    (from_instants (with_default rows (option_built Capacity)))

from_workers : (rows : List Row) → defaults_fault rows (option_built Workers ∷ option_built Capacity ∷ option_built Instants ∷ pace_built ∷ []) ≡ []
from_workers rows = no_fault rows (option_built Workers) (option_built Capacity ∷ option_built Instants ∷ pace_built ∷ [])
    (no_default rows (option_built Workers) refl) (from_capacity (with_default rows (option_built Workers)))

defaults_pass : (rows : List Row) → defaults_fault rows rules ≡ []
defaults_pass rows = no_fault rows plain_built (option_built Workers ∷ option_built Capacity ∷ option_built Instants ∷ pace_built ∷ [])
    (no_default rows plain_built refl) (from_workers (with_default rows plain_built))

deep : (a b c d : Kinds) → or_else a c ≢ [] → or_else a (or_else b (or_else c d)) ≢ []
deep [] (k ∷ ks) c d some none = cc
deep [] [] [] d some none = some refl
deep _ _ _ d some none = some none

-- words that our steps refuse have a fault
pub fault_refused : (words : List Word) → AllByRecursion IsUtf8 words → run Any words nothing ≡ None → fault_of command_line words ≢ []
fault_refused words texts refused =
    deep (walk_fault top [] start words) _ (settle_fault rules false (walk_end start words).held) _
    (subst (Ends start words) refused (all_ends words texts))

-- words that they take have none
pub fault_taken : (words : List Word) (s : Said) → AllByRecursion IsUtf8 words → run Any words nothing ≡ Some s → fault_of command_line words ≡ []
fault_taken words s texts taken =
    let passes : Passes start words s = subst (Ends start words) taken (all_ends words texts) in
    rw (passes.walk, passes.stopped, passes.settle, defaults_pass _) refl

-- ---- the matches

-- an argument without a default leaves the rows
kept : (b : Bool) (rows : List Row) → cond b rows rows ≡ rows
kept true rows = refl
kept false rows = refl

finished_is : (rows : List Row) → fold with_default rows rules ≡ with_default rows pace_built
finished_is rows = rw (kept (has_row (codes "words") rows) rows, kept (has_row (name_of Workers) rows) rows, kept (has_row (name_of Capacity) rows) rows, kept (has_row (name_of Instants) rows) rows) refl

-- the first of the values of an id
first_all : (id : Text) (rows : List Row) → first_of id rows ≡ option_and_then (λ (vs : List Text). slice_get vs 0) (all_of id rows)
first_all id rows = at_row (find (λ (r : Row). bytes_eq r.id id) rows)
  where
    at_row : (o : Option Row) → option_and_then (λ (r : Row). slice_get r.values 0) o
        ≡ option_and_then (λ (vs : List Text). slice_get vs 0) (option_map (λ (r : Row). r.values) o)
    at_row None = refl
    at_row (Some row) = refl

first_value : (o : Option Word) → option_and_then (λ (vs : List Text). slice_get vs 0) (option_map one_value o) ≡ o
first_value None = refl
first_value (Some w) = refl

first_is : (id : Text) (rows : List Row) (o : Option Word) → all_of id rows ≡ option_map one_value o → first_of id rows ≡ o
first_is id rows o is = first_all id rows ∙ ap (option_and_then (λ (vs : List Text). slice_get vs 0)) is ∙ first_value o

abbrev with_false : List Row → List Row
with_false rows = with_values (codes "pace") AsWritten DefaultValue (codes "false" ∷ []) rows

other_first : (id : Text) (rows : List Row) (o : Option Word) → bytes_eq (codes "pace") id ≡ false → all_of id rows ≡ option_map one_value o
    → first_of id (with_false rows) ≡ o
other_first id rows o apart is =
    first_is id (with_false rows) o (values_other (codes "pace") id AsWritten DefaultValue (codes "false" ∷ []) rows apart ∙ is)

-- the flag stood there, or its default is put there
shown : (b : Bool) (rows : List Row) (s : Said) → Holds rows s → s.pace ≡ b → Shows (cond b rows (with_false rows)) s
shown true rows s h is = record {
  plain = h.plain;
  workers = first_is (name_of Workers) rows s.workers h.workers;
  capacity = first_is (name_of Capacity) rows s.capacity h.capacity;
  instants = first_is (name_of Instants) rows s.instants h.instants;
  pace = one_written (codes "pace") rows h.written ∙ first_all (codes "pace") rows
      ∙ ap (option_and_then (λ (vs : List Text). slice_get vs 0)) (h.pace ∙ ap pace_values is)
      ∙ ap (λ (b : Bool). Some (cond b (codes "true") (codes "false"))) (sym is);
}
shown false rows s h is =
    let none : all_of (codes "pace") rows ≡ None = h.pace ∙ ap pace_values is in
    record {
      plain = ap (λ (o : Option (List Word)). unwrap_or o [])
          (values_other (codes "pace") (codes "words") AsWritten DefaultValue (codes "false" ∷ []) rows refl) ∙ h.plain;
      workers = other_first (name_of Workers) rows s.workers refl h.workers;
      capacity = other_first (name_of Capacity) rows s.capacity refl h.capacity;
      instants = other_first (name_of Instants) rows s.instants refl h.instants;
      pace = one_written (codes "pace") (with_false rows) (values_written (codes "pace") DefaultValue (codes "false" ∷ []) rows h.written)
          ∙ first_all (codes "pace") (with_false rows)
          ∙ ap (option_and_then (λ (vs : List Text). slice_get vs 0))
          (values_same (codes "pace") AsWritten DefaultValue (codes "false" ∷ []) rows
          ∙ ap (λ (o : Option (List Text)). Some (unwrap_or o [] ++ codes "false" ∷ [])) none)
          ∙ ap (λ (b : Bool). Some (cond b (codes "true") (codes "false"))) (sym is);
    }

-- the matches show what our steps say
pub shows : (words : List Word) (s : Said) → AllByRecursion IsUtf8 words → run Any words nothing ≡ Some s → Shows (matches_of command_line words) s
shows words s texts taken =
    let passes : Passes start words s = subst (Ends start words) taken (all_ends words texts) in
    let rows : List Row = (settled rules (walk_end start words).held).rows in
    subst (λ (rs : List Row). Shows rs s) (sym (finished_is rows))
    (rw (pace_row rows s passes.holds) (shown s.pace rows s passes.holds refl))

-- ---- the answer of `clap`

-- no kind is among none
none_among : (kind : ErrorKind) (kinds : Kinds) → kinds ≡ [] → IsAmong kind kinds → ⊥
none_among kind kinds none among = rw none at among

-- matches show what the words say
pub parsed : (line : App) (words : List Word) (rows : List Row) (said : Said) → line ≡ command_line → AllByRecursion IsUtf8 words
    → fault_of line words ≡ [] → rows ≡ matches_of line words → ((s : Said) → Shows rows s → said ≡ s) → IsSaid words said
parsed line words rows said is texts none found tells = run_said words said (at_end (run Any words nothing) refl)
  where
    at_end : (o : Option Said) → run Any words nothing ≡ o → o ≡ Some said
    at_end None ran = absurd (fault_refused words texts ran (ap (λ (a : App). fault_of a words) (sym is) ∙ none))
    at_end (Some s) ran =
        let rows_are : matches_of command_line words ≡ rows = ap (λ (a : App). matches_of a words) (sym is) ∙ sym found in
        ap (λ (t : Said). Some t) (sym (tells s (subst (λ (rs : List Row). Shows rs s) rows_are (shows words s texts ran))))

-- an error is want of memory, or the words say nothing
pub not_parsed : (line : App) (words : List Word) (error : Error) → line ≡ command_line → AllByRecursion IsUtf8 words
    → HasKind (fault_of line words) error → (kind_of error ≡ OutOfMemory) ⊎ ((s : Said) → ¬ IsSaid words s)
not_parsed line words error is texts (inl memory) = inl memory
not_parsed line words error is texts (inr among) = inr (λ s said. none-some s (sym (at_end (run Any words nothing) refl) ∙ said_run words s said))
  where
    at_end : (o : Option Said) → run Any words nothing ≡ o → o ≡ None
    at_end None ran = refl
    at_end (Some s) ran =
        absurd (none_among (kind_of error) (fault_of line words) (ap (λ (a : App). fault_of a words) is ∙ fault_taken words s texts ran) among)
