-- Rows that hold what was said, and how each use of an argument changes both.
use Rattle.sig_words.proofs.Common.{◌≡◌, Bool, true, false, List, [], ◌∷◌, ◌++◌, refl, ap, ◌∙◌, cond, Option, Some, None, codes, is_some, option_map, unwrap_or, bytes_eq, Row, Text, all_of, has_row, used, with_values, without, AsWritten, CommandLine, Word, name_of, Said, OptionName, Workers, Capacity, Instants}
use Rattle.sig_words.proofs.Steps.{with_pace, with_plain, with_value}
use Rattle.sig_words.proofs.Built.{option_built, pace_built, plain_built}
use Rattle.sig_words.proofs.Summary.{once, once_false}
use Rattle.sig_words.proofs.Rows.{AreWritten, has_row_all, values_other, values_same, values_written, without_absent}

abbrev pub one_value : Word → List Word
one_value value = value ∷ []

abbrev pub given_value : OptionName → Said → Option Word
given_value Workers s = s.workers
given_value Capacity s = s.capacity
given_value Instants s = s.instants

abbrev pub pace_values : Bool → Option (List Word)
pace_values pace = cond pace (Some (codes "true" ∷ [])) None

pub record Holds (rows : List Row) (s : Said) : Type 0 where
  pub plain : unwrap_or (all_of (codes "words") rows) [] ≡ s.plain
  pub workers : all_of (name_of Workers) rows ≡ option_map one_value s.workers
  pub capacity : all_of (name_of Capacity) rows ≡ option_map one_value s.capacity
  pub instants : all_of (name_of Instants) rows ≡ option_map one_value s.instants
  pub pace : all_of (codes "pace") rows ≡ pace_values s.pace
  pub written : AreWritten rows

abbrev more : Text → List Text → List Row → List Row
more id values rows = with_values id AsWritten CommandLine values rows

-- a plain word
pub holds_plain : (rows : List Row) (s : Said) (word : Word) → Holds rows s → Holds (used plain_built (word ∷ []) rows) (with_plain word s)
holds_plain rows s word h = record {
  plain = ap (λ (o : Option (List Word)). unwrap_or o []) (values_same (codes "words") AsWritten CommandLine (word ∷ []) rows)
      ∙ ap (λ (ws : List Word). ws ++ word ∷ []) h.plain;
  workers = values_other (codes "words") (name_of Workers) AsWritten CommandLine (word ∷ []) rows refl ∙ h.workers;
  capacity = values_other (codes "words") (name_of Capacity) AsWritten CommandLine (word ∷ []) rows refl ∙ h.capacity;
  instants = values_other (codes "words") (name_of Instants) AsWritten CommandLine (word ∷ []) rows refl ∙ h.instants;
  pace = values_other (codes "words") (codes "pace") AsWritten CommandLine (word ∷ []) rows refl ∙ h.pace;
  written = values_written (codes "words") CommandLine (word ∷ []) rows h.written;
}

-- an id without a row gets these values
set_same : (id : Text) (values : List Text) (rows : List Row) → all_of id rows ≡ None → all_of id (more id values (without id rows)) ≡ Some values
set_same id values rows none =
    ap (λ (rs : List Row). all_of id (more id values rs)) (without_absent id rows none) ∙ values_same id AsWritten CommandLine values rows
    ∙ ap (λ (o : Option (List Text)). Some (unwrap_or o [] ++ values)) none

set_other : (id other : Text) (values : List Text) (rows : List Row) → all_of id rows ≡ None → bytes_eq id other ≡ false
    → all_of other (more id values (without id rows)) ≡ all_of other rows
set_other id other values rows none apart =
    ap (λ (rs : List Row). all_of other (more id values rs)) (without_absent id rows none) ∙ values_other id other AsWritten CommandLine values rows apart

set_written : (id : Text) (values : List Text) (rows : List Row) → all_of id rows ≡ None → AreWritten rows → AreWritten (more id values (without id rows))
set_written id values rows none all = rw (without_absent id rows none) (values_written id CommandLine values rows all)

-- an option with its value
pub holds_value : (name : OptionName) (value : Word) (rows : List Row) (s next : Said) → Holds rows s → with_value name value s ≡ Some next
    → Holds (used (option_built name) (value ∷ []) rows) next
holds_value Workers value rows s next h is =
    let p = once s.workers (record s { workers = Some value }) next is in
    let none : all_of (name_of Workers) rows ≡ None = h.workers ∙ ap (option_map one_value) p.0 in
    rw p.1 record {
      plain = ap (λ (o : Option (List Word)). unwrap_or o []) (set_other (name_of Workers) (codes "words") (value ∷ []) rows none refl) ∙ h.plain;
      workers = set_same (name_of Workers) (value ∷ []) rows none;
      capacity = set_other (name_of Workers) (name_of Capacity) (value ∷ []) rows none refl ∙ h.capacity;
      instants = set_other (name_of Workers) (name_of Instants) (value ∷ []) rows none refl ∙ h.instants;
      pace = set_other (name_of Workers) (codes "pace") (value ∷ []) rows none refl ∙ h.pace;
      written = set_written (name_of Workers) (value ∷ []) rows none h.written;
    }
holds_value Capacity value rows s next h is =
    let p = once s.capacity (record s { capacity = Some value }) next is in
    let none : all_of (name_of Capacity) rows ≡ None = h.capacity ∙ ap (option_map one_value) p.0 in
    rw p.1 record {
      plain = ap (λ (o : Option (List Word)). unwrap_or o []) (set_other (name_of Capacity) (codes "words") (value ∷ []) rows none refl) ∙ h.plain;
      workers = set_other (name_of Capacity) (name_of Workers) (value ∷ []) rows none refl ∙ h.workers;
      capacity = set_same (name_of Capacity) (value ∷ []) rows none;
      instants = set_other (name_of Capacity) (name_of Instants) (value ∷ []) rows none refl ∙ h.instants;
      pace = set_other (name_of Capacity) (codes "pace") (value ∷ []) rows none refl ∙ h.pace;
      written = set_written (name_of Capacity) (value ∷ []) rows none h.written;
    }
holds_value Instants value rows s next h is =
    let p = once s.instants (record s { instants = Some value }) next is in
    let none : all_of (name_of Instants) rows ≡ None = h.instants ∙ ap (option_map one_value) p.0 in
    rw p.1 record {
      plain = ap (λ (o : Option (List Word)). unwrap_or o []) (set_other (name_of Instants) (codes "words") (value ∷ []) rows none refl) ∙ h.plain;
      workers = set_other (name_of Instants) (name_of Workers) (value ∷ []) rows none refl ∙ h.workers;
      capacity = set_other (name_of Instants) (name_of Capacity) (value ∷ []) rows none refl ∙ h.capacity;
      instants = set_same (name_of Instants) (value ∷ []) rows none;
      pace = set_other (name_of Instants) (codes "pace") (value ∷ []) rows none refl ∙ h.pace;
      written = set_written (name_of Instants) (value ∷ []) rows none h.written;
    }

-- the flag
pub holds_pace : (rows : List Row) (s next : Said) → Holds rows s → with_pace s ≡ Some next → Holds (used pace_built [] rows) next
holds_pace rows s next h is =
    let p = once_false s.pace (record s { pace = true }) next is in
    let none : all_of (codes "pace") rows ≡ None = h.pace ∙ ap pace_values p.0 in
    rw p.1 record {
      plain = ap (λ (o : Option (List Word)). unwrap_or o []) (set_other (codes "pace") (codes "words") (codes "true" ∷ []) rows none refl) ∙ h.plain;
      workers = set_other (codes "pace") (name_of Workers) (codes "true" ∷ []) rows none refl ∙ h.workers;
      capacity = set_other (codes "pace") (name_of Capacity) (codes "true" ∷ []) rows none refl ∙ h.capacity;
      instants = set_other (codes "pace") (name_of Instants) (codes "true" ∷ []) rows none refl ∙ h.instants;
      pace = set_same (codes "pace") (codes "true" ∷ []) rows none;
      written = set_written (codes "pace") (codes "true" ∷ []) rows none h.written;
    }

-- what is given already has a row, and what is not has none
map_some : (o : Option Word) → is_some (option_map one_value o) ≡ is_some o
map_some None = refl
map_some (Some w) = refl

pub value_row : (name : OptionName) (rows : List Row) (s : Said) → Holds rows s → has_row (name_of name) rows ≡ is_some (given_value name s)
value_row Workers rows s h = has_row_all (name_of Workers) rows ∙ ap is_some h.workers ∙ map_some s.workers
value_row Capacity rows s h = has_row_all (name_of Capacity) rows ∙ ap is_some h.capacity ∙ map_some s.capacity
value_row Instants rows s h = has_row_all (name_of Instants) rows ∙ ap is_some h.instants ∙ map_some s.instants

pace_some : (b : Bool) → is_some (pace_values b) ≡ b
pace_some true = refl
pace_some false = refl

pub pace_row : (rows : List Row) (s : Said) → Holds rows s → has_row (codes "pace") rows ≡ s.pace
pace_row rows s h = has_row_all (codes "pace") rows ∙ ap is_some h.pace ∙ pace_some s.pace
