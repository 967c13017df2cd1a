-- The command as `clap` builds it, and what its walk over the words stands at between two words.
use Rattle.sig_words.proofs.Common.{◌≡◌, Bool, true, false, List, [], ◌∷◌, Option, Some, None, codes, refl, is_simple_and_free, settle_fault, Kinds, Shape, is_simple, Held, Row, Rule, Text, Waiting, Walk, settled_rows, Set, command_line, line_shape, option_rule, pace_rule, plain_rule, OptionName, Workers, Capacity, Instants}
use Rattle.clap.specs.declared.builder.value_parser.ValueParser.TheVariants as parser

abbrev pub plain_built : Rule
plain_built = record plain_rule {
  index = Some 1;
  range = Some (record { start_inclusive = 1; end_inclusive = 1 });
  parser = Some parser.String;
}

abbrev pub option_built : OptionName → Rule
option_built option = record (option_rule option) {
  action = Some Set;
  range = Some (record { start_inclusive = 1; end_inclusive = 1 });
  parser = Some parser.String;
}

abbrev pub pace_built : Rule
pace_built = record pace_rule {
  range = Some (record { start_inclusive = 0; end_inclusive = 0 });
  defaults = codes "false" ∷ [];
  missing = codes "true" ∷ [];
  parser = Some parser.Bool;
}

abbrev pub rules : List Rule
rules = plain_built ∷ option_built Workers ∷ option_built Capacity ∷ option_built Instants ∷ pace_built ∷ []

abbrev pub top : Shape
top = record line_shape { rules = rules; disable_help_subcommand = true; is_built = true }

pub simple : is_simple command_line ≡ true
simple = refl

pub simple_and_free : is_simple_and_free command_line ≡ true
simple_and_free = refl

-- what is held, and where the walk stands; only the waiting option, the argument whose value was read last and
-- the rows change
abbrev pub held : Option (Text × List Text) → List Row → Held
held pending rows = record { rows = rows; pending = pending; skip = 0 }

abbrev pub at : Bool → Waiting → Option (Text × List Text) → List Row → Walk
at trailing waiting pending rows = record {
  held = held pending rows;
  waiting = waiting;
  position = 1;
  is_trailing = trailing;
  stopped = None;
}

-- what comes of the pending argument when the next word is met
abbrev pub pending_fault : Option (Text × List Text) → List Row → Kinds
pending_fault pending rows = settle_fault rules false (held pending rows)

abbrev pub rows_settled : Option (Text × List Text) → List Row → List Row
rows_settled pending rows = settled_rows rules pending rows
