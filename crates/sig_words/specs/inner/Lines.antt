-- The command that `clap` is given, the same for all of ours: plain words in any number, each option once
-- with one value, and the flag once. No public clause speaks of it.
use Rattle.std.specs.Prelude.{◌≡◌, true, List, [], ◌∷◌, Some, unwrap_or, codes, if◌then◌else◌}
use Rattle.clap.specs.Walk.{Row, Rule, all_of, first_of, one_of}
use Rattle.clap.specs.Simple.{App, Shape, new_rule, new_shape}
use Rattle.clap.specs.declared.builder.action.ArgAction.TheVariants.{Append, SetTrue}
use Rattle.sig_words.specs.Readings.{name_of}
use Rattle.sig_words.specs.inner.Said.{Said}
use Rattle.sig_words.specs.declared.option.OptionName.{OptionName}
use Rattle.sig_words.specs.declared.option.OptionName.TheVariants.{Workers, Capacity, Instants}

abbrev pub plain_rule : Rule
plain_rule = record (new_rule (codes "words")) { action = Some Append }

abbrev pub option_rule : OptionName → Rule
option_rule option = record (new_rule (name_of option)) { long = Some (name_of option) }

abbrev pub pace_rule : Rule
pace_rule = record (new_rule (codes "pace")) { long = Some (codes "pace"); action = Some SetTrue }

abbrev pub line_shape : Shape
line_shape = record (new_shape (codes "sigc")) {
  no_binary_name = true;
  disable_help_flag = true;
  rules = plain_rule ∷ option_rule Workers ∷ option_rule Capacity ∷ option_rule Instants ∷ pace_rule ∷ [];
}

abbrev pub command_line : App
command_line = record { top = line_shape; subs = [] }

-- the matches are what was said
pub record Shows (rows : List Row) (s : Said) : Type 0 where
  pub plain : unwrap_or (all_of (codes "words") rows) [] ≡ s.plain
  pub workers : first_of (name_of Workers) rows ≡ s.workers
  pub capacity : first_of (name_of Capacity) rows ≡ s.capacity
  pub instants : first_of (name_of Instants) rows ≡ s.instants
  pub pace : one_of (codes "pace") rows ≡ Some (if s.pace then codes "true" else codes "false")
