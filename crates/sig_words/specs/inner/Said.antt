-- What the words after a command's name say, whatever the command is.
use Rattle.std.specs.Prelude.{◌≡◌, ⊤, Bool, true, List, Option, option_map, option_to_list, if◌then◌else◌, map}
use Rattle.std.specs.Borrow.{Bor}
use Rattle.std.specs.List.{AllByRecursion}
use Rattle.sig_words.specs.Commands.{OptionValues, option_values}
use Rattle.sig_words.specs.Readings.{Word, Item, Apart, Reading, IsReading, is_plain, plain_words}
use Rattle.sig_words.specs.declared.command.Settings.{Settings}
use Rattle.sig_words.specs.declared.command.Command.{Command}
use Rattle.sig_words.specs.declared.command.Command.TheVariants.{Check, Tree, Code, Run, Play, Load, Exec}
use Rattle.sig_words.specs.declared.given.Given.{Given}

-- the texts behind references
abbrev pub referents : List (Bor Word) → List Word
referents = map (λ s. s.now)

-- what words say, where each option has one value at most and the flag stands there once at most
pub record Said : Type 0 where
  pub plain : List Word
  pub workers : Option Word
  pub capacity : Option Word
  pub instants : Option Word
  pub pace : Bool

abbrev pub said_by : Given → Said
said_by g = record {
  plain = referents g.plain.items;
  workers = option_map (λ s. s.now) g.workers;
  capacity = option_map (λ s. s.now) g.capacity;
  instants = option_map (λ s. s.now) g.instants;
  pace = g.pace;
}

abbrev pub said_values : Said → OptionValues
said_values s = record {
  workers = option_to_list s.workers;
  capacity = option_to_list s.capacity;
  instants = option_to_list s.instants;
  paces = if s.pace then 1 else 0;
}

-- a value in a word of its own is a plain word, as every number is
abbrev pub HasPlainValue : Item → Type 0
HasPlainValue (Apart option value) = is_plain value ≡ true
HasPlainValue _ = ⊤

-- the words have a reading that says this
pub record IsSaid (words : List Word) (s : Said) : Type 0 where
  pub reading : Reading
  pub reads : IsReading words reading
  pub apart : AllByRecursion HasPlainValue reading.items
  pub plain : s.plain ≡ plain_words reading
  pub values : said_values s ≡ option_values reading

-- a command that holds these settings, or of them the flag, or none
abbrev pub IsMadeWith : Settings → Command → Type 0
IsMadeWith s (Check program pace) = pace ≡ s.pace
IsMadeWith s (Tree program pace) = pace ≡ s.pace
IsMadeWith s (Code program pace) = pace ≡ s.pace
IsMadeWith s (Run program flows settings) = settings ≡ s
IsMadeWith s (Play program flows events settings) = settings ≡ s
IsMadeWith s (Load seed stages settings) = settings ≡ s
IsMadeWith s (Exec image flows settings) = settings ≡ s
IsMadeWith s _ = ⊤
