-- The commands, and the words that are one.
use Rattle.std.specs.Prelude.{◌≡◌, ◌⊎◌, ℕ, Bool, true, false, List, [], ◌∷◌, codes}
use Rattle.sig_base.specs.declared.limits.TheConstants.{WORKERS_MAX, WORKERS_DEFAULT, CAPACITY_MAX, CAPACITY_DEFAULT, INSTANTS_MAX, INSTANTS_DEFAULT}
use Rattle.sig_words.specs.inner.Numbers.{IsNumberWithin}
use Rattle.sig_words.specs.Readings.{Word, Reading, IsReading, plain_words, values_of, paces}
use Rattle.sig_words.specs.declared.option.OptionName.TheVariants.{Workers, Capacity, Instants}
use Rattle.sig_words.specs.declared.verb.Options.{Options}
use Rattle.sig_words.specs.declared.verb.Verb.{Verb}
use Rattle.sig_words.specs.declared.verb.Verb.TheVariants as verb
use Rattle.sig_words.specs.declared.command.Settings.{Settings}
use Rattle.sig_words.specs.declared.command.Command.{Command}
use Rattle.sig_words.specs.declared.command.Command.TheVariants.{Check, Print, Tree, Code, Run, Play, Load, Judge, Build, Exec}

-- a command's verb, and its name
abbrev pub verb_of : Command → Verb
verb_of (Check program pace) = verb.Check
verb_of (Print program) = verb.Print
verb_of (Tree program pace) = verb.Tree
verb_of (Code program pace) = verb.Code
verb_of (Run program flows settings) = verb.Run
verb_of (Play program flows events settings) = verb.Play
verb_of (Load seed stages settings) = verb.Load
verb_of (Judge program trace) = verb.Judge
verb_of (Build program) = verb.Build
verb_of (Exec image flows settings) = verb.Exec

abbrev pub spelling : Verb → Word
spelling verb.Check = codes "check"
spelling verb.Print = codes "print"
spelling verb.Tree = codes "tree"
spelling verb.Code = codes "code"
spelling verb.Run = codes "run"
spelling verb.Play = codes "play"
spelling verb.Load = codes "load"
spelling verb.Judge = codes "judge"
spelling verb.Build = codes "build"
spelling verb.Exec = codes "exec"

-- the files that a command names, in their order
abbrev pub files_of : Command → List Word
files_of (Check program pace) = program ∷ []
files_of (Print program) = program ∷ []
files_of (Tree program pace) = program ∷ []
files_of (Code program pace) = program ∷ []
files_of (Run program flows settings) = program ∷ flows ∷ []
files_of (Play program flows events settings) = program ∷ flows ∷ events ∷ []
files_of (Load seed stages settings) = []
files_of (Judge program trace) = program ∷ trace ∷ []
files_of (Build program) = program ∷ []
files_of (Exec image flows settings) = image ∷ flows ∷ []

abbrev pub no_options : Options
no_options = record { workers = false; capacity = false; instants = false; pace = false }

abbrev pub only_pace : Options
only_pace = record { workers = false; capacity = false; instants = false; pace = true }

-- the options of a command
abbrev pub options_of : Verb → Options
options_of verb.Check = only_pace
options_of verb.Print = no_options
options_of verb.Tree = only_pace
options_of verb.Code = only_pace
options_of verb.Run = record { workers = true; capacity = true; instants = true; pace = true }
options_of verb.Play = record { workers = false; capacity = true; instants = true; pace = true }
options_of verb.Load = record { workers = true; capacity = true; instants = false; pace = false }
options_of verb.Judge = no_options
options_of verb.Build = no_options
options_of verb.Exec = record { workers = false; capacity = false; instants = true; pace = false }

-- the settings where nothing is given but the flag or its absence
abbrev pub defaults_with : Bool → Settings
defaults_with pace = record {
  workers = WORKERS_DEFAULT;
  capacity = CAPACITY_DEFAULT;
  instants = INSTANTS_DEFAULT;
  pace = pace;
}

-- the settings of a command; one that holds none has the defaults
abbrev pub settings_of : Command → Settings
settings_of (Check program pace) = defaults_with pace
settings_of (Tree program pace) = defaults_with pace
settings_of (Code program pace) = defaults_with pace
settings_of (Run program flows settings) = settings
settings_of (Play program flows events settings) = settings
settings_of (Load seed stages settings) = settings
settings_of (Exec image flows settings) = settings
settings_of _ = defaults_with false

-- the greatest seed
abbrev pub seed_max : ℕ
seed_max = 18446744073709551615

-- two words are numbers: a seed, and stages from 1 to 12
abbrev pub AreSeedAndStages : List Word → ℕ → ℕ → Type 0
AreSeedAndStages (a ∷ b ∷ []) seed stages = IsNumberWithin 0 seed_max a seed × IsNumberWithin 1 12 b stages
AreSeedAndStages _ seed stages = ⊥

-- the plain words are the command's, and as many
abbrev pub HasPlainWords : Command → List Word → Type 0
HasPlainWords (Check program pace) words = words ≡ program ∷ []
HasPlainWords (Print program) words = words ≡ program ∷ []
HasPlainWords (Tree program pace) words = words ≡ program ∷ []
HasPlainWords (Code program pace) words = words ≡ program ∷ []
HasPlainWords (Run program flows settings) words = words ≡ program ∷ flows ∷ []
HasPlainWords (Play program flows events settings) words = words ≡ program ∷ flows ∷ events ∷ []
HasPlainWords (Load seed stages settings) words = AreSeedAndStages words seed stages
HasPlainWords (Judge program trace) words = words ≡ program ∷ trace ∷ []
HasPlainWords (Build program) words = words ≡ program ∷ []
HasPlainWords (Exec image flows settings) words = words ≡ image ∷ flows ∷ []

-- no value is given, and the setting is the default; or one is, a number within the limits
abbrev pub IsDefaultOrGiven : (low high default : ℕ) → List Word → ℕ → Type 0
IsDefaultOrGiven low high default [] n = n ≡ default
IsDefaultOrGiven low high default (value ∷ []) n = IsNumberWithin low high value n
IsDefaultOrGiven low high default (_ ∷ _ ∷ _) n = ⊥

-- a setting by an option that the command has, or has not: there no value may be given
abbrev pub IsSetting : Bool → (low high default : ℕ) → List Word → ℕ → Type 0
IsSetting true low high default values n = IsDefaultOrGiven low high default values n
IsSetting false low high default values n = (values ≡ []) × (n ≡ default)

-- the flag stands there at most once, and only where the command has it
abbrev pub IsFlag : Bool → ℕ → Bool → Type 0
IsFlag has times given = ((times ≡ 0) × (given ≡ false)) ⊎ ((has ≡ true) × (times ≡ 1) × (given ≡ true))

-- the values of each option, and how often the flag stands there
pub record OptionValues : Type 0 where
  pub workers : List Word
  pub capacity : List Word
  pub instants : List Word
  pub paces : ℕ

abbrev pub option_values : Reading → OptionValues
option_values r = record {
  workers = values_of Workers r;
  capacity = values_of Capacity r;
  instants = values_of Instants r;
  paces = paces r;
}

-- the settings are those that this gives to a command with these options
pub record AreSettings (has : Options) (values : OptionValues) (s : Settings) : Type 0 where
  pub workers : IsSetting has.workers 0 WORKERS_MAX WORKERS_DEFAULT values.workers s.workers
  pub capacity : IsSetting has.capacity 1 CAPACITY_MAX CAPACITY_DEFAULT values.capacity s.capacity
  pub instants : IsSetting has.instants 1 INSTANTS_MAX INSTANTS_DEFAULT values.instants s.instants
  pub pace : IsFlag has.pace values.paces s.pace

-- The words are this command: its name, and then words with a reading that gives the command's plain
-- words and its settings.
pub record IsCommand (words : List Word) (command : Command) : Type 0 where
  pub after : List Word
  pub named : words ≡ spelling (verb_of command) ∷ after
  pub reading : Reading
  pub reads : IsReading after reading
  pub plain : HasPlainWords command (plain_words reading)
  pub settings : AreSettings (options_of (verb_of command)) (option_values reading) (settings_of command)
