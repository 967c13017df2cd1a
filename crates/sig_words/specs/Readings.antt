-- What the words after a command's name say, whatever the command is.
use Rattle.std.specs.Prelude.{◌≡◌, ◌==◌, ◌||◌, not, ℕ, Bool, true, false, List, [], ◌∷◌, ◌++◌, ⊤, length, Option, None, Some, unwrap_or, codes, filter, if◌then◌else◌, map, String, string_bytes}
use Rattle.std.specs.List.{AllByRecursion, flat_map}
use Rattle.std.specs.declared.alloc.Global.{Global}
use Rattle.sig_words.specs.declared.option.OptionName.{OptionName}
use Rattle.sig_words.specs.declared.option.OptionName.TheVariants.{Workers, Capacity, Instants}

abbrev pub Word : Type 0
Word = List ℕ

-- the bytes of each word of a command line
abbrev pub texts : List (String Global) → List Word
texts = map string_bytes

-- an option's name, as it stands behind `--`
abbrev pub name_of : OptionName → Word
name_of Workers = codes "workers"
name_of Capacity = codes "capacity"
name_of Instants = codes "instants"

-- an item: a plain word, an option with its value in one word or in two, or the flag
pub data Item : Type 0 where
  Plain : Word → Item
  Joined : OptionName → Word → Item
  Apart : OptionName → Word → Item
  Pace : Item

-- the words that an item is written with: `--name=value` in one, `--name` and the value in two
abbrev pub written : Item → List Word
written (Plain word) = word ∷ []
written (Joined option value) = (codes "--" ++ (name_of option ++ (codes "=" ++ value))) ∷ []
written (Apart option value) = (codes "--" ++ name_of option) ∷ value ∷ []
written Pace = codes "--pace" ∷ []

-- the word does not begin with `-`, or it is `-` alone; the empty word is among these
abbrev pub is_plain : Word → Bool
is_plain [] = true
is_plain (c ∷ cs) = not (c == 45) || (length cs == 0)

-- a plain word among the items is one of these
abbrev pub IsGood : Item → Type 0
IsGood (Plain word) = is_plain word ≡ true
IsGood _ = ⊤

-- items, and then, where there is a `--`, the words behind it, which are all plain
pub record Reading : Type 0 where
  pub items : List Item
  pub behind : Option (List Word)

abbrev pub written_behind : Option (List Word) → List Word
written_behind None = []
written_behind (Some words) = codes "--" ∷ words

-- the words are what the reading is written with
pub record IsReading (words : List Word) (r : Reading) : Type 0 where
  pub good : AllByRecursion IsGood r.items
  pub whole : words ≡ flat_map written r.items ++ written_behind r.behind

-- the plain words
abbrev pub plain_in : Item → List Word
plain_in (Plain word) = word ∷ []
plain_in _ = []

abbrev pub plain_words : Reading → List Word
plain_words r = flat_map plain_in r.items ++ unwrap_or r.behind []

-- whether two options are one
abbrev pub same_option : OptionName → OptionName → Bool
same_option Workers Workers = true
same_option Capacity Capacity = true
same_option Instants Instants = true
same_option _ _ = false

-- the values that an option is given, one for each time that it stands there
abbrev pub values_in : OptionName → Item → List Word
values_in option (Plain word) = []
values_in option (Joined other value) = if same_option option other then value ∷ [] else []
values_in option (Apart other value) = if same_option option other then value ∷ [] else []
values_in option Pace = []

abbrev pub values_of : OptionName → Reading → List Word
values_of option r = flat_map (values_in option) r.items

-- how often the flag stands there
abbrev pub is_pace : Item → Bool
is_pace Pace = true
is_pace _ = false

abbrev pub paces : Reading → ℕ
paces r = length (filter is_pace r.items)
