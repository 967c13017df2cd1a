-- How the words after a command's name are read, one after another, with what was said so far.
use Rattle.sig_words.proofs.Common.{◌==◌, true, false, List, [], ◌∷◌, ◌++◌, Option, None, Some, option_map, option_and_then, is_some, codes, bytes_eq, if◌then◌else◌, Word, is_plain, name_of, Said, OptionName, Workers, Capacity, Instants}

-- what a next word is: a plain word, an option, the flag or `--`; the value of an option; or a plain word,
-- since `--` stands before it
pub data Next : Type 0 where
  Any : Next
  Value : OptionName → Next
  Plain : Next

abbrev pub nothing : Said
nothing = record { plain = []; workers = None; capacity = None; instants = None; pace = false }

-- one more plain word
abbrev pub with_plain : Word → Said → Said
with_plain word s = record s { plain = s.plain ++ word ∷ [] }

-- the value of an option, where it has none yet
abbrev pub with_value : OptionName → Word → Said → Option Said
with_value Workers value s = if is_some s.workers then None else Some (record s { workers = Some value })
with_value Capacity value s = if is_some s.capacity then None else Some (record s { capacity = Some value })
with_value Instants value s = if is_some s.instants then None else Some (record s { instants = Some value })

-- the flag, where it did not stand there yet
abbrev pub with_pace : Said → Option Said
with_pace s = if s.pace then None else Some (record s { pace = true })

-- what follows a front in a word
abbrev pub after_front : Word → Word → Option Word
after_front [] word = Some word
after_front (x ∷ xs) [] = None
after_front (x ∷ xs) (c ∷ cs) = if x == c then after_front xs cs else None

-- nothing, or `=` (61) and a value
abbrev pub value_in_rest : Word → Option (Option Word)
value_in_rest [] = Some None
value_in_rest (c ∷ cs) = if c == 61 then Some (Some cs) else None

-- an option's word, with its value where it has one
abbrev pub said_as : OptionName → Word → Option (Option Word)
said_as option word = option_and_then value_in_rest (after_front (codes "--" ++ name_of option) word)

abbrev pub or_else : {X : Type 0} → Option X → Option X → Option X
or_else (Some x) other = Some x
or_else None other = other

abbrev pub with_option : OptionName → Option Word → OptionName × Option Word
with_option option value = (option, value)

abbrev pub option_said : Word → Option (OptionName × Option Word)
option_said word = or_else (option_map (with_option Workers) (said_as Workers word))
    (or_else (option_map (with_option Capacity) (said_as Capacity word))
    (option_map (with_option Instants) (said_as Instants word)))

abbrev pub State : Type 0
State = Next × Said

abbrev pub any_next : Said → State
any_next s = (Any, s)

abbrev pub option_step : Option (OptionName × Option Word) → Said → Option State
option_step None s = None
option_step (Some (option, None)) s = Some (Value option, s)
option_step (Some (option, Some value)) s = option_map any_next (with_value option value s)

-- a word where anything may come
abbrev pub any_step : Word → Said → Option State
any_step word s = if bytes_eq word (codes "--") then Some (Plain, s)
    else (if is_plain word then Some (Any, with_plain word s)
    else (if bytes_eq word (codes "--pace") then option_map any_next (with_pace s)
    else option_step (option_said word) s))

-- one more word; none where it may not stand there
abbrev pub step : Next → Word → Said → Option State
step Any word s = any_step word s
step (Value option) word s = if is_plain word then option_map any_next (with_value option word s) else None
step Plain word s = Some (Plain, with_plain word s)

-- at the end no option may want its value
abbrev pub ended : Next → Said → Option Said
ended (Value option) s = None
ended _ s = Some s

-- what the words say from such a state on
unfoldable pub run : Next → List Word → Said → Option Said
run next [] s = ended next s
run next (word ∷ words) s = option_and_then (λ p. run p.0 words p.1) (step next word s)
