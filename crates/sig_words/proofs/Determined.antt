-- What the words of a command say.
use Rattle.sig_words.proofs.Common.{refl, ◌≡◌, ℕ, ◌≤◌, ◌<◌, ◌||◌, not, eqb, Bool, true, false, List, [], ◌∷◌, length, sym, ◌∙◌, arith, inl, inr, subst, digit_value, AllByRecursion, flat_map, nat_tests, Word, Item, Plain, Joined, Apart, Pace, Reading, IsReading, is_plain, values_in, values_of, paces, IsNumber, AreSettings, HasPlainWords, IsCommand, IsFlag, IsSetting, option_values, options_of, settings_of, spelling, verb_of, HasPlainValue, IsMadeWith, IsSaid, Said, said_values, Workers, Capacity, Instants, Options, Verb, Settings, Command}
use Rattle.sig_words.proofs.Steps.{nothing}
use Rattle.sig_words.proofs.Complete.{Fits, complete}
use Rattle.sig_words.proofs.Says.{said_once, same_values}
use Rattle.sig_words.proofs.Made.{command_same, kept, settings_same, verb_same}

-- a setting comes of one value at most
one_value : (has : Bool) (low high default : ℕ) (values : List Word) (n : ℕ) → IsSetting has low high default values n → length values ≤ 1
one_value true low high default (_ ∷ _ ∷ _) n is = absurd is
one_value false low high default values n is = rw is.0 (omega arith)
one_value true low high default _ n is = omega arith

one_flag : (has : Bool) (times : ℕ) (given : Bool) → IsFlag has times given → times ≤ 1
one_flag has times given (inl is) = omega (arith, is.0)
one_flag has times given (inr is) = omega (arith, is.1)

fits_nothing : (has : Options) (r : Reading) (s : Settings) → AreSettings has (option_values r) s → Fits nothing r
fits_nothing has r s are = record {
  workers = one_value _ _ _ _ (values_of Workers r) s.workers are.workers;
  capacity = one_value _ _ _ _ (values_of Capacity r) s.capacity are.capacity;
  instants = one_value _ _ _ _ (values_of Instants r) s.instants are.instants;
  paces = omega (arith, one_flag _ (paces r) s.pace are.pace);
}

-- the values are numbers, and so plain words
number_plain : (word : Word) (n : ℕ) → IsNumber word n → is_plain word ≡ true
number_plain [] n number = refl
number_plain (c ∷ cs) n number = at_byte (eqb c 45) refl
  where
    at_byte : (b : Bool) → eqb c 45 ≡ b → (not b || eqb (length cs) 0) ≡ true
    at_byte false is = refl
    at_byte true is =
        let minus : c ≡ 45 = grind (arith, nat_tests) in
        let digit : digit_value 45 < 10 = rw minus at number.numeral.1.0 in
        absurd (omega (arith, digit))

abbrev ArePlain : List Word → Type 0
ArePlain = AllByRecursion (λ (word : Word). is_plain word ≡ true)

setting_plain : (has : Bool) (low high default : ℕ) (values : List Word) (n : ℕ) → IsSetting has low high default values n → ArePlain values
setting_plain true low high default [] n is = tt
setting_plain true low high default (value ∷ []) n is = (number_plain value n is.number, tt)
setting_plain true low high default (_ ∷ _ ∷ _) n is = absurd is
setting_plain false low high default values n is = rw is.0 tt

values_plain : (items : List Item) → ArePlain (flat_map (values_in Workers) items) → ArePlain (flat_map (values_in Capacity) items)
    → ArePlain (flat_map (values_in Instants) items) → AllByRecursion HasPlainValue items
values_plain [] workers capacity instants = tt
values_plain (Plain word ∷ items) workers capacity instants = (tt, values_plain items workers capacity instants)
values_plain (Joined Workers value ∷ items) workers capacity instants = (tt, values_plain items workers.1 capacity instants)
values_plain (Joined Capacity value ∷ items) workers capacity instants = (tt, values_plain items workers capacity.1 instants)
values_plain (Joined Instants value ∷ items) workers capacity instants = (tt, values_plain items workers capacity instants.1)
values_plain (Apart Workers value ∷ items) workers capacity instants = (workers.0, values_plain items workers.1 capacity instants)
values_plain (Apart Capacity value ∷ items) workers capacity instants = (capacity.0, values_plain items workers capacity.1 instants)
values_plain (Apart Instants value ∷ items) workers capacity instants = (instants.0, values_plain items workers capacity instants.1)
values_plain (Pace ∷ items) workers capacity instants = (tt, values_plain items workers capacity instants)

settings_plain : (has : Options) (r : Reading) (s : Settings) → AreSettings has (option_values r) s → AllByRecursion HasPlainValue r.items
settings_plain has r s are =
    values_plain r.items (setting_plain _ _ _ _ _ s.workers are.workers) (setting_plain _ _ _ _ _ s.capacity are.capacity)
    (setting_plain _ _ _ _ _ s.instants are.instants)

-- the words say what gives the command
pub record Determines (v : Verb) (after : List Word) (c : Command) : Type 0 where
  pub same_verb : verb_of c ≡ v
  pub said : Said
  pub is : IsSaid after said
  pub plain : HasPlainWords c said.plain
  pub settings : AreSettings (options_of v) (said_values said) (settings_of c)

pub determined : (v : Verb) (words after : List Word) (c : Command) → words ≡ spelling v ∷ after → IsCommand words c → Determines v after c
determined v words after c named is =
    let front : spelling (verb_of c) ≡ spelling v = cc in
    let back : is.after ≡ after = cc in
    let same = verb_same (verb_of c) v front in
    let fits = fits_nothing _ is.reading _ is.settings in
    let apart = settings_plain _ is.reading _ is.settings in
    let read = complete is.reading.items is.reading.behind nothing is.reads.good apart fits in
    record {
      same_verb = same;
      said = read.after;
      is = record {
        reading = is.reading;
        reads = subst (λ (ws : List Word). IsReading ws is.reading) back is.reads;
        apart = apart;
        plain = read.adds.plain;
        values = same_values is.reading read.after read.adds;
      };
      plain = rw read.adds.plain is.plain;
      settings = rw (same_values is.reading read.after read.adds, ← same) is.settings;
    }

-- the command that was made of a verb, plain words and settings is the command of the words
pub makes : (v : Verb) (words after : List Word) (said : Said) (s : Settings) (c : Command) → words ≡ spelling v ∷ after
    → IsSaid after said → AreSettings (options_of v) (said_values said) s
    → verb_of c ≡ v → HasPlainWords c said.plain → IsMadeWith s c → IsCommand words c
makes v words after said s c named is are same plain made = record {
  after = after;
  named = rw same named;
  reading = is.reading;
  reads = is.reads;
  plain = rw is.plain at plain;
  settings = rw (← is.values) (kept c s (said_values said) (rw same are) made);
}

-- and the words have no other
pub only : (v : Verb) (words after : List Word) (said : Said) (c d : Command) → words ≡ spelling v ∷ after
    → IsSaid after said → verb_of c ≡ v → HasPlainWords c said.plain → AreSettings (options_of v) (said_values said) (settings_of c)
    → IsCommand words d → c ≡ d
only v words after said c d named is same plain are other =
    let det = determined v words after d named other in
    let back = said_once after det.said said det.is is in
    command_same c d said.plain (same ∙ sym det.same_verb) plain (rw back at det.plain)
    (settings_same (options_of v) (said_values said) (settings_of c) (settings_of d) are (rw back at det.settings))

pub only_made : (v : Verb) (words after : List Word) (said : Said) (s : Settings) (c d : Command) → words ≡ spelling v ∷ after
    → IsSaid after said → AreSettings (options_of v) (said_values said) s
    → verb_of c ≡ v → HasPlainWords c said.plain → IsMadeWith s c → IsCommand words d → c ≡ d
only_made v words after said s c d named is are same plain made other =
    let settings = kept c s (said_values said) (rw same are) made in
    only v words after said c d named is same plain (rw same at settings) other

-- words are at most one command
pub one : (words : List Word) (c d : Command) → IsCommand words c → IsCommand words d → c ≡ d
one words c d is other =
    let det = determined (verb_of c) words is.after c is.named is in
    only (verb_of c) words is.after det.said c d is.named det.is refl det.plain det.settings other
