-- A command is determined by its verb, its plain words and its settings.
use Rattle.sig_words.proofs.Common.{◌≡◌, ℕ, Bool, true, false, List, [], ◌∷◌, refl, sym, ap, ◌∙◌, arith, inl, inr, slice_index, if◌then◌else◌, ◌==◌, digits_value, false≢true, IsNumberWithin, Word, AreSettings, AreSeedAndStages, OptionValues, HasPlainWords, IsFlag, IsSetting, options_of, settings_of, spelling, verb_of, IsMadeWith, Options, Verb, Settings, Command, Check, Print, Tree, Code, Run, Play, Load, Judge, Build, Exec}
use Rattle.sig_words.specs.declared.verb.Verb.TheVariants as verb

-- ---- settings

number_same : (low high : ℕ) (word : Word) (n m : ℕ) → IsNumberWithin low high word n → IsNumberWithin low high word m → n ≡ m
number_same low high word n m a b = a.number.value ∙ sym b.number.value

setting_same : (has : Bool) (low high default : ℕ) (values : List Word) (n m : ℕ) → IsSetting has low high default values n
    → IsSetting has low high default values m → n ≡ m
setting_same true low high default [] n m a b = a ∙ sym b
setting_same true low high default (value ∷ []) n m a b = number_same low high value n m a b
setting_same true low high default (_ ∷ _ ∷ _) n m a b = absurd a
setting_same false low high default values n m a b = a.1 ∙ sym b.1

flag_same : (has : Bool) (times : ℕ) (a b : Bool) → IsFlag has times a → IsFlag has times b → a ≡ b
flag_same has times a b (inl x) (inl y) = x.1 ∙ sym y.1
flag_same has times a b (inl x) (inr y) = absurd (omega (arith, x.0, y.1))
flag_same has times a b (inr x) (inl y) = absurd (omega (arith, y.0, x.1))
flag_same has times a b (inr x) (inr y) = x.2 ∙ sym y.2

parts_same : (s t : Settings) → s.workers ≡ t.workers → s.capacity ≡ t.capacity → s.instants ≡ t.instants → s.pace ≡ t.pace → s ≡ t
parts_same s t w k i p =
    let whole : (a b c : ℕ) (d : Bool) → Settings = λ a b c d. record { workers = a; capacity = b; instants = c; pace = d } in
    ap (λ (x : ℕ). whole x s.capacity s.instants s.pace) w
    ∙ ap (λ (x : ℕ). whole t.workers x s.instants s.pace) k
    ∙ ap (λ (x : ℕ). whole t.workers t.capacity x s.pace) i
    ∙ ap (λ (x : Bool). whole t.workers t.capacity t.instants x) p

pub settings_same : (has : Options) (values : OptionValues) (s t : Settings) → AreSettings has values s → AreSettings has values t → s ≡ t
settings_same has values s t a b =
    parts_same s t
    (setting_same _ _ _ _ _ s.workers t.workers a.workers b.workers)
    (setting_same _ _ _ _ _ s.capacity t.capacity a.capacity b.capacity)
    (setting_same _ _ _ _ _ s.instants t.instants a.instants b.instants)
    (flag_same _ _ s.pace t.pace a.pace b.pace)

no_flag : (times : ℕ) (given : Bool) → IsFlag false times given → IsFlag false times false
no_flag times given (inl x) = inl (x.0, refl)
no_flag times given (inr x) = absurd (false≢true x.0)

-- settings of a command that has the flag at most, as those of the defaults with the flag
pub kept : (c : Command) (s : Settings) (values : OptionValues) → AreSettings (options_of (verb_of c)) values s → IsMadeWith s c
    → AreSettings (options_of (verb_of c)) values (settings_of c)
kept (Check program pace) s values are made = record {
  workers = (are.workers.0, refl);
  capacity = (are.capacity.0, refl);
  instants = (are.instants.0, refl);
  pace = rw made are.pace;
}
kept (Tree program pace) s values are made = record {
  workers = (are.workers.0, refl);
  capacity = (are.capacity.0, refl);
  instants = (are.instants.0, refl);
  pace = rw made are.pace;
}
kept (Code program pace) s values are made = record {
  workers = (are.workers.0, refl);
  capacity = (are.capacity.0, refl);
  instants = (are.instants.0, refl);
  pace = rw made are.pace;
}
kept (Run program flows settings) s values are made = rw made are
kept (Play program flows events settings) s values are made = rw made are
kept (Load seed stages settings) s values are made = rw made are
kept (Exec image flows settings) s values are made = rw made are
kept _ s values are made = record {
  workers = (are.workers.0, refl);
  capacity = (are.capacity.0, refl);
  instants = (are.instants.0, refl);
  pace = no_flag _ _ are.pace;
}

-- ---- the command of a verb, plain words and settings

first : List Word → Word
first [] = []
first (word ∷ words) = word

rest : List Word → List Word
rest [] = []
rest (word ∷ words) = words

built : Verb → List Word → Settings → Command
unfolding first rest
built verb.Check words s = Check (first words) s.pace
built verb.Print words s = Print (first words)
built verb.Tree words s = Tree (first words) s.pace
built verb.Code words s = Code (first words) s.pace
built verb.Run words s = Run (first words) (first (rest words)) s
built verb.Play words s = Play (first words) (first (rest words)) (first (rest (rest words))) s
built verb.Load words s = Load (digits_value 10 (first words)) (digits_value 10 (first (rest words))) s
built verb.Judge words s = Judge (first words) (first (rest words))
built verb.Build words s = Build (first words)
built verb.Exec words s = Exec (first words) (first (rest words)) s

load_built : (words : List Word) (seed stages : ℕ) (s : Settings) → AreSeedAndStages words seed stages → Load seed stages s ≡ built verb.Load words s
unfolding built first rest
load_built (a ∷ b ∷ []) seed stages s are = rw (are.0.number.value, are.1.number.value) refl
load_built _ seed stages s are = absurd are

is_built : (c : Command) (words : List Word) → HasPlainWords c words → c ≡ built (verb_of c) words (settings_of c)
unfolding built first rest
is_built (Load seed stages settings) words has = load_built words seed stages settings has
is_built _ words has = rw has refl

pub command_same : (c d : Command) (words : List Word) → verb_of c ≡ verb_of d → HasPlainWords c words → HasPlainWords d words
    → settings_of c ≡ settings_of d → c ≡ d
command_same c d words verbs plain plain' settings =
    is_built c words plain
    ∙ rw (verbs, settings) refl
    ∙ sym (is_built d words plain')

-- ---- verbs by their names

decoded : Word → Verb
decoded word =
    let a = slice_index word 0 in
    let b = slice_index word 1 in
    if a == 99 then (if b == 104 then verb.Check else verb.Code)
    else (if a == 112 then (if b == 114 then verb.Print else verb.Play)
    else (if a == 116 then verb.Tree
    else (if a == 114 then verb.Run
    else (if a == 108 then verb.Load
    else (if a == 106 then verb.Judge
    else (if a == 98 then verb.Build else verb.Exec))))))

decodes : (v : Verb) → decoded (spelling v) ≡ v
unfolding decoded
decodes verb.Check = refl
decodes _ = refl

pub verb_same : (v w : Verb) → spelling v ≡ spelling w → v ≡ w
verb_same v w same = sym (decodes v) ∙ ap decoded same ∙ decodes w
