-- A reading of the words is what they are read as.
use Rattle.sig_words.proofs.Common.{◌≡◌, ℕ, ◌+◌, ◌≤◌, Bool, true, false, List, [], ◌∷◌, ◌++◌, length, refl, sym, ap, ◌∙◌, arith, Option, Some, None, option_to_list, cond, eqb, codes, option_map, option_and_then, AllByRecursion, flat_map, bytes_eq, false≢true, nat_tests, append-nil, bytes_eq-Decides, Word, Item, Plain, Joined, Apart, Pace, Reading, IsGood, is_plain, name_of, values_of, paces, written, written_behind, HasPlainValue, Said, OptionName, Workers, Capacity, Instants}
use Rattle.sig_words.proofs.Steps.{State, any_next, any_step, run, with_pace, with_plain, with_value}
use Rattle.sig_words.proofs.Steps as next
use Rattle.sig_words.proofs.Sound.{option_word, run_plain}
use Rattle.sig_words.proofs.Summary.{Adds, Adds-apart, Adds-joined, Adds-pace, Adds-plain, said_paces, with_item}

-- each option is given at most once, and the flag at most once, what was said before included
pub record Fits (before : Said) (r : Reading) : Type 0 where
  pub workers : length (option_to_list before.workers ++ values_of Workers r) ≤ 1
  pub capacity : length (option_to_list before.capacity ++ values_of Capacity r) ≤ 1
  pub instants : length (option_to_list before.instants ++ values_of Instants r) ≤ 1
  pub paces : said_paces before + paces r ≤ 1

-- what the words of a reading are read as
pub record IsRead (words : List Word) (before : Said) (r : Reading) : Type 0 where
  pub after : Said
  pub runs : run next.Any words before ≡ Some after
  pub adds : Adds before r after

-- a plain word is taken as one
not_closing : (word : Word) → is_plain word ≡ true → bytes_eq word (codes "--") ≡ false
not_closing word plain = at_test (bytes_eq word (codes "--")) refl
  where
    at_test : (b : Bool) → bytes_eq word (codes "--") ≡ b → b ≡ false
    at_test false is = refl
    at_test true is =
        let same : word ≡ codes "--" = (bytes_eq-Decides word (codes "--")).0 is in
        let no : false ≡ true = rw same at plain in absurd (false≢true no)

pub plain_step : (word : Word) (before : Said) → is_plain word ≡ true → any_step word before ≡ Some (next.Any, with_plain word before)
plain_step word before plain = rw (not_closing word plain, plain) refl

pub not_empty : (word : Word) (c : ℕ) → eqb (length (c ∷ word)) 0 ≡ false
not_empty word c = grind (arith, nat_tests)

-- an option's word is taken as one
pub joined_step : (option : OptionName) (value : Word) (before : Said)
    → any_step (option_word option (Some value)) before ≡ option_map any_next (with_value option value before)
joined_step Workers value before = rw (not_empty (name_of Workers ++ (codes "=" ++ value)) 45) refl
joined_step option value before = rw (not_empty (name_of option ++ (codes "=" ++ value)) 45) refl

pub apart_step : (option : OptionName) (before : Said) → any_step (codes "--" ++ name_of option) before ≡ Some (next.Value option, before)
apart_step Workers before = refl
apart_step _ before = refl

pub pace_step : (before : Said) → any_step (codes "--pace") before ≡ option_map any_next (with_pace before)
pace_step before = refl

-- an option that fits has no value yet
empty_slot : (o : Option Word) (value : Word) (values : List Word) → length (option_to_list o ++ (value ∷ values)) ≤ 1 → o ≡ None
empty_slot None value values fits = refl
empty_slot (Some w) value values fits = absurd (omega arith)

-- giving it one
pub record Given (option : OptionName) (value : Word) (before : Said) (r : Reading) : Type 0 where
  pub next : Said
  pub gives : with_value option value before ≡ Some next
  pub fits : Fits next r

gives : (option : OptionName) (value : Word) (before : Said) (r : Reading) → Fits before (with_item (Joined option value) r) → Given option value before r
gives Workers value before r fits =
    let none = empty_slot before.workers value (values_of Workers r) fits.workers in
    record {
      next = record before { workers = Some value };
      gives = rw none refl;
      fits = record { workers = rw none at fits.workers; capacity = fits.capacity; instants = fits.instants; paces = fits.paces };
    }
gives Capacity value before r fits =
    let none = empty_slot before.capacity value (values_of Capacity r) fits.capacity in
    record {
      next = record before { capacity = Some value };
      gives = rw none refl;
      fits = record { workers = fits.workers; capacity = rw none at fits.capacity; instants = fits.instants; paces = fits.paces };
    }
gives Instants value before r fits =
    let none = empty_slot before.instants value (values_of Instants r) fits.instants in
    record {
      next = record before { instants = Some value };
      gives = rw none refl;
      fits = record { workers = fits.workers; capacity = fits.capacity; instants = rw none at fits.instants; paces = fits.paces };
    }

no_pace : (before : Said) (n : ℕ) → said_paces before + (n + 1) ≤ 1 → before.pace ≡ false
no_pace before n fits = at (before.pace) refl
  where
    at : (b : Bool) → before.pace ≡ b → b ≡ false
    at false is = refl
    at true is = let more : 1 + (n + 1) ≤ 1 = rw is at fits in absurd (omega arith)

-- the words of a reading, from such a summary on
abbrev words_of : List Item → Option (List Word) → List Word
words_of items behind = flat_map written items ++ written_behind behind

-- an option's value follows, and then what the rest is read as
abbrev joined_on : Option Said → List Word → Option Said
joined_on o words = option_and_then (λ p. run p.0 words p.1) (option_map any_next o)

no_item : (behind : Option (List Word)) (before : Said) → IsRead (written_behind behind) before (record { items = []; behind = behind })
unfolding run
no_item None before = record {
  after = before;
  runs = refl;
  adds = record {
    plain = sym (append-nil before.plain);
    workers = sym (append-nil (option_to_list before.workers));
    capacity = sym (append-nil (option_to_list before.capacity));
    instants = sym (append-nil (option_to_list before.instants));
    paces = omega arith;
  };
}
no_item (Some words) before = record {
  after = record before { plain = before.plain ++ words };
  runs = run_plain words before;
  adds = record {
    plain = refl;
    workers = sym (append-nil (option_to_list before.workers));
    capacity = sym (append-nil (option_to_list before.capacity));
    instants = sym (append-nil (option_to_list before.instants));
    paces = omega arith;
  };
}

-- one more item in front
plain_read : (word : Word) (words : List Word) (before : Said) (r : Reading) → is_plain word ≡ true → IsRead words (with_plain word before) r
    → IsRead (word ∷ words) before (with_item (Plain word) r)
unfolding run
plain_read word words before r plain rest = record {
  after = rest.after;
  runs = ap (λ (o : Option State). option_and_then (λ p. run p.0 words p.1) o) (plain_step word before plain) ∙ rest.runs;
  adds = Adds-plain word before rest.after r rest.adds;
}

joined_read : (option : OptionName) (value : Word) (words : List Word) (before next : Said) (r : Reading) → with_value option value before ≡ Some next
    → IsRead words next r → IsRead (option_word option (Some value) ∷ words) before (with_item (Joined option value) r)
unfolding run
joined_read option value words before next r gives rest = record {
  after = rest.after;
  runs = ap (λ (o : Option State). option_and_then (λ p. run p.0 words p.1) o) (joined_step option value before)
      ∙ ap (λ (o : Option Said). joined_on o words) gives ∙ rest.runs;
  adds = Adds-joined option value before next rest.after r gives rest.adds;
}

apart_read : (option : OptionName) (value : Word) (words : List Word) (before next : Said) (r : Reading) → is_plain value ≡ true → with_value option value before ≡ Some next
    → IsRead words next r → IsRead ((codes "--" ++ name_of option) ∷ value ∷ words) before (with_item (Apart option value) r)
unfolding run
apart_read option value words before next r plain gives rest = record {
  after = rest.after;
  runs = ap (λ (o : Option State). option_and_then (λ p. run p.0 (value ∷ words) p.1) o) (apart_step option before)
      ∙ ap (λ (b : Bool). option_and_then (λ (p : State). run p.0 words p.1) (cond b (option_map any_next (with_value option value before)) None)) plain
      ∙ ap (λ (o : Option Said). joined_on o words) gives ∙ rest.runs;
  adds = Adds-apart option value before next rest.after r gives rest.adds;
}

pace_read : (words : List Word) (before : Said) (r : Reading) → before.pace ≡ false
    → IsRead words (record before { pace = true }) r → IsRead (codes "--pace" ∷ words) before (with_item Pace r)
unfolding run
pace_read words before r none rest =
    let is : with_pace before ≡ Some (record before { pace = true }) = rw none refl in
    record {
      after = rest.after;
      runs = ap (λ (o : Option State). option_and_then (λ p. run p.0 words p.1) o) (pace_step before)
          ∙ ap (λ (o : Option Said). joined_on o words) is ∙ rest.runs;
      adds = Adds-pace before (record before { pace = true }) rest.after r is rest.adds;
    }

-- a reading that fits is what its words are read as
pub complete : (items : List Item) (behind : Option (List Word)) (before : Said) → AllByRecursion IsGood items → AllByRecursion HasPlainValue items
    → Fits before (record { items = items; behind = behind }) → IsRead (words_of items behind) before (record { items = items; behind = behind })
complete [] behind before good apart fits = no_item behind before
complete (Plain word ∷ items) behind before good apart fits =
    plain_read word (words_of items behind) before (record { items = items; behind = behind }) good.0
    (complete items behind (with_plain word before) good.1 apart.1
    (record { workers = fits.workers; capacity = fits.capacity; instants = fits.instants; paces = fits.paces }))
complete (Joined option value ∷ items) behind before good apart fits =
    let r : Reading = record { items = items; behind = behind } in
    let g = gives option value before r fits in
    joined_read option value (words_of items behind) before g.next r g.gives (complete items behind g.next good.1 apart.1 g.fits)
complete (Apart option value ∷ items) behind before good apart fits =
    let r : Reading = record { items = items; behind = behind } in
    let g = gives option value before r
    (record { workers = fits.workers; capacity = fits.capacity; instants = fits.instants; paces = fits.paces }) in
    apart_read option value (words_of items behind) before g.next r apart.0 g.gives (complete items behind g.next good.1 apart.1 g.fits)
complete (Pace ∷ items) behind before good apart fits =
    let r : Reading = record { items = items; behind = behind } in
    let count : said_paces before + (paces r + 1) ≤ 1 = omega (arith, fits.paces) in
    let none = no_pace before (paces r) count in
    pace_read (words_of items behind) before r none
    (complete items behind (record before { pace = true }) good.1 apart.1
    (record { workers = fits.workers; capacity = fits.capacity; instants = fits.instants; paces = omega (arith, count) }))
