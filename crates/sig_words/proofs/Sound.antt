-- What the words are read as is a reading of them.
use Rattle.sig_words.proofs.Common.{◌≡◌, Bool, true, false, List, [], ◌∷◌, ◌++◌, append_assoc, refl, sym, ap, ◌∙◌, cond, arith, Option, Some, None, subst, option_to_list, codes, option_map, option_and_then, AllByRecursion, bytes_eq, append-nil, none-some, same_Some, some_pair_parts, bytes_eq-Decides, Word, Plain, Joined, Apart, Pace, Reading, IsReading, is_plain, name_of, HasPlainValue, Said, OptionName, Workers, Capacity, Instants, eqb, nat_tests}
use Rattle.sig_words.proofs.Steps.{Next, State, any_next, option_said, option_step, or_else, run, said_as, step, value_in_rest, after_front, with_pace, with_option, with_plain, with_value}
use Rattle.sig_words.proofs.Steps as next
use Rattle.sig_words.proofs.Fronts.{front_found}
use Rattle.sig_words.proofs.Summary.{Adds, Adds-apart, Adds-joined, Adds-pace, Adds-plain, with_item}

-- an option's word, with its value where it has one
abbrev pub option_word : OptionName → Option Word → Word
option_word option None = codes "--" ++ name_of option
option_word option (Some value) = codes "--" ++ (name_of option ++ (codes "=" ++ value))

-- words with a reading, which adds this
pub record ReadAs (words : List Word) (before after : Said) : Type 0 where
  pub reading : Reading
  pub reads : IsReading words reading
  pub apart : AllByRecursion HasPlainValue reading.items
  pub adds : Adds before reading after

-- what words that bring from one summary to another are
abbrev pub Outcome : Next → List Word → Said → Said → Type 0
Outcome next.Any words before after = ReadAs words before after
Outcome (next.Value option) words before after = ReadAs ((codes "--" ++ name_of option) ∷ words) before after
Outcome next.Plain words before after = after ≡ record before { plain = before.plain ++ words }

value_behind : (option : OptionName) (rest : Word) (value : Option Word) → value_in_rest rest ≡ Some value
    → (codes "--" ++ name_of option) ++ rest ≡ option_word option value
value_behind option [] None is = append-nil (codes "--" ++ name_of option)
value_behind option [] (Some v) is = cc
value_behind option (c ∷ cs) value is = at_byte (eqb c 61) refl is
  where
    at_byte : (b : Bool) → eqb c 61 ≡ b → cond b (Some (Some cs)) None ≡ Some value
        → (codes "--" ++ name_of option) ++ (c ∷ cs) ≡ option_word option value
    at_byte true same is =
        let one : c ≡ 61 = grind (arith, nat_tests) in
        let all : Some cs ≡ value = cc in
        rw (← all, one) refl
    at_byte false same is = cc

-- a word that is said to be an option's
said_as_word : (option : OptionName) (word : Word) (value : Option Word) → said_as option word ≡ Some value → word ≡ option_word option value
said_as_word option word value is = at_front (after_front (codes "--" ++ name_of option) word) refl is
  where
    at_front : (found : Option Word) → after_front (codes "--" ++ name_of option) word ≡ found
        → option_and_then value_in_rest found ≡ Some value → word ≡ option_word option value
    at_front None same is = cc
    at_front (Some rest) same is = front_found (codes "--" ++ name_of option) word rest same ∙ value_behind option rest value is

pub option_said_word : (word : Word) (option : OptionName) (value : Option Word) → option_said word ≡ Some (option, value) → word ≡ option_word option value
option_said_word word option value is = at_workers (said_as Workers word) refl is
  where
    at_instants : (i : Option (Option Word)) → said_as Instants word ≡ i
        → option_map (with_option Instants) i ≡ Some (option, value) → word ≡ option_word option value
    at_instants None si is = cc
    at_instants (Some v) si is =
        let parts = some_pair_parts Instants option v value is in rw (← parts.0, ← parts.1) (said_as_word Instants word v si)

    at_capacity : (k : Option (Option Word)) → said_as Capacity word ≡ k
        → or_else (option_map (with_option Capacity) k) (option_map (with_option Instants) (said_as Instants word)) ≡ Some (option, value)
        → word ≡ option_word option value
    at_capacity None sk is = at_instants (said_as Instants word) refl is
    at_capacity (Some v) sk is =
        let parts = some_pair_parts Capacity option v value is in rw (← parts.0, ← parts.1) (said_as_word Capacity word v sk)

    at_workers : (k : Option (Option Word)) → said_as Workers word ≡ k
        → or_else (option_map (with_option Workers) k) (or_else (option_map (with_option Capacity) (said_as Capacity word)) (option_map (with_option Instants) (said_as Instants word))) ≡ Some (option, value)
        → word ≡ option_word option value
    at_workers None sk is = at_capacity (said_as Capacity word) refl is
    at_workers (Some v) sk is =
        let parts = some_pair_parts Workers option v value is in rw (← parts.0, ← parts.1) (said_as_word Workers word v sk)

-- after `--` all words are plain
pub run_plain : (words : List Word) (s : Said) → run next.Plain words s ≡ Some (record s { plain = s.plain ++ words })
unfolding run
run_plain [] s = rw (append-nil s.plain) refl
run_plain (word ∷ words) s = run_plain words (with_plain word s) ∙ rw (append_assoc s.plain (word ∷ []) words) refl

-- `--`, and words behind it
closed : (words : List Word) (before after : Said) → after ≡ record before { plain = before.plain ++ words } → ReadAs (codes "--" ∷ words) before after
closed words before after is = rw is record {
  reading = record { items = []; behind = Some words };
  reads = record { good = tt; whole = refl };
  apart = tt;
  adds = record {
    plain = refl;
    workers = sym (append-nil (option_to_list before.workers));
    capacity = sym (append-nil (option_to_list before.capacity));
    instants = sym (append-nil (option_to_list before.instants));
    paces = omega arith;
  };
}

-- no word
empty : (before : Said) → ReadAs [] before before
empty before = record {
  reading = record { items = []; behind = None };
  reads = record { good = tt; whole = refl };
  apart = tt;
  adds = record {
    plain = sym (append-nil before.plain);
    workers = sym (append-nil (option_to_list before.workers));
    capacity = sym (append-nil (option_to_list before.capacity));
    instants = sym (append-nil (option_to_list before.instants));
    paces = omega arith;
  };
}

-- one more item in front
more_plain : (word : Word) (words : List Word) (before after : Said) → is_plain word ≡ true → ReadAs words (with_plain word before) after → ReadAs (word ∷ words) before after
more_plain word words before after plain r = record {
  reading = with_item (Plain word) r.reading;
  reads = record { good = (plain, r.reads.good); whole = ap (λ (ws : List Word). word ∷ ws) r.reads.whole };
  apart = (tt, r.apart);
  adds = Adds-plain word before after r.reading r.adds;
}

more_joined : (option : OptionName) (value : Word) (words : List Word) (before next after : Said) → with_value option value before ≡ Some next
    → ReadAs words next after → ReadAs (option_word option (Some value) ∷ words) before after
more_joined option value words before next after is r = record {
  reading = with_item (Joined option value) r.reading;
  reads = record { good = (tt, r.reads.good); whole = ap (λ (ws : List Word). option_word option (Some value) ∷ ws) r.reads.whole };
  apart = (tt, r.apart);
  adds = Adds-joined option value before next after r.reading is r.adds;
}

more_apart : (option : OptionName) (value : Word) (words : List Word) (before next after : Said) → is_plain value ≡ true → with_value option value before ≡ Some next
    → ReadAs words next after → ReadAs ((codes "--" ++ name_of option) ∷ value ∷ words) before after
more_apart option value words before next after plain is r = record {
  reading = with_item (Apart option value) r.reading;
  reads = record { good = (tt, r.reads.good); whole = ap (λ (ws : List Word). (codes "--" ++ name_of option) ∷ value ∷ ws) r.reads.whole };
  apart = (plain, r.apart);
  adds = Adds-apart option value before next after r.reading is r.adds;
}

more_pace : (words : List Word) (before next after : Said) → with_pace before ≡ Some next
    → ReadAs words next after → ReadAs (codes "--pace" ∷ words) before after
more_pace words before next after is r = record {
  reading = with_item Pace r.reading;
  reads = record { good = (tt, r.reads.good); whole = ap (λ (ws : List Word). codes "--pace" ∷ ws) r.reads.whole };
  apart = (tt, r.apart);
  adds = Adds-pace before next after r.reading is r.adds;
}

-- what is behind a step to a state where anything may come
behind_any : {A : Type 0} (o : Option Said) (p : State) → option_map any_next o ≡ Some p → ((s : Said) → o ≡ Some s → p ≡ (next.Any, s) → A) → A
behind_any None p is go = absurd cc
behind_any (Some s) p is go = go s refl cc

option_stepped : (word : Word) (words : List Word) (before after : Said) (p : State) → (o : Option (OptionName × Option Word)) → option_said word ≡ o
    → option_step o before ≡ Some p → Outcome p.0 words p.1 after → ReadAs (word ∷ words) before after
option_stepped word words before after p None said is rest = cc
option_stepped word words before after p (Some (option, None)) said is rest =
    let to = same_Some (next.Value option, before) p is in
    rw (option_said_word word option None said) (subst (λ (q : State). Outcome q.0 words q.1 after) (sym to) rest)
option_stepped word words before after p (Some (option, Some value)) said is rest =
    rw (option_said_word word option (Some value) said)
    (behind_any (with_value option value before) p is
    (λ s gives to. more_joined option value words before s after gives (subst (λ (q : State). Outcome q.0 words q.1 after) to rest)))

pace_stepped : (word : Word) (words : List Word) (before after : Said) (p : State) → (b : Bool) → bytes_eq word (codes "--pace") ≡ b
    → cond b (option_map any_next (with_pace before)) (option_step (option_said word) before) ≡ Some p
    → Outcome p.0 words p.1 after → ReadAs (word ∷ words) before after
pace_stepped word words before after p true same is rest =
    rw ((bytes_eq-Decides word (codes "--pace")).0 same)
    (behind_any (with_pace before) p is
    (λ s gives to. more_pace words before s after gives (subst (λ (q : State). Outcome q.0 words q.1 after) to rest)))
pace_stepped word words before after p false same is rest = option_stepped word words before after p (option_said word) refl is rest

plain_stepped : (word : Word) (words : List Word) (before after : Said) (p : State) → (b : Bool) → is_plain word ≡ b
    → cond b (Some (next.Any, with_plain word before))
    (cond (bytes_eq word (codes "--pace")) (option_map any_next (with_pace before)) (option_step (option_said word) before)) ≡ Some p
    → Outcome p.0 words p.1 after → ReadAs (word ∷ words) before after
plain_stepped word words before after p true same is rest =
    let to = same_Some (next.Any, with_plain word before) p is in
    more_plain word words before after same (subst (λ (q : State). Outcome q.0 words q.1 after) (sym to) rest)
plain_stepped word words before after p false same is rest = pace_stepped word words before after p (bytes_eq word (codes "--pace")) refl is rest

closed_stepped : (word : Word) (words : List Word) (before after : Said) (p : State) → (b : Bool) → bytes_eq word (codes "--") ≡ b
    → cond b (Some (next.Plain, before)) (cond (is_plain word) (Some (next.Any, with_plain word before))
    (cond (bytes_eq word (codes "--pace")) (option_map any_next (with_pace before)) (option_step (option_said word) before))) ≡ Some p
    → Outcome p.0 words p.1 after → ReadAs (word ∷ words) before after
closed_stepped word words before after p true same is rest =
    let to = same_Some (next.Plain, before) p is in
    rw ((bytes_eq-Decides word (codes "--")).0 same) (closed words before after (subst (λ (q : State). Outcome q.0 words q.1 after) (sym to) rest))
closed_stepped word words before after p false same is rest = plain_stepped word words before after p (is_plain word) refl is rest

any_stepped : (word : Word) (words : List Word) (before after : Said) (p : State) → step next.Any word before ≡ Some p
    → Outcome p.0 words p.1 after → ReadAs (word ∷ words) before after
any_stepped word words before after p is rest = closed_stepped word words before after p (bytes_eq word (codes "--")) refl is rest

value_stepped : (option : OptionName) (word : Word) (words : List Word) (before after : Said) (p : State) → (b : Bool) → is_plain word ≡ b
    → cond b (option_map any_next (with_value option word before)) None ≡ Some p
    → Outcome p.0 words p.1 after → Outcome (next.Value option) (word ∷ words) before after
value_stepped option word words before after p true plain is rest =
    behind_any (with_value option word before) p is
    (λ s gives to. more_apart option word words before s after plain gives (subst (λ (q : State). Outcome q.0 words q.1 after) to rest))
value_stepped option word words before after p false plain is rest = absurd (none-some p is)

-- a step, and what the words behind it are
pub stepped : (at : Next) (word : Word) (words : List Word) (before after : Said) (p : State) → step at word before ≡ Some p
    → Outcome p.0 words p.1 after → Outcome at (word ∷ words) before after
stepped next.Any word words before after p is rest = any_stepped word words before after p is rest
stepped (next.Value option) word words before after p is rest = value_stepped option word words before after p (is_plain word) refl is rest
stepped next.Plain word words before after p is rest =
    let to = same_Some (next.Plain, with_plain word before) p is in
    let same : after ≡ record before { plain = (before.plain ++ word ∷ []) ++ words } =
    subst (λ (q : State). Outcome q.0 words q.1 after) (sym to) rest in
    same ∙ rw (append_assoc before.plain (word ∷ []) words) refl

-- what the words are read as is a reading of them
pub sound : (at : Next) (words : List Word) (before after : Said) → run at words before ≡ Some after → Outcome at words before after
unfolding run
sound next.Any [] before after is = let same : before ≡ after = cc in subst (λ (s : Said). ReadAs [] before s) same (empty before)
sound (next.Value option) [] before after is = cc
sound next.Plain [] before after is = rw (append-nil before.plain) cc
sound at (word ∷ words) before after is = on (step at word before) refl is (λ p. sound p.0 words p.1 after)
  where
    on : (o : Option State) → step at word before ≡ o → option_and_then (λ p. run p.0 words p.1) o ≡ Some after
        → ((p : State) → run p.0 words p.1 ≡ Some after → Outcome p.0 words p.1 after) → Outcome at (word ∷ words) before after
    on None same is go = absurd cc
    on (Some p) same is go = stepped at word words before after p same (go p is)
