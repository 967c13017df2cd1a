-- The walk of `clap` follows our steps, word by word.
use Rattle.sig_words.proofs.Common.{◌≡◌, ◌≢◌, ◌⊎◌, inl, inr, Bool, true, false, ◌||◌, List, [], ◌∷◌, ◌++◌, refl, sym, ap, ◌∙◌, cond, Option, Some, None, subst, codes, is_some, option_map, IsUtf8, bytes_eq, turn_fault, Kinds, or_else, long_of, short_of, Row, Text, Waiting, Walk, has_row, idle, option, positional, settled, used, walked, Word, is_plain, name_of, Said, OptionName, Workers, Capacity, Instants}
use Rattle.sig_words.proofs.Steps as step
use Rattle.sig_words.proofs.Steps.{Next, State, any_next, any_step, with_pace, with_plain, with_value}
use Rattle.sig_words.proofs.Built.{at, option_built, pace_built, pending_fault, rows_settled, rules, top}
use Rattle.sig_words.proofs.Complete.{apart_step, joined_step, not_empty, pace_step, plain_step}
use Rattle.sig_words.proofs.Holds.{Holds, holds_pace, holds_plain, holds_value, pace_row, value_row}
use Rattle.sig_words.proofs.Sound.{option_word}
use Rattle.sig_words.proofs.Turns.{apart_fault, apart_walk, behind_fault, behind_walk, closing_fault, closing_walk, flag_fault, flag_value_fault, flag_walk, is_free, joined_fault, joined_walk, or_nil, plain_fault, plain_walk, strange_fault, use_kinds, value_fault, value_walk}
use Rattle.sig_words.proofs.WordKinds.{WordKind, flag_word, joined, word_kind}
use Rattle.sig_words.proofs.WordKinds as kind

-- ---- kinds one after another

pub or_left : (a b : Kinds) → a ≢ [] → or_else a b ≢ []
or_left [] b some none = some refl
or_left (k ∷ ks) b some none = some none

pub or_right : (a b : Kinds) → b ≢ [] → or_else a b ≢ []
or_right [] b some none = some none
or_right (k ∷ ks) b some none = cc

pub or_none : (a b : Kinds) → a ≡ [] → b ≡ [] → or_else a b ≡ []
or_none a b none other = rw (none, other) refl

pub or_more : (a b c : Kinds) → or_else b c ≢ [] → or_else (or_else a b) c ≢ []
or_more [] b c some none = some none
or_more (k ∷ ks) b c some none = cc

-- ---- where the walk stands, and what was said

-- no option waits, and what is pending passes
pub record Standing (trailing : Bool) (s : Said) (w : Walk) : Type 0 where
  pub waiting : Waiting
  pub free : is_free waiting ≡ true
  pub pending : Option (Text × List Text)
  pub rows : List Row
  pub is : w ≡ at trailing waiting pending rows
  pub faultless : pending_fault pending rows ≡ []
  pub holds : Holds (rows_settled pending rows) s

-- an option waits for its value
pub record Awaiting (name : OptionName) (s : Said) (w : Walk) : Type 0 where
  pub rows : List Row
  pub is : w ≡ at false (option (name_of name)) (Some (name_of name, [])) rows
  pub holds : Holds rows s

abbrev pub Stands : Next → Said → Walk → Type 0
Stands step.Any s w = Standing false s w
Stands (step.Value name) s w = Awaiting name s w
Stands step.Plain s w = Standing true s w

-- what is pending does not pass, whatever comes behind it
pub record Lost (w : Walk) : Type 0 where
  pub trailing : Bool
  pub waiting : Waiting
  pub free : (trailing || is_free waiting) ≡ true
  pub pending : Option (Text × List Text)
  pub rows : List Row
  pub is : w ≡ at trailing waiting pending rows
  pub faulty : pending_fault pending rows ≢ []

-- what becomes of a step of ours
abbrev pub Follows : Walk → Word → Option State → Type 0
Follows w word None = (turn_fault top [] w word ≢ []) ⊎ Lost (walked rules [] w word)
Follows w word (Some p) = (turn_fault top [] w word ≡ []) × Stands p.0 p.1 (walked rules [] w word)

-- ---- what is pending

pending_value : (name : OptionName) (value : Word) (rows : List Row) → pending_fault (Some (name_of name, value ∷ [])) rows ≡ use_kinds (name_of name) rows
pending_value Workers value rows = or_nil (use_kinds (name_of Workers) rows)
pending_value name value rows = or_nil (use_kinds (name_of name) rows)

settled_value : (name : OptionName) (value : Word) (rows : List Row) → rows_settled (Some (name_of name, value ∷ [])) rows ≡ used (option_built name) (value ∷ []) rows
settled_value Workers value rows = refl
settled_value _ value rows = refl

pub pending_none : (name : OptionName) (rows : List Row) → pending_fault (Some (name_of name, [])) rows ≢ []
pending_none Workers rows is = cc
pending_none _ rows is = cc

-- ---- a value that is given for the first time, or once more

data Gives (next : Option Said) (rows : List Row) (id : Text) : Type 0 where
  first : (after : Said) → next ≡ Some after → use_kinds id rows ≡ [] → Gives next rows id
  again : next ≡ None → use_kinds id rows ≢ [] → Gives next rows id

gives_by : (id : Text) (rows : List Row) (after : Said) (b : Bool) → has_row id rows ≡ b → Gives (cond b None (Some after)) rows id
gives_by id rows after true has = again refl (rw has (λ none. cc))
gives_by id rows after false has = first after refl (rw has refl)

gives_value : (name : OptionName) (value : Word) (rows : List Row) (s : Said) → Holds rows s → Gives (with_value name value s) rows (name_of name)
gives_value Workers value rows s h = gives_by (name_of Workers) rows (record s { workers = Some value }) (is_some s.workers) (value_row Workers rows s h)
gives_value Capacity value rows s h = gives_by (name_of Capacity) rows (record s { capacity = Some value }) (is_some s.capacity) (value_row Capacity rows s h)
gives_value Instants value rows s h = gives_by (name_of Instants) rows (record s { instants = Some value }) (is_some s.instants) (value_row Instants rows s h)

gives_pace : (rows : List Row) (s : Said) → Holds rows s → Gives (with_pace s) rows (codes "pace")
gives_pace rows s h = gives_by (codes "pace") rows (record s { pace = true }) s.pace (pace_row rows s h)

-- ---- where anything may come

-- a use of an argument, whose word was read whole
after_use : (w : Walk) (word : Word) (id : Text) (rows settled : List Row) (pending : Kinds) (next : Option Said) → pending ≡ []
    → turn_fault top [] w word ≡ or_else pending (use_kinds id settled) → walked rules [] w word ≡ at false idle None rows
    → ((after : Said) → next ≡ Some after → Holds rows after) → Gives next settled id → Follows w word (option_map any_next next)
after_use w word id rows settled pending next faultless turn walk holds (first after is unused) =
    rw is (
      turn ∙ or_none pending (use_kinds id settled) faultless unused,
      record {
        waiting = idle;
        free = refl;
        pending = None;
        rows = rows;
        is = walk;
        faultless = refl;
        holds = holds after is;
      },
    )
after_use w word id rows settled pending next faultless turn walk holds (again is used) =
    rw is (inl (λ none. or_right pending (use_kinds id settled) used (sym turn ∙ none)))

not_plain_option : (name : OptionName) (value : Option Word) → is_plain (option_word name value) ≡ false
not_plain_option Workers None = refl
not_plain_option Workers (Some value) = rw (not_empty (name_of Workers ++ (codes "=" ++ value)) 45) refl
not_plain_option Capacity None = refl
not_plain_option Capacity (Some value) = rw (not_empty (name_of Capacity ++ (codes "=" ++ value)) 45) refl
not_plain_option Instants None = refl
not_plain_option Instants (Some value) = rw (not_empty (name_of Instants ++ (codes "=" ++ value)) 45) refl

not_plain_flag : (value : Option Word) → is_plain (flag_word value) ≡ false
not_plain_flag None = refl
not_plain_flag (Some value) = rw (not_empty (codes "pace" ++ joined (Some value)) 45) refl

flag_value_step : (value : Word) (s : Said) → any_step (flag_word (Some value)) s ≡ None
flag_value_step value s = rw (not_empty (codes "pace" ++ joined (Some value)) 45) refl

any_follows : (waiting : Waiting) (pending : Option (Text × List Text)) (rows : List Row) (s : Said) (word : Word) → is_free waiting ≡ true
    → pending_fault pending rows ≡ [] → Holds (rows_settled pending rows) s → WordKind word
    → Follows (at false waiting pending rows) word (any_step word s)
any_follows waiting pending rows s word free faultless holds (kind.closing is) =
    subst (λ (x : Word). Follows (at false waiting pending rows) x (any_step x s)) (sym is) (
      closing_fault waiting pending rows,
      record {
        waiting = waiting;
        free = free;
        pending = pending;
        rows = rows;
        is = closing_walk waiting pending rows;
        faultless = faultless;
        holds = holds;
      },
    )
any_follows waiting pending rows s word free faultless holds (kind.plain_word plain unlike long short) =
    subst (Follows (at false waiting pending rows) word) (sym (plain_step word s plain)) (
      plain_fault waiting pending rows word free unlike long short ∙ faultless,
      record {
        waiting = positional;
        free = refl;
        pending = Some (codes "words", word ∷ []);
        rows = rows_settled pending rows;
        is = plain_walk waiting pending rows word free unlike long short;
        faultless = refl;
        holds = holds_plain (rows_settled pending rows) s word holds;
      },
    )
any_follows waiting pending rows s word free faultless holds (kind.option name None is) =
    subst (λ (x : Word). Follows (at false waiting pending rows) x (any_step x s)) (sym is)
    (subst (Follows (at false waiting pending rows) (option_word name None)) (sym (apart_step name s)) (
      apart_fault name waiting pending rows ∙ faultless,
      record {
        rows = rows_settled pending rows;
        is = apart_walk name waiting pending rows;
        holds = holds;
      },
    ))
any_follows waiting pending rows s word free faultless holds (kind.option name (Some value) is) =
    subst (λ (x : Word). Follows (at false waiting pending rows) x (any_step x s)) (sym is)
    (subst (Follows (at false waiting pending rows) (option_word name (Some value))) (sym (joined_step name value s))
    (after_use (at false waiting pending rows) (option_word name (Some value)) (name_of name) (used (option_built name) (value ∷ []) (rows_settled pending rows))
    (rows_settled pending rows) (pending_fault pending rows) (with_value name value s) faultless
    (joined_fault name value waiting pending rows) (joined_walk name value waiting pending rows)
    (λ after gives. holds_value name value (rows_settled pending rows) s after holds gives)
    (gives_value name value (rows_settled pending rows) s holds)))
any_follows waiting pending rows s word free faultless holds (kind.flag None is) =
    subst (λ (x : Word). Follows (at false waiting pending rows) x (any_step x s)) (sym is)
    (subst (Follows (at false waiting pending rows) (codes "--pace")) (sym (pace_step s))
    (after_use (at false waiting pending rows) (codes "--pace") (codes "pace") (used pace_built [] (rows_settled pending rows))
    (rows_settled pending rows) (pending_fault pending rows) (with_pace s) faultless
    (flag_fault waiting pending rows) (flag_walk waiting pending rows)
    (λ after gives. holds_pace (rows_settled pending rows) s after holds gives)
    (gives_pace (rows_settled pending rows) s holds)))
any_follows waiting pending rows s word free faultless holds (kind.flag (Some value) is) =
    subst (λ (x : Word). Follows (at false waiting pending rows) x (any_step x s)) (sym is)
    (subst (Follows (at false waiting pending rows) (flag_word (Some value))) (sym (flag_value_step value s))
    (inl (flag_value_fault value waiting pending rows)))
any_follows waiting pending rows s word free faultless holds (kind.strange unlike not_plain not_flag no_option fault) =
    let refuses : any_step word s ≡ None = rw (unlike, not_plain, not_flag, no_option) refl in
    subst (Follows (at false waiting pending rows) word) (sym refuses) (inl (strange_fault waiting pending rows word (fault pending rows)))

-- ---- where what is pending does not pass, and no `--` stood yet

pub faulty_option : (waiting : Waiting) (pending : Option (Text × List Text)) (rows : List Row) → pending_fault pending rows ≢ []
    → (name : OptionName) (value : Option Word) → turn_fault top [] (at false waiting pending rows) (option_word name value) ≢ []
faulty_option waiting pending rows faulty name None none = faulty (sym (apart_fault name waiting pending rows) ∙ none)
faulty_option waiting pending rows faulty name (Some value) none =
    or_left (pending_fault pending rows) (use_kinds (name_of name) (rows_settled pending rows)) faulty
    (sym (joined_fault name value waiting pending rows) ∙ none)

pub faulty_flag : (waiting : Waiting) (pending : Option (Text × List Text)) (rows : List Row) → pending_fault pending rows ≢ []
    → (value : Option Word) → turn_fault top [] (at false waiting pending rows) (flag_word value) ≢ []
faulty_flag waiting pending rows faulty None none =
    or_left (pending_fault pending rows) (use_kinds (codes "pace") (rows_settled pending rows)) faulty (sym (flag_fault waiting pending rows) ∙ none)
faulty_flag waiting pending rows faulty (Some value) none = flag_value_fault value waiting pending rows none

-- ---- where an option waits for its value

abbrev value_step : Bool → OptionName → Word → Said → Option State
value_step plain name word s = cond plain (option_map any_next (with_value name word s)) None

after_value : (name : OptionName) (rows : List Row) (s : Said) (word : Word) → Holds rows s
    → bytes_eq word (codes "--") ≡ false → long_of word ≡ None → short_of word ≡ None
    → Gives (with_value name word s) rows (name_of name)
    → Follows (at false (option (name_of name)) (Some (name_of name, [])) rows) word (option_map any_next (with_value name word s))
after_value name rows s word holds unlike long short (first after is unused) =
    rw is (
      value_fault name rows word unlike long short,
      record {
        waiting = idle;
        free = refl;
        pending = Some (name_of name, word ∷ []);
        rows = rows;
        is = value_walk name rows word unlike long short;
        faultless = pending_value name word rows ∙ unused;
        holds = rw (settled_value name word rows) (holds_value name word rows s after holds is);
      },
    )
after_value name rows s word holds unlike long short (again is used) =
    rw is (inr record {
      trailing = false;
      waiting = idle;
      free = refl;
      pending = Some (name_of name, word ∷ []);
      rows = rows;
      is = value_walk name rows word unlike long short;
      faulty = λ none. used (sym (pending_value name word rows) ∙ none);
    })

value_follows : (name : OptionName) (rows : List Row) (s : Said) (word : Word) → Holds rows s → WordKind word
    → Follows (at false (option (name_of name)) (Some (name_of name, [])) rows) word (value_step (is_plain word) name word s)
value_follows name rows s word holds (kind.closing is) =
    subst (λ (x : Word). Follows (at false (option (name_of name)) (Some (name_of name, [])) rows) x (value_step (is_plain x) name x s)) (sym is)
    (inr record {
      trailing = true;
      waiting = option (name_of name);
      free = refl;
      pending = Some (name_of name, []);
      rows = rows;
      is = closing_walk (option (name_of name)) (Some (name_of name, [])) rows;
      faulty = pending_none name rows;
    })
value_follows name rows s word holds (kind.plain_word plain unlike long short) =
    subst (λ (b : Bool). Follows (at false (option (name_of name)) (Some (name_of name, [])) rows) word (value_step b name word s)) (sym plain)
    (after_value name rows s word holds unlike long short (gives_value name word rows s holds))
value_follows name rows s word holds (kind.option other value is) =
    let not_plain : is_plain word ≡ false = ap is_plain is ∙ not_plain_option other value in
    subst (λ (b : Bool). Follows (at false (option (name_of name)) (Some (name_of name, [])) rows) word (value_step b name word s)) (sym not_plain)
    (inl (rw is (faulty_option (option (name_of name)) (Some (name_of name, [])) rows (pending_none name rows) other value)))
value_follows name rows s word holds (kind.flag value is) =
    let not_plain : is_plain word ≡ false = ap is_plain is ∙ not_plain_flag value in
    subst (λ (b : Bool). Follows (at false (option (name_of name)) (Some (name_of name, [])) rows) word (value_step b name word s)) (sym not_plain)
    (inl (rw is (faulty_flag (option (name_of name)) (Some (name_of name, [])) rows (pending_none name rows) value)))
value_follows name rows s word holds (kind.strange unlike not_plain not_flag no_option fault) =
    subst (λ (b : Bool). Follows (at false (option (name_of name)) (Some (name_of name, [])) rows) word (value_step b name word s)) (sym not_plain)
    (inl (strange_fault (option (name_of name)) (Some (name_of name, [])) rows word (fault (Some (name_of name, [])) rows)))

-- ---- behind `--`

plain_follows : (waiting : Waiting) (pending : Option (Text × List Text)) (rows : List Row) (s : Said) (word : Word)
    → pending_fault pending rows ≡ [] → Holds (rows_settled pending rows) s
    → Follows (at true waiting pending rows) word (Some (step.Plain, with_plain word s))
plain_follows waiting pending rows s word faultless holds = (
  behind_fault waiting pending rows word ∙ faultless,
  record {
    waiting = positional;
    free = refl;
    pending = Some (codes "words", word ∷ []);
    rows = rows_settled pending rows;
    is = behind_walk waiting pending rows word;
    faultless = refl;
    holds = holds_plain (rows_settled pending rows) s word holds;
  },
)

-- ---- a step of ours

pub follows : (next : Next) (s : Said) (w : Walk) (word : Word) → Stands next s w → IsUtf8 word → Follows w word (step.step next word s)
follows step.Any s w word stands text =
    subst (λ (v : Walk). Follows v word (any_step word s)) (sym stands.is)
    (any_follows stands.waiting stands.pending stands.rows s word stands.free stands.faultless stands.holds (word_kind word text))
follows (step.Value name) s w word stands text =
    subst (λ (v : Walk). Follows v word (value_step (is_plain word) name word s)) (sym stands.is)
    (value_follows name stands.rows s word stands.holds (word_kind word text))
follows step.Plain s w word stands text =
    subst (λ (v : Walk). Follows v word (Some (step.Plain, with_plain word s))) (sym stands.is)
    (plain_follows stands.waiting stands.pending stands.rows s word stands.faultless stands.holds)
