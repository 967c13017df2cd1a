-- One turn of the walk of `clap`: what comes of a word, and where the walk stands behind it.
use Rattle.sig_words.proofs.Common.{◌≡◌, ◌≢◌, Bool, true, false, List, [], ◌∷◌, refl, sym, ap, ◌∙◌, Option, Some, None, codes, bytes_eq, other_fault, repeat_fault, step_fault, turn_fault, Kinds, or_else, long_of, short_of, Held, Row, Step, Text, Waiting, after_step, idle, option, positional, subcommand_or_other, used, walked, TooManyValues, UnknownArgument, Word, name_of, OptionName, Workers}
use Rattle.sig_words.proofs.Common.{and-false}
use Rattle.sig_words.proofs.Built.{at, held, option_built, pace_built, pending_fault, rows_settled, rules, top}
use Rattle.sig_words.proofs.Sound.{option_word}
use Rattle.sig_words.proofs.WordKinds.{flag_word}

-- no option waits for its value
abbrev pub is_free : Waiting → Bool
is_free idle = true
is_free (option id) = false
is_free positional = true

-- a turn where `--` did not stand yet
abbrev met : Waiting → Word → Held → Held × Step
met waiting word h = subcommand_or_other rules None waiting 1 word h

open_fault : (waiting : Waiting) (pending : Option (Text × List Text)) (rows : List Row) (word : Word)
    → turn_fault top [] (at false waiting pending rows) word
    ≡ or_else (other_fault top None word (held pending rows)) (step_fault top 1 (met waiting word (held pending rows)).0 (met waiting word (held pending rows)).1)
open_fault idle pending rows word = refl
open_fault _ pending rows word = refl

open_walk : (waiting : Waiting) (pending : Option (Text × List Text)) (rows : List Row) (word : Word)
    → walked rules [] (at false waiting pending rows) word
    ≡ after_step rules word (at false waiting pending rows) (met waiting word (held pending rows)).0 (met waiting word (held pending rows)).1
unfolding walked
open_walk idle pending rows word = refl
open_walk _ pending rows word = refl

-- behind `--` each word is plain
pub behind_fault : (waiting : Waiting) (pending : Option (Text × List Text)) (rows : List Row) (word : Word)
    → turn_fault top [] (at true waiting pending rows) word ≡ pending_fault pending rows
behind_fault waiting pending rows word = rw (and-false _) refl

pub behind_walk : (waiting : Waiting) (pending : Option (Text × List Text)) (rows : List Row) (word : Word)
    → walked rules [] (at true waiting pending rows) word ≡ at true positional (Some (codes "words", word ∷ [])) (rows_settled pending rows)
unfolding walked
behind_walk waiting pending rows word = rw (and-false _) refl

-- a plain word, where no option waits for its value
pub plain_fault : (waiting : Waiting) (pending : Option (Text × List Text)) (rows : List Row) (word : Word) → is_free waiting ≡ true
    → bytes_eq word (codes "--") ≡ false → long_of word ≡ None → short_of word ≡ None
    → turn_fault top [] (at false waiting pending rows) word ≡ pending_fault pending rows
plain_fault idle pending rows word free unlike long short = rw (unlike, long, short, and-false _) refl
plain_fault (option id) pending rows word free unlike long short = cc
plain_fault positional pending rows word free unlike long short = rw (unlike, long, short, and-false _) refl

pub plain_walk : (waiting : Waiting) (pending : Option (Text × List Text)) (rows : List Row) (word : Word) → is_free waiting ≡ true
    → bytes_eq word (codes "--") ≡ false → long_of word ≡ None → short_of word ≡ None
    → walked rules [] (at false waiting pending rows) word ≡ at false positional (Some (codes "words", word ∷ [])) (rows_settled pending rows)
unfolding walked
plain_walk idle pending rows word free unlike long short = rw (unlike, long, short, and-false _) refl
plain_walk (option id) pending rows word free unlike long short = cc
plain_walk positional pending rows word free unlike long short = rw (unlike, long, short, and-false _) refl

-- a plain word that is the value of an option
pub value_fault : (name : OptionName) (rows : List Row) (word : Word)
    → bytes_eq word (codes "--") ≡ false → long_of word ≡ None → short_of word ≡ None
    → turn_fault top [] (at false (option (name_of name)) (Some (name_of name, [])) rows) word ≡ []
value_fault Workers rows word unlike long short = rw (unlike, long, short) refl
value_fault _ rows word unlike long short = rw (unlike, long, short) refl

pub value_walk : (name : OptionName) (rows : List Row) (word : Word)
    → bytes_eq word (codes "--") ≡ false → long_of word ≡ None → short_of word ≡ None
    → walked rules [] (at false (option (name_of name)) (Some (name_of name, [])) rows) word ≡ at false idle (Some (name_of name, word ∷ [])) rows
unfolding walked
value_walk Workers rows word unlike long short = rw (unlike, long, short) refl
value_walk _ rows word unlike long short = rw (unlike, long, short) refl

-- `--`
pub closing_fault : (waiting : Waiting) (pending : Option (Text × List Text)) (rows : List Row)
    → turn_fault top [] (at false waiting pending rows) (codes "--") ≡ []
closing_fault waiting pending rows = open_fault waiting pending rows (codes "--")

pub closing_walk : (waiting : Waiting) (pending : Option (Text × List Text)) (rows : List Row)
    → walked rules [] (at false waiting pending rows) (codes "--") ≡ at true waiting pending rows
closing_walk waiting pending rows = open_walk waiting pending rows (codes "--")

-- an option without its value in the word
pub or_nil : (k : Kinds) → or_else k [] ≡ k
or_nil [] = refl
or_nil (x ∷ xs) = refl

pub apart_fault : (name : OptionName) (waiting : Waiting) (pending : Option (Text × List Text)) (rows : List Row)
    → turn_fault top [] (at false waiting pending rows) (option_word name None) ≡ pending_fault pending rows
apart_fault Workers waiting pending rows = open_fault waiting pending rows (option_word Workers None) ∙ or_nil (pending_fault pending rows)
apart_fault name waiting pending rows = open_fault waiting pending rows (option_word name None) ∙ or_nil (pending_fault pending rows)

pub apart_walk : (name : OptionName) (waiting : Waiting) (pending : Option (Text × List Text)) (rows : List Row)
    → walked rules [] (at false waiting pending rows) (option_word name None)
    ≡ at false (option (name_of name)) (Some (name_of name, [])) (rows_settled pending rows)
apart_walk Workers waiting pending rows = open_walk waiting pending rows (option_word Workers None)
apart_walk name waiting pending rows = open_walk waiting pending rows (option_word name None)

-- an option with its value in the word
abbrev pub use_kinds : Text → List Row → Kinds
use_kinds id rows = repeat_fault false id rows

pub joined_fault : (name : OptionName) (value : Word) (waiting : Waiting) (pending : Option (Text × List Text)) (rows : List Row)
    → turn_fault top [] (at false waiting pending rows) (option_word name (Some value))
    ≡ or_else (pending_fault pending rows) (use_kinds (name_of name) (rows_settled pending rows))
joined_fault Workers value waiting pending rows =
    open_fault waiting pending rows (option_word Workers (Some value)) ∙ or_nil _
    ∙ ap (or_else (pending_fault pending rows)) (or_nil (use_kinds (name_of Workers) (rows_settled pending rows)))
joined_fault name value waiting pending rows =
    open_fault waiting pending rows (option_word name (Some value)) ∙ or_nil _
    ∙ ap (or_else (pending_fault pending rows)) (or_nil (use_kinds (name_of name) (rows_settled pending rows)))

pub joined_walk : (name : OptionName) (value : Word) (waiting : Waiting) (pending : Option (Text × List Text)) (rows : List Row)
    → walked rules [] (at false waiting pending rows) (option_word name (Some value))
    ≡ at false idle None (used (option_built name) (value ∷ []) (rows_settled pending rows))
joined_walk Workers value waiting pending rows = open_walk waiting pending rows (option_word Workers (Some value))
joined_walk name value waiting pending rows = open_walk waiting pending rows (option_word name (Some value))

-- the flag, and the flag with a value
pub flag_fault : (waiting : Waiting) (pending : Option (Text × List Text)) (rows : List Row)
    → turn_fault top [] (at false waiting pending rows) (flag_word None)
    ≡ or_else (pending_fault pending rows) (use_kinds (codes "pace") (rows_settled pending rows))
flag_fault waiting pending rows =
    open_fault waiting pending rows (flag_word None) ∙ or_nil _
    ∙ ap (or_else (pending_fault pending rows)) (or_nil (use_kinds (codes "pace") (rows_settled pending rows)))

pub flag_walk : (waiting : Waiting) (pending : Option (Text × List Text)) (rows : List Row)
    → walked rules [] (at false waiting pending rows) (flag_word None) ≡ at false idle None (used pace_built [] (rows_settled pending rows))
flag_walk waiting pending rows = open_walk waiting pending rows (flag_word None)

pub flag_value_fault : (value : Word) (waiting : Waiting) (pending : Option (Text × List Text)) (rows : List Row)
    → turn_fault top [] (at false waiting pending rows) (flag_word (Some value)) ≢ []
flag_value_fault value waiting pending rows none =
    let is : TooManyValues ∷ [] ≡ [] = sym (open_fault waiting pending rows (flag_word (Some value))) ∙ none in cc

-- what is none of these
pub strange_fault : (waiting : Waiting) (pending : Option (Text × List Text)) (rows : List Row) (word : Word)
    → other_fault top None word (held pending rows) ≡ UnknownArgument ∷ [] → turn_fault top [] (at false waiting pending rows) word ≢ []
strange_fault waiting pending rows word strange none =
    let is : UnknownArgument ∷ [] ≡ [] =
    ap (λ (k : Kinds). or_else k (step_fault top 1 (met waiting word (held pending rows)).0 (met waiting word (held pending rows)).1)) (sym strange)
    ∙ sym (open_fault waiting pending rows word) ∙ none in
    cc
