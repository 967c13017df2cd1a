-- What holds of all words holds of the files that they name.
use Rattle.sig_words.proofs.Common.{List, [], ◌∷◌, ◌++◌, Option, Some, None, subst, String, Global, AllByRecursion, flat_map, IsUtf8, IsUtf8-string_bytes, Word, Item, Plain, Joined, Apart, Pace, plain_in, plain_words, texts, written, written_behind, HasPlainWords, IsCommand, files_of, Command, Load}

first_all : (P : Word → Type 0) (xs ys : List Word) → AllByRecursion P (xs ++ ys) → AllByRecursion P xs
first_all P [] ys all = tt
first_all P (x ∷ xs) ys all = (all.0, first_all P xs ys all.1)

rest_all : (P : Word → Type 0) (xs ys : List Word) → AllByRecursion P (xs ++ ys) → AllByRecursion P ys
rest_all P [] ys all = all
rest_all P (x ∷ xs) ys all = rest_all P xs ys all.1

joined_all : (P : Word → Type 0) (xs ys : List Word) → AllByRecursion P xs → AllByRecursion P ys → AllByRecursion P (xs ++ ys)
joined_all P [] ys all more = more
joined_all P (x ∷ xs) ys all more = (all.0, joined_all P xs ys all.1 more)

in_items : (P : Word → Type 0) (items : List Item) → AllByRecursion P (flat_map written items) → AllByRecursion P (flat_map plain_in items)
in_items P [] all = tt
in_items P (Plain word ∷ items) all = (all.0, in_items P items all.1)
in_items P (Joined option value ∷ items) all = in_items P items all.1
in_items P (Apart option value ∷ items) all = in_items P items all.1.1
in_items P (Pace ∷ items) all = in_items P items all.1

-- the words of a reading that are plain
in_reading : (P : Word → Type 0) (items : List Item) (behind : Option (List Word)) → AllByRecursion P (flat_map written items ++ written_behind behind)
    → AllByRecursion P (plain_words (record { items = items; behind = behind }))
in_reading P items None all = joined_all P (flat_map plain_in items) [] (in_items P items (first_all P (flat_map written items) [] all)) tt
in_reading P items (Some words) all =
    joined_all P (flat_map plain_in items) words
    (in_items P items (first_all P (flat_map written items) (written_behind (Some words)) all))
    (rest_all P (flat_map written items) (written_behind (Some words)) all).1

of_plain : (P : Word → Type 0) (c : Command) (words : List Word) → HasPlainWords c words → AllByRecursion P words → AllByRecursion P (files_of c)
of_plain P (Load seed stages settings) words is all = tt
of_plain P _ words is all = subst (AllByRecursion P) is all

pub of_command : (P : Word → Type 0) (words : List Word) (c : Command) → IsCommand words c → AllByRecursion P words → AllByRecursion P (files_of c)
of_command P words c is all =
    let behind = subst (AllByRecursion P) is.named all in
    of_plain P c (plain_words is.reading) is.plain
    (in_reading P is.reading.items is.reading.behind (subst (AllByRecursion P) is.reads.whole behind.1))

-- strings are text
pub strings : (words : List (String Global)) → AllByRecursion IsUtf8 (texts words)
strings [] = tt
strings (word ∷ words) = (IsUtf8-string_bytes word, strings words)
