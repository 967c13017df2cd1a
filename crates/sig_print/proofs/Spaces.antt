-- Words one after another.
use Rattle.sig_print.proofs.Common.{◌≡◌, ◌++◌, List, [], ◌∷◌, ℕ, refl, ap, append_assoc, sym, ◌∙◌, Result, Ok, Err, OnOk, length, take, get_or, ◌+◌, ◌<◌, ◌≤◌, map, flat_map, append-nil, take_more, take_all, flat_map-append, flat_map-map, Spaced, spaced_text, further, Adds}

-- the text of words and then of others
pub spaced_append : (a b : List Spaced) → spaced_text (a ++ b) ≡ spaced_text a ++ spaced_text b
spaced_append [] b = refl
spaced_append (s ∷ a) b = ap (λ t. s.blank ∷ s.word.text ++ t) (spaced_append a b) ∙ sym (append_assoc (s.blank ∷ s.word.text) (spaced_text a) (spaced_text b))

-- words, and then others
pub joined : (before mid after : List ℕ) (a b : List Spaced)
    → mid ≡ before ++ spaced_text a → after ≡ mid ++ spaced_text b → after ≡ before ++ spaced_text (a ++ b)
joined before mid after a b e h = h ∙ ap (λ m. m ++ spaced_text b) e ∙ append_assoc before (spaced_text a) (spaced_text b) ∙ ap (λ t. before ++ t) (sym (spaced_append a b))

-- words, and then what the last call adds
pub then_words : {T E : Type 0} (before mid after : List ℕ) (result : Result T E) (a b : List Spaced)
    → mid ≡ before ++ spaced_text a → Adds mid after result b → Adds before after result (a ++ b)
then_words before mid after (Ok x) a b e h = joined before mid after a b e h
then_words before mid after (Err x) a b e h = tt

-- a word, and then what the last call adds
pub then_word : {T E : Type 0} (before mid after : List ℕ) (result : Result T E) (s : Spaced) (b : List Spaced)
    → mid ≡ before ++ s.blank ∷ s.word.text → Adds mid after result b → Adds before after result (s ∷ b)
then_word before mid after (Ok x) s b e h = h ∙ ap (λ m. m ++ spaced_text b) e ∙ append_assoc before (s.blank ∷ s.word.text) (spaced_text b)
then_word before mid after (Err x) s b e h = tt

-- a last word
pub last_word : {T E : Type 0} (before after : List ℕ) (result : Result T E) (s : Spaced)
    → OnOk result (after ≡ before ++ s.blank ∷ s.word.text) → Adds before after result (s ∷ [])
last_word before after (Ok x) s h = h ∙ ap (λ t. before ++ s.blank ∷ t) (sym (append-nil s.word.text))
last_word before after (Err x) s h = tt

-- one word
pub one_word : (before after : List ℕ) (s : Spaced) → after ≡ before ++ s.blank ∷ s.word.text → after ≡ before ++ spaced_text (s ∷ [])
one_word before after s h = h ∙ ap (λ t. before ++ s.blank ∷ t) (sym (append-nil s.word.text))

-- one turn of a loop over things, each with its words
pub each_step : {A : Type 0} (words : A → List Spaced) (before old new : List ℕ) (xs : List A) (i : ℕ) (x : A)
    → x ≡ get_or xs i x → i < length xs → old ≡ before ++ spaced_text (flat_map words (take i xs))
    → new ≡ old ++ spaced_text (words x)
    → new ≡ before ++ spaced_text (flat_map words (take (i + 1) xs))
each_step words before old new xs i x is h e f =
    joined before old new (flat_map words (take i xs)) (words x) e f
    ∙ ap (λ ws. before ++ spaced_text ws) (sym (
    ap (flat_map words) (take_more xs i x h)
    ∙ flat_map-append words (take i xs) (get_or xs i x ∷ [])
    ∙ ap (λ ws. flat_map words (take i xs) ++ ws) (append-nil (words (get_or xs i x)) ∙ ap words (sym is))))

-- one turn of a loop over things, each behind a separator
pub further_step : {A : Type 0} (words : A → List Spaced) (separator : Spaced) (before old mid new : List ℕ) (xs : List A) (i : ℕ) (x : A)
    → x ≡ get_or xs i x → i < length xs → old ≡ before ++ spaced_text (further words separator (take i xs))
    → mid ≡ old ++ separator.blank ∷ separator.word.text
    → new ≡ mid ++ spaced_text (words x)
    → new ≡ before ++ spaced_text (further words separator (take (i + 1) xs))
further_step words separator before old mid new xs i x is h e s f =
    each_step (λ y. separator ∷ words y) before old new xs i x is h e
    (f ∙ ap (λ m. m ++ spaced_text (words x)) s ∙ append_assoc old (separator.blank ∷ separator.word.text) (spaced_text (words x)))

-- the end of a loop over things, where the words are those of what the things stand for
pub each_end : {A B : Type 0} (words : B → List Spaced) (f : A → B) (before now : List ℕ) (xs : List A) (i : ℕ)
    → length xs ≤ i → now ≡ before ++ spaced_text (flat_map (λ x. words (f x)) (take i xs))
    → now ≡ before ++ spaced_text (flat_map words (map f xs))
each_end words f before now xs i h e =
    e ∙ ap (λ ys. before ++ spaced_text (flat_map (λ x. words (f x)) ys)) (take_all i xs h)
    ∙ ap (λ ws. before ++ spaced_text ws) (sym (flat_map-map words f xs))
