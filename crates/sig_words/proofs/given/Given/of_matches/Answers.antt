use Rattle.sig_words.proofs.{◌≡◌, ◌∙◌, ap, refl, Bool, true, false, List, [], ◌++◌, Option, Some, None, codes, if◌then◌else◌, option_map, unwrap_or, Bor, found_of, one_text, Text, first_of, rows_of, first_value-rows, one_text-rows, raw_values-rows, Word, Said, referents}
use Rattle.sig_words.proofs.given.Given.of_matches.Goals as goal

said_same : (s : Said) (plain : List Word) (workers capacity instants : Option Word) (pace : Bool) → plain ≡ s.plain → workers ≡ s.workers → capacity ≡ s.capacity
    → instants ≡ s.instants → pace ≡ s.pace
    → ◌≡◌ {A = Said} (record { plain = plain; workers = workers; capacity = capacity; instants = instants; pace = pace }) s
said_same s plain workers capacity instants pace p w k i f =
    λ t. record { plain = p t; workers = w t; capacity = k t; instants = i t; pace = f t }

-- the words of a slice that may be there
slice_words : (o : Option (Bor (List (Bor Word)))) (none : Bor (List (Bor Word))) → none.now ≡ []
    → referents (unwrap_or o none).now ≡ unwrap_or (option_map (λ (s : Bor (List (Bor Word))). referents s.now) o) []
slice_words None none is = ap referents is
slice_words (Some s) none is = refl

flag_is : (b result : Bool) (text : Option Text) → text ≡ Some (if b then codes "true" else codes "false")
    → (text ≡ Some (codes "true") → result ≡ true) → (text ≡ Some (codes "false") → result ≡ false) → result ≡ b
flag_is true result text is when_true when_false = when_true is
flag_is false result text is when_true when_false = when_false is

pub returns : goal.returns
returns c = λ s shows.
    let found = found_of c.args.matches.now in
    said_same s _ _ _ _ _
    (ap referents (c.in_ok-extend_from_slice.ensures.items ∙ ap (λ (xs : List (Bor Word)). xs ++ c.unwrap_or.result.now) c.new-plain.ensures.items)
    ∙ ap (λ (t : Bor (List (Bor Word))). referents t.now) c.unwrap_or.ensures ∙ slice_words c.get_raw.result _ refl
    ∙ ap (λ (o : Option (List Word)). unwrap_or o []) (c.get_raw.ensures ∙ raw_values-rows found (codes "words")) ∙ shows.plain)
    (c.get_str.ensures ∙ first_value-rows found c.name.result.now ∙ ap (λ (id : Text). first_of id (rows_of found)) c.name.ensures ∙ shows.workers)
    (c.get_str-2.ensures ∙ first_value-rows found c.name-2.result.now ∙ ap (λ (id : Text). first_of id (rows_of found)) c.name-2.ensures ∙ shows.capacity)
    (c.get_str-3.ensures ∙ first_value-rows found c.name-3.result.now ∙ ap (λ (id : Text). first_of id (rows_of found)) c.name-3.ensures ∙ shows.instants)
    (flag_is s.pace c.get_flag.result (one_text found (codes "pace")) (one_text-rows found (codes "pace") ∙ shows.pace) c.get_flag.ensures.value c.get_flag.ensures.other)
