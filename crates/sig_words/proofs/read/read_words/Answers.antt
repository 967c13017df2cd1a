use Rattle.sig_words.proofs.{◌≡◌, ◌∙◌, sym, List, ◌∷◌, Result, Ok, Err, IfOk, IfErr, MatchResult, inl, inr, ap, string_bytes, err_from_is_err_and, String, Global, Word, texts, settings_of, spelling, said_by, WordsAnswer, Command, Verb, IsUtf8, determined, makes, only_made, said_once, of_command, strings}
use Rattle.sig_words.proofs.read.read_words.Goals as goal

-- what holds of the command in an `Ok`, from three clauses on it
on_ok : (r : Result Command WordsAnswer) (P Q R S : Command → Type 0) → IfOk r P → IfOk r Q → IfOk r R
    → ((c : Command) → P c → Q c → R c → S c) → IfOk r S
on_ok (Ok c) P Q R S p q r go = go c p q r
on_ok (Err a) P Q R S p q r go = tt

on_both : (r : Result Command WordsAnswer) (P Q R S : Command → Type 0) (E F : WordsAnswer → Type 0) → IfOk r P → IfOk r Q → IfOk r R → IfErr r E
    → ((c : Command) → P c → Q c → R c → S c) → ((a : WordsAnswer) → E a → F a) → MatchResult r S F
on_both (Ok c) P Q R S E F p q r e go back = go c p q r
on_both (Err a) P Q R S E F p q r e go back = back a e

-- the first word is the verb's name
named_by : (words : List (String Global)) (name : String Global) (after : List (String Global)) (v : Verb) (text : Word) → words ≡ name ∷ after
    → text ≡ string_bytes name → text ≡ spelling v → texts words ≡ spelling v ∷ texts after
named_by words name after v text whole is spelt =
    ap texts whole ∙ ap (λ (w : Word). w ∷ texts after) (sym is ∙ spelt)

-- the words have no reading, or an option wants its value
pub returns-in_err-given-clause-given : goal.returns-in_err-given-clause-given
returns-in_err-given-clause-given c = λ d is.
    let p = err_from_is_err_and c.from_residual.result c.from_residual.ensures.1 in
    let named = named_by c.args.words.now c.in-Some.name.now c.in-Some.after.now c.in-Some-named.verb c.as_str.result.now
    c.in-Some.ensures.cases.0 c.as_str.ensures.value c.in-Some-named.ensures in
    let det = determined c.in-Some-named.verb (texts c.args.words.now) (texts c.in-Some.after.now) d named is in
    rw (p.1, p.2) (elim c.in_err-given.ensures.refused [ inl memory ↦ memory | inr none ↦ absurd (none det.said det.is) ])

-- the settings are not the command's
pub returns-in_err-settings-clause-given : goal.returns-in_err-settings-clause-given
returns-in_err-settings-clause-given c = λ d is.
    let p = err_from_is_err_and c.from_residual-in_err-settings.result c.from_residual-in_err-settings.ensures.1 in
    let named = named_by c.args.words.now c.in-Some.name.now c.in-Some.after.now c.in-Some-named.verb c.as_str.result.now
    c.in-Some.ensures.cases.0 c.as_str.ensures.value c.in-Some-named.ensures in
    let det = determined c.in-Some-named.verb (texts c.args.words.now) (texts c.in-Some.after.now) d named is in
    let back = said_once (texts c.in-Some.after.now) det.said (said_by c.in_ok-given.given) det.is c.in_ok-given.ensures.given in
    let refused = c.in_err-settings.ensures in
    absurd (refused.1 (settings_of d) (rw c.options.ensures (rw back at det.settings)))

-- the command that is made is the words'
pub returns-clause-command : goal.returns-clause-command
returns-clause-command c =
    let named = named_by c.args.words.now c.in-Some.name.now c.in-Some.after.now c.in-Some-named.verb c.as_str.result.now
    c.in-Some.ensures.cases.0 c.as_str.ensures.value c.in-Some-named.ensures in
    let are = rw c.options.ensures at c.in_ok-settings.ensures in
    on_ok c.command.result _ _ _ _ c.command.ensures.verb c.command.ensures.plain c.command.ensures.settings
    (λ d verb plain made. makes c.in-Some-named.verb (texts c.args.words.now) (texts c.in-Some.after.now) (said_by c.in_ok-given.given)
    c.in_ok-settings.settings d named c.in_ok-given.ensures.given are verb (rw c.deref.ensures.value at plain) made)

-- and the words have no other
pub returns-clause-given : goal.returns-clause-given
returns-clause-given c = λ d is.
    let named = named_by c.args.words.now c.in-Some.name.now c.in-Some.after.now c.in-Some-named.verb c.as_str.result.now
    c.in-Some.ensures.cases.0 c.as_str.ensures.value c.in-Some-named.ensures in
    let are = rw c.options.ensures at c.in_ok-settings.ensures in
    let det = determined c.in-Some-named.verb (texts c.args.words.now) (texts c.in-Some.after.now) d named is in
    let back = said_once (texts c.in-Some.after.now) det.said (said_by c.in_ok-given.given) det.is c.in_ok-given.ensures.given in
    on_both c.command.result _ _ _ _ _ _ c.command.ensures.verb c.command.ensures.plain c.command.ensures.settings c.command.ensures.err
    (λ e verb plain made. only_made c.in-Some-named.verb (texts c.args.words.now) (texts c.in-Some.after.now) (said_by c.in_ok-given.given)
    c.in_ok-settings.settings e d named c.in_ok-given.ensures.given are verb (rw c.deref.ensures.value at plain) made is)
    (λ answer err. elim err [ inl memory ↦ memory | inr none ↦ absurd (none d det.same_verb (rw c.deref.ensures.value (rw back at det.plain))) ])

-- the files are among the words, which are text
pub returns-clause-names : goal.returns-clause-names
returns-clause-names c =
    let named = named_by c.args.words.now c.in-Some.name.now c.in-Some.after.now c.in-Some-named.verb c.as_str.result.now
    c.in-Some.ensures.cases.0 c.as_str.ensures.value c.in-Some-named.ensures in
    let are = rw c.options.ensures at c.in_ok-settings.ensures in
    on_ok c.command.result _ _ _ _ c.command.ensures.verb c.command.ensures.plain c.command.ensures.settings
    (λ d verb plain made. of_command IsUtf8 (texts c.args.words.now) d
    (makes c.in-Some-named.verb (texts c.args.words.now) (texts c.in-Some.after.now) (said_by c.in_ok-given.given)
    c.in_ok-settings.settings d named c.in_ok-given.ensures.given are verb (rw c.deref.ensures.value at plain) made)
    (strings c.args.words.now))
