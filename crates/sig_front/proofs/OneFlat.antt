-- A text has one flat body that is kept or one refusal, at most, and not both.
use Rattle.sig_front.proofs.Common.{◌≡◌, ◌<◌, ◌∙◌, ℕ, List, length, sym, ap, subst, arith, Offence, all_processes, IsFlatBody, FlatBody, IsText, ProcessModel, IsFirstOffence, rules_of, one_first, none_first, one_body, TypeAnswer, IsFlatText, IsGood, IsNoFlatText, IsTooLarge, Offends, answer_for, IsNoText, FrontAnswer, Lex, Parse, «Type» as TypeRefused, TooManySignals, OutOfMemory}
use Rattle.sig_front.proofs.OneText.{tree_once, refusal_once, tree_or_refusal}

-- ---- a flat body

same_flat : (text : List ℕ) (tree other : List ProcessModel) (a b : FlatBody) → IsText text tree → IsText text other → IsFlatBody tree a → IsFlatBody other b → a ≡ b
same_flat text tree other a b reads also expands second =
    one_body tree a b expands (subst (λ t. IsFlatBody t b) (tree_once text other tree also reads) second)

pub flat_once : (text : List ℕ) (a b : FlatBody) → IsFlatText text a → IsFlatText text b → a ≡ b
flat_once text a b one two = same_flat text one.tree two.tree a b one.good.reads two.good.reads one.expands two.expands

-- ---- apart from what is refused

good_apart : (text : List ℕ) (tree : List ProcessModel) (answer : TypeAnswer) → IsGood text tree → Offends text answer → ⊥
good_apart text tree answer good offends =
    none_first (rules_of (all_processes tree)) offends.offence good.formed
    (subst (λ t. IsFirstOffence t offends.offence) (tree_once text offends.tree tree offends.reads good.reads) offends.first)

large_apart : (text : List ℕ) (flat : FlatBody) (limit : ℕ) → IsFlatText text flat → IsTooLarge text limit → ⊥
large_apart text flat limit kept large =
    let same : large.flat ≡ flat = same_flat text large.tree kept.tree large.flat flat large.good.reads kept.good.reads large.expands kept.expands in
    let more : 512 < length flat.signals = subst (λ (f : FlatBody). 512 < length f.signals) same large.many in
    absurd (omega (arith, more, kept.few))

pub flat_or_refusal : (text : List ℕ) (flat : FlatBody) (answer : FrontAnswer) → IsFlatText text flat → IsNoFlatText text answer → ⊥
flat_or_refusal text flat (Lex fault) kept none = tree_or_refusal text kept.tree (Lex fault) kept.good.reads none
flat_or_refusal text flat (Parse refusal) kept none = tree_or_refusal text kept.tree (Parse refusal) kept.good.reads none
flat_or_refusal text flat (TypeRefused answer) kept none = good_apart text kept.tree answer kept.good none
flat_or_refusal text flat (TooManySignals limit) kept none = large_apart text flat limit kept none
flat_or_refusal text flat OutOfMemory kept none = none

-- ---- one refusal

offends_once : (text : List ℕ) (a b : TypeAnswer) → Offends text a → Offends text b → a ≡ b
offends_once text a b one two =
    one.named
    ∙ ap answer_for (one_first (rules_of (all_processes one.tree)) one.offence two.offence one.first
    (subst (λ t. IsFirstOffence t two.offence) (tree_once text two.tree one.tree two.reads one.reads) two.first))
    ∙ sym two.named

no_text_offends : (text : List ℕ) (front : FrontAnswer) (answer : TypeAnswer) → IsNoText text front → Offends text answer → ⊥
no_text_offends text front answer none offends = tree_or_refusal text offends.tree front offends.reads none

no_text_large : (text : List ℕ) (front : FrontAnswer) (limit : ℕ) → IsNoText text front → IsTooLarge text limit → ⊥
no_text_large text front limit none large = tree_or_refusal text large.tree front large.good.reads none

pub no_flat_once : (text : List ℕ) (a b : FrontAnswer) → IsNoFlatText text a → IsNoFlatText text b → a ≡ b
no_flat_once text (Lex a) (Lex b) x y = refusal_once text (Lex a) (Lex b) x y
no_flat_once text (Lex a) (Parse b) x y = refusal_once text (Lex a) (Parse b) x y
no_flat_once text (Lex a) (TypeRefused b) x y = absurd (no_text_offends text (Lex a) b x y)
no_flat_once text (Lex a) (TooManySignals m) x y = absurd (no_text_large text (Lex a) m x y)
no_flat_once text (Lex a) OutOfMemory x y = absurd y
no_flat_once text (Parse a) (Lex b) x y = refusal_once text (Parse a) (Lex b) x y
no_flat_once text (Parse a) (Parse b) x y = refusal_once text (Parse a) (Parse b) x y
no_flat_once text (Parse a) (TypeRefused b) x y = absurd (no_text_offends text (Parse a) b x y)
no_flat_once text (Parse a) (TooManySignals m) x y = absurd (no_text_large text (Parse a) m x y)
no_flat_once text (Parse a) OutOfMemory x y = absurd y
no_flat_once text (TypeRefused a) (Lex b) x y = absurd (no_text_offends text (Lex b) a y x)
no_flat_once text (TypeRefused a) (Parse b) x y = absurd (no_text_offends text (Parse b) a y x)
no_flat_once text (TypeRefused a) (TypeRefused b) x y = ap (λ o. let answer : FrontAnswer = TypeRefused o in answer) (offends_once text a b x y)
no_flat_once text (TypeRefused a) (TooManySignals m) x y = absurd (good_apart text y.tree a y.good x)
no_flat_once text (TypeRefused a) OutOfMemory x y = absurd y
no_flat_once text (TooManySignals n) (Lex b) x y = absurd (no_text_large text (Lex b) n y x)
no_flat_once text (TooManySignals n) (Parse b) x y = absurd (no_text_large text (Parse b) n y x)
no_flat_once text (TooManySignals n) (TypeRefused b) x y = absurd (good_apart text x.tree b x.good y)
no_flat_once text (TooManySignals n) (TooManySignals m) x y = ap (λ l. let answer : FrontAnswer = TooManySignals l in answer) (x.said ∙ sym y.said)
no_flat_once text (TooManySignals n) OutOfMemory x y = absurd y
no_flat_once text OutOfMemory b x y = absurd x

-- ---- what the passes answer

offends : (text : List ℕ) (tree : List ProcessModel) (offence : Offence) (answer : TypeAnswer) → IsText text tree → IsFirstOffence tree offence → answer ≡ answer_for offence → Offends text answer
offends text tree offence answer reads first named = record { tree = tree; reads = reads; offence = offence; first = first; named = named }
