-- A text is that of one program or has one refusal, at most, and not both.
use Rattle.sig_front.proofs.Common.{◌≡◌, ℕ, List, ap, subst, one_list, one_first_fault, list_or_fault, Token, one_answer as one_refusal, no_answer as no_refusal, IsFirstRefusal, end_of, tree_once as one_tree, HasTree, IsText, leaves_of, both_limits, ProcessModel, IsNoText, FrontAnswer, Lex, Parse, «Type» as TypeRefused, TooManySignals, OutOfMemory}

pub tree_once : (text : List ℕ) (a b : List ProcessModel) → IsText text a → IsText text b → a ≡ b
tree_once text a b (tokens, are, has) (others, also, has_other) =
    one_tree both_limits (leaves_of text tokens) a b has
    (subst (λ (ts : List Token). HasTree (leaves_of text ts) b) (one_list text others tokens also are) has_other)

pub refusal_once : (text : List ℕ) (a b : FrontAnswer) → IsNoText text a → IsNoText text b → a ≡ b
refusal_once text (Lex a) (Lex b) x y = ap (λ f. let answer : FrontAnswer = Lex f in answer) (one_first_fault text a b x y)
refusal_once text (Lex a) (Parse b) x (tokens, are, is) = absurd (list_or_fault text tokens a are x)
refusal_once text (Lex a) (TypeRefused b) x y = absurd y
refusal_once text (Lex a) (TooManySignals m) x y = absurd y
refusal_once text (Lex a) OutOfMemory x y = absurd y
refusal_once text (Parse a) (Lex b) (tokens, are, is) y = absurd (list_or_fault text tokens b are y)
refusal_once text (Parse a) (Parse b) (tokens, are, is) (others, also, second) =
    ap (λ f. let answer : FrontAnswer = Parse f in answer)
    (one_refusal (leaves_of text tokens) (end_of tokens) a b is
    (subst (λ ts. IsFirstRefusal (leaves_of text ts) (end_of ts) b) (one_list text others tokens also are) second))
refusal_once text (Parse a) (TypeRefused b) x y = absurd y
refusal_once text (Parse a) (TooManySignals m) x y = absurd y
refusal_once text (Parse a) OutOfMemory x y = absurd y
refusal_once text (TypeRefused a) b x y = absurd x
refusal_once text (TooManySignals n) b x y = absurd x
refusal_once text OutOfMemory b x y = absurd x

pub tree_or_refusal : (text : List ℕ) (tree : List ProcessModel) (answer : FrontAnswer) → IsText text tree → IsNoText text answer → ⊥
tree_or_refusal text tree (Lex fault) (tokens, are, has) x = list_or_fault text tokens fault are x
tree_or_refusal text tree (Parse fault) (tokens, are, has) (others, also, is) =
    no_refusal (leaves_of text tokens) (end_of tokens) tree fault has
    (subst (λ ts. IsFirstRefusal (leaves_of text ts) (end_of ts) fault) (one_list text others tokens also are) is)
tree_or_refusal text tree (TypeRefused answer) is x = x
tree_or_refusal text tree (TooManySignals limit) is x = x
tree_or_refusal text tree OutOfMemory is x = x
