-- The refusal of a text stands behind leaves with which some program begins.
use Rattle.sig_parse.proofs.Common.{sym, subst, List, inl, inr, Span, Leaf, ParseAnswer, Cause, Wrong, StandsBehind, IsRefusal, IsAnswerOf, answer_for}

behind : (leaves : List Leaf) (end : Span) (cause : Cause) (at : Span) → StandsBehind leaves end at → IsRefusal leaves end (answer_for cause at)
behind leaves end Wrong at s = s
behind leaves end _ at s = s

pub stands_behind : (leaves : List Leaf) (end : Span) (answer : ParseAnswer) → IsAnswerOf leaves end answer → IsRefusal leaves end answer
stands_behind leaves end answer (inl memory) = subst (λ (a : ParseAnswer). IsRefusal leaves end a) (sym memory) tt
stands_behind leaves end answer (inr (cause, at, same, r)) = subst (λ (a : ParseAnswer). IsRefusal leaves end a) (sym same)
    (behind leaves end cause at (record { passed = r.passed; after = r.after; split = r.split; place = r.place; begins = r.begins }))
