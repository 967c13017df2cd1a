use Rattle.sig_parse.proofs.{◌≡◌, ◌∙◌, ap, rules, map, subst, sym, model_of, leaves_of, HasTree, end_of, place_of, ParseAnswer, stands_behind, answered, no_other, given_tree, not_refused, IsAnswerOf}
use Rattle.sig_parse.proofs.program.parse_owned.Goals as goal

pub returns-in-Ok-clause-only : goal.returns-in-Ok-clause-only
returns-in-Ok-clause-only c = let tree : HasTree (leaves_of c.args.bytes.now c.args.tokens.items) (map model_of c.in-Ok.processes.items) = search rules in
    λ other h. c.one_tree.ensures.tree (leaves_of c.args.bytes.now c.args.tokens.items) other (map model_of c.in-Ok.processes.items) h tree

pub returns-clause-viable : goal.returns-clause-viable
returns-clause-viable c = let whole : c.new-parser.result.leaves ≡ leaves_of c.args.bytes.now c.args.tokens.items = search rules in
    stands_behind (leaves_of c.args.bytes.now c.args.tokens.items) (end_of c.args.tokens.items) c.answer.result (subst (λ (a : ParseAnswer). IsAnswerOf (leaves_of c.args.bytes.now c.args.tokens.items) (end_of c.args.tokens.items) a) (sym c.answer.ensures) (answered (leaves_of c.args.bytes.now c.args.tokens.items) (end_of c.args.tokens.items) c.place.result c.in-Err.refusal c.new-parser.result c.processes.new.parser whole (c.place.ensures ∙ ap (place_of c.processes.new.parser.leaves) (c.end-last.ensures ∙ ap end_of c.deref.ensures.value)) c.in-Err.ensures.refuses))

pub returns-clause-refused : goal.returns-clause-refused
returns-clause-refused c = let whole : c.new-parser.result.leaves ≡ leaves_of c.args.bytes.now c.args.tokens.items = search rules in
    subst (λ (a : ParseAnswer). IsAnswerOf (leaves_of c.args.bytes.now c.args.tokens.items) (end_of c.args.tokens.items) a) (sym c.answer.ensures) (answered (leaves_of c.args.bytes.now c.args.tokens.items) (end_of c.args.tokens.items) c.place.result c.in-Err.refusal c.new-parser.result c.processes.new.parser whole (c.place.ensures ∙ ap (place_of c.processes.new.parser.leaves) (c.end-last.ensures ∙ ap end_of c.deref.ensures.value)) c.in-Err.ensures.refuses)

pub returns-clause-no_other : goal.returns-clause-no_other
returns-clause-no_other c = let whole : c.new-parser.result.leaves ≡ leaves_of c.args.bytes.now c.args.tokens.items = search rules in
    no_other (leaves_of c.args.bytes.now c.args.tokens.items) (end_of c.args.tokens.items) c.answer.result (subst (λ (a : ParseAnswer). IsAnswerOf (leaves_of c.args.bytes.now c.args.tokens.items) (end_of c.args.tokens.items) a) (sym c.answer.ensures) (answered (leaves_of c.args.bytes.now c.args.tokens.items) (end_of c.args.tokens.items) c.place.result c.in-Err.refusal c.new-parser.result c.processes.new.parser whole (c.place.ensures ∙ ap (place_of c.processes.new.parser.leaves) (c.end-last.ensures ∙ ap end_of c.deref.ensures.value)) c.in-Err.ensures.refuses))

pub returns-clause-given : goal.returns-clause-given
returns-clause-given c = let whole : c.new-parser.result.leaves ≡ leaves_of c.args.bytes.now c.args.tokens.items = search rules in
    given_tree (leaves_of c.args.bytes.now c.args.tokens.items) (end_of c.args.tokens.items) c.answer.result (subst (λ (a : ParseAnswer). IsAnswerOf (leaves_of c.args.bytes.now c.args.tokens.items) (end_of c.args.tokens.items) a) (sym c.answer.ensures) (answered (leaves_of c.args.bytes.now c.args.tokens.items) (end_of c.args.tokens.items) c.place.result c.in-Err.refusal c.new-parser.result c.processes.new.parser whole (c.place.ensures ∙ ap (place_of c.processes.new.parser.leaves) (c.end-last.ensures ∙ ap end_of c.deref.ensures.value)) c.in-Err.ensures.refuses))

pub returns-in-Ok-clause-accepted : goal.returns-in-Ok-clause-accepted
returns-in-Ok-clause-accepted c = let tree : HasTree (leaves_of c.args.bytes.now c.args.tokens.items) (map model_of c.in-Ok.processes.items) = search rules in
    λ cause at r. not_refused (leaves_of c.args.bytes.now c.args.tokens.items) (end_of c.args.tokens.items) at cause (map model_of c.in-Ok.processes.items) tree r
