use Rattle.sig_judge.proofs.{◌≡◌, ◌<◌, ◌+◌, ◌++◌, ◌∙◌, ℕ, [], ◌∷◌, None, Some, true, get_or, length, map, set, inr, sym, ap, subst, arith, is_some, rules, get_or_default, list_all, Signal, is_line_byte, word_of, words_behind, words_from, nobody, Named, no_header, good_header, nothing_there, twice_named, not_named, named_on, all_named, kinds_named_all, columns_all}
use Rattle.sig_judge.proofs.header.header_of.Goals as goal

pub returns-then-is_some-clause-fault : goal.returns-then-is_some-clause-fault
returns-then-is_some-clause-fault c =
    let clean : list_all is_line_byte c.args.start.line.now ≡ true = search rules in
    let found = c.in-Some-input_named.ensures.found in
    let named = c.loop-next.invariant.named in
    let at : get_or c.loop-next.places.items c.in-Some-input_named.i None ≡ c.index.result.now = get_or_default c.loop-next.places.items c.in-Some-input_named.i None c.index.result.now (omega (arith, found.within, named.same_length)) ∙ sym c.index.ensures in
    let some : is_some (get_or c.loop-next.places.items c.in-Some-input_named.i None) ≡ true = ap is_some at ∙ sym c.is_some.ensures ∙ c.if-is_some.true in
    inr (no_header c.args.signals.now c.args.start clean
    (twice_named c.args.signals.now c.args.start.line.now c.loop-next.kinds.items c.loop-next.places.items c.loop-next.col c.loop-next.rest.now named c.in-Some-input_named.i nobody (word_of c.in-Some.next) (words_behind c.in-Some.next) c.in-Some.ensures.word found.within (found.same nobody) some))

pub loop-next-preserved : goal.loop-next-preserved
loop-next-preserved c =
    let found = c.in-Some-input_named.ensures.found in
    let was = c.loop-next.invariant.named in
    let at : get_or c.loop-next.places.items c.in-Some-input_named.i None ≡ c.index.result.now = get_or_default c.loop-next.places.items c.in-Some-input_named.i None c.index.result.now (omega (arith, found.within, was.same_length)) ∙ sym c.index.ensures in
    let none : get_or c.loop-next.places.items c.in-Some-input_named.i None ≡ None = nothing_there (get_or c.loop-next.places.items c.in-Some-input_named.i None) (ap is_some at ∙ sym c.is_some.ensures ∙ c.if-is_some.false) in
    let kinds : c.push.new.self.items ≡ c.loop-next.kinds.items ++ c.index-signals-i.result.kind ∷ [] = search rules in
    let kind : get_or c.args.signals.now c.in-Some-input_named.i nobody ≡ c.index-signals-i.result = get_or_default c.args.signals.now c.in-Some-input_named.i nobody c.index-signals-i.result found.within ∙ sym c.index-signals-i.is in
    let all : c.push.new.self.items ≡ c.loop-next.kinds.items ++ (get_or c.args.signals.now c.in-Some-input_named.i nobody).kind ∷ [] = kinds ∙ ap (λ (s : Signal). c.loop-next.kinds.items ++ s.kind ∷ []) (sym kind) in
    let count : c.len.result ≡ length c.loop-next.kinds.items = search rules in
    let now = named_on c.args.signals.now c.requires.differ c.args.start.line.now c.loop-next.kinds.items c.loop-next.places.items c.loop-next.col c.loop-next.rest.now was c.in-Some-input_named.i c.len.result nobody (word_of c.in-Some.next) (c.in-Some.next.col + length c.in-Some.next.word.now) c.in-Some.next.rest.now c.in-Some.ensures.word found.within (found.same nobody) (found.kind nobody) none count in
    record {
      within = omega (arith, c.in-Some.ensures.within, c.loop-next.invariant.within);
      named = subst (λ kinds. Named c.args.signals.now c.args.start.line.now kinds (set c.loop-next.places.items c.in-Some-input_named.i (Some c.len.result)) (c.in-Some.next.col + length c.in-Some.next.word.now) c.in-Some.next.rest.now) (sym all) now;
    }

pub returns-in-Some-2-clause-good : goal.returns-in-Some-2-clause-good
returns-in-Some-2-clause-good c =
    let clean : list_all is_line_byte c.args.start.line.now ≡ true = search rules in
    let none : words_from c.loop-next.col c.loop-next.rest.now ≡ [] = search rules in
    let all : map Some c.in-Some-2.columns.items ≡ c.loop-next.places.items = search rules in
    good_header c.args.signals.now c.args.start clean
    (all_named c.args.signals.now c.args.start.line.now c.loop-next.kinds.items c.loop-next.places.items c.loop-next.col c.loop-next.rest.now c.loop-next.invariant.named c.in-Some-2.columns.items none all)

pub returns-in-Some-2-clause-header : goal.returns-in-Some-2-clause-header
returns-in-Some-2-clause-header c =
    let none : words_from c.loop-next.col c.loop-next.rest.now ≡ [] = search rules in
    let all : map Some c.in-Some-2.columns.items ≡ c.loop-next.places.items = search rules in
    record {
      kinds = kinds_named_all c.args.signals.now c.args.start.line.now c.loop-next.kinds.items c.loop-next.places.items c.loop-next.col c.loop-next.rest.now c.loop-next.invariant.named c.in-Some-2.columns.items none all;
      columns = columns_all c.args.signals.now c.args.start.line.now c.loop-next.kinds.items c.loop-next.places.items c.loop-next.col c.loop-next.rest.now c.loop-next.invariant.named c.in-Some-2.columns.items none all;
    }

pub returns-in-None-clause-fault : goal.returns-in-None-clause-fault
returns-in-None-clause-fault c =
    let clean : list_all is_line_byte c.args.start.line.now ≡ true = search rules in
    let none : words_from c.loop-next.col c.loop-next.rest.now ≡ [] = search rules in
    let missing : (k : ℕ) × (k < length c.loop-next.places.items) × (get_or c.loop-next.places.items k None ≡ None) = search rules in
    inr (no_header c.args.signals.now c.args.start clean
    (not_named c.args.signals.now c.args.start.line.now c.loop-next.kinds.items c.loop-next.places.items c.loop-next.col c.loop-next.rest.now c.loop-next.invariant.named missing.0 none missing.1 missing.2))
