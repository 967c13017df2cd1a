use Rattle.sig_rel.proofs.{◌++◌, ◌∷◌, [], ◌∙◌, List, ap, length, subst, AreMarks, Element, Presence, begun_first, marks_more, not_triangular, whole_list}
use Rattle.sig_rel.proofs.placing.placed_from.Goals as goal

pub place_all-requires-clause-placed : goal.place_all-requires-clause-placed
place_all-requires-clause-placed c =
    let kernel = c.args.kernel.now in
    let new = c.place.new.self in
    let list = c.in_ok-place.ensures.list ∙ ap (λ (xs : List Element). xs ++ Presence c.args.top ∷ []) c.in_ok-placed.ensures.list in
    let empty = subst (λ n. AreMarks n c.in_ok-placed.placed) (ap length c.as_slice.ensures) c.in_ok-placed.ensures.marks in
    record {
      begun = begun_first kernel c.requires.valid c.args.rules c.requires.rules c.args.top c.requires.within c.requires.top new.list.items list;
      marks = marks_more (length kernel.signals) c.in_ok-placed.placed new (Presence c.args.top) empty c.requires.within c.in_ok-place.ensures.list c.in_ok-place.ensures.classes c.in_ok-place.ensures.truths;
    }

pub returns-then-is_whole : goal.returns-then-is_whole
returns-then-is_whole c = record {
  are_rules = c.requires.rules;
  is_triangle = whole_list c.args.kernel.now c.requires.valid c.args.rules c.requires.rules c.place_all.new.self c.in_ok-place_all.ensures.0 c.if-is_whole.ensures;
}

pub returns-else-is_whole : goal.returns-else-is_whole
returns-else-is_whole c =
    not_triangular c.args.kernel.now c.requires.valid c.args.rules c.requires.rules c.place_all.new.self c.in_ok-place_all.ensures.0 c.in_ok-place_all.ensures.1
    c.if-is_whole.ensures.0 c.if-is_whole.ensures.1 c.if-is_whole.ensures.2
