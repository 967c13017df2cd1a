use Rattle.sig_rel.proofs.{◌≡◌, ◌+◌, ◌<◌, ◌++◌, ℕ, List, [], ◌∷◌, length, get_or, take, ap, sym, ◌∙◌, refl, arith, take_more, classes_among, Element, Presence, Truth}
use Rattle.sig_rel.proofs.elements.classes_of.Goals as goal

among_append : (xs ys : List Element) → classes_among (xs ++ ys) ≡ classes_among xs ++ classes_among ys
among_append [] ys = refl
among_append (Presence c ∷ xs) ys = ap (λ rest. c ∷ rest) (among_append xs ys)
among_append (Truth s ∷ xs) ys = among_append xs ys

one_more : (list : List Element) (k : ℕ) (d : Element) (classes next : List ℕ) → k < length list → classes ≡ classes_among (take k list) → next ≡ classes ++ classes_among (get_or list k d ∷ []) → next ≡ classes_among (take (k + 1) list)
one_more list k d classes next lt so_far is =
    is ∙ ap (λ xs. xs ++ classes_among (get_or list k d ∷ [])) so_far ∙ sym (among_append (take k list) (get_or list k d ∷ [])) ∙ sym (ap classes_among (take_more list k d lt))

pub loop-element-preserved : goal.loop-element-preserved
loop-element-preserved c = one_more c.args.list.now c.loop-element.element-index _ c.loop-element.classes.items c.push_class.new.classes.items (omega (arith, c.loop-element-test.true)) c.loop-element.invariant c.in_ok-push_class.ensures
