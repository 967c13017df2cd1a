-- The first equation that an instant does not satisfy.
use Rattle.sig_judge.proofs.Common.{◌<◌, ◌++◌, ℕ, suc, List, ◌∷◌, length, map, take, drop, get_or, sym, ap, ◌∙◌, arith, drop-cons, take-append-drop, length-take-le, length-map, map-append, Instant, FlatEquation, EquationSteps, BodySteps, BreaksAt}

pub breaks_here : {A : Type 0} (f : A → FlatEquation) (now : Instant) (xs ys : List A) (i : ℕ) (d : A) → i < length xs → BodySteps now (map f (take i xs)) (map f (take i ys))
    → ((next : FlatEquation) → EquationSteps now (f (get_or xs i d)) next → ⊥) → BreaksAt now (map f xs) i
breaks_here {A} f now xs ys i d lt done breaks = record {
  earlier = map f (take i xs);
  broken = f (get_or xs i d);
  later = map f (drop (suc i) xs);
  equations_are = ap (map f) (sym (take-append-drop i xs) ∙ ap (λ (back : List A). take i xs ++ back) (drop-cons xs i d lt)) ∙ map-append f (take i xs) (get_or xs i d ∷ drop (suc i) xs);
  index_is = sym (length-map (take i xs) f ∙ length-take-le i xs (omega arith));
  nexts = map f (take i ys);
  steps = done;
  breaks = breaks;
}
