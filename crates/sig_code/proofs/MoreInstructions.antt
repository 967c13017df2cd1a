-- Instructions that are added one after another.
use Rattle.sig_code.proofs.Common.{◌≡◌, ℕ, ◌+◌, ◌<◌, ◌≤◌, List, [], ◌∷◌, ◌++◌, length, map, take, get_or, Option, None, Some, refl, sym, ap, ◌∙◌, subst, append_assoc, cons_option, enumerate_from, filter_map, option_to_list, map-append, map_more, take_all, take_more, filter_map-append, Adds, IsCodeOf, Node, CodeView, Instruction, StepKind}
use Rattle.sig_code.proofs.Numbered.{numbered_more}

pub adds_then : (nodes : List Node) (first second all : List Instruction) (a b c : CodeView) → first ++ second ≡ all → Adds nodes first a b → Adds nodes second b c
    → Adds nodes all a c
adds_then nodes first second all a b c joined x y = record {
  held = y.held;
  goes_on = λ before is.
      subst (λ (is : List Instruction). IsCodeOf nodes is c) (append_assoc before first second ∙ ap (λ (m : List Instruction). before ++ m) joined)
      (y.goes_on (before ++ first) (x.goes_on before is));
}

-- what was added, written in another way
pub adds_same : (nodes : List Node) (more all : List Instruction) (old new : CodeView) → more ≡ all → Adds nodes more old new → Adds nodes all old new
adds_same nodes more all old new same adds = subst (λ (is : List Instruction). Adds nodes is old new) same adds

option_list : {Y : Type 0} (o : Option Y) → option_to_list o ≡ cons_option o []
option_list None = refl
option_list (Some y) = refl

-- one more element gives something, or nothing
one_chosen : {X Y Z : Type 0} (f : Y → Z) (h : X → Option Y) (before : List X) (x : X)
    → map f (filter_map h before) ++ map f (option_to_list (h x)) ≡ map f (filter_map h (before ++ x ∷ []))
one_chosen {X} {Y} {Z} f h before x =
    let listed : option_to_list (h x) ≡ filter_map h (x ∷ []) = option_list (h x) in
    ap (λ (ys : List Y). map f (filter_map h before) ++ map f ys) listed
    ∙ sym (map-append f (filter_map h before) (filter_map h (x ∷ [])))
    ∙ ap (map f) (sym (filter_map-append h before (x ∷ [])))

-- what one more element of a list gives is added
pub adds_chosen : {X : Type 0} (nodes : List Node) (f : StepKind → Instruction) (h : X → Option StepKind) (xs : List X) (i : ℕ) (d : X) (kind : Option StepKind) (old a b : CodeView) → i < length xs
    → Adds nodes (map f (filter_map h (take i xs))) old a → kind ≡ h (get_or xs i d) → Adds nodes (map f (option_to_list kind)) a b
    → Adds nodes (map f (filter_map h (take (i + 1) xs))) old b
adds_chosen nodes f h xs i d kind old a b lt so_far is one =
    adds_then nodes (map f (filter_map h (take i xs))) (map f (option_to_list kind)) (map f (filter_map h (take (i + 1) xs))) old a b
    (ap (λ (k : Option StepKind). map f (filter_map h (take i xs)) ++ map f (option_to_list k)) is ∙ one_chosen f h (take i xs) (get_or xs i d)
    ∙ ap (λ ys. map f (filter_map h ys)) (sym (take_more xs i d lt)))
    so_far one

-- and what one more element with its number gives
pub adds_numbered : {X : Type 0} (nodes : List Node) (f : StepKind → Instruction) (h : ℕ × X → Option StepKind) (xs : List X) (i : ℕ) (d : X) (kind : Option StepKind) (old a b : CodeView) → i < length xs
    → Adds nodes (map f (filter_map h (enumerate_from 0 (take i xs)))) old a → kind ≡ h (i, get_or xs i d) → Adds nodes (map f (option_to_list kind)) a b
    → Adds nodes (map f (filter_map h (enumerate_from 0 (take (i + 1) xs)))) old b
adds_numbered nodes f h xs i d kind old a b lt so_far is one =
    adds_then nodes (map f (filter_map h (enumerate_from 0 (take i xs)))) (map f (option_to_list kind)) (map f (filter_map h (enumerate_from 0 (take (i + 1) xs)))) old a b
    (ap (λ (k : Option StepKind). map f (filter_map h (enumerate_from 0 (take i xs))) ++ map f (option_to_list k)) is ∙ one_chosen f h (enumerate_from 0 (take i xs)) (i, get_or xs i d)
    ∙ ap (λ ys. map f (filter_map h ys)) (sym (numbered_more xs i d lt)))
    so_far one

-- one more element gives its own
pub adds_each : {X : Type 0} (nodes : List Node) (f : X → Instruction) (xs : List X) (i : ℕ) (d : X) (old a b : CodeView) → i < length xs
    → Adds nodes (map f (take i xs)) old a → Adds nodes (f (get_or xs i d) ∷ []) a b → Adds nodes (map f (take (i + 1) xs)) old b
adds_each nodes f xs i d old a b lt so_far one =
    adds_then nodes (map f (take i xs)) (f (get_or xs i d) ∷ []) (map f (take (i + 1) xs)) old a b (sym (map_more f xs i d lt)) so_far one

-- all elements gave their own
pub all_added : {X : Type 0} (nodes : List Node) (f : X → Instruction) (xs : List X) (i : ℕ) (old a : CodeView) → length xs ≤ i → Adds nodes (map f (take i xs)) old a → Adds nodes (map f xs) old a
all_added {X} nodes f xs i old a le adds = subst (λ (ys : List X). Adds nodes (map f ys) old a) (take_all i xs le) adds
