-- Lists of leaves that begin with nothing of a set.
use Rattle.sig_tree.proofs.Common.{◌≡◌, ◌++◌, List, [], ◌∷◌, sym, ◌∙◌, ap, subst, Some, None, Option, append_cancel_right, Terminal, Leaf, StopsBefore, OneReading}

-- of a smaller set too
pub stops_smaller : (Large Small : Terminal → Type 0) → ((t : Terminal) → Small t → Large t) → (leaves : List Leaf) → StopsBefore Large leaves → StopsBefore Small leaves
stops_smaller Large Small within [] stops = tt
stops_smaller Large Small within (l ∷ leaves) stops = λ continues. stops (within l.terminal continues)

abbrev value_or : {A : Type 0} → A → Option A → A
value_or other None = other
value_or other (Some x) = x

pub pair_same : {A B : Type 0} (x y : A) (a b : B) → Path (Option (A × B)) (Some (x, a)) (Some (y, b)) → (x ≡ y) × (a ≡ b)
pair_same {A = A} {B = B} x y a b e =
    let other : A × B = (x, a) in
    (ap (λ (o : Option (A × B)). (value_or other o).0) e, ap (λ (o : Option (A × B)). (value_or other o).1) e)

-- Languages that one function reads have one reading.
pub one_by_reader : {A : Type 0} (Is : A → List Leaf → Type 0) (Continues : Terminal → Type 0) (Gives : List Leaf → Option (A × List Leaf) → Type 0)
    → ((leaves : List Leaf) (a b : Option (A × List Leaf)) → Gives leaves a → Gives leaves b → a ≡ b)
    → ((x : A) (front back : List Leaf) → Is x front → StopsBefore Continues back → Gives (front ++ back) (Some (x, back)))
    → OneReading Is Continues
one_by_reader {A = A} Is Continues Gives once complete x y front other_front back other_back e is other_is stops other_stops =
    let same = pair_same x y back other_back
    (once (front ++ back) (Some (x, back)) (Some (y, other_back)) (complete x front back is stops)
    (subst (λ (l : List Leaf). Gives l (Some (y, other_back))) (sym e) (complete y other_front other_back other_is other_stops))) in
    (same.0, append_cancel_right front other_front back (e ∙ ap (λ l. other_front ++ l) (sym same.1)))
