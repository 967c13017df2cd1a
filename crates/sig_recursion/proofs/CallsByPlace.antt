-- Calls by names and by places.
use Rattle.sig_recursion.proofs.Common.{◌≡◌, ◌⊎◌, ◌↔◌, ℕ, List, [], ◌∷◌, refl, ap, sym, ◌∙◌, subst, inl, inr, Bool, true, false, cond, IsTrue, Option, None, Some, map, length, get_or, ◌<◌, arith, Contains, find, zero, suc, Vec, bytes_eq, bytes_eq-Decides, get_or-map, get_or_default, length-map, map-id, Contains-append_left, Contains-append_right, Contains-append_cases, Contains-push_cases, Name, ProcessModel, name_of, process_of, called_by, texts, Reaches, Itself, ByCall, place_of, process_texts, list_of, places_called, graph_of, graph_in, callees_at, IsGraph, Path, Here, There, find_some, find_none, within, contains_head, contains_later, contains_none}

in_cons : {A : Type 0} (x : A) (xs : List A) (t : A) → Contains (x ∷ xs) t → (x ≡ t) ⊎ Contains xs t
in_cons x xs t c = elim (Contains-append_cases (x ∷ []) xs t c) [ inl o ↦ inl (elim (Contains-push_cases [] x t o) [ inl n ↦ absurd (contains_none t n) | inr s ↦ s ]) | inr r ↦ inr r ]

-- a name's place is one place more
placed : (o : Option ℕ) (j : ℕ) → Contains (list_of o) j → o ≡ Some j
placed None j c = absurd (contains_none j c)
placed (Some i) j c = elim (in_cons i [] j c) [ inl s ↦ ap Some s | inr n ↦ absurd (contains_none j n) ]

listed : (o : Option ℕ) (j : ℕ) → o ≡ Some j → Contains (list_of o) j
listed None j e = absurd cc
listed (Some i) j e = let s : i ≡ j = cc in let P : ℕ → Type 0 = λ k. Contains (i ∷ []) k in subst P s (contains_head i [])

-- what is called at a place comes from a name that is called
called_from : (ts : List (List ℕ)) (names : List Name) (j : ℕ) → Contains (places_called ts names) j → (u : List ℕ) × Contains (texts names) u × (place_of ts u ≡ Some j)
called_from ts [] j c = absurd (contains_none j c)
called_from ts (n ∷ names) j c = elim (Contains-append_cases (list_of (place_of ts n.text)) (places_called ts names) j c) [
  | inl h ↦ (n.text, contains_head n.text (texts names), placed (place_of ts n.text) j h)
  | inr r ↦ (let rest : (u : List ℕ) × Contains (texts names) u × (place_of ts u ≡ Some j) = called_from ts names j r in
      (rest.0, contains_later n.text rest.0 (texts names) rest.1, rest.2))
]

called_to : (ts : List (List ℕ)) (names : List Name) (u : List ℕ) (j : ℕ) → Contains (texts names) u → place_of ts u ≡ Some j → Contains (places_called ts names) j
called_to ts [] u j c e = absurd (contains_none u c)
called_to ts (n ∷ names) u j c e = elim (in_cons n.text (texts names) u c) [
  | inl s ↦ Contains-append_left (list_of (place_of ts n.text)) (places_called ts names) j (listed (place_of ts n.text) j (ap (place_of ts) s ∙ e))
  | inr r ↦ Contains-append_right (list_of (place_of ts n.text)) (places_called ts names) j (called_to ts names u j r e)
]

-- what stands at the first place of a name
abbrev StandsAt : {B : Type 0} (f : ProcessModel → List ℕ) (g : ProcessModel → B) (d : B) (xs : List ProcessModel) (t : List ℕ) (i : ℕ) → Type 0
StandsAt f g d xs t i = (p : ProcessModel) × (find (λ x. bytes_eq (f x) t) xs ≡ Some p) × (get_or (map g xs) i d ≡ g p)

stands_at : {B : Type 0} (f : ProcessModel → List ℕ) (g : ProcessModel → B) (d : B) (xs : List ProcessModel) (t : List ℕ) (i : ℕ) → place_of (map f xs) t ≡ Some i → StandsAt f g d xs t i
stands_at f g d [] t i e = absurd cc
stands_at f g d (x ∷ xs) t i e = let found = find_some f (x ∷ xs) t i x e in (get_or (x ∷ xs) i x, found.1, get_or-map g (x ∷ xs) i x d found.0)

-- a process, and what it calls, at the place of its name
process_at : (all : List ProcessModel) (t : List ℕ) (i : ℕ) → place_of (process_texts all) t ≡ Some i → (p : ProcessModel) × (process_of all t ≡ Some p) × (callees_at (graph_of all) i ≡ places_called (process_texts all) (called_by p))
process_at all t i e = stands_at (λ p. (name_of p).text) (λ p. places_called (process_texts all) (called_by p)) [] all t i e

-- what is found by its text is the text
itself_step : (t x y : List ℕ) (b : Bool) (rest : Option (List ℕ)) → bytes_eq x t ≡ b → (rest ≡ Some y → y ≡ t) → cond b (Some x) rest ≡ Some y → y ≡ t
itself_step t x y true rest s rec e = let same : x ≡ y = (let h : Some x ≡ Some y = e in cc) in sym same ∙ (bytes_eq-Decides x t).0 s
itself_step t x y false rest s rec e = rec e

found_itself : (xs : List (List ℕ)) (t y : List ℕ) → find (λ x. bytes_eq x t) xs ≡ Some y → y ≡ t
found_itself [] t y e = absurd cc
found_itself (x ∷ xs) t y e = itself_step t x y (bytes_eq x t) (find (λ z. bytes_eq z t) xs) refl (λ h. found_itself xs t y h) e

-- two names of one place are the same
here_is : (xs : List (List ℕ)) (t : List ℕ) (i : ℕ) → place_of xs t ≡ Some i → (i < length xs) × (get_or xs i t ≡ t)
here_is xs t i e = let found = find_some (λ (x : List ℕ). x) xs t i t (ap (λ l. place_of l t) (map-id xs) ∙ e) in (found.0, found_itself xs t (get_or xs i t) found.1)

pub path_reaches : (all : List ProcessModel) (a b : ℕ) → Path (graph_of all) a b → (t u : List ℕ) → place_of (process_texts all) t ≡ Some a → place_of (process_texts all) u ≡ Some b → Reaches all t u
path_reaches all a b Here t u e f =
    let one = here_is (process_texts all) t a e in
    let other = here_is (process_texts all) u a f in
    let same : t ≡ u = sym one.1 ∙ get_or_default (process_texts all) a t u one.0 ∙ other.1 in
    let P : List ℕ → Type 0 = λ v. Reaches all t v in subst P same Itself
path_reaches all a b (There {from} {next} call rest) t u e f =
    let p = process_at all t a e in
    let c : (v : List ℕ) × Contains (texts (called_by p.0)) v × (place_of (process_texts all) v ≡ Some next) =
    called_from (process_texts all) (called_by p.0) next (let P : List ℕ → Type 0 = λ l. Contains l next in subst P p.2 call) in
    ByCall (p.0, p.1, c.1) (path_reaches all next b rest c.0 u c.2 f)

-- a name that a process has, has a place
has_place : (all : List ProcessModel) (t : List ℕ) (p : ProcessModel) (o : Option ℕ) → place_of (process_texts all) t ≡ o → process_of all t ≡ Some p → (i : ℕ) × (place_of (process_texts all) t ≡ Some i)
has_place all t p None e h = let n : process_of all t ≡ None = find_none (λ (q : ProcessModel). (name_of q).text) all t e in absurd cc
has_place all t p (Some i) e h = (i, e)

-- where names reach, places do
pub reaches_path : (all : List ProcessModel) (t u : List ℕ) → Reaches all t u → (b : ℕ) → place_of (process_texts all) u ≡ Some b → (a : ℕ) × (place_of (process_texts all) t ≡ Some a) × Path (graph_of all) a b
reaches_path all t u Itself b e = (b, e, Here)
reaches_path all t u (ByCall {from} {next} call rest) b e =
    let after : (c : ℕ) × (place_of (process_texts all) next ≡ Some c) × Path (graph_of all) c b = reaches_path all next u rest b e in
    let i = has_place all t call.0 (place_of (process_texts all) t) refl call.1 in
    let p = process_at all t i.0 i.1 in
    let same : p.0 ≡ call.0 = (let s : Some p.0 ≡ Some call.0 = sym p.1 ∙ call.1 in cc) in
    let called : Contains (texts (called_by p.0)) next = (let P : ProcessModel → Type 0 = λ q. Contains (texts (called_by q)) next in subst P (sym same) call.2) in
    (i.0, i.1, There (let P : List ℕ → Type 0 = λ l. Contains l after.0 in subst P (sym p.2) (called_to (process_texts all) (called_by p.0) next after.0 called after.1)) after.2)

-- a name reaches another where its place leads to the other's
pub reaches_same : (all : List ProcessModel) (t u : List ℕ) (a b : ℕ) → Some a ≡ place_of (process_texts all) t → Some b ≡ place_of (process_texts all) u → Path (graph_of all) a b ↔ Reaches all t u
reaches_same all t u a b e f = (
  λ p. path_reaches all a b p t u (sym e) (sym f),
  λ r. (let found = reaches_path all t u r b (sym f) in
      let same : found.0 ≡ a = (let s : Some found.0 ≡ Some a = sym found.1 ∙ sym e in cc) in
      let P : ℕ → Type 0 = λ k. Path (graph_of all) k b in subst P same found.2),
)

-- a name that no process has reaches none
pub reaches_none : (all : List ProcessModel) (t u : List ℕ) (b : ℕ) → None ≡ place_of (process_texts all) t → Some b ≡ place_of (process_texts all) u → Reaches all t u → ⊥
reaches_none all t u b e f r = let found = reaches_path all t u r b (sym f) in let s : None ≡ Some found.0 = e ∙ found.1 in absurd cc

graph_within : (ts : List (List ℕ)) (ps : List ProcessModel) (place next : ℕ) → Contains (get_or (map (λ p. places_called ts (called_by p)) ps) place []) next → (u : List ℕ) × (place_of ts u ≡ Some next)
graph_within ts [] place next c = absurd (contains_none next c)
graph_within ts (p ∷ ps) zero next c = let from = called_from ts (called_by p) next c in (from.0, from.2)
graph_within ts (p ∷ ps) (suc place) next c = graph_within ts ps place next c

-- the calls of processes are a graph
pub graph_is : (all : List ProcessModel) → IsGraph (graph_of all)
graph_is all = record {
  within = λ place next c. (let u = graph_within (process_texts all) all place next c in
      let inside : next < length all = within (λ (p : ProcessModel). (name_of p).text) (process_texts all) all u.0 next refl (sym u.1) in
      let same : length (graph_of all) ≡ length all = length-map all _ in omega arith);
}

-- what leads to the target, by names
pub found_same : (all : List ProcessModel) (graph : List (List ℕ)) (t u : List ℕ) (a b : ℕ) (found : Bool) → graph ≡ graph_of all → Some a ≡ place_of (process_texts all) t → Some b ≡ place_of (process_texts all) u
    → (IsTrue found ↔ Path graph a b) → (IsTrue found ↔ Reaches all t u)
found_same all graph t u a b found g e f h =
    let P : List (List ℕ) → Type 0 = λ k. IsTrue found ↔ Path k a b in
    let now : IsTrue found ↔ Path (graph_of all) a b = subst P g h in
    let same : Path (graph_of all) a b ↔ Reaches all t u = reaches_same all t u a b e f in
    (λ x. same.0 (now.0 x), λ x. now.1 (same.1 x))

-- there are as many places as processes
pub calls_size : (callees : List (Vec ℕ)) (all : List ProcessModel) → graph_in callees ≡ graph_of all → length callees ≡ length all
calls_size callees all e = sym (length-map callees (λ (c : Vec ℕ). c.items)) ∙ ap length e ∙ length-map all _
