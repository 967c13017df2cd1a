-- What is refused where one token is read.
use Rattle.sig_parse.proofs.Common.{◌≡◌, ℕ, List, [], ◌∷◌, refl, sym, subst, Terminal, Leaf, leaf, label, Limits, no_limits, StopsBefore, StartsWith, BeginsName, ContinuesNothing, no_place, Syntax, State, InLeaf, InLabel, InName, Wrong, Refuses, RefusedBy}
use Rattle.sig_parse.proofs.PartRefusals.{refuses_at_once}
use Rattle.sig_parse.proofs.RefusedConstants.{some_name, some_leaf, leaf_refused}

label_starts : (leaves : List Leaf) → InLabel no_limits leaves → StartsWith (λ t. (text : List ℕ) × (t ≡ label text)) leaves
label_starts leaves (text, (at, e)) = subst (λ (l : List Leaf). StartsWith (λ t. (text : List ℕ) × (t ≡ label text)) l) (sym e) (text, refl)

pub label_refused : (here : List Leaf) → StopsBefore (λ t. (text : List ℕ) × (t ≡ label text)) here → Refuses InLabel ContinuesNothing Wrong here here
label_refused here stops = refuses_at_once InLabel ContinuesNothing (λ t. (text : List ℕ) × (t ≡ label text)) (leaf (label []) no_place ∷ []) ([], (no_place, refl)) label_starts here stops

name_starts : (leaves : List Leaf) → InName no_limits leaves → StartsWith BeginsName leaves
name_starts leaves (n, e) = subst (λ (l : List Leaf). StartsWith BeginsName l) (sym e) (n.text, refl)

pub name_refused : (here : List Leaf) → StopsBefore BeginsName here → Refuses InName ContinuesNothing Wrong here here
name_refused here stops = refuses_at_once InName ContinuesNothing BeginsName (some_leaf ∷ []) (some_name, refl) name_starts here stops

-- the parser stays before the token that it refuses
pub refused_here : (Is : Limits → List Leaf → Type 0) (Continues : Terminal → Type 0) {s t : State} → t ≡ s → Refuses Is Continues Wrong s.leaves s.leaves → RefusedBy Is Continues s t Syntax
refused_here Is Continues {s} {t} same r = λ text. subst (λ (x : State). Refuses Is Continues Wrong s.leaves x.leaves) (sym same) r

pub leaf_missing : (terminal : Terminal) {s t : State} → (t ≡ s) × StopsBefore (λ u. u ≡ terminal) s.leaves → RefusedBy (InLeaf terminal) ContinuesNothing s t Syntax
leaf_missing terminal {s} h = refused_here (InLeaf terminal) ContinuesNothing h.0 (leaf_refused terminal s.leaves h.1)

pub label_missing : {s t : State} → (t ≡ s) × StopsBefore (λ u. (text : List ℕ) × (u ≡ label text)) s.leaves → RefusedBy InLabel ContinuesNothing s t Syntax
label_missing {s} h = refused_here InLabel ContinuesNothing h.0 (label_refused s.leaves h.1)

pub name_missing : {s t : State} → (t ≡ s) × StopsBefore BeginsName s.leaves → RefusedBy InName ContinuesNothing s t Syntax
name_missing {s} h = refused_here InName ContinuesNothing h.0 (name_refused s.leaves h.1)
