-- Functions of truths, and what stays of them as a store grows.
use Rattle.sig_rel.proofs.Common.{◌≡◌, Bool, true, false, not, ◌&&◌, ◌||◌, List, [], ◌∷◌, None, Some, refl, if◌then◌else◌, Status, has_truth, or_else, same_status, same_truth, where_present, where_true, StoreView, Holds, Keeps, test, HoldAll, Ref, Agree-kept, Holds-kept}

module _ (s t : StoreView) (kept : Keeps s t) where
  -- references that are held still are
  pub HoldAll-kept : (fs : List Ref) → HoldAll s.nodes fs → HoldAll t.nodes fs
  HoldAll-kept [] h = tt
  HoldAll-kept (f ∷ fs) h = (Holds-kept s t kept f h.0, HoldAll-kept fs h.1)

  pub test_kept : (f : Ref) → Holds s.nodes f → (truths : List Bool) → test t.nodes f truths ≡ test s.nodes f truths
  test_kept f held truths = Agree-kept s t kept f held truths

abbrev pub status : Bool → Bool → Status
status present truth = if present then Some truth else None

pub choice_is_same : (a b : Bool) → (if a then b else not b) ≡ same_truth a b
choice_is_same true b = refl
choice_is_same false b = refl

pub conj_is_choice : (a b : Bool) → (a && b) ≡ (if a then b else false)
conj_is_choice true b = refl
conj_is_choice false b = refl

-- a status where another one is present and true
pub where_true_is : (bp bt xp xt : Bool) → status ((bp && bt) && xp) xt ≡ where_true (status bp bt) (status xp xt)
where_true_is true true xp xt = refl
where_true_is _ _ xp xt = refl

pub or_else_is : (up ut vp vt : Bool) → status (up || vp) (if up then ut else vt) ≡ or_else (status up ut) (status vp vt)
or_else_is true ut vp vt = refl
or_else_is false ut vp vt = refl

pub where_present_is : (p t b : Bool) → status p b ≡ where_present (status p t) b
where_present_is true t b = refl
where_present_is false t b = refl

truths_turned : (a b : Bool) → same_truth b a ≡ same_truth a b
truths_turned true true = refl
truths_turned true false = refl
truths_turned false true = refl
truths_turned false false = refl

pub same_is : (ap at bp bt : Bool) → (if ap then (if bp then same_truth bt at else false) else not bp) ≡ same_status (status ap at) (status bp bt)
same_is true at true bt = truths_turned at bt
same_is true at false bt = refl
same_is false at true bt = refl
same_is false at false bt = refl

pub has_truth_is : (p t b : Bool) → (if p then same_truth t b else true) ≡ has_truth (status p t) (Some b)
has_truth_is true t b = refl
has_truth_is false t b = refl
