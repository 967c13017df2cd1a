-- Statuses that two truths give, against those that an equation asks for.
use Rattle.sig_rel.proofs.Common.{◌≡◌, Bool, true, false, Option, None, Some, refl, sym, ap, if◌then◌else◌, ◌&&◌, ◌||◌, is_some, false≢true, Status, has_truth, or_else, same_status, same_truth, where_present, where_true, truth_of_status, truths_are_same}

abbrev pub status : Bool → Bool → Status
status present truth = if present then Some truth else None

pub same_as_itself : (b : Bool) → same_truth b b ≡ true
same_as_itself true = refl
same_as_itself false = refl

pub when_fits : (py ty px tx pb tb : Bool) → py ≡ ((pb && tb) && px) → (py ≡ true → ty ≡ tx) → same_status (status py ty) (where_true (status pb tb) (status px tx)) ≡ true
when_fits py ty true tx true true is same = rw (is, same is) (same_as_itself tx)
when_fits py ty false tx true true is same = rw is refl
when_fits py ty px tx true false is same = rw is refl
when_fits py ty px tx false tb is same = rw is refl

pub constant_fits : (py ty pb tb c : Bool) → py ≡ (pb && tb) → (py ≡ true → ty ≡ c) → same_status (status py ty) (where_true (status pb tb) (Some c)) ≡ true
constant_fits py ty true true c is same = rw (is, same is) (same_as_itself c)
constant_fits py ty _ _ c is same = rw is refl

pub default_fits : (py ty pu tu pv tv : Bool) → py ≡ (pu || pv) → (py ≡ true → ty ≡ (if pu then tu else tv)) → same_status (status py ty) (or_else (status pu tu) (status pv tv)) ≡ true
default_fits py ty true tu pv tv is same = rw (is, same is) (same_as_itself tu)
default_fits py ty false tu true tv is same = rw (is, same is) (same_as_itself tv)
default_fits py ty false tu false tv is same = rw is refl

pub event_fits : (py ty px tx : Bool) → py ≡ px → ty ≡ true → same_status (status py ty) (where_present (status px tx) true) ≡ true
event_fits py ty true tx is same = rw (is, same) refl
event_fits py ty false tx is same = rw is refl

pub truth_fits : (py ty : Bool) (given : Option Bool) → ((b : Bool) → py ≡ true → given ≡ Some b → ty ≡ b) → has_truth (status py ty) given ≡ true
truth_fits true ty (Some b) same = rw (same b refl refl) (same_as_itself b)
truth_fits _ ty _ same = refl

-- ---- and back: what an equation that is met says

pub present_of : (p t : Bool) → is_some (status p t) ≡ p
present_of true t = refl
present_of false t = refl

pub where_true_present : (pb tb : Bool) (s : Status) → is_some (where_true (status pb tb) s) ≡ ((pb && tb) && is_some s)
where_true_present true true s = refl
where_true_present _ _ s = refl

pub or_else_present : (u v : Status) → is_some (or_else u v) ≡ (is_some u || is_some v)
or_else_present None v = refl
or_else_present (Some u) v = refl

pub truth_where_true : (a pb tb px tx : Bool) → same_status (Some a) (where_true (status pb tb) (status px tx)) ≡ true → a ≡ tx
truth_where_true a true true true tx met = truths_are_same a tx met
truth_where_true a _ _ _ tx met = absurd (false≢true met)

pub truth_constant : (a c : Bool) (b : Status) → same_status (Some a) (where_true b (Some c)) ≡ true → a ≡ c
truth_constant a c (Some true) met = truths_are_same a c met
truth_constant a c _ met = absurd (false≢true met)

pub truth_or_else : (a pu tu pv tv : Bool) → same_status (Some a) (or_else (status pu tu) (status pv tv)) ≡ true → a ≡ (if pu then tu else tv)
truth_or_else a true tu pv tv met = truths_are_same a tu met
truth_or_else a false tu true tv met = truths_are_same a tv met
truth_or_else a false tu false tv met = absurd (false≢true met)

pub truth_present : (a : Bool) (x : Status) → same_status (Some a) (where_present x true) ≡ true → a ≡ true
truth_present a None met = absurd (false≢true met)
truth_present a (Some b) met = truths_are_same a true met

-- a status is what its presence and its truth say
pub status_from : (s : Status) (p t : Bool) → is_some s ≡ p → (p ≡ true → truth_of_status s ≡ t) → s ≡ status p t
status_from None p t present truth = rw (sym present) refl
status_from (Some b) p t present truth = rw (sym present) (ap Some (truth (sym present)))
