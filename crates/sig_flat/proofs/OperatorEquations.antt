-- The equations of an operator say what the operator says.
use Rattle.sig_flat.proofs.Common.{◌≡◌, ℤ, pos, Bool, true, false, None, Some, is_some, if◌then◌else◌, refl, int_eq, Seen, where_present, where_true, or_else, sampled, clock_of, either_of, both_of, without, delayed, held}
use Rattle.sig_tree.specs.Operators.{merged}

pub when_is : (b x : Seen) → where_true b x ≡ sampled x b
when_is None x = refl
when_is (Some b) x = refl

pub clock_is : (x : Seen) → where_present x (pos 1) ≡ clock_of x
clock_is None = refl
clock_is (Some x) = refl

pub merge_is : (u v : Seen) → or_else u v ≡ merged u v
merge_is None v = refl
merge_is (Some u) v = refl

pub delay_is : (previous : ℤ) (x : Seen) → where_present x previous ≡ delayed previous x
delay_is previous None = refl
delay_is previous (Some x) = refl

pub plus_is : (u v : Seen) → or_else (clock_of u) (clock_of v) ≡ either_of u v
plus_is None v = refl
plus_is (Some u) v = refl

pub meet_is : (u v : Seen) → where_true (clock_of v) (clock_of u) ≡ both_of u v
meet_is None None = refl
meet_is None (Some v) = refl
meet_is (Some u) None = refl
meet_is (Some u) (Some v) = refl

pub less_is : (u v : Seen) → where_true (or_else (where_present v (pos 0)) (clock_of u)) (Some (pos 1)) ≡ without u v
less_is None None = refl
less_is None (Some v) = refl
less_is (Some u) None = refl
less_is (Some u) (Some v) = refl

-- `cell`: what it is, where it is present as it has to be
cell_step : (c : Bool) (previous : ℤ) (y : Seen) → is_some y ≡ is_some (if c then Some (pos 1) else None) → y ≡ where_present y previous → y ≡ (if c then Some previous else None)
cell_step true previous (Some v) present is = is
cell_step false previous None present is = refl
cell_step _ previous _ present is = absurd cc

pub cell_to : (previous : ℤ) (x b y : Seen) → y ≡ or_else x (where_present y previous) → is_some y ≡ is_some (or_else (clock_of x) (sampled (Some (pos 1)) b)) → y ≡ held previous x b
cell_to previous (Some x) b y is present = is
cell_to previous None None None is present = refl
cell_to previous None None (Some v) is present = absurd cc
cell_to previous None (Some b) y is present = cell_step (int_eq b (pos 1)) previous y present is

value_step : (c : Bool) (previous : ℤ) → (if c then Some previous else None) ≡ where_present (if c then Some previous else None) previous
value_step true previous = refl
value_step false previous = refl

pub cell_value : (previous : ℤ) (x b : Seen) → held previous x b ≡ or_else x (where_present (held previous x b) previous)
cell_value previous None (Some b) = value_step (int_eq b (pos 1)) previous
cell_value previous _ _ = refl

present_step : (c : Bool) (previous : ℤ) → is_some (if c then Some previous else None) ≡ is_some (if c then Some (pos 1) else None)
present_step true previous = refl
present_step false previous = refl

pub cell_present : (previous : ℤ) (x b : Seen) → is_some (held previous x b) ≡ is_some (or_else (clock_of x) (sampled (Some (pos 1)) b))
cell_present previous None (Some b) = present_step (int_eq b (pos 1)) previous
cell_present previous _ _ = refl
