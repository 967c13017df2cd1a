-- What stands at the places of a plan's image.
use Rattle.sig_shipped_laws.proofs.Common.{◌≡◌, ◌<◌, ◌≤◌, ℕ, zero, suc, List, [], ◌∷◌, length, map, Option, None, Some, refl, sym, ap, subst, ◌∙◌, arith, slice_get, option_map, AllByRecursion, same_Some, slice_get-map, OpId, diagram, operation_in, IsAccepted, PlanView, numbers_of, Op, order_names, Guarded, guarded_in, guards_of, image_of, made_of, ordered, ImageNode, ImageOp, nodes_right, StandsAt, some_at, slice_get_within}
use Rattle.sig_shipped_laws.proofs.Cases.{Case, IsCase, does_in, place_in}
use Rattle.sig_shipped_laws.proofs.Pairs.{IsGood, IsPair, Named, Pairs, all_taken, op_good, pair_at, pair_for, pairs_by, pairs_long, shown_is, taken_at, taken_long}

number_at : (ids : List OpId) (k : ℕ) (id : OpId) → slice_get ids k ≡ Some id → slice_get (numbers_of ids) k ≡ Some id.0
number_at [] k id is = absurd cc
number_at (i ∷ ids) zero id is = let one : i ≡ id = cc in ap (λ (z : OpId). Some z.0) one
number_at (i ∷ ids) (suc k) id is = number_at ids k id is

-- an item of a list that a function makes of another one
mapped : {A B : Type 0} (f : A → B) (xs : List A) (n : ℕ) (o : Option A) (y : B) → slice_get xs n ≡ o → slice_get (map f xs) n ≡ Some y → (x : A) × (o ≡ Some x) × (y ≡ f x)
mapped f xs n None y here e = absurd (let f : None ≡ Some y = sym (slice_get-map f xs n ∙ ap (option_map f) here) ∙ e in cc)
mapped f xs n (Some x) y here e = (x, refl, same_Some y (f x) (sym e ∙ slice_get-map f xs n ∙ ap (option_map f) here))

-- a guarded operation of a plan's image is made for this operation
pub record IsMadeFor (plan : PlanView) (op : Op) (g : Guarded) : Type 0 where
  pub case : Case
  pub is : IsCase plan.kernel (operation_in plan.store.nodes op) case
  pub kind : g.kind ≡ does_in plan.kernel case
  pub at : g.at ≡ place_in plan.kernel case
  pub guard : g.guard ≡ diagram plan.store.nodes op.guard

module _ (plan : PlanView) (accepted : IsAccepted plan) where
  abbrev nodes : List ImageNode
  nodes = (made_of plan (ordered plan) []).0

  abbrev many : List ImageOp
  many = (made_of plan (ordered plan) []).1

  named : Named plan.ops plan.order
  named k number is = some_at plan.ops number.0 (order_names plan accepted k number.0 (number_at plan.order k number is))

  few : plan.kernel.inputs ≤ length plan.kernel.signals
  few = let a = accepted.valid.parts.interface in let b = accepted.valid.parts.declared in omega (arith, a, b)

  all_good : AllByRecursion (IsGood plan) (ordered plan)
  all_good = all_taken plan.ops (IsGood plan) (op_good plan accepted) plan.order named

  pairs : Pairs plan nodes (ordered plan) many
  pairs = pairs_by plan few (ordered plan) all_good [] tt

  -- as many as there are operations in the order
  pub image_long : length (guards_of (image_of plan)).ops ≡ length plan.order
  image_long = length-mapped (guarded_in nodes) many ∙ pairs_long plan nodes (ordered plan) many pairs ∙ taken_long plan.ops plan.order named where
    length-mapped : {A B : Type 0} (f : A → B) (xs : List A) → length (map f xs) ≡ length xs
    length-mapped f [] = refl
    length-mapped f (x ∷ xs) = ap suc (length-mapped f xs)

  stands_ordered : (n : ℕ) (op : Op) → StandsAt plan n op → slice_get (ordered plan) n ≡ Some op
  stands_ordered n op stands = taken_at plan.ops plan.order named n stands.number op stands.ordered stands.is

  ordered_stands : (n : ℕ) (op : Op) → slice_get (ordered plan) n ≡ Some op → StandsAt plan n op
  ordered_stands n op e =
      let lt = slice_get_within (ordered plan) n op e in
      let (number, at) = some_at plan.order n (let long = taken_long plan.ops plan.order named in omega (arith, lt, long)) in
      let (other, is) = named n number at in
      let same : Some other ≡ Some op = sym (taken_at plan.ops plan.order named n number other at is) ∙ e in
      record { number = number; ordered = at; is = is ∙ same }

  for_pair : (op : Op) (one : ImageOp) → IsPair plan nodes op one → IsMadeFor plan op (guarded_in nodes one)
  for_pair op one pair = record {
    case = pair.case;
    is = pair.is;
    kind = ap (λ (o : ImageOp). o.kind) pair.same;
    at = ap (λ (o : ImageOp). o.at) pair.same;
    guard = ap (λ (o : ImageOp). (guarded_in nodes o).guard) pair.same ∙ shown_is (length plan.clocks.conditions) nodes (nodes_right plan accepted) (diagram plan.store.nodes op.guard) pair.guard pair.shown;
  }

  -- what stands in the image is made for what stands in the order
  pub guarded_at : (n : ℕ) (g : Guarded) → slice_get (guards_of (image_of plan)).ops n ≡ Some g → (op : Op) × StandsAt plan n op × IsMadeFor plan op g
  guarded_at n g e =
      let (one, here, same) = mapped (guarded_in nodes) many n (slice_get many n) g refl e in
      let (op, there, pair) = pair_at plan nodes (ordered plan) many pairs n one here in
      (op, ordered_stands n op there, subst (IsMadeFor plan op) (sym same) (for_pair op one pair))

  pub guarded_for : (n : ℕ) (op : Op) → StandsAt plan n op → (g : Guarded) × (slice_get (guards_of (image_of plan)).ops n ≡ Some g) × IsMadeFor plan op g
  guarded_for n op stands =
      let (one, here, pair) = pair_for plan nodes (ordered plan) many pairs n op (stands_ordered n op stands) in
      (guarded_in nodes one, slice_get-map (guarded_in nodes) many n ∙ ap (option_map (guarded_in nodes)) here, for_pair op one pair)

  pub stands_somewhere : (n : ℕ) → n < length plan.order → (op : Op) × StandsAt plan n op
  stands_somewhere n lt =
      let (number, at) = some_at plan.order n lt in
      let (op, is) = named n number at in
      (op, record { number = number; ordered = at; is = is })
