-- The order of steps: by place, and at one place those that take last.
use Rattle.sig_settling_laws.proofs.Common.{◌≡◌, ◌≤◌, ◌+◌, ◌*◌, ◌++◌, inl, inr, ℕ, Bool, true, false, List, [], ◌∷◌, refl, ap, subst, arith, None, Option, Some, fold, slice_get, false_from_ne_true, Place, Actor, code_of, next_place, Core, Given, is_before, opening, stepped, Act, CodeView, Step, StepKind, Receive, Collect, NotAfter, after_or_before, AreInOrder, IsNoLater, acts, is_next, is_such, puts_item, takes_item}

-- ---- ranks of next steps

abbrev pub flag : Bool → ℕ
flag false = 0
flag true = 1

pub flag_most : (b : Bool) → flag b ≤ 1
flag_most false = omega arith
flag_most true = omega arith

-- the place, at twice its position, and one more for a step that takes
abbrev pub rank_of : CodeView → Actor → Place
rank_of code actor = record { instant = actor.instant; pos = 2 * (next_place code actor).pos + flag (is_next takes_item code actor) }

pub rank_place : (c : CodeView) (a : Actor) (d : CodeView) (b : Actor) → NotAfter (rank_of c a) (rank_of d b) → NotAfter (next_place c a) (next_place d b)
rank_place c a d b (inl less) = inl less
rank_place c a d b (inr both) = let most = flag_most (is_next takes_item d b) in inr (both.0, omega (arith, both.1, most))

-- at one place the rank of a step that takes is not below that of another one
pub takes_last : (c : CodeView) (a : Actor) (d : CodeView) (b : Actor) → NotAfter (rank_of c a) (rank_of d b) → b.instant ≡ a.instant → (next_place d b).pos ≡ (next_place c a).pos
    → is_next takes_item c a ≡ true → is_next takes_item d b ≡ false → ⊥
takes_last c a d b (inl less) instant position takes not = omega (arith, less, instant)
takes_last c a d b (inr both) instant position takes not =
    let one : flag (is_next takes_item c a) ≡ 1 = ap flag takes in
    let none : flag (is_next takes_item d b) ≡ 0 = ap flag not in
    omega (arith, both.1, position, one, none)

put_takes_not : (kind : StepKind) → puts_item kind ≡ true → takes_item kind ≡ false
put_takes_not (Receive l) is = absurd (let clash : false ≡ true = is in cc)
put_takes_not (Collect l) is = absurd (let clash : false ≡ true = is in cc)
put_takes_not _ is = refl

next_takes_not : (step : Option Step) → is_such puts_item step ≡ true → is_such takes_item step ≡ false
next_takes_not None is = refl
next_takes_not (Some step) is = put_takes_not step.kind is

no_later : (c : CodeView) (a : Actor) (d : CodeView) (b : Actor) → NotAfter (rank_of c a) (rank_of d b) → IsNoLater c a d b
no_later c a d b least = record {
  place = false_from_ne_true (is_before (next_place d b) (next_place c a)) (λ before. after_or_before (next_place c a) (next_place d b) (rank_place c a d b least) before);
  puts_first = λ same takes. false_from_ne_true (is_next puts_item d b) (λ puts.
      takes_last c a d b least (ap (λ (p : Place). p.instant) same) (ap (λ (p : Place). p.pos) same) takes (next_takes_not (slice_get d.steps b.step) puts));
}

-- ---- lists in order

module _ (given : Given) where
  -- no step of a list is of a rank below this one, from a state on
  abbrev pub NoneBelow : Place → Core → List ℕ → Type 0
  NoneBelow low core [] = Unit {0}
  NoneBelow low core (m ∷ rest) = ((actor : Actor) → slice_get core.actors m ≡ Some actor → NotAfter low (rank_of (code_of given.plan m) actor)) × NoneBelow low (stepped given core (Act m)) rest

  -- the ranks of a list rise from a state on
  abbrev pub InOrderFrom : Core → List ℕ → Type 0
  InOrderFrom core [] = Unit {0}
  InOrderFrom core (k ∷ rest) =
      ((actor : Actor) → slice_get core.actors k ≡ Some actor → NoneBelow (rank_of (code_of given.plan k) actor) (stepped given core (Act k)) rest) × InOrderFrom (stepped given core (Act k)) rest

  below_at : (low : Place) (core : Core) (between : List ℕ) (m : ℕ) (later : List ℕ) → NoneBelow low core (between ++ m ∷ later)
      → (other : Actor) → slice_get (fold (stepped given) core (acts between)).actors m ≡ Some other → NotAfter low (rank_of (code_of given.plan m) other)
  below_at low core [] m later below other at = below.0 other at
  below_at low core (b ∷ between) m later below other at = below_at low (stepped given core (Act b)) between m later below.1 other at

  order_at : (core : Core) (before : List ℕ) (k : ℕ) (between : List ℕ) (m : ℕ) (later : List ℕ) → InOrderFrom core (before ++ k ∷ between ++ m ∷ later)
      → (actor other : Actor) → slice_get (fold (stepped given) core (acts before)).actors k ≡ Some actor → slice_get (fold (stepped given) core (acts (before ++ k ∷ between))).actors m ≡ Some other
      → NotAfter (rank_of (code_of given.plan k) actor) (rank_of (code_of given.plan m) other)
  order_at core [] k between m later ordered actor other at_k at_m = below_at (rank_of (code_of given.plan k) actor) (stepped given core (Act k)) between m later (ordered.0 actor at_k) other at_m
  order_at core (b ∷ before) k between m later ordered actor other at_k at_m = order_at (stepped given core (Act b)) before k between m later ordered.1 actor other at_k at_m

  pub in_order : (numbers : List ℕ) → InOrderFrom (opening given.plan) numbers → AreInOrder given numbers
  in_order numbers ordered = λ before k between m later is actor other at_k at_m.
      no_later (code_of given.plan k) actor (code_of given.plan m) other
      (order_at (opening given.plan) before k between m later (subst (InOrderFrom (opening given.plan)) is ordered) actor other at_k at_m)
