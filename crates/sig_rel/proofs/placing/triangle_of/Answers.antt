use Rattle.sig_rel.proofs.{◌≡◌, ◌<◌, ℕ, List, Option, None, Some, true, false, length, subst, sym, ap, ◌∙◌, MatchOption, Kernel, is_top_class, no_top}
use Rattle.sig_rel.proofs.placing.triangle_of.Goals as goal

module _ (kernel : Kernel) (least : List ℕ) where
  abbrev NoTop : Type 0
  NoTop = (class : ℕ) → class < length least → is_top_class kernel least class ≡ false

  abbrev Top : ℕ → Type 0
  Top top = (top < length least) × (is_top_class kernel least top ≡ true)

  none_found : (o : Option ℕ) → o ≡ None → MatchOption o NoTop Top → NoTop
  none_found None is found = found
  none_found (Some top) is found = absurd (let e : Some top ≡ None = is in cc)

  some_found : (o : Option ℕ) (top : ℕ) → o ≡ Some top → MatchOption o NoTop Top → Top top
  some_found None top is found = absurd (let e : None ≡ Some top = is in cc)
  some_found (Some other) top is found = let both : Some other ≡ Some top = is in let e : other ≡ top = cc in subst Top e found

pub returns-in-None : goal.returns-in-None
returns-in-None c =
    let rules = c.in_ok-rules.rules in
    let are = c.in_ok-rules.ensures in
    let long = ap length c.as_slice.ensures.value ∙ are.are_least.count in
    let absent = none_found c.args.kernel.now c.as_slice.result.now c.in_ok-top.top c.in-None.is c.in_ok-top.ensures in
    no_top c.args.kernel.now c.requires.valid rules are (λ class lt. subst (λ (xs : List ℕ). is_top_class c.args.kernel.now xs class ≡ false) c.as_slice.ensures.value (absent class (subst (λ n. class < n) (sym long) lt)))

pub top_of-requires-clause-count : goal.top_of-requires-clause-count
top_of-requires-clause-count c = ap length c.as_slice.ensures.value ∙ c.in_ok-rules.ensures.are_least.count

pub placed_from-requires-clause-within : goal.placed_from-requires-clause-within
placed_from-requires-clause-within c =
    let long = ap length c.as_slice.ensures.value ∙ c.in_ok-rules.ensures.are_least.count in
    subst (λ n. c.in-Some.top < n) long (some_found c.args.kernel.now c.as_slice.result.now c.in_ok-top.top c.in-Some.top c.in-Some.is c.in_ok-top.ensures).0

pub placed_from-requires-clause-top : goal.placed_from-requires-clause-top
placed_from-requires-clause-top c =
    subst (λ (xs : List ℕ). is_top_class c.args.kernel.now xs c.in-Some.top ≡ true) c.as_slice.ensures.value (some_found c.args.kernel.now c.as_slice.result.now c.in_ok-top.top c.in-Some.top c.in-Some.is c.in_ok-top.ensures).1
