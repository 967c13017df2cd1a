-- The kernel of a well-made flat body defines no input, and each other signal once.
use Rattle.sig_flat.proofs.Common.{◌≡◌, ◌++◌, ◌+◌, ◌<◌, ◌≤◌, ℕ, Bool, true, false, List, [], ◌∷◌, length, Option, None, Some, refl, sym, ap, ◌∙◌, inl, inr, arith, if◌then◌else◌, nat_eq, count_by, is_count_by, cases_lt, ne_eqb, AllByRecursion, range_with_len, SigId, Signal, Span, IsMadeEquation, defines_flat, IsWellMade, FlatExpression, FlatEquation, Defines, Equal, FlatBody, Equation, Sync, target_of, DefinesEach, defines, is_target, Site, Made, Together, with_equation, cluster_at, translate, operands_from, with_syncs, with_all_syncs, with_flat_equation, with_flat_equations, made_of, kernel_of}
use Rattle.sig_flat.proofs.Counts.{times, times_append, range_append, times_before, times_within}
use Rattle.sig_flat.proofs.NumberedKinds.{kind_below}
use Rattle.sig_flat.proofs.Targets.{target_list, targets, targets_added, Plain, Around, none_made, plain_then, translate_plain, translate_around}

-- equations that define a number are counted by their targets
target_counted : (s : ℕ) (o : Option SigId) (ns : List ℕ) → times s (target_list o ++ ns) ≡ (if is_target s o then 1 + times s ns else times s ns)
target_counted s None ns = refl
target_counted s (Some y) ns = refl

counted : (s : ℕ) (qs : List Equation) → times s (targets qs) ≡ count_by (defines s) qs
counted s qs = is_count_by (λ rs. times s (targets rs)) (defines s) refl (λ q rs. target_counted s (target_of q.form) (targets rs)) qs

-- equations of a flat body that define a number
abbrev hits : ℕ → List FlatEquation → ℕ
hits s [] = 0
hits s (Defines left e prefix ∷ qs) = if nat_eq left s then 1 + hits s qs else hits s qs
hits s (Equal operands prefix ∷ qs) = hits s qs

hits_more : (s : ℕ) (q : FlatEquation) (qs : List FlatEquation) → hits s (q ∷ qs) ≡ (if defines_flat s q then 1 + hits s qs else hits s qs)
hits_more s (Defines left e prefix) qs = refl
hits_more s (Equal operands prefix) qs = refl

added : (b : Bool) (n : ℕ) → (if b then 1 + n else n) ≡ (if b then 1 else 0) + n
added true n = refl
added false n = omega arith

hits_joined : (s : ℕ) (q : FlatEquation) (qs : List FlatEquation) → hits s (q ∷ qs) ≡ hits s (q ∷ []) + hits s qs
hits_joined s (Defines left e prefix) qs = added (nat_eq left s) (hits s qs)
hits_joined s (Equal operands prefix) qs = omega arith

hits_counted : (s : ℕ) (qs : List FlatEquation) → hits s qs ≡ count_by (defines_flat s) qs
hits_counted s qs = is_count_by (hits s) (defines_flat s) refl (hits_more s) qs

-- operands of a clock equation make signals that are defined, and nothing else is defined there
operands_plain : (site : Site) (es : List FlatExpression) (made : Made) → Plain made (operands_from site es made).made
operands_plain site [] made = none_made made
operands_plain site (e ∷ es) made = plain_then (translate_plain site e made) (operands_plain site es (translate None site e made).made)

sync_plain : (made : Made) (at : Span) (x y : SigId) → Plain made (with_equation made at (Sync x y))
sync_plain made at x y = record { count = 0; signals = omega arith; defined = targets_added made.equations (record { form = Sync x y; at = at }) }

syncs_plain : (first : SigId) (others : List (SigId × Span)) (made : Made) → Plain made (with_syncs first others made)
syncs_plain first [] made = none_made made
syncs_plain first (second ∷ others) made = plain_then (sync_plain made second.1 first second.0) (syncs_plain second.0 others (with_equation made second.1 (Sync first second.0)))

all_syncs_plain : (signals : List (SigId × Span)) (made : Made) → Plain made (with_all_syncs signals made)
all_syncs_plain [] made = none_made made
all_syncs_plain (first ∷ others) made = syncs_plain first.0 others made

-- how often a number is defined in what equations of a flat body made
record Counts (s : ℕ) (defined : ℕ) (a b : Made) : Type 0 where
  count : ℕ
  signals : length b.signals ≡ length a.signals + count
  number : times s (targets b.equations) ≡ times s (targets a.equations) + (defined + times s (range_with_len (length a.signals) count))

plain_counts : (s : ℕ) (a b : Made) → Plain a b → Counts s 0 a b
plain_counts s a b plain = record {
  count = plain.count;
  signals = plain.signals;
  number = let e = ap (times s) plain.defined ∙ times_append s (targets a.equations) (range_with_len (length a.signals) plain.count) in omega (arith, e);
}

first_hit : (b : Bool) (m n : ℕ) → m + (if b then 1 + n else n) ≡ (if b then 1 else 0) + (m + n)
first_hit true m n = omega arith
first_hit false m n = omega arith

-- a number between
between : (s left : ℕ) (xs ys : List ℕ) → times s (xs ++ left ∷ ys) ≡ (if nat_eq left s then 1 else 0) + times s (xs ++ ys)
between s left xs ys =
    let whole = times_append s xs (left ∷ ys) in
    let rest = times_append s xs ys in
    whole ∙ (first_hit (nat_eq left s) (times s xs) (times s ys) ∙ ap (λ n. (if nat_eq left s then 1 else 0) + n) (sym rest))

around_counts : (s left : ℕ) (a b : Made) → Around left a b → Counts s (if nat_eq left s then 1 else 0) a b
around_counts s left a b around =
    let n : ℕ = length a.signals in
    let before : List ℕ = range_with_len n around.first in
    let after : List ℕ = range_with_len (n + around.first) around.second in
    let whole = ap (times s) around.defined ∙ times_append s (targets a.equations) (before ++ left ∷ after) in
    let middle = between s left before after ∙ ap (λ l. (if nat_eq left s then 1 else 0) + times s l) (sym (range_append n around.first around.second)) in
    record {
      count = around.first + around.second;
      signals = around.signals;
      number = whole ∙ ap (λ m. times s (targets a.equations) + m) middle;
    }

equation_counts : (s : ℕ) (signals : List Signal) (q : FlatEquation) (made : Made) → IsMadeEquation signals q → Counts s (hits s (q ∷ [])) made (with_flat_equation q made)
equation_counts s signals (Defines left e prefix) made is =
    around_counts s left made (with_flat_equation (Defines left e prefix) made)
    (translate_around left (record { cluster = cluster_at made.signals left; prefix = prefix }) e made is.3.signal)
equation_counts s signals (Equal operands prefix) made is =
    let site : Site = record { cluster = 0; prefix = prefix } in
    let together : Together = operands_from site operands made in
    plain_counts s made (with_flat_equation (Equal operands prefix) made) (plain_then (operands_plain site operands made) (all_syncs_plain together.signals together.made))

equations_count : (s : ℕ) (signals : List Signal) (qs : List FlatEquation) (made : Made) → AllByRecursion (IsMadeEquation signals) qs
    → Counts s (hits s qs) made (with_flat_equations qs made)
equations_count s signals [] made are = plain_counts s made made (none_made made)
equations_count s signals (q ∷ qs) made are =
    let first = equation_counts s signals q made are.0 in
    let rest = equations_count s signals qs (with_flat_equation q made) are.1 in
    let n : ℕ = length made.signals in
    let at_first = first.signals in
    let at_rest = rest.signals in
    let numbers = first.number in
    let more = rest.number in
    let joined = hits_joined s q qs in
    let ranges : times s (range_with_len n (first.count + rest.count)) ≡ times s (range_with_len n first.count) + times s (range_with_len (length (with_flat_equation q made).signals) rest.count) =
    ap (times s) (range_append n first.count rest.count)
    ∙ (times_append s (range_with_len n first.count) (range_with_len (n + first.count) rest.count)
    ∙ ap (λ m. times s (range_with_len n first.count) + times s (range_with_len m rest.count)) (sym at_first)) in
    record { count = first.count + rest.count; signals = omega arith; number = omega arith }

-- no definition has a left side that is no signal of the flat body
none_past : (s : ℕ) (signals : List Signal) (qs : List FlatEquation) → AllByRecursion (IsMadeEquation signals) qs → length signals ≤ s → hits s qs ≡ 0
none_past s signals [] are past = refl
none_past s signals (Defines left e prefix ∷ qs) are past =
    let below : left < length signals = kind_below signals left are.0.0 are.0.2 in
    let apart : nat_eq left s ≡ false = ne_eqb left s (λ same. absurd (omega (arith, same, below, past))) in
    ap (λ b. if b then 1 + hits s qs else hits s qs) apart ∙ none_past s signals qs are.1 past
none_past s signals (Equal operands prefix ∷ qs) are past = none_past s signals qs are.1 past

pub defines_each : (flat : FlatBody) → IsWellMade flat → DefinesEach (kernel_of flat)
defines_each flat made =
    let start : Made = record { signals = flat.signals; equations = [] } in
    let n : ℕ = length flat.signals in
    let count = λ (s : ℕ). equations_count s flat.signals flat.equations start made.equations in
    let total = λ (s : ℕ). sym (counted s (made_of flat).equations) ∙ (count s).number in
    let of_flat = λ (s : ℕ). hits_counted s flat.equations in
    let interface = made.interface in
    record {
      inputs = λ s input.
          let all = total s in let here = of_flat s in let none = made.inputs s input in
          let before = times_before s n (count s).count (omega (arith, input, interface)) in
          omega arith;
      others = λ s output below. elim (cases_lt s n) [
        | inl declared ↦
            let all = total s in let here = of_flat s in let one = made.others s output declared in
            let before = times_before s n (count s).count declared in
            omega arith
        | inr intermediate ↦
            let all = total s in let none = none_past s flat.signals flat.equations made.equations intermediate in
            let size = (count s).signals in
            let one = times_within s n (count s).count intermediate (omega (arith, below, size)) in
            omega arith
      ];
    }
