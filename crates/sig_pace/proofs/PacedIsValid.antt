-- The paced kernel of a valid kernel is valid.
use Rattle.sig_pace.proofs.Common.{◌≡◌, ◌<◌, ◌≤◌, ◌+◌, ◌-◌, ◌++◌, ◌&&◌, ◌||◌, ◌==◌, ◌∙◌, ◌^◌, inl, inr, ℕ, zero, suc, Bool, true, false, cond, List, [], ◌∷◌, length, map, take, drop, slice_get, refl, sym, ap, subst, arith, Contains, Some, pos, bytes_eq, count_by, sum_by, IsDistinct, list_all, list_any, codes, decimal, and_from, and_parts, cases_eq, cases_lt, eq-eqb, false_from_ne_true, lt-ltb, ltb-true, ne_eqb, decimal_injective, append_assoc, append_cancel_left, length-append, length-map, length-take-le, map-append, take_at, AllPass-from_list_all, list_all-from_AllPass, sum_by-append, sum_by-cons, IsDistinct-cons, IsDistinct-head, IsDistinct-tail, bytes_eq-Decides, Boolean, Event as EventKind, SigId, SIGNALS, Signal, Span, IsSignal, form_fits, kind_at, kind_fits, operands_of, target_fits, target_of, AreWellMade, DefinesEach, HasParts, IsValid, defines, form_within, inputs_of, is_below, is_signal, is_target, operand_within, target_within, Equation, Form, Fun, Sync, WhenConst, Operand, Const, Sig, Kernel, Truth, GetsPaces, IsTaken, marked_from, marks_from, others_together, pace_name, paced_kernel, paces_from, place_of, together_from, moved, renumbered, renumbered_equation, renumbered_form, renumbered_operand, contains_cons, contains_head, contains_later, contains_none, all_both, option_map, Option, None}
use Rattle.sig_pace.proofs.Listed.{all_members, three_pass}
use Rattle.sig_pace.proofs.Places.{kind_of_mark, kind_of_pace, paced_count, paces_count, stand}
use Rattle.sig_pace.proofs.Rooms.{IsPlace, is_last, is_new, is_old, moved_apart, moved_before, moved_below, moved_outside, next_offset, no_offset, place_cases, same_at}
use Rattle.sig_pace.proofs.RenumberedSignals.{fits_alike, operands_moved}

-- ---- names

distinct_joined : (xs ys : List (List ℕ)) → IsDistinct bytes_eq xs → IsDistinct bytes_eq ys → ((x y : List ℕ) → Contains xs x → Contains ys y → bytes_eq x y ≡ false) → IsDistinct bytes_eq (xs ++ ys)
distinct_joined [] ys first second apart = second
distinct_joined (x ∷ xs) ys first second apart =
    IsDistinct-cons bytes_eq x (xs ++ ys)
    (all_both (λ y. bytes_eq x y ≡ false) xs ys (IsDistinct-head bytes_eq x xs first) (all_members (λ y. bytes_eq x y ≡ false) ys (λ y there. apart x y (contains_head x xs) there)))
    (distinct_joined xs ys (IsDistinct-tail bytes_eq x xs first) second (λ z y in_xs there. apart z y (contains_later x z xs in_xs) there))

names_apart : (a b : ℕ) → a < 2 ^ 64 → b < 2 ^ 64 → (a ≡ b → ⊥) → bytes_eq (pace_name a) (pace_name b) ≡ false
names_apart a b small_a small_b apart = false_from_ne_true (bytes_eq (pace_name a) (pace_name b)) (λ e.
    apart (decimal_injective a b small_a small_b (append_cancel_left (codes "pace_") (decimal a) (decimal b) ((bytes_eq-Decides (pace_name a) (pace_name b)).0 e))))

abbrev names_of : List Signal → List (List ℕ)
names_of signals = map (λ (signal : Signal). signal.name) signals

-- a pace has the name of its number
record IsPaceName (number count : ℕ) (name : List ℕ) : Type 0 where
  own : ℕ
  least : number ≤ own
  most : own < number + count
  named : name ≡ pace_name own

pace_named : (kernel : Kernel) (number : ℕ) (least : List ℕ) (name : List ℕ) → Contains (names_of (paces_from kernel number least)) name → IsPaceName number (length least) name
pace_named kernel number [] name there = absurd (contains_none name there)
pace_named kernel number (m ∷ least) name there = elim (contains_cons (pace_name number) name (names_of (paces_from kernel (suc number) least)) there) [
  | inl same ↦ record { own = number; least = omega arith; most = omega arith; named = same }
  | inr later ↦ (
      let rest = pace_named kernel (suc number) least name later in
      record { own = rest.own; least = omega (arith, rest.least); most = omega (arith, rest.most); named = rest.named })
]

paces_apart : (kernel : Kernel) (number : ℕ) (least : List ℕ) → number + length least < 2 ^ 64 → IsDistinct bytes_eq (names_of (paces_from kernel number least))
unfolding IsDistinct
paces_apart kernel number [] small = tt
paces_apart kernel number (m ∷ least) small =
    IsDistinct-cons bytes_eq (pace_name number) (names_of (paces_from kernel (suc number) least))
    (all_members (λ y. bytes_eq (pace_name number) y ≡ false) (names_of (paces_from kernel (suc number) least)) (λ y there.
    let is = pace_named kernel (suc number) least y there in
    ap (bytes_eq (pace_name number)) is.named ∙ names_apart number is.own (omega (arith, small)) (omega (arith, small, is.most)) (λ e. omega (arith, e, is.least))))
    (paces_apart kernel (suc number) least (omega (arith, small)))

-- an input has its name
record IsInputName (count : ℕ) (signals : List Signal) (name : List ℕ) : Type 0 where
  signal : ℕ
  within : signal < count
  found : Signal
  is : slice_get signals signal ≡ Some found
  named : name ≡ found.name

input_named : (n : ℕ) (signals : List Signal) (name : List ℕ) → Contains (names_of (take n signals)) name → IsInputName n signals name
input_named (suc n) (s ∷ signals) name there = elim (contains_cons s.name name (names_of (take n signals)) there) [
  | inl same ↦ record { signal = 0; within = omega arith; found = s; is = refl; named = same }
  | inr later ↦ (let rest = input_named n signals name later in record { signal = suc rest.signal; within = omega (arith, rest.within); found = rest.found; is = rest.is; named = rest.named })
]
input_named _ _ name there = absurd (contains_none name there)

-- ---- what the equations of paces ask

module _ (kernel : Kernel) (count : ℕ) where
  abbrev all_within : List Equation → Bool
  all_within equations = list_all (λ (equation : Equation). form_within count equation.form) equations

  two_below : (x y : SigId) → x.0 < count → y.0 < count → form_within count (Sync x y) ≡ true
  two_below x y lt lt' = and_from (is_below count x) (is_below count y && true) (lt-ltb x.0 count lt) (and_from (is_below count y) true (lt-ltb y.0 count lt') refl)

  together_within : (number : ℕ) (least : List ℕ) → kernel.inputs < count → number + length least ≤ count → all_within (together_from kernel number least) ≡ true
  together_within number [] first le = refl
  together_within number (m ∷ least) first le =
      and_from (form_within count (Sync (record { 0 = kernel.inputs }) (record { 0 = number }))) (all_within (together_from kernel (suc number) least))
      (two_below (record { 0 = kernel.inputs }) (record { 0 = number }) first (omega (arith, le))) (together_within (suc number) least first (omega (arith, le)))

  others_within : (least : List ℕ) → kernel.inputs + length least ≤ count → all_within (others_together kernel least) ≡ true
  others_within [] le = refl
  others_within (m ∷ least) le = together_within (suc kernel.inputs) least (omega (arith, le)) (omega (arith, le))

  marked_within : (place : ℕ → ℕ) (pace mark : ℕ) (least : List ℕ) → pace + length least ≤ count → mark + length least ≤ count → ((m : ℕ) → Contains least m → place m < count)
      → all_within (marked_from kernel place pace mark least) ≡ true
  marked_within place pace mark [] le le' each = refl
  marked_within place pace mark (m ∷ least) le le' each =
      and_from (form_within count (WhenConst (record { 0 = mark }) (pos 1) (record { 0 = pace })))
      (form_within count (Sync (record { 0 = place m }) (record { 0 = mark })) && all_within (marked_from kernel place (suc pace) (suc mark) least))
      (and_from (is_below count (record { 0 = mark })) (true && (is_below count (record { 0 = pace }) && true)) (lt-ltb mark count (omega (arith, le')))
      (and_from true (is_below count (record { 0 = pace }) && true) refl (and_from (is_below count (record { 0 = pace })) true (lt-ltb pace count (omega (arith, le))) refl)))
      (and_from (form_within count (Sync (record { 0 = place m }) (record { 0 = mark }))) (all_within (marked_from kernel place (suc pace) (suc mark) least))
      (two_below (record { 0 = place m }) (record { 0 = mark }) (each m (contains_head m least)) (omega (arith, le')))
      (marked_within place (suc pace) (suc mark) least (omega (arith, le)) (omega (arith, le')) (λ n there. each n (contains_later m n least there))))

module _ (kernel : Kernel) (signals : List Signal) where
  abbrev all_fit : List Equation → Bool
  all_fit equations = list_all (λ (equation : Equation). form_fits signals equation.form) equations

  together_fit : (number : ℕ) (least : List ℕ) → all_fit (together_from kernel number least) ≡ true
  together_fit number [] = refl
  together_fit number (m ∷ least) = and_from true (all_fit (together_from kernel (suc number) least)) refl (together_fit (suc number) least)

  others_fit : (least : List ℕ) → all_fit (others_together kernel least) ≡ true
  others_fit [] = refl
  others_fit (m ∷ least) = together_fit (suc kernel.inputs) least

  mark_fits : (pace mark : ℕ) → kind_at signals (record { 0 = pace }) ≡ Some Boolean → kind_at signals (record { 0 = mark }) ≡ Some EventKind
      → form_fits signals (WhenConst (record { 0 = mark }) (pos 1) (record { 0 = pace })) ≡ true
  mark_fits pace mark of_pace of_mark =
      ap (λ found. target_fits signals found (WhenConst (record { 0 = mark }) (pos 1) (record { 0 = pace }))) of_mark ∙ ap (λ found. (kind_fits Truth found && true) || false) of_pace

  marked_fit : (place : ℕ → ℕ) (pace mark : ℕ) (least : List ℕ)
      → ((j : ℕ) → j < length least → (kind_at signals (record { 0 = pace + j }) ≡ Some Boolean) × (kind_at signals (record { 0 = mark + j }) ≡ Some EventKind))
      → all_fit (marked_from kernel place pace mark least) ≡ true
  marked_fit place pace mark [] each = refl
  marked_fit place pace mark (m ∷ least) each =
      and_from (form_fits signals (WhenConst (record { 0 = mark }) (pos 1) (record { 0 = pace }))) (true && all_fit (marked_from kernel place (suc pace) (suc mark) least))
      (mark_fits pace mark (ap (λ k. kind_at signals (record { 0 = k })) (sym (no_offset pace)) ∙ (each 0 (omega arith)).0) (ap (λ k. kind_at signals (record { 0 = k })) (sym (no_offset mark)) ∙ (each 0 (omega arith)).1))
      (and_from true (all_fit (marked_from kernel place (suc pace) (suc mark) least)) refl
      (marked_fit place (suc pace) (suc mark) least (λ j lt.
      let next = each (suc j) (omega (arith, lt)) in
      (ap (λ k. kind_at signals (record { 0 = k })) (sym (next_offset pace j)) ∙ next.0, ap (λ k. kind_at signals (record { 0 = k })) (sym (next_offset mark j)) ∙ next.1))))

abbrev all_speak : List Equation → Bool
all_speak equations = list_all (λ (equation : Equation). list_any is_signal (operands_of equation.form)) equations

together_speak : (kernel : Kernel) (number : ℕ) (least : List ℕ) → all_speak (together_from kernel number least) ≡ true
together_speak kernel number [] = refl
together_speak kernel number (m ∷ least) = and_from true (all_speak (together_from kernel (suc number) least)) refl (together_speak kernel (suc number) least)

others_speak : (kernel : Kernel) (least : List ℕ) → all_speak (others_together kernel least) ≡ true
others_speak kernel [] = refl
others_speak kernel (m ∷ least) = together_speak kernel (suc kernel.inputs) least

marked_speak : (kernel : Kernel) (place : ℕ → ℕ) (pace mark : ℕ) (least : List ℕ) → all_speak (marked_from kernel place pace mark least) ≡ true
marked_speak kernel place pace mark [] = refl
marked_speak kernel place pace mark (m ∷ least) =
    and_from true (true && all_speak (marked_from kernel place (suc pace) (suc mark) least)) refl
    (and_from true (all_speak (marked_from kernel place (suc pace) (suc mark) least)) refl (marked_speak kernel place (suc pace) (suc mark) least))

-- ---- how often the equations of paces define a signal

module _ (kernel : Kernel) (signal : ℕ) where
  abbrev often : List Equation → ℕ
  often equations = sum_by (λ (equation : Equation). cond (defines signal equation) 1 0) equations

  often_more : (equation : Equation) (equations : List Equation) (b : Bool) → defines signal equation ≡ b → often (equation ∷ equations) ≡ cond b 1 0 + often equations
  often_more equation equations b is = sum_by-cons (λ (e : Equation). cond (defines signal e) 1 0) equation equations ∙ ap (λ c. cond c 1 0 + often equations) is

  often_sync : (x y : SigId) (at : Span) (equations : List Equation) → often (record { form = Sync x y; at = at } ∷ equations) ≡ often equations
  often_sync x y at equations = omega (arith, often_more (record { form = Sync x y; at = at }) equations false refl)

  together_often : (number : ℕ) (least : List ℕ) → often (together_from kernel number least) ≡ 0
  together_often number [] = refl
  together_often number (m ∷ least) = often_sync (record { 0 = kernel.inputs }) (record { 0 = number }) (place_of kernel m) (together_from kernel (suc number) least) ∙ together_often (suc number) least

  others_often : (least : List ℕ) → often (others_together kernel least) ≡ 0
  others_often [] = refl
  others_often (m ∷ least) = together_often (suc kernel.inputs) least

  marked_more : (place : ℕ → ℕ) (pace mark m : ℕ) (least : List ℕ) (b : Bool) → (mark == signal) ≡ b
      → often (marked_from kernel place pace mark (m ∷ least)) ≡ cond b 1 0 + often (marked_from kernel place (suc pace) (suc mark) least)
  marked_more place pace mark m least b is =
      often_more (record { form = WhenConst (record { 0 = mark }) (pos 1) (record { 0 = pace }); at = place_of kernel m })
      (record { form = Sync (record { 0 = place m }) (record { 0 = mark }); at = place_of kernel m } ∷ marked_from kernel place (suc pace) (suc mark) least) b is
      ∙ ap (λ n. cond b 1 0 + n) (often_sync (record { 0 = place m }) (record { 0 = mark }) (place_of kernel m) (marked_from kernel place (suc pace) (suc mark) least))

  marked_never : (place : ℕ → ℕ) (pace mark : ℕ) (least : List ℕ) → ((j : ℕ) → j < length least → mark + j ≡ signal → ⊥) → often (marked_from kernel place pace mark least) ≡ 0
  marked_never place pace mark [] apart = refl
  marked_never place pace mark (m ∷ least) apart =
      let first = marked_more place pace mark m least false (ne_eqb mark signal (λ e. apart 0 (omega arith) (omega (arith, e)))) in
      let rest = marked_never place (suc pace) (suc mark) least (λ j lt e. apart (suc j) (omega (arith, lt)) (omega (arith, e))) in
      omega (arith, first, rest)

  marked_once : (place : ℕ → ℕ) (pace mark : ℕ) (least : List ℕ) (j : ℕ) → j < length least → mark + j ≡ signal → often (marked_from kernel place pace mark least) ≡ 1
  marked_once place pace mark [] j lt is = absurd (omega (arith, lt))
  marked_once place pace mark (m ∷ least) zero lt is =
      let first = marked_more place pace mark m least true (eq-eqb mark signal (omega (arith, is))) in
      let rest = marked_never place (suc pace) (suc mark) least (λ i less e. omega (arith, is, e)) in
      omega (arith, first, rest)
  marked_once place pace mark (m ∷ least) (suc j) lt is =
      let first = marked_more place pace mark m least false (ne_eqb mark signal (λ e. omega (arith, is, e))) in
      let rest = marked_once place (suc pace) (suc mark) least j (omega (arith, lt)) (omega (arith, is)) in
      omega (arith, first, rest)

-- ---- the old equations

target_renumbered : (place : ℕ → ℕ) (form : Form) → target_of (renumbered_form place form) ≡ option_map (renumbered place) (target_of form)
target_renumbered place (Fun y op operands) = refl
target_renumbered place _ = refl

target_moved : (place : ℕ → ℕ) (count wide : ℕ) → ((x : ℕ) → x < count → place x < wide) → (target : Option SigId) → target_within count target ≡ true
    → target_within wide (option_map (renumbered place) target) ≡ true
target_moved place count wide up None within = refl
target_moved place count wide up (Some y) within = lt-ltb (place y.0) wide (up y.0 (ltb-true y.0 count within))

operands_within : (place : ℕ → ℕ) (count wide : ℕ) → ((x : ℕ) → x < count → place x < wide) → (operands : List Operand) → list_all (operand_within count) operands ≡ true
    → list_all (operand_within wide) (map (renumbered_operand place) operands) ≡ true
operands_within place count wide up [] within = refl
operands_within place count wide up (Sig x ∷ operands) within =
    let parts = and_parts (is_below count x) (list_all (operand_within count) operands) within in
    and_from (is_below wide (renumbered place x)) (list_all (operand_within wide) (map (renumbered_operand place) operands))
    (lt-ltb (place x.0) wide (up x.0 (ltb-true x.0 count parts.0))) (operands_within place count wide up operands parts.1)
operands_within place count wide up (Const c ∷ operands) within =
    let parts = and_parts true (list_all (operand_within count) operands) within in
    and_from true (list_all (operand_within wide) (map (renumbered_operand place) operands)) refl (operands_within place count wide up operands parts.1)

moved_within : (place : ℕ → ℕ) (count wide : ℕ) → ((x : ℕ) → x < count → place x < wide) → (form : Form) → form_within count form ≡ true → form_within wide (renumbered_form place form) ≡ true
moved_within place count wide up form within =
    let parts = and_parts (target_within count (target_of form)) (list_all (operand_within count) (operands_of form)) within in
    and_from (target_within wide (target_of (renumbered_form place form))) (list_all (operand_within wide) (operands_of (renumbered_form place form)))
    (ap (target_within wide) (target_renumbered place form) ∙ target_moved place count wide up (target_of form) parts.0)
    (ap (list_all (operand_within wide)) (operands_moved place form) ∙ operands_within place count wide up (operands_of form) parts.1)

signals_moved : (place : ℕ → ℕ) (operands : List Operand) → list_any is_signal operands ≡ list_any is_signal (map (renumbered_operand place) operands)
signals_moved place (Const c ∷ operands) = λ j. false || signals_moved place operands j
signals_moved place _ = refl

same_test : (place : ℕ → ℕ) → ((x y : ℕ) → place x ≡ place y → x ≡ y) → (x y : ℕ) → (place x == place y) ≡ (x == y)
same_test place apart x y = elim (cases_eq x y) [
  | inl same ↦ eq-eqb (place x) (place y) (ap place same) ∙ sym (eq-eqb x y same)
  | inr differ ↦ ne_eqb (place x) (place y) (λ e. differ (apart x y e)) ∙ sym (ne_eqb x y differ)
]

-- whether a form defines the signal at a place
target_alike : (place : ℕ → ℕ) → ((x y : ℕ) → place x ≡ place y → x ≡ y) → (signal : ℕ) (target : Option SigId) → is_target (place signal) (option_map (renumbered place) target) ≡ is_target signal target
target_alike place apart signal None = refl
target_alike place apart signal (Some y) = same_test place apart y.0 signal

-- no form defines a signal that is no place
target_none : (place : ℕ → ℕ) (count signal : ℕ) → ((x : ℕ) → x < count → place x ≡ signal → ⊥) → (target : Option SigId) → target_within count target ≡ true
    → is_target signal (option_map (renumbered place) target) ≡ false
target_none place count signal none None within = refl
target_none place count signal none (Some y) within = ne_eqb (place y.0) signal (none y.0 (ltb-true y.0 count within))

module _ (place : ℕ → ℕ) (count : ℕ) where
  abbrev within_all : List Equation → Bool
  within_all equations = list_all (λ (equation : Equation). form_within count equation.form) equations

  all_moved : (wide : ℕ) → ((x : ℕ) → x < count → place x < wide) → (equations : List Equation) → within_all equations ≡ true
      → list_all (λ (equation : Equation). form_within wide equation.form) (map (renumbered_equation place) equations) ≡ true
  all_moved wide up [] within = refl
  all_moved wide up (equation ∷ equations) within =
      let parts = and_parts (form_within count equation.form) (within_all equations) within in
      and_from (form_within wide (renumbered_form place equation.form)) (list_all (λ (e : Equation). form_within wide e.form) (map (renumbered_equation place) equations))
      (moved_within place count wide up equation.form parts.0) (all_moved wide up equations parts.1)

  all_fit_moved : (signals wide : List Signal) → ((form : Form) → form_within count form ≡ true → form_fits signals form ≡ form_fits wide (renumbered_form place form))
      → (equations : List Equation) → within_all equations ≡ true
      → list_all (λ (equation : Equation). form_fits signals equation.form) equations ≡ list_all (λ (equation : Equation). form_fits wide equation.form) (map (renumbered_equation place) equations)
  all_fit_moved signals wide alike [] within = refl
  all_fit_moved signals wide alike (equation ∷ equations) within =
      let parts = and_parts (form_within count equation.form) (within_all equations) within in
      λ j. alike equation.form parts.0 j && all_fit_moved signals wide alike equations parts.1 j

  all_speak_moved : (equations : List Equation) → all_speak equations ≡ all_speak (map (renumbered_equation place) equations)
  all_speak_moved [] = refl
  all_speak_moved (equation ∷ equations) =
      let first : list_any is_signal (operands_of equation.form) ≡ list_any is_signal (operands_of (renumbered_form place equation.form)) =
      signals_moved place (operands_of equation.form) ∙ ap (list_any is_signal) (sym (operands_moved place equation.form)) in
      λ j. first j && all_speak_moved equations j

  often_alike : Kernel → ((x y : ℕ) → place x ≡ place y → x ≡ y) → (signal : ℕ) (equations : List Equation)
      → count_by (defines (place signal)) (map (renumbered_equation place) equations) ≡ count_by (defines signal) equations
  often_alike kernel apart signal [] = refl
  often_alike kernel apart signal (equation ∷ equations) =
      often_more kernel (place signal) (renumbered_equation place equation) (map (renumbered_equation place) equations) (defines signal equation) (ap (is_target (place signal)) (target_renumbered place equation.form) ∙ target_alike place apart signal (target_of equation.form))
      ∙ ap (λ n. cond (defines signal equation) 1 0 + n) (often_alike kernel apart signal equations) ∙ sym (often_more kernel signal equation equations (defines signal equation) refl)

  often_none : Kernel → (signal : ℕ) → ((x : ℕ) → x < count → place x ≡ signal → ⊥) → (equations : List Equation) → within_all equations ≡ true
      → count_by (defines signal) (map (renumbered_equation place) equations) ≡ 0
  often_none kernel signal none [] within = refl
  often_none kernel signal none (equation ∷ equations) within =
      let parts = and_parts (form_within count equation.form) (within_all equations) within in
      let target = and_parts (target_within count (target_of equation.form)) (list_all (operand_within count) (operands_of equation.form)) parts.0 in
      let first = often_more kernel signal (renumbered_equation place equation) (map (renumbered_equation place) equations) false (ap (is_target signal) (target_renumbered place equation.form) ∙ target_none place count signal none (target_of equation.form) target.0) in
      let rest = often_none kernel signal none equations parts.1 in
      omega (arith, first, rest)

-- ---- lengths

together_length : (kernel : Kernel) (number : ℕ) (least : List ℕ) → length (together_from kernel number least) ≡ length least
together_length kernel number [] = refl
together_length kernel number (m ∷ least) = omega (arith, together_length kernel (suc number) least)

others_length : (kernel : Kernel) (least : List ℕ) → length (others_together kernel least) ≤ length least
others_length kernel [] = omega arith
others_length kernel (m ∷ least) = omega (arith, together_length kernel (suc kernel.inputs) least)

marked_length : (kernel : Kernel) (place : ℕ → ℕ) (pace mark : ℕ) (least : List ℕ) → length (marked_from kernel place pace mark least) ≡ length least + length least
marked_length kernel place pace mark [] = refl
marked_length kernel place pace mark (m ∷ least) = omega (arith, marked_length kernel place (suc pace) (suc mark) least)

-- ---- the paced kernel

module _ (kernel : Kernel) (least : List ℕ) (valid : IsValid kernel) (are : (m : ℕ) → Contains least m → IsSignal kernel m)
    (free : (signal : ℕ) → IsTaken kernel least signal → ⊥) (few : length kernel.signals + (length least + length least) ≤ SIGNALS) (short : length kernel.equations < 2 ^ 31) where
  abbrev count : ℕ
  count = length kernel.signals

  abbrev more : ℕ
  more = length least

  abbrev place : ℕ → ℕ
  place = moved kernel.inputs more

  abbrev paced : Kernel
  paced = paced_kernel kernel least

  abbrev old_ones : List Equation
  old_ones = map (renumbered_equation place) kernel.equations

  abbrev others : List Equation
  others = others_together kernel least

  abbrev marked : List Equation
  marked = marked_from kernel place kernel.inputs (count + more) least

  inputs_within : kernel.inputs ≤ count
  inputs_within = omega (arith, valid.parts.interface, valid.parts.declared)

  wide_count : length paced.signals ≡ count + (more + more)
  wide_count = paced_count kernel least inputs_within

  few_signals : count + (more + more) ≤ 512
  few_signals = few

  equations_within : within_all place count kernel.equations ≡ true
  equations_within = list_all-from_AllPass (λ (equation : Equation). form_within count equation.form) kernel.equations valid.equations.within

  up : (x : ℕ) → x < count → place x < length paced.signals
  up x lt = omega (arith, moved_before kernel.inputs count more x inputs_within lt, wide_count)

  has_parts : HasParts paced
  has_parts = record {
    interface = omega (arith, valid.parts.interface);
    declared = omega (arith, valid.parts.declared, wide_count);
    signals = subst (λ n. n ≤ SIGNALS) (sym wide_count) few;
    equations = omega (arith, short, few_signals, length-append old_ones (others ++ marked), length-append others marked, length-map kernel.equations (renumbered_equation place), others_length kernel least, marked_length kernel place kernel.inputs (count + more) least);
  }

  -- the inputs are the old ones and the paces
  inputs_are : inputs_of paced ≡ take kernel.inputs kernel.signals ++ paces_from kernel 1 least
  inputs_are =
      ap (take (kernel.inputs + more)) (sym (append_assoc (take kernel.inputs kernel.signals) (paces_from kernel 1 least) (drop kernel.inputs kernel.signals ++ marks_from kernel 1 least)))
      ∙ take_at (take kernel.inputs kernel.signals ++ paces_from kernel 1 least) (drop kernel.inputs kernel.signals ++ marks_from kernel 1 least) (kernel.inputs + more)
      (omega (arith, length-append (take kernel.inputs kernel.signals) (paces_from kernel 1 least), length-take-le kernel.inputs kernel.signals inputs_within, paces_count kernel 1 least))

  names_differ : IsDistinct bytes_eq (names_of (inputs_of paced))
  names_differ = subst (λ signals. IsDistinct bytes_eq (names_of signals)) (sym inputs_are)
      (subst (IsDistinct bytes_eq) (sym (map-append (λ (signal : Signal). signal.name) (take kernel.inputs kernel.signals) (paces_from kernel 1 least)))
      (distinct_joined (names_of (take kernel.inputs kernel.signals)) (names_of (paces_from kernel 1 least)) valid.names (paces_apart kernel 1 least (omega (arith, few_signals))) differ)) where
        differ : (x y : List ℕ) → Contains (names_of (take kernel.inputs kernel.signals)) x → Contains (names_of (paces_from kernel 1 least)) y → bytes_eq x y ≡ false
        differ x y in_old in_paces =
            let input = input_named kernel.inputs kernel.signals x in_old in
            let pace = pace_named kernel 1 least y in_paces in
            false_from_ne_true (bytes_eq x y) (λ e. free input.signal (record {
              declared = omega (arith, input.within, valid.parts.interface);
              found = input.found;
              is = input.is;
              number = pace.own;
              counted = (pace.least, omega (arith, pace.most));
              named = sym input.named ∙ (bytes_eq-Decides x y).0 e ∙ pace.named;
            }))

  well_made : AreWellMade paced
  well_made = record {
    within = AllPass-from_list_all (λ (equation : Equation). form_within (length paced.signals) equation.form) paced.equations
        (three_pass (λ (equation : Equation). form_within (length paced.signals) equation.form) old_ones others marked (all_moved place count (length paced.signals) up kernel.equations equations_within)
        (others_within kernel (length paced.signals) least (omega (arith, wide_count, inputs_within)))
        (marked_within kernel (length paced.signals) place kernel.inputs (count + more) least (omega (arith, wide_count, inputs_within)) (omega (arith, wide_count)) (λ m there. up m (are m there))));
    fit = AllPass-from_list_all (λ (equation : Equation). form_fits paced.signals equation.form) paced.equations
        (three_pass (λ (equation : Equation). form_fits paced.signals equation.form) old_ones others marked
        (sym (all_fit_moved place count kernel.signals paced.signals (fits_alike place count kernel.signals paced.signals (stand kernel least inputs_within)) kernel.equations equations_within)
        ∙ list_all-from_AllPass (λ (equation : Equation). form_fits kernel.signals equation.form) kernel.equations valid.equations.fit)
        (others_fit kernel paced.signals least)
        (marked_fit kernel paced.signals place kernel.inputs (count + more) least (λ j lt. (kind_of_pace kernel least inputs_within j lt, kind_of_mark kernel least inputs_within j lt))));
    speak = AllPass-from_list_all (λ (equation : Equation). list_any is_signal (operands_of equation.form)) paced.equations
        (three_pass (λ (equation : Equation). list_any is_signal (operands_of equation.form)) old_ones others marked
        (sym (all_speak_moved place count kernel.equations) ∙ list_all-from_AllPass (λ (equation : Equation). list_any is_signal (operands_of equation.form)) kernel.equations valid.equations.speak)
        (others_speak kernel least) (marked_speak kernel place kernel.inputs (count + more) least));
  }

  in_all : (signal : ℕ) → count_by (defines signal) paced.equations ≡ often kernel signal old_ones + often kernel signal marked
  in_all signal =
      omega (
        arith,
        sum_by-append (λ (equation : Equation). cond (defines signal equation) 1 0) old_ones (others ++ marked),
        sum_by-append (λ (equation : Equation). cond (defines signal equation) 1 0) others marked,
        others_often kernel signal least,
      )

  -- an old signal is defined as often as it was
  old_often : (x : ℕ) → x < count → count_by (defines (place x)) paced.equations ≡ count_by (defines x) kernel.equations
  old_often x lt =
      let first = often_alike place count kernel (moved_apart kernel.inputs more) x kernel.equations in
      let rest = marked_never kernel (place x) place kernel.inputs (count + more) least (λ j less e. omega (arith, moved_before kernel.inputs count more x inputs_within lt, e)) in
      omega (arith, in_all (place x), rest, first)

  pace_often : (j : ℕ) → j < more → count_by (defines (kernel.inputs + j)) paced.equations ≡ 0
  pace_often j lt =
      let first = often_none place count kernel (kernel.inputs + j) (λ x less e. moved_outside kernel.inputs more x j lt e) kernel.equations equations_within in
      let rest = marked_never kernel (kernel.inputs + j) place kernel.inputs (count + more) least (λ i less e. omega (arith, e, lt, inputs_within)) in
      omega (arith, in_all (kernel.inputs + j), rest, first)

  mark_often : (j : ℕ) → j < more → count_by (defines (count + more + j)) paced.equations ≡ 1
  mark_often j lt =
      let first = often_none place count kernel (count + more + j) (λ x less e. omega (arith, moved_before kernel.inputs count more x inputs_within less, e)) kernel.equations equations_within in
      let rest = marked_once kernel (count + more + j) place kernel.inputs (count + more) least j lt refl in
      omega (arith, in_all (count + more + j), first, rest)

  defined_each : DefinesEach paced
  defined_each = record { inputs = input; others = other } where
    input : (signal : ℕ) → signal < kernel.inputs + more → count_by (defines signal) paced.equations ≡ 0
    input signal lt = elim (cases_lt signal kernel.inputs) [
      | inl low ↦ ap (λ k. count_by (defines k) paced.equations) (sym (moved_below kernel.inputs more signal low)) ∙ old_often signal (omega (arith, low, inputs_within)) ∙ valid.defined.inputs signal low
      | inr high ↦ same_at (λ k. count_by (defines k) paced.equations) signal (kernel.inputs + (signal - kernel.inputs)) (omega (arith, high)) ∙ pace_often (signal - kernel.inputs) (omega (arith, high, lt))
    ]

    other : (signal : ℕ) → kernel.inputs + more ≤ signal → signal < length paced.signals → count_by (defines signal) paced.equations ≡ 1
    other signal le lt = by (place_cases kernel.inputs count more more signal inputs_within (omega (arith, lt, wide_count))) where
      by : IsPlace kernel.inputs count more more signal → count_by (defines signal) paced.equations ≡ 1
      by (is_old x less is) = elim (cases_lt x kernel.inputs) [
        | inl low ↦ absurd (omega (arith, low, moved_below kernel.inputs more x low, is, le))
        | inr high ↦ ap (λ k. count_by (defines k) paced.equations) (sym is) ∙ old_often x less ∙ valid.defined.others x high less
      ]
      by (is_new j less is) = absurd (omega (arith, less, is, le))
      by (is_last j less is) = ap (λ k. count_by (defines k) paced.equations) (sym is) ∙ mark_often j less

  are_valid : IsValid paced
  are_valid = record { parts = has_parts; names = names_differ; equations = well_made; defined = defined_each }

pub valid_with_paces : (kernel paced : Kernel) (least : List ℕ) → IsValid kernel → GetsPaces kernel paced least → length kernel.equations < 2 ^ 31 → IsValid paced
valid_with_paces kernel own least valid gets short = subst IsValid (sym gets.is) (are_valid kernel least valid (λ m there. ((gets.needs.clocks.all m).0 there).maximal.is) gets.free gets.few short)
