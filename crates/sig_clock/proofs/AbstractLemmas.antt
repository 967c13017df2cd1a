-- Lemmas on what is left of an instant where the values of integers are left out.
use Rattle.sig_clock.proofs.Common.{◌≡◌, ◌<◌, ◌⊎◌, inl, inr, ℕ, ℤ, pos, Bool, true, false, not, cond, List, [], ◌∷◌, length, map, get_or, refl, sym, ap, ◌∙◌, subst, arith, zero, suc, Option, None, Some, is_some, slice_get, ◌&&◌, ◌||◌, list_all, list_any, AllByRecursion, int_eq, and_parts, false≢true, or-false, Function, Identity, Not as Negation, And as Conjunction, Or as Disjunction, Xor as Exclusive, Equal, NotEqual, Gives, Tells, Seen, Instant, Range, AreOfKinds, IsOfKind, IsValue, is_silent_instant, seen_at, Kind, Integer, Boolean, SigId, Signal, Memory, Meets, HaveValues, AreAbsent, IsFunction, IsInstant, function_of, seen_where_present, seen_where_true, seen_or_else, defines_well, equality, form_fits, function_rows, handed_on, handed_on_where, is_kind, keeps_to_one, kind_at, kind_fits, kind_is, kind_of, merged, operand_is, operands_are, operands_of, target_fits, IsValid, is_signal, Equation, Form, Fun, Delay, When, WhenConst, Default, Sync, Event as EventOf, FunOp, Id, Neg, Eq, Ne, Lt, Le, Gt, Ge, Add, Sub, Mul, Div, Mod, Kernel, Decides-int_eq, Operand, Sig, Const, Sort, AnInteger, Truth, AnEvent, abstraction_of, status_of, truth_of_value, IsReaction, Speaks, Status, status_at, is_present, is_silent, is_with, is_integer, is_integer_kind, same_status, same_truth, where_present, where_true, or_else, constant_truth, meets, are_statuses, is_status_of, operand_truth, truth_of_status, truth_function, function_truth, has_truth, two_parts, and_from}
use Rattle.sig_base.specs.declared.ids.Kind.TheVariants.{Event}
use Rattle.sig_kernel.specs.declared.equation.FunOp.TheVariants.{Not, And, Or, Xor}

-- a status by the kind of a signal, where it has one
abbrev pub status_by : Option Kind → Seen → Status
status_by None seen = None
status_by (Some kind) seen = status_of kind seen

pub at : (range : Range) (signals : List Signal) (instant : Instant) (k : ℕ) → AreOfKinds range (map (λ signal. signal.kind) signals) instant
    → status_at (abstraction_of signals instant) k ≡ status_by (kind_of (slice_get signals k)) (seen_at instant k)
at range [] instant k kinds = refl
at range (signal ∷ signals) [] k kinds = absurd kinds
at range (signal ∷ signals) (seen ∷ instant) zero kinds = refl
at range (signal ∷ signals) (seen ∷ instant) (suc k) kinds = at range signals instant k kinds.1

present_of : (kind : Kind) (seen : Seen) → is_some (status_of kind seen) ≡ is_some seen
present_of kind None = refl
present_of kind (Some v) = refl

present_by : (range : Range) (signals : List Signal) (instant : Instant) (k : ℕ) → AreOfKinds range (map (λ signal. signal.kind) signals) instant
    → is_present (abstraction_of signals instant) k ≡ is_some (seen_at instant k)
present_by range [] [] k kinds = refl
present_by range [] (seen ∷ instant) k kinds = absurd kinds
present_by range (signal ∷ signals) [] k kinds = absurd kinds
present_by range (signal ∷ signals) (seen ∷ instant) zero kinds = present_of signal.kind seen
present_by range (signal ∷ signals) (seen ∷ instant) (suc k) kinds = present_by range signals instant k kinds.1

truth_itself : (b : Bool) → same_truth b b ≡ true
truth_itself true = refl
truth_itself false = refl

pub same_if : (a b : Bool) → a ≡ b → same_truth a b ≡ true
same_if a b is = subst (λ x. same_truth a x ≡ true) is (truth_itself a)

status_itself : (s : Status) → same_status s s ≡ true
status_itself None = refl
status_itself (Some b) = truth_itself b

pub same_status_if : (a b : Status) → a ≡ b → same_status a b ≡ true
same_status_if a b is = subst (λ x. same_status a x ≡ true) is (status_itself a)

-- the sort that an operand is of whose values are handed on to a signal of a kind
abbrev pub sort_of : Kind → Sort
sort_of Integer = AnInteger
sort_of Boolean = Truth
sort_of Event = AnEvent

one_is : (v : ℤ) → v ≡ pos 1 → int_eq v (pos 1) ≡ true
one_is v is = ap (λ w. int_eq w (pos 1)) is

-- a value that is handed on keeps its truth
pub like : (range : Range) (target kind : Kind) (seen : Seen) → kind_is (sort_of target) kind ≡ true → IsOfKind range kind seen → status_of target seen ≡ status_of kind seen
like range target kind None fits is = refl
like range Integer Integer (Some v) fits is = refl
like range Integer Boolean (Some v) fits is = absurd (false≢true fits)
like range Integer Event (Some v) fits is = absurd (false≢true fits)
like range Boolean Integer (Some v) fits is = absurd (false≢true fits)
like range Boolean Boolean (Some v) fits is = refl
like range Boolean Event (Some v) fits is = ap Some (one_is v is)
like range Event Integer (Some v) fits is = absurd (false≢true fits)
like range Event Boolean (Some v) fits is = absurd (false≢true fits)
like range Event Event (Some v) fits is = refl

-- the truth of a truth's value is whether it is 1
pub truth_is : (range : Range) (kind : Kind) (v : ℤ) → kind_is Truth kind ≡ true → IsValue range kind v → truth_of_value kind v ≡ int_eq v (pos 1)
truth_is range Integer v fits is = absurd (false≢true fits)
truth_is range Boolean v fits is = refl
truth_is range Event v fits is = sym (one_is v is)

pub where_rows : (signals : List Signal) (target : Kind) (a b : Operand) → keeps_to_one signals target (a ∷ b ∷ []) handed_on_where ≡ true
    → (operand_is signals a (sort_of target) ≡ true) × (operand_is signals b Truth ≡ true)
where_rows signals Integer a b fits = two_parts (operand_is signals a AnInteger) (operand_is signals b Truth) fits
where_rows signals Boolean a b fits = two_parts (operand_is signals a Truth) (operand_is signals b Truth) fits
where_rows signals Event a b fits = two_parts (operand_is signals a AnEvent) (operand_is signals b Truth) fits

pub merged_rows : (signals : List Signal) (target : Kind) (a b : Operand) → keeps_to_one signals target (a ∷ b ∷ []) merged ≡ true
    → (operand_is signals a (sort_of target) ≡ true) × (operand_is signals b (sort_of target) ≡ true)
merged_rows signals Integer a b fits = two_parts (operand_is signals a AnInteger) (operand_is signals b AnInteger) fits
merged_rows signals Boolean a b fits = two_parts (operand_is signals a Truth) (operand_is signals b Truth) fits
merged_rows signals Event a b fits = two_parts (operand_is signals a AnEvent) (operand_is signals b AnEvent) fits

pub of_kind : (range : Range) (signals : List Signal) (instant : Instant) (k : ℕ) (kind : Kind) → AreOfKinds range (map (λ signal. signal.kind) signals) instant
    → kind_of (slice_get signals k) ≡ Some kind → IsOfKind range kind (seen_at instant k)
of_kind range [] instant k kind kinds is = absurd (let e : None ≡ Some kind = is in cc)
of_kind range (signal ∷ signals) [] k kind kinds is = absurd kinds
of_kind range (signal ∷ signals) (seen ∷ instant) zero kind kinds is = let e : signal.kind ≡ kind = cc in subst (λ (x : Kind). IsOfKind range x seen) e kinds.0
of_kind range (signal ∷ signals) (seen ∷ instant) (suc k) kind kinds is = of_kind range signals instant k kind kinds.1 is

-- a signal with its kind, which is of a sort
record HasKind (range : Range) (sort : Sort) (signals : List Signal) (instant : Instant) (x : SigId) : Type 0 where
  kind : Kind
  fits : kind_is sort kind ≡ true
  is : IsOfKind range kind (seen_at instant x.0)
  status : status_at (abstraction_of signals instant) x.0 ≡ status_of kind (seen_at instant x.0)

has_kind : (range : Range) (sort : Sort) (signals : List Signal) (instant : Instant) (x : SigId) → AreOfKinds range (map (λ signal. signal.kind) signals) instant
    → operand_is signals (Sig x) sort ≡ true → HasKind range sort signals instant x
has_kind range sort signals instant x kinds fits = by (kind_at signals x) refl where
  by : (found : Option Kind) → kind_at signals x ≡ found → HasKind range sort signals instant x
  by None none = absurd (false≢true (sym (ap (kind_fits sort) none) ∙ fits))
  by (Some k) some = record {
    kind = k;
    fits = sym (ap (kind_fits sort) some) ∙ fits;
    is = of_kind range signals instant x.0 k kinds some;
    status = at range signals instant x.0 kinds ∙ ap (λ found. status_by found (seen_at instant x.0)) some;
  }

where_true_of : (range : Range) (target kx kb : Kind) (sb sx : Seen) → kind_is (sort_of target) kx ≡ true → kind_is Truth kb ≡ true → IsOfKind range kx sx → IsOfKind range kb sb
    → status_of target (seen_where_true sb sx) ≡ where_true (status_of kb sb) (status_of kx sx)
where_true_of range target kx kb None sx fits_x fits_b is_x is_b = refl
where_true_of range target kx kb (Some v) sx fits_x fits_b is_x is_b = by (int_eq v (pos 1)) (truth_of_value kb v) (truth_is range kb v fits_b is_b) where
  by : (b t : Bool) → t ≡ b → status_of target (cond b sx None) ≡ (cond t (status_of kx sx) None)
  by true true e = like range target kx sx fits_x is_x
  by true false e = absurd (false≢true e)
  by false true e = absurd (false≢true (sym e))
  by false false e = refl

constant_of : (range : Range) (target kb : Kind) (sb : Seen) (constant : ℤ) → kind_is Truth kb ≡ true → IsOfKind range kb sb
    → status_of target (seen_where_true sb (Some constant)) ≡ where_true (status_of kb sb) (Some (constant_truth (Some target) constant))
constant_of range target kb None constant fits_b is_b = refl
constant_of range target kb (Some v) constant fits_b is_b = by (int_eq v (pos 1)) (truth_of_value kb v) (truth_is range kb v fits_b is_b) target where
  by : (b t : Bool) → t ≡ b → (k : Kind) → status_of k (cond b (Some constant) None) ≡ (cond t (Some (constant_truth (Some k) constant)) None)
  by true true e Integer = refl
  by true true e Boolean = refl
  by true true e Event = refl
  by true false e k = absurd (false≢true e)
  by false true e k = absurd (false≢true (sym e))
  by false false e k = refl

or_else_of : (range : Range) (target ku kv : Kind) (u v : Seen) → kind_is (sort_of target) ku ≡ true → kind_is (sort_of target) kv ≡ true → IsOfKind range ku u → IsOfKind range kv v
    → status_of target (seen_or_else u v) ≡ or_else (status_of ku u) (status_of kv v)
or_else_of range target ku kv None v fits_u fits_v is_u is_v = like range target kv v fits_v is_v
or_else_of range target ku kv (Some w) v fits_u fits_v is_u is_v = like range target ku (Some w) fits_u is_u

absent_with : (range : Range) (signals : List Signal) (instant : Instant) (operands : List Operand) → AreOfKinds range (map (λ signal. signal.kind) signals) instant
    → AreAbsent instant operands → list_all (is_with (abstraction_of signals instant) false) operands ≡ true
absent_with range signals instant [] kinds absent = refl
absent_with range signals instant (Sig x ∷ operands) kinds absent = and_from (same_truth false (is_present (abstraction_of signals instant) x.0)) (list_all (is_with (abstraction_of signals instant) false) operands)
    (same_if false (is_present (abstraction_of signals instant) x.0) (sym (present_by range signals instant x.0 kinds ∙ ap is_some absent.0)))
    (absent_with range signals instant operands kinds absent.1)
absent_with range signals instant (Const c ∷ operands) kinds absent = absent_with range signals instant operands kinds absent

present_with : (range : Range) (signals : List Signal) (instant : Instant) (operands : List Operand) (values : List ℤ) → AreOfKinds range (map (λ signal. signal.kind) signals) instant
    → HaveValues instant operands values → list_all (is_with (abstraction_of signals instant) true) operands ≡ true
present_with range signals instant [] values kinds have = refl
present_with range signals instant (Sig x ∷ operands) [] kinds have = absurd have
present_with range signals instant (Const c ∷ operands) [] kinds have = absurd have
present_with range signals instant (Sig x ∷ operands) (v ∷ values) kinds have = and_from (same_truth true (is_present (abstraction_of signals instant) x.0)) (list_all (is_with (abstraction_of signals instant) true) operands)
    (same_if true (is_present (abstraction_of signals instant) x.0) (sym (present_by range signals instant x.0 kinds ∙ ap is_some have.0)))
    (present_with range signals instant operands values kinds have.1)
present_with range signals instant (Const c ∷ operands) (v ∷ values) kinds have = present_with range signals instant operands values kinds have.1

-- a truth as a value
abbrev bit : Bool → ℤ
bit true = pos 1
bit false = pos 0

zero_one : pos 0 ≡ pos 1 → ⊥
zero_one e = false≢true (ap (λ w. int_eq w (pos 1)) e)

tells_yes : {P : Type 0} (v : ℤ) → Tells v P → P → int_eq v (pos 1) ≡ true
tells_yes v (inl is) p = one_is v is.1
tells_yes v (inr isnt) p = absurd (isnt.0 p)

tells_no : {P : Type 0} (v : ℤ) → Tells v P → (P → ⊥) → int_eq v (pos 1) ≡ false
tells_no v (inl is) n = absurd (n is.0)
tells_no v (inr isnt) n = ap (λ w. int_eq w (pos 1)) isnt.1

not_bit : (range : Range) (a : Bool) (v : ℤ) → Gives range Negation (bit a ∷ []) v → int_eq v (pos 1) ≡ not a
not_bit range true v tells = tells_no v tells (λ differ. differ refl)
not_bit range false v tells = tells_yes v tells zero_one

and_bits : (range : Range) (a b : Bool) (v : ℤ) → Gives range Conjunction (bit a ∷ bit b ∷ []) v → int_eq v (pos 1) ≡ (a && b)
and_bits range true true v tells = tells_yes v tells (refl, refl)
and_bits range true false v tells = tells_no v tells (λ p. zero_one p.1)
and_bits range false b v tells = tells_no v tells (λ p. zero_one p.0)

or_bits : (range : Range) (a b : Bool) (v : ℤ) → Gives range Disjunction (bit a ∷ bit b ∷ []) v → int_eq v (pos 1) ≡ (a || b)
or_bits range true b v tells = tells_yes v tells (inl refl)
or_bits range false true v tells = tells_yes v tells (inr refl)
or_bits range false false v tells = tells_no v tells (λ p. elim p [ inl e ↦ zero_one e | inr e ↦ zero_one e ])

equal_bits : (range : Range) (a b : Bool) (v : ℤ) → Gives range Equal (bit a ∷ bit b ∷ []) v → int_eq v (pos 1) ≡ same_truth a b
equal_bits range true true v tells = tells_yes v tells refl
equal_bits range true false v tells = tells_no v tells (λ e. zero_one (sym e))
equal_bits range false true v tells = tells_no v tells zero_one
equal_bits range false false v tells = tells_yes v tells refl

differ_bits : (range : Range) (a b : Bool) (v : ℤ) → Gives range NotEqual (bit a ∷ bit b ∷ []) v → int_eq v (pos 1) ≡ not (same_truth a b)
differ_bits range true true v tells = tells_no v tells (λ differ. differ refl)
differ_bits range true false v tells = tells_yes v tells (λ e. zero_one (sym e))
differ_bits range false true v tells = tells_yes v tells zero_one
differ_bits range false false v tells = tells_no v tells (λ differ. differ refl)

value_of : (w : ℤ) → ((w ≡ pos 0) ⊎ (w ≡ pos 1)) → w ≡ bit (int_eq w (pos 1))
value_of w (inl e) = e ∙ sym (ap (λ z. bit (int_eq z (pos 1))) e)
value_of w (inr e) = e ∙ sym (ap (λ z. bit (int_eq z (pos 1))) e)

constant_bit : (c : ℤ) → (int_eq c (pos 0) || int_eq c (pos 1)) ≡ true → (c ≡ pos 0) ⊎ (c ≡ pos 1)
constant_bit c is = by (int_eq c (pos 0)) refl where
  by : (b : Bool) → int_eq c (pos 0) ≡ b → (c ≡ pos 0) ⊎ (c ≡ pos 1)
  by true e = inl ((Decides-int_eq c (pos 0)).0 e)
  by false e = inr ((Decides-int_eq c (pos 1)).0 (sym (ap (λ b. b || int_eq c (pos 1)) e) ∙ is))

pub kind_bit : (range : Range) (kind : Kind) (w : ℤ) → kind_is Truth kind ≡ true → IsValue range kind w → (w ≡ pos 0) ⊎ (w ≡ pos 1)
kind_bit range Integer w fits is = absurd (false≢true fits)
kind_bit range Boolean w fits is = is
kind_bit range Event w fits is = inr is

-- an operand that is a truth: its value, and its truth in the abstract reaction
record IsTruthOf (signals : List Signal) (instant : Instant) (operand : Operand) (w : ℤ) : Type 0 where
  value : w ≡ bit (int_eq w (pos 1))
  truth : operand_truth (abstraction_of signals instant) operand ≡ int_eq w (pos 1)

truth_operand : (range : Range) (signals : List Signal) (instant : Instant) (operand : Operand) (w : ℤ) → AreOfKinds range (map (λ signal. signal.kind) signals) instant
    → operand_is signals operand Truth ≡ true → HaveValues instant (operand ∷ []) (w ∷ []) → IsTruthOf signals instant operand w
truth_operand range signals instant (Sig x) w kinds fits have = by (has_kind range Truth signals instant x kinds fits) where
  by : HasKind range Truth signals instant x → IsTruthOf signals instant (Sig x) w
  by h =
      let is : IsValue range h.kind w = subst (λ seen. IsOfKind range h.kind seen) have.0 h.is in
      record {
        value = value_of w (kind_bit range h.kind w h.fits is);
        truth = ap truth_of_status (h.status ∙ ap (status_of h.kind) have.0) ∙ truth_is range h.kind w h.fits is;
      }
truth_operand range signals instant (Const c) w kinds fits have = record {
  value = value_of w (subst (λ z. (z ≡ pos 0) ⊎ (z ≡ pos 1)) have.0 (constant_bit c fits));
  truth = ap (λ z. int_eq z (pos 1)) have.0;
}

-- operands by a row of one or of two
pub one_operand : (signals : List Signal) (operands : List Operand) (s : Sort) → operands_are signals operands (s ∷ []) ≡ true
    → (a : Operand) × (operands ≡ a ∷ []) × (operand_is signals a s ≡ true)
one_operand signals [] s fits = absurd (false≢true fits)
one_operand signals (a ∷ []) s fits = (a, refl, (and_parts (operand_is signals a s) true fits).0)
one_operand signals (a ∷ b ∷ more) s fits = absurd (false≢true (and_parts (operand_is signals a s) false fits).1)

pub two_operands : (signals : List Signal) (operands : List Operand) (s t : Sort) → operands_are signals operands (s ∷ t ∷ []) ≡ true
    → (a : Operand) × (b : Operand) × (operands ≡ a ∷ b ∷ []) × (operand_is signals a s ≡ true) × (operand_is signals b t ≡ true)
two_operands signals [] s t fits = absurd (false≢true fits)
two_operands signals (a ∷ []) s t fits = absurd (false≢true (and_parts (operand_is signals a s) false fits).1)
two_operands signals (a ∷ b ∷ []) s t fits =
    let parts = and_parts (operand_is signals a s) (operand_is signals b t && true) fits in (a, b, refl, parts.0, (and_parts (operand_is signals b t) true parts.1).0)
two_operands signals (a ∷ b ∷ c ∷ more) s t fits =
    absurd (false≢true (and_parts (operand_is signals b t) false (and_parts (operand_is signals a s) (operand_is signals b t && false) fits).1).1)

pub boolean_row : (target : Kind) (fits : Bool) → ((is_kind target Boolean && fits) || false) ≡ true → (target ≡ Boolean) × (fits ≡ true)
boolean_row Integer fits is = absurd (false≢true is)
boolean_row Boolean fits is = (refl, sym (or-false fits) ∙ is)
boolean_row Event fits is = absurd (false≢true is)

pub handed_row : (signals : List Signal) (target : Kind) (operands : List Operand) → keeps_to_one signals target operands handed_on ≡ true → operands_are signals operands (sort_of target ∷ []) ≡ true
handed_row signals Integer operands is = sym (or-false (operands_are signals operands (AnInteger ∷ []))) ∙ is
handed_row signals Boolean operands is = sym (or-false (operands_are signals operands (Truth ∷ []))) ∙ is
handed_row signals Event operands is = sym (or-false (operands_are signals operands (AnEvent ∷ []))) ∙ is

-- the truth of a value that is handed on
id_met : (range : Range) (signals : List Signal) (instant : Instant) (target : Kind) (a : Operand) (values : List ℤ) (v : ℤ) → AreOfKinds range (map (λ signal. signal.kind) signals) instant
    → operand_is signals a (sort_of target) ≡ true → is_signal a ≡ true → HaveValues instant (a ∷ []) values → Gives range Identity values v
    → truth_of_value target v ≡ operand_truth (abstraction_of signals instant) a
id_met range signals instant target (Const c) values v kinds fits speaks have gives = absurd (false≢true speaks)
id_met range signals instant target (Sig x) [] v kinds fits speaks have gives = absurd gives
id_met range signals instant target (Sig x) (w ∷ u ∷ more) v kinds fits speaks have gives = absurd gives
id_met range signals instant target (Sig x) (w ∷ []) v kinds fits speaks have gives = by (has_kind range (sort_of target) signals instant x kinds fits) where
  by : HasKind range (sort_of target) signals instant x → truth_of_value target v ≡ truth_of_status (status_at (abstraction_of signals instant) x.0)
  by h = ap (truth_of_value target) gives
      ∙ ap truth_of_status (like range target h.kind (Some w) h.fits (subst (λ seen. IsOfKind range h.kind seen) have.0 h.is))
      ∙ sym (ap truth_of_status (h.status ∙ ap (status_of h.kind) have.0))

not_met : (range : Range) (signals : List Signal) (instant : Instant) (a : Operand) (values : List ℤ) (v : ℤ) → AreOfKinds range (map (λ signal. signal.kind) signals) instant
    → operand_is signals a Truth ≡ true → HaveValues instant (a ∷ []) values → Gives range Negation values v
    → int_eq v (pos 1) ≡ not (operand_truth (abstraction_of signals instant) a)
not_met range signals instant a [] v kinds fits have gives = absurd gives
not_met range signals instant a (w ∷ u ∷ more) v kinds fits have gives = absurd gives
not_met range signals instant a (w ∷ []) v kinds fits have gives =
    let t = truth_operand range signals instant a w kinds fits have in
    not_bit range (int_eq w (pos 1)) v (subst (λ z. Gives range Negation (z ∷ []) v) t.value gives) ∙ ap not (sym t.truth)

halves : (instant : Instant) (a b : Operand) (w u : ℤ) → HaveValues instant (a ∷ b ∷ []) (w ∷ u ∷ []) → HaveValues instant (a ∷ []) (w ∷ []) × HaveValues instant (b ∷ []) (u ∷ [])
halves instant (Sig x) b w u have = ((have.0, tt), have.1)
halves instant (Const c) b w u have = ((have.0, tt), have.1)

two_met : (range : Range) (signals : List Signal) (instant : Instant) (function : Function) (F : Bool → Bool → Bool) (a b : Operand) (w u v : ℤ)
    → ((x y : Bool) → Gives range function (bit x ∷ bit y ∷ []) v → int_eq v (pos 1) ≡ F x y) → AreOfKinds range (map (λ signal. signal.kind) signals) instant
    → operand_is signals a Truth ≡ true → operand_is signals b Truth ≡ true → HaveValues instant (a ∷ b ∷ []) (w ∷ u ∷ []) → Gives range function (w ∷ u ∷ []) v
    → int_eq v (pos 1) ≡ F (operand_truth (abstraction_of signals instant) a) (operand_truth (abstraction_of signals instant) b)
two_met range signals instant function F a b w u v bits kinds fits_a fits_b have gives =
    let parts = halves instant a b w u have in
    let of_a = truth_operand range signals instant a w kinds fits_a parts.0 in
    let of_b = truth_operand range signals instant b u kinds fits_b parts.1 in
    bits (int_eq w (pos 1)) (int_eq u (pos 1)) (subst (λ z. Gives range function (z ∷ bit (int_eq u (pos 1)) ∷ []) v) of_a.value (subst (λ z. Gives range function (w ∷ z ∷ []) v) of_b.value gives))
    ∙ ap (λ t. F t (int_eq u (pos 1))) (sym of_a.truth) ∙ ap (λ t. F (operand_truth (abstraction_of signals instant) a) t) (sym of_b.truth)

-- a connective of truths
connective_met : (range : Range) (signals : List Signal) (instant : Instant) (target : Kind) (function : Function) (F : Bool → Bool → Bool) (operands : List Operand) (values : List ℤ) (v : ℤ)
    → ((x y : Bool) → Gives range function (bit x ∷ bit y ∷ []) v → int_eq v (pos 1) ≡ F x y)
    → (Gives range function [] v → ⊥) → ((w : ℤ) → Gives range function (w ∷ []) v → ⊥) → ((w u z : ℤ) (more : List ℤ) → Gives range function (w ∷ u ∷ z ∷ more) v → ⊥)
    → AreOfKinds range (map (λ signal. signal.kind) signals) instant → operands_are signals operands (Truth ∷ Truth ∷ []) ≡ true → HaveValues instant operands values → Gives range function values v
    → (a : Operand) × (b : Operand) × (operands ≡ a ∷ b ∷ []) × (int_eq v (pos 1) ≡ F (operand_truth (abstraction_of signals instant) a) (operand_truth (abstraction_of signals instant) b))
connective_met range signals instant target function F operands [] v bits none one more kinds fits have gives = absurd (none gives)
connective_met range signals instant target function F operands (w ∷ []) v bits none one more kinds fits have gives = absurd (one w gives)
connective_met range signals instant target function F operands (w ∷ u ∷ z ∷ rest) v bits none one more kinds fits have gives = absurd (more w u z rest gives)
connective_met range signals instant target function F operands (w ∷ u ∷ []) v bits none one more kinds fits have gives =
    let two = two_operands signals operands Truth Truth fits in
    (two.0, two.1, two.2, two_met range signals instant function F two.0 two.1 w u v bits kinds two.3 two.4 (subst (λ list. HaveValues instant list (w ∷ u ∷ [])) two.2 have) gives)

-- what is asked of a function's truth
abbrev Met : List Signal → Instant → Kind → FunOp → List Operand → ℤ → Type 0
Met signals instant target op operands v = has_truth (Some (truth_of_value target v)) (function_truth signals (abstraction_of signals instant) op operands) ≡ true

-- from the operands and the equation of truths
met_by : (signals : List Signal) (instant : Instant) (target : Kind) (op : FunOp) (F : Bool → Bool → Bool) (operands : List Operand) (v : ℤ)
    → ((a b : Operand) → function_truth signals (abstraction_of signals instant) op (a ∷ b ∷ []) ≡ Some (F (operand_truth (abstraction_of signals instant) a) (operand_truth (abstraction_of signals instant) b)))
    → target ≡ Boolean
    → (a : Operand) × (b : Operand) × (operands ≡ a ∷ b ∷ []) × (int_eq v (pos 1) ≡ F (operand_truth (abstraction_of signals instant) a) (operand_truth (abstraction_of signals instant) b))
    → Met signals instant target op operands v
met_by signals instant target op F operands v gives kind found =
    subst (λ (k : Kind). Met signals instant k op operands v) (sym kind)
    (subst (λ (list : List Operand). Met signals instant Boolean op list v) (sym found.2)
    (subst (λ t. has_truth (Some (int_eq v (pos 1))) t ≡ true) (sym (gives found.0 found.1))
    (same_if (int_eq v (pos 1)) (F (operand_truth (abstraction_of signals instant) found.0) (operand_truth (abstraction_of signals instant) found.1)) found.3)))

met_open : (signals : List Signal) (instant : Instant) (target : Kind) (op : FunOp) (operands : List Operand) (v : ℤ) → function_truth signals (abstraction_of signals instant) op operands ≡ None → Met signals instant target op operands v
met_open signals instant target op operands v none = ap (has_truth (Some (truth_of_value target v))) none

pub equality_rows : (target : Kind) (first second : Bool) → ((is_kind target Boolean && first) || ((is_kind target Boolean && second) || false)) ≡ true → (target ≡ Boolean) × ((first ≡ true) ⊎ (second ≡ true))
equality_rows Integer first second is = absurd (false≢true is)
equality_rows Boolean true second is = (refl, inl refl)
equality_rows Boolean false second is = (refl, inr (sym (or-false second) ∙ is))
equality_rows Event first second is = absurd (false≢true is)

integer_kind : (kind : Option Kind) → kind_fits AnInteger kind ≡ true → is_integer_kind kind ≡ true
integer_kind None fits = absurd (false≢true fits)
integer_kind (Some Integer) fits = refl
integer_kind (Some Boolean) fits = absurd (false≢true fits)
integer_kind (Some Event) fits = absurd (false≢true fits)

-- operands that are integers, of which one is a signal
integers_compare : (signals : List Signal) (operands : List Operand) → operands_are signals operands (AnInteger ∷ AnInteger ∷ []) ≡ true → list_any is_signal operands ≡ true → list_any (is_integer signals) operands ≡ true
integers_compare signals operands fits speaks = by (two_operands signals operands AnInteger AnInteger fits) where
  one : (a b : Operand) → operand_is signals a AnInteger ≡ true → operand_is signals b AnInteger ≡ true → list_any is_signal (a ∷ b ∷ []) ≡ true → list_any (is_integer signals) (a ∷ b ∷ []) ≡ true
  one (Sig x) b fits_a fits_b some = ap (λ t. t || list_any (is_integer signals) (b ∷ [])) (integer_kind (kind_at signals x) fits_a)
  one (Const c) (Sig y) fits_a fits_b some = ap (λ t. t || false) (integer_kind (kind_at signals y) fits_b)
  one (Const c) (Const d) fits_a fits_b some = absurd (false≢true some)

  by : (a : Operand) × (b : Operand) × (operands ≡ a ∷ b ∷ []) × (operand_is signals a AnInteger ≡ true) × (operand_is signals b AnInteger ≡ true) → list_any (is_integer signals) operands ≡ true
  by two = subst (λ list. list_any (is_integer signals) list ≡ true) (sym two.2) (one two.0 two.1 two.3 two.4 (subst (λ list. list_any is_signal list ≡ true) two.2 speaks))

-- an equation of truths, or a comparison of integers
equality_met : (range : Range) (signals : List Signal) (instant : Instant) (target : Kind) (op : FunOp) (function : Function) (F : Bool → Bool → Bool) (operands : List Operand) (values : List ℤ) (v : ℤ)
    → ((b : Bool) → list_any (is_integer signals) operands ≡ b → function_truth signals (abstraction_of signals instant) op operands ≡ (cond b None (truth_function op (map (operand_truth (abstraction_of signals instant)) operands))))
    → ((x y : Bool) → truth_function op (x ∷ y ∷ []) ≡ Some (F x y))
    → ((x y : Bool) → Gives range function (bit x ∷ bit y ∷ []) v → int_eq v (pos 1) ≡ F x y)
    → (Gives range function [] v → ⊥) → ((w : ℤ) → Gives range function (w ∷ []) v → ⊥) → ((w u z : ℤ) (more : List ℤ) → Gives range function (w ∷ u ∷ z ∷ more) v → ⊥)
    → AreOfKinds range (map (λ signal. signal.kind) signals) instant → keeps_to_one signals target operands equality ≡ true → list_any is_signal operands ≡ true
    → HaveValues instant operands values → Gives range function values v → Met signals instant target op operands v
equality_met range signals instant target op function F operands values v opens gives_two bits none one more kinds fits speaks have gives = by (list_any (is_integer signals) operands) refl (equality_rows target (operands_are signals operands (AnInteger ∷ AnInteger ∷ [])) (operands_are signals operands (Truth ∷ Truth ∷ [])) fits) where
  truths : list_any (is_integer signals) operands ≡ false → target ≡ Boolean → operands_are signals operands (Truth ∷ Truth ∷ []) ≡ true → Met signals instant target op operands v
  truths e kind row =
      let found = connective_met range signals instant target function F operands values v bits none one more kinds row have gives in
      subst (λ (k : Kind). Met signals instant k op operands v) (sym kind)
      (subst (λ t. has_truth (Some (int_eq v (pos 1))) t ≡ true) (sym (opens false e
      ∙ ap (λ list. truth_function op (map (operand_truth (abstraction_of signals instant)) list)) found.2 ∙ gives_two (operand_truth (abstraction_of signals instant) found.0) (operand_truth (abstraction_of signals instant) found.1)))
      (same_if (int_eq v (pos 1)) (F (operand_truth (abstraction_of signals instant) found.0) (operand_truth (abstraction_of signals instant) found.1)) found.3))

  by : (b : Bool) → list_any (is_integer signals) operands ≡ b → (target ≡ Boolean) × ((operands_are signals operands (AnInteger ∷ AnInteger ∷ []) ≡ true) ⊎ (operands_are signals operands (Truth ∷ Truth ∷ []) ≡ true)) → Met signals instant target op operands v
  by true e row = met_open signals instant target op operands v (opens true e)
  by false e (kind, inl integers) = absurd (false≢true (sym e ∙ integers_compare signals operands integers speaks))
  by false e (kind, inr row) = truths e kind row

-- a function's truth is the one that its operands' truths give
pub function_met : (range : Range) (signals : List Signal) (instant : Instant) (target : Kind) (op : FunOp) (operands : List Operand) (values : List ℤ) (v : ℤ) → AreOfKinds range (map (λ signal. signal.kind) signals) instant
    → keeps_to_one signals target operands (function_rows op) ≡ true → list_any is_signal operands ≡ true → HaveValues instant operands values → Gives range (function_of op) values v → Met signals instant target op operands v
function_met range signals instant target Id operands values v kinds fits speaks have gives =
    let found = one_operand signals operands (sort_of target) (handed_row signals target operands fits) in
    subst (λ (list : List Operand). Met signals instant target Id list v) (sym found.1) (same_if (truth_of_value target v) (operand_truth (abstraction_of signals instant) found.0)
    (id_met range signals instant target found.0 values v kinds found.2 (sym (or-false (is_signal found.0)) ∙ subst (λ list. list_any is_signal list ≡ true) found.1 speaks) (subst (λ list. HaveValues instant list values) found.1 have) gives))
function_met range signals instant target Not operands values v kinds fits speaks have gives =
    let row = boolean_row target (operands_are signals operands (Truth ∷ [])) fits in
    let found = one_operand signals operands Truth row.1 in
    subst (λ (k : Kind). Met signals instant k Not operands v) (sym row.0)
    (subst (λ (list : List Operand). Met signals instant Boolean Not list v) (sym found.1) (same_if (int_eq v (pos 1)) (not (operand_truth (abstraction_of signals instant) found.0))
    (not_met range signals instant found.0 values v kinds found.2 (subst (λ list. HaveValues instant list values) found.1 have) gives)))
function_met range signals instant target And operands values v kinds fits speaks have gives =
    let row = boolean_row target (operands_are signals operands (Truth ∷ Truth ∷ [])) fits in
    met_by signals instant target And ◌&&◌ operands v (λ a b. refl) row.0
    (connective_met range signals instant target Conjunction ◌&&◌ operands values v (λ x y. and_bits range x y v) (λ g. g) (λ w g. g) (λ w u z more g. g) kinds row.1 have gives)
function_met range signals instant target Or operands values v kinds fits speaks have gives =
    let row = boolean_row target (operands_are signals operands (Truth ∷ Truth ∷ [])) fits in
    met_by signals instant target Or ◌||◌ operands v (λ a b. refl) row.0
    (connective_met range signals instant target Disjunction ◌||◌ operands values v (λ x y. or_bits range x y v) (λ g. g) (λ w g. g) (λ w u z more g. g) kinds row.1 have gives)
function_met range signals instant target Xor operands values v kinds fits speaks have gives =
    let row = boolean_row target (operands_are signals operands (Truth ∷ Truth ∷ [])) fits in
    met_by signals instant target Xor (λ x y. not (same_truth x y)) operands v (λ a b. refl) row.0
    (connective_met range signals instant target Exclusive (λ x y. not (same_truth x y)) operands values v (λ x y. differ_bits range x y v) (λ g. g) (λ w g. g) (λ w u z more g. g) kinds row.1 have gives)
function_met range signals instant target Eq operands values v kinds fits speaks have gives =
    equality_met range signals instant target Eq Equal same_truth operands values v
    (λ b e. ap (λ c. cond c None (truth_function Eq (map (operand_truth (abstraction_of signals instant)) operands))) e)
    (λ x y. refl) (λ x y. equal_bits range x y v) (λ g. g) (λ w g. g) (λ w u z more g. g) kinds fits speaks have gives
function_met range signals instant target Ne operands values v kinds fits speaks have gives =
    equality_met range signals instant target Ne NotEqual (λ x y. not (same_truth x y)) operands values v
    (λ b e. ap (λ c. cond c None (truth_function Ne (map (operand_truth (abstraction_of signals instant)) operands))) e)
    (λ x y. refl) (λ x y. differ_bits range x y v) (λ g. g) (λ w g. g) (λ w u z more g. g) kinds fits speaks have gives
function_met range signals instant target Neg operands values v kinds fits speaks have gives = refl
function_met range signals instant target Lt operands values v kinds fits speaks have gives = refl
function_met range signals instant target Le operands values v kinds fits speaks have gives = refl
function_met range signals instant target Gt operands values v kinds fits speaks have gives = refl
function_met range signals instant target Ge operands values v kinds fits speaks have gives = refl
function_met range signals instant target Add operands values v kinds fits speaks have gives = refl
function_met range signals instant target Sub operands values v kinds fits speaks have gives = refl
function_met range signals instant target Mul operands values v kinds fits speaks have gives = refl
function_met range signals instant target Div operands values v kinds fits speaks have gives = refl
function_met range signals instant target Mod operands values v kinds fits speaks have gives = refl

-- a target that is there has a kind
pub target_kind : (signals : List Signal) (y : SigId) (form : Form) → target_fits signals (kind_at signals y) form ≡ true → (k : Kind) × (kind_at signals y ≡ Some k) × (defines_well signals k form ≡ true)
target_kind signals y form fits = by (kind_at signals y) refl where
  by : (found : Option Kind) → kind_at signals y ≡ found → (k : Kind) × (kind_at signals y ≡ Some k) × (defines_well signals k form ≡ true)
  by None e = absurd (false≢true (sym (ap (λ k. target_fits signals k form) e) ∙ fits))
  by (Some k) e = (k, e, sym (ap (λ k. target_fits signals k form) e) ∙ fits)

-- what is left of an instant that meets an equation meets it
abstract_meets : (range : Range) (signals : List Signal) (memory : Memory) (instant : Instant) (form : Form) → AreOfKinds range (map (λ signal. signal.kind) signals) instant
    → form_fits signals form ≡ true → list_any is_signal (operands_of form) ≡ true → Meets range memory instant form → meets signals (abstraction_of signals instant) form ≡ true
abstract_meets range signals memory instant (Fun y op operands) kinds fits speaks met = by (seen_at instant y.0) refl (target_kind signals y (Fun y op operands) fits) where
  by : (seen : Seen) → seen_at instant y.0 ≡ seen → (k : Kind) × (kind_at signals y ≡ Some k) × (defines_well signals k (Fun y op operands) ≡ true) → meets signals (abstraction_of signals instant) (Fun y op operands) ≡ true
  by None e target =
      let absent : AreAbsent instant operands = subst (λ seen. IsFunction range (function_of op) instant operands seen) e met in
      and_from (list_all (is_with (abstraction_of signals instant) (is_present (abstraction_of signals instant) y.0)) operands) (has_truth (status_at (abstraction_of signals instant) y.0) (function_truth signals (abstraction_of signals instant) op operands))
      (subst (λ p. list_all (is_with (abstraction_of signals instant) p) operands ≡ true) (sym (present_by range signals instant y.0 kinds ∙ ap is_some e)) (absent_with range signals instant operands kinds absent))
      (subst (λ s. has_truth s (function_truth signals (abstraction_of signals instant) op operands) ≡ true) (sym (at range signals instant y.0 kinds ∙ ap (λ k. status_by k (seen_at instant y.0)) target.1 ∙ ap (status_of target.0) e)) refl)
  by (Some v) e target =
      let present = subst (λ seen. IsFunction range (function_of op) instant operands seen) e met in
      and_from (list_all (is_with (abstraction_of signals instant) (is_present (abstraction_of signals instant) y.0)) operands) (has_truth (status_at (abstraction_of signals instant) y.0) (function_truth signals (abstraction_of signals instant) op operands))
      (subst (λ p. list_all (is_with (abstraction_of signals instant) p) operands ≡ true) (sym (present_by range signals instant y.0 kinds ∙ ap is_some e)) (present_with range signals instant operands present.0 kinds present.1))
      (subst (λ s. has_truth s (function_truth signals (abstraction_of signals instant) op operands) ≡ true) (sym (at range signals instant y.0 kinds ∙ ap (λ k. status_by k (seen_at instant y.0)) target.1 ∙ ap (status_of target.0) e))
      (function_met range signals instant target.0 op operands present.0 v kinds target.2 speaks present.1 present.2))
abstract_meets range signals memory instant (Delay y x initial) kinds fits speaks met =
    same_if (is_present (abstraction_of signals instant) y.0) (is_present (abstraction_of signals instant) x.0)
    (present_by range signals instant y.0 kinds ∙ ap is_some met ∙ kept_seen (seen_at instant x.0) (memory y.0 x.0 initial) ∙ sym (present_by range signals instant x.0 kinds)) where
      kept_seen : (seen : Seen) (v : ℤ) → is_some (seen_where_present seen v) ≡ is_some seen
      kept_seen None v = refl
      kept_seen (Some w) v = refl
abstract_meets range signals memory instant (When y x b) kinds fits speaks met =
    let target = target_kind signals y (When y x b) fits in
    let rows = where_rows signals target.0 (Sig x) (Sig b) target.2 in
    let of_x = has_kind range (sort_of target.0) signals instant x kinds rows.0 in
    let of_b = has_kind range Truth signals instant b kinds rows.1 in
    same_status_if (status_at (abstraction_of signals instant) y.0) (where_true (status_at (abstraction_of signals instant) b.0) (status_at (abstraction_of signals instant) x.0))
    (at range signals instant y.0 kinds ∙ ap (λ k. status_by k (seen_at instant y.0)) target.1 ∙ ap (status_of target.0) met
    ∙ where_true_of range target.0 of_x.kind of_b.kind (seen_at instant b.0) (seen_at instant x.0) of_x.fits of_b.fits of_x.is of_b.is
    ∙ ap (λ s. where_true s (status_of of_x.kind (seen_at instant x.0))) (sym of_b.status) ∙ ap (where_true (status_at (abstraction_of signals instant) b.0)) (sym of_x.status))
abstract_meets range signals memory instant (WhenConst y c b) kinds fits speaks met =
    let target = target_kind signals y (WhenConst y c b) fits in
    let rows = where_rows signals target.0 (Const c) (Sig b) target.2 in
    let of_b = has_kind range Truth signals instant b kinds rows.1 in
    same_status_if (status_at (abstraction_of signals instant) y.0) (where_true (status_at (abstraction_of signals instant) b.0) (Some (constant_truth (kind_at signals y) c)))
    (at range signals instant y.0 kinds ∙ ap (λ k. status_by k (seen_at instant y.0)) target.1 ∙ ap (status_of target.0) met
    ∙ constant_of range target.0 of_b.kind (seen_at instant b.0) c of_b.fits of_b.is
    ∙ ap (λ s. where_true s (Some (constant_truth (Some target.0) c))) (sym of_b.status)
    ∙ ap (λ k. where_true (status_at (abstraction_of signals instant) b.0) (Some (constant_truth k c))) (sym target.1))
abstract_meets range signals memory instant (Default y u v) kinds fits speaks met =
    let target = target_kind signals y (Default y u v) fits in
    let rows = merged_rows signals target.0 (Sig u) (Sig v) target.2 in
    let of_u = has_kind range (sort_of target.0) signals instant u kinds rows.0 in
    let of_v = has_kind range (sort_of target.0) signals instant v kinds rows.1 in
    same_status_if (status_at (abstraction_of signals instant) y.0) (or_else (status_at (abstraction_of signals instant) u.0) (status_at (abstraction_of signals instant) v.0))
    (at range signals instant y.0 kinds ∙ ap (λ k. status_by k (seen_at instant y.0)) target.1 ∙ ap (status_of target.0) met
    ∙ or_else_of range target.0 of_u.kind of_v.kind (seen_at instant u.0) (seen_at instant v.0) of_u.fits of_v.fits of_u.is of_v.is
    ∙ ap (λ s. or_else s (status_of of_v.kind (seen_at instant v.0))) (sym of_u.status) ∙ ap (or_else (status_at (abstraction_of signals instant) u.0)) (sym of_v.status))
abstract_meets range signals memory instant (Sync x y) kinds fits speaks met =
    same_if (is_present (abstraction_of signals instant) x.0) (is_present (abstraction_of signals instant) y.0)
    (present_by range signals instant x.0 kinds ∙ met ∙ sym (present_by range signals instant y.0 kinds))
abstract_meets range signals memory instant (EventOf y x) kinds fits speaks met = by (target_kind signals y (EventOf y x) fits) where
  shown : (k : Kind) (s : Status) (seen : Seen) → is_some s ≡ is_some seen → status_of k (seen_where_present seen (pos 1)) ≡ where_present s true
  shown k None None e = refl
  shown k None (Some v) e = absurd (false≢true e)
  shown k (Some b) None e = absurd (false≢true (sym e))
  shown Integer (Some b) (Some v) e = refl
  shown Boolean (Some b) (Some v) e = refl
  shown Event (Some b) (Some v) e = refl

  by : (k : Kind) × (kind_at signals y ≡ Some k) × (defines_well signals k (EventOf y x) ≡ true) → meets signals (abstraction_of signals instant) (EventOf y x) ≡ true
  by target =
      same_status_if (status_at (abstraction_of signals instant) y.0) (where_present (status_at (abstraction_of signals instant) x.0) true)
      (at range signals instant y.0 kinds ∙ ap (λ k. status_by k (seen_at instant y.0)) target.1 ∙ ap (status_of target.0) met
      ∙ shown target.0 (status_at (abstraction_of signals instant) x.0) (seen_at instant x.0) (present_by range signals instant x.0 kinds))

-- a status is one of its signal's kind
status_fits : (range : Range) (kind : Kind) (seen : Seen) → is_status_of kind (status_of kind seen) ≡ true
status_fits range Integer None = refl
status_fits range Integer (Some v) = refl
status_fits range Boolean seen = refl
status_fits range Event None = refl
status_fits range Event (Some v) = refl

statuses_fit : (range : Range) (signals : List Signal) (instant : Instant) → AreOfKinds range (map (λ signal. signal.kind) signals) instant → are_statuses signals (abstraction_of signals instant) ≡ true
statuses_fit range [] instant kinds = refl
statuses_fit range (signal ∷ signals) [] kinds = absurd kinds
statuses_fit range (signal ∷ signals) (seen ∷ instant) kinds = and_from (is_status_of signal.kind (status_of signal.kind seen)) (are_statuses signals (abstraction_of signals instant)) (status_fits range signal.kind seen) (statuses_fit range signals instant kinds.1)

each_meets : (range : Range) (memory : Memory) (instant : Instant) (equations : List Equation) (k : ℕ) (d : Equation) → k < length equations → AllByRecursion (λ equation. Meets range memory instant equation.form) equations → Meets range memory instant (get_or equations k d).form
each_meets range memory instant [] k d lt all = absurd (omega (arith, lt))
each_meets range memory instant (e ∷ equations) zero d lt all = all.0
each_meets range memory instant (e ∷ equations) (suc k) d lt all = each_meets range memory instant equations k d (omega (arith, lt)) all.1

-- an instant of a kernel is an abstract reaction where the values of integers are left out
pub abstract_instant : (range : Range) (kernel : Kernel) (memory : Memory) (instant : Instant) → IsValid kernel → IsInstant range kernel memory instant → IsReaction kernel (abstraction_of kernel.signals instant)
abstract_instant range kernel memory instant valid is = record {
  kinds = statuses_fit range kernel.signals instant is.kinds;
  equations = λ k d lt. abstract_meets range kernel.signals memory instant (get_or kernel.equations k d).form is.kinds (valid.equations.fit k d lt) (valid.equations.speak k d lt)
      (each_meets range memory instant kernel.equations k d lt is.equations);
}

silent_with : (range : Range) (signals : List Signal) (instant : Instant) → AreOfKinds range (map (λ signal. signal.kind) signals) instant
    → is_silent (abstraction_of signals instant) ≡ is_silent_instant instant
silent_with range [] [] kinds = refl
silent_with range [] (seen ∷ instant) kinds = absurd kinds
silent_with range (signal ∷ signals) [] kinds = absurd kinds
silent_with range (signal ∷ signals) (None ∷ instant) kinds = silent_with range signals instant kinds.1
silent_with range (signal ∷ signals) (Some v ∷ instant) kinds = refl

-- an instant is silent where what is left of it is
pub abstract_silence : (range : Range) (kernel : Kernel) (memory : Memory) (instant : Instant) → IsInstant range kernel memory instant
    → is_silent (abstraction_of kernel.signals instant) ≡ is_silent_instant instant
abstract_silence range kernel memory instant is = silent_with range kernel.signals instant is.kinds

pub abstract_speaks : (range : Range) (kernel : Kernel) (memory : Memory) (instant : Instant) → IsValid kernel → IsInstant range kernel memory instant
    → is_silent_instant instant ≡ false → Speaks kernel (abstraction_of kernel.signals instant)
abstract_speaks range kernel memory instant valid is some = record {
  is = abstract_instant range kernel memory instant valid is;
  some = abstract_silence range kernel memory instant is ∙ some;
}

-- the status of a signal is that of its value
pub abstract_status : (range : Range) (kernel : Kernel) (memory : Memory) (instant : Instant) → IsInstant range kernel memory instant
    → (number : ℕ) (signal : Signal) → slice_get kernel.signals number ≡ Some signal → status_at (abstraction_of kernel.signals instant) number ≡ status_of signal.kind (seen_at instant number)
abstract_status range kernel memory instant is number signal there =
    at range kernel.signals instant number is.kinds ∙ ap (λ owner. status_by (kind_of owner) (seen_at instant number)) there

pub abstract_presence : (range : Range) (kernel : Kernel) (memory : Memory) (instant : Instant) → IsInstant range kernel memory instant
    → (number : ℕ) → is_present (abstraction_of kernel.signals instant) number ≡ is_some (seen_at instant number)
abstract_presence range kernel memory instant is number = present_by range kernel.signals instant number is.kinds
