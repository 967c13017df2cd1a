-- Lemmas on constants and values of flows: they are values of their kinds.
use Rattle.sig_kernel.proofs.Common.{◌≡◌, ◌⊎◌, inl, inr, ◌<◌, ℕ, zero, suc, ℤ, pos, Bool, true, false, ◌&&◌, ◌||◌, ◌++◌, List, [], ◌∷◌, length, map, refl, sym, ap, ◌∙◌, subst, arith, Option, None, Some, Contains, option_to_list, slice_get, slice_index_or, AllByRecursion, list_all, int_eq, false≢true, AllPass-from_list_all, list_all-from_AllPass, Decides-int_eq, fits_by_test, Bounded, Unbounded, Range, Trace, Instant, Seen, IsInteger, IsOfKind, IsValue, AreOfKinds, flow_of, has_64_bits, seen_at, SigId, Span, Kind, Integer, Boolean, Signal, IsTraceIn, last_of, remembered, Row, constant_is, form_fits, handed_on_where, is_kind, keeps_to, keeps_to_one, kept, kind_at, kind_fits, kind_of, operand_is, operands_are, operands_of, rows_of, target_fits, AreFlowsFor, AreWellMade, inputs_of, value_is, Equation, Form, Fun, Delay, When, WhenConst, Default, Sync, Event as EventOf, Operand, Sig, Const, Sort, AnInteger, Truth, AnEvent, Any, Kernel, and_parts, at_element}
use Rattle.sig_base.specs.declared.ids.Kind.TheVariants.{Event}
use Rattle.sig_kernel.proofs.TraceLemmas.{Runs, runs_from_trace}

same_number : (v w : ℤ) (b : Bool) → int_eq v w ≡ b → b ≡ true → v ≡ w
same_number v w true is given = grind (arith, Decides-int_eq v w, is)
same_number v w false is given = absurd (false≢true given)

a_truth : (v : ℤ) (zero one : Bool) → int_eq v (pos 0) ≡ zero → int_eq v (pos 1) ≡ one → zero || one ≡ true → (v ≡ pos 0) ⊎ (v ≡ pos 1)
a_truth v true one is_zero is_one given = inl (same_number v (pos 0) true is_zero refl)
a_truth v false one is_zero is_one given = inr (same_number v (pos 1) one is_one given)

pub value_of : (kind : Kind) (v : ℤ) → value_is kind v ≡ true → IsValue Bounded kind v
value_of Integer v is = (fits_by_test v).0 is
value_of Boolean v is = a_truth v (int_eq v (pos 0)) (int_eq v (pos 1)) refl refl is
value_of Event v is = same_number v (pos 1) (int_eq v (pos 1)) refl is

pub is_value_of : (kind : Kind) (v : ℤ) → IsValue Bounded kind v → value_is kind v ≡ true
is_value_of Integer v is = (fits_by_test v).1 is
is_value_of Boolean v (inl e) = rw e refl
is_value_of Boolean v (inr e) = rw e refl
is_value_of Event v e = rw e refl

either : (a b : Bool) → a || b ≡ true → (a ≡ true) ⊎ (b ≡ true)
either true b given = inl refl
either false b given = inr given

values_of : (kind : Kind) (values : List ℤ) → list_all (value_is kind) values ≡ true → AllByRecursion (IsValue Bounded kind) values
values_of kind [] all = tt
values_of kind (v ∷ values) all =
    let parts = and_parts (value_is kind v) (list_all (value_is kind) values) all in (value_of kind v parts.0, values_of kind values parts.1)

are_values : (kind : Kind) (values : List ℤ) → AllByRecursion (IsValue Bounded kind) values → list_all (value_is kind) values ≡ true
are_values kind [] all = refl
are_values kind (v ∷ values) all = rw (is_value_of kind v all.0) (are_values kind values all.1)

-- the values of flows that fit
pub flow_values : (kernel : Kernel) (flows : List (List ℤ)) → AreFlowsFor kernel flows → (k : ℕ) (input : Signal) → k < length (inputs_of kernel)
    → AllByRecursion (IsValue Bounded (slice_index_or (inputs_of kernel) k input).kind) (slice_index_or flows k [])
flow_values kernel flows fit k input lt =
    let kind : Kind = (slice_index_or (inputs_of kernel) k input).kind in
    values_of kind (slice_index_or flows k []) (list_all-from_AllPass (value_is kind) (slice_index_or flows k []) (fit.kinds k input lt))

pub flows_fit : (kernel : Kernel) (flows : List (List ℤ)) → length flows ≡ length (inputs_of kernel)
    → ((k : ℕ) (input : Signal) → k < length (inputs_of kernel) → AllByRecursion (IsValue Bounded (slice_index_or (inputs_of kernel) k input).kind) (slice_index_or flows k []))
    → AreFlowsFor kernel flows
flows_fit kernel flows count values = record {
  count = count;
  kinds = λ k input lt.
      let kind : Kind = (slice_index_or (inputs_of kernel) k input).kind in
      AllPass-from_list_all (value_is kind) (slice_index_or flows k []) (are_values kind (slice_index_or flows k []) (values k input lt));
}

-- a constant of a sort has 64 bits
small : (v : ℤ) → (v ≡ pos 0) ⊎ (v ≡ pos 1) → has_64_bits v ≡ true
small v (inl e) = rw e refl
small v (inr e) = rw e refl

sorted_constant : (sort : Sort) (constant : ℤ) → constant_is sort constant ≡ true → has_64_bits constant ≡ true
sorted_constant AnInteger constant is = is
sorted_constant Truth constant is = small constant (a_truth constant (int_eq constant (pos 0)) (int_eq constant (pos 1)) refl refl is)
sorted_constant AnEvent constant is = small constant (inr (same_number constant (pos 1) (int_eq constant (pos 1)) refl is))
sorted_constant Any constant is = is

-- an operand that is a constant has 64 bits
abbrev HasFew : Operand → Type 0
HasFew (Sig x) = Unit {0}
HasFew (Const constant) = has_64_bits constant ≡ true

one_few : (signals : List Signal) (operand : Operand) (sort : Sort) → operand_is signals operand sort ≡ true → HasFew operand
one_few signals (Sig x) sort is = tt
one_few signals (Const constant) sort is = sorted_constant sort constant is

all_few : (signals : List Signal) (operands : List Operand) (sorts : List Sort) → operands_are signals operands sorts ≡ true → AllByRecursion HasFew operands
all_few signals [] sorts are = tt
all_few signals (operand ∷ operands) [] are = absurd (false≢true are)
all_few signals (operand ∷ operands) (sort ∷ sorts) are =
    let parts = and_parts (operand_is signals operand sort) (operands_are signals operands sorts) are in
    (one_few signals operand sort parts.0, all_few signals operands sorts parts.1)

-- the row that is kept to
row_few : (signals : List Signal) (kind : Kind) (operands : List Operand) (rows : List Row) → keeps_to_one signals kind operands rows ≡ true → AllByRecursion HasFew operands
row_few signals kind operands [] keeps = absurd (false≢true keeps)
row_few signals kind operands (r ∷ rows) keeps = by (λ others. row_few signals kind operands rows others) (either (keeps_to signals kind operands r) (keeps_to_one signals kind operands rows) keeps) where
  by : (keeps_to_one signals kind operands rows ≡ true → AllByRecursion HasFew operands) → (keeps_to signals kind operands r ≡ true) ⊎ (keeps_to_one signals kind operands rows ≡ true) → AllByRecursion HasFew operands
  by rest (inl one) = all_few signals operands r.operands (and_parts (is_kind kind r.result) (operands_are signals operands r.operands) one).1
  by rest (inr others) = rest others

of_target : (signals : List Signal) (kind : Option Kind) (form : Form) → target_fits signals kind form ≡ true → AllByRecursion HasFew (operands_of form)
of_target signals None form fits = absurd (false≢true fits)
of_target signals (Some kind) form fits = row_few signals kind (operands_of form) (rows_of form) fits

form_few : (signals : List Signal) (form : Form) → form_fits signals form ≡ true → AllByRecursion HasFew (operands_of form)
form_few signals (Sync x y) fits = (tt, (tt, tt))
form_few signals (Fun y op operands) fits = of_target signals (kind_at signals y) (Fun y op operands) fits
form_few signals (Delay y x initial) fits = of_target signals (kind_at signals y) (Delay y x initial) fits
form_few signals (When y x b) fits = of_target signals (kind_at signals y) (When y x b) fits
form_few signals (WhenConst y c b) fits = of_target signals (kind_at signals y) (WhenConst y c b) fits
form_few signals (Default y u v) fits = of_target signals (kind_at signals y) (Default y u v) fits
form_few signals (EventOf y x) fits = of_target signals (kind_at signals y) (EventOf y x) fits

-- what holds of the form of each equation
pub fits_at : (kernel : Kernel) (equation : Equation) → AreWellMade kernel → Contains kernel.equations equation → form_fits kernel.signals equation.form ≡ true
fits_at kernel equation made there = subst (λ (e : Equation). form_fits kernel.signals e.form ≡ true) there.2 (made.fit there.0 equation there.1)

pub few_constants : (kernel : Kernel) (equation : Equation) (constant : ℤ) → AreWellMade kernel → Contains kernel.equations equation
    → Contains (operands_of equation.form) (Const constant) → IsInteger Bounded constant
few_constants kernel equation constant made there among =
    (fits_by_test constant).0 (at_element HasFew (operands_of equation.form) (Const constant) among (form_few kernel.signals equation.form (fits_at kernel equation made there)))

-- the constant that a delay begins with, and the one that is sampled
second_of : (a b : Bool) → (a && (b && true)) || false ≡ true → b ≡ true
second_of true true given = refl
second_of true false given = absurd (false≢true given)
second_of false b given = absurd (false≢true given)

first_of_two : (a b : Bool) → (a && (b && true)) || false ≡ true → a ≡ true
first_of_two true b given = refl
first_of_two false b given = absurd (false≢true given)

kept_constant : (signals : List Signal) (kind : Kind) (x : SigId) (initial : ℤ) → keeps_to_one signals kind (Sig x ∷ Const initial ∷ []) kept ≡ true → value_is kind initial ≡ true
kept_constant signals Integer x initial keeps = second_of (operand_is signals (Sig x) AnInteger) (value_is Integer initial) keeps
kept_constant signals Boolean x initial keeps = second_of (operand_is signals (Sig x) Truth) (value_is Boolean initial) keeps
kept_constant signals Event x initial keeps = absurd (false≢true keeps)

sampled_constant : (signals : List Signal) (kind : Kind) (constant : ℤ) (b : SigId) → keeps_to_one signals kind (Const constant ∷ Sig b ∷ []) handed_on_where ≡ true → value_is kind constant ≡ true
sampled_constant signals Integer constant b keeps = first_of_two (value_is Integer constant) (operand_is signals (Sig b) Truth) keeps
sampled_constant signals Boolean constant b keeps = first_of_two (value_is Boolean constant) (operand_is signals (Sig b) Truth) keeps
sampled_constant signals Event constant b keeps = first_of_two (value_is Event constant) (operand_is signals (Sig b) Truth) keeps

pub initial_value : (kernel : Kernel) (y x : SigId) (initial : ℤ) (at : Span) (kind : Kind) → AreWellMade kernel
    → Contains kernel.equations (record { form = Delay y x initial; at = at }) → kind_at kernel.signals y ≡ Some kind → IsValue Bounded kind initial
initial_value kernel y x initial at kind made there is =
    let fits : target_fits kernel.signals (kind_at kernel.signals y) (Delay y x initial) ≡ true = fits_at kernel (record { form = Delay y x initial; at = at }) made there in
    value_of kind initial (kept_constant kernel.signals kind x initial (subst (λ k. target_fits kernel.signals k (Delay y x initial) ≡ true) is fits))

pub sampled_value : (kernel : Kernel) (y b : SigId) (constant : ℤ) (at : Span) (kind : Kind) → AreWellMade kernel
    → Contains kernel.equations (record { form = WhenConst y constant b; at = at }) → kind_at kernel.signals y ≡ Some kind → IsValue Bounded kind constant
sampled_value kernel y b constant at kind made there is =
    let fits : target_fits kernel.signals (kind_at kernel.signals y) (WhenConst y constant b) ≡ true = fits_at kernel (record { form = WhenConst y constant b; at = at }) made there in
    value_of kind constant (sampled_constant kernel.signals kind constant b (subst (λ k. target_fits kernel.signals k (WhenConst y constant b) ≡ true) is fits))

-- what a delay remembers
wide : (range : Range) (kind : Kind) (v : ℤ) → IsValue Bounded kind v → IsValue range kind v
wide Bounded kind v is = is
wide Unbounded Integer v is = tt
wide Unbounded Boolean v is = is
wide Unbounded Event v is = is

of_kind : (range : Range) (signals : List Signal) (instant : Instant) (k : ℕ) (kind : Kind) → AreOfKinds range (map (λ signal. signal.kind) signals) instant
    → kind_of (slice_get signals k) ≡ Some kind → IsOfKind range kind (seen_at instant k)
of_kind range [] instant k kind kinds is = absurd (let e : None ≡ Some kind = is in cc)
of_kind range (signal ∷ signals) [] k kind kinds is = absurd kinds
of_kind range (signal ∷ signals) (seen ∷ instant) zero kind kinds is = let e : signal.kind ≡ kind = cc in subst (λ (x : Kind). IsOfKind range x seen) e kinds.0
of_kind range (signal ∷ signals) (seen ∷ instant) (suc k) kind kinds is = of_kind range signals instant k kind kinds.1 is

seen_values : (range : Range) (kind : Kind) (seen : Seen) (values : List ℤ) → IsOfKind range kind seen → AllByRecursion (IsValue range kind) values
    → AllByRecursion (IsValue range kind) (option_to_list seen ++ values)
seen_values range kind None values is all = all
seen_values range kind (Some v) values is all = (is, all)

flow_of_kind : (range : Range) (kernel : Kernel) (past trace : Trace) (x : ℕ) (kind : Kind) → kind_of (slice_get kernel.signals x) ≡ Some kind
    → Runs range kernel past trace → AllByRecursion (IsValue range kind) (flow_of x trace)
flow_of_kind range kernel past [] x kind is runs = tt
flow_of_kind range kernel past (instant ∷ trace) x kind is runs =
    seen_values range kind (seen_at instant x) (flow_of x trace) (of_kind range kernel.signals instant x kind runs.0.kinds is) (flow_of_kind range kernel (past ++ instant ∷ []) trace x kind is runs.1)

last_of_kind : (P : ℤ → Type 0) (initial : ℤ) (values : List ℤ) → P initial → AllByRecursion P values → P (last_of initial values)
last_of_kind P initial [] first all = first
last_of_kind P initial (v ∷ values) first all = last_of_kind P v values all.0 all.1

-- a signal that is kept in a signal of a kind
kept_signal : (signals : List Signal) (kind : Kind) (x : SigId) (initial : ℤ) → keeps_to_one signals kind (Sig x ∷ Const initial ∷ []) kept ≡ true
    → (own : Kind) × (kind_at signals x ≡ Some own) × ((range : Range) (v : ℤ) → IsValue range own v → IsValue range kind v)
kept_signal signals kind x initial keeps = by (kind_at signals x) refl kind keeps where
  sorted : (sort : Sort) (found : Option Kind) (b : Bool) → kind_at signals x ≡ found → (kind_fits sort (kind_at signals x) && (b && true)) || false ≡ true → kind_fits sort found ≡ true
  sorted sort found b is keeps = ap (kind_fits sort) (sym is) ∙ first_of_two (kind_fits sort (kind_at signals x)) b keeps

  by : (found : Option Kind) → kind_at signals x ≡ found → (kind : Kind) → keeps_to_one signals kind (Sig x ∷ Const initial ∷ []) kept ≡ true
      → (own : Kind) × (kind_at signals x ≡ Some own) × ((range : Range) (v : ℤ) → IsValue range own v → IsValue range kind v)
  by found is Event keeps = absurd (false≢true keeps)
  by None is Integer keeps = absurd (false≢true (sorted AnInteger None (value_is Integer initial) is keeps))
  by None is Boolean keeps = absurd (false≢true (sorted Truth None (value_is Boolean initial) is keeps))
  by (Some Integer) is Integer keeps = (Integer, is, λ range v value. value)
  by (Some Boolean) is Integer keeps = absurd (false≢true (sorted AnInteger (Some Boolean) (value_is Integer initial) is keeps))
  by (Some Event) is Integer keeps = absurd (false≢true (sorted AnInteger (Some Event) (value_is Integer initial) is keeps))
  by (Some Integer) is Boolean keeps = absurd (false≢true (sorted Truth (Some Integer) (value_is Boolean initial) is keeps))
  by (Some Boolean) is Boolean keeps = (Boolean, is, λ range v value. value)
  by (Some Event) is Boolean keeps = (Event, is, λ range v value. inr value)

pub remembered_value : (range : Range) (kernel : Kernel) (trace : Trace) (y x : SigId) (initial : ℤ) (at : Span) (kind : Kind) → AreWellMade kernel → IsTraceIn range kernel trace
    → Contains kernel.equations (record { form = Delay y x initial; at = at }) → kind_at kernel.signals y ≡ Some kind → IsValue range kind (remembered trace y.0 x.0 initial)
remembered_value range kernel trace y x initial at kind made is there of =
    let fits : target_fits kernel.signals (kind_at kernel.signals y) (Delay y x initial) ≡ true = fits_at kernel (record { form = Delay y x initial; at = at }) made there in
    let own = kept_signal kernel.signals kind x initial (subst (λ k. target_fits kernel.signals k (Delay y x initial) ≡ true) of fits) in
    last_of_kind (IsValue range kind) initial (flow_of x.0 trace) (wide range kind initial (initial_value kernel y x initial at kind made there of))
    (each own.0 own.2 (flow_of x.0 trace) (flow_of_kind range kernel [] trace x.0 own.0 own.1 (runs_from_trace range kernel trace is))) where
      each : (from : Kind) → ((range : Range) (v : ℤ) → IsValue range from v → IsValue range kind v) → (values : List ℤ) → AllByRecursion (IsValue range from) values → AllByRecursion (IsValue range kind) values
      each from goes [] all = tt
      each from goes (v ∷ values) all = (goes range v all.0, each from goes values all.1)
