-- Forms whose operands have kinds that a row of the table takes.
use Rattle.sig_flat.proofs.Common.{◌≡◌, ◌⊎◌, ◌++◌, ◌||◌, ℤ, pos, Bool, true, false, List, [], ◌∷◌, None, Some, refl, ap, ◌∙◌, inl, inr, false≢true, fits_by_test, Kind, Integer, Boolean, Event, SigId, Signal, Bounded, IsValue, UnOp, NotOf, Neg as NegOf, WhenOf, Clock, Integers, Truths, Alike, AnyThenTruth, accepts, kind_of_result, merged, stored, unary_row, Takes, FunOp, Id, Not, Fun, Delay, WhenConst, EventOf, Operand, Sig, Sort, AnInteger, Truth, AnEvent, Any, Row, row, is_kind, kind_is, kind_fits, constant_is, operand_is, keeps_to, keeps_to_one, function_rows, arithmetic, connective, comparison, equality, handed_on, handed_on_where, merged_rows, target_fits, form_fits, signal_in, unary_form, and_from, or_right}
use Rattle.sig_kernel.specs.declared.equation.FunOp.TheVariants.{Neg}
use Rattle.sig_kernel.specs.declared.equation.Form.TheVariants.{When, Default}
use Rattle.sig_kernel.specs.declared.equation.Operand.TheVariants.{Const}
use Rattle.sig_kernel.specs.Table.{kind_at, kept}

-- an operand of a kind: a signal, or a constant that is a value of the kind
pub data IsOperandOf (signals : List Signal) (kind : Kind) : Bool → Operand → Type 0 where
  of_signal : (x : SigId) → kind_at signals x ≡ Some kind → IsOperandOf signals kind false (Sig x)
  of_constant : (c : ℤ) → IsValue Bounded kind c → IsOperandOf signals kind true (Const c)

-- a signal of the first kind may be defined by what is of the second
abbrev pub takes : Kind → Kind → Bool
takes Integer Integer = true
takes Boolean Boolean = true
takes Boolean Event = true
takes Event Event = true
takes _ _ = false

pub takes_itself : (kind : Kind) → takes kind kind ≡ true
takes_itself Integer = refl
takes_itself _ = refl

pub taken : (wanted given : Kind) → Takes wanted given → takes wanted given ≡ true
taken wanted given (inl same) = ap (takes wanted) same ∙ takes_itself wanted
taken wanted given (inr both) = ap (λ w. takes w given) both.0 ∙ ap (takes Boolean) both.1

takes_integer : (wanted : Kind) → takes wanted Integer ≡ true → wanted ≡ Integer
takes_integer Integer is = refl
takes_integer _ is = absurd (false≢true is)

takes_boolean : (wanted : Kind) → takes wanted Boolean ≡ true → wanted ≡ Boolean
takes_boolean Boolean is = refl
takes_boolean _ is = absurd (false≢true is)

-- the sort of operands whose value a signal of this kind may take
abbrev sort_for : Kind → Sort
sort_for Integer = AnInteger
sort_for Boolean = Truth
sort_for Event = AnEvent

handed : (wanted given : Kind) → takes wanted given ≡ true → kind_is (sort_for wanted) given ≡ true
handed Integer Integer is = refl
handed Boolean Boolean is = refl
handed Boolean Event is = refl
handed Event Event is = refl
handed _ _ is = absurd (false≢true is)

constant_fits : (sort : Sort) (kind : Kind) (c : ℤ) → IsValue Bounded kind c → kind_is sort kind ≡ true → constant_is sort c ≡ true
constant_fits AnInteger Integer c value fits = (fits_by_test c).1 value
constant_fits Any Integer c value fits = (fits_by_test c).1 value
constant_fits Any Boolean c (inl zero) fits = ap (λ x. constant_is Any x) zero
constant_fits Any Boolean c (inr one) fits = ap (λ x. constant_is Any x) one
constant_fits Any Event c one fits = ap (λ x. constant_is Any x) one
constant_fits Truth Boolean c (inl zero) fits = ap (λ x. constant_is Truth x) zero
constant_fits Truth Boolean c (inr one) fits = ap (λ x. constant_is Truth x) one
constant_fits Truth Event c one fits = ap (λ x. constant_is Truth x) one
constant_fits AnEvent Event c one fits = ap (λ x. constant_is AnEvent x) one
constant_fits _ _ c value fits = absurd (false≢true fits)

sort_fits : (signals : List Signal) (kind : Kind) (b : Bool) (o : Operand) (sort : Sort)
    → IsOperandOf signals kind b o → kind_is sort kind ≡ true → operand_is signals o sort ≡ true
sort_fits signals kind _ _ sort (of_signal x is) fits = ap (kind_fits sort) is ∙ fits
sort_fits signals kind _ _ sort (of_constant c value) fits = constant_fits sort kind c value fits

as_signal : (signals : List Signal) (kind : Kind) (o : Operand) → IsOperandOf signals kind false o → IsOperandOf signals kind false (Sig (signal_in o))
as_signal signals kind _ (of_signal x is) = of_signal x is

same_kind : (kind : Kind) → is_kind kind kind ≡ true
same_kind Integer = refl
same_kind _ = refl

keeps_one : (signals : List Signal) (kind : Kind) (o : Operand) (s : Sort) → operand_is signals o s ≡ true
    → keeps_to signals kind (o ∷ []) (row (s ∷ []) kind) ≡ true
keeps_one signals kind o s is = and_from _ _ (same_kind kind) (and_from _ _ is refl)

keeps_two : (signals : List Signal) (kind : Kind) (o p : Operand) (s t : Sort) → operand_is signals o s ≡ true → operand_is signals p t ≡ true
    → keeps_to signals kind (o ∷ p ∷ []) (row (s ∷ t ∷ []) kind) ≡ true
keeps_two signals kind o p s t is also = and_from _ _ (same_kind kind) (and_from _ _ is (and_from _ _ also refl))

-- one of some rows is kept to
kept_by : (signals : List Signal) (kind : Kind) (os : List Operand) (before : List Row) (r : Row) (after : List Row)
    → keeps_to signals kind os r ≡ true → keeps_to_one signals kind os (before ++ r ∷ after) ≡ true
kept_by signals kind os [] r after is = ap (λ b. b || keeps_to_one signals kind os after) is
kept_by signals kind os (first ∷ before) r after is = or_right (keeps_to signals kind os first) _ (kept_by signals kind os before r after is)

-- a value that is handed on, and the row of the kind that takes it
hands_on : (signals : List Signal) (kind : Kind) (o : Operand) → operand_is signals o (sort_for kind) ≡ true → keeps_to_one signals kind (o ∷ []) handed_on ≡ true
hands_on signals Integer o is = kept_by signals Integer (o ∷ []) [] (row (AnInteger ∷ []) Integer) (row (Truth ∷ []) Boolean ∷ row (AnEvent ∷ []) Event ∷ []) (keeps_one signals Integer o AnInteger is)
hands_on signals Boolean o is = kept_by signals Boolean (o ∷ []) (row (AnInteger ∷ []) Integer ∷ []) (row (Truth ∷ []) Boolean) (row (AnEvent ∷ []) Event ∷ []) (keeps_one signals Boolean o Truth is)
hands_on signals Event o is = kept_by signals Event (o ∷ []) (row (AnInteger ∷ []) Integer ∷ row (Truth ∷ []) Boolean ∷ []) (row (AnEvent ∷ []) Event) [] (keeps_one signals Event o AnEvent is)

hands_on_where : (signals : List Signal) (kind : Kind) (o b : Operand) → operand_is signals o (sort_for kind) ≡ true → operand_is signals b Truth ≡ true
    → keeps_to_one signals kind (o ∷ b ∷ []) handed_on_where ≡ true
hands_on_where signals Integer o b is true_is = kept_by signals Integer (o ∷ b ∷ []) [] (row (AnInteger ∷ Truth ∷ []) Integer) (row (Truth ∷ Truth ∷ []) Boolean ∷ row (AnEvent ∷ Truth ∷ []) Event ∷ []) (keeps_two signals Integer o b AnInteger Truth is true_is)
hands_on_where signals Boolean o b is true_is =
    kept_by signals Boolean (o ∷ b ∷ []) (row (AnInteger ∷ Truth ∷ []) Integer ∷ []) (row (Truth ∷ Truth ∷ []) Boolean) (row (AnEvent ∷ Truth ∷ []) Event ∷ []) (keeps_two signals Boolean o b Truth Truth is true_is)
hands_on_where signals Event o b is true_is =
    kept_by signals Event (o ∷ b ∷ []) (row (AnInteger ∷ Truth ∷ []) Integer ∷ row (Truth ∷ Truth ∷ []) Boolean ∷ []) (row (AnEvent ∷ Truth ∷ []) Event) [] (keeps_two signals Event o b AnEvent Truth is true_is)

merges : (signals : List Signal) (kind : Kind) (u v : Operand) → operand_is signals u (sort_for kind) ≡ true → operand_is signals v (sort_for kind) ≡ true
    → keeps_to_one signals kind (u ∷ v ∷ []) merged_rows ≡ true
merges signals Integer u v is also = kept_by signals Integer (u ∷ v ∷ []) [] (row (AnInteger ∷ AnInteger ∷ []) Integer) (row (Truth ∷ Truth ∷ []) Boolean ∷ row (AnEvent ∷ AnEvent ∷ []) Event ∷ []) (keeps_two signals Integer u v AnInteger AnInteger is also)
merges signals Boolean u v is also =
    kept_by signals Boolean (u ∷ v ∷ []) (row (AnInteger ∷ AnInteger ∷ []) Integer ∷ []) (row (Truth ∷ Truth ∷ []) Boolean) (row (AnEvent ∷ AnEvent ∷ []) Event ∷ []) (keeps_two signals Boolean u v Truth Truth is also)
merges signals Event u v is also =
    kept_by signals Event (u ∷ v ∷ []) (row (AnInteger ∷ AnInteger ∷ []) Integer ∷ row (Truth ∷ Truth ∷ []) Boolean ∷ []) (row (AnEvent ∷ AnEvent ∷ []) Event) [] (keeps_two signals Event u v AnEvent AnEvent is also)

-- forms, each where its signal takes the kind of its value
pub id_fits : (signals : List Signal) (y : SigId) (w k : Kind) (x : Operand) (b : Bool) → kind_at signals y ≡ Some w → takes w k ≡ true
    → IsOperandOf signals k b x → form_fits signals (Fun y Id (x ∷ [])) ≡ true
id_fits signals y w k x b is takes_it operand =
    ap (λ o. target_fits signals o (Fun y Id (x ∷ []))) is ∙ hands_on signals w x (sort_fits signals k b x (sort_for w) operand (handed w k takes_it))

pub event_fits : (signals : List Signal) (y : SigId) (w k : Kind) (x : Operand) → kind_at signals y ≡ Some w → takes w Event ≡ true
    → IsOperandOf signals k false x → form_fits signals (EventOf y (signal_in x)) ≡ true
event_fits signals y Integer k x is takes_it operand = absurd (false≢true takes_it)
event_fits signals y Boolean k x is takes_it operand = let o : Operand = Sig (signal_in x) in
    ap (λ kind. target_fits signals kind (EventOf y (signal_in x))) is
    ∙ kept_by signals Boolean (o ∷ []) (row (Any ∷ []) Event ∷ []) (row (Any ∷ []) Boolean) [] (keeps_one signals Boolean o Any (sort_fits signals k false o Any (as_signal signals k x operand) refl))
event_fits signals y Event k x is takes_it operand = let o : Operand = Sig (signal_in x) in
    ap (λ kind. target_fits signals kind (EventOf y (signal_in x))) is
    ∙ kept_by signals Event (o ∷ []) [] (row (Any ∷ []) Event) (row (Any ∷ []) Boolean ∷ []) (keeps_one signals Event o Any (sort_fits signals k false o Any (as_signal signals k x operand) refl))

pub when_fits : (signals : List Signal) (y : SigId) (w k l : Kind) (x b : Operand) → kind_at signals y ≡ Some w → takes w k ≡ true → kind_is Truth l ≡ true
    → IsOperandOf signals k false x → IsOperandOf signals l false b → form_fits signals (When y (signal_in x) (signal_in b)) ≡ true
when_fits signals y w k l x b is takes_it true_it operand held =
    ap (λ kind. target_fits signals kind (When y (signal_in x) (signal_in b))) is
    ∙ hands_on_where signals w (Sig (signal_in x)) (Sig (signal_in b))
    (sort_fits signals k false (Sig (signal_in x)) (sort_for w) (as_signal signals k x operand) (handed w k takes_it))
    (sort_fits signals l false (Sig (signal_in b)) Truth (as_signal signals l b held) true_it)

pub when_const_fits : (signals : List Signal) (y : SigId) (w k l : Kind) (c : ℤ) (b : Operand) → kind_at signals y ≡ Some w → takes w k ≡ true → kind_is Truth l ≡ true
    → IsValue Bounded k c → IsOperandOf signals l false b → form_fits signals (WhenConst y c (signal_in b)) ≡ true
when_const_fits signals y w k l c b is takes_it true_it value held =
    ap (λ kind. target_fits signals kind (WhenConst y c (signal_in b))) is
    ∙ hands_on_where signals w (Const c) (Sig (signal_in b))
    (constant_fits (sort_for w) k c value (handed w k takes_it))
    (sort_fits signals l false (Sig (signal_in b)) Truth (as_signal signals l b held) true_it)

-- what is merged goes into a signal that takes the merged kind
merges_into : (w a b : Kind) → accepts Alike a (Some b) ≡ true → takes w (merged a b) ≡ true → (kind_is (sort_for w) a ≡ true) × (kind_is (sort_for w) b ≡ true)
merges_into Integer Integer Boolean alike is = absurd (false≢true alike)
merges_into Integer Integer Event alike is = absurd (false≢true alike)
merges_into Integer Boolean b alike is = absurd (false≢true is)
merges_into Integer Event Integer alike is = absurd (false≢true alike)
merges_into Integer Event Boolean alike is = absurd (false≢true is)
merges_into Integer Event Event alike is = absurd (false≢true is)
merges_into Boolean Integer b alike is = absurd (false≢true is)
merges_into Boolean Boolean Integer alike is = absurd (false≢true alike)
merges_into Boolean Event Integer alike is = absurd (false≢true alike)
merges_into Event Integer b alike is = absurd (false≢true is)
merges_into Event Boolean b alike is = absurd (false≢true is)
merges_into Event Event Integer alike is = absurd (false≢true alike)
merges_into Event Event Boolean alike is = absurd (false≢true is)
merges_into _ _ _ alike is = (refl, refl)

pub default_fits : (signals : List Signal) (y : SigId) (w a b : Kind) (u v : Operand) → kind_at signals y ≡ Some w
    → accepts Alike a (Some b) ≡ true → takes w (merged a b) ≡ true
    → IsOperandOf signals a false u → IsOperandOf signals b false v → form_fits signals (Default y (signal_in u) (signal_in v)) ≡ true
default_fits signals y w a b u v is alike takes_it first second =
    let sorts = merges_into w a b alike takes_it in
    ap (λ kind. target_fits signals kind (Default y (signal_in u) (signal_in v))) is
    ∙ merges signals w (Sig (signal_in u)) (Sig (signal_in v))
    (sort_fits signals a false (Sig (signal_in u)) (sort_for w) (as_signal signals a u first) sorts.0)
    (sort_fits signals b false (Sig (signal_in v)) (sort_for w) (as_signal signals b v second) sorts.1)

-- the kind of what is kept
stored_sort : (k : Kind) → kind_is (sort_for (stored k)) k ≡ true
stored_sort Integer = refl
stored_sort _ = refl

keeps : (signals : List Signal) (k : Kind) (x : Operand) (init : ℤ) → operand_is signals x (sort_for (stored k)) ≡ true → IsValue Bounded (stored k) init
    → keeps_to_one signals (stored k) (x ∷ Const init ∷ []) kept ≡ true
keeps signals Integer x init is value = kept_by signals Integer (x ∷ Const init ∷ []) [] (row (AnInteger ∷ AnInteger ∷ []) Integer) (row (Truth ∷ Truth ∷ []) Boolean ∷ []) (keeps_two signals Integer x (Const init) AnInteger AnInteger is (constant_fits AnInteger Integer init value refl))
keeps signals _ x init is value =
    kept_by signals Boolean (x ∷ Const init ∷ []) (row (AnInteger ∷ AnInteger ∷ []) Integer ∷ []) (row (Truth ∷ Truth ∷ []) Boolean) [] (keeps_two signals Boolean x (Const init) Truth Truth is (constant_fits Truth Boolean init value refl))

-- only what is kept is of the kind of what is kept
pub takes_stored : (w k : Kind) → takes w (stored k) ≡ true → w ≡ stored k
takes_stored w Integer is = takes_integer w is
takes_stored w _ is = takes_boolean w is

pub delay_fits : (signals : List Signal) (y : SigId) (w k : Kind) (x : Operand) (init : ℤ) → kind_at signals y ≡ Some w → takes w (stored k) ≡ true
    → IsOperandOf signals k false x → IsValue Bounded (stored k) init → form_fits signals (Delay y (signal_in x) init) ≡ true
delay_fits signals y w k x init is takes_it operand value =
    ap (λ kind. target_fits signals kind (Delay y (signal_in x) init)) (is ∙ ap Some (takes_stored w k takes_it))
    ∙ keeps signals k (Sig (signal_in x)) init (sort_fits signals k false (Sig (signal_in x)) (sort_for (stored k)) (as_signal signals k x operand) (stored_sort k)) value

-- functions of two operands
pub integers : (a b : Kind) → accepts Integers a (Some b) ≡ true → (kind_is AnInteger a ≡ true) × (kind_is AnInteger b ≡ true)
integers Integer Integer is = (refl, refl)
integers _ _ is = absurd (false≢true is)

pub truths : (a b : Kind) → accepts Truths a (Some b) ≡ true → (kind_is Truth a ≡ true) × (kind_is Truth b ≡ true)
truths Integer b is = absurd (false≢true is)
truths Boolean Integer is = absurd (false≢true is)
truths Event Integer is = absurd (false≢true is)
truths _ _ is = (refl, refl)

pub alike : (a b : Kind) → accepts Alike a (Some b) ≡ true
    → ((kind_is AnInteger a ≡ true) × (kind_is AnInteger b ≡ true)) ⊎ ((kind_is Truth a ≡ true) × (kind_is Truth b ≡ true))
alike Integer Integer is = inl (refl, refl)
alike Boolean Boolean is = inr (refl, refl)
alike Boolean Event is = inr (refl, refl)
alike Event Boolean is = inr (refl, refl)
alike Event Event is = inr (refl, refl)
alike _ _ is = absurd (false≢true is)

-- two operands, each of a kind
pub record Pair (signals : List Signal) (a b : Kind) (u v : Operand) : Type 0 where
  pub first_constant : Bool
  pub second_constant : Bool
  pub first : IsOperandOf signals a first_constant u
  pub second : IsOperandOf signals b second_constant v

of_sorts : (signals : List Signal) (a b w : Kind) (u v : Operand) (s t : Sort) → Pair signals a b u v → kind_is s a ≡ true → kind_is t b ≡ true
    → keeps_to signals w (u ∷ v ∷ []) (row (s ∷ t ∷ []) w) ≡ true
of_sorts signals a b w u v s t both is also = keeps_two signals w u v s t (sort_fits signals a both.first_constant u s both.first is) (sort_fits signals b both.second_constant v t both.second also)

pub arithmetic_fits : (signals : List Signal) (op : FunOp) (y : SigId) (a b w : Kind) (u v : Operand) → function_rows op ≡ arithmetic
    → kind_at signals y ≡ Some w → takes w Integer ≡ true → accepts Integers a (Some b) ≡ true → Pair signals a b u v
    → form_fits signals (Fun y op (u ∷ v ∷ [])) ≡ true
arithmetic_fits signals op y a b w u v rows is takes_it accepted both = let sorts = integers a b accepted in
    ap (λ kind. target_fits signals kind (Fun y op (u ∷ v ∷ []))) (is ∙ ap Some (takes_integer w takes_it))
    ∙ (ap (keeps_to_one signals Integer (u ∷ v ∷ [])) rows ∙ kept_by signals Integer (u ∷ v ∷ []) [] (row (AnInteger ∷ AnInteger ∷ []) Integer) [] (of_sorts signals a b Integer u v AnInteger AnInteger both sorts.0 sorts.1))

pub comparison_fits : (signals : List Signal) (op : FunOp) (y : SigId) (a b w : Kind) (u v : Operand) → function_rows op ≡ comparison
    → kind_at signals y ≡ Some w → takes w Boolean ≡ true → accepts Integers a (Some b) ≡ true → Pair signals a b u v
    → form_fits signals (Fun y op (u ∷ v ∷ [])) ≡ true
comparison_fits signals op y a b w u v rows is takes_it accepted both = let sorts = integers a b accepted in
    ap (λ kind. target_fits signals kind (Fun y op (u ∷ v ∷ []))) (is ∙ ap Some (takes_boolean w takes_it))
    ∙ (ap (keeps_to_one signals Boolean (u ∷ v ∷ [])) rows ∙ kept_by signals Boolean (u ∷ v ∷ []) [] (row (AnInteger ∷ AnInteger ∷ []) Boolean) [] (of_sorts signals a b Boolean u v AnInteger AnInteger both sorts.0 sorts.1))

pub connective_fits : (signals : List Signal) (op : FunOp) (y : SigId) (a b w : Kind) (u v : Operand) → function_rows op ≡ connective
    → kind_at signals y ≡ Some w → takes w Boolean ≡ true → accepts Truths a (Some b) ≡ true → Pair signals a b u v
    → form_fits signals (Fun y op (u ∷ v ∷ [])) ≡ true
connective_fits signals op y a b w u v rows is takes_it accepted both = let sorts = truths a b accepted in
    ap (λ kind. target_fits signals kind (Fun y op (u ∷ v ∷ []))) (is ∙ ap Some (takes_boolean w takes_it))
    ∙ (ap (keeps_to_one signals Boolean (u ∷ v ∷ [])) rows ∙ kept_by signals Boolean (u ∷ v ∷ []) [] (row (Truth ∷ Truth ∷ []) Boolean) [] (of_sorts signals a b Boolean u v Truth Truth both sorts.0 sorts.1))

equal_sorts : (signals : List Signal) (a b : Kind) (u v : Operand) → Pair signals a b u v
    → ((kind_is AnInteger a ≡ true) × (kind_is AnInteger b ≡ true)) ⊎ ((kind_is Truth a ≡ true) × (kind_is Truth b ≡ true))
    → keeps_to_one signals Boolean (u ∷ v ∷ []) equality ≡ true
equal_sorts signals a b u v both (inl sorts) = kept_by signals Boolean (u ∷ v ∷ []) [] (row (AnInteger ∷ AnInteger ∷ []) Boolean) (row (Truth ∷ Truth ∷ []) Boolean ∷ []) (of_sorts signals a b Boolean u v AnInteger AnInteger both sorts.0 sorts.1)
equal_sorts signals a b u v both (inr sorts) =
    kept_by signals Boolean (u ∷ v ∷ []) (row (AnInteger ∷ AnInteger ∷ []) Boolean ∷ []) (row (Truth ∷ Truth ∷ []) Boolean) [] (of_sorts signals a b Boolean u v Truth Truth both sorts.0 sorts.1)

pub equality_fits : (signals : List Signal) (op : FunOp) (y : SigId) (a b w : Kind) (u v : Operand) → function_rows op ≡ equality
    → kind_at signals y ≡ Some w → takes w Boolean ≡ true → accepts Alike a (Some b) ≡ true → Pair signals a b u v
    → form_fits signals (Fun y op (u ∷ v ∷ [])) ≡ true
equality_fits signals op y a b w u v rows is takes_it accepted both =
    ap (λ kind. target_fits signals kind (Fun y op (u ∷ v ∷ []))) (is ∙ ap Some (takes_boolean w takes_it))
    ∙ (ap (keeps_to_one signals Boolean (u ∷ v ∷ [])) rows ∙ equal_sorts signals a b u v both (alike a b accepted))

-- functions of one
pub not_fits : (signals : List Signal) (y : SigId) (w k : Kind) (x : Operand) (b : Bool) → kind_at signals y ≡ Some w → takes w Boolean ≡ true → kind_is Truth k ≡ true
    → IsOperandOf signals k b x → form_fits signals (Fun y Not (x ∷ [])) ≡ true
not_fits signals y w k x b is takes_it true_it operand =
    ap (λ kind. target_fits signals kind (Fun y Not (x ∷ []))) (is ∙ ap Some (takes_boolean w takes_it))
    ∙ kept_by signals Boolean (x ∷ []) [] (row (Truth ∷ []) Boolean) [] (keeps_one signals Boolean x Truth (sort_fits signals k b x Truth operand true_it))

neg_fits : (signals : List Signal) (y : SigId) (w k : Kind) (x : Operand) (b : Bool) → kind_at signals y ≡ Some w → takes w Integer ≡ true → kind_is AnInteger k ≡ true
    → IsOperandOf signals k b x → form_fits signals (Fun y Neg (x ∷ [])) ≡ true
neg_fits signals y w k x b is takes_it integer operand =
    ap (λ kind. target_fits signals kind (Fun y Neg (x ∷ []))) (is ∙ ap Some (takes_integer w takes_it))
    ∙ kept_by signals Integer (x ∷ []) [] (row (AnInteger ∷ []) Integer) [] (keeps_one signals Integer x AnInteger (sort_fits signals k b x AnInteger operand integer))

one_integer : (k : Kind) → accepts Integers k None ≡ true → kind_is AnInteger k ≡ true
one_integer Integer is = refl
one_integer _ is = absurd (false≢true is)

pub one_truth : (k : Kind) → accepts Truths k None ≡ true → kind_is Truth k ≡ true
one_truth Integer is = absurd (false≢true is)
one_truth _ is = refl

pub unary_fits : (signals : List Signal) (op : UnOp) (y : SigId) (w k : Kind) (x : Operand) → kind_at signals y ≡ Some w
    → takes w (kind_of_result (unary_row op).result k None) ≡ true → accepts (unary_row op).operands k None ≡ true
    → IsOperandOf signals k false x → form_fits signals (unary_form op x y) ≡ true
unary_fits signals NotOf y w k x is takes_it accepted operand = not_fits signals y w k x false is takes_it (one_truth k accepted) operand
unary_fits signals NegOf y w k x is takes_it accepted operand = neg_fits signals y w k x false is takes_it (one_integer k accepted) operand
unary_fits signals WhenOf y w k x is takes_it accepted operand = when_const_fits signals y w Event k (pos 1) x is takes_it (one_truth k accepted) refl operand
unary_fits signals Clock y w k x is takes_it accepted operand = event_fits signals y w k x is takes_it operand

pub second_truth : (a b : Kind) → accepts AnyThenTruth a (Some b) ≡ true → kind_is Truth b ≡ true
second_truth a Integer is = absurd (false≢true is)
second_truth a _ is = refl
