-- The variables of a step and the fields of its state have the types and the first values that the image asks for, and the helpers that it calls
-- are there.
use Rattle.std.proofs.Common.{◌≡◌, ◌<◌, ◌+◌, ◌-◌, ◌++◌, ◌||◌, inl, inr, ℕ, zero, suc, Bool, true, false, List, [], ◌∷◌, Option, Some, None, refl, sym, ap, ◌∙◌, arith, length, length-append, length-drop, length-take, drop, map, subst, slice_get, if◌then◌else◌}
use Rattle.std.specs.Prelude.{filter, option_map}
use Rattle.std.specs.List.{list_any}
use Rattle.std.proofs.lemmas.Bool.{cases_lt}
use Rattle.std.proofs.lemmas.List.{length-map}
use Rattle.std.proofs.lemmas.Option.{slice_get-map, slice_get_within}
use Rattle.sig_lists.proofs.Joined.{still_at}
use Rattle.sig_lists.proofs.Places.{some_at}
use Rattle.sig_base.specs.declared.ids.Kind.{Kind}
use Rattle.sig_base.specs.declared.ids.Kind.TheVariants.{Boolean}
use Rattle.sig_file.specs.Images.{ImageView, IsImage, MayDo, kind_at, kind_in, memory_at, scope_of}
use Rattle.sig_file.specs.declared.images.ImageMemory.{ImageMemory}
use Rattle.sig_file.specs.declared.images.ImageOp.{ImageOp}
use Rattle.sig_file.specs.declared.images.ImageOpKind.TheVariants as does
use Rattle.sig_file.specs.declared.images.ImageSignal.{ImageSignal}
use Rattle.sig_exec.proofs.KeptKinds.{kind_there, none_is, same_Some}
use Rattle.sig_exec.proofs.Places.{operation_at}
use Rattle.sig_c.specs.SmallC.{Name, Helper, Add, Subtract, Multiply, Quotient, Remainder, Width, Truth, FieldOfState, Prototype, HelperDefinition, Declared, Statements}
use Rattle.sig_c.specs.Calls.{body_in, call_of, functions_in, is_helper, widths_in, width_of_field, width_of_variable}
use Rattle.sig_c.specs.Helpers.{body_of, definition_of}
use Rattle.sig_c.specs.Names.{has_helper}
use Rattle.sig_c_step.specs.Names.{AreNames, Names}
use Rattle.sig_c_step.specs.Translation.{all_helpers, calls_helper, comes, comes_variable, fields_of, header_of, helpers_of, inputs_in, is_called_by, is_left_out, next, next_variables, outputs_in, prototypes_of, taken, signal_variables, unit_of, variables_of, width_of_kind}
use Rattle.sig_c_step.proofs.Lists.{any_at, behind_all, past, within}
use Rattle.sig_c_step.proofs.Operations.{AreWidths, HasPrototype, MayCall}

-- the variable at a place, its type and its first value
pub record IsDeclared (variables : List Declared) (place : ℕ) (width : Width) (first : Option ℕ) : Type 0 where
  pub variable : Declared
  pub is : slice_get variables place ≡ Some variable
  pub width_is : variable.width ≡ width
  pub first_is : variable.first ≡ first

signals_length : (signals : List ImageSignal) (names : List Name) → length names ≡ length signals → length (signal_variables signals names) ≡ length signals
signals_length [] names count = refl
signals_length (signal ∷ signals) [] count = absurd (omega (arith, count))
signals_length (signal ∷ signals) (name ∷ names) count = ap suc (signals_length signals names (omega (arith, count)))

nexts_length : (from : ℕ) (memories : List ImageMemory) (names : List Name) → length names ≡ length memories → length (next_variables from memories names) ≡ length memories
nexts_length from [] names count = refl
nexts_length from (memory ∷ memories) [] count = absurd (omega (arith, count))
nexts_length from (memory ∷ memories) (name ∷ names) count = ap suc (nexts_length (suc from) memories names (omega (arith, count)))

signal_at : (signals : List ImageSignal) (names : List Name) (x : ℕ) (kind : Kind) → length names ≡ length signals → kind_at signals x ≡ Some kind
    → IsDeclared (signal_variables signals names) x (width_of_kind kind) None
signal_at [] names x kind count is = none_is kind is
signal_at (signal ∷ signals) [] x kind count is = absurd (omega (arith, count))
signal_at (signal ∷ signals) (name ∷ names) zero kind count is = record { variable = _; is = refl; width_is = ap width_of_kind (same_Some signal.kind kind is); first_is = refl }
signal_at (signal ∷ signals) (name ∷ names) (suc x) kind count is =
    let it = signal_at signals names x kind (omega (arith, count)) is in
    record { variable = it.variable; is = it.is; width_is = it.width_is; first_is = it.first_is }

next_at : (from : ℕ) (memories : List ImageMemory) (names : List Name) (n : ℕ) (kind : Kind) → length names ≡ length memories → memory_at memories n ≡ Some kind
    → IsDeclared (next_variables from memories names) n (width_of_kind kind) (Some (from + n))
next_at from [] names n kind count is = none_is kind is
next_at from (memory ∷ memories) [] n kind count is = absurd (omega (arith, count))
next_at from (memory ∷ memories) (name ∷ names) zero kind count is =
    let e : from ≡ from + 0 = omega arith in
    record { variable = _; is = refl; width_is = ap width_of_kind (same_Some memory.kind kind is); first_is = ap Some e }
next_at from (memory ∷ memories) (name ∷ names) (suc n) kind count is =
    let it = next_at (suc from) memories names n kind (omega (arith, count)) is in
    let e : suc from + n ≡ from + suc n = omega arith in
    record { variable = it.variable; is = it.is; width_is = it.width_is; first_is = it.first_is ∙ ap Some e }

pub field_at : (memories : List ImageMemory) (names : List Name) (n : ℕ) (kind : Kind) → length names ≡ length memories → memory_at memories n ≡ Some kind
    → (field : FieldOfState) × (slice_get (fields_of memories names) n ≡ Some field) × (field.width ≡ width_of_kind kind)
field_at [] names n kind count is = none_is kind is
field_at (memory ∷ memories) [] n kind count is = absurd (omega (arith, count))
field_at (memory ∷ memories) (name ∷ names) zero kind count is = (record { name = name; width = width_of_kind memory.kind }, refl, ap width_of_kind (same_Some memory.kind kind is))
field_at (memory ∷ memories) (name ∷ names) (suc n) kind count is = field_at memories names n kind (omega (arith, count)) is

module _ (image : ImageView) (names : Names) (are : AreNames image names) where
  pub signal_declared : (x : ℕ) (kind : Kind) → kind_at image.signals x ≡ Some kind → IsDeclared (variables_of image names) x (width_of_kind kind) None
  signal_declared x kind is =
      let it = signal_at image.signals names.signals x kind are.signals is in
      record { variable = it.variable; is = still_at (signal_variables image.signals names.signals) _ x it.variable it.is; width_is = it.width_is; first_is = it.first_is }

  behind_signals : (k : ℕ) → slice_get (variables_of image names) (length image.signals + k) ≡ slice_get (map comes_variable names.comes ++ next_variables 0 image.memories names.nexts) k
  behind_signals k =
      ap (λ (n : ℕ). slice_get (variables_of image names) (n + k)) (sym (signals_length image.signals names.signals are.signals))
      ∙ behind_all (signal_variables image.signals names.signals) (map comes_variable names.comes ++ next_variables 0 image.memories names.nexts) k

  pub output_declared : (y : ℕ) → y < image.outputs → IsDeclared (variables_of image names) (comes image y) Truth None
  output_declared y inside =
      let c = are.comes in
      let (name, at) = some_at names.comes y (omega (arith, inside, c)) in
      record {
        variable = comes_variable name;
        is = behind_signals y ∙ still_at (map comes_variable names.comes) (next_variables 0 image.memories names.nexts) y (comes_variable name)
            (slice_get-map comes_variable names.comes y ∙ ap (option_map comes_variable) at);
        width_is = refl;
        first_is = refl;
      }

  pub memory_declared : (n : ℕ) (kind : Kind) → memory_at image.memories n ≡ Some kind → IsDeclared (variables_of image names) (next image n) (width_of_kind kind) (Some n)
  memory_declared n kind is =
      let it = next_at 0 image.memories names.nexts n kind are.nexts is in
      let e : 0 + n ≡ n = omega arith in
      let count : length (map comes_variable names.comes) ≡ image.outputs = length-map names.comes comes_variable ∙ are.comes in
      record {
        variable = it.variable;
        is = behind_signals (image.outputs + n)
            ∙ ap (λ (k : ℕ). slice_get (map comes_variable names.comes ++ next_variables 0 image.memories names.nexts) (k + n)) (sym count)
            ∙ behind_all (map comes_variable names.comes) (next_variables 0 image.memories names.nexts) n ∙ it.is;
        width_is = it.width_is;
        first_is = it.first_is ∙ ap Some e;
      }

  pub memory_there : (memories : List ImageMemory) (n : ℕ) → n < length memories → (kind : Kind) × (memory_at memories n ≡ Some kind)
  memory_there [] n lt = absurd (omega (arith, lt))
  memory_there (memory ∷ memories) zero lt = (memory.kind, refl)
  memory_there (memory ∷ memories) (suc n) lt = memory_there memories n (omega (arith, lt))

  pub variables_length : length (variables_of image names) ≡ length image.signals + (image.outputs + length image.memories)
  variables_length =
      let one = length-append (signal_variables image.signals names.signals) (map comes_variable names.comes ++ next_variables 0 image.memories names.nexts) in
      let two = length-append (map comes_variable names.comes) (next_variables 0 image.memories names.nexts) in
      let first = signals_length image.signals names.signals are.signals in
      let second : length (map comes_variable names.comes) ≡ image.outputs = length-map names.comes comes_variable ∙ are.comes in
      let third = nexts_length 0 image.memories names.nexts are.nexts in
      omega (arith, one, two, first, second, third)

  -- what a variable is: of a kind, with 0 first or what a memory has
  pub data Variables (variable : Declared) : Type 0 where
    begins_so : (kind : Kind) → variable.width ≡ width_of_kind kind → variable.first ≡ None → Variables variable
    remembers : (n : ℕ) (kind : Kind) → n < length image.memories → memory_at image.memories n ≡ Some kind → variable.width ≡ width_of_kind kind → variable.first ≡ Some n → Variables variable

  pub variables_are : (k : ℕ) (variable : Declared) → slice_get (variables_of image names) k ≡ Some variable → Variables variable
  variables_are k variable at = elim (cases_lt k (length image.signals)) [
    | inl lt ↦
        let (kind, is) = kind_there image.signals k lt in
        let it = signal_declared k kind is in
        let same : variable ≡ it.variable = same_Some variable it.variable (sym at ∙ it.is) in
        begins_so kind (ap (λ (d : Declared). d.width) same ∙ it.width_is) (ap (λ (d : Declared). d.first) same ∙ it.first_is)
    | inr ge ↦ elim (cases_lt k (length image.signals + image.outputs)) [
      | inl lt ↦
          let it = output_declared (k - length image.signals) (omega (arith, ge, lt)) in
          let place : length image.signals + (k - length image.signals) ≡ k = omega (arith, ge) in
          let same : variable ≡ it.variable = same_Some variable it.variable (sym at ∙ ap (slice_get (variables_of image names)) (sym place) ∙ it.is) in
          begins_so Boolean (ap (λ (d : Declared). d.width) same ∙ it.width_is) (ap (λ (d : Declared). d.first) same ∙ it.first_is)
      | inr late ↦
          let inside : k < length (variables_of image names) = slice_get_within (variables_of image names) k variable at in
          let all = variables_length in
          let n : ℕ = k - (length image.signals + image.outputs) in
          let lt : n < length image.memories = omega (arith, inside, all, late) in
          let (kind, is) = memory_there image.memories n lt in
          let it = memory_declared n kind is in
          let place : next image n ≡ k = omega (arith, late) in
          let same : variable ≡ it.variable = same_Some variable it.variable (sym at ∙ ap (slice_get (variables_of image names)) (sym place) ∙ it.is) in
          remembers n kind lt is (ap (λ (d : Declared). d.width) same ∙ it.width_is) (ap (λ (d : Declared). d.first) same ∙ it.first_is)
    ]
  ]

  pub are_widths : AreWidths image (widths_in (header_of image names) (unit_of image names))
  are_widths = record {
    signal = λ x kind is. let it = signal_declared x kind is in ap width_of_variable it.is ∙ it.width_is;
    comes_too = λ y inside. let it = output_declared y inside in ap width_of_variable it.is ∙ it.width_is;
    next_too = λ n kind is. let it = memory_declared n kind is in ap width_of_variable it.is ∙ it.width_is;
    field = λ n kind is. let (field, at, width) = field_at image.memories names.fields n kind are.fields is in ap width_of_field at ∙ width;
  }

-- ---- prototypes

-- their names are those that were given
pub prototype_names : (signals : List ImageSignal) (names : List Name) → length names ≡ length signals → map (λ (prototype : Prototype). prototype.name) (prototypes_of signals names) ≡ names
prototype_names [] [] count = refl
prototype_names [] (name ∷ names) count = absurd (omega (arith, count))
prototype_names (signal ∷ signals) [] count = absurd (omega (arith, count))
prototype_names (signal ∷ signals) (name ∷ names) count = ap (λ (l : List Name). name ∷ l) (prototype_names signals names (omega (arith, count)))

pub prototype_at : (signals : List ImageSignal) (names : List Name) (n : ℕ) (kind : Kind) → length names ≡ length signals → kind_at signals n ≡ Some kind → HasPrototype (prototypes_of signals names) n kind
prototype_at [] names n kind count is = none_is kind is
prototype_at (signal ∷ signals) [] n kind count is = absurd (omega (arith, count))
prototype_at (signal ∷ signals) (name ∷ names) zero kind count is = record { prototype = _; at = refl; takes = ap taken (same_Some signal.kind kind is) }
prototype_at (signal ∷ signals) (name ∷ names) (suc n) kind count is =
    let it = prototype_at signals names n kind (omega (arith, count)) is in
    record { prototype = it.prototype; at = it.at; takes = it.takes }

module _ (image : ImageView) (right : IsImage image) (names : Names) (are : AreNames image names) where
  pub inputs_length : length (inputs_in image) ≡ image.inputs
  inputs_length = let i = right.interface in let t = length-take image.inputs image.signals in omega (arith, i, t)

  pub outputs_length : length (outputs_in image) ≡ image.outputs
  outputs_length =
      let i = right.interface in
      let d = length-drop image.inputs image.signals in
      let t = length-take image.outputs (drop image.inputs image.signals) in
      omega (arith, i, d, t)

  pub input_names : map (λ (prototype : Prototype). prototype.name) (prototypes_of (inputs_in image) names.inputs) ≡ names.inputs
  input_names = prototype_names (inputs_in image) names.inputs (are.inputs ∙ sym inputs_length)

  pub output_names : map (λ (prototype : Prototype). prototype.name) (prototypes_of (outputs_in image) names.outputs) ≡ names.outputs
  output_names = prototype_names (outputs_in image) names.outputs (are.outputs ∙ sym outputs_length)

  pub input_prototype : (x : ℕ) (kind : Kind) → x < image.inputs → kind_at image.signals x ≡ Some kind → HasPrototype (prototypes_of (inputs_in image) names.inputs) x kind
  input_prototype x kind inside is =
      prototype_at (inputs_in image) names.inputs x kind (are.inputs ∙ sym inputs_length) (ap kind_in (within image.inputs image.signals x inside) ∙ is)

  pub output_prototype : (y : ℕ) (kind : Kind) → y < image.outputs → kind_at image.signals (image.inputs + y) ≡ Some kind → HasPrototype (prototypes_of (outputs_in image) names.outputs) y kind
  output_prototype y kind inside is =
      prototype_at (outputs_in image) names.outputs y kind (are.outputs ∙ sym outputs_length)
      (ap kind_in (within image.outputs (drop image.inputs image.signals) y inside ∙ past image.inputs image.signals y) ∙ is)

-- ---- helpers

pub helper_there : (helper : Helper) → (k : ℕ) × (slice_get all_helpers k ≡ Some helper) × (is_helper helper helper ≡ true)
helper_there Add = (0, refl, refl)
helper_there Subtract = (1, refl, refl)
helper_there Multiply = (2, refl, refl)
helper_there Quotient = (3, refl, refl)
helper_there Remainder = (4, refl, refl)

one_body : (a b : Helper) → is_helper a b ≡ true → body_of b ≡ body_of a
one_body Add Add is = refl
one_body Subtract Subtract is = refl
one_body Multiply Multiply is = refl
one_body Quotient Quotient is = refl
one_body Remainder Remainder is = refl
one_body a b is = absurd (let e : false ≡ true = is in cc e)

-- a helper that is kept has its statements
body_kept : (keep : Helper → Bool) (helper : Helper) (helpers : List Helper) (k : ℕ) → slice_get helpers k ≡ Some helper → is_helper helper helper ≡ true → keep helper ≡ true
    → body_in helper (map definition_of (filter keep helpers)) ≡ Some (body_of helper)
body_kept keep helper [] k is self kept = absurd (let e : None ≡ Some helper = is in cc e)
body_kept keep helper (other ∷ others) zero is self kept =
    let same : other ≡ helper = cc is in
    let there : keep other ≡ true = ap keep same ∙ kept in
    let it : is_helper helper other ≡ true = ap (is_helper helper) same ∙ self in
    ap (λ (b : Bool). body_in helper (map definition_of (if b then other ∷ filter keep others else filter keep others))) there
    ∙ ap (λ (b : Bool). if b then Some (body_of other) else body_in helper (map definition_of (filter keep others))) it ∙ ap (λ (h : Helper). Some (body_of h)) same
body_kept keep helper (other ∷ others) (suc k) is self kept = by (keep other) (is_helper helper other) refl (body_kept keep helper others k is self kept)
  where
    by : (b c : Bool) → is_helper helper other ≡ c → body_in helper (map definition_of (filter keep others)) ≡ Some (body_of helper)
        → body_in helper (map definition_of (if b then other ∷ filter keep others else filter keep others)) ≡ Some (body_of helper)
    by false c e later = later
    by true true e later = ap (λ (b : Bool). if b then Some (body_of other) else body_in helper (map definition_of (filter keep others))) e ∙ ap Some (one_body helper other e)
    by true false e later = ap (λ (b : Bool). if b then Some (body_of other) else body_in helper (map definition_of (filter keep others))) e ∙ later

has_body : (helper : Helper) (definitions : List HelperDefinition) (body : Statements) → body_in helper definitions ≡ Some body → has_helper definitions helper ≡ true
has_body helper [] body is = absurd (let e : None ≡ Some body = is in cc e)
has_body helper (definition ∷ others) body is = by (is_helper helper definition.helper) is (has_body helper others body)
  where
    by : (b : Bool) → (if b then Some definition.body else body_in helper others) ≡ Some body → (body_in helper others ≡ Some body → has_helper others helper ≡ true) → b || has_helper others helper ≡ true
    by true found later = refl
    by false found later = later found

-- the helper that an operation calls is there
pub helper_kept : (image : ImageView) (n : ℕ) (op : ImageOp) (helper : Helper) → slice_get image.ops n ≡ Some op → is_left_out op ≡ false → is_called_by helper op.kind ≡ true → has_helper (helpers_of image) helper ≡ true
helper_kept image n op helper at kept calls =
    let (k, is, same) = helper_there helper in
    let asked : calls_helper helper op ≡ true = rw kept (rw calls refl) in
    has_body helper (helpers_of image) (body_of helper) (body_kept (λ other. list_any (calls_helper other) image.ops) helper all_helpers k is same (any_at (calls_helper helper) image.ops n op at asked))

pub may_call : (image : ImageView) → IsImage image → (names : Names) → AreNames image names → (n : ℕ) (op : ImageOp) → slice_get image.ops n ≡ Some op → is_left_out op ≡ false
    → MayCall image (functions_in (header_of image names) (unit_of image names)) op.kind
may_call image right names are n op at kept = record {
  helpers = λ helper calls v w.
      let (k, is, same) = helper_there helper in
      let asked : calls_helper helper op ≡ true = rw kept (rw calls refl) in
      ap (λ (o : Option Statements). call_of o v w) (body_kept (λ other. list_any (calls_helper other) image.ops) helper all_helpers k is same (any_at (calls_helper helper) image.ops n op at asked));
  reads = λ x kind is of.
      let o = (operation_at image right n op at).kind in
      let may : MayDo (scope_of image) (does.Read x) = subst (MayDo (scope_of image)) is o in
      input_prototype image right names are x.0 kind may of;
}
