-- A whole step: an instant that is committed is answered 0, and one that ends the run is answered the number of its row.
use Rattle.std.proofs.Common.{◌≡◌, ◌<◌, ◌≤◌, ◌^◌, Bool, if◌then◌else◌, ◌+◌, ◌++◌, ℕ, zero, suc, ℤ, pos, true, List, [], ◌∷◌, Option, Some, None, refl, sym, ap, subst, ◌∙◌, arith, length, drop, get_or, replicate, slice_get, slice_index_or, flat_map}
use Rattle.std.specs.Prelude.{is_some}
use Rattle.std.proofs.lemmas.Option.{slice_get_within, slice_get-get_or}
use Rattle.sig_base.specs.Traces.{Seen, seen_at}
use Rattle.sig_base.specs.declared.ids.Kind.{Kind}
use Rattle.sig_base.specs.declared.ids.Kind.TheVariants.{Integer, Boolean, Event}
use Rattle.sig_file.specs.Guarded.{IsSoundImage, guards_of}
use Rattle.sig_file.specs.ImageRuns.{State, EndsIn, HandlesAll, cleared, instant_lines}
use Rattle.sig_file.specs.Images.{ImageView, IsImage, kind_at, kind_in}
use Rattle.sig_file.specs.declared.run.ImageCause.{ImageCause}
use Rattle.sig_exec.proofs.KeptKinds.{kind_there, memory_kind, register_kind}
use Rattle.sig_c.specs.SmallC.{Place, Variable, Field, Ignored, Statements, none, Width, Truth, Declared, EndRow}
use Rattle.sig_c.specs.Meaning.{Memory, Outcome, Returned, Undefined, Functions, and_then, answering, is_int, may_hold, run, truth, value}
unfoldable use Rattle.sig_c.specs.Calls.{step_of}
use Rattle.sig_c.specs.Calls.{declare, entered, functions_in, first_value, width_of_variable, widths_in}
use Rattle.sig_c_step.specs.Correct.{IsRowOf, given_line}
use Rattle.sig_c_step.specs.Names.{AreNames, Names}
use Rattle.sig_c_step.specs.Translation.{blocks, comes, ends_of, giving, header_of, ignoring, joined, next, outputs_in, step_in, storing, unit_of, variables_of, width_of_kind}
use Rattle.sig_c_step.proofs.Beginnings.{HasDeclared, MayBegin, declares}
use Rattle.sig_c_step.proofs.Blocks.{operations_end, operations_go}
use Rattle.sig_c_step.proofs.Endings.{MayStore, Shows, given_from, gives, lines_are, stores}
use Rattle.sig_c_step.proofs.Likeness.{IsLike, value_in}
use Rattle.sig_c_step.proofs.Lists.{past, within}
use Rattle.sig_c_step.proofs.Operations.{HasPrototype, run_then}
use Rattle.sig_c_step.proofs.MayBeWritten.{few_rows}
use Rattle.sig_c_step.proofs.StateKinds.{AreKinded, as_many, cleared_kinded, held}
use Rattle.sig_c_step.proofs.Variables.{IsDeclared, Variables, output_prototype, outputs_length, begins_so, remembers, memory_there, variables_are, are_widths, may_call, memory_declared, output_declared, signal_declared}

pub ignores : (call : Functions) (widths : Place → Width) (unread : List Ignored) (after : Statements) (m : Memory) → run call widths (joined (ignoring unread) after) m ≡ run call widths after m
ignores call widths [] after m = refl
ignores call widths (x ∷ unread) after m = ignores call widths unread after m

abbrev absent : Seen
absent = None

none_at : (n x : ℕ) → get_or (replicate n absent) x None ≡ None
none_at zero x = refl
none_at (suc n) zero = refl
none_at (suc n) (suc x) = none_at n x

-- Before a call: the fields have the values of the memories, and the functions of inputs give the flows.
pub record IsReady (image : ImageView) (s : State) (m : Memory) : Type 0 where
  pub kinded : AreKinded image (cleared (guards_of image) s)
  pub fields : (n : ℕ) → n < length image.memories → m.values (Field n) ≡ Some (slice_index_or s.memories n (pos 0))
  pub flows : m.flows ≡ s.flows

-- the value of a memory
memory_value : (image : ImageView) (memories : List ℤ) (n : ℕ) → n < length image.memories → length memories ≡ length image.memories → slice_get memories n ≡ Some (slice_index_or memories n (pos 0))
memory_value image memories n lt count = slice_get-get_or memories n (pos 0) (omega (arith, lt, count))

zero_held : (kind : Kind) → may_hold (width_of_kind kind) (pos 0) ≡ true
zero_held Integer = refl
zero_held Boolean = refl
zero_held Event = refl

module _ (image : ImageView) (right : IsImage image) (sound : IsSoundImage image) (names : Names) (named : AreNames image names) (s : State) (m : Memory) (ready : IsReady image s m) where
  abbrev widths : Place → Width
  widths = widths_in (header_of image names) (unit_of image names)

  abbrev call : Functions
  call = functions_in (header_of image names) (unit_of image names)

  abbrev start : State
  start = cleared (guards_of image) s

  may_begin : (variable : Declared) → Variables image names named variable → MayBegin call widths (step_in image names) (entered m) variable
  may_begin variable (begins_so kind width first) = record {
    first = pos 0;
    is = ap (λ (o : Option ℕ). value widths (first_value o) (entered m)) first;
    holds = ap (λ (w : Width). may_hold w (pos 0)) width ∙ zero_held kind;
  }
  may_begin variable (remembers n kind lt is width first) =
      let v : ℤ = slice_index_or s.memories n (pos 0) in
      record {
        first = v;
        is = ap (λ (o : Option ℕ). value widths (first_value o) (entered m)) first ∙ ready.fields n lt;
        holds = ap (λ (w : Width). may_hold w v) width ∙ held kind v (memory_kind image.memories s.memories n kind v ready.kinded.memories is (memory_value image s.memories n lt ready.kinded.count));
      }

  begun : (after : Memory) × (run call widths (declare 0 (variables_of image names) (step_in image names)) (entered m) ≡ run call widths (step_in image names) after)
      × HasDeclared call widths (step_in image names) 0 (variables_of image names) (entered m) after
  begun = declares call widths (step_in image names) (variables_of image names) 0 (entered m)
      (λ k variable is. let e : 0 + k ≡ k = omega arith in ap (λ (i : ℕ). widths (Variable i)) e ∙ ap width_of_variable is)
      (λ k variable is. may_begin variable (variables_are image names named k variable is))

  -- the first value of a variable
  first_of : (after : Memory) → HasDeclared call widths (step_in image names) 0 (variables_of image names) (entered m) after → (k : ℕ) (width : Width) (first : Option ℕ)
      → IsDeclared (variables_of image names) k width first → after.values (Variable k) ≡ value widths (first_value first) (entered m)
  first_of after it k width first declared =
      let e : k ≡ 0 + k = omega arith in
      ap (λ (i : ℕ). after.values (Variable i)) e ∙ it.declared k declared.variable declared.is ∙ ap (λ (o : Option ℕ). value widths (first_value o) (entered m)) declared.first_is

  like_start : (after : Memory) → HasDeclared call widths (step_in image names) 0 (variables_of image names) (entered m) after → IsLike image (entered m) start after
  like_start after it = record {
    signals = λ x inside.
        let (kind, is) = kind_there image.signals x inside in
        first_of after it x (width_of_kind kind) None (signal_declared image names named x kind is) ∙ ap (λ (o : Option ℤ). Some (value_in o)) (sym (none_at (length image.signals) x));
    outputs = λ y inside.
        first_of after it (comes image y) Truth None (output_declared image names named y inside) ∙ ap (λ (o : Option ℤ). Some (truth (is_some o))) (sym (none_at (length image.signals) (image.inputs + y)));
    memories = λ n inside.
        let (kind, is) = memory_there image names named image.memories n inside in
        first_of after it (next image n) (width_of_kind kind) (Some n) (memory_declared image names named n kind is) ∙ ready.fields n inside;
    fields = it.fields;
    flows = it.flows ∙ ready.flows;
    given = it.given;
  }

  abbrev rest : Statements
  rest = joined (storing image 0 image.memories) (giving image 0 (outputs_in image))

  -- up to the end of the operations
  front : (after : Memory) → run call widths (declare 0 (variables_of image names) (step_in image names)) (entered m) ≡ run call widths (step_in image names) after
      → step_of (header_of image names) (unit_of image names) m ≡ answering (and_then (run call widths (blocks image 1 none 1 image.ops) after) (run call widths rest))
  unfolding step_of
  front after goes = ap answering (goes ∙ ignores call widths names.unread (joined (blocks image 1 none 1 image.ops) rest) after ∙ run_then call widths (blocks image 1 none 1 image.ops) rest after)

  -- the number of a row is an int
  answers_int : (number : ℕ) (row : EndRow) (after : Memory) → slice_get (ends_of image) number ≡ Some row → answering (Returned number after) ≡ Returned number after
  answers_int number row after at =
      let within_ends = slice_get_within (ends_of image) number row at in
      let few = few_rows image image.ops in
      let few_ops : length image.ops ≤ 4096 = right.ops_few in
      let small : number < 2 ^ 15 = omega (arith, within_ends, few, few_ops) in
      let fits : is_int (pos number) ≡ true = grind (arith, small) in
      ap (λ (b : Bool). if b then Returned number after else Undefined) fits

  -- An instant that ends the run: the step answers the number of the row, the fields are as before, and no output was given.
  pub record Declines (because : ImageCause) : Type 0 where
    pub number : ℕ
    pub after : Memory
    pub returns : step_of (header_of image names) (unit_of image names) m ≡ Returned number after
    pub fields : (n : ℕ) → after.values (Field n) ≡ m.values (Field n)
    pub given : after.given ≡ m.given
    pub row : EndRow
    pub at : slice_get (ends_of image) number ≡ Some row
    pub tells : IsRowOf image start row because

  pub declines : (because : ImageCause) → EndsIn (guards_of image) (guards_of image).ops start because → Declines because
  declines because ends =
      let (first, goes, it) = begun in
      let end = operations_end image right sound widths (are_widths image names named) call (may_call image right names named) (entered m) start first because (like_start first it) ready.kinded ends in
      record {
        number = end.number;
        after = end.after;
        returns = front first goes ∙ ap (λ (o : Outcome). answering (and_then o (run call widths rest))) end.returns ∙ answers_int end.number end.row end.after end.at;
        fields = λ n. end.like.fields n;
        given = end.like.given;
        row = end.row;
        at = end.at;
        tells = end.tells;
      }

  -- ---- an instant that is committed

  output_at : (k : ℕ) → k < image.outputs → slice_get image.signals (image.inputs + (0 + k)) ≡ slice_get (outputs_in image) k
  output_at k lt =
      let e : image.inputs + (0 + k) ≡ image.inputs + k = omega arith in
      ap (slice_get image.signals) e ∙ sym (past image.inputs image.signals k) ∙ sym (within image.outputs (drop image.inputs image.signals) k lt)

  -- the variables show the instant
  shows : (t : State) (led : Memory) → IsLike image (entered m) t led → AreKinded image t → (n : Memory) → ((x : ℕ) → n.values (Variable x) ≡ led.values (Variable x))
      → Shows image call widths 0 (outputs_in image) t.registers n
  shows t led like kinded n same = record {
    come = λ k lt.
        let c = outputs_length image right names named in
        let e : 0 + k ≡ k = omega arith in
        same (comes image (0 + k)) ∙ subst (λ (i : ℕ). led.values (Variable (comes image i)) ≡ Some (truth (is_some (seen_at t.registers (image.inputs + i))))) (sym e) (like.outputs k (omega (arith, lt, c)));
    has = λ k lt.
        let c = outputs_length image right names named in
        let i = right.interface in
        same (image.inputs + (0 + k)) ∙ like.signals (image.inputs + (0 + k)) (omega (arith, lt, c, i));
    functions = λ k signal at.
        let c = outputs_length image right names named in
        let lt = slice_get_within (outputs_in image) k signal at in
        let e : 0 + k ≡ k = omega arith in
        subst (λ (i : ℕ). HasPrototype call.outputs i signal.kind) (sym e)
        (output_prototype image right names named k signal.kind (omega (arith, lt, c)) (ap (λ (i : ℕ). kind_at image.signals (image.inputs + i)) (sym e) ∙ ap kind_in (output_at k (omega (arith, lt, c)) ∙ at)));
    holds = λ k signal v at there.
        let c = outputs_length image right names named in
        let lt = slice_get_within (outputs_in image) k signal at in
        let is : kind_at image.signals (image.inputs + (0 + k)) ≡ Some signal.kind = ap kind_in (output_at k (omega (arith, lt, c)) ∙ at) in
        held signal.kind v (register_kind image.signals t.registers (image.inputs + (0 + k)) signal.kind v kinded.registers is there);
    events = λ k signal v at kind there.
        let c = outputs_length image right names named in
        let lt = slice_get_within (outputs_in image) k signal at in
        let is : kind_at image.signals (image.inputs + (0 + k)) ≡ Some Event = ap kind_in (output_at k (omega (arith, lt, c)) ∙ at) ∙ ap Some kind in
        register_kind image.signals t.registers (image.inputs + (0 + k)) Event v kinded.registers is there;
  }

  pub record Commits (t : State) : Type 0 where
    pub after : Memory
    pub returns : step_of (header_of image names) (unit_of image names) m ≡ Returned 0 after
    pub next_ready : IsReady image t after
    pub given : after.given ≡ m.given ++ given_from image t.registers 0 (outputs_in image)
    pub lines : instant_lines image t.registers ≡ flat_map (given_line image) (given_from image t.registers 0 (outputs_in image))

  instant_is : (t : State) → AreKinded image t → instant_lines image t.registers ≡ flat_map (given_line image) (given_from image t.registers 0 (outputs_in image))
  instant_is t kinded =
      lines_are image t.registers (outputs_in image) (drop image.inputs t.registers) 0
      (λ k lt.
      let c = outputs_length image right names named in
      let i = right.interface in
      let r = as_many image t kinded in
      let e : image.inputs + k ≡ image.inputs + (0 + k) = omega arith in
      past image.inputs t.registers k ∙ slice_get-get_or t.registers (image.inputs + k) None (omega (arith, lt, c, i, r)) ∙ ap (λ (j : ℕ). Some (seen_at t.registers j)) e)
      (λ k lt. let c = outputs_length image right names named in output_at k (omega (arith, lt, c)))

  pub commits : (t : State) → HandlesAll (guards_of image) (guards_of image).ops start t → Commits t
  commits t handles =
      let (first, goes, it) = begun in
      let led = operations_go image right sound widths (are_widths image names named) call (may_call image right names named) (entered m) start t first (like_start first it) ready.kinded handles in
      let (stored, kept, has) = stores image call widths image.memories 0 led.after (λ k lt.
      let e : 0 + k ≡ k = omega arith in
      let (kind, is) = memory_there image names named image.memories k lt in
      let v : ℤ = slice_index_or t.memories k (pos 0) in
      subst (MayStore image call widths led.after) (sym e) (record {
        stored = v;
        is = led.like.memories k lt;
        holds = ap (λ (w : Width). may_hold w v) ((are_widths image names named).field k kind is)
            ∙ held kind v (memory_kind image.memories t.memories k kind v led.kinded.memories is (memory_value image t.memories k lt led.kinded.count));
      })) in
      record {
        after = record stored { given = stored.given ++ given_from image t.registers 0 (outputs_in image) };
        returns = front first goes ∙ ap (λ (o : Outcome). answering (and_then o (run call widths rest))) led.goes ∙ ap answering (run_then call widths (storing image 0 image.memories) (giving image 0 (outputs_in image)) led.after
            ∙ ap (λ (o : Outcome). and_then o (run call widths (giving image 0 (outputs_in image)))) kept
            ∙ gives image call widths (outputs_in image) 0 t.registers stored (shows t led.after led.like led.kinded stored has.variables));
        next_ready = record {
          kinded = cleared_kinded image right t led.kinded;
          fields = λ n lt. let e : n ≡ 0 + n = omega arith in
              ap (λ (i : ℕ). stored.values (Field i)) e ∙ has.stored n lt ∙ ap (λ (i : ℕ). led.after.values (Variable (next image i))) (sym e) ∙ led.like.memories n lt;
          flows = has.flows ∙ led.like.flows;
        };
        given = ap (λ (l : List (ℕ × ℤ)). l ++ given_from image t.registers 0 (outputs_in image)) (has.given ∙ led.like.given);
        lines = instant_is t led.kinded;
      }
