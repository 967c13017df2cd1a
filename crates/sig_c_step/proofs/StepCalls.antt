-- Calls of a step do what the run of the image does.
use Rattle.std.proofs.Common.{◌≡◌, inl, inr, ◌++◌, ℕ, zero, suc, ℤ, pos, List, [], Some, refl, sym, ap, subst, ◌∙◌, arith, length, map, slice_get, slice_index_or, Bool, Option, None, if◌then◌else◌, append_assoc, append-nil, flat_map}
use Rattle.std.proofs.lemmas.Grind.{flat_map-append}
use Rattle.std.proofs.lemmas.List.{length-map}
use Rattle.std.proofs.lemmas.List.Concat.{flat_map-cons}
use Rattle.std.proofs.lemmas.Option.{slice_get-get_or}
use Rattle.sig_base.specs.Traces.{Trace}
use Rattle.sig_base.specs.declared.span.Span.{Span}
use Rattle.sig_file.specs.Guarded.{IsSoundImage, guards_of}
use Rattle.sig_file.specs.ImageRuns.{State, Ends, HandlesAll, IsImageRun, Runs, cleared, instant_lines, opening}
use Rattle.sig_file.specs.Images.{ImageView, IsImage}
use Rattle.sig_file.specs.declared.images.ImageMemory.{ImageMemory}
use Rattle.sig_file.specs.declared.images.ImageOpKind.{ImageOpKind}
use Rattle.sig_file.specs.declared.images.ImageOpKind.TheVariants as does
use Rattle.sig_file.specs.declared.run.ImageCause.{ImageCause}
use Rattle.sig_file.specs.declared.run.ImageCause.TheVariants as cause
use Rattle.sig_file.specs.declared.run.ImageEnd.{ImageEnd}
use Rattle.sig_exec.specs.Running.{AreFlowsOf}
use Rattle.sig_exec.proofs.KeptKinds.{memory_kind, same_Some}
use Rattle.sig_c.specs.SmallC as c
use Rattle.sig_c.specs.SmallC.{EndCause, Done, EndRow, FieldOfState, Header, TranslationUnit, Width}
use Rattle.sig_c.specs.Meaning.{Memory, Outcome, Returned, may_hold}
use Rattle.sig_c.specs.Calls.{Called, Answered, Limit, begun, calls, first_held, go_on, one_more, step_of}
use Rattle.sig_c_step.specs.Correct.{ComesToInC, EndsInC, IsRowOf, Refuses, cause_in_c, given_line}
use Rattle.sig_c_step.specs.Names.{AreNames, Names}
use Rattle.sig_c_step.specs.Translation.{done_row, ends_of, header_of, outputs_in, unit_of}
use Rattle.sig_c_step.proofs.Endings.{given_from}
use Rattle.sig_c_step.proofs.StateKinds.{begun_kinded, held}
use Rattle.sig_c_step.proofs.Steps.{IsReady, commits, declines}
use Rattle.sig_c_step.proofs.Variables.{field_at, memory_there}

-- ---- numbers of ends

-- no operation ends a run by the limit
no_limit : (kind : ImageOpKind) (at : Span) (s : State) → Ends kind at s cause.Limit → ⊥
no_limit (does.Read x) at s (is, e) = let f : cause.Limit ≡ cause.Exhausted x = e in cc f
no_limit (does.Fun y op operands) at s (inl (v, computes, large, e)) = let f : cause.Limit ≡ cause.Overflow at = e in cc f
no_limit (does.Fun y op operands) at s (inr (values, have, zeroed, e)) = let f : cause.Limit ≡ cause.ZeroDivisor at = e in cc f
no_limit kind at s ends = absurd ends

not_done : {B : Type 0} (kind : ImageOpKind) (at : Span) (s : State) (because : ImageCause) → Ends kind at s because → Done ≡ cause_in_c because → B
not_done {B} kind at s (cause.Exhausted x) ends e = absurd (let f : Done ≡ c.Exhausted = e in cc f)
not_done {B} kind at s (cause.Overflow place) ends e = absurd (let f : Done ≡ c.Overflow = e in cc f)
not_done {B} kind at s (cause.ZeroDivisor place) ends e = absurd (let f : Done ≡ c.DivisionByZero = e in cc f)
not_done {B} kind at s cause.Limit ends e = absurd (no_limit kind at s ends)

-- the number of an end is not 0
answers : (image : ImageView) (start : State) (number : ℕ) (after : Memory) (go : Memory → Called) (row : EndRow) (because : ImageCause) → slice_get (ends_of image) number ≡ Some row → IsRowOf image start row because
    → go_on (Returned number after) go ≡ Answered 0 number after
answers image start zero after go row because at tells = not_done tells.op.kind tells.op.at tells.state because tells.ends (ap (λ (r : EndRow). r.cause) (same_Some done_row row at) ∙ tells.cause_is)
answers image start (suc number) after go row because at tells = refl

-- an end that is no limit is a refusal
refused : (unit : TranslationUnit) (image : ImageView) (first : State) (before : Memory) (because : ImageCause) (came : Called) (instants : ℕ) → Refuses unit image first before because came instants
    → EndsInC unit image first before because came instants
refused unit image first before cause.Limit came instants it = absurd (no_limit it.tells.op.kind it.tells.op.at it.tells.state it.tells.ends)
refused unit image first before (cause.Exhausted x) came instants it = it
refused unit image first before (cause.Overflow at) came instants it = it
refused unit image first before (cause.ZeroDivisor at) came instants it = it

-- an instant is committed before
abbrev Follow : ImageView → State → State → Type 0
Follow image s t = HandlesAll (guards_of image) (guards_of image).ops (cleared (guards_of image) s) t

refuses_later : (unit : TranslationUnit) (image : ImageView) (s t : State) (before : Memory) (because : ImageCause) (came : Called) (instants : ℕ) → Follow image s t → Refuses unit image t before because came instants
    → Refuses unit image s before because (one_more came) (suc instants)
refuses_later unit image s t before because came instants handles it = record {
  code = it.code;
  after = it.after;
  answers = ap one_more it.answers;
  last = it.last;
  leads = (t, handles, it.leads);
  row = it.row;
  at = it.at;
  tells = it.tells;
  fields = it.fields;
  outputs = it.outputs;
}

one_later : (unit : TranslationUnit) (image : ImageView) (s t : State) (before : Memory) (because : ImageCause) (came : Called) (instants : ℕ) → Follow image s t → EndsInC unit image t before because came instants
    → EndsInC unit image s before because (one_more came) (suc instants)
one_later unit image s t before cause.Limit came instants handles it = ap one_more it
one_later unit image s t before (cause.Exhausted x) came instants handles it = refuses_later unit image s t before (cause.Exhausted x) came instants handles it
one_later unit image s t before (cause.Overflow at) came instants handles it = refuses_later unit image s t before (cause.Overflow at) came instants handles it
one_later unit image s t before (cause.ZeroDivisor at) came instants handles it = refuses_later unit image s t before (cause.ZeroDivisor at) came instants handles it

-- ---- calls

module _ (image : ImageView) (right : IsImage image) (sound : IsSoundImage image) (names : Names) (named : AreNames image names) where
  abbrev step : Memory → Outcome
  step = step_of (header_of image names) (unit_of image names)

  record ComeTo (limit : ℕ) (s : State) (m : Memory) (committed : Trace) (because : ImageCause) : Type 0 where
    before : Memory
    done : calls (length committed) step m ≡ Limit before
    lines : flat_map (given_line image) m.given ++ flat_map (instant_lines image) committed ≡ flat_map (given_line image) before.given
    ends : EndsInC (unit_of image names) image s before because (calls limit step m) (length committed)

  nothing_more : (m : Memory) → flat_map (given_line image) m.given ++ flat_map (instant_lines image) [] ≡ flat_map (given_line image) m.given
  nothing_more m = append-nil (flat_map (given_line image) m.given)

  no_instant : (limit : ℕ) (s : State) (m : Memory) (committed : Trace) (because : ImageCause) → committed ≡ [] → EndsInC (unit_of image names) image s m because (calls limit step m) 0
      → ComeTo limit s m committed because
  no_instant limit s m committed because empty ends = subst (λ (trace : Trace). ComeTo limit s m trace because) (sym empty) (record {
    before = m;
    done = refl;
    lines = nothing_more m;
    ends = ends;
  })

  runs_are : (limit : ℕ) (s : State) (m : Memory) (committed : Trace) (because : ImageCause) → IsReady image s m → Runs (guards_of image) limit s committed because → ComeTo limit s m committed because
  runs_are zero s m committed because ready (empty, limit) =
      no_instant 0 s m committed because empty (subst (λ (c : ImageCause). EndsInC (unit_of image names) image s m c (Limit m) 0) (sym limit) refl)
  runs_are (suc left) s m committed because ready (inl (empty, ends)) =
      let it = declines image right sound names named s m ready because ends in
      no_instant (suc left) s m committed because empty (refused (unit_of image names) image s m because (calls (suc left) step m) 0 (record {
        code = it.number;
        after = it.after;
        answers = ap (λ (o : Outcome). go_on o (calls left step)) it.returns ∙ answers image (cleared (guards_of image) s) it.number it.after (calls left step) it.row because it.at it.tells;
        last = s;
        leads = refl;
        row = it.row;
        at = it.at;
        tells = it.tells;
        fields = it.fields;
        outputs = it.given;
      }))
  runs_are (suc left) s m committed because ready (inr (t, others, is, handles, runs)) =
      let it = commits image right sound names named s m ready t handles in
      let later = runs_are left t it.after others because it.next_ready runs in
      let given : List (ℕ × ℤ) = given_from image t.registers 0 (outputs_in image) in
      subst (λ (trace : Trace). ComeTo (suc left) s m trace because) (sym is) (record {
        before = later.before;
        done = ap (λ (o : Outcome). go_on o (calls (length others) step)) it.returns ∙ ap one_more later.done;
        lines =
            ap (λ (l : List ℕ). flat_map (given_line image) m.given ++ l) (flat_map-cons (instant_lines image) t.registers others)
            ∙ ap (λ (l : List ℕ). flat_map (given_line image) m.given ++ (l ++ flat_map (instant_lines image) others)) it.lines
            ∙ sym (append_assoc (flat_map (given_line image) m.given) (flat_map (given_line image) given) (flat_map (instant_lines image) others))
            ∙ ap (λ (l : List ℕ). l ++ flat_map (instant_lines image) others) (sym (flat_map-append (given_line image) m.given given) ∙ ap (flat_map (given_line image)) (sym it.given))
            ∙ later.lines;
        ends = subst (λ (o : Outcome). EndsInC (unit_of image names) image s later.before because (go_on o (calls left step)) (suc (length others))) (sym it.returns)
            (one_later (unit_of image names) image s t later.before because (calls left step it.after) (length others) handles later.ends);
      })

  -- before the first call
  begun_ready : (flows : List (List ℤ)) → AreFlowsOf image flows → IsReady image (opening (guards_of image) flows) (begun (header_of image names) (unit_of image names) flows)
  begun_ready flows fit = record {
    kinded = begun_kinded image right flows fit;
    fields = λ n lt.
        let c = length-map image.memories (λ (memory : ImageMemory). memory.init) in
        let (kind, is) = memory_there image names named image.memories n lt in
        let (field, at, width) = field_at image.memories names.fields n kind named.fields is in
        let v : ℤ = slice_index_or (map (λ (memory : ImageMemory). memory.init) image.memories) n (pos 0) in
        let first = slice_get-get_or (map (λ (memory : ImageMemory). memory.init) image.memories) n (pos 0) (omega (arith, lt, c)) in
        ap (λ (f : Option FieldOfState). first_held f (slice_get (map (λ (memory : ImageMemory). memory.init) image.memories) n)) at
        ∙ ap (λ (o : Option ℤ). first_held (Some field) o) first
        ∙ ap (λ (w : Width). if may_hold w v then Some v else None) width
        ∙ ap (λ (b : Bool). if b then Some v else None) (held kind v (memory_kind image.memories (map (λ (memory : ImageMemory). memory.init) image.memories) n kind v (begun_kinded image right flows fit).memories is first));
    flows = refl;
  }

pub steps_run : (image : ImageView) (names : Names) → IsImage image → IsSoundImage image → AreNames image names → (flows : List (List ℤ)) → AreFlowsOf image flows
    → (limit : ℕ) (text : List ℕ) (end : ImageEnd) → IsImageRun image flows limit text end → ComesToInC (header_of image names) (unit_of image names) image flows limit text end
steps_run image names right sound named flows fit limit text end run =
    let it = runs_are image right sound names named limit (opening (guards_of image) flows) (begun (header_of image names) (unit_of image names) flows) run.committed end.cause (begun_ready image right sound names named flows fit) run.runs in
    let step = step_of (header_of image names) (unit_of image names) in
    record {
      before = it.before;
      done = ap (λ (n : ℕ). calls n step (begun (header_of image names) (unit_of image names) flows)) run.instants ∙ it.done;
      lines = run.lines ∙ it.lines;
      ends = subst (λ (n : ℕ). EndsInC (unit_of image names) image (opening (guards_of image) flows) it.before end.cause (calls limit step (begun (header_of image names) (unit_of image names) flows)) n) (sym run.instants) it.ends;
    }
