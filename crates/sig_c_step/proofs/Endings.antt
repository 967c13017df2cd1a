-- The end of a step: the fields have what the memories have next, and the outputs that come are given.
use Rattle.std.proofs.Common.{◌≡◌, ◌<◌, ◌+◌, ◌++◌, ℕ, zero, suc, ℤ, pos, Bool, true, List, [], ◌∷◌, Option, Some, None, refl, sym, ap, subst, ◌∙◌, arith, length, slice_get, if◌then◌else◌, append_assoc, append-nil, flat_map}
use Rattle.std.specs.Prelude.{is_some}
use Rattle.std.proofs.lemmas.Grind.{flat_map-append}
use Rattle.std.proofs.lemmas.List.Concat.{flat_map-cons}
use Rattle.sig_base.specs.Traces.{Instant, Seen, seen_at}
use Rattle.sig_base.specs.declared.ids.Kind.{Kind}
use Rattle.sig_base.specs.declared.ids.Kind.TheVariants.{Integer, Boolean, Event}
use Rattle.sig_file.specs.ImageRuns.{seen_line, seen_lines}
use Rattle.sig_file.specs.Images.{ImageView}
use Rattle.sig_file.specs.declared.images.ImageMemory.{ImageMemory}
use Rattle.sig_file.specs.declared.images.ImageSignal.{ImageSignal}
use Rattle.sig_exec.proofs.KeptKinds.{same_Some}
use Rattle.sig_c.specs.SmallC.{Place, Variable, Field, Get, Give, none, Width, Truth, Wide, Prototype}
use Rattle.sig_c.specs.Meaning.{Memory, Outcome, GoesOn, Returned, Undefined, Functions, and_then, chosen, given_as, given_to, gives as given_by, run_gift, may_hold, run, run_one, set, truth, with_result, with_value}
use Rattle.sig_c_step.specs.Correct.{given_line, line_in}
use Rattle.sig_c_step.specs.Translation.{comes, giving, next, one, storing, taken, value_given, width_of_kind}
use Rattle.sig_c_step.proofs.Likeness.{at_other, at_same, value_in}
use Rattle.sig_c_step.proofs.Operations.{HasPrototype}

-- the outputs of an instant with their values, from the output of this number on
abbrev pub given_one : ℕ → Seen → List (ℕ × ℤ)
given_one y None = []
given_one y (Some v) = (y, v) ∷ []

abbrev pub given_from : ImageView → Instant → ℕ → List ImageSignal → List (ℕ × ℤ)
given_from image registers y [] = []
given_from image registers y (signal ∷ signals) = given_one y (seen_at registers (image.inputs + y)) ++ given_from image registers (suc y) signals

-- ---- the fields

module _ (image : ImageView) (call : Functions) (widths : Place → Width) where
  pub record HasStored (n : ℕ) (memories : List ImageMemory) (m after : Memory) : Type 0 where
    pub stored : (k : ℕ) → k < length memories → after.values (Field (n + k)) ≡ m.values (Variable (next image (n + k)))
    pub earlier : (k : ℕ) → k < n → after.values (Field k) ≡ m.values (Field k)
    pub variables : (x : ℕ) → after.values (Variable x) ≡ m.values (Variable x)
    pub flows : after.flows ≡ m.flows
    pub given : after.given ≡ m.given

  pub record MayStore (m : Memory) (n : ℕ) : Type 0 where
    pub stored : ℤ
    pub is : m.values (Variable (next image n)) ≡ Some stored
    pub holds : may_hold (widths (Field n)) stored ≡ true

  field_at : (n : ℕ) (memory : ImageMemory) (memories : List ImageMemory) (m after : Memory) (v : ℤ) → m.values (Variable (next image n)) ≡ Some v
      → HasStored (suc n) memories (with_value (Field n) v m) after → (k : ℕ) → k < length (memory ∷ memories) → after.values (Field (n + k)) ≡ m.values (Variable (next image (n + k)))
  field_at n memory memories m after v is it zero lt =
      let here : n + 0 ≡ n = omega arith in
      ap (λ (i : ℕ). after.values (Field i)) here ∙ it.earlier n (omega arith) ∙ at_same n n v (m.values (Field n)) refl ∙ sym is ∙ ap (λ (i : ℕ). m.values (Variable (next image i))) (sym here)
  field_at n memory memories m after v is it (suc k) lt =
      let e : n + suc k ≡ suc n + k = omega arith in
      ap (λ (i : ℕ). after.values (Field i)) e ∙ it.stored k (omega (arith, lt)) ∙ ap (λ (i : ℕ). m.values (Variable (next image i))) (sym e)

  pub stores : (memories : List ImageMemory) (n : ℕ) (m : Memory) → ((k : ℕ) → k < length memories → MayStore m (n + k))
      → (after : Memory) × (run call widths (storing image n memories) m ≡ GoesOn after) × HasStored n memories m after
  stores [] n m may = (m, refl, record { stored = λ k lt. absurd (omega (arith, lt)); earlier = λ k lt. refl; variables = λ x. refl; flows = refl; given = refl })
  stores (memory ∷ memories) n m may =
      let here : n + 0 ≡ n = omega arith in
      let first : MayStore m n = subst (MayStore m) here (may 0 (omega arith)) in
      let second : Memory = with_value (Field n) first.stored m in
      let (after, goes, it) = stores memories (suc n) second
      (λ k lt. let e : n + suc k ≡ suc n + k = omega arith in let its : MayStore m (suc n + k) = subst (MayStore m) e (may (suc k) (omega (arith, lt))) in record { stored = its.stored; is = its.is; holds = its.holds }) in (
        after,
        ap (λ (o : Option ℤ). and_then (with_result o (set widths (Field n) m)) (run call widths (storing image (suc n) memories))) first.is
            ∙ ap (λ (b : Bool). and_then (if b then GoesOn second else Undefined) (run call widths (storing image (suc n) memories))) first.holds
            ∙ goes,
        record {
          stored = field_at n memory memories m after first.stored first.is it;
          earlier = λ k lt. it.earlier k (omega (arith, lt)) ∙ at_other k n first.stored (m.values (Field k)) (λ e. omega (arith, lt, e));
          variables = it.variables;
          flows = it.flows;
          given = it.given;
        },
      )

  -- ---- the outputs

  -- the variables of the outputs have what the instant has
  pub record Shows (y : ℕ) (signals : List ImageSignal) (registers : Instant) (m : Memory) : Type 0 where
    pub come : (k : ℕ) → k < length signals → m.values (Variable (comes image (y + k))) ≡ Some (truth (is_some (seen_at registers (image.inputs + (y + k)))))
    pub has : (k : ℕ) → k < length signals → m.values (Variable (image.inputs + (y + k))) ≡ Some (value_in (seen_at registers (image.inputs + (y + k))))
    pub functions : (k : ℕ) (signal : ImageSignal) → slice_get signals k ≡ Some signal → HasPrototype call.outputs (y + k) signal.kind
    pub holds : (k : ℕ) (signal : ImageSignal) (v : ℤ) → slice_get signals k ≡ Some signal → seen_at registers (image.inputs + (y + k)) ≡ Some v → may_hold (width_of_kind signal.kind) v ≡ true
    pub events : (k : ℕ) (signal : ImageSignal) (v : ℤ) → slice_get signals k ≡ Some signal → signal.kind ≡ Event → seen_at registers (image.inputs + (y + k)) ≡ Some v → v ≡ pos 1

  shows_later : (y : ℕ) (signal : ImageSignal) (signals : List ImageSignal) (registers : Instant) (m n : Memory) → ((x : ℕ) → n.values (Variable x) ≡ m.values (Variable x))
      → Shows y (signal ∷ signals) registers m → Shows (suc y) signals registers n
  shows_later y signal signals registers m n same shows = record {
    come = λ k lt. let e : suc y + k ≡ y + suc k = omega arith in
        subst (λ (i : ℕ). n.values (Variable (comes image i)) ≡ Some (truth (is_some (seen_at registers (image.inputs + i))))) (sym e)
        (same (comes image (y + suc k)) ∙ shows.come (suc k) (omega (arith, lt)));
    has = λ k lt. let e : suc y + k ≡ y + suc k = omega arith in
        subst (λ (i : ℕ). n.values (Variable (image.inputs + i)) ≡ Some (value_in (seen_at registers (image.inputs + i)))) (sym e)
        (same (image.inputs + (y + suc k)) ∙ shows.has (suc k) (omega (arith, lt)));
    functions = λ k other is. let e : suc y + k ≡ y + suc k = omega arith in
        subst (λ (i : ℕ). HasPrototype call.outputs i other.kind) (sym e) (shows.functions (suc k) other is);
    holds = λ k other v is there. let e : suc y + k ≡ y + suc k = omega arith in
        shows.holds (suc k) other v is (ap (λ (i : ℕ). seen_at registers (image.inputs + i)) (sym e) ∙ there);
    events = λ k other v is kind there. let e : suc y + k ≡ y + suc k = omega arith in
        shows.events (suc k) other v is kind (ap (λ (i : ℕ). seen_at registers (image.inputs + i)) (sym e) ∙ there);
  }

  -- one output that comes is given
  passes : (y : ℕ) (width : Width) (v : ℤ) (m : Memory) → m.values (Variable (image.inputs + y)) ≡ Some v → may_hold width v ≡ true
      → given_by widths y m (Some width) (Some (Get (Variable (image.inputs + y)))) ≡ GoesOn (record m { given = m.given ++ (y, v) ∷ [] })
  passes y width v m is holds = ap (λ (o : Option ℤ). with_result o (given_as width y m)) is ∙ ap (λ (b : Bool). if b then given_to y m v else Undefined) holds

  passes_so : (y : ℕ) (kind : Kind) (v : ℤ) (m : Memory) → m.values (Variable (image.inputs + y)) ≡ Some v → may_hold (width_of_kind kind) v ≡ true → (kind ≡ Event → v ≡ pos 1)
      → given_by widths y m (taken kind) (value_given (image.inputs + y) kind) ≡ GoesOn (record m { given = m.given ++ (y, v) ∷ [] })
  passes_so y Integer v m is holds event = passes y Wide v m is holds
  passes_so y Boolean v m is holds event = passes y Truth v m is holds
  passes_so y Event v m is holds event = ap (λ (w : ℤ). GoesOn (record m { given = m.given ++ (y, w) ∷ [] })) (sym (event refl))

  gives_one : (y : ℕ) (kind : Kind) (v : ℤ) (m : Memory) → HasPrototype call.outputs y kind → m.values (Variable (image.inputs + y)) ≡ Some v → may_hold (width_of_kind kind) v ≡ true → (kind ≡ Event → v ≡ pos 1)
      → run_one call widths (Give y (value_given (image.inputs + y) kind)) m ≡ GoesOn (record m { given = m.given ++ (y, v) ∷ [] })
  gives_one y kind v m has is holds event =
      ap (λ (p : Option Prototype). run_gift widths y m p (value_given (image.inputs + y) kind)) has.at
      ∙ ap (λ (t : Option Width). given_by widths y m t (value_given (image.inputs + y) kind)) has.takes ∙ passes_so y kind v m is holds event

  pub gives : (signals : List ImageSignal) (y : ℕ) (registers : Instant) (m : Memory) → Shows y signals registers m
      → run call widths (giving image y signals) m ≡ Returned 0 (record m { given = m.given ++ given_from image registers y signals })
  gives [] y registers m shows = ap (λ (l : List (ℕ × ℤ)). Returned 0 (record m { given = l })) (sym (append-nil m.given))
  gives (signal ∷ signals) y registers m shows = by (seen_at registers (image.inputs + y)) refl (λ n same. gives signals (suc y) registers n (shows_later y signal signals registers m n same shows)) where
    here : y + 0 ≡ y
    here = omega arith

    asked : (o : Seen) → seen_at registers (image.inputs + y) ≡ o
        → run call widths (giving image y (signal ∷ signals)) m ≡ and_then (chosen Undefined (Some (truth (is_some o))) (run call widths (one (Give y (value_given (image.inputs + y) signal.kind))) m) (GoesOn m)) (run call widths (giving image (suc y) signals))
    asked o is =
        ap (λ (p : Option ℤ). and_then (chosen Undefined p (run call widths (one (Give y (value_given (image.inputs + y) signal.kind))) m) (GoesOn m)) (run call widths (giving image (suc y) signals)))
        (subst (λ (i : ℕ). m.values (Variable (comes image i)) ≡ Some (truth (is_some (seen_at registers (image.inputs + i))))) here (shows.come 0 (omega arith)) ∙ ap (λ (p : Option ℤ). Some (truth (is_some p))) is)

    by : (o : Seen) → seen_at registers (image.inputs + y) ≡ o
        → ((n : Memory) → ((x : ℕ) → n.values (Variable x) ≡ m.values (Variable x)) → run call widths (giving image (suc y) signals) n ≡ Returned 0 (record n { given = n.given ++ given_from image registers (suc y) signals }))
        → run call widths (giving image y (signal ∷ signals)) m ≡ Returned 0 (record m { given = m.given ++ given_from image registers y (signal ∷ signals) })
    by None is others =
        asked None is ∙ others m (λ x. refl)
        ∙ ap (λ (p : Seen). Returned 0 (record m { given = m.given ++ (given_one y p ++ given_from image registers (suc y) signals) })) (sym is)
    by (Some v) is others =
        let told : Memory = record m { given = m.given ++ (y, v) ∷ [] } in
        let has : m.values (Variable (image.inputs + y)) ≡ Some v =
        subst (λ (i : ℕ). m.values (Variable (image.inputs + i)) ≡ Some (value_in (seen_at registers (image.inputs + i)))) here (shows.has 0 (omega arith)) ∙ ap (λ (p : Option ℤ). Some (value_in p)) is in
        asked (Some v) is
        ∙ ap (λ (o : Outcome). and_then (and_then o (run call widths none)) (run call widths (giving image (suc y) signals)))
        (gives_one y signal.kind v m (subst (λ (i : ℕ). HasPrototype call.outputs i signal.kind) here (shows.functions 0 signal refl)) has
        (shows.holds 0 signal v refl (ap (λ (i : ℕ). seen_at registers (image.inputs + i)) here ∙ is)) (λ event. shows.events 0 signal v refl event (ap (λ (i : ℕ). seen_at registers (image.inputs + i)) here ∙ is)))
        ∙ others told (λ x. refl)
        ∙ ap (λ (l : List (ℕ × ℤ)). Returned 0 (record m { given = l })) (append_assoc m.given ((y, v) ∷ []) (given_from image registers (suc y) signals))
        ∙ ap (λ (p : Seen). Returned 0 (record m { given = m.given ++ (given_one y p ++ given_from image registers (suc y) signals) })) (sym is)

-- ---- their lines

module _ (image : ImageView) (registers : Instant) where
  first_line : (y : ℕ) (signal : ImageSignal) (o : Seen) → slice_get image.signals (image.inputs + y) ≡ Some signal → seen_line signal o ≡ flat_map (given_line image) (given_one y o)
  first_line y signal None is = refl
  first_line y signal (Some v) is =
      sym (flat_map-cons (given_line image) (y, v) [] ∙ append-nil (given_line image (y, v)) ∙ ap (λ (o : Option ImageSignal). line_in o v) is)

  pub lines_are : (signals : List ImageSignal) (seen : List Seen) (y : ℕ) → ((k : ℕ) → k < length signals → slice_get seen k ≡ Some (seen_at registers (image.inputs + (y + k))))
      → ((k : ℕ) → k < length signals → slice_get image.signals (image.inputs + (y + k)) ≡ slice_get signals k)
      → seen_lines signals seen ≡ flat_map (given_line image) (given_from image registers y signals)
  lines_are [] seen y are stand = refl
  lines_are (signal ∷ signals) [] y are stand = absurd (let e : None ≡ Some (seen_at registers (image.inputs + (y + 0))) = are 0 (omega arith) in cc e)
  lines_are (signal ∷ signals) (s ∷ seen) y are stand =
      let here : y + 0 ≡ y = omega arith in
      let first : s ≡ seen_at registers (image.inputs + y) = same_Some s (seen_at registers (image.inputs + y)) (are 0 (omega arith) ∙ ap (λ (i : ℕ). Some (seen_at registers (image.inputs + i))) here) in
      let rest = lines_are signals seen (suc y)
      (λ k lt. let e : y + suc k ≡ suc y + k = omega arith in are (suc k) (omega (arith, lt)) ∙ ap (λ (i : ℕ). Some (seen_at registers (image.inputs + i))) e)
      (λ k lt. let e : suc y + k ≡ y + suc k = omega arith in ap (λ (i : ℕ). slice_get image.signals (image.inputs + i)) e ∙ stand (suc k) (omega (arith, lt))) in
      ap (λ (o : Seen). seen_line signal o ++ seen_lines signals seen) first
      ∙ ap (λ (l : List ℕ). l ++ seen_lines signals seen)
      (first_line y signal (seen_at registers (image.inputs + y)) (ap (λ (i : ℕ). slice_get image.signals (image.inputs + i)) (sym here) ∙ stand 0 (omega arith)))
      ∙ ap (λ (l : List ℕ). flat_map (given_line image) (given_one y (seen_at registers (image.inputs + y))) ++ l) rest
      ∙ sym (flat_map-append (given_line image) (given_one y (seen_at registers (image.inputs + y))) (given_from image registers (suc y) signals))
