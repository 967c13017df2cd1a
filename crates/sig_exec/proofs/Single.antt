-- An image has one run.
use Rattle.sig_exec.proofs.Common.{same_Some, ◌≡◌, ◌≤◌, arith, inl, inr, ℕ, zero, suc, ℤ, Bool, true, false, List, [], ◌∷◌, length, refl, sym, ap, subst, ◌∙◌, slice_set, flat_map, Gives, Bounded, Instant, Trace, has_64_bits, Span, HaveValues, function_of, Operand, Const, Sig, Guarded, Guards, guards_of, ImageView, Does, Ends, EndsIn, Handles, HandlesAll, HasZeroDivisor, IsImageRun, Runs, State, cleared, holds, instant_lines, opening, written, ImageOpKind, ImageCause, ImageEnd}
use Rattle.sig_file.specs.declared.images.ImageOpKind.TheVariants as does
use Rattle.sig_exec.proofs.Results.{gives_one, zero_gives_nothing}

-- operands have one list of values
same_values : (instant : Instant) (operands : List Operand) (v w : List ℤ) → HaveValues instant operands v → HaveValues instant operands w → v ≡ w
same_values instant [] [] [] one other = refl
same_values instant (Sig x ∷ operands) (a ∷ v) (b ∷ w) one other =
    let first : a ≡ b = same_Some a b (sym one.0 ∙ other.0) in
    ap (λ (c : ℤ). c ∷ v) first ∙ ap (λ (l : List ℤ). b ∷ l) (same_values instant operands v w one.1 other.1)
same_values instant (Const c ∷ operands) (a ∷ v) (b ∷ w) one other =
    ap (λ (c : ℤ). c ∷ v) (sym one.0 ∙ other.0) ∙ ap (λ (l : List ℤ). b ∷ l) (same_values instant operands v w one.1 other.1)
same_values instant [] [] (b ∷ w) one other = absurd other
same_values instant [] (a ∷ v) w one other = absurd one
same_values instant (Sig x ∷ operands) [] w one other = absurd one
same_values instant (Const c ∷ operands) [] w one other = absurd one
same_values instant (Sig x ∷ operands) (a ∷ v) [] one other = absurd other
same_values instant (Const c ∷ operands) (a ∷ v) [] one other = absurd other

clash : {A : Type 0} (b : Bool) → b ≡ true → b ≡ false → A
clash {A} b on off = absurd (let e : true ≡ false = sym on ∙ off in cc)

-- ---- one operation

does_once : (kind : ImageOpKind) (s t u : State) → Does kind s t → Does kind s u → t ≡ u
does_once (does.Read x) s t u (v, rest, at, is) (w, more, there, same) =
    let list : v ∷ rest ≡ w ∷ more = same_Some (v ∷ rest) (w ∷ more) (sym at ∙ there) in
    let first : v ≡ w = cc in
    let behind : rest ≡ more = cc in
    is ∙ ap (λ (a : ℤ). written x a (record s { flows = slice_set s.flows x.0 rest })) first
    ∙ ap (λ (l : List ℤ). written x w (record s { flows = slice_set s.flows x.0 l })) behind ∙ sym same
does_once (does.Fun y op operands) s t u (v, (values, have, gives), small, is) (w, (others, has, gave), little, same) =
    let values_are = same_values s.registers operands others values has have in
    let one : v ≡ w = gives_one (function_of op) values v w gives (subst (λ (l : List ℤ). Gives Bounded (function_of op) l w) values_are gave) in
    is ∙ ap (λ (a : ℤ). written y a s) one ∙ sym same
does_once (does.Copy y x) s t u (v, at, is) (w, there, same) = is ∙ ap (λ (a : ℤ). written y a s) (same_Some v w (sym at ∙ there)) ∙ sym same
does_once (does.Const y value) s t u is same = is ∙ sym same
does_once (does.DelayRead y memory) s t u (v, at, is) (w, there, same) = is ∙ ap (λ (a : ℤ). written y a s) (same_Some v w (sym at ∙ there)) ∙ sym same
does_once (does.Store memory x) s t u (v, at, is) (w, there, same) =
    is ∙ ap (λ (a : ℤ). record s { memories = slice_set s.memories memory a }) (same_Some v w (sym at ∙ there)) ∙ sym same

does_or_ends : (kind : ImageOpKind) (at : Span) (s t : State) (cause : ImageCause) → Does kind s t → Ends kind at s cause → ⊥
does_or_ends (does.Read x) at s t cause (v, rest, here, is) (none, why) =
    let e : v ∷ rest ≡ [] = same_Some (v ∷ rest) [] (sym here ∙ none) in cc
does_or_ends (does.Fun y op operands) at s t cause (v, (values, have, gives), small, is) (inl (w, (others, has, gave), large, why)) =
    let values_are = same_values s.registers operands others values has have in
    let one : w ≡ v = gives_one (function_of op) values w v (subst (λ (l : List ℤ). Gives Bounded (function_of op) l w) values_are gave) gives in
    let e : true ≡ false = sym small ∙ ap (λ (a : ℤ). has_64_bits a) (sym one) ∙ large in cc
does_or_ends (does.Fun y op operands) at s t cause (v, (values, have, gives), small, is) (inr (others, has, zeroed, why)) =
    zero_gives_nothing (function_of op) values v gives (subst (λ (l : List ℤ). HasZeroDivisor (function_of op) l) (same_values s.registers operands others values has have) zeroed)
does_or_ends kind at s t cause did ended = ended

ends_once : (kind : ImageOpKind) (at : Span) (s : State) (cause other : ImageCause) → Ends kind at s cause → Ends kind at s other → cause ≡ other
ends_once (does.Read x) at s cause other one two = one.1 ∙ sym two.1
ends_once (does.Fun y op operands) at s cause other (inl (v, computes, large, why)) (inl (w, also, big, because)) = why ∙ sym because
ends_once (does.Fun y op operands) at s cause other (inr (values, have, zeroed, why)) (inr (others, has, zero_too, because)) = why ∙ sym because
ends_once (does.Fun y op operands) at s cause other (inl (v, (values, have, gives), large, why)) (inr (others, has, zeroed, because)) =
    absurd (zero_gives_nothing (function_of op) values v gives (subst (λ (l : List ℤ). HasZeroDivisor (function_of op) l) (same_values s.registers operands others values has have) zeroed))
ends_once (does.Fun y op operands) at s cause other (inr (values, have, zeroed, why)) (inl (v, (others, has, gives), large, because)) =
    absurd (zero_gives_nothing (function_of op) others v gives (subst (λ (l : List ℤ). HasZeroDivisor (function_of op) l) (same_values s.registers operands values others have has) zeroed))
ends_once kind at s cause other one two = absurd one

-- ---- one instant

module _ (guards : Guards) where
  handles_once : (op : Guarded) (s t u : State) → Handles guards op s t → Handles guards op s u → t ≡ u
  handles_once op s t u (inl (on, did)) (inl (also, too)) = does_once op.kind s t u did too
  handles_once op s t u (inl (on, did)) (inr (off, is)) = clash (holds guards op s) on off
  handles_once op s t u (inr (off, is)) (inl (on, did)) = clash (holds guards op s) on off
  handles_once op s t u (inr (off, is)) (inr (too, same)) = is ∙ sym same

  pub all_once : (ops : List Guarded) (s t u : State) → HandlesAll guards ops s t → HandlesAll guards ops s u → t ≡ u
  all_once [] s t u is same = is ∙ sym same
  all_once (op ∷ ops) s t u (middle, first, rest) (other, one, more) =
      let same = handles_once op s other middle one first in
      all_once ops middle t u rest (subst (λ (m : State). HandlesAll guards ops m u) same more)

  pub all_or_ends : (ops : List Guarded) (s t : State) (cause : ImageCause) → HandlesAll guards ops s t → EndsIn guards ops s cause → ⊥
  all_or_ends [] s t cause all ended = ended
  all_or_ends (op ∷ ops) s t cause (middle, inl (on, did), rest) (inl (also, ended)) = does_or_ends op.kind op.at s middle cause did ended
  all_or_ends (op ∷ ops) s t cause (middle, inr (off, is), rest) (inl (also, ended)) = clash (holds guards op s) also off
  all_or_ends (op ∷ ops) s t cause (middle, first, rest) (inr (other, one, ended)) =
      let same = handles_once op s other middle one first in
      all_or_ends ops middle t cause rest (subst (λ (m : State). EndsIn guards ops m cause) same ended)

  ends_alike : (ops : List Guarded) (s : State) (cause other : ImageCause) → EndsIn guards ops s cause → EndsIn guards ops s other → cause ≡ other
  ends_alike [] s cause other one two = absurd one
  ends_alike (op ∷ ops) s cause other (inl (on, ended)) (inl (also, too)) = ends_once op.kind op.at s cause other ended too
  ends_alike (op ∷ ops) s cause other (inl (on, ended)) (inr (middle, inl (also, did), more)) = absurd (does_or_ends op.kind op.at s middle cause did ended)
  ends_alike (op ∷ ops) s cause other (inl (on, ended)) (inr (middle, inr (off, is), more)) = clash (holds guards op s) on off
  ends_alike (op ∷ ops) s cause other (inr (middle, inl (also, did), more)) (inl (on, ended)) = absurd (does_or_ends op.kind op.at s middle other did ended)
  ends_alike (op ∷ ops) s cause other (inr (middle, inr (off, is), more)) (inl (on, ended)) = clash (holds guards op s) on off
  ends_alike (op ∷ ops) s cause other (inr (middle, first, more)) (inr (another, one, rest)) =
      let same = handles_once op s another middle one first in
      ends_alike ops middle cause other more (subst (λ (m : State). EndsIn guards ops m other) same rest)

  -- ---- all instants

  runs_once : (left : ℕ) (s : State) (one two : Trace) (cause other : ImageCause) → Runs guards left s one cause → Runs guards left s two other → (one ≡ two) × (cause ≡ other)
  runs_once zero s one two cause other first second = (first.0 ∙ sym second.0, first.1 ∙ sym second.1)
  runs_once (suc left) s one two cause other (inl (none, ends)) (inl (nothing, ended)) =
      (none ∙ sym nothing, ends_alike guards.ops (cleared guards s) cause other ends ended)
  runs_once (suc left) s one two cause other (inl (none, ends)) (inr (u, more, is, handles, runs)) = absurd (all_or_ends guards.ops (cleared guards s) u cause handles ends)
  runs_once (suc left) s one two cause other (inr (t, more, is, handles, runs)) (inl (none, ends)) = absurd (all_or_ends guards.ops (cleared guards s) t other handles ends)
  runs_once (suc left) s one two cause other (inr (t, more, is, handles, runs)) (inr (u, rest, same, handled, ran)) =
      let states = all_once guards.ops (cleared guards s) u t handled handles in
      let (trace, causes) = runs_once left t more rest cause other runs (subst (λ (m : State). Runs guards left m rest other) states ran) in
      (is ∙ ap (λ (l : Trace). t.registers ∷ l) trace ∙ ap (λ (m : State). m.registers ∷ rest) (sym states) ∙ sym same, causes)

pub one_run : (image : ImageView) (flows : List (List ℤ)) (limit : ℕ) (text other : List ℕ) (end last : ImageEnd) → IsImageRun image flows limit text end → IsImageRun image flows limit other last
    → (text ≡ other) × (end ≡ last)
one_run image flows limit text other end last one two =
    let (trace, cause) = runs_once (guards_of image) limit (opening (guards_of image) flows) one.committed two.committed end.cause last.cause one.runs two.runs in (
      one.lines ∙ ap (λ (t : Trace). flat_map (instant_lines image) t) trace ∙ sym two.lines,
      let count = one.instants ∙ ap (λ (t : Trace). length t) trace ∙ sym two.instants in
          λ j. let e : ImageEnd = record { instants = count j; cause = cause j } in e,
    )

-- its instants are within the limit
within : (guards : Guards) (left : ℕ) (s : State) (committed : Trace) (cause : ImageCause) → Runs guards left s committed cause → length committed ≤ left
within guards zero s committed cause (none, why) = let e = ap (λ (t : Trace). length t) none in omega (arith, e)
within guards (suc left) s committed cause (inl (none, ends)) = let e = ap (λ (t : Trace). length t) none in omega (arith, e)
within guards (suc left) s committed cause (inr (t, more, is, handles, runs)) =
    let e = ap (λ (l : Trace). length l) is in
    let few = within guards left t more cause runs in omega (arith, e, few)

pub run_within : (image : ImageView) (flows : List (List ℤ)) (limit : ℕ) (text : List ℕ) (end : ImageEnd) → IsImageRun image flows limit text end → end.instants ≤ limit
run_within image flows limit text end run =
    let few = within (guards_of image) limit (opening (guards_of image) flows) run.committed end.cause run.runs in
    let count = run.instants in omega (arith, few, count)
