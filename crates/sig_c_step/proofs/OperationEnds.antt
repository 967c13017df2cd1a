-- Where an operation ends the run, its statements return the number of the end, and nothing has changed.
use Rattle.std.proofs.Common.{◌≡◌, ◌≢◌, ◌⊎◌, inl, inr, ◌+◌, ◌<ℤ◌, ◌≤ℤ◌, ℕ, suc, ℤ, pos, true, false, List, [], ◌∷◌, Option, Some, refl, sym, ap, subst, ◌∙◌, arith, slice_get}
use Rattle.std.proofs.lemmas.Int.{ints}
use Rattle.sig_base.specs.Functions.{Gives, Tells}
use Rattle.sig_base.specs.Traces.{Bounded, has_64_bits}
use Rattle.sig_base.specs.declared.ids.Kind.{Kind}
use Rattle.sig_base.specs.declared.ids.Kind.TheVariants.{Integer, Boolean, Event}
use Rattle.sig_base.specs.declared.ids.SigId.{SigId}
use Rattle.sig_base.specs.declared.span.Span.{Span}
use Rattle.sig_kernel.specs.KernelTraces.{HaveValues, function_of}
use Rattle.sig_kernel.specs.declared.equation.FunOp.{FunOp}
use Rattle.sig_kernel.specs.declared.equation.FunOp.TheVariants as fun
use Rattle.sig_kernel.specs.declared.equation.Operand.{Operand}
use Rattle.sig_file.specs.ImageRuns.{State, Ends, HasZeroDivisor}
use Rattle.sig_file.specs.Images.{ImageView, IsImage, IsFunction, MayDo, kind_at, scope_of}
use Rattle.sig_file.specs.declared.images.ImageOpKind.{ImageOpKind}
use Rattle.sig_file.specs.declared.images.ImageOpKind.TheVariants as does
use Rattle.sig_file.specs.declared.run.ImageCause.{ImageCause}
use Rattle.sig_exec.proofs.KeptKinds.{kind_there}
use Rattle.sig_c.specs.SmallC.{Place, Variable, Number, Binary, Equal, Add, Subtract, Multiply, Quotient, Remainder, Set, When, Check, Return, Statements, none, more, Width, EndCause, Exhausted, Overflow, DivisionByZero}
use Rattle.sig_c.specs.Meaning.{Memory, Outcome, Returned, Functions, and_then, run}
use Rattle.sig_c.proofs.Quotients.{remainder_bits}
use Rattle.sig_c_step.specs.Correct.{cause_in_c}
use Rattle.sig_c_step.specs.Translation.{asking, causes_of, computing, doing, function_causes, joined, marking, one, operand}
use Rattle.sig_c_step.proofs.FunctionValues.{HaveBits, IsTruth, tells_truth, two_values}
use Rattle.sig_c_step.proofs.StateKinds.{AreKinded, bits_of}
use Rattle.sig_c_step.proofs.Likeness.{IsLike}
use Rattle.sig_c_step.proofs.Operations.{AreWidths, HasPrototype, MayCall, asked_so, bits, checked, divides, divisor_is, integer_target, one_given, operand_bits, operand_there, run_then, two_given, zero_is}

not_both : {B : Type 0} (v : ℤ) → has_64_bits v ≡ true → has_64_bits v ≡ false → B
not_both {B} v small large = absurd (let e : true ≡ false = sym small ∙ large in cc e)

truth_small : (v : ℤ) → IsTruth v → has_64_bits v ≡ true
truth_small v is = bits_of Boolean v is

module _ (image : ImageView) (widths : Place → Width) (are : AreWidths image widths) (call : Functions) (before : Memory) (s : State) (m : Memory) (like : IsLike image before s m) (kinded : AreKinded image s) where
  -- the statements of a function return the number of an end
  record Stops (y code : ℕ) (op : FunOp) (operands : List Operand) (told : EndCause) : Type 0 where
    number : ℕ
    returns : run call widths (computing y code op operands) m ≡ Returned number m
    place : ℕ
    counted : number ≡ code + place
    is : slice_get (function_causes op) place ≡ Some told

  -- those of an operation do
  pub record Returns (code : ℕ) (kind : ImageOpKind) (at : Span) (cause : ImageCause) : Type 0 where
    pub number : ℕ
    pub returns : run call widths (doing image code kind) m ≡ Returned number m
    pub place : ℕ
    pub counted : number ≡ code + place
    pub told : EndCause
    pub is : slice_get (causes_of kind) place ≡ Some told
    pub tells : told ≡ cause_in_c cause

  then_returns : (statements : Statements) (y number : ℕ) → run call widths statements m ≡ Returned number m → run call widths (joined statements (marking image y)) m ≡ Returned number m
  then_returns statements y number returns = run_then call widths statements (marking image y) m ∙ ap (λ (o : Outcome). and_then o (run call widths (marking image y))) returns

  module _ (y : SigId) (code : ℕ) (values : List ℤ) where
    -- one of two operands has a result outside of 64 bits
    module _ (v : ℤ) (large : has_64_bits v ≡ false) where
      never_truth : (op : FunOp) (a b : Operand) (Statement : ℤ → ℤ → Type 0) → HaveValues s.registers (a ∷ b ∷ []) values → Gives Bounded (function_of op) values v
          → ((x w : ℤ) → Gives Bounded (function_of op) (x ∷ w ∷ []) v → Tells v (Statement x w)) → Stops y.0 code op (a ∷ b ∷ []) Overflow
      never_truth op a b Statement have gives tells =
          let (x, w, has_a, has_b, it) = two_given image widths are call before s m like kinded op a b values v have gives in
          not_both v (truth_small v (tells_truth v (Statement x w) (tells x w it))) large

      overflows : (op : FunOp) (operands : List Operand) → IsFunction image.signals y.0 op operands → MayCall image call (does.Fun y op operands) → HaveValues s.registers operands values
          → Gives Bounded (function_of op) values v → Stops y.0 code op operands Overflow
      overflows fun.Id (a ∷ []) fit calls have gives =
          let has_bits = operand_bits image fun.Id (a ∷ []) (kind_at image.signals y.0) fit.fit in
          let (x, has, same) = one_given image widths are call before s m like kinded fun.Id a values v have gives in
          not_both v (ap has_64_bits same ∙ bits image widths are call before s m like kinded a x has_bits.0 has) large
      overflows fun.Not (a ∷ []) fit calls have gives =
          let (x, has, tells) = one_given image widths are call before s m like kinded fun.Not a values v have gives in
          not_both v (truth_small v (tells_truth v (x ≢ pos 1) tells)) large
      overflows fun.And (a ∷ b ∷ []) fit calls have gives = never_truth fun.And a b (λ x w. (x ≡ pos 1) × (w ≡ pos 1)) have gives (λ x w tells. tells)
      overflows fun.Or (a ∷ b ∷ []) fit calls have gives = never_truth fun.Or a b (λ x w. (x ≡ pos 1) ⊎ (w ≡ pos 1)) have gives (λ x w tells. tells)
      overflows fun.Xor (a ∷ b ∷ []) fit calls have gives = never_truth fun.Xor a b (λ x w. x ≢ w) have gives (λ x w tells. tells)
      overflows fun.Eq (a ∷ b ∷ []) fit calls have gives = never_truth fun.Eq a b (λ x w. x ≡ w) have gives (λ x w tells. tells)
      overflows fun.Ne (a ∷ b ∷ []) fit calls have gives = never_truth fun.Ne a b (λ x w. x ≢ w) have gives (λ x w tells. tells)
      overflows fun.Lt (a ∷ b ∷ []) fit calls have gives = never_truth fun.Lt a b (λ x w. x <ℤ w) have gives (λ x w tells. tells)
      overflows fun.Le (a ∷ b ∷ []) fit calls have gives = never_truth fun.Le a b (λ x w. x ≤ℤ w) have gives (λ x w tells. tells)
      overflows fun.Gt (a ∷ b ∷ []) fit calls have gives = never_truth fun.Gt a b (λ x w. w <ℤ x) have gives (λ x w tells. tells)
      overflows fun.Ge (a ∷ b ∷ []) fit calls have gives = never_truth fun.Ge a b (λ x w. w ≤ℤ x) have gives (λ x w tells. tells)
      overflows fun.Neg (a ∷ []) fit calls have gives =
          let has_bits = operand_bits image fun.Neg (a ∷ []) (kind_at image.signals y.0) fit.fit in
          let (x, has, same) = one_given image widths are call before s m like kinded fun.Neg a values v have gives in
          record {
            number = code;
            returns = checked image widths are call before s m like kinded Subtract (Number (pos 0)) (operand a) (pos 0) x v y.0 code false (calls.helpers Subtract refl)
                (integer_target image fun.Neg Subtract (a ∷ []) (kind_at image.signals y.0) refl fit.fit) refl (operand_there image widths are call before s m like kinded a x has_bits.0 has) refl
                (bits image widths are call before s m like kinded a x has_bits.0 has) tt (omega (arith, ints, same)) large;
            place = 0;
            counted = omega arith;
            is = refl;
          }
      overflows fun.Add (a ∷ b ∷ []) fit calls have gives =
          let has_bits = operand_bits image fun.Add (a ∷ b ∷ []) (kind_at image.signals y.0) fit.fit in
          let (x, w, has_a, has_b, same) = two_given image widths are call before s m like kinded fun.Add a b values v have gives in
          record {
            number = code;
            returns = checked image widths are call before s m like kinded Add (operand a) (operand b) x w v y.0 code false (calls.helpers Add refl)
                (integer_target image fun.Add Add (a ∷ b ∷ []) (kind_at image.signals y.0) refl fit.fit)
                (operand_there image widths are call before s m like kinded a x has_bits.0 has_a) (operand_there image widths are call before s m like kinded b w has_bits.1.0 has_b)
                (bits image widths are call before s m like kinded a x has_bits.0 has_a) (bits image widths are call before s m like kinded b w has_bits.1.0 has_b) tt same large;
            place = 0;
            counted = omega arith;
            is = refl;
          }
      overflows fun.Sub (a ∷ b ∷ []) fit calls have gives =
          let has_bits = operand_bits image fun.Sub (a ∷ b ∷ []) (kind_at image.signals y.0) fit.fit in
          let (x, w, has_a, has_b, same) = two_given image widths are call before s m like kinded fun.Sub a b values v have gives in
          record {
            number = code;
            returns = checked image widths are call before s m like kinded Subtract (operand a) (operand b) x w v y.0 code false (calls.helpers Subtract refl)
                (integer_target image fun.Sub Subtract (a ∷ b ∷ []) (kind_at image.signals y.0) refl fit.fit)
                (operand_there image widths are call before s m like kinded a x has_bits.0 has_a) (operand_there image widths are call before s m like kinded b w has_bits.1.0 has_b)
                (bits image widths are call before s m like kinded a x has_bits.0 has_a) (bits image widths are call before s m like kinded b w has_bits.1.0 has_b) tt same large;
            place = 0;
            counted = omega arith;
            is = refl;
          }
      overflows fun.Mul (a ∷ b ∷ []) fit calls have gives =
          let has_bits = operand_bits image fun.Mul (a ∷ b ∷ []) (kind_at image.signals y.0) fit.fit in
          let (x, w, has_a, has_b, same) = two_given image widths are call before s m like kinded fun.Mul a b values v have gives in
          record {
            number = code;
            returns = checked image widths are call before s m like kinded Multiply (operand a) (operand b) x w v y.0 code false (calls.helpers Multiply refl)
                (integer_target image fun.Mul Multiply (a ∷ b ∷ []) (kind_at image.signals y.0) refl fit.fit)
                (operand_there image widths are call before s m like kinded a x has_bits.0 has_a) (operand_there image widths are call before s m like kinded b w has_bits.1.0 has_b)
                (bits image widths are call before s m like kinded a x has_bits.0 has_a) (bits image widths are call before s m like kinded b w has_bits.1.0 has_b) tt same large;
            place = 0;
            counted = omega arith;
            is = refl;
          }
      overflows fun.Div (a ∷ b ∷ []) fit calls have gives =
          let has_bits = operand_bits image fun.Div (a ∷ b ∷ []) (kind_at image.signals y.0) fit.fit in
          let (x, w, has_a, has_b, same) = two_given image widths are call before s m like kinded fun.Div a b values v have gives in
          record {
            number = suc code;
            returns = divides image widths are call before s m like kinded b w code (one (Check Quotient (operand a) (operand b) y.0 (suc code)))
                (operand_there image widths are call before s m like kinded b w has_bits.1.0 has_b) same.0
                ∙ checked image widths are call before s m like kinded Quotient (operand a) (operand b) x w v y.0 (suc code) false (calls.helpers Quotient refl)
                (integer_target image fun.Div Quotient (a ∷ b ∷ []) (kind_at image.signals y.0) refl fit.fit)
                (operand_there image widths are call before s m like kinded a x has_bits.0 has_a) (operand_there image widths are call before s m like kinded b w has_bits.1.0 has_b)
                (bits image widths are call before s m like kinded a x has_bits.0 has_a) (bits image widths are call before s m like kinded b w has_bits.1.0 has_b) same.0 same.1 large;
            place = 1;
            counted = omega arith;
            is = refl;
          }
      overflows fun.Mod (a ∷ b ∷ []) fit calls have gives =
          let has_bits = operand_bits image fun.Mod (a ∷ b ∷ []) (kind_at image.signals y.0) fit.fit in
          let (x, w, has_a, has_b, same) = two_given image widths are call before s m like kinded fun.Mod a b values v have gives in
          not_both v (ap has_64_bits same.1 ∙ remainder_bits x w (bits image widths are call before s m like kinded b w has_bits.1.0 has_b) same.0) large
      overflows op operands fit calls have gives = absurd (omega (arith, fit.count))

    -- the divisor is 0
    zero_divisor : (op : FunOp) (a b : Operand) → HaveBits (a ∷ b ∷ []) → HaveValues s.registers (a ∷ b ∷ []) values → ((x w : ℤ) → HasZeroDivisor (function_of op) (x ∷ w ∷ []) → w ≡ pos 0)
        → HasZeroDivisor (function_of op) values → (rest : Statements)
        → run call widths (more (When (Binary Equal (operand b) (Number (pos 0))) (one (Return code))) rest) m ≡ Returned code m
    zero_divisor op a b has_bits have is_zero zeroed rest =
        let (x, w, are_values, has_a, has_b) = two_values s.registers a b values have in
        let is : w ≡ pos 0 = is_zero x w (subst (λ (l : List ℤ). HasZeroDivisor (function_of op) l) are_values zeroed) in
        ap (λ (o : Outcome). and_then o (run call widths rest))
        (divisor_is image widths are call before s m like kinded b w code true (operand_there image widths are call before s m like kinded b w has_bits.1.0 has_b) (zero_is image widths are call before s m like kinded w is))

    divides_by_zero : (op : FunOp) (operands : List Operand) → IsFunction image.signals y.0 op operands → HaveValues s.registers operands values → HasZeroDivisor (function_of op) values
        → Stops y.0 code op operands DivisionByZero
    divides_by_zero fun.Div (a ∷ b ∷ []) fit have zeroed = record {
      number = code;
      returns = zero_divisor fun.Div a b (operand_bits image fun.Div (a ∷ b ∷ []) (kind_at image.signals y.0) fit.fit) have (λ x w is. is) zeroed (one (Check Quotient (operand a) (operand b) y.0 (suc code)));
      place = 0;
      counted = omega arith;
      is = refl;
    }
    divides_by_zero fun.Mod (a ∷ b ∷ []) fit have zeroed = record {
      number = code;
      returns = zero_divisor fun.Mod a b (operand_bits image fun.Mod (a ∷ b ∷ []) (kind_at image.signals y.0) fit.fit) have (λ x w is. is) zeroed (one (Check Remainder (operand a) (operand b) y.0 code));
      place = 0;
      counted = omega arith;
      is = refl;
    }
    divides_by_zero fun.Div operands fit have zeroed = absurd (omega (arith, fit.count))
    divides_by_zero fun.Mod operands fit have zeroed = absurd (omega (arith, fit.count))
    divides_by_zero op operands fit have zeroed = absurd zeroed

  -- the input has no further value
  asks_in_vain : (x code : ℕ) (kind : Kind) → kind_at image.signals x ≡ Some kind → HasPrototype call.inputs x kind → slice_get s.flows x ≡ Some [] → run call widths (asking x code (Some kind)) m ≡ Returned code m
  asks_in_vain x code Event of has is =
      ap (λ (o : Outcome). and_then o (run call widths (one (Set (Variable x) (Number (pos 1)))))) (asked_so image widths are call before s m like kinded x code Event [] of has is)
  asks_in_vain x code Integer of has is = ap (λ (o : Outcome). and_then o (run call widths none)) (asked_so image widths are call before s m like kinded x code Integer [] of has is)
  asks_in_vain x code Boolean of has is = ap (λ (o : Outcome). and_then o (run call widths none)) (asked_so image widths are call before s m like kinded x code Boolean [] of has is)

  pub ends_is : (code : ℕ) (kind : ImageOpKind) (at : Span) (because : ImageCause) → IsImage image → MayDo (scope_of image) kind → MayCall image call kind → Ends kind at s because → Returns code kind at because
  ends_is code (does.Read x) at because right may calls (is, e) =
      let interface = right.interface in
      let (kind, of_kind) = kind_there image.signals x.0 (omega (arith, may, interface)) in
      record {
        number = code;
        returns = then_returns (asking x.0 code (kind_at image.signals x.0)) x.0 code
            (ap (λ (o : Option Kind). run call widths (asking x.0 code o) m) of_kind ∙ asks_in_vain x.0 code kind of_kind (calls.reads x kind refl of_kind) is);
        place = 0;
        counted = omega arith;
        told = Exhausted;
        is = refl;
        tells = ap cause_in_c (sym e);
      }
  ends_is code (does.Fun y op operands) at because right may calls (inl (v, (values, have, gives), large, e)) =
      let it = overflows y code values v large op operands may calls have gives in
      record {
        number = it.number;
        returns = then_returns (computing y.0 code op operands) y.0 it.number it.returns;
        place = it.place;
        counted = it.counted;
        told = Overflow;
        is = it.is;
        tells = ap cause_in_c (sym e);
      }
  ends_is code (does.Fun y op operands) at because right may calls (inr (values, have, zeroed, e)) =
      let it = divides_by_zero y code values op operands may have zeroed in
      record {
        number = it.number;
        returns = then_returns (computing y.0 code op operands) y.0 it.number it.returns;
        place = it.place;
        counted = it.counted;
        told = DivisionByZero;
        is = it.is;
        tells = ap cause_in_c (sym e);
      }
  ends_is code kind at because right may calls ends = absurd ends
