-- The statements of the step of an image have the types that C wants: functions are called as they are declared, and helpers that are there.
use Rattle.std.proofs.Common.{◌≡◌, ◌<◌, ◌+◌, ◌-◌, ℕ, zero, suc, pos, Bool, true, false, List, [], ◌∷◌, Option, Some, None, refl, sym, ap, ◌∙◌, arith, length, nat_eq, slice_get, if◌then◌else◌}
use Rattle.sig_base.specs.declared.ids.Kind.{Kind}
use Rattle.sig_base.specs.declared.ids.Kind.TheVariants.{Integer, Boolean, Event}
use Rattle.sig_kernel.specs.declared.equation.FunOp.{FunOp}
use Rattle.sig_kernel.specs.declared.equation.FunOp.TheVariants as fun
use Rattle.sig_kernel.specs.declared.equation.Operand.{Operand}
use Rattle.sig_file.specs.Images.{ImageView, IsImage, MayDo, kind_at, kind_in, scope_of}
use Rattle.sig_file.specs.declared.images.ImageMemory.{ImageMemory}
use Rattle.sig_file.specs.declared.images.ImageOp.{ImageOp}
use Rattle.sig_file.specs.declared.images.ImageOpKind.{ImageOpKind}
use Rattle.sig_file.specs.declared.images.ImageOpKind.TheVariants as does
use Rattle.sig_file.specs.declared.images.ImageSignal.{ImageSignal}
use Rattle.sig_exec.proofs.KeptKinds.{kind_there}
use Rattle.sig_exec.proofs.Places.{operation_at}
use Rattle.std.proofs.lemmas.Option.{slice_get_within}
use Rattle.sig_c.specs.SmallC.{Variable, Number, Helper, Add, Subtract, Multiply, Quotient, Remainder, Ignored, Set, Statements, none, more, Width, Wide, Prototype}
use Rattle.sig_c.specs.Names.{AreTyped, Types, has_helper, may_give, takes_value, types_of}
use Rattle.sig_c_step.specs.Names.{AreNames, Names}
use Rattle.sig_c_step.specs.Translation.{asking, block, blocks, causes_of, computing, doing, giving, header_of, helper_for, ignoring, is_for, is_called_by, is_left_out, is_output, comes, joined, marking, one, outputs_in, step_in, storing, taken, unit_of, value_given}
use Rattle.sig_c_step.proofs.Operations.{HasPrototype, asks_so, integer_target}
use Rattle.sig_c_step.proofs.Lists.{past, within}
use Rattle.sig_c_step.proofs.Variables.{are_widths, helper_kept, helper_there, input_prototype, output_prototype, outputs_length}

module _ (types : Types) where
  joined_typed : (a b : Statements) → AreTyped types a → AreTyped types b → AreTyped types (joined a b)
  joined_typed none b first second = second
  joined_typed (more statement rest) b first second = (first.0, joined_typed rest b first.1 second)

  ignoring_typed : (unread : List Ignored) → AreTyped types (ignoring unread)
  ignoring_typed [] = tt
  ignoring_typed (x ∷ unread) = (tt, ignoring_typed unread)

  module _ (image : ImageView) where
    block_typed : (guard : ℕ) (body after : Statements) → AreTyped types body → AreTyped types after → AreTyped types (block image guard body after)
    block_typed zero body after first second = (first, second)
    block_typed (suc zero) body after first second = joined_typed body after first second
    block_typed (suc (suc guard)) body after first second = (first, second)

    marking_typed : (x : ℕ) → AreTyped types (marking image x)
    marking_typed x = by (is_output image x) where
      by : (b : Bool) → AreTyped types (if b then one (Set (Variable (comes image (x - image.inputs))) (Number (pos 1))) else none)
      by true = (tt, tt)
      by false = tt

    storing_typed : (memories : List ImageMemory) (n : ℕ) → AreTyped types (storing image n memories)
    storing_typed [] n = tt
    storing_typed (memory ∷ memories) n = (tt, storing_typed memories (suc n))

  -- the helper of a function is there, and it writes a number
  abbrev MayCompute : ℕ → FunOp → Type 0
  MayCompute y op = (helper : Helper) → helper_for op ≡ Some helper → (has_helper types.helpers helper ≡ true) × (types.widths (Variable y) ≡ Wide)

  computing_typed : (y code : ℕ) (op : FunOp) (operands : List Operand) → MayCompute y op → AreTyped types (computing y code op operands)
  computing_typed y code fun.Id (a ∷ []) may = (tt, tt)
  computing_typed y code fun.Not (a ∷ []) may = (tt, tt)
  computing_typed y code fun.And (a ∷ b ∷ []) may = (tt, tt)
  computing_typed y code fun.Or (a ∷ b ∷ []) may = (tt, tt)
  computing_typed y code fun.Xor (a ∷ b ∷ []) may = (tt, tt)
  computing_typed y code fun.Eq (a ∷ b ∷ []) may = (tt, tt)
  computing_typed y code fun.Ne (a ∷ b ∷ []) may = (tt, tt)
  computing_typed y code fun.Lt (a ∷ b ∷ []) may = (tt, tt)
  computing_typed y code fun.Le (a ∷ b ∷ []) may = (tt, tt)
  computing_typed y code fun.Gt (a ∷ b ∷ []) may = (tt, tt)
  computing_typed y code fun.Ge (a ∷ b ∷ []) may = (tt, tt)
  computing_typed y code fun.Neg (a ∷ []) may = (may Subtract refl, tt)
  computing_typed y code fun.Add (a ∷ b ∷ []) may = (may Add refl, tt)
  computing_typed y code fun.Sub (a ∷ b ∷ []) may = (may Subtract refl, tt)
  computing_typed y code fun.Mul (a ∷ b ∷ []) may = (may Multiply refl, tt)
  computing_typed y code fun.Div (a ∷ b ∷ []) may = ((tt, tt), (may Quotient refl, tt))
  computing_typed y code fun.Mod (a ∷ b ∷ []) may = ((tt, tt), (may Remainder refl, tt))
  computing_typed y code op operands may = tt

module _ (image : ImageView) (right : IsImage image) (names : Names) (named : AreNames image names) where
  abbrev types : Types
  types = types_of (header_of image names) (unit_of image names)

  asking_typed : (x code : ℕ) (kind : Kind) → x < image.inputs → kind_at image.signals x ≡ Some kind → AreTyped types (asking x code (Some kind))
  asking_typed x code Event inside is =
      (asks_so image types.widths (are_widths image names named) types.inputs x Event is (input_prototype image right names named x Event inside is), (tt, tt))
  asking_typed x code Integer inside is = (asks_so image types.widths (are_widths image names named) types.inputs x Integer is (input_prototype image right names named x Integer inside is), tt)
  asking_typed x code Boolean inside is = (asks_so image types.widths (are_widths image names named) types.inputs x Boolean is (input_prototype image right names named x Boolean inside is), tt)

  asked_typed : (x code : ℕ) (o : Option Kind) → x < image.inputs → kind_at image.signals x ≡ o → AreTyped types (asking x code o)
  asked_typed x code (Some kind) inside is = asking_typed x code kind inside is
  asked_typed x code None inside is =
      let interface = right.interface in
      let (kind, there) = kind_there image.signals x (omega (arith, inside, interface)) in
      absurd (let e : None ≡ Some kind = sym is ∙ there in cc e)

  doing_typed : (n code : ℕ) (op : ImageOp) (kind : ImageOpKind) → op.kind ≡ kind → slice_get image.ops n ≡ Some op → is_left_out op ≡ false → MayDo (scope_of image) kind
      → AreTyped types (doing image code kind)
  doing_typed n code op (does.Read x) same at kept may =
      joined_typed types (asking x.0 code (kind_at image.signals x.0)) (marking image x.0) (asked_typed x.0 code (kind_at image.signals x.0) may refl) (marking_typed types image x.0)
  doing_typed n code op (does.Fun y f operands) same at kept may =
      joined_typed types (computing y.0 code f operands) (marking image y.0)
      (computing_typed types y.0 code f operands (λ helper is. (
        helper_kept image n op helper at kept (ap (is_called_by helper) same ∙ ap (is_for helper) is ∙ (helper_there helper).2),
        (are_widths image names named).signal y.0 Integer (integer_target image f helper operands (kind_at image.signals y.0) is may.fit),
      )))
      (marking_typed types image y.0)
  doing_typed n code op (does.Copy y x) same at kept may = (tt, marking_typed types image y.0)
  doing_typed n code op (does.Const y v) same at kept may = (tt, marking_typed types image y.0)
  doing_typed n code op (does.DelayRead y m) same at kept may = (tt, marking_typed types image y.0)
  doing_typed n code op (does.Store m x) same at kept may = (tt, tt)

  blocks_typed : (ops : List ImageOp) (n code guard : ℕ) (body : Statements) → ((k : ℕ) → slice_get image.ops (n + k) ≡ slice_get ops k) → AreTyped types body → AreTyped types (blocks image guard body code ops)
  blocks_typed [] n code guard body stand typed = block_typed types image guard body none typed tt
  blocks_typed (op ∷ ops) n code guard body stand typed = by (is_left_out op) refl
      (blocks_typed ops (suc n) code guard body later typed)
      (λ more_body guard_too are_more. blocks_typed ops (suc n) (code + length (causes_of op.kind)) guard_too more_body later are_more)
    where
      later : (k : ℕ) → slice_get image.ops (suc n + k) ≡ slice_get ops k
      later k = let e : suc n + k ≡ n + suc k = omega arith in ap (slice_get image.ops) e ∙ stand (suc k)

      here : slice_get image.ops n ≡ Some op
      here = let e : n ≡ n + 0 = omega arith in ap (slice_get image.ops) e ∙ stand 0

      by : (b : Bool) → is_left_out op ≡ b → AreTyped types (blocks image guard body code ops)
          → ((more_body : Statements) (guard_too : ℕ) → AreTyped types more_body → AreTyped types (blocks image guard_too more_body (code + length (causes_of op.kind)) ops))
          → AreTyped types (blocks image guard body code (op ∷ ops))
      by true e out with_more = rw e out
      by false e out with_more =
          let did = doing_typed n code op op.kind refl here e (operation_at image right n op here).kind in
          rw e (split (nat_eq op.guard guard) (with_more (joined body (doing image code op.kind)) guard (joined_typed types body (doing image code op.kind) typed did))
          (block_typed types image guard body _ typed (with_more (doing image code op.kind) op.guard did)))
        where
          split : (b : Bool) → AreTyped types (blocks image guard (joined body (doing image code op.kind)) (code + length (causes_of op.kind)) ops)
              → AreTyped types (block image guard body (blocks image op.guard (doing image code op.kind) (code + length (causes_of op.kind)) ops))
              → AreTyped types (if b then blocks image guard (joined body (doing image code op.kind)) (code + length (causes_of op.kind)) ops
              else block image guard body (blocks image op.guard (doing image code op.kind) (code + length (causes_of op.kind)) ops))
          split true one_is two_is = one_is
          split false one_is two_is = two_is

  given_so : (x : ℕ) (kind : Kind) → takes_value (taken kind) (value_given x kind) ≡ true
  given_so x Integer = refl
  given_so x Boolean = refl
  given_so x Event = refl

  giving_typed : (signals : List ImageSignal) (y : ℕ) → ((k : ℕ) (signal : ImageSignal) → slice_get signals k ≡ Some signal → HasPrototype types.outputs (y + k) signal.kind)
      → AreTyped types (giving image y signals)
  giving_typed [] y have = (tt, tt)
  giving_typed (signal ∷ signals) y have =
      let here : y + 0 ≡ y = omega arith in
      let has = have 0 signal refl in (
        (
          ap (λ (i : ℕ). may_give (slice_get types.outputs i) (value_given (image.inputs + y) signal.kind)) (sym here)
              ∙ ap (λ (p : Option Prototype). may_give p (value_given (image.inputs + y) signal.kind)) has.at
              ∙ ap (λ (t : Option Width). takes_value t (value_given (image.inputs + y) signal.kind)) has.takes
              ∙ given_so (image.inputs + y) signal.kind,
          tt,
        ),
        giving_typed signals (suc y) (λ k other is. let e : y + suc k ≡ suc y + k = omega arith in let it = have (suc k) other is in
            record { prototype = it.prototype; at = ap (slice_get types.outputs) (sym e) ∙ it.at; takes = it.takes }),
      )

  outputs_have : (k : ℕ) (signal : ImageSignal) → slice_get (outputs_in image) k ≡ Some signal → HasPrototype types.outputs (0 + k) signal.kind
  outputs_have k signal is =
      let c = outputs_length image right names named in
      let lt = slice_get_within (outputs_in image) k signal is in
      let inside : k < image.outputs = omega (arith, lt, c) in
      let e : 0 + k ≡ k = omega arith in
      let at : slice_get image.signals (image.inputs + k) ≡ Some signal = sym (past image.inputs image.signals k) ∙ sym (within image.outputs _ k inside) ∙ is in
      let it = output_prototype image right names named k signal.kind inside (ap kind_in at) in
      record { prototype = it.prototype; at = ap (slice_get types.outputs) e ∙ it.at; takes = it.takes }

  pub step_typed : AreTyped types (step_in image names)
  step_typed =
      joined_typed types (ignoring names.unread) _ (ignoring_typed types names.unread)
      (joined_typed types (blocks image 1 none 1 image.ops) _ (blocks_typed image.ops 0 1 1 none (λ k. let e : 0 + k ≡ k = omega arith in ap (slice_get image.ops) e) tt)
      (joined_typed types (storing image 0 image.memories) (giving image 0 (outputs_in image)) (storing_typed types image image.memories 0) (giving_typed (outputs_in image) 0 outputs_have)))
