-- What amid an instant is there has its kind, and 64 bits.
use Rattle.std.proofs.Common.{◌≡◌, inl, inr, ℕ, zero, suc, ℤ, true, List, [], ◌∷◌, Option, Some, None, refl, sym, ap, subst, ◌∙◌, arith, length, slice_set, length-set}
use Rattle.sig_base.specs.Traces.{Bounded, Instant, IsValue, IsOfKind, AreOfKinds, has_64_bits, seen_at}
use Rattle.sig_base.specs.declared.ids.Kind.{Kind}
use Rattle.sig_base.specs.declared.ids.Kind.TheVariants.{Integer, Boolean, Event}
use Rattle.sig_base.specs.declared.ids.SigId.{SigId}
use Rattle.sig_file.specs.Guarded.{guards_of}
use Rattle.sig_file.specs.ImageRuns.{State, Does, cleared, opening}
use Rattle.sig_file.specs.Images.{ImageView, IsImage, IsMemory, MayDo, kind_at, memory_at, scope_of}
use Rattle.sig_file.specs.declared.images.ImageOpKind.{ImageOpKind}
use Rattle.sig_file.specs.declared.images.ImageOpKind.TheVariants as does
use Rattle.sig_exec.specs.Running.{AreFlowsOf}
use Rattle.sig_exec.proofs.Common.{each_at, fits_by_test, length-map}
use Rattle.sig_exec.proofs.FunctionKinds.{function_kind}
use Rattle.sig_exec.proofs.KeptKinds.{AreValues, Feed, Kinded, Remember, accepted, alike, begin, fed, flow_kind, flow_set, given, kind_there, kinds_of, memory_kind, memory_set, none_kinded, register_kind, register_set}
use Rattle.sig_c.specs.Meaning.{is_truth, may_hold}
use Rattle.sig_c_step.specs.Translation.{width_of_kind}

-- ---- a value of a kind

pub bits_of : (kind : Kind) (v : ℤ) → IsValue Bounded kind v → has_64_bits v ≡ true
bits_of Integer v value = (fits_by_test v).1 value
bits_of Boolean v (inl e) = ap has_64_bits e
bits_of Boolean v (inr e) = ap has_64_bits e
bits_of Event v e = ap has_64_bits e

-- a variable of its type may hold it
pub held : (kind : Kind) (v : ℤ) → IsValue Bounded kind v → may_hold (width_of_kind kind) v ≡ true
held Integer v value = (fits_by_test v).1 value
held Boolean v (inl e) = ap is_truth e
held Boolean v (inr e) = ap is_truth e
held Event v e = ap is_truth e

pub kinded_length : (kinds : List Kind) (registers : Instant) → AreOfKinds Bounded kinds registers → length registers ≡ length kinds
kinded_length [] [] are = refl
kinded_length [] (seen ∷ registers) are = absurd are
kinded_length (kind ∷ kinds) [] are = absurd are
kinded_length (kind ∷ kinds) (seen ∷ registers) are = ap suc (kinded_length kinds registers are.1)

pub register_bits : (kinds : List Kind) (registers : Instant) (x : ℕ) (v : ℤ) → AreOfKinds Bounded kinds registers → seen_at registers x ≡ Some v → has_64_bits v ≡ true
register_bits [] [] x v are there = absurd (let e : None ≡ Some v = there in cc e)
register_bits [] (seen ∷ registers) x v are there = absurd are
register_bits (kind ∷ kinds) [] x v are there = absurd are
register_bits (kind ∷ kinds) (seen ∷ registers) zero v are there = bits_of kind v (subst (λ (o : Option ℤ). IsOfKind Bounded kind o) there are.0)
register_bits (kind ∷ kinds) (seen ∷ registers) (suc x) v are there = register_bits kinds registers x v are.1 there

-- ---- a state

-- registers, memories and flows have values of their kinds
pub record AreKinded (image : ImageView) (s : State) : Type 0 where
  pub registers : Kinded image.signals s.registers
  pub memories : Remember image.memories s.memories
  pub count : length s.memories ≡ length image.memories
  pub flows : Feed image.signals s.flows

pub as_many : (image : ImageView) (s : State) → AreKinded image s → length s.registers ≡ length image.signals
as_many image s are = kinded_length (kinds_of image.signals) s.registers are.registers ∙ length-map image.signals (λ signal. signal.kind)

module _ (image : ImageView) (right : IsImage image) where
  wrote : (y : SigId) (kind : Kind) (v : ℤ) (s t : State) → AreKinded image s → kind_at image.signals y.0 ≡ Some kind → IsValue Bounded kind v
      → t ≡ (record s { registers = slice_set s.registers y.0 (Some v) }) → AreKinded image t
  wrote y kind v s t are is value same =
      subst (AreKinded image) (sym same)
      (record { registers = register_set image.signals s.registers y.0 kind v are.registers is value; memories = are.memories; count = are.count; flows = are.flows })

  pub does_kinded : (op : ImageOpKind) (s t : State) → MayDo (scope_of image) op → AreKinded image s → Does op s t → AreKinded image t
  does_kinded (does.Read x) s t may are (v, rest, there, same) =
      let interface = right.interface in
      let (kind, is) = kind_there image.signals x.0 (omega (arith, may, interface)) in
      let values : AreValues kind (v ∷ rest) = flow_kind image.signals s.flows x.0 kind (v ∷ rest) are.flows is there in
      wrote x kind v (record s { flows = slice_set s.flows x.0 rest }) t
      (record { registers = are.registers; memories = are.memories; count = are.count; flows = flow_set image.signals s.flows x.0 kind rest are.flows is values.1 }) is values.0 same
  does_kinded (does.Fun y op operands) s t may are (v, (values, have, gives), small, same) =
      let (kind, is, value) = function_kind image.signals s.registers are.registers op (kind_at image.signals y.0) operands values v may.fit may.count have gives small in
      wrote y kind v s t are is value same
  does_kinded (does.Copy y x) s t may are (v, there, same) =
      let (to, from, is, source, goes) = accepted (kind_at image.signals y.0) (kind_at image.signals x.0) may in
      wrote y to v s t are is (goes v (register_kind image.signals s.registers x.0 from v are.registers source there)) same
  does_kinded (does.Const y value) s t may are same =
      let (kind, is, of_kind) = given (kind_at image.signals y.0) value may in
      wrote y kind value s t are is of_kind same
  does_kinded (does.DelayRead y m) s t may are (v, there, same) =
      let (kind, is, source) = alike (kind_at image.signals y.0) (memory_at image.memories m) may in
      wrote y kind v s t are is (memory_kind image.memories s.memories m kind v are.memories source there) same
  does_kinded (does.Store m x) s t may are (v, there, same) =
      let (to, from, is, source, goes) = accepted (memory_at image.memories m) (kind_at image.signals x.0) may in
      let value : IsValue Bounded to v = goes v (register_kind image.signals s.registers x.0 from v are.registers source there) in
      subst (AreKinded image) (sym same)
      (record { registers = are.registers; memories = memory_set image.memories s.memories m to v are.memories is value; count = length-set s.memories m v ∙ are.count; flows = are.flows })

  pub cleared_kinded : (s : State) → AreKinded image s → AreKinded image (cleared (guards_of image) s)
  cleared_kinded s are = record { registers = none_kinded image.signals; memories = are.memories; count = are.count; flows = are.flows }

  -- before the first instant nothing is written
  pub begun_kinded : (flows : List (List ℤ)) → AreFlowsOf image flows → AreKinded image (cleared (guards_of image) (opening (guards_of image) flows))
  begun_kinded flows fit = record {
    registers = none_kinded image.signals;
    memories = begin image.memories (λ m memory is. each_at (λ before. IsMemory) [] image.memories m memory right.memories is);
    count = length-map image.memories (λ memory. memory.init);
    flows = fed image.signals flows (λ k signal within is. fit.kinds k signal (let c = fit.count in omega (arith, within, c)) is);
  }
