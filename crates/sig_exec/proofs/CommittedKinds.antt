-- The values of committed instants are of the kinds of their signals.
use Rattle.sig_exec.proofs.Common.{◌≡◌, inl, inr, ℕ, zero, suc, ℤ, List, [], ◌∷◌, Some, refl, sym, subst, arith, slice_get, slice_set, AllByRecursion, Bounded, IsValue, Trace, Kind, SigId, Guarded, guards_of, ImageView, IsImage, IsMemory, MayDo, kind_at, memory_at, scope_of, Does, Handles, HandlesAll, IsImageRun, Runs, State, cleared, opening, ImageOpKind, ImageCause, ImageEnd, each_at, AreFlowsOf, HaveKinds}
use Rattle.sig_file.specs.declared.images.ImageOpKind.TheVariants as does
use Rattle.sig_exec.proofs.FunctionKinds.{function_kind}
use Rattle.sig_exec.proofs.KeptKinds.{AreValues, Feed, Kinded, Remember, accepted, alike, begin, fed, flow_kind, flow_set, given, kind_there, memory_kind, memory_set, none_kinded, register_kind, register_set}
use Rattle.sig_exec.proofs.Places.{may_do}

module _ (image : ImageView) (right : IsImage image) where
  -- what a state has between two instants, and within one
  record AreKept (s : State) : Type 0 where
    memories : Remember image.memories s.memories
    flows : Feed image.signals s.flows

  record AreKinded (s : State) : Type 0 where
    registers : Kinded image.signals s.registers
    kept : AreKept s

  wrote : (y : SigId) (kind : Kind) (v : ℤ) (s t : State) → AreKinded s → kind_at image.signals y.0 ≡ Some kind → IsValue Bounded kind v → t ≡ (record s { registers = slice_set s.registers y.0 (Some v) }) → AreKinded t
  wrote y kind v s t are is value same =
      subst AreKinded (sym same) (record { registers = register_set image.signals s.registers y.0 kind v are.registers is value; kept = record { memories = are.kept.memories; flows = are.kept.flows } })

  does_kinded : (op : ImageOpKind) (s t : State) → MayDo (scope_of image) op → AreKinded s → Does op s t → AreKinded t
  does_kinded (does.Read x) s t may are (v, rest, there, same) =
      let interface = right.interface in
      let (kind, is) = kind_there image.signals x.0 (omega (arith, may, interface)) in
      let values : AreValues kind (v ∷ rest) = flow_kind image.signals s.flows x.0 kind (v ∷ rest) are.kept.flows is there in
      wrote x kind v (record s { flows = slice_set s.flows x.0 rest }) t
      (record { registers = are.registers; kept = record { memories = are.kept.memories; flows = flow_set image.signals s.flows x.0 kind rest are.kept.flows is values.1 } }) is values.0 same
  does_kinded (does.Fun y op operands) s t may are (v, (values, have, gives), small, same) =
      let (kind, is, value) = function_kind image.signals s.registers are.registers op (kind_at image.signals y.0) operands values v may.fit may.count have gives small in
      wrote y kind v s t are is value same
  does_kinded (does.Copy y x) s t may are (v, there, same) =
      let (to, from, is, source, goes) = accepted (kind_at image.signals y.0) (kind_at image.signals x.0) may in
      wrote y to v s t are is (goes v (register_kind image.signals s.registers x.0 from v are.registers source there)) same
  does_kinded (does.Const y value) s t may are same =
      let (kind, is, of_kind) = given (kind_at image.signals y.0) value may in
      wrote y kind value s t are is of_kind same
  does_kinded (does.DelayRead y m) s t may are (v, there, same) =
      let (kind, is, source) = alike (kind_at image.signals y.0) (memory_at image.memories m) may in
      wrote y kind v s t are is (memory_kind image.memories s.memories m kind v are.kept.memories source there) same
  does_kinded (does.Store m x) s t may are (v, there, same) =
      let (to, from, is, source, goes) = accepted (memory_at image.memories m) (kind_at image.signals x.0) may in
      let value : IsValue Bounded to v = goes v (register_kind image.signals s.registers x.0 from v are.registers source there) in
      subst AreKinded (sym same)
      (record { registers = are.registers; kept = record { memories = memory_set image.memories s.memories m to v are.kept.memories is value; flows = are.kept.flows } })

  handles_kinded : (op : Guarded) (s t : State) → MayDo (scope_of image) op.kind → AreKinded s → Handles (guards_of image) op s t → AreKinded t
  handles_kinded op s t may are (inl did) = does_kinded op.kind s t may are did.1
  handles_kinded op s t may are (inr passed) = subst AreKinded (sym passed.1) are

  all_kinded : (ops : List Guarded) (s t : State) → ((n : ℕ) (op : Guarded) → slice_get ops n ≡ Some op → MayDo (scope_of image) op.kind) → AreKinded s → HandlesAll (guards_of image) ops s t → AreKinded t
  all_kinded [] s t may are same = subst AreKinded (sym same) are
  all_kinded (op ∷ ops) s t may are (middle, handles, all) =
      all_kinded ops middle t (λ n other is. may (suc n) other is) (handles_kinded op s middle (may 0 op refl) are handles) all

  cleared_kinded : (s : State) → AreKept s → AreKinded (cleared (guards_of image) s)
  cleared_kinded s kept = record { registers = none_kinded image.signals; kept = record { memories = kept.memories; flows = kept.flows } }

  runs_kinded : (left : ℕ) (s : State) (committed : Trace) (cause : ImageCause) → AreKept s → Runs (guards_of image) left s committed cause → AllByRecursion (HaveKinds image) committed
  runs_kinded zero s committed cause kept runs = subst (AllByRecursion (HaveKinds image)) (sym runs.0) tt
  runs_kinded (suc left) s committed cause kept (inl ended) = subst (AllByRecursion (HaveKinds image)) (sym ended.0) tt
  runs_kinded (suc left) s committed cause kept (inr (t, more, same, all, runs)) =
      let here : AreKinded t = all_kinded (guards_of image).ops (cleared (guards_of image) s) t (λ n op is. may_do image right n op is) (cleared_kinded s kept) all in
      subst (AllByRecursion (HaveKinds image)) (sym same) (here.registers, runs_kinded left t more cause here.kept runs)

  opening_kept : (flows : List (List ℤ)) → AreFlowsOf image flows → AreKept (opening (guards_of image) flows)
  opening_kept flows fit = record {
    memories = begin image.memories (λ m memory is. each_at (λ before. IsMemory) [] image.memories m memory right.memories is);
    flows = fed image.signals flows (λ k signal within is. fit.kinds k signal (let c = fit.count in omega (arith, within, c)) is);
  }

pub committed_kinds : (image : ImageView) (flows : List (List ℤ)) (limit : ℕ) (text : List ℕ) (end : ImageEnd) → IsImage image → AreFlowsOf image flows → (run : IsImageRun image flows limit text end)
    → AllByRecursion (HaveKinds image) run.committed
committed_kinds image flows limit text end right fit run =
    runs_kinded image right limit (opening (guards_of image) flows) run.committed end.cause (opening_kept image right flows fit) run.runs
