-- What the operations of an image name is there.
use Rattle.sig_exec.proofs.Common.{◌≡◌, ◌<◌, ℕ, ℤ, true, false, List, [], length, Option, None, Some, refl, sym, ap, subst, ◌∙◌, arith, take, slice_get, IsTrue, option_map, not, ◌==◌, list_any, slice_get-map, slice_get_within, Kind, SigId, FunOp, Operand, Guarded, guarded_in, guards_of, Writes, ImageView, IsImage, IsOperation, MayDo, accepts, accepts_value, are_operands, is_boolean, is_condition_behind, is_same, kind_at, kind_in, memory_at, memory_in, scope_of, ImageMemory, ImageOp, ImageOpKind, ImageSignal, each_at, bound_of, target_of, IsAmid, State, and_first}
use Rattle.sig_file.specs.declared.images.ImageOpKind.TheVariants as does
use Rattle.sig_exec.proofs.OperationOutcomes.{HasPlaces}

pub signal_of : (signals : List ImageSignal) (x : ℕ) → (kind_at signals x ≡ None → ⊥) → x < length signals
signal_of signals x some = by (slice_get signals x) refl where
  by : (o : Option ImageSignal) → slice_get signals x ≡ o → x < length signals
  by None e = absurd (some (ap kind_in e))
  by (Some signal) e = slice_get_within signals x signal e

memory_of : (memories : List ImageMemory) (m : ℕ) → (memory_at memories m ≡ None → ⊥) → m < length memories
memory_of memories m some = by (slice_get memories m) refl where
  by : (o : Option ImageMemory) → slice_get memories m ≡ o → m < length memories
  by None e = absurd (some (ap memory_in e))
  by (Some memory) e = slice_get_within memories m memory e

not_some : {A B : Type 0} (x : A) → Some x ≡ None → B
not_some {A} {B} x e = absurd (let f : Some x ≡ None = e in cc)

not_false : {B : Type 0} → false ≡ true → B
not_false {B} e = absurd (let f : false ≡ true = e in cc)

accepts_some : (o p : Option Kind) → IsTrue (accepts o p) → o ≡ None → ⊥
accepts_some None p fits e = not_false fits
accepts_some (Some k) p fits e = not_some k e

value_some : (o : Option Kind) (v : ℤ) → IsTrue (accepts_value o v) → o ≡ None → ⊥
value_some None v fits e = not_false fits
value_some (Some k) v fits e = not_some k e

same_first : (o p : Option Kind) → IsTrue (is_same o p) → o ≡ None → ⊥
same_first None p fits e = not_false fits
same_first (Some k) p fits e = not_some k e

same_second : (o p : Option Kind) → IsTrue (is_same o p) → p ≡ None → ⊥
same_second None p fits e = not_false fits
same_second (Some k) None fits e = not_false fits
same_second (Some k) (Some l) fits e = not_some l e

operands_some : (signals : List ImageSignal) (op : FunOp) (o : Option Kind) (operands : List Operand) → IsTrue (are_operands signals op o operands) → o ≡ None → ⊥
operands_some signals op None operands fits e = not_false fits
operands_some signals op (Some k) operands fits e = not_some k e

boolean_some : (o : Option Kind) → is_boolean o ≡ true → o ≡ None → ⊥
boolean_some None fits e = not_false fits
boolean_some (Some k) fits e = not_some k e

module _ (image : ImageView) (right : IsImage image) where
  pub operation_at : (n : ℕ) (op : ImageOp) → slice_get image.ops n ≡ Some op → IsOperation (scope_of image) op
  operation_at n op is = each_at (λ before. IsOperation (scope_of image)) [] image.ops n op right.ops is

  -- a condition is a signal
  pub condition_within : (n : ℕ) (x : SigId) → slice_get image.conditions n ≡ Some x → x.0 < length image.signals
  condition_within n x is =
      let rule = each_at (λ before y. IsTrue (is_condition_behind image.signals before y.0)) [] image.conditions n x right.conditions is in
      signal_of image.signals x.0 (boolean_some (kind_at image.signals x.0) (and_first (is_boolean (kind_at image.signals x.0)) (not (list_any (λ condition. condition.0 == x.0) (take n image.conditions))) rule))

  -- what an operation writes has its cell
  module _ (kind : ImageOpKind) (may : MayDo (scope_of image) kind) where
    pub writes_within : (x : SigId) → Writes kind x → x.0 < length image.signals
    writes_within x writes = by kind may writes where
      by : (k : ImageOpKind) → MayDo (scope_of image) k → Writes k x → x.0 < length image.signals
      by (does.Read y) m e = let i = right.interface in let f : x.0 ≡ y.0 = ap (λ (z : SigId). z.0) e in omega (arith, i, f, m)
      by (does.Fun y op operands) m e = subst (λ (z : SigId). z.0 < length image.signals) (sym e) (signal_of image.signals y.0 (operands_some image.signals op (kind_at image.signals y.0) operands m.fit))
      by (does.Copy y source) m e = subst (λ (z : SigId). z.0 < length image.signals) (sym e) (signal_of image.signals y.0 (accepts_some (kind_at image.signals y.0) (kind_at image.signals source.0) m))
      by (does.Const y value) m e = subst (λ (z : SigId). z.0 < length image.signals) (sym e) (signal_of image.signals y.0 (value_some (kind_at image.signals y.0) value m))
      by (does.DelayRead y memory) m e = subst (λ (z : SigId). z.0 < length image.signals) (sym e) (signal_of image.signals y.0 (same_first (kind_at image.signals y.0) (memory_at image.memories memory) m))
      by (does.Store memory source) m e = absurd e

    pub recalled_within : (y : SigId) (m : ℕ) → kind ≡ does.DelayRead y m → m < length image.memories
    recalled_within y m e =
        let fits : MayDo (scope_of image) (does.DelayRead y m) = subst (MayDo (scope_of image)) e may in
        memory_of image.memories m (same_second (kind_at image.signals y.0) (memory_at image.memories m) fits)

    pub stored_within : (m : ℕ) (x : SigId) → kind ≡ does.Store m x → m < length image.memories
    stored_within m x e =
        let fits : MayDo (scope_of image) (does.Store m x) = subst (MayDo (scope_of image)) e may in
        memory_of image.memories m (accepts_some (memory_at image.memories m) (kind_at image.signals x.0) fits)

    pub target_within : target_of image kind < bound_of image
    target_within = by kind may refl where
      by : (k : ImageOpKind) → MayDo (scope_of image) k → kind ≡ k → target_of image k < bound_of image
      by (does.Read y) m e = let w = writes_within y (subst (λ (z : ImageOpKind). Writes z y) (sym e) refl) in omega (arith, w)
      by (does.Fun y op operands) m e = let w = writes_within y (subst (λ (z : ImageOpKind). Writes z y) (sym e) refl) in omega (arith, w)
      by (does.Copy y source) m e = let w = writes_within y (subst (λ (z : ImageOpKind). Writes z y) (sym e) refl) in omega (arith, w)
      by (does.Const y value) m e = let w = writes_within y (subst (λ (z : ImageOpKind). Writes z y) (sym e) refl) in omega (arith, w)
      by (does.DelayRead y memory) m e = let w = writes_within y (subst (λ (z : ImageOpKind). Writes z y) (sym e) refl) in omega (arith, w)
      by (does.Store memory source) m e = let w = stored_within memory source e in omega (arith, w)

    pub has_places : (n : ℕ) (s : State) → IsAmid image n s → HasPlaces kind s
    has_places n s amid = by kind may refl where
      by : (k : ImageOpKind) → MayDo (scope_of image) k → kind ≡ k → HasPlaces k s
      by (does.Read y) m e = let f = amid.flows in omega (arith, m, f)
      by (does.Fun y op operands) m e = m.count
      by (does.Copy y source) m e = tt
      by (does.Const y value) m e = tt
      by (does.DelayRead y memory) m e = let w = recalled_within y memory e in let f = amid.memories in omega (arith, w, f)
      by (does.Store memory source) m e = tt

  -- ---- the operations under their guards

  pub guarded_at : (n : ℕ) (op : ImageOp) → slice_get image.ops n ≡ Some op → slice_get (guards_of image).ops n ≡ Some (guarded_in image.nodes op)
  guarded_at n op is = slice_get-map (guarded_in image.nodes) image.ops n ∙ ap (option_map (guarded_in image.nodes)) is

  pub image_op_at : (n : ℕ) (op : Guarded) → slice_get (guards_of image).ops n ≡ Some op → (found : ImageOp) × (slice_get image.ops n ≡ Some found) × (guarded_in image.nodes found ≡ op)
  image_op_at n op is = by (slice_get image.ops n) refl where
    by : (o : Option ImageOp) → slice_get image.ops n ≡ o → (found : ImageOp) × (slice_get image.ops n ≡ Some found) × (guarded_in image.nodes found ≡ op)
    by None e = absurd (let f : None ≡ Some op = sym (slice_get-map (guarded_in image.nodes) image.ops n ∙ ap (option_map (guarded_in image.nodes)) e) ∙ is in cc)
    by (Some found) e = (found, refl_some e, same (guarded_in image.nodes found) op (sym (guarded_at n found e) ∙ is)) where
      refl_some : slice_get image.ops n ≡ Some found → slice_get image.ops n ≡ Some found
      refl_some f = f

      same : (a b : Guarded) → Some a ≡ Some b → a ≡ b
      same a b f = cc

  pub may_do : (n : ℕ) (op : Guarded) → slice_get (guards_of image).ops n ≡ Some op → MayDo (scope_of image) op.kind
  may_do n op is =
      let (found, there, same) = image_op_at n op is in
      subst (λ (o : Guarded). MayDo (scope_of image) o.kind) same (operation_at n found there).kind
