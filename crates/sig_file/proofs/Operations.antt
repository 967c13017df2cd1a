-- Operations, both ways.
use Rattle.sig_file.proofs.Common.{◌≡◌, ℕ, ◌+◌, ◌<◌, ◌≤◌, ◌^◌, Bool, true, List, [], ◌∷◌, ◌++◌, length, Option, None, Some, refl, sym, ap, ◌∙◌, subst, arith, append_assoc, ltb, ltb-true, lt-ltb, ℤ, pos, w64, Kind, FunOp, Operand, SIGNALS, field_bytes, long_bytes, number_bytes, op_bytes, op_number, fields_at, op_at, op_tags, signal_id, IsOperation, MayDo, Scope, accepts, accepts_value, are_operands, is_same, kind_at, memory_at, OpTag, ImageOp, ImageOpKind, ImageSignal}
use Rattle.sig_file.specs.declared.choice.OpTag.TheVariants as tag
use Rattle.sig_file.specs.declared.images.ImageOpKind.TheVariants as does
use Rattle.sig_file.proofs.Choices.{op_tags_numbered, op_tags_there, tag_number}
use Rattle.sig_file.proofs.Fields.{Reads, choice_reads, if_reads, last_reads, long_reads, number_reads, reads_so, then_reads}
use Rattle.sig_file.proofs.Items.{rule_reads}
use Rattle.sig_file.proofs.Operands.{IsFunctionFor, function_bytes, function_reads}
use Rattle.sig_file.proofs.Values.{accepted_value, memory_below, none_accepts, none_same, none_value, signal_below}
use mir.Val.{SFits}

-- what operations name is not too much
pub record IsSmall (scope : Scope) : Type 0 where
  pub signals : length scope.signals ≤ SIGNALS
  pub inputs : scope.inputs ≤ length scope.signals
  pub memories : length scope.memories ≤ 512
  pub nodes : scope.nodes + 2 < 2 ^ 32

-- ---- what an operation does, and the parts of it

abbrev tag_of : ImageOpKind → OpTag
tag_of (does.Read x) = tag.Read
tag_of (does.Fun y op operands) = tag.Fun
tag_of (does.Copy y x) = tag.Copy
tag_of (does.Const y value) = tag.Const
tag_of (does.DelayRead y m) = tag.DelayRead
tag_of (does.Store m x) = tag.Store

-- its first and its second number, and its constant
abbrev first_in : ImageOpKind → ℕ
first_in (does.Read x) = x.0
first_in (does.Fun y op operands) = y.0
first_in (does.Copy y x) = y.0
first_in (does.Const y value) = y.0
first_in (does.DelayRead y m) = y.0
first_in (does.Store m x) = m

abbrev second_in : ImageOpKind → ℕ
second_in (does.Copy y x) = x.0
second_in (does.DelayRead y m) = m
second_in (does.Store m x) = x.0
second_in other = 0

abbrev constant_in : ImageOpKind → ℤ
constant_in (does.Const y value) = value
constant_in other = pos 0

abbrev reading : ℕ → ImageOpKind
reading x = does.Read (signal_id x)

abbrev copying : ℕ → ℕ → ImageOpKind
copying y x = does.Copy (signal_id y) (signal_id x)

abbrev giving : ℕ → ℤ → ImageOpKind
giving y value = does.Const (signal_id y) value

abbrev recalling : ℕ → ℕ → ImageOpKind
recalling y m = does.DelayRead (signal_id y) m

abbrev storing : ℕ → ℕ → ImageOpKind
storing m x = does.Store m (signal_id x)

-- what is read behind the place of an operation of this kind
abbrev IsOf : Scope → OpTag → ImageOpKind → Type 0
IsOf scope t kind = MayDo scope kind × (tag_of kind ≡ t)

module _ (scope : Scope) (small : IsSmall scope) where
  abbrev IsNumber : (ℕ → Bool) → ℕ → Type 0
  IsNumber rule n = (n < 2 ^ 32) × (rule n ≡ true)

  abbrev below : ℕ → ℕ → Bool
  below limit n = ltb n limit

  abbrev copy_rule : ℕ → ℕ → Bool
  copy_rule y x = accepts (kind_at scope.signals y) (kind_at scope.signals x)

  abbrev recall_rule : ℕ → ℕ → Bool
  recall_rule y m = is_same (kind_at scope.signals y) (memory_at scope.memories m)

  abbrev store_rule : ℕ → ℕ → Bool
  store_rule m x = accepts (memory_at scope.memories m) (kind_at scope.signals x)

  -- what the fields behind a tag tell
  abbrev Right : OpTag → ImageOpKind → Type 0
  Right tag.Read k = IsNumber (below scope.inputs) (first_in k) × (reading (first_in k) ≡ k)
  Right tag.Fun k = IsNumber (below (length scope.signals)) (first_in k) × IsFunctionFor scope.signals (first_in k) k
  Right tag.Copy k = IsNumber (below (length scope.signals)) (first_in k) × (IsNumber (copy_rule (first_in k)) (second_in k) × (copying (first_in k) (second_in k) ≡ k))
  Right tag.Const k = IsNumber (below (length scope.signals)) (first_in k) × ((SFits w64 (constant_in k) × (accepts_value (kind_at scope.signals (first_in k)) (constant_in k) ≡ true)) × (giving (first_in k) (constant_in k) ≡ k))
  Right tag.DelayRead k = IsNumber (below (length scope.signals)) (first_in k) × (IsNumber (recall_rule (first_in k)) (second_in k) × (recalling (first_in k) (second_in k) ≡ k))
  Right tag.Store k = IsNumber (below (length scope.memories)) (first_in k) × (IsNumber (store_rule (first_in k)) (second_in k) × (storing (first_in k) (second_in k) ≡ k))

  -- so much is an operation
  to : (t : OpTag) (k : ImageOpKind) → Right t k → IsOf scope t k
  to tag.Read k h = subst (IsOf scope tag.Read) h.1 (ltb-true (first_in k) scope.inputs h.0.1, refl)
  to tag.Fun k h = subst (IsOf scope tag.Fun) h.1.1 (h.1.0, refl)
  to other k h = subst (IsOf scope other) h.1.1 (h.1.0.1, refl)

  none_of_none : (signals : List ImageSignal) (op : FunOp) (kind : Option Kind) (xs : List Operand) → are_operands signals op kind xs ≡ true → kind ≡ None → ⊥
  none_of_none signals op None xs e h = absurd cc
  none_of_none signals op (Some kind) xs e h = absurd cc

  -- and back
  told : (k : ImageOpKind) → MayDo scope k → Right (tag_of k) k
  told (does.Read x) may = (((let lt : x.0 < scope.inputs = may in omega (arith, small.signals, small.inputs)), lt-ltb _ _ may), refl)
  told (does.Fun y op operands) may =
      let fits = may.fit in
      let lt : y.0 < length scope.signals = signal_below scope.signals y.0 (none_of_none scope.signals op (kind_at scope.signals y.0) operands fits) in
      ((omega (arith, small.signals), lt-ltb _ _ lt), (may, refl))
  told (does.Copy y x) may =
      let some = none_accepts (kind_at scope.signals y.0) (kind_at scope.signals x.0) may in
      let target : y.0 < length scope.signals = signal_below scope.signals y.0 some.0 in
      let source : x.0 < length scope.signals = signal_below scope.signals x.0 some.1 in
      ((omega (arith, small.signals), lt-ltb _ _ target), ((omega (arith, small.signals), may), refl))
  told (does.Const y value) may =
      let target : y.0 < length scope.signals = signal_below scope.signals y.0 (none_value (kind_at scope.signals y.0) value may) in
      ((omega (arith, small.signals), lt-ltb _ _ target), ((accepted_value (kind_at scope.signals y.0) value may, may), refl))
  told (does.DelayRead y m) may =
      let some = none_same (kind_at scope.signals y.0) (memory_at scope.memories m) may in
      let target : y.0 < length scope.signals = signal_below scope.signals y.0 some.0 in
      let memory : m < length scope.memories = memory_below scope.memories m some.1 in
      ((omega (arith, small.signals), lt-ltb _ _ target), ((omega (arith, small.memories), may), refl))
  told (does.Store m x) may =
      let some = none_accepts (memory_at scope.memories m) (kind_at scope.signals x.0) may in
      let memory : m < length scope.memories = memory_below scope.memories m some.0 in
      let source : x.0 < length scope.signals = signal_below scope.signals x.0 some.1 in
      ((omega (arith, small.memories), lt-ltb _ _ memory), ((omega (arith, small.signals), may), refl))

  from : (t : OpTag) (k : ImageOpKind) → IsOf scope t k → Right t k
  from t k h = subst (λ (own : OpTag). Right own k) h.1 (told k h.0)

  -- ---- the bytes of each

  abbrev bytes_by : OpTag → ImageOpKind → List ℕ
  bytes_by tag.Read k = number_bytes (first_in k)
  bytes_by tag.Fun k = number_bytes (first_in k) ++ function_bytes k
  bytes_by tag.Const k = number_bytes (first_in k) ++ long_bytes (constant_in k)
  bytes_by other k = number_bytes (first_in k) ++ number_bytes (second_in k)

  own_bytes : (k : ImageOpKind) → bytes_by (tag_of k) k ≡ field_bytes k
  own_bytes (does.Read x) = refl
  own_bytes other = refl

  bytes_are : (t : OpTag) (k : ImageOpKind) → Right t k → bytes_by t k ≡ field_bytes k
  bytes_are t k h = subst (λ (own : OpTag). bytes_by own k ≡ field_bytes k) (to t k h).1 (own_bytes k)

  fields_reads : (t : OpTag) → Reads (fields_at scope t) (IsOf scope t) field_bytes
  unfolding fields_at
  fields_reads tag.Read =
      reads_so _ _ _ _ _ (to tag.Read) (from tag.Read) (bytes_are tag.Read)
      (last_reads _ _ _ reading first_in (λ n. refl) (rule_reads (below scope.inputs)))
  fields_reads tag.Fun =
      reads_so _ _ _ _ _ (to tag.Fun) (from tag.Fun) (bytes_are tag.Fun)
      (then_reads _ _ _ _ _ _ first_in (rule_reads (below (length scope.signals))) (λ y. function_reads scope.signals small.signals y)
      (λ y k h l. ap first_in (sym l.1)))
  fields_reads tag.Copy =
      reads_so _ _ _ _ _ (to tag.Copy) (from tag.Copy) (bytes_are tag.Copy)
      (then_reads _ _ _ _ _ _ first_in (rule_reads (below (length scope.signals)))
      (λ y. last_reads _ _ _ (copying y) second_in (λ x. refl) (rule_reads (copy_rule y)))
      (λ y k h l. ap first_in (sym l.1)))
  fields_reads tag.Const =
      reads_so _ _ _ _ _ (to tag.Const) (from tag.Const) (bytes_are tag.Const)
      (then_reads _ _ _ _ _ _ first_in (rule_reads (below (length scope.signals)))
      (λ y. last_reads _ _ _ (giving y) constant_in (λ c. refl) (if_reads _ _ _ (accepts_value (kind_at scope.signals y)) long_reads))
      (λ y k h l. ap first_in (sym l.1)))
  fields_reads tag.DelayRead =
      reads_so _ _ _ _ _ (to tag.DelayRead) (from tag.DelayRead) (bytes_are tag.DelayRead)
      (then_reads _ _ _ _ _ _ first_in (rule_reads (below (length scope.signals)))
      (λ y. last_reads _ _ _ (recalling y) second_in (λ m. refl) (rule_reads (recall_rule y)))
      (λ y k h l. ap first_in (sym l.1)))
  fields_reads tag.Store =
      reads_so _ _ _ _ _ (to tag.Store) (from tag.Store) (bytes_are tag.Store)
      (then_reads _ _ _ _ _ _ first_in (rule_reads (below (length scope.memories)))
      (λ m. last_reads _ _ _ (storing m) second_in (λ x. refl) (rule_reads (store_rule m)))
      (λ m k h l. ap first_in (sym l.1)))

  -- ---- operations

  abbrev made_op : ℕ → ℕ → ℕ → ImageOpKind → ImageOp
  made_op guard line col kind = record { kind = kind; guard = guard; at = record { line = line; col = col } }

  tag_spelled : (k : ImageOpKind) → tag_number (tag_of k) ≡ op_number k
  tag_spelled (does.Read x) = refl
  tag_spelled other = refl

  regroup : (t s : ℕ) (a b c d : List ℕ) → t ≡ s → (t ∷ []) ++ (a ++ (b ++ (c ++ d))) ≡ s ∷ (((a ++ b) ++ c) ++ d)
  regroup t s a b c d e = ap (λ (n : ℕ). n ∷ (a ++ (b ++ (c ++ d)))) e ∙ ap (λ (l : List ℕ). s ∷ l) (sym (simp append_assoc))

  pub op_reads : Reads (op_at scope) (IsOperation scope) op_bytes
  unfolding op_at
  op_reads =
      reads_so _ _ _ _ _
      (λ op h. record { guard = ltb-true _ _ h.1.0.1; line = h.1.1.0; col = h.1.1.1.0; kind = h.1.1.1.1.0.0 })
      (λ op h. (op_tags_there (tag_of op.kind), (((let lt = h.guard in omega (arith, small.nodes)), lt-ltb _ _ h.guard), (h.line, (h.col, ((h.kind, refl), refl))))))
      (λ op h. regroup (tag_number (tag_of op.kind)) (op_number op.kind) (number_bytes op.guard) (number_bytes op.at.line) (number_bytes op.at.col) (field_bytes op.kind) (tag_spelled op.kind))
      (then_reads _ _ _ _ _ _ (λ op. tag_of op.kind) (choice_reads op_tags tag_number op_tags_numbered)
      (λ t. then_reads _ _ _ _ _ _ (λ op. op.guard) (rule_reads (below (scope.nodes + 2)))
      (λ guard. then_reads _ _ _ _ _ _ (λ op. op.at.line) number_reads
      (λ line. then_reads _ _ _ _ _ _ (λ op. op.at.col) number_reads
      (λ col. last_reads _ _ _ (made_op guard line col) (λ op. op.kind) (λ k. refl) (fields_reads t))
      (λ col op h k. ap (λ (o : ImageOp). o.at.col) (sym k.1)))
      (λ line op h k. ap (λ (o : ImageOp). o.at.line) (sym k.1.1)))
      (λ guard op h k. ap (λ (o : ImageOp). o.guard) (sym k.1.1.1)))
      (λ t op h k. k.1.1.1.0.1))
