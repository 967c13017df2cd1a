-- What makes an operation sound.
use Rattle.sig_verify.proofs.Common.{◌≡◌, ℕ, ◌+◌, Bool, true, List, Option, None, Some, inl, inr, refl, sym, ap, subst, ◌∙◌, ◌⊎◌, arith, cases_lt, same_Some, slice_get-map, BTreeMap, ◌↔◌, option_map, slice_get, Guarded, IsSoundOperation, IsWrittenBefore, Reads, Writes, guarded_in, guards_of, ImageOp, ImageOpKind, IsGood, IsWrittenWhere, all_asked, asked, asked_of, guard_at, is_written, target_of, IsSoundAt, Asks, ImageView, Ref, SigId, test, value_at, Diagrams}
use Rattle.sig_file.specs.declared.images.ImageOpKind.TheVariants as does
use Rattle.sig_verify.proofs.Asks.{asked_all, asked_each}

-- ---- the signal that an operation writes

pub target_written : (kind : ImageOpKind) (y : SigId) → target_of kind ≡ Some y → (x : SigId) → Writes kind x → x ≡ y
target_written (does.Read z) y e x h = h ∙ same_Some z y e
target_written (does.Fun z op operands) y e x h = h ∙ same_Some z y e
target_written (does.Copy z source) y e x h = h ∙ same_Some z y e
target_written (does.Const z value) y e x h = h ∙ same_Some z y e
target_written (does.DelayRead z memory) y e x h = h ∙ same_Some z y e
target_written (does.Store memory z) y e x h = absurd h

pub target_writes : (kind : ImageOpKind) (y : SigId) → target_of kind ≡ Some y → Writes kind y
target_writes (does.Read z) y e = sym (same_Some z y e)
target_writes (does.Fun z op operands) y e = sym (same_Some z y e)
target_writes (does.Copy z source) y e = sym (same_Some z y e)
target_writes (does.Const z value) y e = sym (same_Some z y e)
target_writes (does.DelayRead z memory) y e = sym (same_Some z y e)
target_writes (does.Store memory z) y e = absurd cc

pub no_target : (kind : ImageOpKind) → target_of kind ≡ None → (x : SigId) → Writes kind x → ⊥
no_target (does.Store memory z) e x h = h
no_target other e x h = cc

-- ---- what the operations up to one write

module _ (ops : List Guarded) (n : ℕ) (op : Guarded) (at : slice_get ops n ≡ Some op) (truths : List Bool) (x : SigId) where
  pub before_more : IsWrittenBefore ops n truths x → IsWrittenBefore ops (n + 1) truths x
  before_more h = let lt = h.before in record { earlier = h.earlier; before = omega (arith, lt); op = h.op; is = h.is; holds = h.holds; writes = h.writes }

  pub before_now : value_at op.guard truths ≡ true → Writes op.kind x → IsWrittenBefore ops (n + 1) truths x
  before_now holds writes = record { earlier = n; before = omega arith; op = op; is = at; holds = holds; writes = writes }

  pub before_cases : IsWrittenBefore ops (n + 1) truths x → IsWrittenBefore ops n truths x ⊎ ((value_at op.guard truths ≡ true) × Writes op.kind x)
  before_cases h = elim (cases_lt h.earlier n) [
    | inl lt ↦ inl (record { earlier = h.earlier; before = lt; op = h.op; is = h.is; holds = h.holds; writes = h.writes })
    | inr le ↦
        let below = h.before in
        let same : h.earlier ≡ n = omega (arith, below, le) in
        let here : op ≡ h.op = same_Some op h.op (sym at ∙ subst (λ m. slice_get ops m ≡ Some h.op) same h.is) in
        inr (subst (λ (o : Guarded). value_at o.guard truths ≡ true) (sym here) h.holds, subst (λ (o : Guarded). Writes o.kind x) (sym here) h.writes)
  ]

-- ---- the operation of a number, once a table tells what those before it wrote

module _ (image : ImageView) (n : ℕ) (op : ImageOp) (at : slice_get image.ops n ≡ Some op) where
  pub at_guarded : slice_get (guards_of image).ops n ≡ Some (guarded_in image.nodes op)
  at_guarded = slice_get-map (guarded_in image.nodes) image.ops n ∙ ap (option_map (guarded_in image.nodes)) at

  pub sound_at : IsSoundOperation (guards_of image) n (guarded_in image.nodes op) → IsSoundAt image n
  sound_at sound other is = subst (IsSoundOperation (guards_of image) n) (same_Some (guarded_in image.nodes op) other (sym at_guarded ∙ is)) sound

  module _ (d : Diagrams) (written : BTreeMap ℕ Ref)
      (told : (x : SigId) (truths : List Bool) → (is_written d.store.nodes written x.0 truths ≡ true) ↔ IsWrittenBefore (guards_of image).ops n truths x) where
    -- a sound operation's guard asks only for what was written
    pub asks_all : IsSoundAt image n → (truths : List Bool) → all_asked (asked d image written) (guard_at image op.guard) truths ≡ true
    asks_all sound truths = asked_all (asked d image written) (guard_at image op.guard) truths (λ v asks. by v asks (slice_get image.conditions v) refl)
      where
        by : (v : ℕ) → Asks (guard_at image op.guard) truths v → (o : Option SigId) → slice_get image.conditions v ≡ o → asked_of d.store.nodes written o truths ≡ true
        by v asks None e = refl
        by v asks (Some x) e = (told x truths).1 ((sound (guarded_in image.nodes op) at_guarded).asks truths v x asks e)

    module _ (r : Ref) (good : IsGood d image written op.guard r) where
      -- it reads only what was written
      pub reads_all : IsSoundAt image n → (x : SigId) → Reads op.kind x → IsWrittenWhere d.store.nodes written r x
      reads_all sound x reads truths holds =
          (told x truths).1 ((sound (guarded_in image.nodes op) at_guarded).reads truths x (sym (good.function.is.function truths) ∙ holds) reads)

      -- and writes only what was not
      pub target_free : IsSoundAt image n → (y : SigId) → target_of op.kind ≡ Some y → (truths : List Bool) → is_written d.store.nodes written y.0 truths ≡ true → test d.store.nodes r truths ≡ true → ⊥
      target_free sound y e truths was holds =
          (sound (guarded_in image.nodes op) at_guarded).writes truths y (sym (good.function.is.function truths) ∙ holds) (target_writes op.kind y e) ((told y truths).0 was)

      module _ (reads : (x : SigId) → Reads op.kind x → IsWrittenWhere d.store.nodes written r x)
          (free : (y : SigId) → target_of op.kind ≡ Some y → (truths : List Bool) → is_written d.store.nodes written y.0 truths ≡ true → test d.store.nodes r truths ≡ true → ⊥) where
        writes_once : (truths : List Bool) (x : SigId) → value_at (guard_at image op.guard) truths ≡ true → Writes op.kind x → IsWrittenBefore (guards_of image).ops n truths x
            → (o : Option SigId) → target_of op.kind ≡ o → ⊥
        writes_once truths x holds writes before None e = no_target op.kind e x writes
        writes_once truths x holds writes before (Some y) e =
            let same = target_written op.kind y e x writes in
            free y e truths ((told y truths).1 (subst (IsWrittenBefore (guards_of image).ops n truths) same before)) (good.function.is.function truths ∙ holds)

        -- what does both, and whose guard asks only for what was written, is sound
        pub op_sound : IsSoundAt image n
        op_sound = sound_at (record {
          reads = λ truths x holds rd. (told x truths).0 (reads x rd truths (good.function.is.function truths ∙ holds));
          writes = λ truths x holds writes before. writes_once truths x holds writes before (target_of op.kind) refl;
          asks = λ truths place x asks e.
              (told x truths).0 (subst (λ o. asked_of d.store.nodes written o truths ≡ true) e (asked_each (asked d image written) (guard_at image op.guard) truths (good.asks truths) place asks));
        })
