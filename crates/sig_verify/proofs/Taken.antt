-- What is known once an operation is taken in, and why one is not.
use Rattle.sig_verify.proofs.Common.{nat_cmp, ◌≡◌, ℕ, ◌+◌, ◌*◌, ◌<◌, ◌≤◌, ◌^◌, zero, suc, Bool, true, false, List, length, Option, None, Some, inl, inr, refl, sym, ap, subst, ◌∙◌, ◌⊎◌, arith, mul-le-mul, pow-suc, get, ◌↔◌, ◌||◌, ◌&&◌, nat_eq, slice_get, eq-eqb, eqb-true, IsWrittenBefore, Writes, guarded_in, guards_of, ImageOp, AreGood, AreTold, IsGood, IsScene, IsTold, asked, asked_of, choices, guard_at, is_written, target_of, Follows, IsRefusal, IsKnown, IsTakenIn, IsWant, is_target, IsBeyondBound, Budget, DdAnswer, ImageView, IsImage, NODES, OutOfMemory, Ref, SigId, test, value_at, Diagrams, Verifier, Told, and_from, and_parts, or_left, or_right}
use Rattle.sig_verify.proofs.Asks.{asked_more}
use Rattle.sig_verify.proofs.Calls.{for_kept, of_kept, test_kept}
use Rattle.sig_verify.proofs.GuardNodes.{few_choices}
use Rattle.sig_verify.proofs.Sound.{at_guarded, before_cases, before_more, before_now, no_target, target_writes, target_written}
use Rattle.sig_verify.proofs.Stays.{if_some, scene_kept, written_kept}

-- ---- how many calls there were

pub four : (k : ℕ) → 4 ^ k ≡ 2 ^ k * 2 ^ k
four zero = refl
four (suc k) =
    let below = four k in
    let one = pow-suc 4 k in
    let two = pow-suc 2 k in
    let square : 2 ^ suc k * 2 ^ suc k ≡ (2 ^ k * 2) * (2 ^ k * 2) = (λ i. two i * two i) in
    omega (arith, below, one, square)

beyond_by : (limit nodes k n ops calls p q : ℕ) → q ≡ p * p → n < ops → calls ≤ (n + 1) * (10 * p) → limit < calls * p → limit < nodes + k + 16 * q * (ops + 1)
beyond_by limit nodes k n ops calls p q square lt few refused =
    let most : calls * p ≤ ((n + 1) * (10 * p)) * p = mul-le-mul few (omega arith) in
    let flat : ((n + 1) * (10 * p)) * p ≡ 10 * ((n + 1) * (p * p)) = omega arith in
    let again : (n + 1) * (p * p) ≡ (n + 1) * q = ap (λ m. (n + 1) * m) (sym square) in
    let more : (n + 1) * q ≤ (ops + 1) * q = mul-le-mul (omega arith) (omega arith) in
    let turned : 16 * q * (ops + 1) ≡ 16 * ((ops + 1) * q) = omega arith in
    let all : 10 * ((ops + 1) * q) ≤ 16 * ((ops + 1) * q) = omega arith in
    omega (arith, most, flat, again, more, turned, all, refused)

-- so many calls in all, up to an operation, where one was refused
pub beyond : (image : ImageView) (n calls : ℕ) → n < length image.ops → calls ≤ (n + 1) * (10 * 2 ^ length image.conditions) → NODES < calls * 2 ^ length image.conditions → IsBeyondBound image
beyond image n calls lt few refused =
    beyond_by NODES (length image.nodes) (length image.conditions) n (length image.ops) calls (2 ^ length image.conditions) (4 ^ length image.conditions)
    (four (length image.conditions)) lt few refused

pub wants : (image : ImageView) (n : ℕ) → n < length image.ops → (d : Diagrams) (more : ℕ) → d.conditions ≡ length image.conditions → d.calls + more ≤ (n + 1) * (10 * 2 ^ length image.conditions)
    → (answer : DdAnswer) → IsRefusal d more answer → IsWant image answer
wants image n lt d more same few (Budget nodes) h =
    (h.0, beyond image n (d.calls + more) lt few (subst (λ k. NODES < (d.calls + more) * 2 ^ k) same h.1))
wants image n lt d more same few OutOfMemory h = tt

-- the calls for one more operation
pub calls_for : (image : ImageView) → IsImage image → (n guard calls : ℕ) → guard < length image.nodes + 2 → calls ≤ n * (10 * 2 ^ length image.conditions)
    → calls + 10 * choices (guard_at image guard) + 1 ≤ (n + 1) * (10 * 2 ^ length image.conditions)
calls_for image is n guard calls lt few =
    let own = few_choices image is guard lt in
    let one_more : (n + 1) * (10 * 2 ^ length image.conditions) ≡ n * (10 * 2 ^ length image.conditions) + 10 * 2 ^ length image.conditions = omega arith in
    omega (arith, own, one_more, few)

-- ---- truths

or_cases : (a b c : Bool) → (a || (b && c)) ≡ true → (a ≡ true) ⊎ ((b ≡ true) × (c ≡ true))
or_cases true b c h = inl refl
or_cases false b c h = inr (and_parts b c h)

-- the target is the signal of its number
target_is : (o : Option SigId) (x : SigId) → is_target o x.0 ≡ true → o ≡ Some x
target_is None x h = absurd cc
target_is (Some y) x h = let e : y.0 ≡ x.0 = eqb-true y.0 x.0 h in (λ i. Some (record { 0 = e i }))

-- ---- the next operation

module _ (image : ImageView) (n : ℕ) (op : ImageOp) (at : slice_get image.ops n ≡ Some op) (old mid : Verifier) (known : IsKnown image n old) (c : ℕ) (follows : Follows c old.diagrams mid.diagrams) (same : mid.written ≡ old.written) where
  pub scene_mid : IsScene mid.diagrams image mid.written
  scene_mid = subst (λ w. IsScene mid.diagrams image w) (sym same) (scene_kept c old.diagrams mid.diagrams follows image old.written known.scene)

  told_by : (x : SigId) (truths : List Bool) → (is_written mid.diagrams.store.nodes old.written x.0 truths ≡ true) ↔ IsWrittenBefore (guards_of image).ops n truths x
  told_by x truths =
      let e = written_kept c old.diagrams mid.diagrams follows old.written known.scene.of x.0 truths in
      (λ h. (known.written x truths).0 (sym e ∙ h), λ before. e ∙ (known.written x truths).1 before)

  -- the table still tells where they wrote
  pub told_mid : (x : SigId) (truths : List Bool) → (is_written mid.diagrams.store.nodes mid.written x.0 truths ≡ true) ↔ IsWrittenBefore (guards_of image).ops n truths x
  told_mid = subst (λ w. (x : SigId) (truths : List Bool) → (is_written mid.diagrams.store.nodes w x.0 truths ≡ true) ↔ IsWrittenBefore (guards_of image).ops n truths x) (sym same) told_by

  module _ (good : AreGood mid.diagrams image mid.written mid.guards) (all_told : AreTold false mid.diagrams image (asked mid.diagrams image mid.written) mid.told) (r : Ref) (is : IsGood mid.diagrams image mid.written op.guard r)
      (new : Verifier) (followed : Follows 1 mid.diagrams new.diagrams) (guards : new.guards ≡ mid.guards) (tells : new.told ≡ mid.told) (taken : IsTakenIn mid.diagrams mid.written new.diagrams new.written (target_of op.kind) r) where
    wrote : (x : SigId) (truths : List Bool) → is_written new.diagrams.store.nodes new.written x.0 truths ≡ true → IsWrittenBefore (guards_of image).ops (n + 1) truths x
    wrote x truths h =
        elim (or_cases (is_written mid.diagrams.store.nodes mid.written x.0 truths) (is_target (target_of op.kind) x.0) (test mid.diagrams.store.nodes r truths) (sym (taken.written x.0 truths) ∙ h)) [
          | inl a ↦ before_more (guards_of image).ops n (guarded_in image.nodes op) (at_guarded image n op at) truths x ((told_mid x truths).0 a)
          | inr p ↦ before_now (guards_of image).ops n (guarded_in image.nodes op) (at_guarded image n op at) truths x
              (sym (is.function.is.function truths) ∙ p.1) (target_writes op.kind x (target_is (target_of op.kind) x p.0))
        ]

    own : (x : SigId) (truths : List Bool) → value_at (guard_at image op.guard) truths ≡ true → Writes op.kind x → (o : Option SigId) → target_of op.kind ≡ o
        → (is_target o x.0 && test mid.diagrams.store.nodes r truths) ≡ true
    own x truths holds writes None e = absurd (no_target op.kind e x writes)
    own x truths holds writes (Some y) e =
        and_from (nat_eq y.0 x.0) (test mid.diagrams.store.nodes r truths)
        (eq-eqb y.0 x.0 (sym (ap (λ (z : SigId). z.0) (target_written op.kind y e x writes)))) (is.function.is.function truths ∙ holds)

    written_before : (x : SigId) (truths : List Bool) → IsWrittenBefore (guards_of image).ops (n + 1) truths x → is_written new.diagrams.store.nodes new.written x.0 truths ≡ true
    written_before x truths before =
        taken.written x.0 truths
        ∙ elim (before_cases (guards_of image).ops n (guarded_in image.nodes op) (at_guarded image n op at) truths x before) [
          | inl b ↦ or_left (is_written mid.diagrams.store.nodes mid.written x.0 truths) (is_target (target_of op.kind) x.0 && test mid.diagrams.store.nodes r truths) ((told_mid x truths).1 b)
          | inr p ↦ or_right (is_written mid.diagrams.store.nodes mid.written x.0 truths) (is_target (target_of op.kind) x.0 && test mid.diagrams.store.nodes r truths)
              (own x truths p.0 p.1 (target_of op.kind) refl)
        ]

    -- what was written stays written
    rises : (truths : List Bool) (o : Option SigId) → asked_of mid.diagrams.store.nodes mid.written o truths ≡ true → asked_of new.diagrams.store.nodes new.written o truths ≡ true
    rises truths None h = h
    rises truths (Some x) h =
        taken.written x.0 truths ∙ or_left (is_written mid.diagrams.store.nodes mid.written x.0 truths) (is_target (target_of op.kind) x.0 && test mid.diagrams.store.nodes r truths) h

    good_next : (k : ℕ) (g : Ref) → IsGood mid.diagrams image mid.written k g → IsGood new.diagrams image new.written k g
    good_next k g h = record {
      function = for_kept 1 mid.diagrams new.diagrams followed (value_at (guard_at image k)) g h.function;
      asks = λ truths. asked_more (asked mid.diagrams image mid.written) (asked new.diagrams image new.written) (guard_at image k) truths
          (λ v a. rises truths (slice_get image.conditions v) a) (h.asks truths);
    }

    told_next : (k : ℕ) (t : Told) → IsTold false mid.diagrams image (asked mid.diagrams image mid.written) k t → IsTold false new.diagrams image (asked new.diagrams image new.written) k t
    told_next k t h = record {
      function = for_kept 1 mid.diagrams new.diagrams followed (value_at (guard_at image k)) t.function h.function;
      of = of_kept 1 mid.diagrams new.diagrams followed t.written h.of;
      sure = λ truths e. asked_more (asked mid.diagrams image mid.written) (asked new.diagrams image new.written) (guard_at image k) truths
          (λ v a. rises truths (slice_get image.conditions v) a) (h.sure truths (sym (test_kept 1 mid.diagrams new.diagrams followed t.written h.of truths) ∙ e));
      all = λ never. absurd cc;
    }

    pub known_next : new.diagrams.calls ≤ (n + 1) * (10 * 2 ^ length image.conditions) → new.work.pairs ≤ (n + 1) * (3 * 2 ^ length image.conditions) → IsKnown image (n + 1) new
    known_next few few_pairs = record {
      scene = record { right = followed.right; conditions = followed.conditions ∙ scene_mid.conditions; of = taken.of };
      good = subst (λ g. AreGood new.diagrams image new.written g) (sym guards)
          (λ k. if_some (IsGood mid.diagrams image mid.written k) (IsGood new.diagrams image new.written k) (good_next k) (get nat_cmp mid.guards k) (good k));
      told = subst (λ g. AreTold false new.diagrams image (asked new.diagrams image new.written) g) (sym tells)
          (λ k. if_some (IsTold false mid.diagrams image (asked mid.diagrams image mid.written) k) (IsTold false new.diagrams image (asked new.diagrams image new.written) k) (told_next k) (get nat_cmp mid.told k) (all_told k));
      written = λ x truths. (wrote x truths, written_before x truths);
      calls = few;
      pairs = few_pairs;
    }
