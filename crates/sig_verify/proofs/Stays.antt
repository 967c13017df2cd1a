-- What stays as diagrams are made.
use Rattle.sig_verify.proofs.Common.{nat_cmp, ◌≡◌, ℕ, Bool, true, List, Option, None, Some, refl, sym, subst, ◌∙◌, BTreeMap, get, IfSome, slice_get, AreGood, AreOf, AreTold, IsGood, IsScene, IsTold, all_asked, asked, asked_of, guard_at, is_written, true_at, Follows, IsOf, ImageView, Ref, SigId, Diagrams, Told}
use Rattle.sig_verify.proofs.Calls.{for_kept, of_kept, test_kept}

-- what holds of the entry of a table, if there is one
pub if_some : {A : Type 0} (P Q : A → Type 0) → ((x : A) → P x → Q x) → (o : Option A) → IfSome o P → IfSome o Q
if_some P Q f None h = tt
if_some P Q f (Some x) h = f x h

module _ (n : ℕ) (old new : Diagrams) (follows : Follows n old new) where
  pub are_of_kept : (written : BTreeMap ℕ Ref) → AreOf old written → AreOf new written
  are_of_kept written of x = if_some (IsOf old) (IsOf new) (of_kept n old new follows) (get nat_cmp written x) (of x)

  true_kept : (o : Option Ref) → IfSome o (IsOf old) → (truths : List Bool) → true_at new.store.nodes o truths ≡ true_at old.store.nodes o truths
  true_kept None of truths = refl
  true_kept (Some r) of truths = test_kept n old new follows r of truths

  pub written_kept : (written : BTreeMap ℕ Ref) → AreOf old written → (x : ℕ) (truths : List Bool) → is_written new.store.nodes written x truths ≡ is_written old.store.nodes written x truths
  written_kept written of x truths = true_kept (get nat_cmp written x) (of x) truths

  asked_of_kept : (written : BTreeMap ℕ Ref) → AreOf old written → (o : Option SigId) (truths : List Bool) → asked_of new.store.nodes written o truths ≡ asked_of old.store.nodes written o truths
  asked_of_kept written of None truths = refl
  asked_of_kept written of (Some x) truths = written_kept written of x.0 truths

  pub asked_kept : (image : ImageView) (written : BTreeMap ℕ Ref) → AreOf old written → asked new image written ≡ asked old image written
  asked_kept image written of = λ j v truths. asked_of_kept written of (slice_get image.conditions v) truths j

  pub scene_kept : (image : ImageView) (written : BTreeMap ℕ Ref) → IsScene old image written → IsScene new image written
  scene_kept image written scene = record {
    right = follows.right;
    conditions = follows.conditions ∙ scene.conditions;
    of = are_of_kept written scene.of;
  }

  told_still : (exact : Bool) (image : ImageView) (w : ℕ → List Bool → Bool) (k : ℕ) (told : Told) → IsTold exact old image w k told → IsTold exact new image w k told
  told_still exact image w k told h = record {
    function = for_kept n old new follows _ told.function h.function;
    of = of_kept n old new follows told.written h.of;
    sure = λ ts e. h.sure ts (sym (test_kept n old new follows told.written h.of ts) ∙ e);
    all = λ e ts a. test_kept n old new follows told.written h.of ts ∙ h.all e ts a;
  }

  pub is_told_kept : (exact : Bool) (image : ImageView) (was is : ℕ → List Bool → Bool) → is ≡ was → (k : ℕ) (told : Told) → IsTold exact old image was k told → IsTold exact new image is k told
  is_told_kept exact image was is same k told h = subst (λ w. IsTold exact new image w k told) (sym same) (told_still exact image was k told h)

  pub are_told_kept : (exact : Bool) (image : ImageView) (written : BTreeMap ℕ Ref) → AreOf old written → (table : BTreeMap ℕ Told)
      → AreTold exact old image (asked old image written) table → AreTold exact new image (asked new image written) table
  are_told_kept exact image written of table are k =
      if_some (IsTold exact old image (asked old image written) k) (IsTold exact new image (asked new image written) k)
      (is_told_kept exact image (asked old image written) (asked new image written) (asked_kept image written of) k) (get nat_cmp table k) (are k)

  pub good_kept : (image : ImageView) (written : BTreeMap ℕ Ref) → AreOf old written → (k : ℕ) (r : Ref) → IsGood old image written k r → IsGood new image written k r
  good_kept image written of k r h = record {
    function = for_kept n old new follows _ r h.function;
    asks = subst (λ w. (truths : List Bool) → all_asked w (guard_at image k) truths ≡ true) (sym (asked_kept image written of)) h.asks;
  }

  pub are_good_kept : (image : ImageView) (written : BTreeMap ℕ Ref) → AreOf old written → (guards : BTreeMap ℕ Ref) → AreGood old image written guards → AreGood new image written guards
  are_good_kept image written of guards are k = if_some (IsGood old image written k) (IsGood new image written k) (good_kept image written of k) (get nat_cmp guards k) (are k)
