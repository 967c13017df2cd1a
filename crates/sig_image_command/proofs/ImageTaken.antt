-- The bytes that a build writes are those of a sound image.
use Rattle.sig_image_command.proofs.Common.{◌≡◌, ◌≤◌, ℕ, List, Result, Ok, Err, IfOk, length, subst, IsAccepted, PlanView, image_bytes, ImageView, IsImage, image_of, IMAGE_BYTES, sound, AreImageBytes, TookSoundImage}

pub of_plan : (plan : PlanView) → IsAccepted plan → (bytes : List ℕ) → AreImageBytes plan bytes → IsImage (image_of plan) → TookSoundImage (λ are. bytes ≡ are)
of_plan plan accepted bytes are right = record {
  image = image_of plan;
  right = right;
  sound = sound plan accepted;
  few = subst (λ (b : List ℕ). length b ≤ IMAGE_BYTES) are.are are.few;
  took = are.are;
}

-- two facts of what a call gives
pub ok_both : {T E : Type 0} (result : Result T E) (P Q R : T → Type 0) → ((x : T) → P x → Q x → R x) → IfOk result P → IfOk result Q → IfOk result R
ok_both (Ok x) P Q R both p q = both x p q
ok_both (Err e) P Q R both p q = tt

pub took_image : {S : Type 0} (Took : List ℕ → S → Type 0) (out' : S) (bytes : List ℕ) → TookSoundImage (λ are. bytes ≡ are) → Took bytes out' → TookSoundImage (λ are. Took are out')
took_image Took out' bytes is took = record { image = is.image; right = is.right; sound = is.sound; few = is.few; took = subst (λ b. Took b out') is.took took }
