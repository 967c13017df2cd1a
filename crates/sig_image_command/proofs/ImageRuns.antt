-- An image has one run at most over given flows, and a sound one has one over flows that fit.
use Rattle.sig_image_command.proofs.Common.{◌≡◌, ℕ, ℤ, List, IsSoundImage, IsImageRun, ImageView, IsImage, ImageEnd, AreFlowsOf, some_run, one_run}

pub one_image_run : (image : ImageView) (flows : List (List ℤ)) (limit : ℕ) (text other : List ℕ) (end last : ImageEnd)
    → IsImageRun image flows limit text end → IsImageRun image flows limit other last → (text ≡ other) × (end ≡ last)
one_image_run = one_run

pub some_image_run : (image : ImageView) → IsImage image → IsSoundImage image → (flows : List (List ℤ)) (limit : ℕ) → AreFlowsOf image flows
    → (text : List ℕ) × (end : ImageEnd) × IsImageRun image flows limit text end
some_image_run image right sound flows limit fit = some_run image right sound flows limit fit.count
