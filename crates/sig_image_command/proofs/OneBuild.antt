-- The building of a program's image over told contents comes to one outcome at most.
use Rattle.sig_image_command.proofs.Common.{◌≡◌, ◌∙◌, ◌<◌, ◌≤◌, ℕ, false, List, length, inl, inr, refl, sym, ap, arith, ⊤, Contents, Kernel, image_bytes, ImageView, IMAGE_BYTES, OneAtMost, Outcome, done, long_program, IsOfLength, status_of, Refusal, LongImage, OutOfMemory, at_file_ends, one_at_program, AreRefused, IsAcceptedAs, AtPlan, compile_number, accepted_once, accepted_or_refused, refused_once, AreFewBytes, AreManyBytes, BuildComesTo, BuildsTo, HasImage, IsAboutBuild, IsBuildStatus}
use Rattle.sig_image_command.proofs.ImageOnce.{image_once}

-- the bytes of a kernel's image are not both few and many
pub bytes_apart : (kernel : Kernel) (Few Many : List ℕ → Type 0) → ((bytes : List ℕ) → Few bytes → AreFewBytes bytes) → ((bytes : List ℕ) → Many bytes → AreManyBytes bytes)
    → HasImage kernel Few → HasImage kernel Many → ⊥
bytes_apart kernel Few Many few many x y =
    let same : length (image_bytes x.image) ≡ length (image_bytes y.image) = ap (λ (image : ImageView). length (image_bytes image)) (image_once kernel x.image y.image x.of y.of) in
    let less : length (image_bytes x.image) ≤ IMAGE_BYTES = few (image_bytes x.image) x.fact in
    let more : IMAGE_BYTES < length (image_bytes y.image) = many (image_bytes y.image) y.fact in
    omega (arith, same, less, more)

one_building : (kernel : Kernel) (program : List ℕ) → OneAtMost (BuildsTo kernel program)
one_building kernel program o p (inl x) (inl y) =
    x.fact.1 ∙ ap (λ (image : ImageView). done (image_bytes image) program) (image_once kernel x.image y.image x.of y.of) ∙ sym y.fact.1
one_building kernel program o p (inl x) (inr y) = absurd (bytes_apart kernel _ _ (λ bytes fact. fact.0) (λ bytes fact. fact.0) x y)
one_building kernel program o p (inr x) (inl y) = absurd (bytes_apart kernel _ _ (λ bytes fact. fact.0) (λ bytes fact. fact.0) y x)
one_building kernel program o p (inr x) (inr y) = x.fact.1 ∙ sym y.fact.1

pub one_build_outcome : (program : List ℕ) (held : Contents) → OneAtMost (BuildComesTo held program)
one_build_outcome program held =
    one_at_program (IsAcceptedAs false) (AreRefused false) (accepted_once false) (refused_once false) (accepted_or_refused false) held program
    (λ kernel. BuildsTo kernel program) (λ kernel bytes is. one_building kernel program)

-- a program file that gives no plan ends it
pub plan_refuses : (program : List ℕ) (held : Contents) (o : Outcome) → AtPlan false held program (λ _ _. ⊥) o → BuildComesTo held program o
plan_refuses program held o x = (x.0, x.1, at_file_ends 1 long_program program x.0 (λ kernel. BuildsTo kernel program) o x.2)

-- ---- statuses

length_number : (r : Refusal) → IsOfLength ⊤ r → IsBuildStatus (status_of r)
length_number LongImage about = inr refl
length_number OutOfMemory about = inl (inr (inr (inr (inr (inl refl)))))
length_number other about = absurd about

pub build_number : (program : List ℕ) (r : Refusal) → IsAboutBuild program r → IsBuildStatus (status_of r)
build_number program r (inl about) = inl (compile_number program r about)
build_number program r (inr about) = length_number r about
