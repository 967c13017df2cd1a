-- The bytes of a file are one image at most, or they are refused with one line.
use Rattle.sig_image_command.proofs.Common.{◌≡◌, ◌∙◌, ◌≤◌, ℕ, List, Option, Result, Ok, Err, Some, length, inl, inr, sym, ap, subst, arith, cases_order, IsBrokenAt, file_at, IsSoundImage, ImageView, file_again, IMAGE_BYTES, IsBeyondBound, IsFirstUnsound, HoldsBeyondVerifying, IsBudget, IsFileOf, IsImageLine, IsSoundFile, IsUnsoundFile, LacksNodes, RefusesImage, bad_image, unsound_image}

-- the fields of an image's bytes
read_again : (bytes : List ℕ) (image : ImageView) → IsFileOf bytes image → file_at bytes ≡ Ok image
read_again bytes image file = subst (λ b. file_at b ≡ Ok image) file.spelled (file_again image file.right)

ok_once : {A : Type 0} (r : Result A ℕ) (x y : A) → r ≡ Ok x → r ≡ Ok y → x ≡ y
ok_once r x y a b = let both : Ok x ≡ Ok y = sym a ∙ b in cc

err_once : {A : Type 0} (r : Result A ℕ) (x y : ℕ) → r ≡ Err x → r ≡ Err y → x ≡ y
err_once r x y a b = let both : Err x ≡ Err y = sym a ∙ b in cc

not_both : {A : Type 0} (r : Result A ℕ) (x : A) (y : ℕ) → r ≡ Ok x → r ≡ Err y → ⊥
not_both r x y a b = let both : Ok x ≡ Err y = sym a ∙ b in absurd cc

pub one_file : (bytes : List ℕ) (a b : ImageView) → IsFileOf bytes a → IsFileOf bytes b → a ≡ b
one_file bytes a b x y = ok_once (file_at bytes) a b (read_again bytes a x) (read_again bytes b y)

pub one_sound : (bytes : List ℕ) (a b : ImageView) → IsSoundFile bytes a → IsSoundFile bytes b → a ≡ b
one_sound bytes a b x y = one_file bytes a b x.file y.file

-- the first broken field is one
one_broken : (bytes : List ℕ) (a b : ℕ) → IsBrokenAt bytes a → IsBrokenAt bytes b → a ≡ b
one_broken bytes a b x y =
    let left = err_once (file_at bytes) x.left y.left x.broken y.broken in
    omega (arith, x.place, y.place, left)

-- and no image's
unbroken : (bytes : List ℕ) (image : ImageView) (offset : ℕ) → IsFileOf bytes image → IsBrokenAt bytes offset → ⊥
unbroken bytes image offset file broken = not_both (file_at bytes) image broken.left (read_again bytes image file) broken.broken

-- the first operation that is not sound is one, and none of a sound image
one_unsound : (image : ImageView) (a b : ℕ) → IsFirstUnsound image a → IsFirstUnsound image b → a ≡ b
one_unsound image a b x y = elim (cases_order a b) [
  | inl same ↦ same
  | inr (inl less) ↦ absurd (x.unsound (y.before a x.op less x.is))
  | inr (inr more) ↦ absurd (y.unsound (x.before b y.op more y.is))
]

pub none_unsound : (image : ImageView) (n : ℕ) → IsSoundImage image → IsFirstUnsound image n → ⊥
none_unsound image n sound first = first.unsound (sound n first.op first.is)

-- a file is refused with one line
pub one_image_line : (name bytes l m : List ℕ) → RefusesImage name bytes l → RefusesImage name bytes m → l ≡ m
one_image_line name bytes l m (inl x) (inl y) = x.says ∙ ap (bad_image name) (one_broken bytes x.offset y.offset x.broken y.broken) ∙ sym y.says
one_image_line name bytes l m (inl x) (inr y) = absurd (unbroken bytes y.image x.offset y.file x.broken)
one_image_line name bytes l m (inr x) (inl y) = absurd (unbroken bytes x.image y.offset x.file y.broken)
one_image_line name bytes l m (inr x) (inr y) =
    let same = one_file bytes x.image y.image x.file y.file in
    x.says ∙ ap (unsound_image name) (one_unsound y.image x.op y.op (subst (λ (image : ImageView). IsFirstUnsound image x.op) same x.first) y.first) ∙ sym y.says

-- or none
pub image_apart : (name bytes : List ℕ) (image : ImageView) (l : List ℕ) → IsSoundFile bytes image → RefusesImage name bytes l → ⊥
image_apart name bytes image l sound (inl broken) = unbroken bytes image broken.offset sound.file broken.broken
image_apart name bytes image l sound (inr unsound) =
    let same = one_file bytes image unsound.image sound.file unsound.file in
    none_unsound unsound.image unsound.op (subst (λ (i : ImageView). IsSoundImage i) same sound.sound) unsound.first

-- ---- which refusals these are

pub image_line : (name bytes line : List ℕ) → RefusesImage name bytes line → IsImageLine name line
image_line name bytes line (inl broken) = inl (broken.offset, broken.says)
image_line name bytes line (inr unsound) = inr (unsound.op, unsound.says)

pub holds_beyond : (held : Option (List ℕ)) (bytes : List ℕ) → held ≡ Some bytes → length bytes ≤ IMAGE_BYTES → (nodes : ℕ) → LacksNodes bytes nodes → HoldsBeyondVerifying held
holds_beyond held bytes there short nodes lacks = record { bytes = bytes; there = there; short = short; good = lacks.beyond }

pub unsound_file : (name bytes line : List ℕ) (image : ImageView) → IsFileOf bytes image → (n : ℕ) → IsFirstUnsound image n → line ≡ unsound_image name n → IsUnsoundFile name bytes line
unsound_file name bytes line image file n first says = record { image = image; file = file; op = n; first = first; says = says }

pub lacks_nodes : (bytes : List ℕ) (image : ImageView) (nodes : ℕ) → IsFileOf bytes image → IsBudget nodes → IsBeyondBound image → LacksNodes bytes nodes
lacks_nodes bytes image nodes file number beyond = record { number = number; beyond = record { image = image; file = file; beyond = beyond } }
