-- What an image file gives: the sound image that its bytes are, or the line by which they are refused.
use Rattle.std.specs.Prelude.{◌≡◌, ◌⊎◌, ◌++◌, ◌<◌, ◌≤◌, ◌^◌, ℕ, List, length, codes, slice_index_or, Option}
use Rattle.std.specs.Fmt.{decimal}
use Rattle.sig_base.specs.Lines.{refusal}
use Rattle.sig_base.specs.declared.limits.TheConstants.{NODES}
use Rattle.sig_text.specs.Files.{Contents}
use Rattle.sig_file.specs.Bytes.{image_bytes}
use Rattle.sig_file.specs.Fields.{IsBrokenAt}
use Rattle.sig_file.specs.Guarded.{IsSoundImage}
use Rattle.sig_file.specs.Images.{ImageView, IsImage}
use Rattle.sig_file.specs.declared.limits.TheConstants.{IMAGE_BYTES}
use Rattle.sig_verify.specs.Verifying.{IsBeyondBound, IsFirstUnsound}
use Rattle.sig_outcome.specs.Outcomes.{AtData, FindsData, Found, Holds, Outcome}
use Rattle.sig_outcome.specs.Refusals.{IsAboutImage}
use Rattle.sig_outcome.specs.declared.refusal.Refusal.{Refusal}

-- each is a byte
abbrev pub AreBytes : List ℕ → Type 0
AreBytes bytes = (place : ℕ) → slice_index_or bytes place 0 < 2 ^ 8

-- the bytes are those of this image
pub record IsFileOf (bytes : List ℕ) (image : ImageView) : Type 0 where
  pub right : IsImage image
  pub spelled : image_bytes image ≡ bytes

-- and it is sound
pub record IsSoundFile (bytes : List ℕ) (image : ImageView) : Type 0 where
  pub file : IsFileOf bytes image
  pub sound : IsSoundImage image

-- a file holds the bytes of a sound image
pub record HoldsSoundImage (held : Option (List ℕ)) : Type 0 where
  pub image : ImageView
  pub sound : Holds held IMAGE_BYTES (λ bytes. IsSoundFile bytes image)

-- the bytes of a sound image were taken, and they are few enough for a file of one
pub record TookSoundImage (Took : List ℕ → Type 0) : Type 0 where
  pub image : ImageView
  pub right : IsImage image
  pub sound : IsSoundImage image
  pub few : length (image_bytes image) ≤ IMAGE_BYTES
  pub took : Took (image_bytes image)

-- ---- lines, without their newlines

-- the first field that is broken or cut off begins at this byte
abbrev pub bad_image : List ℕ → ℕ → List ℕ
bad_image name offset = refusal (name ++ (codes ": bad image at byte " ++ decimal offset))

-- the operation of this number is the first that is not sound
abbrev pub unsound_image : List ℕ → ℕ → List ℕ
unsound_image name n = refusal (name ++ (codes ": operation " ++ (decimal n ++ codes " is not sound")))

abbrev pub IsImageLine : (name line : List ℕ) → Type 0
IsImageLine name line = ((offset : ℕ) × (line ≡ bad_image name offset)) ⊎ ((n : ℕ) × (line ≡ unsound_image name n))

-- ---- refusals

-- the bytes are no image's
pub record IsBrokenFile (name bytes line : List ℕ) : Type 0 where
  pub offset : ℕ
  pub broken : IsBrokenAt bytes offset
  pub says : line ≡ bad_image name offset

-- they are those of an image that is not sound
pub record IsUnsoundFile (name bytes line : List ℕ) : Type 0 where
  pub image : ImageView
  pub file : IsFileOf bytes image
  pub op : ℕ
  pub first : IsFirstUnsound image op
  pub says : line ≡ unsound_image name op

abbrev pub RefusesImage : (name bytes line : List ℕ) → Type 0
RefusesImage name bytes line = IsBrokenFile name bytes line ⊎ IsUnsoundFile name bytes line

abbrev pub FindsImage : Option (List ℕ) → List ℕ → Found ImageView → Type 0
FindsImage held name found = FindsData IsSoundFile (RefusesImage name) held found

abbrev pub AtImage : Contents → List ℕ → (ImageView → Outcome → Type 0) → Outcome → Type 0
AtImage held name Next o = AtData IsSoundFile (RefusesImage name) held name Next o

-- ---- nodes that do not suffice

abbrev pub IsBudget : ℕ → Type 0
IsBudget nodes = nodes ≡ NODES

-- the bytes are those of an image for whose verifying the nodes of a store may not suffice
pub record IsFileBeyondBound (bytes : List ℕ) : Type 0 where
  pub image : ImageView
  pub file : IsFileOf bytes image
  pub beyond : IsBeyondBound image

-- a file holds such bytes
abbrev pub HoldsBeyondVerifying : Option (List ℕ) → Type 0
HoldsBeyondVerifying held = Holds held IMAGE_BYTES IsFileBeyondBound

-- the nodes do not suffice for the image that some bytes are
pub record LacksNodes (bytes : List ℕ) (nodes : ℕ) : Type 0 where
  pub number : IsBudget nodes
  pub beyond : IsFileBeyondBound bytes

-- a refusal may be one of the image file of this name
abbrev pub IsAboutFile : List ℕ → Refusal → Type 0
IsAboutFile name r = IsAboutImage name (IsImageLine name) IsBudget r
