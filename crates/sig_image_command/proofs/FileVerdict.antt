-- The bytes of a file are those of a sound image, or there is a line by which they are refused.
use Rattle.sig_image_command.proofs.Common.{◌≡◌, ◌⊎◌, ◌+◌, ◌-◌, ◌≤◌, ℕ, List, Result, Ok, Err, length, inl, inr, refl, arith, file_at, ImageView, IsBytes, file_short, file_takes, verdict, AreBytes, IsFileOf, IsSoundFile, RefusesImage, bad_image, unsound_image}

abbrev HasVerdict : (name bytes : List ℕ) → Type 0
HasVerdict name bytes = ((image : ImageView) × IsSoundFile bytes image) ⊎ ((line : List ℕ) × RefusesImage name bytes line)

-- an image is sound or not
of_image : (name bytes : List ℕ) (image : ImageView) → IsFileOf bytes image → HasVerdict name bytes
of_image name bytes image file = elim (verdict image) [
  | inl sound ↦ inl (image, record { file = file; sound = sound })
  | inr (n, first) ↦ inr (unsound_image name n, inr (record { image = image; file = file; op = n; first = first; says = refl }))
]

by_fields : (name bytes : List ℕ) → IsBytes bytes → (read : Result ImageView ℕ) → file_at bytes ≡ read → HasVerdict name bytes
by_fields name bytes are (Ok image) e = let takes = file_takes bytes image are e in of_image name bytes image (record { right = takes.0; spelled = takes.1 })
by_fields name bytes are (Err left) e =
    let le = file_short bytes left are e in
    inr (
      bad_image name (length bytes - left),
      inl (record {
        offset = length bytes - left;
        broken = record { left = left; broken = e; place = omega (arith, le) };
        says = refl;
      }),
    )

pub image_verdict : (name bytes : List ℕ) → AreBytes bytes → HasVerdict name bytes
image_verdict name bytes are = by_fields name bytes are (file_at bytes) refl
