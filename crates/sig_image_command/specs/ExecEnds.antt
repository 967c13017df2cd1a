-- What ends the run of an image, as its line on standard error and its status say it.
use Rattle.std.specs.Prelude.{◌<◌, ◌∷◌, ⊤, ℕ, List, [], length, flat_map, codes, slice_index_or}
use Rattle.std.specs.Fmt.{decimal}
use Rattle.sig_base.specs.declared.ids.SigId.{SigId}
use Rattle.sig_file.specs.Images.{ImageView, names_of}
use Rattle.sig_file.specs.declared.run.ImageCause.{ImageCause}
use Rattle.sig_file.specs.declared.run.ImageCause.TheVariants.{Exhausted, Limit, Overflow, ZeroDivisor}
use Rattle.sig_file.specs.declared.run.ImageEnd.{ImageEnd}
use Rattle.sig_loaded.specs.Ends.{pieces_at}

-- a cause names a signal of the image
abbrev pub IsOfImage : ImageView → ImageCause → Type 0
IsOfImage image (Exhausted x) = x.0 < length image.signals
IsOfImage image other = ⊤

-- the status of a run with this cause: 3 where a result is outside 64 bits, or a divisor is 0
abbrev pub exec_status : ImageCause → ℕ
exec_status (Exhausted x) = 0
exec_status (Overflow at) = 3
exec_status (ZeroDivisor at) = 3
exec_status Limit = 0

-- the name of a signal
abbrev pub name_in : ImageView → SigId → List ℕ
name_in image x = slice_index_or (names_of image.signals) x.0 []

-- the pieces of the line that says what ended a run of n instants
abbrev pub exec_pieces : ImageView → ℕ → ImageCause → List (List ℕ)
exec_pieces image n (Exhausted x) =
    codes "end: input " ∷ name_in image x ∷ codes " exhausted after " ∷ decimal n ∷ codes " instants\n" ∷ []
exec_pieces image n (Overflow at) = pieces_at (codes "overflow") (decimal n) at.line at.col
exec_pieces image n (ZeroDivisor at) = pieces_at (codes "division by zero") (decimal n) at.line at.col
exec_pieces image n Limit = codes "end: limit after " ∷ decimal n ∷ codes " instants\n" ∷ []

-- that line
abbrev pub exec_line : ImageView → ImageEnd → List ℕ
exec_line image end = flat_map (λ piece. piece) (exec_pieces image end.instants end.cause)
