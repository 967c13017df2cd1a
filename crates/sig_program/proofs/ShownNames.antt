-- A name that is shown byte by byte.
use Rattle.sig_program.proofs.Common.{◌≡◌, ◌++◌, ℕ, List, [], ◌∷◌, ap, sym, ◌∙◌, take, length, get_or, ◌+◌, ◌<◌, append-nil, take_more, flat_map-append, encode_utf8, shown}

-- one byte more
pub shown_more : (bytes : List ℕ) (i d : ℕ) → i < length bytes → shown (take i bytes) ++ encode_utf8 (get_or bytes i d) ≡ shown (take (i + 1) bytes)
shown_more bytes i d h = sym (ap shown (take_more bytes i d h) ∙ flat_map-append encode_utf8 (take i bytes) (get_or bytes i d ∷ []) ∙ ap (λ l. shown (take i bytes) ++ l) (append-nil (encode_utf8 (get_or bytes i d))))
