-- What a sink took of several pieces.
use Rattle.sig_flow.proofs.Common.{◌≡◌, ◌<◌, ◌+◌, ℕ, List, ◌++◌, length, take, drop, get_or, flat_map, Bor, sym, ◌∙◌, ap, subst, append_assoc, take-append-drop, drop_more, flat_map-append, Joins, TookPrefix, TookPrefix-longer, TookPrefix-then}

-- the pieces before one, that one, and those behind it
around : (pieces : List (Bor (List ℕ))) (i : ℕ) (d : Bor (List ℕ)) → i < length pieces → (flat_map (λ piece. piece.now) (take i pieces) ++ (get_or pieces i d).now) ++ flat_map (λ piece. piece.now) (drop (i + 1) pieces) ≡ flat_map (λ piece. piece.now) pieces
around pieces i d lt =
    append_assoc (flat_map (λ piece. piece.now) (take i pieces)) (get_or pieces i d).now (flat_map (λ piece. piece.now) (drop (i + 1) pieces))
    ∙ ap (λ rest. flat_map (λ piece. piece.now) (take i pieces) ++ flat_map (λ piece. piece.now) rest) (sym (drop_more pieces i d lt))
    ∙ sym (flat_map-append (λ piece. piece.now) (take i pieces) (drop i pieces))
    ∙ ap (flat_map (λ piece. piece.now)) (take-append-drop i pieces)

-- some pieces, and then a prefix of the next: a prefix of all
pub prefix_of_pieces : {S : Type 0} (took : S → List ℕ → S → Type 0) → Joins took → (pieces : List (Bor (List ℕ))) (i : ℕ) (d : Bor (List ℕ)) (before middle after : S) → i < length pieces → took before (flat_map (λ piece. piece.now) (take i pieces)) middle → TookPrefix took middle (get_or pieces i d).now after → TookPrefix took before (flat_map (λ piece. piece.now) pieces) after
prefix_of_pieces took joins pieces i d before middle after lt all prefix =
    subst (λ bytes. TookPrefix took before bytes after) (around pieces i d lt)
    (TookPrefix-longer took before after _ (flat_map (λ piece. piece.now) (drop (i + 1) pieces))
    (TookPrefix-then took joins before middle after (flat_map (λ piece. piece.now) (take i pieces)) (get_or pieces i d).now all prefix))
