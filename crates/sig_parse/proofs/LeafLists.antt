-- The leaves of one more token.
use Rattle.sig_parse.proofs.Common.{◌≡◌, ◌++◌, ◌+◌, ◌<◌, ℕ, List, [], ◌∷◌, length, map, take, get_or, Option, Some, None, refl, sym, ap, ◌∙◌, option_map, option_to_list, append-nil, map-append, take_more, flat_map-append, Token, leaf_of, leaves_of, leaf_seen}
use Rattle.sig_parse.specs.declared.leaf.Leaf.{Leaf}

seen : (o : Option Leaf) → map leaf_seen (option_to_list o) ≡ option_to_list (option_map leaf_seen o)
seen None = refl
seen (Some l) = refl

pub one_more : (bytes : List ℕ) (tokens : List Token) (i : ℕ) (d : Token) (found : Option Leaf) (old new : List Leaf) → i < length tokens
    → option_map leaf_seen found ≡ leaf_of bytes (get_or tokens i d) → map leaf_seen old ≡ leaves_of bytes (take i tokens)
    → new ≡ old ++ option_to_list found → map leaf_seen new ≡ leaves_of bytes (take (i + 1) tokens)
one_more bytes tokens i d found old new lt e before is =
    ap (map leaf_seen) is ∙ map-append leaf_seen old (option_to_list found)
    ∙ ap (λ ls. ls ++ map leaf_seen (option_to_list found)) before
    ∙ ap (λ ls. leaves_of bytes (take i tokens) ++ ls) (seen found ∙ ap option_to_list e ∙ sym (append-nil (option_to_list (leaf_of bytes (get_or tokens i d)))))
    ∙ sym (ap (leaves_of bytes) (take_more tokens i d lt) ∙ flat_map-append (λ t. option_to_list (leaf_of bytes t)) (take i tokens) (get_or tokens i d ∷ []))
