-- The classes below a class, when the children among so many first classes are listed.
use Rattle.sig_hier.proofs.Common.{◌≡◌, ℕ, zero, suc, ◌+◌, ◌-◌, ◌<◌, Bool, true, false, cond, List, [], ◌∷◌, ◌++◌, length, filter, None, Option, refl, ap, append_assoc, sym, ◌∙◌, arith, slice_index_or, flat_map-append, append-nil, filter-append, flat_map, range_with_len, children, is_parent, preorder_from, Line, range_from_zero}

abbrev pub is_child : List (Option ℕ) → ℕ → ℕ → Bool
is_child tree class other = is_parent (slice_index_or tree other None) class

abbrev pub below : ℕ → List (Option ℕ) → Line → ℕ → List Line
below levels tree line count =
    flat_map (preorder_from (levels - 1) tree (line.level + 1)) (filter (is_child tree line.class) (range_with_len 0 count))

preorder_first : (levels : ℕ) (tree : List (Option ℕ)) (line : Line) → 0 < levels
    → preorder_from levels tree line.level line.class ≡ line ∷ below levels tree line (length tree)
preorder_first zero tree line lt = absurd (omega arith)
preorder_first (suc levels) tree line lt =
    let e : levels ≡ suc levels - 1 = omega arith in
    ap (λ n. line ∷ flat_map (preorder_from n tree (line.level + 1)) (children tree line.class)) e

one_kept : {A : Type 0} (f : ℕ → List A) (p : ℕ → Bool) (n : ℕ) (b : Bool) → p n ≡ b
    → flat_map f (filter p (n ∷ [])) ≡ cond b (f n) []
one_kept f p n true is = rw is (append-nil (f n))
one_kept f p n false is = rw is refl

kept_more : {A : Type 0} (f : ℕ → List A) (p : ℕ → Bool) (n : ℕ) (b : Bool) → p n ≡ b
    → flat_map f (filter p (range_with_len 0 (n + 1))) ≡ flat_map f (filter p (range_with_len 0 n)) ++ cond b (f n) []
kept_more f p n b is =
    ap (λ xs. flat_map f (filter p xs)) (range_from_zero n)
    ∙ ap (λ xs. flat_map f xs) (filter-append p (range_with_len 0 n) (n ∷ []))
    ∙ flat_map-append f (filter p (range_with_len 0 n)) (filter p (n ∷ []))
    ∙ ap (λ xs. flat_map f (filter p (range_with_len 0 n)) ++ xs) (one_kept f p n b is)

-- the children of one more class: it, with what is below it, if it is one
pub below_more : (levels : ℕ) (tree : List (Option ℕ)) (line : Line) (n : ℕ) (start lines more : List Line) (b : Bool) → is_child tree line.class n ≡ b
    → lines ≡ start ++ below levels tree line n → more ≡ lines ++ cond b (preorder_from (levels - 1) tree (line.level + 1) n) []
    → more ≡ start ++ below levels tree line (n + 1)
below_more levels tree line n start lines more b is so_far then =
    let f : ℕ → List Line = preorder_from (levels - 1) tree (line.level + 1) in
    then ∙ ap (λ xs. xs ++ cond b (f n) []) so_far ∙ append_assoc start (below levels tree line n) (cond b (f n) [])
    ∙ ap (λ xs. start ++ xs) (sym (kept_more f (is_child tree line.class) n b is))

-- all children are listed
pub below_all : (levels : ℕ) (tree : List (Option ℕ)) (line : Line) (n : ℕ) (old start lines : List Line) → 0 < levels → n ≡ length tree
    → start ≡ old ++ (line ∷ []) → lines ≡ start ++ below levels tree line n
    → lines ≡ old ++ preorder_from levels tree line.level line.class
below_all levels tree line n old start lines lt end pushed so_far =
    so_far ∙ ap (λ xs. xs ++ below levels tree line n) pushed ∙ append_assoc old (line ∷ []) (below levels tree line n)
    ∙ ap (λ m. old ++ (line ∷ below levels tree line m)) end ∙ ap (λ xs. old ++ xs) (sym (preorder_first levels tree line lt))
