-- Chunks and their items.
use Rattle.std.proofs.Common.{◌≡◌, ◌≤◌, ◌<◌, ◌+◌, ◌-◌, ◌*◌, ◌∙◌, ◌++◌, ◌∷◌, ℕ, ℤ, suc, pos, List, [], length, take, drop, get_or, refl, sym, ap, subst, arith, append_assoc, append-nil, length-append, length-drop, length-take, take-append-drop, take_all, take_at, drop_at, take-add, take-suc, get_or-take, suc-mul, mul_comm, mul-le-mul_right, eq-or-lt_of_le, ⊎_elim}
use Rattle.sig_chunk.specs.Chunks.{items_of, items_in, AreSmall, IsOpened}
use Rattle.sig_chunk.specs.declared.chunk.Chunk.{Chunk}

items_append : (a b : List Chunk) → items_in (a ++ b) ≡ items_in a ++ items_in b
items_append [] b = refl
items_append (chunk ∷ a) b = ap (λ l. items_of chunk ++ l) (items_append a b) ∙ sym (append_assoc (items_of chunk) (items_in a) (items_in b))

-- the items of a chunk more
pub items_more : (chunks : List Chunk) (chunk : Chunk) → items_in (chunks ++ chunk ∷ []) ≡ items_in chunks ++ items_of chunk
items_more chunks chunk = items_append chunks (chunk ∷ []) ∙ ap (λ l. items_in chunks ++ l) (append-nil (items_of chunk))

-- a chunk was handed over, and nothing is held any more
pub handed : (before after : List Chunk) (chunk : Chunk) → after ≡ before ++ chunk ∷ [] → items_in after ++ [] ≡ items_in before ++ items_of chunk
handed before after chunk is = append-nil (items_in after) ∙ ap items_in is ∙ items_more before chunk

-- so with an item more
pub handed_with : (before after : List Chunk) (chunk : Chunk) (held : List ℤ) (item : ℤ) → after ≡ before ++ chunk ∷ [] → items_of chunk ≡ held ++ item ∷ []
    → items_in after ++ [] ≡ (items_in before ++ held) ++ item ∷ []
handed_with before after chunk held item is more =
    handed before after chunk is ∙ ap (λ l. items_in before ++ l) more ∙ sym (append_assoc (items_in before) held (item ∷ []))

-- ---- what an end that takes has given

take_beyond : (front back : List ℤ) (n : ℕ) → take (length front + n) (front ++ back) ≡ front ++ take n back
take_beyond front back n = take-add (length front) n (front ++ back)
    ∙ ap (λ l. l ++ take n (drop (length front) (front ++ back))) (take_at front back (length front) refl)
    ∙ ap (λ l. front ++ take n l) (drop_at front back (length front) refl)

-- so many items are left of the last ones
but_left : (all front back : List ℤ) (left n : ℕ) → all ≡ front ++ back → n + left ≡ length back → take (length all - left) all ≡ front ++ take n back
but_left all front back left n is counts =
    let long = length-append front back in
    ap (λ l. take (length l - left) l) is ∙ ap (λ k. take k (front ++ back)) (omega (arith, long, counts)) ∙ take_beyond front back n

-- one more of them is given
given_more : (all front back : List ℤ) (left n : ℕ) → all ≡ front ++ back → suc n + left ≡ length back
    → take (length all - left) all ≡ take (length all - suc left) all ++ get_or back n (pos 0) ∷ []
given_more all front back left n is counts =
    but_left all front back left (suc n) is counts
    ∙ ap (λ l. front ++ l) (take-suc back n (pos 0) (omega (arith, counts)))
    ∙ sym (append_assoc front (take n back) (get_or back n (pos 0) ∷ []))
    ∙ sym (ap (λ l. l ++ get_or back n (pos 0) ∷ []) (but_left all front back (suc left) n is (omega (arith, counts))))

length_items : (chunk : Chunk) → chunk.count ≤ length chunk.items → length (items_of chunk) ≡ chunk.count
length_items chunk le = let counted = length-take chunk.count chunk.items in omega (arith, counted, le)

-- the chunks before the last one
last_chunk : (chunks : List Chunk) (opened : Chunk) → drop (length chunks - 1) chunks ≡ opened ∷ [] → chunks ≡ take (length chunks - 1) chunks ++ opened ∷ []
last_chunk chunks opened is = sym (take-append-drop (length chunks - 1) chunks) ∙ ap (λ l. take (length chunks - 1) chunks ++ l) is

-- of a chunk that is open, an item is given
pub gives_next : (chunks : List Chunk) (opened : Chunk) (given : ℕ) (item : ℤ) → IsOpened chunks opened given → given < opened.count → opened.count ≤ length opened.items
    → item ≡ get_or opened.items given (pos 0)
    → take (length (items_in chunks) - (opened.count - (given + 1))) (items_in chunks)
    ≡ take (length (items_in chunks) - (opened.count - given)) (items_in chunks) ++ item ∷ []
gives_next chunks opened given item is lt fits here =
    let front = take (length chunks - 1) chunks in
    let counted = length_items opened fits in
    let more = given_more (items_in chunks) (items_in front) (items_of opened) (opened.count - (given + 1)) given
    (ap items_in (last_chunk chunks opened (is lt).1) ∙ items_more front opened) (omega (arith, counted, lt)) in
    more
    ∙ ap (λ k. take (length (items_in chunks) - k) (items_in chunks) ++ get_or (items_of opened) given (pos 0) ∷ []) (omega (arith, lt))
    ∙ ap (λ x. take (length (items_in chunks) - (opened.count - given)) (items_in chunks) ++ x ∷ []) (get_or-take opened.count opened.items given (pos 0) lt ∙ sym here)

-- where nothing is left of a chunk, all was given
pub gave_all : (chunks : List Chunk) (left : ℕ) → left ≡ 0 → take (length (items_in chunks) - left) (items_in chunks) ≡ items_in chunks
gave_all chunks left none = ap (λ k. take k (items_in chunks)) (omega (arith, none)) ∙ take_all (length (items_in chunks)) (items_in chunks) (omega arith)

-- of a chunk that is taken, the first item is given
pub gives_first : (before after : List Chunk) (chunk : Chunk) (left : ℕ) (item : ℤ) → after ≡ before ++ chunk ∷ [] → left ≡ 0 → 1 ≤ chunk.count → chunk.count ≤ length chunk.items
    → item ≡ get_or chunk.items 0 (pos 0)
    → take (length (items_in after) - (chunk.count - 1)) (items_in after)
    ≡ take (length (items_in before) - left) (items_in before) ++ item ∷ []
gives_first before after chunk left item is none some fits here =
    let counted = length_items chunk fits in
    let all : items_in after ≡ items_in before ++ items_of chunk = ap items_in is ∙ items_more before chunk in
    but_left (items_in after) (items_in before) (items_of chunk) (chunk.count - 1) 1 all (omega (arith, counted, some))
    ∙ ap (λ l. items_in before ++ l) (take-suc (items_of chunk) 0 (pos 0) (omega (arith, counted, some)))
    ∙ ap (λ x. items_in before ++ x ∷ []) (get_or-take chunk.count chunk.items 0 (pos 0) (omega (arith, some)) ∙ sym here)
    ∙ ap (λ l. l ++ item ∷ []) (sym (gave_all before left none))

-- ---- how many items are left

module _ (size : ℕ) where
  small_back : (front back : List Chunk) → AreSmall size (front ++ back) → AreSmall size back
  small_back [] back small = small
  small_back (chunk ∷ front) back small = small_back front back (λ k d lt. small (suc k) d (omega (arith, lt)))

  small_at : (front back : List Chunk) (chunk : Chunk) → AreSmall size (front ++ chunk ∷ back) → chunk.count ≤ size
  small_at [] back chunk small = small 0 chunk (omega arith)
  small_at (other ∷ front) back chunk small = small_at front back chunk (λ k d lt. small (suc k) d (omega (arith, lt)))

  few_items : (chunks : List Chunk) → AreSmall size chunks → length (items_in chunks) ≤ length chunks * size
  few_items [] small = omega arith
  few_items (chunk ∷ chunks) small =
      let rest = few_items chunks (λ k d lt. small (suc k) d (omega (arith, lt))) in
      let here = small 0 chunk (omega arith) in
      let long = length-append (items_of chunk) (items_in chunks) in
      let cut = length-take chunk.count chunk.items in
      let more = suc-mul (length chunks) size in
      omega (arith, rest, here, long, cut, more)

  -- what is left of the chunk that was taken last
  few_left : (chunks back : List Chunk) (opened : Chunk) (given : ℕ) → AreSmall size (chunks ++ back) → IsOpened chunks opened given → given < opened.count → opened.count - given + 1 ≤ size
  few_left chunks back opened given small is lt =
      let all : chunks ++ back ≡ take (length chunks - 1) chunks ++ opened ∷ back =
      ap (λ l. l ++ back) (last_chunk chunks opened (is lt).1) ∙ append_assoc (take (length chunks - 1) chunks) (opened ∷ []) back in
      let few = small_at (take (length chunks - 1) chunks) back opened (subst (AreSmall size) all small) in
      let one = (is lt).0 in
      omega (arith, few, one)

  -- of a settled link: what is left at both ends and between them
  pub all_left : (sent taken queue : List Chunk) (opened : Chunk) (given room capacity : ℕ) (held : List ℤ)
      → sent ≡ taken ++ queue → length queue ≤ room → AreSmall size sent → IsOpened taken opened given → given ≤ opened.count → length held < size
      → size * room + (size - 1) + (size - 1) ≤ capacity
      → (rest : List ℤ) × (items_in sent ++ held ≡ take (length (items_in taken) - (opened.count - given)) (items_in taken) ++ rest) × (length rest ≤ capacity)
  all_left sent taken queue opened given room capacity held is few small is_open within some fits =
      let all = items_in taken in
      let n = length all - (opened.count - given) in
      let behind = items_in queue ++ held in
      let small_both : AreSmall size (taken ++ queue) = subst (AreSmall size) is small in
      let left : opened.count - given < size = ⊎_elim (λ (same : given ≡ opened.count). omega (arith, same, some))
      (λ (lt : given < opened.count). let most = few_left taken queue opened given small_both is_open lt in omega (arith, most)) (eq-or-lt_of_le within) in
      let dropped = length-drop n all in
      let long = length-append (drop n all) behind in
      let longer = length-append (items_in queue) held in
      let items = few_items queue (small_back taken queue small_both) in
      let most = mul-le-mul_right size few in
      let turned = mul_comm size room in (
        drop n all ++ behind,
        ap (λ l. items_in l ++ held) is ∙ ap (λ l. l ++ held) (items_append taken queue) ∙ append_assoc all (items_in queue) held
            ∙ ap (λ l. l ++ behind) (sym (take-append-drop n all)) ∙ append_assoc (take n all) (drop n all) behind,
        omega (arith, left, dropped, long, longer, items, most, turned, some, fits),
      )
