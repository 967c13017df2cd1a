-- Lemmas on the first signals of classes.
use Rattle.sig_solve.proofs.Common.{◌≡◌, ◌<◌, ◌≤◌, ◌⊎◌, inl, inr, ℕ, List, [], ◌∷◌, ◌++◌, length, take, get_or, refl, sym, ap, ◌∙◌, subst, arith, Contains, Some, slice_get, SigId, Ref, AreClasses, AreFirsts, IsPlace, Precedes, guard_at, Frame, contains_last, contains_none, get_or_from_slice_get, slice_get-get_or, slice_get_within, get_before, get_last, contains_more, among_more}
use Rattle.sig_solve.proofs.ListLemmas.{get_beyond}
use Rattle.sig_solve.proofs.PinnedLemmas.{get_take}

module _ (frame : Frame) (layers : List ℕ) (guards : List Ref) (root : SigId) where
  pub firsts_begin : (firsts : List SigId) → firsts ≡ root ∷ [] → AreFirsts frame layers guards root [] firsts
  firsts_begin firsts is = subst (λ xs. AreFirsts frame layers guards root [] xs) (sym is) (record {
    root_is = refl;
    differ = λ i j c d at_i at_j same. let a = slice_get_within (root ∷ []) i c at_i in let b = slice_get_within (root ∷ []) j d at_j in omega (arith, a, b);
    all = λ s there. absurd (contains_none s there);
    listed = λ i c pos at. absurd (let a = slice_get_within (root ∷ []) i c at in omega (arith, pos, a));
    later = λ i j c d pos lt at_i at_j. absurd (let b = slice_get_within (root ∷ []) j d at_j in omega (arith, pos, lt, b));
    first = λ i c s pos at there same. absurd (contains_none s there);
  })

  module _ (done firsts : List SigId) (x : SigId) (are : AreFirsts frame layers guards root done firsts) (order : (s : SigId) → Contains done s → Precedes frame layers s x) where
    -- a signal whose guard a first signal has
    pub firsts_stay : (k : ℕ) (c : SigId) → slice_get firsts k ≡ Some c → guard_at frame guards c.0 ≡ guard_at frame guards x.0 → AreFirsts frame layers guards root (done ++ x ∷ []) firsts
    firsts_stay k c at same = record {
      root_is = are.root_is;
      differ = are.differ;
      all = λ s there. elim (among_more done x s there) [ inl before ↦ are.all s before | inr e ↦ (k, c, at, same ∙ ap (λ (y : SigId). guard_at frame guards y.0) (sym e)) ];
      listed = λ i d pos at_i. contains_more done x d (are.listed i d pos at_i);
      later = are.later;
      first = λ i d s pos at_i there own. elim (among_more done x s there) [
        | inl before ↦ are.first i d s pos at_i before own
        | inr e ↦ inr (subst (λ y. Precedes frame layers d y) (sym e) (order d (are.listed i d pos at_i)))
      ];
    }

    -- a signal that is the first of its class
    pub firsts_more : (firsts' : List SigId) → firsts' ≡ firsts ++ x ∷ [] → ((i : ℕ) (c : SigId) → slice_get firsts i ≡ Some c → guard_at frame guards c.0 ≡ guard_at frame guards x.0 → ⊥) → AreFirsts frame layers guards root (done ++ x ∷ []) firsts'
    firsts_more firsts' is new = subst (λ xs. AreFirsts frame layers guards root (done ++ x ∷ []) xs) (sym is) (record {
      root_is = get_before firsts (x ∷ []) 0 (slice_get_within firsts 0 root are.root_is) ∙ are.root_is;
      differ = λ i j c d at_i at_j same. by_differ i j c d (get_beyond firsts x c i at_i) (get_beyond firsts x d j at_j) at_i at_j same;
      all = λ s there. elim (among_more done x s there) [
        | inl before ↦ (let found = are.all s before in (found.0, found.1, get_before firsts (x ∷ []) found.0 (slice_get_within firsts found.0 found.1 found.2) ∙ found.2, found.3))
        | inr e ↦ (length firsts, x, get_last firsts x, ap (λ (y : SigId). guard_at frame guards y.0) (sym e))
      ];
      listed = λ i c pos at. elim (get_beyond firsts x c i at) [
        | inl lt ↦ contains_more done x c (are.listed i c pos (old i c lt at))
        | inr last ↦ subst (λ y. Contains (done ++ x ∷ []) y) last.1 (contains_last done x)
      ];
      later = λ i j c d pos lt at_i at_j. elim (get_beyond firsts x d j at_j) [
        | inl within ↦ are.later i j c d pos lt (old i c (omega (arith, lt, within)) at_i) (old j d within at_j)
        | inr last ↦ (let within : i < length firsts = omega (arith, lt, last.0) in subst (λ y. Precedes frame layers c y) last.1 (order c (are.listed i c pos (old i c within at_i))))
      ];
      first = λ i c s pos at there own. by_first i c s pos at own (get_beyond firsts x c i at) (among_more done x s there);
    }) where
      old : (i : ℕ) (c : SigId) → i < length firsts → slice_get (firsts ++ x ∷ []) i ≡ Some c → slice_get firsts i ≡ Some c
      old i c lt at = sym (get_before firsts (x ∷ []) i lt) ∙ at

      by_differ : (i j : ℕ) (c d : SigId) → ((i < length firsts) ⊎ ((i ≡ length firsts) × (x ≡ c))) → ((j < length firsts) ⊎ ((j ≡ length firsts) × (x ≡ d)))
          → slice_get (firsts ++ x ∷ []) i ≡ Some c → slice_get (firsts ++ x ∷ []) j ≡ Some d → guard_at frame guards c.0 ≡ guard_at frame guards d.0 → i ≡ j
      by_differ i j c d (inl a) (inl b) at_i at_j same = are.differ i j c d (old i c a at_i) (old j d b at_j) same
      by_differ i j c d (inl a) (inr b) at_i at_j same = absurd (new i c (old i c a at_i) (same ∙ ap (λ (y : SigId). guard_at frame guards y.0) (sym b.1)))
      by_differ i j c d (inr a) (inl b) at_i at_j same = absurd (new j d (old j d b at_j) (sym same ∙ ap (λ (y : SigId). guard_at frame guards y.0) (sym a.1)))
      by_differ i j c d (inr a) (inr b) at_i at_j same = a.0 ∙ sym b.0

      by_first : (i : ℕ) (c s : SigId) → 1 ≤ i → slice_get (firsts ++ x ∷ []) i ≡ Some c → guard_at frame guards s.0 ≡ guard_at frame guards c.0 → ((i < length firsts) ⊎ ((i ≡ length firsts) × (x ≡ c))) → (Contains done s ⊎ (s ≡ x))
          → (s ≡ c) ⊎ Precedes frame layers c s
      by_first i c s pos at own (inl a) (inl before) = are.first i c s pos (old i c a at) before own
      by_first i c s pos at own (inl a) (inr e) = absurd (new i c (old i c a at) (sym own ∙ ap (λ (y : SigId). guard_at frame guards y.0) e))
      by_first i c s pos at own (inr a) (inl before) =
          let found = are.all s before in
          absurd (new found.0 found.1 found.2 (found.3 ∙ own ∙ ap (λ (y : SigId). guard_at frame guards y.0) (sym a.1)))
      by_first i c s pos at own (inr a) (inr e) = inl (e ∙ a.1)

-- signals before a place
pub before_place : {R : SigId → SigId → Type 0} (ordered : List SigId) (k : ℕ) (x : SigId) → ((i j : ℕ) (c d : SigId) → i < j → slice_get ordered i ≡ Some c → slice_get ordered j ≡ Some d → R c d) → slice_get ordered k ≡ Some x
    → (s : SigId) → Contains (take k ordered) s → R s x
before_place {R} ordered k x order at s there =
    let lt : there.0 < k = Rattle.sig_solve.proofs.PinnedLemmas.taken_below ordered k there.0 there.1 in
    order there.0 k s x lt (sym (get_take ordered k there.0 lt) ∙ slice_get-get_or (take k ordered) there.0 s there.1 ∙ ap Some there.2) at

-- one more class
pub classes_more : (frame : Frame) (guards : List Ref) (firsts : List SigId) (classes classes' : List ℕ) (place : ℕ) → classes' ≡ classes ++ place ∷ [] → AreClasses frame guards firsts classes → IsPlace frame guards firsts (length classes) (Some place)
    → AreClasses frame guards firsts classes'
classes_more frame guards firsts classes classes' place is are at = subst (λ xs. AreClasses frame guards firsts xs) (sym is) (record {
  each = λ s lt. elim (get_beyond classes place (get_or (classes ++ place ∷ []) s 0) s (slice_get-get_or (classes ++ place ∷ []) s 0 lt)) [
    | inl less ↦
        let own : get_or classes s 0 ≡ get_or (classes ++ place ∷ []) s 0 = sym (get_or_from_slice_get (classes ++ place ∷ []) s (get_or classes s 0) 0 (get_before classes (place ∷ []) s less ∙ slice_get-get_or classes s 0 less)) in
        subst (λ i. (c : SigId) × (slice_get firsts i ≡ Some c) × (guard_at frame guards c.0 ≡ guard_at frame guards s)) own (are.each s less)
    | inr last ↦
        subst (λ i. (c : SigId) × (slice_get firsts i ≡ Some c) × (guard_at frame guards c.0 ≡ guard_at frame guards s)) last.1
        (subst (λ k. (c : SigId) × (slice_get firsts place ≡ Some c) × (guard_at frame guards c.0 ≡ guard_at frame guards k)) (sym last.0) at)
  ];
})
