-- Passing the next leaf.
use Rattle.sig_parse.proofs.Common.{◌≡◌, ℕ, ◌+◌, ◌<◌, ◌≤◌, suc, List, [], ◌∷◌, length, map, get_or, drop, drop-cons, length-drop, Bool, true, false, refl, sym, ap, ◌∙◌, arith, leb, length-map, leb-true, leb-false, MatchBool, Terminal, leaf, leaf_seen, terminal_seen, State, Reads, Shorter, IsLeaf, no_more}
use Rattle.sig_parse.specs.declared.leaf.Leaf.{Leaf}

-- the state at an index
abbrev pub state_at : List Leaf → ℕ → ℕ → State
state_at leaves i count = record { leaves = map leaf_seen (drop i leaves); operators = count }

ahead : (leaves : List Leaf) (i : ℕ) (l : Leaf) → i < length leaves → l ≡ get_or leaves i l → drop i leaves ≡ l ∷ drop (i + 1) leaves
ahead leaves i l lt is =
    let e : suc i ≡ i + 1 = omega arith in
    drop-cons leaves i l lt ∙ ap (λ x. x ∷ drop (suc i) leaves) (sym is) ∙ ap (λ n. l ∷ drop n leaves) e

pub passed : (leaves : List Leaf) (i count : ℕ) (s : State) (l : Leaf) (terminal : Terminal)
    → state_at leaves i count ≡ s → i < length leaves → l ≡ get_or leaves i l → terminal_seen l.terminal ≡ terminal
    → Reads (IsLeaf terminal l.at) 0 s (state_at leaves (i + 1) count) × Shorter s (state_at leaves (i + 1) count)
passed leaves i count s l terminal e lt is said =
    let split : s.leaves ≡ leaf terminal l.at ∷ map leaf_seen (drop (i + 1) leaves) =
    ap (λ (x : State). x.leaves) (sym e) ∙ ap (map leaf_seen) (ahead leaves i l lt is)
    ∙ ap (λ t. leaf t l.at ∷ map leaf_seen (drop (i + 1) leaves)) said in
    let counted : count ≡ s.operators = ap (λ (x : State). x.operators) e in (
      record {
        front = leaf terminal l.at ∷ [];
        split = split;
        is = refl;
        counted = omega arith;
        few = λ h. omega arith;
      },
      omega (arith, ap length split),
    )

pub nothing_left : (leaves : List Leaf) (i count : ℕ) (s : State) → state_at leaves i count ≡ s → length leaves ≤ i → s.leaves ≡ []
nothing_left leaves i count s e beyond =
    ap (λ (x : State). x.leaves) (sym e) ∙ ap (map leaf_seen) (no_more (drop i leaves) (omega (arith, length-drop i leaves)))

some_left : (leaves : List Leaf) (i count : ℕ) (s : State) → state_at leaves i count ≡ s → i < length leaves → s.leaves ≡ [] → ⊥
some_left leaves i count s e before nothing =
    let empty : map leaf_seen (drop i leaves) ≡ [] = ap (λ (x : State). x.leaves) e ∙ nothing in
    absurd (omega (arith, length-drop i leaves, length-map (drop i leaves) leaf_seen, ap length empty))

-- whether none is left
pub whether_left : (leaves : List Leaf) (i count : ℕ) (s : State) → state_at leaves i count ≡ s → (done : Bool) → leb (length leaves) i ≡ done → MatchBool done (s.leaves ≡ []) (s.leaves ≡ [] → ⊥)
whether_left leaves i count s e true is = nothing_left leaves i count s e (leb-true (length leaves) i is)
whether_left leaves i count s e false is = some_left leaves i count s e (leb-false (length leaves) i is)
