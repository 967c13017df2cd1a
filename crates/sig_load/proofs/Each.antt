-- Pieces one after another, and draws.
use Rattle.sig_load.proofs.Common.{◌≡◌, ℕ, zero, suc, ◌+◌, List, ◌++◌, refl, sym, ap, ◌∙◌, add-one, add-zero, add-suc, append_assoc, append-nil, next_state, state_after, Appends, each}

-- a piece, and another behind it
pub behind : {a p b q c : List ℕ} → Appends a p b → Appends b q c → Appends a (p ++ q) c
behind {a} {p} {b} {q} {c} first second = record {
  is = second.is ∙ ap (λ (t : List ℕ). t ++ q) first.is ∙ append_assoc a p q;
}

-- no piece yet
pub each_none : (text : List ℕ) (piece : ℕ → List ℕ) → Appends text (each piece 0) text
unfolding each
each_none text piece = record { is = sym (append-nil text) }

-- one more piece
pub each_more : (piece : ℕ → List ℕ) (n : ℕ) {a b c : List ℕ} → Appends a (each piece n) b → Appends b (piece (n + 1)) c → Appends a (each piece (n + 1)) c
unfolding each
each_more piece n {a} {b} {c} first second = rw (add-one n) (behind first (rw (add-one n) at second))

-- the same pieces give the same text
pub each_same : (f g : ℕ → List ℕ) → ((k : ℕ) → f k ≡ g k) → (n : ℕ) → each f n ≡ each g n
unfolding each
each_same f g same zero = refl
each_same f g same (suc n) = rw (each_same f g same n, same (suc n)) refl

pub state_none : (seed : ℕ) → state_after seed 0 ≡ seed
unfolding state_after
state_none seed = refl

-- one more draw
pub state_more : (seed n : ℕ) → state_after seed (n + 1) ≡ next_state (state_after seed n)
unfolding state_after
state_more seed n = rw (add-one n) refl

-- draws after draws
pub state_later : (seed m k : ℕ) → state_after (state_after seed m) k ≡ state_after seed (m + k)
unfolding state_after
state_later seed m zero = ap (state_after seed) (sym (add-zero m))
state_later seed m (suc k) = ap next_state (state_later seed m k) ∙ ap (state_after seed) (sym (add-suc m k))
