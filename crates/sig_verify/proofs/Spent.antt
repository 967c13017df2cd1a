-- Calls in a row add up.
use Rattle.sig_verify.proofs.Common.{◌≡◌, ℕ, ◌+◌, ◌*◌, ◌<◌, ◌≤◌, ◌^◌, Result, Ok, Err, sym, subst, ◌∙◌, arith, IfErr, IsErrAnd, mul-le-mul, Keeps-trans, Follows, IsRefusal, Budget, DdAnswer, NODES, OutOfMemory, Diagrams}

-- more calls may have led there
pub follows_more : (m n : ℕ) → m ≤ n → (old new : Diagrams) → Follows m old new → Follows n old new
follows_more m n le old new h = let few = h.counted in record { right = h.right; kept = h.kept; conditions = h.conditions; counted = omega (arith, le, few) }

pub follows_then : (m n : ℕ) (old mid new : Diagrams) → Follows m old mid → Follows n mid new → Follows (m + n) old new
follows_then m n old mid new a b =
    let few = a.counted in
    let more = b.counted in
    record { right = b.right; kept = Keeps-trans old.store mid.store new.store a.kept b.kept; conditions = b.conditions ∙ a.conditions; counted = omega (arith, few, more) }

beyond_more : (limit p q k : ℕ) → p ≤ q → limit < p * 2 ^ k → limit < q * 2 ^ k
beyond_more limit p q k le lt = let more : p * 2 ^ k ≤ q * 2 ^ k = mul-le-mul le (omega arith) in omega (arith, more, lt)

pub refusal_more : (m n : ℕ) → m ≤ n → (d : Diagrams) (answer : DdAnswer) → IsRefusal d m answer → IsRefusal d n answer
refusal_more m n le d (Budget nodes) h = (h.0, beyond_more NODES (d.calls + m) (d.calls + n) d.conditions (omega arith) h.1)
refusal_more m n le d OutOfMemory h = tt

pub refusal_then : (m n : ℕ) (old mid : Diagrams) → Follows m old mid → (answer : DdAnswer) → IsRefusal mid n answer → IsRefusal old (m + n) answer
refusal_then m n old mid follows (Budget nodes) h =
    let few = follows.counted in
    (h.0, beyond_more NODES (mid.calls + n) (old.calls + (m + n)) old.conditions (omega (arith, few)) (subst (λ k. NODES < (mid.calls + n) * 2 ^ k) follows.conditions h.1))
refusal_then m n old mid follows OutOfMemory h = tt

-- of two rows of calls the second was refused
pub again_refused : (c : ℕ) (old mid : Diagrams) → Follows (5 * c) old mid → (answer : DdAnswer) → IsRefusal mid (5 * c) answer → IsRefusal old (10 * c) answer
again_refused c old mid follows answer h = refusal_more (5 * c + 5 * c) (10 * c) (omega arith) old answer (refusal_then (5 * c) (5 * c) old mid follows answer h)

-- what holds of an error does of what a `?` returns for it
pub pass_on : {T : Type 0} (P : DdAnswer → Type 0) (result : Result T DdAnswer) (answer : DdAnswer) → IsErrAnd result (λ e. e ≡ answer) → P answer → IfErr result P
pass_on P (Ok x) answer h p = absurd h
pass_on P (Err e) answer h p = subst P (sym h) p
