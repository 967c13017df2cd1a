-- What stands between two marks, from its parts.
use Rattle.sig_parse.proofs.Common.{◌≡◌, ◌++◌, codes, ℕ, List, [], ◌∷◌, refl, ap, arith, Span, Terminal, Leaf, leaf, name_leaf, word, mark, Name, Constant, Expression, Called, both_limits, right_operators, Between, IsName, AreConstants, AreArguments, IsRight, IsTitle, State, Reads, IsLeaf}
use Rattle.sig_parse.proofs.Joins.{joined, after_leaf}

pub between : (opening closing : Terminal) (Is : List Leaf → Type 0) (n : ℕ) (opened closed : Span) {s t u v : State}
    → Reads (IsLeaf opening opened) 0 s t → Reads Is n t u → Reads (IsLeaf closing closed) 0 u v → Reads (Between opening closing Is) n s v
between opening closing Is n opened closed before r behind =
    let Inside : List Leaf → Type 0 = λ ls. (inside : List Leaf) × (ls ≡ inside ++ leaf closing closed ∷ []) × Is inside in
    after_leaf (Between opening closing Is) n (omega arith)
    (λ back d. (opened, closed, d.0, ap (λ ls. leaf opening opened ∷ ls) d.1, d.2)) before
    (joined Inside n (omega arith) (λ front back is one. (front, ap (λ b. front ++ b) one, is)) r behind)

-- a call
pub call : (depth : ℕ) (name : Name) (constants : List Constant) (arguments : List Expression) {s t u v : State}
    → Reads (IsName name) 0 s t → Reads (AreConstants constants) 0 t u
    → Reads (AreArguments both_limits depth arguments) (right_operators (Called name constants arguments)) u v
    → Reads (IsRight both_limits depth (Called name constants arguments)) (right_operators (Called name constants arguments)) s v
call depth name constants arguments r q p =
    let n = right_operators (Called name constants arguments) in
    let Rest : List Leaf → Type 0 = λ ls. (front back : List Leaf) × (ls ≡ front ++ back) × AreConstants constants front × AreArguments both_limits depth arguments back in
    after_leaf (IsRight both_limits depth (Called name constants arguments)) n (omega arith)
    (λ back h. (h.0, h.1, ap (λ ls. name_leaf name ∷ ls) h.2, h.3, h.4)) r
    (joined Rest n (omega arith) (λ front back is more. (front, back, refl, is, more)) q p)

-- `process`, a name and `=`
pub title : (name : Name) (begun equals : Span) {s t u v : State}
    → Reads (IsLeaf (word (codes "process")) begun) 0 s t → Reads (IsName name) 0 t u → Reads (IsLeaf (mark (codes "=")) equals) 0 u v
    → Reads (IsTitle name) 0 s v
title name begun equals r q p =
    let Rest : List Leaf → Type 0 = λ ls. ls ≡ name_leaf name ∷ leaf (mark (codes "=")) equals ∷ [] in
    after_leaf (IsTitle name) 0 refl (λ back is. (begun, equals, ap (λ ls. leaf (word (codes "process")) begun ∷ ls) is)) r
    (after_leaf Rest 0 refl (λ back is. ap (λ ls. name_leaf name ∷ ls) is) q p)
