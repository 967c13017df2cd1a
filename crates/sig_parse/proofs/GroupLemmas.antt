-- Declarations and pragmas from their parts.
use Rattle.sig_parse.proofs.Common.{◌≡◌, ◌≢◌, ◌++◌, ℕ, List, [], ◌∷◌, codes, Option, None, refl, sym, ap, subst, inl, inr, append-nil, Span, Kind, Event, Name, Constant, Item, Declared, Placement, Leaf, leaf, kind_word, name, word, label, mark, Between, Each, Separated, IsOptionalInit, IsName, IsPlainItem, IsItem, IsGroup, IsParam, AreGroups, AreParams, IsInterface, IsPlacement, ArePragmas, IsLocalGroup, Declares, Parameters, Inputs, Signals, IsItemOf, IsGroupOf, State, Reads, IsLeaf}
use Rattle.sig_parse.proofs.Joins.{joined, viewed, after_leaf}
use Rattle.sig_parse.proofs.EnclosedParts.{between}

-- a name, and an init where there is one
pub item_with_init : (declares : Declares) (n : Name) (init : Option Constant) {s t u : State} → declares ≡ Signals
    → Reads (IsName n) 0 s t → Reads (IsOptionalInit init) 0 t u → Reads (IsItemOf declares (record { name = n; init = init })) 0 s u
item_with_init declares n init {s} {t} {u} signals r q =
    subst (λ (d : Declares). Reads (IsItemOf d (record { name = n; init = init })) 0 s u) (sym signals)
    (after_leaf (IsItem (record { name = n; init = init })) 0 refl (λ back is. (back, refl, is)) r q)

pub plain_item : (declares : Declares) (n : Name) {s t : State} → (declares ≡ Signals → ⊥)
    → Reads (IsName n) 0 s t → Reads (IsItemOf declares (record { name = n; init = None })) 0 s t
plain_item Signals n other r = absurd (other refl)
plain_item _ n other r = viewed (IsPlainItem (record { name = n; init = None })) (λ front is. (refl, is)) r

-- a kind and items
any_group : (IsOne : Item → List Leaf → Type 0) (kind : Kind) (items : List Item) (at : Span) {s t u : State}
    → Reads (IsLeaf (kind_word kind) at) 0 s t → Reads (Separated IsOne (mark (codes ",")) items) 0 t u
    → Reads (IsGroup IsOne (record { kind = kind; items = items })) 0 s u
any_group IsOne kind items at r q = after_leaf (IsGroup IsOne (record { kind = kind; items = items })) 0 refl (λ back is. (at, back, refl, is)) r q

pub group_of : (declares : Declares) (kind : Kind) (items : List Item) (at : Span) {s t u : State} → (declares ≡ Parameters → kind ≢ Event)
    → Reads (IsLeaf (kind_word kind) at) 0 s t → Reads (Separated (IsItemOf declares) (mark (codes ",")) items) 0 t u
    → Reads (IsGroupOf declares (record { kind = kind; items = items })) 0 s u
group_of Parameters kind items at apart r q = viewed (IsParam (record { kind = kind; items = items })) (λ front is. (apart refl, is)) (any_group IsPlainItem kind items at r q)
group_of Inputs kind items at apart r q = any_group IsPlainItem kind items at r q
group_of Signals kind items at apart r q = any_group IsItem kind items at r q

-- groups with `;` between them
pub ends_plain : (Is : Declared → List Leaf → Type 0) (groups : List Declared) (front : List Leaf) → Separated Is (mark (codes ";")) groups front → AreGroups Is groups front
ends_plain Is [] front h = absurd h
ends_plain Is (g ∷ gs) front h = (front, [], sym (append-nil front), h, inl refl)

ends_marked : (Is : Declared → List Leaf → Type 0) (groups : List Declared) (front : List Leaf) (at : Span) → Separated Is (mark (codes ";")) groups front
    → AreGroups Is groups (front ++ leaf (mark (codes ";")) at ∷ [])
ends_marked Is [] front at h = absurd h
ends_marked Is (g ∷ gs) front at h = (front, leaf (mark (codes ";")) at ∷ [], refl, h, inr (at, refl))

pub groups_plain : (Is : Declared → List Leaf → Type 0) (groups : List Declared) {s t : State} → Reads (Separated Is (mark (codes ";")) groups) 0 s t → Reads (AreGroups Is groups) 0 s t
groups_plain Is groups r = viewed (AreGroups Is groups) (λ front is. ends_plain Is groups front is) r

pub groups_marked : (Is : Declared → List Leaf → Type 0) (groups : List Declared) (at : Span) {s t u : State} → Reads (Separated Is (mark (codes ";")) groups) 0 s t
    → Reads (IsLeaf (mark (codes ";")) at) 0 t u → Reads (AreGroups Is groups) 0 s u
groups_marked Is groups at r q = joined (AreGroups Is groups) 0 refl
    (λ front back is one. subst (λ (ls : List Leaf). AreGroups Is groups (front ++ ls)) (sym one) (ends_marked Is groups front at is)) r q

pub params_between : (params : List Declared) (opened closed : Span) {s t u v : State}
    → Reads (IsLeaf (mark (codes "{")) opened) 0 s t → Reads (AreGroups IsParam params) 0 t u → Reads (IsLeaf (mark (codes "}")) closed) 0 u v
    → Reads (AreParams params) 0 s v
params_between params opened closed before r behind =
    viewed (AreParams params) (λ front is. inr is) (between (mark (codes "{")) (mark (codes "}")) (AreGroups IsParam params) 0 opened closed before r behind)

-- inputs and outputs
abbrev AreSides : (asked answered : Span) (inputs outputs : List Declared) → List Leaf → Type 0
AreSides asked answered inputs outputs inside = (front back : List Leaf)
    × (inside ≡ leaf (mark (codes "?")) asked ∷ (front ++ leaf (mark (codes "!")) answered ∷ back))
    × AreGroups (IsGroup IsPlainItem) inputs front × AreGroups (IsGroup IsItem) outputs back

sides : (inputs outputs : List Declared) (asked answered : Span) {s t u v w : State}
    → Reads (IsLeaf (mark (codes "?")) asked) 0 s t → Reads (AreGroups (IsGroup IsPlainItem) inputs) 0 t u
    → Reads (IsLeaf (mark (codes "!")) answered) 0 u v → Reads (AreGroups (IsGroup IsItem) outputs) 0 v w
    → Reads (AreSides asked answered inputs outputs) 0 s w
sides inputs outputs asked answered a i b o =
    let Behind : List Leaf → Type 0 = λ ls. (back : List Leaf) × (ls ≡ leaf (mark (codes "!")) answered ∷ back) × AreGroups (IsGroup IsItem) outputs back in
    let Inside : List Leaf → Type 0 = λ ls. (front back : List Leaf) × (ls ≡ front ++ leaf (mark (codes "!")) answered ∷ back)
    × AreGroups (IsGroup IsPlainItem) inputs front × AreGroups (IsGroup IsItem) outputs back in
    after_leaf (AreSides asked answered inputs outputs) 0 refl
    (λ back h. (h.0, h.1, ap (λ ls. leaf (mark (codes "?")) asked ∷ ls) h.2, h.3, h.4)) a
    (joined Inside 0 refl (λ front back is h. (front, h.0, ap (λ ls. front ++ ls) h.1, is, h.2)) i
    (after_leaf Behind 0 refl (λ back is. (back, refl, is)) b o))

pub interface : (inputs outputs : List Declared) (opened asked answered closed : Span) {r s t u v w x : State}
    → Reads (IsLeaf (mark (codes "(")) opened) 0 r s
    → Reads (IsLeaf (mark (codes "?")) asked) 0 s t → Reads (AreGroups (IsGroup IsPlainItem) inputs) 0 t u
    → Reads (IsLeaf (mark (codes "!")) answered) 0 u v → Reads (AreGroups (IsGroup IsItem) outputs) 0 v w
    → Reads (IsLeaf (mark (codes ")")) closed) 0 w x
    → Reads (IsInterface inputs outputs) 0 r x
interface inputs outputs opened asked answered closed o a i b q c =
    viewed (IsInterface inputs outputs) (λ front h. (h.0, h.1, h.2, h.3, (asked, answered, h.4.0, h.4.1, h.4.2, h.4.3, h.4.4)))
    (between (mark (codes "(")) (mark (codes ")")) (AreSides asked answered inputs outputs) 0 opened closed o (sides inputs outputs asked answered a i b q) c)

-- a group and `;`
pub local_group : (group : Declared) (at : Span) {s t u : State} → Reads (IsGroup IsItem group) 0 s t → Reads (IsLeaf (mark (codes ";")) at) 0 t u
    → Reads (IsLocalGroup group) 0 s u
local_group group at r q = joined (IsLocalGroup group) 0 refl (λ front back is one. (at, front, ap (λ ls. front ++ ls) one, is)) r q

-- `RunOn`, names in braces, and a label
pub placement : (names : List Name) (text : List ℕ) (at labelled : Span) {s t u v : State}
    → Reads (IsLeaf (name (codes "RunOn")) at) 0 s t
    → Reads (Between (mark (codes "{")) (mark (codes "}")) (Separated IsName (mark (codes ",")) names)) 0 t u
    → Reads (IsLeaf (label text) labelled) 0 u v
    → Reads (IsPlacement (record { names = names; label = text; at = at })) 0 s v
placement names text at labelled r q p =
    let Rest : List Leaf → Type 0 = λ ls. (inside : List Leaf) × (ls ≡ inside ++ leaf (label text) labelled ∷ [])
    × Between (mark (codes "{")) (mark (codes "}")) (Separated IsName (mark (codes ",")) names) inside in
    after_leaf (IsPlacement (record { names = names; label = text; at = at })) 0 refl
    (λ back h. (labelled, h.0, ap (λ ls. leaf (name (codes "RunOn")) at ∷ ls) h.1, h.2)) r
    (joined Rest 0 refl (λ front back is one. (front, ap (λ ls. front ++ ls) one, is)) q p)

-- pragmas between their words
pub pragmas_between : (pragmas : List Placement) (first ended last : Span) {s t u v w : State}
    → Reads (IsLeaf (word (codes "pragmas")) first) 0 s t → Reads (Each IsPlacement pragmas) 0 t u
    → Reads (IsLeaf (word (codes "end")) ended) 0 u v → Reads (IsLeaf (word (codes "pragmas")) last) 0 v w
    → Reads (ArePragmas pragmas) 0 s w
pragmas_between pragmas first ended last r q e l =
    let End : List Leaf → Type 0 = λ ls. ls ≡ leaf (word (codes "end")) ended ∷ leaf (word (codes "pragmas")) last ∷ [] in
    let Rest : List Leaf → Type 0 = λ ls. (inside : List Leaf)
    × (ls ≡ inside ++ leaf (word (codes "end")) ended ∷ leaf (word (codes "pragmas")) last ∷ []) × Each IsPlacement pragmas inside in
    after_leaf (ArePragmas pragmas) 0 refl
    (λ back h. inr (first, ended, last, h.0, ap (λ ls. leaf (word (codes "pragmas")) first ∷ ls) h.1, h.2)) r
    (joined Rest 0 refl (λ front back is end. (front, ap (λ ls. front ++ ls) end, is)) q
    (after_leaf End 0 refl (λ back is. ap (λ ls. leaf (word (codes "end")) ended ∷ ls) is) e l))
