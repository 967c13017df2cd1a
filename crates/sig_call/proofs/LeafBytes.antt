-- How many bytes of a text the leaves of a tree are: no more than there are, and in each process more than its
-- name, a declared name and 19 other bytes.
use Rattle.sig_call.proofs.Common.{◌≡◌, ◌++◌, ◌+◌, ◌-◌, ◌≤◌, ◌∙◌, ℕ, suc, List, [], ◌∷◌, length, drop, map, codes, sym, ap, subst, inl, inr, arith, slice_range, length-take, AllByRecursion, flat_map, option_to_list, option_map, Span, Kind, Integer, Token, TokenKind, NameToken, InOrder, text_of, Item, Declared, Equations, Together, Defines, Equal, Heading, Placement, ProcessModel, Modelled, ProcessModels, no_model, more_models, Declaration, Role, Input, Output, Local, declared_as, name_of, with_inner, those_inner, signals_declared, Terminal, name, word, mark, Leaf, leaf, kind_word, terminal_of, leaf_of, leaves_of, Limits, Each, Further, Separated, Between, IsBody, IsGroup, AreGroups, IsInterface, IsModel, IsProcess, IsLocalGroup, AreLocals, IsPlainItem, IsItem, all_both, all_so}

-- the bytes of a leaf; those of numbers and labels are left out
abbrev pub bytes_in : Terminal → ℕ
bytes_in (name text) = length text
bytes_in (word text) = length text
bytes_in (mark text) = length text
bytes_in _ = 0

abbrev pub leaf_bytes : List Leaf → ℕ
leaf_bytes [] = 0
leaf_bytes (l ∷ ls) = bytes_in l.terminal + leaf_bytes ls

pub leaf_bytes_append : (xs ys : List Leaf) → leaf_bytes (xs ++ ys) ≡ leaf_bytes xs + leaf_bytes ys
leaf_bytes_append [] ys = omega arith
leaf_bytes_append (x ∷ xs) ys = let rest : leaf_bytes (xs ++ ys) ≡ leaf_bytes xs + leaf_bytes ys = leaf_bytes_append xs ys in omega arith

-- the leaves of a text
slice_few : (text : List ℕ) (i j : ℕ) → length (slice_range text i j) ≤ j - i
slice_few text i j = omega (arith, length-take (j - i) (drop i text))

token_bytes : (kind : TokenKind) (bytes : List ℕ) (at : Span) → leaf_bytes (option_to_list (option_map (λ terminal. leaf terminal at) (terminal_of kind bytes))) ≤ length bytes
token_bytes NameToken bytes at = omega arith
token_bytes _ bytes at = omega arith

bytes_from : (text : List ℕ) (tokens : List Token) (i : ℕ) → InOrder text i tokens → leaf_bytes (leaves_of text tokens) + i ≤ length text
bytes_from text [] i order = (let within : i ≤ length text = order in omega arith)
bytes_from text (t ∷ ts) i order =
    let start : i ≤ t.start = order.0 in
    let stop : t.start ≤ t.stop = order.1 in
    let rest : leaf_bytes (leaves_of text ts) + t.stop ≤ length text = bytes_from text ts t.stop order.3 in
    let here : leaf_bytes (option_to_list (leaf_of text t)) ≤ length (text_of text t) = token_bytes t.kind (text_of text t) t.at in
    let few : length (text_of text t) ≤ t.stop - t.start = slice_few text t.start t.stop in
    let whole : leaf_bytes (leaves_of text (t ∷ ts)) ≡ leaf_bytes (option_to_list (leaf_of text t)) + leaf_bytes (leaves_of text ts) = leaf_bytes_append (option_to_list (leaf_of text t)) (leaves_of text ts) in
    omega arith

pub leaf_bytes_within : (text : List ℕ) (tokens : List Token) → InOrder text 0 tokens → leaf_bytes (leaves_of text tokens) ≤ length text
leaf_bytes_within text tokens order = (let within : leaf_bytes (leaves_of text tokens) + 0 ≤ length text = bytes_from text tokens 0 order in omega arith)

-- what stands several times: what holds of each within its leaves, and within any more bytes, holds within all
further_each : {A : Type 0} (Is : A → List Leaf → Type 0) (separator : Terminal) (G : ℕ → A → Type 0) → ((m n : ℕ) (x : A) → m ≤ n → G m x → G n x) → ((x : A) (leaves : List Leaf) → Is x leaves → G (leaf_bytes leaves) x)
    → (xs : List A) (leaves : List Leaf) (m : ℕ) → leaf_bytes leaves ≤ m → Further Is separator xs leaves → AllByRecursion (G m) xs
further_each Is separator G more then [] leaves m within h = tt
further_each Is separator G more then (x ∷ xs) leaves m within h =
    let whole : leaf_bytes leaves ≡ bytes_in separator + leaf_bytes (h.1 ++ h.2) = ap leaf_bytes h.3 in
    let parts : leaf_bytes (h.1 ++ h.2) ≡ leaf_bytes h.1 + leaf_bytes h.2 = leaf_bytes_append h.1 h.2 in
    (more (leaf_bytes h.1) m x (omega arith) (then x h.1 h.4), further_each Is separator G more then xs h.2 m (omega arith) h.5)

separated_each : {A : Type 0} (Is : A → List Leaf → Type 0) (separator : Terminal) (G : ℕ → A → Type 0) → ((m n : ℕ) (x : A) → m ≤ n → G m x → G n x) → ((x : A) (leaves : List Leaf) → Is x leaves → G (leaf_bytes leaves) x)
    → (xs : List A) (leaves : List Leaf) → Separated Is separator xs leaves → AllByRecursion (G (leaf_bytes leaves)) xs
separated_each Is separator G more then [] leaves h = tt
separated_each Is separator G more then (x ∷ xs) leaves h =
    let whole : leaf_bytes leaves ≡ leaf_bytes h.0 + leaf_bytes h.1 = ap leaf_bytes h.2 ∙ leaf_bytes_append h.0 h.1 in
    (more (leaf_bytes h.0) (leaf_bytes leaves) x (omega arith) (then x h.0 h.3), further_each Is separator G more then xs h.1 (leaf_bytes leaves) (omega arith) h.4)

-- items, beside the word of their kind
abbrev HasRoom : ℕ → Item → Type 0
HasRoom m item = length item.name.text + 5 ≤ m

abbrev GroupHasRoom : ℕ → Declared → Type 0
GroupHasRoom m group = AllByRecursion (HasRoom m) group.items

room_more : (m n : ℕ) (item : Item) → m ≤ n → HasRoom m item → HasRoom n item
room_more m n item more room = (let r : length item.name.text + 5 ≤ m = room in omega arith)

group_more : (m n : ℕ) (group : Declared) → m ≤ n → GroupHasRoom m group → GroupHasRoom n group
group_more m n group more room = all_so (HasRoom m) (HasRoom n) (λ item r. room_more m n item more r) group.items room

plain_bytes : (item : Item) (leaves : List Leaf) → IsPlainItem item leaves → length item.name.text ≤ leaf_bytes leaves
plain_bytes item leaves h = (let whole : leaf_bytes leaves ≡ length item.name.text + 0 = ap leaf_bytes h.1 in omega arith)

item_bytes : (item : Item) (leaves : List Leaf) → IsItem item leaves → length item.name.text ≤ leaf_bytes leaves
item_bytes item leaves h = (let whole : leaf_bytes leaves ≡ length item.name.text + leaf_bytes h.0 = ap leaf_bytes h.1 in omega arith)

kind_long : (kind : Kind) → 5 ≤ bytes_in (kind_word kind)
kind_long Integer = omega arith
kind_long _ = omega arith

group_room : (IsOne : Item → List Leaf → Type 0) → ((item : Item) (leaves : List Leaf) → IsOne item leaves → length item.name.text ≤ leaf_bytes leaves)
    → (group : Declared) (leaves : List Leaf) → IsGroup IsOne group leaves → GroupHasRoom (leaf_bytes leaves) group
group_room IsOne then group leaves h =
    let whole : leaf_bytes leaves ≡ bytes_in (kind_word group.kind) + leaf_bytes h.1 = ap leaf_bytes h.2 in
    let long = kind_long group.kind in
    all_so (λ (item : Item). length item.name.text ≤ leaf_bytes h.1) (HasRoom (leaf_bytes leaves)) (λ item r. (let inside : length item.name.text ≤ leaf_bytes h.1 = r in omega arith)) group.items
    (separated_each IsOne _ (λ m (item : Item). length item.name.text ≤ m) (λ m n item more r. (let within : length item.name.text ≤ m = r in omega arith)) then group.items h.1 h.3)

groups_room : (IsOne : Item → List Leaf → Type 0) → ((item : Item) (leaves : List Leaf) → IsOne item leaves → length item.name.text ≤ leaf_bytes leaves)
    → (groups : List Declared) (leaves : List Leaf) → AreGroups (IsGroup IsOne) groups leaves → AllByRecursion (GroupHasRoom (leaf_bytes leaves)) groups
groups_room IsOne then [] leaves h = tt
groups_room IsOne then (g ∷ gs) leaves h =
    let whole : leaf_bytes leaves ≡ leaf_bytes h.0 + leaf_bytes h.1 = ap leaf_bytes h.2 ∙ leaf_bytes_append h.0 h.1 in
    all_so (GroupHasRoom (leaf_bytes h.0)) (GroupHasRoom (leaf_bytes leaves)) (λ group r. group_more (leaf_bytes h.0) (leaf_bytes leaves) group (omega arith) r) (g ∷ gs)
    (separated_each (IsGroup IsOne) _ GroupHasRoom group_more (group_room IsOne then) (g ∷ gs) h.0 h.3)

-- what is declared
abbrev IsRoomy : ℕ → Declaration → Type 0
IsRoomy m d = length d.name.text + 5 ≤ m

roomy_more : (m n : ℕ) → m ≤ n → (ds : List Declaration) → AllByRecursion (IsRoomy m) ds → AllByRecursion (IsRoomy n) ds
roomy_more m n more ds h = all_so (IsRoomy m) (IsRoomy n) (λ d r. (let room : length d.name.text + 5 ≤ m = r in omega arith)) ds h

items_roomy : (role : Role) (group : Declared) (m : ℕ) (items : List Item) → AllByRecursion (HasRoom m) items
    → AllByRecursion (IsRoomy m) (map (λ (item : Item). record { name = item.name; kind = group.kind; role = role; init = item.init }) items)
items_roomy role group m [] h = tt
items_roomy role group m (item ∷ items) h = (h.0, items_roomy role group m items h.1)

declared_roomy : (role : Role) (m : ℕ) (groups : List Declared) → AllByRecursion (GroupHasRoom m) groups → AllByRecursion (IsRoomy m) (declared_as role groups)
declared_roomy role m [] h = tt
declared_roomy role m (g ∷ gs) h = all_both (IsRoomy m) _ (declared_as role gs) (items_roomy role g m g.items h.0) (declared_roomy role m gs h.1)

bytes_between : (opening closing : Terminal) (Is : List Leaf → Type 0) (leaves : List Leaf) (b : Between opening closing Is leaves) → leaf_bytes leaves ≡ bytes_in opening + (leaf_bytes b.2 + bytes_in closing)
bytes_between opening closing Is leaves b =
    let whole : leaf_bytes leaves ≡ bytes_in opening + leaf_bytes (b.2 ++ leaf closing b.1 ∷ []) = ap leaf_bytes b.3 in
    let parts : leaf_bytes (b.2 ++ leaf closing b.1 ∷ []) ≡ leaf_bytes b.2 + (bytes_in closing + 0) = leaf_bytes_append b.2 (leaf closing b.1 ∷ []) in
    omega arith

-- an interface: its four marks, and what it declares
record RoomyInterface (inputs outputs : List Declared) (m : ℕ) : Type 0 where
  marks : 4 ≤ m
  asked : AllByRecursion (IsRoomy (m - 4)) (declared_as Input inputs)
  answered : AllByRecursion (IsRoomy (m - 4)) (declared_as Output outputs)

interface_roomy : (inputs outputs : List Declared) (leaves : List Leaf) → IsInterface inputs outputs leaves → RoomyInterface inputs outputs (leaf_bytes leaves)
interface_roomy inputs outputs leaves h =
    let parts = h.4 in
    let outer : leaf_bytes leaves ≡ 1 + (leaf_bytes h.2 + 1) = bytes_between (mark (codes "(")) (mark (codes ")")) _ leaves h in
    let inner : leaf_bytes h.2 ≡ 1 + leaf_bytes (parts.2 ++ leaf (mark (codes "!")) parts.1 ∷ parts.3) = ap leaf_bytes parts.4 in
    let both : leaf_bytes (parts.2 ++ leaf (mark (codes "!")) parts.1 ∷ parts.3) ≡ leaf_bytes parts.2 + (1 + leaf_bytes parts.3) = leaf_bytes_append parts.2 (leaf (mark (codes "!")) parts.1 ∷ parts.3) in
    record {
      marks = omega arith;
      asked = roomy_more (leaf_bytes parts.2) (leaf_bytes leaves - 4) (omega arith) (declared_as Input inputs) (declared_roomy Input (leaf_bytes parts.2) inputs (groups_room IsPlainItem plain_bytes inputs parts.2 parts.5));
      answered = roomy_more (leaf_bytes parts.3) (leaf_bytes leaves - 4) (omega arith) (declared_as Output outputs) (declared_roomy Output (leaf_bytes parts.3) outputs (groups_room IsItem item_bytes outputs parts.3 parts.6));
    }

-- a body has a mark
body_bytes : (limits : Limits) (body : Equations) (depth : ℕ) (leaves : List Leaf) → IsBody limits body depth leaves → 2 ≤ leaf_bytes leaves
body_bytes limits (Together bodies) depth leaves h = (let whole : leaf_bytes leaves ≡ 2 + (leaf_bytes h.1.2 + 2) = bytes_between (mark (codes "(|")) (mark (codes "|)")) _ leaves h.1 in omega arith)
body_bytes limits (Defines names right) depth leaves h =
    let whole : leaf_bytes leaves ≡ leaf_bytes h.1 + (2 + leaf_bytes h.2) = ap leaf_bytes h.3 ∙ leaf_bytes_append h.1 (leaf (mark (codes ":=")) h.0 ∷ h.2) in
    omega arith
body_bytes limits (Equal (e ∷ f ∷ others)) depth leaves h =
    let first = h.0 in
    let whole : leaf_bytes leaves ≡ leaf_bytes first.0 + leaf_bytes first.1 = ap leaf_bytes first.2 ∙ leaf_bytes_append first.0 first.1 in
    let behind : leaf_bytes first.1 ≡ 2 + leaf_bytes (first.4.1 ++ first.4.2) = ap leaf_bytes first.4.3 in
    omega arith
body_bytes limits _ depth leaves h = elim h [ ]

-- locals
local_group_room : (group : Declared) (leaves : List Leaf) → IsLocalGroup group leaves → GroupHasRoom (leaf_bytes leaves) group
local_group_room group leaves h =
    let whole : leaf_bytes leaves ≡ leaf_bytes h.1 + (1 + 0) = ap leaf_bytes h.2 ∙ leaf_bytes_append h.1 (leaf (mark (codes ";")) h.0 ∷ []) in
    group_more (leaf_bytes h.1) (leaf_bytes leaves) group (omega arith) (group_room IsItem item_bytes group h.1 h.3)

local_groups_room : (groups : List Declared) (leaves : List Leaf) (m : ℕ) → leaf_bytes leaves ≤ m → Each IsLocalGroup groups leaves → AllByRecursion (GroupHasRoom m) groups
local_groups_room [] leaves m within h = tt
local_groups_room (g ∷ gs) leaves m within h =
    let whole : leaf_bytes leaves ≡ leaf_bytes h.0 + leaf_bytes h.1 = ap leaf_bytes h.2 ∙ leaf_bytes_append h.0 h.1 in
    (group_more (leaf_bytes h.0) m g (omega arith) (local_group_room g h.0 h.3), local_groups_room gs h.1 m (omega arith) h.4)

-- processes: the name of one, a declared name, and 20 bytes
pub record IsRoomyProcess (size : ℕ) (p : ProcessModel) : Type 0 where
  pub declared : AllByRecursion (λ (d : Declaration). length (name_of p).text + (length d.name.text + 20) ≤ size) (signals_declared p)

-- the parts of a process
process_bytes : (limits : Limits) (depth : ℕ) (heading : Heading) (body : Equations) (IsWherePart : List Leaf → Type 0) (leaves : List Leaf) {pragmas : _} (h : IsProcess limits depth heading pragmas body IsWherePart leaves)
    → 9 + (length heading.name.text + (leaf_bytes h.4 + (leaf_bytes h.6 + leaf_bytes h.7))) ≤ leaf_bytes leaves
process_bytes limits depth heading body IsWherePart leaves h =
    let last = leaf (mark (codes ";")) h.2 ∷ [] in
    let e0 : leaf_bytes (h.3 ++ (h.4 ++ (h.5 ++ (h.6 ++ (h.7 ++ last))))) ≡ leaf_bytes h.3 + leaf_bytes (h.4 ++ (h.5 ++ (h.6 ++ (h.7 ++ last)))) = leaf_bytes_append h.3 (h.4 ++ (h.5 ++ (h.6 ++ (h.7 ++ last)))) in
    let e1 : leaf_bytes (h.4 ++ (h.5 ++ (h.6 ++ (h.7 ++ last)))) ≡ leaf_bytes h.4 + leaf_bytes (h.5 ++ (h.6 ++ (h.7 ++ last))) = leaf_bytes_append h.4 (h.5 ++ (h.6 ++ (h.7 ++ last))) in
    let e2 : leaf_bytes (h.5 ++ (h.6 ++ (h.7 ++ last))) ≡ leaf_bytes h.5 + leaf_bytes (h.6 ++ (h.7 ++ last)) = leaf_bytes_append h.5 (h.6 ++ (h.7 ++ last)) in
    let e3 : leaf_bytes (h.6 ++ (h.7 ++ last)) ≡ leaf_bytes h.6 + leaf_bytes (h.7 ++ last) = leaf_bytes_append h.6 (h.7 ++ last) in
    let e4 : leaf_bytes (h.7 ++ last) ≡ leaf_bytes h.7 + (1 + 0) = leaf_bytes_append h.7 last in
    let whole : leaf_bytes leaves ≡ 7 + (length heading.name.text + (1 + leaf_bytes (h.3 ++ (h.4 ++ (h.5 ++ (h.6 ++ (h.7 ++ last))))))) = ap leaf_bytes h.8 in
    omega arith

own_roomy : (heading : Heading) (pragmas : List Placement) (body : Equations) (locals : List Declared) (inner : ProcessModels) (interface equations where_part size : ℕ) → RoomyInterface heading.inputs heading.outputs interface → 2 ≤ equations
    → AllByRecursion (GroupHasRoom where_part) locals → 9 + (length heading.name.text + (interface + (equations + where_part))) ≤ size → IsRoomyProcess size (Modelled heading pragmas body locals inner)
own_roomy heading pragmas body locals inner interface equations where_part size roomy some room within =
    let marks : 4 ≤ interface = roomy.marks in
    let so : (m : ℕ) → m + (length heading.name.text + 15) ≤ size → (ds : List Declaration) → AllByRecursion (IsRoomy m) ds → AllByRecursion (λ (d : Declaration). length heading.name.text + (length d.name.text + 20) ≤ size) ds = λ m few ds all.
    all_so (IsRoomy m) (λ (d : Declaration). length heading.name.text + (length d.name.text + 20) ≤ size) (λ d r. (let own : length d.name.text + 5 ≤ m = r in omega arith)) ds all in
    record {
      declared = all_both _ (declared_as Input heading.inputs) _ (so (interface - 4) (omega arith) (declared_as Input heading.inputs) roomy.asked)
          (all_both _ (declared_as Output heading.outputs) _ (so (interface - 4) (omega arith) (declared_as Output heading.outputs) roomy.answered)
          (so where_part (omega arith) (declared_as Local locals) (declared_roomy Local where_part locals room)));
    }

-- what a process declares behind `where`, and the processes inside
record RoomyInside (size m : ℕ) (groups : List Declared) (inner : ProcessModels) : Type 0 where
  locals : AllByRecursion (GroupHasRoom m) groups
  processes : AllByRecursion (IsRoomyProcess size) (those_inner inner)

nothing_roomy : (size m : ℕ) (groups : List Declared) (inner : ProcessModels) → groups ≡ [] → inner ≡ no_model → RoomyInside size m groups inner
nothing_roomy size m groups inner none no_inner = record {
  locals = subst (AllByRecursion (GroupHasRoom m)) (sym none) tt;
  processes = subst (λ i. AllByRecursion (IsRoomyProcess size) (those_inner i)) (sym no_inner) tt;
}

mutual
  model_roomy : (limits : Limits) (model : ProcessModel) (depth : ℕ) (leaves : List Leaf) (size : ℕ) → IsModel limits model depth leaves → leaf_bytes leaves ≤ size → AllByRecursion (IsRoomyProcess size) (with_inner model)
  model_roomy limits (Modelled heading pragmas body locals inner) depth leaves size h within =
      let parts : 9 + (length heading.name.text + (leaf_bytes h.4 + (leaf_bytes h.6 + leaf_bytes h.7))) ≤ leaf_bytes leaves = process_bytes limits depth heading body _ leaves h in
      let inside : RoomyInside size (leaf_bytes h.7) locals inner = elim h.13 [
        | inl none ↦ nothing_roomy size (leaf_bytes h.7) locals inner none.0 none.1
        | inr some ↦ those_roomy limits inner depth locals some.2 size (leaf_bytes h.7) some.4
            (let outer : leaf_bytes h.7 ≡ 5 + (leaf_bytes some.2 + 3) = bytes_between (word (codes "where")) (word (codes "end")) _ h.7 some in omega arith)
            (let outer : leaf_bytes h.7 ≡ 5 + (leaf_bytes some.2 + 3) = bytes_between (word (codes "where")) (word (codes "end")) _ h.7 some in omega arith)
      ] in
      (own_roomy heading pragmas body locals inner (leaf_bytes h.4) (leaf_bytes h.6) (leaf_bytes h.7) size (interface_roomy heading.inputs heading.outputs h.4 h.10) (body_bytes limits body depth h.6 h.12) inside.locals (omega arith), inside.processes)

  those_roomy : (limits : Limits) (inner : ProcessModels) (depth : ℕ) (groups : List Declared) (leaves : List Leaf) (size m : ℕ) → AreLocals limits inner depth groups leaves → leaf_bytes leaves ≤ size → leaf_bytes leaves ≤ m → RoomyInside size m groups inner
  those_roomy limits no_model depth groups leaves size m h within room = record { locals = local_groups_room groups leaves m room h; processes = tt }
  those_roomy limits (more_models model rest) depth groups leaves size m h within room =
      let whole : leaf_bytes leaves ≡ leaf_bytes h.2 + leaf_bytes (h.3 ++ h.4) = ap leaf_bytes h.6 ∙ leaf_bytes_append h.2 (h.3 ++ h.4) in
      let parts : leaf_bytes (h.3 ++ h.4) ≡ leaf_bytes h.3 + leaf_bytes h.4 = leaf_bytes_append h.3 h.4 in
      let later = those_roomy limits rest depth h.1 h.4 size m h.9 (omega arith) (omega arith) in
      record {
        locals = subst (AllByRecursion (GroupHasRoom m)) (sym h.5) (all_both (GroupHasRoom m) h.0 h.1 (local_groups_room h.0 h.2 m (omega arith) h.7) later.locals);
        processes = all_both (IsRoomyProcess size) (with_inner model) (those_inner rest) (model_roomy limits model (suc depth) h.3 size h.8.1 (omega arith)) later.processes;
      }

pub each_roomy : (limits : Limits) (ps : List ProcessModel) (leaves : List Leaf) (size : ℕ) → Each (λ p. IsModel limits p 0) ps leaves → leaf_bytes leaves ≤ size → AllByRecursion (IsRoomyProcess size) (flat_map with_inner ps)
each_roomy limits [] leaves size h within = tt
each_roomy limits (p ∷ ps) leaves size h within =
    let whole : leaf_bytes leaves ≡ leaf_bytes h.0 + leaf_bytes h.1 = ap leaf_bytes h.2 ∙ leaf_bytes_append h.0 h.1 in
    all_both (IsRoomyProcess size) (with_inner p) (flat_map with_inner ps) (model_roomy limits p 0 h.0 size h.3 (omega arith)) (each_roomy limits ps h.1 size h.4 (omega arith))
