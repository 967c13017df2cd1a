-- A list of nodes that grows by one node stays reduced.
use Rattle.sig_dd.proofs.Common.{◌≡◌, ◌≢◌, ℕ, zero, suc, ◌+◌, ◌<◌, ◌≤◌, Bool, true, false, List, [], ◌∷◌, ◌++◌, ◌⊎◌, inl, inr, Option, None, Some, IfSome, length, slice_get, refl, sym, ◌∙◌, ap, subst, arith, if◌then◌else◌, ◌||◌, true≢false, eqb, ◌&&◌, position, get_or, cases_lt, eqb-true, eqb-false, eq-eqb, length_push, length-append, append-nil, slice_get_within, slice_get-get_or, position-Some, value_at, truth_of, StartsFrom, Holds, node_numbered, node_of, diagram, test, IsNodeAt, IsReduced, IsStore, IsChoice, Ref, Node, insert_key, list_any, get_before, get_last, and_first, and_second}
use Rattle.sig_dd.proofs.Trees.{value_at-choice, StartsFrom-weaker}
use Rattle.sig_dd.proofs.Listed.{diagram-append, diagram-node}
use Rattle.sig_dd.proofs.Canonical.{node-StartsFrom, same_ref, same_node}

-- what stands in a list with one more element
slice_get-push_cases : {X : Type 0} (xs : List X) (y : X) (i : ℕ) (x : X) → slice_get (xs ++ y ∷ []) i ≡ Some x → ((i < length xs) × (slice_get xs i ≡ Some x)) ⊎ ((i ≡ length xs) × (x ≡ y))
slice_get-push_cases xs y i x e =
    elim (cases_lt i (length xs)) [
      | inl lt ↦ inl (lt, sym (get_before xs (y ∷ []) i lt) ∙ e)
      | inr ge ↦
          let within = slice_get_within _ i x e in
          let len : length (xs ++ y ∷ []) ≡ length xs + 1 = length_push xs y in
          let at : i ≡ length xs = omega (arith, len) in
          let same : Some x ≡ Some y = sym e ∙ ap (slice_get (xs ++ y ∷ [])) at ∙ get_last xs y in
          inr (at, cc)
    ]

pub Holds-append : (nodes more : List Node) (r : Ref) → Holds nodes r → Holds (nodes ++ more) r
Holds-append nodes more r h = let e = length-append nodes more in omega (arith, e)

numbered-append : (nodes more : List Node) (m : ℕ) → m < length nodes + 2 → node_numbered (nodes ++ more) m ≡ node_numbered nodes m
numbered-append nodes more zero h = refl
numbered-append nodes more (suc zero) h = refl
numbered-append nodes more (suc (suc i)) h = get_before nodes more i (omega arith)

pub node_of-append : (nodes more : List Node) (r : Ref) → Holds nodes r → node_of (nodes ++ more) r ≡ node_of nodes r
node_of-append nodes more r h = numbered-append nodes more r.number h

IsNodeAt-append : (nodes more : List Node) (i : ℕ) (n : Node) → i ≤ length nodes → IsNodeAt nodes i n → IsNodeAt (nodes ++ more) i n
IsNodeAt-append nodes more i n le h =
    let low = h.low_before in
    let high = h.high_before in
    record {
      low_before = low;
      high_before = high;
      differ = h.differ;
      low_later = subst (λ o. IfSome o (λ m. n.variable < m.variable)) (sym (node_of-append nodes more n.low (omega arith))) h.low_later;
      high_later = subst (λ o. IfSome o (λ m. n.variable < m.variable)) (sym (node_of-append nodes more n.high (omega arith))) h.high_later;
    }

-- one more node
pub IsReduced-push : (nodes : List Node) (n : Node) → IsReduced nodes → IsNodeAt nodes (length nodes) n → ((i : ℕ) → slice_get nodes i ≢ Some n) → IsReduced (nodes ++ n ∷ [])
IsReduced-push nodes n old is new = record {
  each = λ i m e. elim (slice_get-push_cases nodes n i m e) [
    | inl (lt, at) ↦ IsNodeAt-append nodes (n ∷ []) i m (omega arith) (old.each i m at)
    | inr (at, same) ↦
        let le : i ≤ length nodes = omega arith in
        IsNodeAt-append nodes (n ∷ []) i m le (subst (λ k. IsNodeAt nodes k m) (sym at) (subst (IsNodeAt nodes (length nodes)) (sym same) is))
  ];
  once = λ i j m e f. elim (slice_get-push_cases nodes n i m e) [
    | inl (lt, at) ↦ elim (slice_get-push_cases nodes n j m f) [
      | inl (lt', at') ↦ old.once i j m at at'
      | inr (at', same) ↦ absurd (new i (at ∙ ap Some same))
    ]
    | inr (at, same) ↦ elim (slice_get-push_cases nodes n j m f) [
      | inl (lt', at') ↦ absurd (new j (at' ∙ ap Some same))
      | inr (at', same') ↦ at ∙ sym at'
    ]
  ];
}

later_child : (v : ℕ) (o : Option Node) → IfSome o (λ m. suc v ≤ m.variable) → IfSome o (λ m. v < m.variable)
later_child v None h = tt
later_child v (Some m) h = omega arith

-- a choice between two functions of later variables may stand as the next node
pub IsNodeAt-next : (nodes : List Node) (n : Node) → IsReduced nodes → Holds nodes n.low → Holds nodes n.high → n.low ≢ n.high
    → StartsFrom (suc n.variable) (diagram nodes n.low) → StartsFrom (suc n.variable) (diagram nodes n.high) → IsNodeAt nodes (length nodes) n
IsNodeAt-next nodes n reduced low high differ low_later high_later = record {
  low_before = low;
  high_before = high;
  differ = differ;
  low_later = later_child n.variable _ (node-StartsFrom nodes reduced n.low low (suc n.variable) low_later);
  high_later = later_child n.variable _ (node-StartsFrom nodes reduced n.high high (suc n.variable) high_later);
}

any_at : (p : Node → Bool) (nodes : List Node) (i : ℕ) (n : Node) → slice_get nodes i ≡ Some n → p n ≡ true → list_any p nodes ≡ true
any_at p [] i n e h = absurd (cc)
any_at p (m ∷ nodes) zero n e h = let mn : m ≡ n = cc in ap (λ b. b || list_any p nodes) (ap p mn ∙ h)
any_at p (m ∷ nodes) (suc i) n e h = ap (λ b. p m || b) (any_at p nodes i n e h) ∙ elim (p m) as (λ c. (c || true) ≡ true) [ true ↦ refl | false ↦ refl ]

-- what `==` answers at two nodes
abbrev pub node_eq : Node → Node → Bool
node_eq m n = eqb m.variable n.variable && (eqb m.low.number n.low.number && eqb m.high.number n.high.number)

pub node_eq-same : (m n : Node) → node_eq m n ≡ true → m ≡ n
node_eq-same m n h =
    let v = and_first _ _ h in
    let children = and_second _ _ h in
    same_node m n (eqb-true m.variable n.variable v)
    (same_ref m.low n.low (eqb-true _ _ (and_first _ _ children)))
    (same_ref m.high n.high (eqb-true _ _ (and_second _ _ children)))

pub node_eq-itself : (n : Node) → node_eq n n ≡ true
node_eq-itself n =
    rw (eq-eqb n.variable n.variable refl, eq-eqb n.low.number n.low.number refl, eq-eqb n.high.number n.high.number refl)

pub ref_apart : (r s : Ref) → false ≡ eqb r.number s.number → r ≢ s
ref_apart r s h e = eqb-false r.number s.number (sym h) (ap (λ (x : Ref). x.number) e)

pub ref_same : (r s : Ref) → true ≡ eqb r.number s.number → r ≡ s
ref_same r s h = same_ref r s (eqb-true r.number s.number (sym h))

-- a node that was found stands where it was found
pub stands_at_position : (nodes : List Node) (n : Node) (i : ℕ) → position (node_eq n) nodes ≡ Some i → slice_get nodes i ≡ Some n
stands_at_position nodes n i e =
    let p = position-Some (node_eq n) nodes i n e in
    slice_get-get_or nodes i n p.0 ∙ ap Some (sym (node_eq-same n (get_or nodes i n) p.1))

not_among : (nodes : List Node) (n : Node) → list_any (node_eq n) nodes ≡ false → (i : ℕ) → slice_get nodes i ≢ Some n
not_among nodes n none i e = true≢false (sym (any_at (node_eq n) nodes i n e (node_eq-itself n)) ∙ none)

-- the store once a node is inserted, where there is room
pub IsStore-insert : (nodes : List Node) (m : ℕ) (n : Node)
    → IsStore (record { nodes = nodes; made_for = m }) → IsNodeAt nodes (length nodes) n → length nodes < m
    → IsStore (record { nodes = insert_key node_eq nodes n; made_for = m })
IsStore-insert nodes m n old is room = by (list_any (node_eq n) nodes) refl
  where
    by : (b : Bool) → list_any (node_eq n) nodes ≡ b → IsStore (record { nodes = insert_key node_eq nodes n; made_for = m })
    by true e = subst (λ c. IsStore (record { nodes = if c then nodes else nodes ++ n ∷ []; made_for = m })) (sym e) old
    by false e =
        let len : length (nodes ++ n ∷ []) ≡ length nodes + 1 = length_push nodes n in
        subst (λ c. IsStore (record { nodes = if c then nodes else nodes ++ n ∷ []; made_for = m })) (sym e)
        (record {
          reduced = IsReduced-push nodes n old.reduced is (not_among nodes n e);
          within = omega (arith, len);
        })

-- it has one node more at most
pub length-insert : (nodes : List Node) (n : Node) → length (insert_key node_eq nodes n) ≤ length nodes + 1
length-insert nodes n = by (list_any (node_eq n) nodes) refl
  where
    by : (b : Bool) → list_any (node_eq n) nodes ≡ b → length (insert_key node_eq nodes n) ≤ length nodes + 1
    by true e = subst (λ c. length (if c then nodes else nodes ++ n ∷ []) ≤ length nodes + 1) (sym e) (omega arith)
    by false e = let len : length (nodes ++ n ∷ []) ≡ length nodes + 1 = length_push nodes n in
        subst (λ c. length (if c then nodes else nodes ++ n ∷ []) ≤ length nodes + 1) (sym e) (omega (arith, len))

-- the list once a node is inserted
pub nodes-insert : (nodes : List Node) (n : Node) → (more : List Node) × (insert_key node_eq nodes n ≡ nodes ++ more)
nodes-insert nodes n = by (list_any (node_eq n) nodes) refl
  where
    by : (b : Bool) → list_any (node_eq n) nodes ≡ b → (more : List Node) × (insert_key node_eq nodes n ≡ nodes ++ more)
    by true e = ([], ap (λ c. if c then nodes else nodes ++ n ∷ []) e ∙ sym (append-nil nodes))
    by false e = (n ∷ [], ap (λ c. if c then nodes else nodes ++ n ∷ []) e)

-- where the two functions are one, it is the choice
pub IsChoice-same : (nodes : List Node) (v : ℕ) (low high : Ref) → Holds nodes low → low ≡ high → StartsFrom (suc v) (diagram nodes low) → IsChoice nodes nodes v low high low
IsChoice-same nodes v low high held same later = record {
  holds = held;
  function = λ ts. by ts (truth_of ts v) refl;
  starts = StartsFrom-weaker (diagram nodes low) v (suc v) (omega arith) later;
}
  where
    by : (ts : List Bool) (b : Bool) → truth_of ts v ≡ b → test nodes low ts ≡ (if truth_of ts v then test nodes high ts else test nodes low ts)
    by ts true e = ap (λ r. test nodes r ts) same ∙ sym (ap (λ c. if c then test nodes high ts else test nodes low ts) e)
    by ts false e = sym (ap (λ c. if c then test nodes high ts else test nodes low ts) e)

-- a node is the choice between its children
pub IsChoice-node : (old more : List Node) (i : ℕ) (n : Node) (r : Ref) → IsReduced (old ++ more) → Holds old n.low → Holds old n.high
    → slice_get (old ++ more) i ≡ Some n → r.number ≡ i + 2 → IsChoice old (old ++ more) n.variable n.low n.high r
unfolding StartsFrom
IsChoice-node old more i n r reduced low high at number =
    let is = diagram-node (old ++ more) i n r at (reduced.each i n at) number in
    let lt = slice_get_within (old ++ more) i n at in
    record {
      holds = omega arith;
      function = λ ts.
          ap (λ d. value_at d ts) is
          ∙ value_at-choice n.variable _ _ ts (truth_of ts n.variable) refl
          ∙ ap (λ d. if truth_of ts n.variable then value_at d ts else test (old ++ more) n.low ts) (diagram-append old more n.high high)
          ∙ ap (λ d. if truth_of ts n.variable then test old n.high ts else value_at d ts) (diagram-append old more n.low low);
      starts = subst (StartsFrom n.variable) (sym is) (omega arith);
    }
