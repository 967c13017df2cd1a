-- Columns that are written in an order in which each element stands behind what its equation reads.
use Rattle.sig_rel.proofs.Common.{◌≡◌, ◌≤◌, ◌++◌, inl, inr, ℕ, Bool, true, false, List, [], ◌∷◌, length, get_or, map, take, Option, None, Some, refl, sym, ap, ◌∙◌, subst, arith, Contains, if◌then◌else◌, ◌&&◌, ◌||◌, slice_get, cases_Bool, false≢true, Signal, Holds, Keeps, Spans, StoreView, test, Node, Ref, Holds-kept, Spans-kept, Form, Fun, When, WhenConst, Default, Operand, Sig, Const, Kernel, compares, truth_function, signals_among, contains_at, contains_head, contains_later, contains_none, IsCut, IsGivenBy, entry_of, truths_read, is_boolean, Values, has, operand_value, presence_by, truth_by_form, ArePlain, AreWritten, Gives, HoldColumns, IsPartlyWritten, IsSet, IsWritten, SpanColumns, given_by, ref_at, truth_at, values_at, IsOrderOfWriting, form_at, operand_signals, tested, Element, Presence, Truth, Rules, Columns, get_taken}
use Rattle.sig_rel.proofs.ElementLemmas.{held_at, held_by, set_ref, span_at, span_by}
use Rattle.sig_rel.proofs.PlacingLemmas.{among_more}
use Rattle.sig_rel.proofs.KeptFunctions.{test_kept}
use Rattle.sig_rel.proofs.TriangleLemmas.{before_place}

-- ---- what an equation gives depends on its operands alone

module _ (least : List ℕ) (v w : Values) where
  abbrev SameHas : ℕ → Type 0
  SameHas x = has least v x ≡ has least w x

  abbrev SameTruth : ℕ → Type 0
  SameTruth x = v.truth x ≡ w.truth x

  presence_same : (form : Form) → ((x : ℕ) → Contains (operand_signals form) x → SameHas x) → ((x : ℕ) → Contains (tested form) x → SameTruth x) → presence_by least v form ≡ presence_by least w form
  presence_same (When y x b) present truth =
      let px = present x.0 (contains_head x.0 (b.0 ∷ [])) in
      let pb = present b.0 (contains_later x.0 b.0 (b.0 ∷ []) (contains_head b.0 [])) in
      let tb = truth b.0 (contains_head b.0 []) in
      (λ j. (pb j && tb j) && px j)
  presence_same (WhenConst y c b) present truth =
      let pb = present b.0 (contains_head b.0 []) in
      let tb = truth b.0 (contains_head b.0 []) in
      (λ j. pb j && tb j)
  presence_same (Default y a b) present truth =
      let pa = present a.0 (contains_head a.0 (b.0 ∷ [])) in
      let pb = present b.0 (contains_later a.0 b.0 (b.0 ∷ []) (contains_head b.0 [])) in
      (λ j. pa j || pb j)
  presence_same _ present truth = refl

  operands_same : (operands : List Operand) → ((x : ℕ) → Contains (signals_among operands) x → SameTruth x) → map (operand_value v) operands ≡ map (operand_value w) operands
  operands_same [] truth = refl
  operands_same (Sig x ∷ operands) truth =
      let first = truth x.0 (contains_head x.0 (signals_among operands)) in
      let rest = operands_same operands (λ z there. truth z (contains_later x.0 z (signals_among operands) there)) in
      (λ j. first j ∷ rest j)
  operands_same (Const c ∷ operands) truth = ap (λ rest. operand_value v (Const c) ∷ rest) (operands_same operands truth)

  truth_same : (signals : List Signal) (form : Form) → ((x : ℕ) → Contains (operand_signals form) x → SameHas x) → ((x : ℕ) → Contains (operand_signals form) x → SameTruth x)
      → truth_by_form signals least v form ≡ truth_by_form signals least w form
  truth_same signals (Fun y op operands) present truth = ap (λ ts. if compares signals op operands then None else truth_function op ts) (operands_same operands truth)
  truth_same signals (When y x b) present truth = ap Some (truth x.0 (contains_head x.0 (b.0 ∷ [])))
  truth_same signals (Default y a b) present truth =
      let pa = present a.0 (contains_head a.0 (b.0 ∷ [])) in
      let ta = truth a.0 (contains_head a.0 (b.0 ∷ [])) in
      let tb = truth b.0 (contains_later a.0 b.0 (b.0 ∷ []) (contains_head b.0 [])) in
      (λ j. Some (if pa j then ta j else tb j))
  truth_same signals _ present truth = refl

  given_same : (signals : List Signal) (form : Form) (element : Element) → ((x : ℕ) → Contains (operand_signals form) x → SameHas x) → ((x : ℕ) → Contains (truths_read form element) x → SameTruth x)
      → given_by signals least v form element ≡ given_by signals least w form element
  given_same signals form (Presence class) present truth = ap Some (presence_same form present truth)
  given_same signals form (Truth signal) present truth = truth_same signals form present truth

taken_more : {X : Type 0} (xs : List X) (j k : ℕ) (x : X) → j ≤ k → Contains (take j xs) x → Contains (take k xs) x
taken_more xs j k x le there = let before = before_place j xs x there in let lt = before.1 in contains_at (take k xs) before.0 x (get_taken k xs before.0 x (omega (arith, lt, le)) before.2)

module _ (kernel : Kernel) (rules : Rules) (list : List Element) (order : IsOrderOfWriting kernel rules list) where
  abbrev least : List ℕ
  least = rules.least.items

  -- ---- one more element is written

  module _ (s t : StoreView) (kept : Keeps s t) (before after : Columns) (held : HoldColumns s.nodes before) (plain : ArePlain kernel s.nodes before)
      (k : ℕ) (element : Element) (at : slice_get list k ≡ Some element) (w : IsWritten kernel rules s.nodes t.nodes before after element) where
    earlier : (e : Element) → Contains (take k list) e → element ≡ e → ⊥
    earlier e there same =
        let place = before_place k list e there in
        let twice = order.once place.0 k e place.2 (subst (λ x. slice_get list k ≡ Some x) same at) in
        let lt = place.1 in
        omega (arith, lt, twice)

    cut_plain : (x : ℕ) → is_boolean kernel x ≡ false → IsCut kernel rules (Truth x)
    cut_plain x other number form given = false≢true (sym other ∙ (order.named.truth x number given.0).3)

    pub still_plain : ArePlain kernel t.nodes after
    still_plain x other truths =
        ap (λ (r : Ref). test t.nodes r truths) (w.other (Truth x) (inr (cut_plain x other))) ∙ test_kept s t kept (truth_at before x) (held.truth x) truths ∙ plain x other truths

    module _ (truths : List Bool) where
      abbrev old : Values
      old = values_at s.nodes before truths

      abbrev new : Values
      new = values_at t.nodes after truths

      stays : (e : Element) → Contains (take k list) e → test s.nodes (ref_at before e) truths ≡ test t.nodes (ref_at after e) truths
      stays e there = sym (ap (λ (r : Ref). test t.nodes r truths) (w.other e (inl (earlier e there))) ∙ test_kept s t kept (ref_at before e) (held_at s.nodes before held e) truths)

      truth_stays : (x : ℕ) → (is_boolean kernel x ≡ true → Contains (take k list) (Truth x)) → old.truth x ≡ new.truth x
      truth_stays x there = elim (cases_Bool (is_boolean kernel x)) [
        | inl boolean ↦ stays (Truth x) (there boolean)
        | inr other ↦ plain x other truths ∙ sym (still_plain x other truths)
      ]

      given_stays : (j : ℕ) (e : Element) (number : ℕ) (form : Form) → j ≤ k → slice_get list j ≡ Some e → IsGivenBy kernel rules e number form
          → given_by kernel.signals least old form e ≡ given_by kernel.signals least new form e
      given_stays j e number form le there given =
          let needs = order.order j e there number form given.0 given.1 in
          given_same least old new kernel.signals form e (λ x among. stays (Presence (get_or least x 0)) (taken_more list j k (Presence (get_or least x 0)) le (needs.0 x among)))
          (λ x among. truth_stays x (λ boolean. taken_more list j k (Truth x) le (needs.1 x among boolean)))

    pub written_more : AreWritten kernel rules s.nodes before (take k list) → AreWritten kernel rules t.nodes after (take k list ++ element ∷ [])
    written_more so_far e number form there given truths b gives = elim (among_more (take k list) element e there) [
      | inl earlier_one ↦
          let place = before_place k list e earlier_one in
          sym (stays truths e earlier_one) ∙ so_far e number form earlier_one given truths b (given_stays truths place.0 e number form (let lt = place.1 in omega arith) place.2 given ∙ gives)
      | inr last ↦ w.given e number form (sym last) given truths b (given_stays truths k e number form (omega arith) (at ∙ ap Some (sym last)) given ∙ gives)
    ]

-- nothing is written at first
pub none_written : (kernel : Kernel) (rules : Rules) (nodes : List Node) (columns : Columns) → HoldColumns nodes columns → length columns.rows.items ≡ length kernel.signals → ArePlain kernel nodes columns
    → IsPartlyWritten kernel rules nodes nodes columns columns []
none_written kernel rules nodes columns held count plain = record {
  count = count;
  held = held;
  spans = λ vs span. span;
  plain = plain;
  written = λ e number form there given truths b gives. absurd (contains_none e there);
  cut = λ e never. refl;
}

pub partly_more : (kernel : Kernel) (rules : Rules) (list : List Element) (order : IsOrderOfWriting kernel rules list) (first : List Node) (start : Columns)
    (s t : StoreView) (kept : Keeps s t) (before after : Columns) (k : ℕ) (element : Element) → slice_get list k ≡ Some element → IsPartlyWritten kernel rules first s.nodes start before (take k list)
    → IsWritten kernel rules s.nodes t.nodes before after element → IsPartlyWritten kernel rules first t.nodes start after (take k list ++ element ∷ [])
partly_more kernel rules list order first start s t kept before after k element at partly w = record {
  count = w.count ∙ partly.count;
  held = w.held;
  spans = λ vs span. w.spans vs (partly.spans vs span);
  plain = still_plain kernel rules list order s t kept before after partly.held partly.plain k element at w;
  written = written_more kernel rules list order s t kept before after partly.held partly.plain k element at w partly.written;
  cut = λ e never. w.other e (inr never) ∙ partly.cut e never;
}

-- ---- one element, written

one_form : (kernel : Kernel) (m n : ℕ) (f g : Form) (entry : Option (Option ℕ)) → entry ≡ Some (Some m) → entry ≡ Some (Some n) → form_at kernel m ≡ Some f → form_at kernel n ≡ Some g → f ≡ g
one_form kernel m n f g entry first second at there =
    let both : Some (Some m) ≡ Some (Some n) = sym first ∙ second in
    let same : m ≡ n = cc in
    let forms : Some f ≡ Some g = sym at ∙ ap (form_at kernel) same ∙ there in
    cc

module _ (kernel : Kernel) (rules : Rules) (s : StoreView) (before : Columns) (held : HoldColumns s.nodes before) (element : Element) where
  pub is_written : (t : StoreView) → Keeps s t → (after : Columns) (r : Ref) → IsSet before after element r → Holds t.nodes r → ((vs : List ℕ) → SpanColumns s.nodes before vs → Spans t.nodes r vs)
      → (number : ℕ) (form : Form) → IsGivenBy kernel rules element number form → Gives s.nodes t.nodes before kernel.signals rules.least.items form element r → IsWritten kernel rules s.nodes t.nodes before after element
  is_written t kept after r set holds spans number form given gives = record {
    count = set.count;
    held = held_by t.nodes after (λ e. set_ref before after element r set (Holds t.nodes) holds e (Holds-kept s t kept (ref_at before e) (held_at s.nodes before held e)));
    spans = λ vs span. span_by t.nodes after vs (λ e. set_ref before after element r set (λ (x : Ref). Spans t.nodes x vs) (spans vs span) e
        (Spans-kept s t kept (ref_at before e) (held_at s.nodes before held e) vs (span_at s.nodes before vs span e)));
    other = λ e other. elim other [
      | inl apart ↦ set.other e (λ same. apart (sym same))
      | inr never ↦ set.other e (λ same. never number form (subst (λ x. IsGivenBy kernel rules x number form) (sym same) given))
    ];
    given = λ e n f same is truths b told.
        let one = one_form kernel number n form f (entry_of rules element) given.0 (ap (entry_of rules) same ∙ is.0) given.1 is.1 in
        ap (λ (x : Ref). test t.nodes x truths) (ap (ref_at after) (sym same) ∙ set.here)
        ∙ gives truths b ((λ j. given_by kernel.signals rules.least.items (values_at s.nodes before truths) (one j) (same j)) ∙ told);
  }

  -- an element that no equation gives stays
  pub not_written : IsCut kernel rules element → IsWritten kernel rules s.nodes s.nodes before before element
  not_written never = record {
    count = refl;
    held = held;
    spans = λ vs span. span;
    other = λ e other. refl;
    given = λ e n f same is truths b told. absurd (never n f (subst (λ x. IsGivenBy kernel rules x n f) (sym same) is));
  }
