-- Each list of sound operations has parts: the imports of each actor, and the links.
use Rattle.sig_deciding_laws.proofs.Common.{◌≡◌, ◌≢◌, ◌<◌, ◌≤◌, ◌+◌, ◌⊎◌, inl, inr, ℕ, zero, suc, List, [], ◌∷◌, ◌++◌, length, map, refl, sym, ap, ◌∙◌, subst, arith, Contains, All, None, Option, Some, slice_index_or, range_with_len, cases_eq, cases_order, All-contains, Contains-append_left, Contains-append_right, SigId, Signal, signal_id, Kernel, Operation, cluster_at, cluster_of, Needs, Writes, AreImports, AreParts, AreSignalLinks, Carries, Imports, used, output, guarded, IsEarlierLink, IsNeededFor, IsOperation, IsOutput, IsUsed, IsWrittenElsewhere, PartsView, cluster_count, report_link, LinkInfo, signal_same, at_contained, contains_at, contains_cons, contains_mapped, contains_none, mapped_from, Contains-append_cases, dec_le, dec_lt, map_dec, dec_both, dec_contains, dec_either, dec_not, dec_number, dec_option, Searched, searched_as, searched_members}
use Rattle.sig_deciding_laws.proofs.StandStill.{dec_least}
use Rattle.sig_deciding_laws.proofs.DecidedStatements.{dec_signal}
use Rattle.sig_deciding_laws.proofs.ClockFunctionsOfKernel.{IsSound}
use Rattle.sig_deciding_laws.proofs.Precedence.{dec_needs}
use Rattle.sig_deciding_laws.proofs.SortedLists.{below_listed, listed, signals_below, sorted}
use Rattle.sig_deciding_laws.proofs.Tables.{table, table_at, table_length}

-- ---- what operations use

-- each signal that is written is below some number
written_below : (operations : List Operation) → (n : ℕ) × ((p : Operation) (x : SigId) → Contains operations p → Writes p x → x.0 < n)
written_below [] = (0, λ p x there writes. absurd (contains_none p there))
written_below (o ∷ operations) = at (written_below operations) o.writes refl where
  at : ((n : ℕ) × ((p : Operation) (x : SigId) → Contains operations p → Writes p x → x.0 < n)) → (found : Option SigId) → o.writes ≡ found
      → (n : ℕ) × ((p : Operation) (x : SigId) → Contains (o ∷ operations) p → Writes p x → x.0 < n)
  at rest None none = (
    rest.0,
    λ p x there writes. elim (contains_cons o p operations there) [
      | inl same ↦ (let e : Some x ≡ None = sym writes ∙ ap (λ (q : Operation). q.writes) same ∙ none in cc)
      | inr later ↦ rest.1 p x later writes
    ],
  )
  at rest (Some y) is = (
    rest.0 + suc y.0,
    λ p x there writes. elim (contains_cons o p operations there) [
      | inl same ↦ (
          let e : Some x ≡ Some y = sym writes ∙ ap (λ (q : Operation). q.writes) same ∙ is in
          let it : x ≡ y = cc in
          let number : x.0 ≡ y.0 = ap (λ (z : SigId). z.0) it in
          omega (arith, number))
      | inr later ↦ (let below = rest.1 p x later writes in omega (arith, below))
    ],
  )

module _ (conditions : List SigId) (operations : List Operation) (sound : All (IsSound (length conditions)) operations) where
  searched_operations : Searched (IsOperation operations)
  searched_operations =
      searched_as (Contains operations) (searched_members operations) (IsOperation operations)
      (λ p there. (there.0, at_contained operations p there)) (λ p is. contains_at operations is.0 p is.1)

  sound_of : (p : Operation) → IsOperation operations p → IsSound (length conditions) p
  sound_of p is = All-contains (IsSound (length conditions)) operations p sound (contains_at operations is.0 p is.1)

  dec_writes : (p : Operation) (x : SigId) → Dec (Writes p x)
  dec_writes p x = dec_option dec_signal p.writes (Some x)

  dec_elsewhere : (actor : ℕ) (x : SigId) → Dec (IsWrittenElsewhere operations actor x)
  dec_elsewhere actor x =
      map_dec (λ found. record { writer = found.0; is = found.1; writes = found.2.0; other = found.2.1 }) (λ elsewhere. (elsewhere.writer, elsewhere.is, (elsewhere.writes, elsewhere.other)))
      (searched_operations (λ (p : Operation). Writes p x × (p.cluster ≢ actor)) (λ p _. dec_both (dec_writes p x) (dec_not (dec_number p.cluster actor))))

  dec_used : (cluster : ℕ) (x : SigId) → Dec (IsUsed conditions operations cluster x)
  dec_used cluster x =
      map_dec (λ found. record { user = found.0; is = found.1; own = found.2.0; used = found.2.1 }) (λ uses. (uses.user, uses.is, (uses.own, uses.used)))
      (searched_operations (λ (p : Operation). (p.cluster ≡ cluster) × (Contains p.reads x ⊎ Needs conditions p x)) (λ p is.
      dec_both (dec_number p.cluster cluster) (dec_either (dec_contains dec_signal p.reads x) (dec_needs conditions p (sound_of p is) x))))

  dec_needed_for : (x condition : SigId) → Dec (IsNeededFor conditions operations x condition)
  dec_needed_for x condition =
      map_dec (λ found. record { writer = found.0; is = found.1; writes = found.2.0; needs = found.2.1 }) (λ needed. (needed.writer, needed.is, (needed.writes, needed.needs)))
      (searched_operations (λ (p : Operation). Writes p x × Needs conditions p condition) (λ p is. dec_both (dec_writes p x) (dec_needs conditions p (sound_of p is) condition)))

  -- ---- imports

  module _ (kernel : Kernel) (actor : ℕ) where
    bound : ℕ
    bound = (written_below operations).0

    elsewhere_below : (x : SigId) → IsWrittenElsewhere operations actor x → x.0 < bound
    unfolding bound
    elsewhere_below x elsewhere = (written_below operations).1 elsewhere.writer x (contains_at operations elsewhere.is.0 elsewhere.writer elsewhere.is.1) elsewhere.writes

    abbrev Uses : SigId → Type 0
    Uses x = ((actor < cluster_count kernel.signals) × IsUsed conditions operations actor x) ⊎ ((actor ≡ cluster_count kernel.signals) × IsOutput kernel x)

    abbrev Begins : ℕ → Type 0
    Begins k = Uses (signal_id k) × IsWrittenElsewhere operations actor (signal_id k)

    abbrev Leads : ℕ → ℕ → Type 0
    Leads j k = IsNeededFor conditions operations (signal_id j) (signal_id k) × IsWrittenElsewhere operations actor (signal_id k)

    dec_begins : (k : ℕ) → Dec (Begins k)
    dec_begins k =
        let x = signal_id k in
        dec_both
        (dec_either
        (dec_both (dec_lt actor (cluster_count kernel.signals)) (dec_used actor x))
        (dec_both (dec_number actor (cluster_count kernel.signals)) (dec_both (dec_le kernel.inputs x.0) (dec_lt x.0 (kernel.inputs + kernel.outputs)))))
        (dec_elsewhere actor x)

    dec_leads : (j k : ℕ) → Dec (Leads j k)
    dec_leads j k = dec_both (dec_needed_for (signal_id j) (signal_id k)) (dec_elsewhere actor (signal_id k))

    imported_below : (x : SigId) → Imports kernel conditions operations actor x → x.0 < bound
    imported_below _ (used x within is elsewhere) = elsewhere_below x elsewhere
    imported_below _ (output x last is elsewhere) = elsewhere_below x elsewhere
    imported_below _ (guarded x condition imported needed elsewhere) = elsewhere_below condition elsewhere

    begin_imports : (k : ℕ) → Begins k → Imports kernel conditions operations actor (signal_id k)
    begin_imports k begin = at begin.0 where
      at : Uses (signal_id k) → Imports kernel conditions operations actor (signal_id k)
      at (inl uses) = used (signal_id k) uses.0 uses.1 begin.1
      at (inr is) = output (signal_id k) is.0 is.1 begin.1

    lead_imports : (j k : ℕ) → Imports kernel conditions operations actor (signal_id j) → Leads j k → Imports kernel conditions operations actor (signal_id k)
    lead_imports j k imported lead = guarded (signal_id j) (signal_id k) imported lead.0 lead.1

    module _ (S : ℕ → Type 0) (begin : (k : ℕ) → k < bound → Begins k → S k) (lead : (j k : ℕ) → j < bound → k < bound → S j → Leads j k → S k) where
      imports_least : (x : SigId) → Imports kernel conditions operations actor x → S x.0
      imports_least _ (used x within is elsewhere) = begin x.0 (elsewhere_below x elsewhere) (inl (within, is), elsewhere)
      imports_least _ (output x last is elsewhere) = begin x.0 (elsewhere_below x elsewhere) (inr (last, is), elsewhere)
      imports_least _ (guarded x condition imported needed elsewhere) =
          lead x.0 condition.0 (imported_below x imported) (elsewhere_below condition elsewhere) (imports_least x imported) (needed, elsewhere)

    dec_imports : (x : SigId) → Dec (Imports kernel conditions operations actor x)
    dec_imports x =
        dec_least bound Begins Leads dec_begins dec_leads (λ k. Imports kernel conditions operations actor (signal_id k)) begin_imports lead_imports
        (λ S begin lead k imported. imports_least S begin lead (signal_id k) imported) x.0

    compare_signals : (x y : SigId) → (x ≡ y) ⊎ ((x.0 < y.0) ⊎ (y.0 < x.0))
    compare_signals x y = elim (cases_order x.0 y.0) [ inl same ↦ inl (signal_same x y same) | inr apart ↦ inr apart ]

    imports_exist : (imports : List SigId) × AreImports kernel conditions operations actor imports
    imports_exist =
        let list = listed (λ (x y : SigId). x.0 < y.0) (Imports kernel conditions operations actor) (λ x y z less more. omega (arith, less, more)) (λ x y _ _. compare_signals x y)
        (signals_below bound) (λ x imported. below_listed bound x (imported_below x imported)) dec_imports in
        (list.0, record { order = list.1; all = list.2 })

-- ---- links

module _ (signals : List Signal) (imports : List (List SigId)) where
  abbrev imported_by : ℕ → List SigId
  imported_by reader = slice_index_or imports reader []

  abbrev link_of : SigId → ℕ → LinkInfo
  link_of x reader = record { signal = Some x; writer = cluster_at signals x; reader = reader }

  -- the link of a signal to a reader that imports it
  pub record IsLink (link : LinkInfo) : Type 0 where
    pub x : SigId
    pub is : link ≡ link_of x link.reader
    pub within : link.reader < length imports
    pub imported : Contains (imported_by link.reader) x

  links_to : ℕ → List LinkInfo
  links_to reader = map (λ x. link_of x reader) (imported_by reader)

  abbrev links_below : ℕ → List LinkInfo
  links_below zero = []
  links_below (suc n) = links_below n ++ links_to n

  listed_link : (n : ℕ) (link : LinkInfo) → IsLink link → link.reader < n → Contains (links_below n) link
  unfolding links_to
  listed_link zero link is less = absurd (omega (arith, less))
  listed_link (suc n) link is less = elim (cases_eq link.reader n) [
    | inl same ↦
        Contains-append_right (links_below n) (links_to n) link
        (subst (λ r. Contains (links_to r) link) same (subst (Contains (links_to link.reader)) (sym is.is) (contains_mapped (λ x. link_of x link.reader) (imported_by link.reader) is.x is.imported)))
    | inr apart ↦ Contains-append_left (links_below n) (links_to n) link (listed_link n link is (omega (arith, less, apart)))
  ]

  link_listed : (n : ℕ) → n ≤ length imports → (link : LinkInfo) → Contains (links_below n) link → IsLink link
  unfolding links_to
  link_listed zero most link there = absurd (contains_none link there)
  link_listed (suc n) most link there = elim (Contains-append_cases (links_below n) (links_to n) link there) [
    | inl earlier ↦ link_listed n (omega (arith, most)) link earlier
    | inr here ↦ at (mapped_from (λ x. link_of x n) (imported_by n) link here)
  ] where
    at : ((x : SigId) × Contains (imported_by n) x × (link ≡ link_of x n)) → IsLink link
    at from =
        let same : link.reader ≡ n = ap (λ (l : LinkInfo). l.reader) from.2 in
        record {
          x = from.0;
          is = from.2 ∙ ap (link_of from.0) (sym same);
          within = omega (arith, same, most);
          imported = subst (λ r. Contains (imported_by r) from.0) (sym same) from.1;
        }

  signal_is : (link : LinkInfo) (is : IsLink link) → link.signal ≡ Some is.x
  signal_is link is = ap (λ (l : LinkInfo). l.signal) is.is

  compare_links : (a b : LinkInfo) → IsLink a → IsLink b → (a ≡ b) ⊎ (IsEarlierLink a b ⊎ IsEarlierLink b a)
  compare_links a b is_a is_b = at (cases_order is_a.x.0 is_b.x.0) (cases_order a.reader b.reader) where
    before : (is_a.x.0 < is_b.x.0) ⊎ ((is_a.x ≡ is_b.x) × (a.reader < b.reader)) → IsEarlierLink a b
    before is = record { x = is_a.x; y = is_b.x; is = signal_is a is_a; other = signal_is b is_b; before = is }

    behind : (is_b.x.0 < is_a.x.0) ⊎ ((is_b.x ≡ is_a.x) × (b.reader < a.reader)) → IsEarlierLink b a
    behind is = record { x = is_b.x; y = is_a.x; is = signal_is b is_b; other = signal_is a is_a; before = is }

    at : ((is_a.x.0 ≡ is_b.x.0) ⊎ ((is_a.x.0 < is_b.x.0) ⊎ (is_b.x.0 < is_a.x.0))) → ((a.reader ≡ b.reader) ⊎ ((a.reader < b.reader) ⊎ (b.reader < a.reader)))
        → (a ≡ b) ⊎ (IsEarlierLink a b ⊎ IsEarlierLink b a)
    at (inr (inl less)) readers = inr (inl (before (inl less)))
    at (inr (inr more)) readers = inr (inr (behind (inl more)))
    at (inl same) (inl one) = inl (is_a.is ∙ (λ j. link_of (signal_same is_a.x is_b.x same j) (one j)) ∙ sym is_b.is)
    at (inl same) (inr (inl less)) = inr (inl (before (inr (signal_same is_a.x is_b.x same, less))))
    at (inl same) (inr (inr more)) = inr (inr (behind (inr (signal_same is_b.x is_a.x (sym same), more))))

  earlier_onward : (a b c : LinkInfo) → IsEarlierLink a b → IsEarlierLink b c → IsEarlierLink a c
  earlier_onward a b c first second = record { x = first.x; y = second.y; is = first.is; other = second.other; before = at first.before second.before } where
    same : first.y ≡ second.x
    same = let e : Some first.y ≡ Some second.x = sym first.other ∙ second.is in cc

    number : first.y.0 ≡ second.x.0
    number = ap (λ (z : SigId). z.0) same

    at : (first.x.0 < first.y.0) ⊎ ((first.x ≡ first.y) × (a.reader < b.reader)) → (second.x.0 < second.y.0) ⊎ ((second.x ≡ second.y) × (b.reader < c.reader))
        → (first.x.0 < second.y.0) ⊎ ((first.x ≡ second.y) × (a.reader < c.reader))
    at (inl less) (inl more) = inl (omega (arith, number, less, more))
    at (inl less) (inr more) = let e = ap (λ (z : SigId). z.0) more.0 in inl (omega (arith, number, less, e))
    at (inr less) (inl more) = let e = ap (λ (z : SigId). z.0) less.0 in inl (omega (arith, number, e, more))
    at (inr less) (inr more) = inr (less.0 ∙ same ∙ more.0, omega (arith, less.1, more.1))

  carries : (link : LinkInfo) (is : IsLink link) → Carries signals imports link is.x
  carries link is = record {
    signal = signal_is link is;
    writer = λ owner get. ap (λ (l : LinkInfo). l.writer) is.is ∙ ap cluster_of get;
    reader = is.within;
    imported = is.imported;
  }

  pub signal_links_exist : (links : List LinkInfo) × AreSignalLinks signals imports links
  signal_links_exist =
      let list = sorted IsEarlierLink IsLink earlier_onward compare_links (links_below (length imports)) (link_listed (length imports) (omega arith)) in (
        list.0,
        record {
          each = λ number link get.
              let is = link_listed (length imports) (omega arith) link ((list.2 link).0 (contains_at list.0 number link get)) in
              (is.x, carries link is);
          all = λ reader x within there.
              let is : IsLink (link_of x reader) = record { x = x; is = refl; within = within; imported = there } in
              (link_of x reader, (list.2 (link_of x reader)).1 (listed_link (length imports) (link_of x reader) is within), refl, refl);
          order = list.1;
        },
      )

-- ---- parts

pub parts_exist : (kernel : Kernel) (conditions : List SigId) (operations : List Operation) → All (IsSound (length conditions)) operations → (parts : PartsView) × AreParts kernel conditions operations parts
parts_exist kernel conditions operations sound =
    let clusters = cluster_count kernel.signals in
    let links = signal_links_exist kernel.signals lists in (
      record { clusters = clusters; links = links.0 ++ map (report_link clusters) (range_with_len 0 clusters); imports = lists },
      record {
        clusters = refl;
        actors = table_length of_actor (clusters + 1);
        imports = λ actor most. imports_of actor (omega (arith, most));
        links = record { carrying = links.0; are = links.1; joined = refl };
      },
    )
  where
    of_actor : ℕ → List SigId
    of_actor actor = (imports_exist conditions operations sound kernel actor).0

    lists : List (List SigId)
    lists = table of_actor (cluster_count kernel.signals + 1)

    imports_of : (actor : ℕ) → actor < cluster_count kernel.signals + 1 → AreImports kernel conditions operations actor (slice_index_or lists actor [])
    imports_of actor less = subst (AreImports kernel conditions operations actor) (table_at of_actor (cluster_count kernel.signals + 1) actor [] less) (imports_exist conditions operations sound kernel actor).1
