-- The parts of a kernel are there, whatever memory a list of them would take.
use Rattle.sig_part.proofs.Common.{◌≡◌, ◌<◌, ◌≤◌, ◌+◌, ◌-◌, ◌⊎◌, inl, inr, ◌↔◌, ℕ, Bool, true, false, List, [], ◌∷◌, ◌++◌, length, map, get_or, refl, sym, ap, ◌∙◌, subst, arith, Contains, replicate, zero, suc, Option, None, Some, range_with_len, cases_eq, length-append, length-map, length-replicate, length_push, length-range_with_len, count_by-le-length, SigId, LINKS, Signal, Node, Kernel, AreClosed, Visits, Walks, is_elsewhere, AreImported, AreImportedBy, AreLinksBefore, AreMarked, AreMarkedIn, mark_at, marked_count, AreNeeded, AreNeededForEach, IsNeededWithin, IsUsedWithin, cluster_at, operations_in, NeedsTooManyLinks, cluster_count, report_link, AreWritten, Op, LinkInfo, signal_same, cases_Bool as bool_cases, contains_none, some_at}
use Rattle.sig_part.proofs.ClosedImports.{closed_imported, cluster_begins, collector_begins, elsewhere_within, imported_none, imported_push}
use Rattle.sig_part.proofs.Linked.{links_more, links_next, links_none, links_not}
use Rattle.sig_part.proofs.MarkedSignals.{AreFromTo, from_to_more, from_to_none, marked_next, marked_none, marked_not}
use Rattle.sig_part.proofs.Lists.{each_more}
use Rattle.sig_part.proofs.PartsOfMarks.{parts_are}
use Rattle.sig_part.proofs.UsedAndNeeded.{needed_more, needed_not, used_more, used_not}
use Rattle.sig_part.proofs.MarkingWalks.{visits_left, visits_marked, visits_new, visits_none, visits_then, walk_begins, walk_ends, walk_goes_on}

is_signal : (o : Option SigId) (x : SigId) → (o ≡ Some x) ⊎ (o ≡ Some x → ⊥)
is_signal None x = inr (λ is. cc)
is_signal (Some y) x = elim (cases_eq y.0 x.0) [
  | inl same ↦ inl (ap Some (signal_same y x same))
  | inr apart ↦ inr (λ is. let e : y ≡ x = cc in apart (ap (λ (s : SigId). s.0) e))
]

-- what operations use and need
module _ (ops : List Op) (needs : List (List SigId)) where
  used_exist : (cluster n : ℕ) → n ≤ length ops → (used : List SigId) × ((x : SigId) → Contains used x ↔ IsUsedWithin ops needs cluster n x)
  used_exist cluster zero le = ([], λ x. ((λ there. absurd (contains_none x there)), (λ found. let below = found.below in absurd (omega (arith, below)))))
  used_exist cluster (suc n) le =
      let before = used_exist cluster n (omega (arith, le)) in
      let op = some_at ops n (omega (arith, le)) in
      let next : n + 1 ≡ suc n = omega arith in
      subst (λ (k : ℕ). (used : List SigId) × ((x : SigId) → Contains used x ↔ IsUsedWithin ops needs cluster k x)) next
      (elim (cases_eq op.0.actor cluster) [
        | inl own ↦ ((before.0 ++ op.0.reads) ++ get_or needs n [], used_more ops needs n op.0 op.1 cluster before.0 op.0.reads (get_or needs n []) own refl refl before.1)
        | inr other ↦ (before.0, used_not ops needs n op.0 op.1 cluster before.0 other before.1)
      ])

  needed_exist : (y : SigId) (n : ℕ) → n ≤ length ops → (needed : List SigId) × ((x : SigId) → Contains needed x ↔ IsNeededWithin ops needs y n x)
  needed_exist y zero le = ([], λ x. ((λ there. absurd (contains_none x there)), (λ found. let below = found.below in absurd (omega (arith, below)))))
  needed_exist y (suc n) le =
      let before = needed_exist y n (omega (arith, le)) in
      let op = some_at ops n (omega (arith, le)) in
      let next : n + 1 ≡ suc n = omega arith in
      subst (λ (k : ℕ). (needed : List SigId) × ((x : SigId) → Contains needed x ↔ IsNeededWithin ops needs y k x)) next
      (elim (is_signal op.0.writes y) [
        | inl writes ↦ (before.0 ++ get_or needs n [], needed_more ops needs n op.0 op.1 y before.0 (get_or needs n []) writes refl before.1)
        | inr other ↦ (before.0, needed_not ops needs n op.0 op.1 y before.0 other before.1)
      ])

  abbrev IsNeededAt : ℕ → List SigId → Type 0
  IsNeededAt k needed = (x : SigId) → x.0 ≡ k → (condition : SigId) → Contains needed condition ↔ IsNeededWithin ops needs x (length ops) condition

  needed_lists : (n : ℕ) → (lists : List (List SigId)) × (length lists ≡ n) × ((k : ℕ) → k < n → IsNeededAt k (get_or lists k []))
  needed_lists zero = ([], refl, λ k less. absurd (omega (arith, less)))
  needed_lists (suc n) =
      let before = needed_lists n in
      let here : SigId = record { 0 = n } in
      let list = needed_exist here (length ops) (omega arith) in
      let next : n + 1 ≡ suc n = omega arith in
      let long = length_push before.0 list.0 in
      let count = before.1 in (
        before.0 ++ list.0 ∷ [],
        omega (arith, long, count),
        λ k less. each_more IsNeededAt before.0 (before.0 ++ list.0 ∷ []) list.0 [] n before.1 before.2
            (λ x same. subst (λ (y : SigId). (condition : SigId) → Contains list.0 condition ↔ IsNeededWithin ops needs y (length ops) condition) (signal_same here x (sym same)) list.1)
            refl k (omega (arith, less)),
      )

  needed_for_each_exist : (n : ℕ) → (lists : List (List SigId)) × AreNeededForEach ops needs n lists
  needed_for_each_exist n = let lists = needed_lists n in (lists.0, record { count = lists.1; each = λ x less. lists.2 x.0 less x refl })

last_cases : {X : Type 0} (xs : List X) → (xs ≡ []) ⊎ ((rest : List X) × (x : X) × (xs ≡ rest ++ x ∷ []))
last_cases [] = inl refl
last_cases (x ∷ xs) = elim (last_cases xs) [
  | inl none ↦ inr ([], x, ap (λ rest. x ∷ rest) none)
  | inr last ↦ inr (x ∷ last.0, last.1, ap (λ rest. x ∷ rest) last.2)
]

-- what is closed
module _ (p : SigId → Bool) (needed : List (List SigId)) (within : (x : SigId) → p x ≡ true → x.0 < length needed) where
  abbrev AreVisited : List SigId → List Bool → List SigId → Type 0
  AreVisited list marks waiting = (new : List Bool) × (more : List SigId) × Visits p list marks new waiting more

  visit_exists : (x : SigId) (marks : List Bool) (waiting : List SigId) → length marks ≡ length needed → AreVisited (x ∷ []) marks waiting
  visit_exists x marks waiting count = elim (bool_cases (p x)) [
    | inr out ↦ (marks, waiting, visits_left p x marks waiting out)
    | inl passes ↦ elim (bool_cases (mark_at marks x.0)) [
      | inl is ↦ (marks, waiting, visits_marked p x marks waiting is)
      | inr left ↦ (_, _, visits_new p x marks waiting passes (omega (arith, within x passes, count)) left)
    ]
  ]

  visits_exist : (list : List SigId) (marks : List Bool) (waiting : List SigId) → length marks ≡ length needed → AreVisited list marks waiting
  visits_exist [] marks waiting count = (marks, waiting, visits_none p marks waiting)
  visits_exist (x ∷ list) marks waiting count =
      let first = visit_exists x marks waiting count in
      let then = visits_exist list first.0 first.1 (first.2.count ∙ count) in
      (then.0, then.1, visits_then p (x ∷ []) list marks first.0 then.0 waiting first.1 then.1 first.2 then.2)

  module _ (seeds : List SigId) where
    walk_exists : (fuel : ℕ) (marks : List Bool) (waiting : List SigId) → Walks p needed seeds marks waiting → (length needed - marked_count marks) + length waiting ≤ fuel
        → (closed : List Bool) × AreClosed p needed seeds closed
    walk_exists zero marks waiting walks enough = elim (last_cases waiting) [
      | inl none ↦ (marks, walk_ends p needed seeds marks (subst (Walks p needed seeds marks) none walks))
      | inr last ↦ (let long : length waiting ≡ length last.0 + 1 = ap length last.2 ∙ length_push last.0 last.1 in absurd (omega (arith, long, enough)))
    ]
    walk_exists (suc fuel) marks waiting walks enough = elim (last_cases waiting) [
      | inl none ↦ (marks, walk_ends p needed seeds marks (subst (Walks p needed seeds marks) none walks))
      | inr last ↦
          let rest = last.0 in
          let y = last.1 in
          let long : length waiting ≡ length rest + 1 = ap length last.2 ∙ length_push rest y in
          let next = visits_exist (get_or needed y.0 []) marks rest walks.count in
          let balance = next.2.balance in
          let most = count_by-le-length (λ (mark : Bool). mark) next.0 in
          let count : length next.0 ≡ length needed = next.2.count ∙ walks.count in
          walk_exists fuel next.0 next.1 (walk_goes_on p needed seeds marks next.0 waiting rest next.1 y walks last.2 next.2) (omega (arith, long, balance, most, count, enough))
    ]

    closed_exist : (n : ℕ) → n ≡ length needed → (closed : List Bool) × AreClosed p needed seeds closed
    closed_exist n same =
        let first = visits_exist seeds (replicate n false) [] (length-replicate n false ∙ same) in
        walk_exists ((length needed - marked_count first.0) + length first.1) first.0 first.1 (walk_begins p needed seeds n first.0 first.1 same first.2) (omega arith)

-- the outputs
from_to_exist : (from n : ℕ) → (list : List SigId) × AreFromTo from (from + n) list
from_to_exist from zero = let end : from ≡ from + 0 = omega arith in ([], subst (λ (k : ℕ). AreFromTo from k []) end (from_to_none from))
from_to_exist from (suc n) =
    let before = from_to_exist from n in
    let end : from + n + 1 ≡ from + suc n = omega arith in
    let list : List SigId = before.0 ++ (record { 0 = from + n }) ∷ [] in
    (list, subst (λ (k : ℕ). AreFromTo from k list) end (from_to_more from (from + n) before.0 (omega arith) before.1))

-- lists of marked signals
marked_exist : (marks : List Bool) (n : ℕ) → (list : List SigId) × AreMarked n marks list
marked_exist marks zero = ([], marked_none marks)
marked_exist marks (suc n) =
    let before = marked_exist marks n in
    let next : n + 1 ≡ suc n = omega arith in
    subst (λ (k : ℕ). (list : List SigId) × AreMarked k marks list) next
    (elim (bool_cases (mark_at marks n)) [
      | inl is ↦ (_, marked_next n marks before.0 before.1 is)
      | inr left ↦ (before.0, marked_not n marks before.0 before.1 left)
    ])

marked_cons : (n : ℕ) (of_actor : List Bool) (marks : List (List Bool)) (list : List SigId) (lists : List (List SigId)) → AreMarked n of_actor list → AreMarkedIn n marks lists → AreMarkedIn n (of_actor ∷ marks) (list ∷ lists)
marked_cons n of_actor marks list lists first rest = record { count = (let count = rest.count in omega (arith, count)); each = at } where
  at : (actor : ℕ) → actor < length (of_actor ∷ marks) → AreMarked n (get_or (of_actor ∷ marks) actor []) (get_or (list ∷ lists) actor [])
  at zero less = first
  at (suc actor) less = rest.each actor (omega (arith, less))

marked_lists : (n : ℕ) (marks : List (List Bool)) → (lists : List (List SigId)) × AreMarkedIn n marks lists
marked_lists n [] = ([], record { count = refl; each = λ actor less. absurd (omega (arith, less)) })
marked_lists n (of_actor ∷ marks) =
    let first = marked_exist of_actor n in
    let rest = marked_lists n marks in
    (first.0 ∷ rest.0, marked_cons n of_actor marks first.0 rest.0 first.1 rest.1)

-- links
module _ (signals : List Signal) (marks : List (List Bool)) where
  links_of_exist : (n : ℕ) (links : List LinkInfo) → AreLinksBefore signals marks n 0 links → (r : ℕ) → r ≤ length marks → (more : List LinkInfo) × AreLinksBefore signals marks n r more
  links_of_exist n links before zero le = (links, before)
  links_of_exist n links before (suc r) le =
      let x : SigId = record { 0 = n } in
      let earlier = links_of_exist n links before r (omega (arith, le)) in
      let next : r + 1 ≡ suc r = omega arith in
      subst (λ (k : ℕ). (more : List LinkInfo) × AreLinksBefore signals marks n k more) next
      (elim (bool_cases (mark_at (get_or marks r []) n)) [
        | inl is ↦ (_, links_more signals marks x r earlier.0 earlier.1 (cluster_at signals x) refl (omega (arith, le)) is)
        | inr left ↦ (earlier.0, links_not signals marks x r earlier.0 earlier.1 left)
      ])

  links_exist : (n : ℕ) → (links : List LinkInfo) × AreLinksBefore signals marks n 0 links
  links_exist zero = ([], links_none signals marks)
  links_exist (suc n) =
      let before = links_exist n in
      let here = links_of_exist n before.0 before.1 (length marks) (omega arith) in
      let next : n + 1 ≡ suc n = omega arith in
      (here.0, subst (λ (k : ℕ). AreLinksBefore signals marks k 0 here.0) next (links_next signals marks n here.0 here.1))

module _ (kernel : Kernel) (conditions : List SigId) (nodes : List Node) (ops : List Op) (needs : List (List SigId)) (are : AreNeeded conditions nodes ops needs)
    (written : AreWritten kernel.signals (operations_in nodes ops)) where
  abbrev Imported : ℕ → Type 0
  Imported n = (marks : List (List Bool)) × AreImportedBy kernel conditions (operations_in nodes ops) n marks

  imported_more : (n : ℕ) → Imported n → (marks : List Bool) → AreImported kernel conditions (operations_in nodes ops) n marks → Imported (n + 1)
  imported_more n before marks imported = (before.0 ++ marks ∷ [], imported_push kernel conditions (operations_in nodes ops) n before.0 (before.0 ++ marks ∷ []) marks before.1 (λ _. imported) refl)

  of_actor : (actor : ℕ) (seeds : List SigId) (needed : List (List SigId)) → AreNeededForEach ops needs (length kernel.signals) needed → (closed : List Bool) × AreClosed (is_elsewhere kernel.signals actor) needed seeds closed
  of_actor actor seeds needed each =
      let count = each.count in
      closed_exist (is_elsewhere kernel.signals actor) needed
      (λ x passes. let inside = elsewhere_within kernel.signals (operations_in nodes ops) written actor x passes in omega (arith, inside, count)) seeds (length needed) refl

  clusters_exist : (n : ℕ) → n ≤ cluster_count kernel.signals → Imported n
  clusters_exist zero le = ([], imported_none kernel conditions (operations_in nodes ops))
  clusters_exist (suc n) le =
      let needed = needed_for_each_exist ops needs (length kernel.signals) in
      let used = used_exist ops needs n (length ops) (omega arith) in
      let closed = of_actor n used.0 needed.0 needed.1 in
      let next : n + 1 ≡ suc n = omega arith in
      subst Imported next
      (imported_more n (clusters_exist n (omega (arith, le))) closed.0
      (closed_imported kernel conditions nodes ops needs needed.0 are needed.1 written n used.0 (cluster_begins kernel conditions nodes ops needs are n used.0 (omega (arith, le)) used.1) closed.0 closed.1))

  all_exist : Imported (cluster_count kernel.signals + 1)
  all_exist =
      let n = cluster_count kernel.signals in
      let needed = needed_for_each_exist ops needs (length kernel.signals) in
      let outputs = from_to_exist kernel.inputs kernel.outputs in
      let closed = of_actor n outputs.0 needed.0 needed.1 in
      imported_more n (clusters_exist n (omega arith)) closed.0
      (closed_imported kernel conditions nodes ops needs needed.0 are needed.1 written n outputs.0 (collector_begins kernel conditions nodes ops needs are n outputs.0 refl outputs.1) closed.0 closed.1)

  -- each cluster has a link for its reports
  pub clusters_link : LINKS < cluster_count kernel.signals → NeedsTooManyLinks kernel conditions (operations_in nodes ops)
  clusters_link many =
      let n = cluster_count kernel.signals in
      let marks = all_exist in
      let lists = marked_lists (length kernel.signals) marks.0 in
      let carrying = links_exist kernel.signals marks.0 (length kernel.signals) in
      let reports = map (report_link n) (range_with_len 0 n) in
      let all = length-append carrying.0 reports in
      let each = length-map (range_with_len 0 n) (report_link n) in
      let count = length-range_with_len 0 n in
      record {
        parts = record { clusters = n; links = carrying.0 ++ reports; imports = lists.0 };
        are = parts_are kernel conditions (operations_in nodes ops) n marks.0 lists.0 (carrying.0 ++ reports) written refl marks.1 lists.1
            (record { carrying = carrying.0; are = carrying.1; joined = refl });
        many = omega (arith, all, each, count, many);
      }
