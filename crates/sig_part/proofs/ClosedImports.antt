-- The closed sets of marked signals are the imports.
use Rattle.sig_part.proofs.Common.{◌≡◌, ◌≢◌, ◌<◌, ◌+◌, ◌⊎◌, inl, inr, ◌↔◌, ℕ, Bool, true, false, not, List, [], ◌∷◌, ◌++◌, length, get_or, refl, sym, ap, ◌∙◌, subst, arith, Contains, eqb, eq-eqb, Option, None, Some, slice_get, eqb-true, false≢true, length_push, SigId, Signal, Node, Kernel, Operation, operation_in, operations_in, Needs, Imports, used, output, guarded, IsNeededFor, IsOutput, IsUsed, IsWrittenElsewhere, cluster_count, Op, AreClosed, Closes, seed, onward, is_elsewhere, is_other, AreImported, AreImportedBy, AreNeeded, AreNeededForEach, IsNeededWithin, IsUsedWithin, AreWritten, slice_get_within, get_map, map_get}
use Rattle.sig_part.proofs.Lists.{each_more}

-- listed operations are the operations of the kernel
module _ (conditions : List SigId) (nodes : List Node) (ops : List Op) (needs : List (List SigId)) (are : AreNeeded conditions nodes ops needs) where
  pub is_used : (cluster : ℕ) (x : SigId) → IsUsedWithin ops needs cluster (length ops) x ↔ IsUsed conditions (operations_in nodes ops) cluster x
  is_used cluster x = (from, to) where
    from : IsUsedWithin ops needs cluster (length ops) x → IsUsed conditions (operations_in nodes ops) cluster x
    from found = record {
      user = operation_in nodes found.op;
      is = (found.number, get_map (operation_in nodes) ops found.number found.op found.is);
      own = found.own;
      used = elim found.used [ inl read ↦ inl read | inr needed ↦ inr ((are.each found.number found.op found.is x).0 needed) ];
    }

    to : IsUsed conditions (operations_in nodes ops) cluster x → IsUsedWithin ops needs cluster (length ops) x
    to use_of =
        let listed = map_get (operation_in nodes) ops use_of.is.0 use_of.user use_of.is.1 in
        let same : use_of.user ≡ operation_in nodes listed.0 = sym listed.2 in
        record {
          number = use_of.is.0;
          below = slice_get_within ops use_of.is.0 listed.0 listed.1;
          op = listed.0;
          is = listed.1;
          own = ap (λ (p : Operation). p.cluster) listed.2 ∙ use_of.own;
          used = elim use_of.used [
            | inl read ↦ inl (subst (λ (p : Operation). Contains p.reads x) same read)
            | inr needed ↦ inr ((are.each use_of.is.0 listed.0 listed.1 x).1 (subst (λ (p : Operation). Needs conditions p x) same needed))
          ];
        }

  pub is_needed : (x condition : SigId) → IsNeededWithin ops needs x (length ops) condition ↔ IsNeededFor conditions (operations_in nodes ops) x condition
  is_needed x condition = (from, to) where
    from : IsNeededWithin ops needs x (length ops) condition → IsNeededFor conditions (operations_in nodes ops) x condition
    from found = record {
      writer = operation_in nodes found.op;
      is = (found.number, get_map (operation_in nodes) ops found.number found.op found.is);
      writes = found.writes;
      needs = (are.each found.number found.op found.is condition).0 found.needed;
    }

    to : IsNeededFor conditions (operations_in nodes ops) x condition → IsNeededWithin ops needs x (length ops) condition
    to needed_for =
        let listed = map_get (operation_in nodes) ops needed_for.is.0 needed_for.writer needed_for.is.1 in
        let same : needed_for.writer ≡ operation_in nodes listed.0 = sym listed.2 in
        record {
          number = needed_for.is.0;
          below = slice_get_within ops needed_for.is.0 listed.0 listed.1;
          op = listed.0;
          is = listed.1;
          writes = ap (λ (p : Operation). p.writes) listed.2 ∙ needed_for.writes;
          needed = (are.each needed_for.is.0 listed.0 listed.1 condition).1 (subst (λ (p : Operation). Needs conditions p condition) same needed_for.needs);
        }

module _ (signals : List Signal) (operations : List Operation) (written : AreWritten signals operations) (actor : ℕ) (x : SigId) where
  other_from : (owner : Signal) → is_other actor (Some owner) ≡ true → owner.cluster ≢ actor
  other_from owner is same = false≢true (sym (ap not (eq-eqb owner.cluster actor same)) ∙ is)

  other_to : (owner : Signal) → owner.cluster ≢ actor → is_other actor (Some owner) ≡ true
  other_to owner apart = at (eqb owner.cluster actor) refl where
    at : (b : Bool) → eqb owner.cluster actor ≡ b → not (eqb owner.cluster actor) ≡ true
    at true is = absurd (apart (eqb-true owner.cluster actor is))
    at false is = ap not is

  -- a signal of another actor is one that another actor writes
  pub elsewhere_from : is_elsewhere signals actor x ≡ true → IsWrittenElsewhere operations actor x
  elsewhere_from is = at (slice_get signals x.0) refl is where
    at : (owner : Option Signal) → slice_get signals x.0 ≡ owner → is_other actor owner ≡ true → IsWrittenElsewhere operations actor x
    at None get other = absurd (false≢true other)
    at (Some owner) get other =
        let found = written.writer x (slice_get_within signals x.0 owner get) in
        let own = written.owner found.0 x found.1 found.2 in
        let same : owner ≡ own.0 = (let e : Some owner ≡ Some own.0 = sym get ∙ own.1 in cc) in
        record {
          writer = found.0;
          is = found.1;
          writes = found.2;
          other = λ e. other_from owner other (ap (λ (s : Signal). s.cluster) same ∙ sym own.2 ∙ e);
        }

  pub elsewhere_to : IsWrittenElsewhere operations actor x → is_elsewhere signals actor x ≡ true
  elsewhere_to elsewhere =
      let own = written.owner elsewhere.writer x elsewhere.is elsewhere.writes in
      ap (is_other actor) own.1 ∙ other_to own.0 (λ e. elsewhere.other (own.2 ∙ e))

  pub elsewhere_within : is_elsewhere signals actor x ≡ true → x.0 < length signals
  elsewhere_within is = at (slice_get signals x.0) refl is where
    at : (owner : Option Signal) → slice_get signals x.0 ≡ owner → is_other actor owner ≡ true → x.0 < length signals
    at None get other = absurd (false≢true other)
    at (Some owner) get other = slice_get_within signals x.0 owner get

pub imported_none : (kernel : Kernel) (conditions : List SigId) (operations : List Operation) → AreImportedBy kernel conditions operations 0 []
imported_none kernel conditions operations = record { count = refl; each = λ written actor less. absurd (omega (arith, less)) }

-- the marks of one more actor
pub imported_push : (kernel : Kernel) (conditions : List SigId) (operations : List Operation) (n : ℕ) (old new : List (List Bool)) (marks : List Bool) → AreImportedBy kernel conditions operations n old
    → (AreWritten kernel.signals operations → AreImported kernel conditions operations n marks) → new ≡ old ++ marks ∷ [] → AreImportedBy kernel conditions operations (n + 1) new
imported_push kernel conditions operations n old new marks before imported is =
    let count = before.count in
    let long = length_push old marks in
    record {
      count = ap length is ∙ long ∙ omega (arith, count);
      each = λ written. each_more (AreImported kernel conditions operations) old new marks [] n before.count (before.each written) (imported written) is;
    }

-- what an actor imports to begin with
abbrev pub Begins : Kernel → List SigId → List Operation → ℕ → SigId → Type 0
Begins kernel conditions operations actor x =
    ((actor < cluster_count kernel.signals) × IsUsed conditions operations actor x) ⊎ ((actor ≡ cluster_count kernel.signals) × IsOutput kernel x)

module _ (kernel : Kernel) (conditions : List SigId) (nodes : List Node) (ops : List Op) (needs needed : List (List SigId))
    (are : AreNeeded conditions nodes ops needs) (each : AreNeededForEach ops needs (length kernel.signals) needed) (written : AreWritten kernel.signals (operations_in nodes ops))
    (actor : ℕ) (seeds : List SigId) (begins : (x : SigId) → Contains seeds x ↔ Begins kernel conditions (operations_in nodes ops) actor x) where
  begin_is : (x : SigId) → Begins kernel conditions (operations_in nodes ops) actor x → IsWrittenElsewhere (operations_in nodes ops) actor x → Imports kernel conditions (operations_in nodes ops) actor x
  begin_is x (inl begin) elsewhere = used x begin.0 begin.1 elsewhere
  begin_is x (inr begin) elsewhere = output x begin.0 begin.1 elsewhere

  closes_passes : (x : SigId) → Closes (is_elsewhere kernel.signals actor) needed seeds x → is_elsewhere kernel.signals actor x ≡ true
  closes_passes _ (seed x there passes) = passes
  closes_passes _ (onward x condition before there passes) = passes

  needed_is : (x condition : SigId) → is_elsewhere kernel.signals actor x ≡ true → Contains (get_or needed x.0 []) condition ↔ IsNeededFor conditions (operations_in nodes ops) x condition
  needed_is x condition passes =
      let listed = each.each x (elsewhere_within kernel.signals (operations_in nodes ops) written actor x passes) condition in
      let is = is_needed conditions nodes ops needs are x condition in
      ((λ there. is.0 (listed.0 there)), (λ need. listed.1 (is.1 need)))

  closes_imports : (x : SigId) → Closes (is_elsewhere kernel.signals actor) needed seeds x → Imports kernel conditions (operations_in nodes ops) actor x
  closes_imports _ (seed x there passes) = begin_is x ((begins x).0 there) (elsewhere_from kernel.signals (operations_in nodes ops) written actor x passes)
  closes_imports _ (onward x condition before there passes) =
      guarded x condition (closes_imports x before) ((needed_is x condition (closes_passes x before)).0 there) (elsewhere_from kernel.signals (operations_in nodes ops) written actor condition passes)

  imports_closes : (x : SigId) → Imports kernel conditions (operations_in nodes ops) actor x → Closes (is_elsewhere kernel.signals actor) needed seeds x
  imports_closes _ (used x within use_of elsewhere) = seed x ((begins x).1 (inl (within, use_of))) (elsewhere_to kernel.signals (operations_in nodes ops) written actor x elsewhere)
  imports_closes _ (output x last is elsewhere) = seed x ((begins x).1 (inr (last, is))) (elsewhere_to kernel.signals (operations_in nodes ops) written actor x elsewhere)
  imports_closes _ (guarded x condition before need elsewhere) =
      let earlier = imports_closes x before in
      onward x condition earlier ((needed_is x condition (closes_passes x earlier)).1 need) (elsewhere_to kernel.signals (operations_in nodes ops) written actor condition elsewhere)

  pub closed_imported : (marks : List Bool) → AreClosed (is_elsewhere kernel.signals actor) needed seeds marks → AreImported kernel conditions (operations_in nodes ops) actor marks
  closed_imported marks closed = record {
    count = closed.count ∙ each.count;
    exact = λ x. ((λ marked. closes_imports x ((closed.exact x).0 marked)), (λ imports. (closed.exact x).1 (imports_closes x imports)));
  }

module _ (kernel : Kernel) (conditions : List SigId) (nodes : List Node) (ops : List Op) (needs : List (List SigId)) (are : AreNeeded conditions nodes ops needs) (actor : ℕ) (seeds : List SigId) where
  pub cluster_begins : actor < cluster_count kernel.signals → ((x : SigId) → Contains seeds x ↔ IsUsedWithin ops needs actor (length ops) x)
      → (x : SigId) → Contains seeds x ↔ Begins kernel conditions (operations_in nodes ops) actor x
  cluster_begins within uses x = (
    (λ there. inl (within, (is_used conditions nodes ops needs are actor x).0 ((uses x).0 there))),
    (λ begin. elim begin [
      | inl use_of ↦ (uses x).1 ((is_used conditions nodes ops needs are actor x).1 use_of.1)
      | inr output_of ↦ absurd (omega (arith, within, output_of.0))
    ]),
  )

  pub collector_begins : actor ≡ cluster_count kernel.signals → ((x : SigId) → Contains seeds x ↔ IsOutput kernel x) → (x : SigId) → Contains seeds x ↔ Begins kernel conditions (operations_in nodes ops) actor x
  collector_begins last outputs x = (
    (λ there. inr (last, (outputs x).0 there)),
    (λ begin. elim begin [ inl use_of ↦ absurd (omega (arith, last, use_of.0)) | inr output_of ↦ (outputs x).1 output_of.1 ]),
  )

pub closed_as : (a b : List Signal) (xs ys : List (List SigId)) (u v : List SigId) (actor : ℕ) (marks : List Bool) → a ≡ b → xs ≡ ys → u ≡ v
    → AreClosed (is_elsewhere a actor) xs u marks → AreClosed (is_elsewhere b actor) ys v marks
closed_as a b xs ys u v actor marks same_signals same_needed same_seeds closed =
    subst (λ (seeds : List SigId). AreClosed (is_elsewhere b actor) ys seeds marks) same_seeds
    (subst (λ (needed : List (List SigId)). AreClosed (is_elsewhere b actor) needed u marks) same_needed
    (subst (λ (signals : List Signal). AreClosed (is_elsewhere signals actor) xs u marks) same_signals closed))
