-- Parts from marks.
use Rattle.sig_part.proofs.Common.{◌≡◌, ◌+◌, ◌∙◌, ℕ, Bool, List, [], length, get_or, subst, arith, SigId, Signal, Kernel, Operation, AreImports, AreParts, cluster_count, LinkInfo, AreImported, AreImportedBy, AreLinksOfMarks, AreMarked, AreMarkedIn, AreWritten}
use Rattle.sig_part.proofs.Linked.{signal_links}
use Rattle.sig_part.proofs.SetMarks.{marked_within}

module _ (kernel : Kernel) (conditions : List SigId) (operations : List Operation) where
  listed_imports : (actor : ℕ) (marks : List Bool) (imports : List SigId) → AreImported kernel conditions operations actor marks → AreMarked (length kernel.signals) marks imports
      → AreImports kernel conditions operations actor imports
  listed_imports actor marks imports imported listed = record {
    order = listed.order;
    all = λ x. (
      (λ there. (imported.exact x).0 ((listed.all x).0 there).1),
      (λ is.
          let marked = (imported.exact x).1 is in
          let count = imported.count in
          (listed.all x).1 (omega (arith, marked_within marks x.0 marked, count), marked)),
    );
  }

  pub parts_are : (clusters : ℕ) (marks : List (List Bool)) (imports : List (List SigId)) (links : List LinkInfo) → AreWritten kernel.signals operations → clusters ≡ cluster_count kernel.signals
      → AreImportedBy kernel conditions operations (clusters + 1) marks → AreMarkedIn (length kernel.signals) marks imports → AreLinksOfMarks kernel.signals clusters marks links
      → AreParts kernel conditions operations (record { clusters = clusters; links = links; imports = imports })
  parts_are clusters marks imports links written count imported listed linked =
      let actors = imported.count in
      record {
        clusters = count;
        actors = listed.count ∙ imported.count;
        imports = λ actor within.
            listed_imports actor (get_or marks actor []) (get_or imports actor []) (imported.each written actor (omega (arith, within))) (listed.each actor (omega (arith, within, actors)));
        links = record {
          carrying = linked.carrying;
          are = signal_links kernel.signals marks imports linked.carrying listed linked.are;
          joined = linked.joined;
        };
      }

  -- the same from what was read of the signals and the marks
  pub parts_as : (signals : List Signal) (clusters : ℕ) (marks to_link to_list : List (List Bool)) (imports : List (List SigId)) (links : List LinkInfo) → AreWritten kernel.signals operations
      → clusters ≡ cluster_count kernel.signals → signals ≡ kernel.signals → to_link ≡ marks → to_list ≡ marks
      → AreImportedBy kernel conditions operations (clusters + 1) marks → AreMarkedIn (length signals) to_list imports → AreLinksOfMarks signals clusters to_link links
      → AreParts kernel conditions operations (record { clusters = clusters; links = links; imports = imports })
  parts_as signals clusters marks to_link to_list imports links written count same_signals same_link same_list imported listed linked =
      parts_are clusters marks imports links written count imported
      (subst (λ (xs : List Signal). AreMarkedIn (length xs) marks imports) same_signals (subst (λ (ms : List (List Bool)). AreMarkedIn (length signals) ms imports) same_list listed))
      (subst (λ (xs : List Signal). AreLinksOfMarks xs clusters marks links) same_signals (subst (λ (ms : List (List Bool)). AreLinksOfMarks signals clusters ms links) same_link linked))
