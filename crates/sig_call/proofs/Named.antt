-- The names of a flat body's signals differ.
use Rattle.sig_call.proofs.Common.{◌≡◌, ◌≢◌, ◌++◌, ◌<◌, ◌≤◌, ◌^◌, ℕ, suc, List, [], ◌∷◌, Some, length, map, refl, sym, ap, subst, ◌∙◌, inl, arith, Contains, map-append, Contains-append_left, Contains-push, AllByRecursion, IsDistinct, bytes_eq, Signal, Name, Equations, ProcessModel, FlatEquation, FlatBody, Declaration, behind, declarations, params_of, name_of, process_of, texts, all_processes, Copy, Progress, Expands, Ended, Defined, Equated, Expanded, IsFlatBody, copied_signals, copy_prefix, cluster_of_call, first_progress, signals_declared, with_copy, Offence, NoneHolds, DeclaredTwice, candidate, each, unknown_names, declared_twice, IsWellFormed, IsTree, IsReady, AreExpandable, all_both, all_so}
use Rattle.sig_call.proofs.Apart.{prefixed, all_prefixed, all_texts, Apart, distinct, apart_both, apart_right, apart_prefixed, Lacks}
use Rattle.sig_call.proofs.Existence.{found_name}
use Rattle.sig_call.proofs.Expandable.{expandable, found_all, none_parts, rules_hold}
use Rattle.sig_call.proofs.ProgressSteps.{grows_along}
use Rattle.sig_call.proofs.Numbered.{Numbered, name_lacks, later_too, copied, new_name}
use Rattle.sig_call.proofs.Readiness.{call_adds}
use Rattle.sig_call.proofs.Spelled.{IsNamed, Spelled}
use Rattle.sig_call.proofs.Whole.{first_found}

abbrev names_of : List Signal → List (List ℕ)
names_of signals = map (λ signal. signal.name) signals

-- the declared names of a process's signals
abbrev pub declared_texts : List Declaration → List (List ℕ)
declared_texts ds = texts (map (λ d. d.name) ds)

-- names none of which is declared before
pub apart_behind : (said : Name → Offence) (earlier names : List Name) → NoneHolds (each (λ d. candidate (said d.1) (Contains (texts d.0) d.1.text) ∷ []) (behind earlier names))
    → AllByRecursion (λ t. Contains (texts earlier) t → ⊥) (texts names) × Apart (texts names)
apart_behind said earlier [] none = (tt, tt)
apart_behind said earlier (n ∷ ns) none =
    let rest = apart_behind said (earlier ++ n ∷ []) ns none.1 in
    let split : texts (earlier ++ n ∷ []) ≡ texts earlier ++ n.text ∷ [] = map-append (λ (name : Name). name.text) earlier (n ∷ []) in (
      (
        none.0,
        all_so (λ t. Contains (texts (earlier ++ n ∷ [])) t → ⊥) (λ t. Contains (texts earlier) t → ⊥)
            (λ t absent here. absent (subst (λ l. Contains l t) (sym split) (Contains-append_left (texts earlier) (n.text ∷ []) t here))) (texts ns) rest.0,
      ),
      (
        all_so (λ t. Contains (texts (earlier ++ n ∷ [])) t → ⊥) (λ t. n.text ≢ t)
            (λ t absent same. absent (subst (λ l. Contains l t) (sym split) (subst (λ u. Contains (texts earlier ++ n.text ∷ []) u) same (Contains-push (texts earlier) n.text)))) (texts ns) rest.0,
        rest.1,
      ),
    )

pub all_apart : (before : List ProcessModel) (p : ProcessModel) → NoneHolds (declared_twice before p) → Apart (declared_texts (declarations p))
all_apart before p none = (apart_behind DeclaredTwice [] (map (λ d. d.name) (declarations p)) none.1).1

pub texts_append : (xs ys : List Declaration) → declared_texts (xs ++ ys) ≡ declared_texts xs ++ declared_texts ys
texts_append xs ys =
    ap texts (map-append (λ (d : Declaration). d.name) xs ys) ∙ map-append (λ (name : Name). name.text) (map (λ (d : Declaration). d.name) xs) (map (λ (d : Declaration). d.name) ys)

apart_declared : (before : List ProcessModel) (p : ProcessModel) → NoneHolds (declared_twice before p) → Apart (declared_texts (signals_declared p))
apart_declared before p none =
    apart_right (declared_texts (params_of p)) (declared_texts (signals_declared p)) (subst Apart (texts_append (params_of p) (signals_declared p)) (all_apart before p none))

-- what is asked of a process whose signals are named
record Fine (text : List ℕ) (p : ProcessModel) : Type 0 where
  plain : Lacks 35 text
  apart : Apart (declared_texts (signals_declared p))

abbrev AreFine : List ProcessModel → Type 0
AreFine all = (text : List ℕ) (p : ProcessModel) → process_of all text ≡ Some p → Fine text p

are_fine : (program : List ProcessModel) → IsWellFormed program → AllByRecursion Spelled (all_processes program) → AreFine (all_processes program)
are_fine program well spelled = λ text p found.
    let all = all_processes program in
    let rules = rules_hold program text p well found in
    let behind_first = none_parts (unknown_names all p) _ rules.none in
    let twice = none_parts (declared_twice rules.before p) _ behind_first.1 in
    let own = found_all Spelled (λ q. bytes_eq (name_of q).text text) all p spelled found in
    record {
      plain = subst (Lacks 35) (found_name all text p found) (name_lacks 35 refl (name_of p).text own.name.name_bytes);
      apart = apart_declared rules.before p twice.0;
    }

-- the names of a copy's signals
named_from : (prefix : List ℕ) (f : Declaration → Signal) → ((d : Declaration) → (f d).name ≡ prefix ++ d.name.text) → (ds : List Declaration) → names_of (map f ds) ≡ prefixed prefix (declared_texts ds)
named_from prefix f same [] = refl
named_from prefix f same (d ∷ ds) = (let here = same d in let rest = named_from prefix f same ds in ap (λ t. t ∷ names_of (map f ds)) here ∙ ap (λ l. (prefix ++ d.name.text) ∷ l) rest)

copied_names : (prefix : List ℕ) (cluster : ℕ) (p : ProcessModel) → names_of (copied_signals prefix cluster p) ≡ prefixed prefix (declared_texts (signals_declared p))
copied_names prefix cluster p = named_from prefix _ (λ d. refl) (signals_declared p)

-- the names so far: they differ, and tell calls that were made
record Named (at : Progress) : Type 0 where
  apart : Apart (names_of at.signals)
  numbered : AllByRecursion (Numbered at.calls) (names_of at.signals)
  few : at.calls ≤ length at.signals

named_call : (copy : Copy) (before : Progress) (names : List Name) (name : Name) (called : ProcessModel) → Fine name.text called → suc before.calls < 10 ^ 64
    → length before.signals < length (with_copy copy before names name called).signals → Named before → Named (with_copy copy before names name called)
named_call copy before names name called fine small adds named =
    let n = suc before.calls in
    let prefix = copy_prefix name n in
    let declared = declared_texts (signals_declared called) in
    let old = names_of before.signals in
    let new : List Signal = copied_signals prefix (cluster_of_call copy before.signals names) called in
    let whole : names_of (before.signals ++ new) ≡ old ++ prefixed prefix declared =
    map-append (λ (signal : Signal). signal.name) before.signals new ∙ ap (λ l. old ++ l) (copied_names prefix (cluster_of_call copy before.signals names) called) in
    let across : AllByRecursion (λ t. AllByRecursion (λ u. t ≢ u) (prefixed prefix declared)) old =
    all_so (Numbered before.calls) (λ t. AllByRecursion (λ u. t ≢ u) (prefixed prefix declared))
    (λ t earlier. all_prefixed (λ u. t ≢ u) prefix declared (all_texts (λ u. t ≢ prefix ++ u) (λ u. new_name before.calls n name fine.plain (omega arith) small t u earlier) declared)) old named.numbered in
    let few : before.calls ≤ length before.signals = named.few in
    record {
      apart = subst Apart (sym whole) (apart_both old (prefixed prefix declared) named.apart (apart_prefixed prefix declared fine.apart) across);
      numbered = subst (AllByRecursion (Numbered n)) (sym whole) (all_both (Numbered n) old (prefixed prefix declared)
          (all_so (Numbered before.calls) (Numbered n) (later_too before.calls n (omega arith)) old named.numbered)
          (all_prefixed (Numbered n) prefix declared (all_texts (λ u. Numbered n (prefix ++ u)) (copied name n fine.plain) declared)));
      few = omega (arith, adds);
    }

named_along : {all : List ProcessModel} {copy : Copy} {equations : List Equations} {before after : Progress} {flat : List FlatEquation} → AreExpandable all → AreFine all → AllByRecursion (IsReady all) equations
    → length after.signals < 10 ^ 64 → Named before → Expands all copy equations before after flat → Named after
named_along sound fine ready small named Ended = named
named_along sound fine ready small named (Defined name e rest) = named_along sound fine ready.1 small named rest
named_along sound fine ready small named (Equated operands rest) = named_along sound fine ready.1 small named rest
named_along {all = all} {copy = copy} {before = before} {after = after} sound fine ready small named (Expanded {inside = i} names name constants arguments called found inside behind) =
    let adds : length before.signals < length (with_copy copy before names name called).signals = call_adds all copy before names name constants arguments called ready.0 found in
    let first : length (with_copy copy before names name called).signals ≤ length i.signals = grows_along inside in
    let second : length i.signals ≤ length after.signals = grows_along behind in
    let few : before.calls ≤ length before.signals = named.few in
    let made = named_call copy before names name called (fine name.text called found) (omega arith) adds named in
    named_along sound fine ready.1 small (named_along sound fine (sound name.text called found).equations (omega arith) made inside) behind

-- the signals of the first process
plain_texts : (ds : List Declaration) → AllByRecursion IsNamed ds → AllByRecursion (Numbered 0) (declared_texts ds)
plain_texts [] h = tt
plain_texts (d ∷ ds) h = (inl (name_lacks 35 refl d.name.text h.0.0.name_bytes), plain_texts ds h.1)

first_named : (text : List ℕ) (p : ProcessModel) → Fine text p → Spelled p → Named (first_progress p)
first_named text p fine spelled =
    let declared = declared_texts (signals_declared p) in
    let whole : names_of (copied_signals [] 0 p) ≡ prefixed [] declared = copied_names [] 0 p in
    record {
      apart = subst Apart (sym whole) (apart_prefixed [] declared fine.apart);
      numbered = subst (AllByRecursion (Numbered 0)) (sym whole) (all_prefixed (Numbered 0) [] declared (plain_texts (signals_declared p) spelled.declared));
      few = omega arith;
    }

-- the names of a flat body differ, where calls have numbers of at most 64 digits
pub names_differ : (program : List ProcessModel) (flat : FlatBody) → IsTree program → IsWellFormed program → AllByRecursion Spelled (all_processes program) → IsFlatBody program flat → length flat.signals < 10 ^ 64
    → IsDistinct bytes_eq (map (λ (signal : Signal). signal.name) flat.signals)
names_differ [] flat tree well spelled is small = elim is [ ]
names_differ (p ∷ ps) flat tree well spelled is small =
    let all = all_processes (p ∷ ps) in
    let text = (name_of p).text in
    let found = first_found p ps in
    let sound = expandable (p ∷ ps) tree well in
    let fine = are_fine (p ∷ ps) well spelled in
    let own = found_all Spelled (λ q. bytes_eq (name_of q).text text) all p spelled found in
    let same : flat.signals ≡ is.0.signals = ap (λ (f : FlatBody). f.signals) is.3 in
    let named = named_along sound fine (sound text p found).equations (subst (λ (signals : List Signal). length signals < 10 ^ 64) same small) (first_named text p (fine text p found) own) is.2 in
    distinct (names_of flat.signals) (subst (λ (signals : List Signal). Apart (names_of signals)) (sym same) named.apart)
