-- One share of clusters that was served by itself.
use Rattle.sig_work.proofs.Common.{◌≡◌, ◌+◌, ◌∙◌, ℕ, zero, suc, ℤ, List, [], ◌∷◌, length, get_or, refl, ap, sym, subst, arith, Err, None, Ok, OnErr, OnOk, Result, Some, slice_get, ◌==◌, Halt, Given, Reaction, PlanView, Rose, same_Some, run_of, IsOfClusters, IsServedAs, AreOfRun, AreSameShares, HasCollector, IsSameShare, IsServing, WereServed, Member, Share, slice_get-get_or, slice_get_within, some_at}
use Rattle.sig_work.proofs.Kept.{serves_clusters}

-- a sink that never fails has no fault
pub only_ok : {X E : Type 0} (answer : Result X E) (P : Type 0) → OnErr answer (Rose 0 0) → OnOk answer P → P
only_ok (Ok x) P none all = all
only_ok (Err e) P none all = absurd (omega (arith, none))

at_single : (share : Share) (at : ℕ) (s : Share) → slice_get (share ∷ []) at ≡ Some s → (at ≡ 0) × (share ≡ s)
at_single share zero s is = (refl, same_Some share s is)
at_single share (suc at) s is = absurd (let e : None ≡ Some s = is in cc)

pub run_single : (given : Given) (word : Halt) (share : Share) → IsOfClusters given word share → AreOfRun given word [] (share ∷ [])
run_single given word share of = record {
  serving = λ at s there. (let is = at_single share at s there in subst (λ (x : Share). IsServing given word [] x) is.1 of.serving);
  one = record {
    within = λ at s there number other m n is_m is_n one two. (
        let is = at_single share at s there in
        absurd (of.none (number, m, ap (λ (x : Share). slice_get x.members.items number) is.1 ∙ is_m, one)));
    across = λ at other a b there_a there_b has_a has_b. (let one = at_single share at a there_a in let two = at_single share other b there_b in one.0 ∙ sym two.0);
  };
}

had_collector : (given : Given) (a b : Share) → IsSameShare a b → HasCollector given b → HasCollector given a
had_collector given a b same has =
    let count = same.count in
    let lt = slice_get_within b.members.items has.0 has.1 has.2 in
    let m = some_at a.members.items has.0 (omega (arith, lt, count)) in
    let after = same.members has.0 m.0 m.1 in
    let is : after.0 ≡ has.1 = same_Some after.0 has.1 (sym after.1 ∙ has.2) in
    let number : m.0.number ≡ has.1.number = sym after.2.number ∙ ap (λ (x : Member). x.number) is in
    (has.0, m.0, m.1, ap (λ i. i + 1 == length given.plan.codes) number ∙ has.3)

module _ (plan : PlanView) (flows : List (List ℤ)) (word : Halt) (old : Share) (now shares : List Share) (is_single : now ≡ old ∷ []) (same : AreSameShares now shares) where
  abbrev pub new : Share
  new = get_or shares 0 old

  new_at : slice_get shares 0 ≡ Some new
  new_at = slice_get-get_or shares 0 old (let count = same.count in let e = ap (λ (xs : List Share). length xs) is_single in omega (arith, count, e))

  same_share : IsSameShare old new
  same_share =
      let all : AreSameShares (old ∷ []) shares = subst (λ (xs : List Share). AreSameShares xs shares) is_single same in
      let found = all.each 0 old refl in
      subst (λ (s : Share). IsSameShare old s) (same_Some found.0 new (sym found.1 ∙ new_at)) found.2

  module _ {S X E : Type 0} (took : S → List ℕ → S → Type 0) (before after : S) (answer : Result X E) (none : OnErr answer (Rose 0 0))
      (some : (capacity : ℕ) × (limit : ℕ) × IsOfClusters (run_of plan flows capacity limit) word old)
      (served : (capacity limit : ℕ) (committed : List Reaction) → AreOfRun (run_of plan flows capacity limit) word committed now
      → OnOk answer (WereServed took (run_of plan flows capacity limit) word now shares before after committed)) where
    were : (capacity limit : ℕ) → IsOfClusters (run_of plan flows capacity limit) word old → WereServed took (run_of plan flows capacity limit) word (old ∷ []) shares before after []
    were capacity limit of =
        let given = run_of plan flows capacity limit in
        subst (λ (xs : List Share). WereServed took given word xs shares before after []) is_single
        (only_ok answer (WereServed took given word now shares before after []) none
        (served capacity limit [] (subst (λ (xs : List Share). AreOfRun given word [] xs) (sym is_single) (run_single given word old of))))

    pub served_as : IsServedAs plan flows word old new
    served_as = record {
      same = same_share;
      unfaulted = λ unfaulted number m is. (were some.0 some.1 some.2).unfaulted
          (λ at s there i x inside faulted. (let one = at_single old at s there in unfaulted i x (ap (λ (y : Share). slice_get y.members.items i) one.1 ∙ inside) faulted)) 0 new new_at number m is;
      clusters = λ capacity limit of. (
          let w = were capacity limit of in
          serves_clusters (run_of plan flows capacity limit) word w.behind new (λ has. of.none (had_collector (run_of plan flows capacity limit) old new same_share has)) (w.serving 0 new new_at));
    }
