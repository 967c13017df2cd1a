-- What a counted call of the store does to diagrams.
use Rattle.sig_verify.proofs.Common.{◌≡◌, ℕ, ◌+◌, ◌*◌, ◌<◌, ◌≤◌, ◌^◌, Bool, List, length, Option, None, Some, inl, inr, Result, Ok, Err, sym, ap, subst, ◌∙◌, arith, get_or-range_with_len, length-range_with_len, pow_pos, Contains, IfErr, IfOk, IfSome, if◌then◌else◌, Agree, Depends, truth_of, IsRefOf, IsStore, Keeps, Spans, StoreView, allowance, test, HasAll, IsRefused, Share, Shares, SpanAll, refusal, Agree-kept, Depends-of_two, Holds-kept, Spans-kept, Spans-of, choice_depends, variable_depends, AreDiagrams, Follows, IsFor, IsOf, IsRefusal, variables, Budget, DdAnswer, NODES, OutOfMemory, Ref, Diagrams, IfOk-weaker}

pub length-variables : (k : ℕ) → length (variables k) ≡ k
length-variables k = length-range_with_len 0 k

-- each condition is a variable
pub is_variable : (k v : ℕ) → v < k → Contains (variables k) v
is_variable k v lt = let long = length-variables k in let at = get_or-range_with_len 0 k v v lt in (v, omega (arith, long), omega (arith, at))

-- how many nodes a call may add
room : (k : ℕ) → 1 * allowance (variables k) + 1 ≤ 2 ^ k
room k =
    let same : 2 ^ length (variables k) ≡ 2 ^ k = ap (λ n. 2 ^ n) (length-variables k) in
    let some = pow_pos k in
    omega (arith, same, some)

-- what is told of a call's refusal holds of its error
pub on_err : {T : Type 0} (P : DdAnswer → Type 0) (result : Result T DdAnswer) → IfSome (refusal result) P → IfErr result P
on_err P (Ok x) h = tt
on_err P (Err e) h = h

-- a reference to a function of the conditions alone
pub for_of : (d : Diagrams) (f : List Bool → Bool) → ((v : ℕ) → Depends f v → Contains (variables d.conditions) v) → (r : Ref) → IsRefOf d.store.nodes f r → IsFor d f r
for_of d f only r is = record { is = is; of = record { holds = is.holds; spans = Spans-of d.store.nodes f r is (variables d.conditions) only } }

made : (d : Diagrams) (f : List Bool → Bool) → ((v : ℕ) → Depends f v → Contains (variables d.conditions) v)
    → (result : Result Ref DdAnswer) → IfOk result (IsRefOf d.store.nodes f) → IfOk result (IsFor d f)
made d f only result h = IfOk-weaker result (IsRefOf d.store.nodes f) (IsFor d f) (for_of d f only) h

module _ (old mid : Diagrams) (right : AreDiagrams old) (still : mid.store ≡ old.store) (same : mid.conditions ≡ old.conditions) (counted : mid.calls ≡ old.calls + 1) where
  -- the diagrams behind the call
  abbrev pub after : StoreView → Diagrams
  after new = record { store = new; conditions = mid.conditions; calls = mid.calls }

  more : (n : ℕ) → n ≤ old.calls * 2 ^ old.conditions + 2 ^ old.conditions → n ≤ (old.calls + 1) * 2 ^ old.conditions
  more n le = omega arith

  module _ (new : StoreView) (store : IsStore new) (kept : Keeps mid.store new) (result : Result Ref DdAnswer) (fs : List Ref) (us : List ℕ)
      (shares : Shares 1 fs us mid.store new (refusal result)) (span : SpanAll old.store.nodes fs (variables old.conditions)) (have : HasAll (variables old.conditions) us) where
    keeps : Keeps old.store new
    keeps = subst (λ s. Keeps s new) still kept

    share : Share 1 (variables old.conditions) old.store new (refusal result)
    share = (subst (λ s. Shares 1 fs us s new (refusal result)) still shares).over (variables old.conditions) span have

    few_nodes : length new.nodes ≤ (old.calls + 1) * 2 ^ old.conditions
    few_nodes = let added = share.added in let few = right.nodes in let small = room old.conditions in more (length new.nodes) (omega (arith, added, few, small))

    pub call_follows : Follows 1 old (after new)
    call_follows = record {
      right = record {
        store = store;
        made_for = keeps.made_for ∙ right.made_for;
        nodes = let product : mid.calls * 2 ^ mid.conditions ≡ (old.calls + 1) * 2 ^ old.conditions = (λ i. counted i * 2 ^ same i) in let few = few_nodes in omega (arith, product, few);
      };
      kept = keeps;
      conditions = same;
      counted = omega (arith, counted);
    }

    refused_by : (why : Option DdAnswer) → IfSome why (IsRefused old.store new (1 * allowance (variables old.conditions))) → IfSome why (IsRefusal old 1)
    refused_by None h = tt
    refused_by (Some OutOfMemory) h = tt
    refused_by (Some (Budget n)) h =
        let is : n ≡ NODES = sym h.0.0 ∙ keeps.made_for ∙ right.made_for in
        let lt = h.1 in
        let few = right.nodes in
        let small = room old.conditions in
        (is, more (NODES + 1) (omega (arith, is, lt, few, small)))

    pub call_refused : IfErr result (IsRefusal old 1)
    call_refused = on_err (IsRefusal old 1) result (refused_by (refusal result) share.refused)

  of_old : (v : ℕ) → Contains (variables old.conditions) v → Contains (variables mid.conditions) v
  of_old v = subst (λ k. Contains (variables k) v) (sym same)

  pub two_made : (op : Bool → Bool → Bool) (f g : Ref) → IsOf old f → IsOf old g → (new : StoreView) (result : Result Ref DdAnswer)
      → IfOk result (IsRefOf new.nodes (λ ts. op (test mid.store.nodes f ts) (test mid.store.nodes g ts)))
      → IfOk result (IsFor (after new) (λ ts. op (test old.store.nodes f ts) (test old.store.nodes g ts)))
  two_made op f g of_f of_g new result h =
      made (after new) (λ ts. op (test old.store.nodes f ts) (test old.store.nodes g ts))
      (λ v d. of_old v (elim (Depends-of_two op (test old.store.nodes f) (test old.store.nodes g) v d) [ inl a ↦ of_f.spans v a | inr b ↦ of_g.spans v b ]))
      result (subst (λ s. IfOk result (IsRefOf new.nodes (λ ts. op (test s.nodes f ts) (test s.nodes g ts)))) still h)

  pub ite_made : (f g h : Ref) → IsOf old f → IsOf old g → IsOf old h → (new : StoreView) (result : Result Ref DdAnswer)
      → IfOk result (IsRefOf new.nodes (λ ts. if test mid.store.nodes f ts then test mid.store.nodes g ts else test mid.store.nodes h ts))
      → IfOk result (IsFor (after new) (λ ts. if test old.store.nodes f ts then test old.store.nodes g ts else test old.store.nodes h ts))
  ite_made f g h of_f of_g of_h new result is =
      made (after new) (λ ts. if test old.store.nodes f ts then test old.store.nodes g ts else test old.store.nodes h ts)
      (λ v d. of_old v (elim (choice_depends (test old.store.nodes f) (test old.store.nodes g) (test old.store.nodes h) v d) [
        | inl a ↦ of_f.spans v a
        | inr rest ↦ elim rest [ inl b ↦ of_g.spans v b | inr e ↦ of_h.spans v e ]
      ]))
      result (subst (λ s. IfOk result (IsRefOf new.nodes (λ ts. if test s.nodes f ts then test s.nodes g ts else test s.nodes h ts))) still is)

  pub variable_made : (u : ℕ) → u < old.conditions → (new : StoreView) (result : Result Ref DdAnswer)
      → IfOk result (IsRefOf new.nodes (λ ts. truth_of ts u)) → IfOk result (IsFor (after new) (λ ts. truth_of ts u))
  variable_made u lt new result h =
      made (after new) (λ ts. truth_of ts u)
      (λ v d. of_old v (subst (Contains (variables old.conditions)) (sym (variable_depends u v d)) (is_variable old.conditions u lt)))
      result h

-- ---- what stays

pub of_kept : (n : ℕ) (old new : Diagrams) → Follows n old new → (r : Ref) → IsOf old r → IsOf new r
of_kept n old new follows r of = record {
  holds = Holds-kept old.store new.store follows.kept r of.holds;
  spans = subst (λ k. Spans new.store.nodes r (variables k)) (sym follows.conditions) (Spans-kept old.store new.store follows.kept r of.holds (variables old.conditions) of.spans);
}

pub test_kept : (n : ℕ) (old new : Diagrams) → Follows n old new → (r : Ref) → IsOf old r → Agree (test new.store.nodes r) (test old.store.nodes r)
test_kept n old new follows r of = Agree-kept old.store new.store follows.kept r of.holds

pub for_same : (d : Diagrams) (f g : List Bool → Bool) → Agree f g → (r : Ref) → IsFor d f r → IsFor d g r
for_same d f g same r is = record { is = record { holds = is.is.holds; function = λ ts. is.is.function ts ∙ same ts }; of = is.of }

pub for_kept : (n : ℕ) (old new : Diagrams) → Follows n old new → (f : List Bool → Bool) (r : Ref) → IsFor old f r → IsFor new f r
for_kept n old new follows f r is = record {
  is = record { holds = Holds-kept old.store new.store follows.kept r is.is.holds; function = λ ts. Agree-kept old.store new.store follows.kept r is.is.holds ts ∙ is.is.function ts };
  of = of_kept n old new follows r is.of;
}

-- what a choice by a condition is, once its variable is made
pub chosen : (n : ℕ) (old mid new : Diagrams) → Follows n old mid → (v : ℕ) (condition low high : Ref) → IsFor mid (λ ts. truth_of ts v) condition → IsOf old low → IsOf old high
    → (result : Result Ref DdAnswer)
    → IfOk result (IsFor new (λ ts. if test mid.store.nodes condition ts then test mid.store.nodes high ts else test mid.store.nodes low ts))
    → IfOk result (IsFor new (λ ts. if truth_of ts v then test old.store.nodes high ts else test old.store.nodes low ts))
chosen n old mid new follows v condition low high is of_low of_high result h =
    IfOk-weaker result _ _ (for_same new _ _ (λ ts.
    ap (λ b. if b then test mid.store.nodes high ts else test mid.store.nodes low ts) (is.is.function ts)
    ∙ ap (λ x. if truth_of ts v then x else test mid.store.nodes low ts) (test_kept n old mid follows high of_high ts)
    ∙ ap (λ x. if truth_of ts v then test old.store.nodes high ts else x) (test_kept n old mid follows low of_low ts))) h
